use Rattle.std.proofs.Common.{◌≡◌, inl, inr, Some}
use Rattle.bsc_node_run.specs.declared.news.Change.TheVariants.{Lost}
use Rattle.bsc_node_run.specs.Stopping.{IsOut}
use Rattle.bsc_node_run.specs.Worlds.{Undergoes, ends, link_in, world_of, with_news}
use Rattle.bsc_node_run.proofs.Worlds.{same_then, on_news}
use Rattle.bsc_node_run.proofs.Stops.{at_err}
use Rattle.bsc_node_run.proofs.performing.lose.Goals as goal
use Rattle.std.proofs.lemmas.Result.{on_err_weaker as on_err, on_ok_weaker as on_ok}

pub returns-clause-lost : goal.returns-clause-lost
returns-clause-lost g c = on_ok c.note.result
    (λ k l e d h. same_then (world_of c.note.new.self d h) (with_news c.args.name Lost (world_of c.take_out.new.self d h))
    (with_news c.args.name Lost (ends c.args.name l (world_of c.args.set.now d h)))
    (k d h) (on_news (world_of c.take_out.new.self d h) (ends c.args.name l (world_of c.args.set.now d h)) c.args.name Lost (c.in_ok-take_out.ensures.over l e d h)))
    c.note.ensures.news

pub returns-clause-part : goal.returns-clause-part
returns-clause-part g c = on_err c.note.result
    (λ k l e d h. inl (same_then (world_of c.note.new.self d h) (world_of c.take_out.new.self d h) (ends c.args.name l (world_of c.args.set.now d h)) (k d h) (c.in_ok-take_out.ensures.over l e d h)))
    c.note.ensures.missed

pub returns-in_err-take_out-clause-part : goal.returns-in_err-take_out-clause-part
returns-in_err-take_out-clause-part g c =
    at_err {P = (l : _) → link_in c.args.set.now c.args.name ≡ Some l → Undergoes (IsOut c.args.name l) c.args.set.now c.take_out.new.self} _
    (λ l e d h. inr (c.in_err-take_out.ensures.dropped d h))
