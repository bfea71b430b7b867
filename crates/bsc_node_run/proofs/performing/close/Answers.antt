use Rattle.bsc_node_run.specs.Worlds.{world_of}
use Rattle.bsc_node_run.proofs.Acting.{closes_none, closes_part, closes_some}
use Rattle.bsc_node_run.proofs.performing.close.Goals as goal
use Rattle.std.proofs.lemmas.Result.{on_err_weaker as on_err, on_ok_weaker as on_ok}

pub returns-in-Some-clause-closes : goal.returns-in-Some-clause-closes
returns-in-Some-clause-closes g c = on_ok c.close_link.result
    (λ k d h. closes_some g.L.Link.talk c.args.name c.args.closing (world_of c.args.set.now d h) (world_of c.forget.new.self d h) (world_of c.replace.new.self d h)
    (world_of c.close_link.new.set d h) c.in-Some.link
    (c.forget.ensures d h) c.in-Some.ensures.old (c.in-Some.ensures.new d h) (k d h))
    c.close_link.ensures.closes

pub returns-in-Some-clause-part : goal.returns-in-Some-clause-part
returns-in-Some-clause-part g c = on_err c.close_link.result
    (λ k d h. closes_part g.L.Link.talk c.args.name c.args.closing (world_of c.args.set.now d h) (world_of c.forget.new.self d h) (world_of c.replace.new.self d h)
    (world_of c.close_link.new.set d h) c.in-Some.link
    (c.forget.ensures d h) c.in-Some.ensures.old (c.in-Some.ensures.new d h) (k d h))
    c.close_link.ensures.part

pub returns-in-None-clause-closes : goal.returns-in-None-clause-closes
returns-in-None-clause-closes g c d h = closes_none g.L.Link.talk c.args.name c.args.closing (world_of c.args.set.now d h) (world_of c.forget.new.self d h) (world_of c.replace.new.self d h)
    (c.forget.ensures d h) c.in-None.ensures.old (c.in-None.ensures.new d h)
