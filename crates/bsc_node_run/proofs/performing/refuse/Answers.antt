use Rattle.bsc_node_run.specs.Worlds.{world_of}
use Rattle.bsc_node_run.proofs.Acting.{refuses_none, refuses_part, refuses_some}
use Rattle.bsc_node_run.proofs.performing.refuse.Goals as goal
use Rattle.std.proofs.lemmas.Result.{on_err_weaker as on_err, on_ok_weaker as on_ok}

pub returns-in-Some-clause-refuses : goal.returns-in-Some-clause-refuses
returns-in-Some-clause-refuses g c = on_ok c.close_link.result
    (λ k d h. refuses_some g.L.Link.talk c.args.closing (world_of c.args.set.now d h) (world_of c.take_arrived.new.self d h) (world_of c.close_link.new.set d h) c.in-Some.link
    c.in-Some.ensures.old (c.in-Some.ensures.new d h) (k d h))
    c.close_link.ensures.closes

pub returns-in-Some-clause-part : goal.returns-in-Some-clause-part
returns-in-Some-clause-part g c = on_err c.close_link.result
    (λ k d h. refuses_part g.L.Link.talk c.args.closing (world_of c.args.set.now d h) (world_of c.take_arrived.new.self d h) (world_of c.close_link.new.set d h) c.in-Some.link
    c.in-Some.ensures.old (c.in-Some.ensures.new d h) (k d h))
    c.close_link.ensures.part

pub returns-in-None-clause-refuses : goal.returns-in-None-clause-refuses
returns-in-None-clause-refuses g c d h = refuses_none g.L.Link.talk c.args.closing (world_of c.args.set.now d h) (world_of c.take_arrived.new.self d h) c.in-None.ensures.old
    (c.in-None.ensures.new d h)
