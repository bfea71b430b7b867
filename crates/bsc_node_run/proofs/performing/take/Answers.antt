use Rattle.bsc_node_run.specs.Worlds.{world_of}
use Rattle.bsc_node_run.proofs.Acting.{takes_none, takes_some}
use Rattle.bsc_node_run.proofs.performing.take.Goals as goal

pub returns-in-Some : goal.returns-in-Some
returns-in-Some g c d h = takes_some c.args.name (world_of c.args.set.now d h) (world_of c.take_arrived.new.self d h) (world_of c.replace.new.self d h) c.in-Some.link
    c.in-Some.ensures.old (c.in-Some.ensures.new d h) (c.replace.ensures.new d h)

pub returns-in-None : goal.returns-in-None
returns-in-None g c d h = takes_none c.args.name (world_of c.args.set.now d h) (world_of c.take_arrived.new.self d h) c.in-None.ensures.old (c.in-None.ensures.new d h)
