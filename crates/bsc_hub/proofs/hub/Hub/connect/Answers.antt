use Rattle.bsc_hub.proofs.Joinings.{joined_marked, joined_owns}
use Rattle.bsc_hub.proofs.hub.Hub.connect.Goals as goal

pub returns-in-Ok-clause-owns : goal.returns-in-Ok-clause-owns
returns-in-Ok-clause-owns g c = joined_owns c.args.self.now c.args.pass.now c.connect_with.new.pass c.args.who c.connect_with.result c.connect_with.ensures.pass

pub returns-in-Ok-clause-mark : goal.returns-in-Ok-clause-mark
returns-in-Ok-clause-mark g c = joined_marked c.args.self.now c.args.pass.now c.connect_with.new.pass c.args.who c.connect_with.result c.connect_with.ensures.pass
