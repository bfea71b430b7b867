use Rattle.std.proofs.Common.{map, refl}
use Rattle.bsc_node_run.specs.Scripts.{wish_of}
use Rattle.bsc_node_run.proofs.Behind.{kept_nothing}
use Rattle.bsc_node_run.proofs.reading.Reading.take_in.Goals as goal

pub returns-in-Nothing-clause-taken : goal.returns-in-Nothing-clause-taken
returns-in-Nothing-clause-taken c = λ lines k. rw c.in-Nothing.is (refl, kept_nothing c.args.self.now.at c.args.self.now.ended (map wish_of c.args.self.now.lines.items) lines k)
