use Rattle.std.proofs.Common.{map}
use Rattle.bsc_node_run.specs.Scripts.{wish_of}
use Rattle.bsc_node_run.proofs.Behind.{follows_at}
use Rattle.bsc_node_run.proofs.reading.Reading.set_time.Goals as goal

pub returns-clause-taken : goal.returns-clause-taken
returns-clause-taken c = λ lines k. follows_at c.args.self.now.at c.args.self.now.ended (map wish_of c.args.self.now.lines.items) lines c.args.ms k c.if-self.false c.if-ms-self.false
