use Rattle.std.proofs.Common.{map}
use Rattle.bsc_node_run.specs.Scripts.{wish_of}
use Rattle.bsc_node_run.proofs.Behind.{asked_more, follows_ask, on_ok}
use Rattle.bsc_node_run.proofs.reading.Reading.ask.Goals as goal

pub returns-clause-taken : goal.returns-clause-taken
returns-clause-taken c = on_ok c.add.result c.add.ensures.added (λ more lines k.
    asked_more c.args.self.now.at c.is_finish-self.result c.args.self.now.lines.items c.add.new.lines.items _ lines c.args.event c.is_finish-self.ensures more
    (follows_ask c.args.self.now.at c.args.self.now.ended (map wish_of c.args.self.now.lines.items) lines c.args.event k c.if-self.false))
