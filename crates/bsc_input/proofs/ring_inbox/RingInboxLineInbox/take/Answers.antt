use Rattle.bsc_input.proofs.Given.{gave_more}
use Rattle.bsc_input.proofs.ring_inbox.RingInboxLineInbox.take.Goals as goal

pub invariant_of-self : goal.invariant_of-self
invariant_of-self c = record {
  gave = gave_more c.args.self.now.outlet c.take.result c.take.new.self c.args.self.now.taken.items c.add.new.self.items
      c.taken_of-taken.result.0 c.taken_of-taken.result.1 c.take.ensures.took c.taken_of-taken.ensures c.args.self.now.gave c.add.ensures;
}
