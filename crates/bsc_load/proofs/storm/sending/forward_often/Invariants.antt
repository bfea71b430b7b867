use Rattle.bsc_load.specs.Storm.Inner.{Sent}
use Rattle.bsc_load.proofs.storm.sending.forward_often.Given as goal

abbrev pub invariant-loop-id : goal.invariant-loop-id
invariant-loop-id g l = Sent l.hub l.conn l.id l.fn.pass l.pass
