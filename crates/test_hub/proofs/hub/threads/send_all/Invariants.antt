use Rattle.bsc_hub.specs.Passing.{IsCaller, IsOwnAs}
use Rattle.bsc_hub.specs.Testing.{vmac_at}
use Rattle.test_hub.proofs.hub.threads.send_all.Given as goal

abbrev pub invariant-loop-id : goal.invariant-loop-id
invariant-loop-id g l = IsCaller l.hub l.pass × IsOwnAs l.pass l.conn (vmac_at l.from)
