use Rattle.bsc_hub.specs.Passing.{IsCaller}
use Rattle.test_hub.proofs.hub.threads.receive.Given as goal

abbrev pub invariant-loop : goal.invariant-loop
invariant-loop g l = IsCaller l.hub l.pass
