use Rattle.bsc_hub.specs.Passing.{IsCaller, IsOwnAs}
use Rattle.bsc_hub.specs.Testing.{vmac_at}
use Rattle.test_hub.proofs.hub.threads.insist.Given as goal

abbrev pub invariant-loop : goal.invariant-loop
invariant-loop g l =
    (goal.iterator-loop g).can_next l.iterator' × (goal.iterator-loop g).is_finite l.iterator' × IsCaller l.hub l.pass × IsOwnAs l.pass l.conn (vmac_at l.from)
