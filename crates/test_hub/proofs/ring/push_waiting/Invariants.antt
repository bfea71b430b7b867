use Rattle.std.proofs.Common.{◌≡◌, None}
use Rattle.bsc_ring.specs.Ends.{pushed, ending_of, inlet_mark}
use Rattle.test_hub.proofs.ring.push_waiting.Given as goal

abbrev pub invariant-loop : goal.invariant-loop
invariant-loop g l =
    (goal.iterator-loop g).can_next l.iterator' × (goal.iterator-loop g).is_finite l.iterator' × (inlet_mark l.inlet ≡ inlet_mark l.fn.inlet) × (ending_of l.inlet ≡ None)
    × (pushed l.inlet ≡ pushed l.fn.inlet) × (l.frame ≡ l.fn.frame)
