use Rattle.std.proofs.Common.{◌≤◌}
use Rattle.bsc_edge.specs.Told.{Stays}
use Rattle.bsc_serve.specs.Inner.{GaveBack}
use Rattle.bsc_serve.proofs.taking_in.await_all.Given as goal

abbrev pub invariant-loop : goal.invariant-loop
invariant-loop g l =
    let P = g.P.Spawner in
    (P.can_start l.fn.spawner → P.can_start l.spawner)
    × Stays (P.jobs l.fn.spawner) (P.jobs l.spawner)
    × GaveBack (P.out l.fn.spawner) (P.out l.spawner) (P.ends l.fn.spawner) (P.ends l.spawner)
    × (P.faults l.fn.spawner ≤ P.faults l.spawner)
    × ((goal.iterator-loop g).can_next l.iterator' × (goal.iterator-loop g).is_finite l.iterator')
