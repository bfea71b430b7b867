use Rattle.bsc_hub.specs.Passing.{IsCaller}
use Rattle.bsc_session.specs.Jobs.{Worked}
use Rattle.bsc_serve.specs.Inner.{AllOurs, GoesOn, TakesIn}
use Rattle.bsc_serve.proofs.taking_in.take_ended.Given as goal

abbrev pub invariant-loop : goal.invariant-loop
invariant-loop g l =
    let P = g.P.Spawner in
    (P.can_start l.fn.spawner → P.can_start l.spawner)
    × IsCaller l.fn.hub l.pass
    × AllOurs l.fn.hub (P.out l.spawner)
    × GoesOn (Worked g.L.Link.talk g.L.Link.faults g.L.Link.notices g.C.Clock.readings g.N.Sink.held g.N.Sink.faults) g.J.Journals.begins g.L.Link.talk l.fn.hub l.fn.pass
    (record { jobs = P.jobs l.fn.spawner; given_back = P.ends l.fn.spawner; out = P.out l.fn.spawner; unstarted = P.faults l.fn.spawner }) l.pass
    (record { jobs = P.jobs l.spawner; given_back = P.ends l.spawner; out = P.out l.spawner; unstarted = P.faults l.spawner })
    × TakesIn (Worked g.L.Link.talk g.L.Link.faults g.L.Link.notices g.C.Clock.readings g.N.Sink.held g.N.Sink.faults) l.fn.hub l.fn.pass
    (record { jobs = P.jobs l.fn.spawner; given_back = P.ends l.fn.spawner; out = P.out l.fn.spawner; unstarted = P.faults l.fn.spawner }) l.pass
    (record { jobs = P.jobs l.spawner; given_back = P.ends l.spawner; out = P.out l.spawner; unstarted = P.faults l.spawner })
    × ((goal.iterator-loop g).can_next l.iterator' × (goal.iterator-loop g).is_finite l.iterator')
