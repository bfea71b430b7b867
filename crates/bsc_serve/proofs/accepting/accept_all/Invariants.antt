use Rattle.std.proofs.Common.{◌≡◌, false, ◌≤◌}
use Rattle.std.specs.Prelude.{option_map}
use Rattle.std.specs.Arc.{arc_value}
use Rattle.bsc_turn.specs.Passes.{own_list, seen}
use Rattle.bsc_hub.specs.Passing.{IsCaller}
use Rattle.bsc_edge.specs.Told.{Stays}
use Rattle.bsc_session.specs.Jobs.{Worked, policy_of}
use Rattle.bsc_serve.specs.Asking.{Looked, asking_by}
use Rattle.bsc_serve.specs.Inner.{Taken}
use Rattle.bsc_serve.specs.Showing.{Shown}
use Rattle.bsc_serve.specs.Terms.{all_terms}
use Rattle.bsc_serve.proofs.accepting.accept_all.Given as goal

abbrev pub invariant-loop : goal.invariant-loop
invariant-loop g l =
    let A = g.A.Acceptor in
    let P = g.P.Spawner in
    let Q = g.Q.StopAsker in
    P.can_start l.parts.spawner
    × IsCaller (arc_value l.fn.served.hub.now) l.pass
    × Taken (Worked g.L.Link.talk g.L.Link.faults g.L.Link.notices g.C.Clock.readings g.N.Sink.held g.N.Sink.faults) g.J.Journals.begins g.L.Link.talk (arc_value l.fn.served.hub.now)
    (all_terms l.fn.served.terms (option_map (λ p. p.now) l.fn.served.prefix) (policy_of l.fn.served.policy.now))
    (record {
      pass = l.fn.pass;
      links = A.left l.fn.parts.acceptor;
      came = A.came l.fn.parts.acceptor;
      waits = A.waits l.fn.parts.acceptor;
      quiets = A.quiets l.fn.parts.acceptor;
      begun = g.J.Journals.calls l.fn.parts.journals;
      jobs = P.jobs l.fn.parts.spawner;
      given_back = P.ends l.fn.parts.spawner;
      out = P.out l.fn.parts.spawner;
      unstarted = P.faults l.fn.parts.spawner;
    })
    (record {
      pass = l.pass;
      links = A.left l.parts.acceptor;
      came = A.came l.parts.acceptor;
      waits = A.waits l.parts.acceptor;
      quiets = A.quiets l.parts.acceptor;
      begun = g.J.Journals.calls l.parts.journals;
      jobs = P.jobs l.parts.spawner;
      given_back = P.ends l.parts.spawner;
      out = P.out l.parts.spawner;
      unstarted = P.faults l.parts.spawner;
    }) l.tally
    × Looked (own_list l.fn.pass) (A.waits l.fn.parts.acceptor) (A.waits l.parts.acceptor) (asking_by Q.looks Q.asked Q.endings l.fn.asker) (asking_by Q.looks Q.asked Q.endings l.asker) false
    × (A.faults l.fn.parts.acceptor ≤ A.faults l.parts.acceptor)
    × Stays (A.bound l.fn.parts.acceptor) (A.bound l.parts.acceptor)
    × (g.J.Journals.faults l.fn.parts.journals ≤ g.J.Journals.faults l.parts.journals)
    × (g.J.Journals.lost l.parts.journals ≡ g.J.Journals.lost l.fn.parts.journals)
    × (g.J.Journals.limits l.parts.journals ≡ g.J.Journals.limits l.fn.parts.journals)
    × Shown (seen l.pass) (Q.statuses l.fn.asker) (Q.statuses l.asker)
    × ((goal.iterator-loop g).can_next l.iterator' × (goal.iterator-loop g).is_finite l.iterator')
