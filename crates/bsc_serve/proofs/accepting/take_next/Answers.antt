use Rattle.std.proofs.Common.{[], ◌∷◌, ◌≤◌, Ok, subst, sym}
use Rattle.std.specs.Prelude.{option_map}
use Rattle.std.specs.Arc.{arc_value}
use Rattle.bsc_edge.specs.declared.arrived.Arrived.{Arrived}
use Rattle.bsc_edge.specs.Told.{Grows, IsNoLink, Leaves, Stays, arrived_in}
use Rattle.bsc_serve.specs.declared.bounds.TheConstants.{WAIT_MS}
use Rattle.bsc_serve.specs.declared.halt.Halt.TheVariants.{AcceptFault, NoMemory}
use Rattle.bsc_session.specs.Jobs.{Worked, policy_of}
use Rattle.bsc_serve.specs.Inner.{Halted, Taken}
use Rattle.bsc_serve.specs.Terms.{all_terms}
use Rattle.bsc_serve.specs.Worlds.{ServeWorld}
use Rattle.bsc_serve.proofs.Arrivals.{came_link, leaves_link}
use Rattle.bsc_serve.proofs.Taking.{halted_cut, halted_now, taken_more, taken_still}
use Rattle.bsc_turn.specs.Passes.{seen}
use Rattle.bsc_turn.proofs.Beginnings.{starts_self}
use Rattle.bsc_serve.proofs.accepting.take_next.Goals as goal

pub returns-in-Ok-clause-taken : goal.returns-in-Ok-clause-taken
returns-in-Ok-clause-taken g c first t =
    let A = g.A.Acceptor in
    let P = g.P.Spawner in
    let W = Worked g.L.Link.talk g.L.Link.faults g.L.Link.notices g.C.Clock.readings g.N.Sink.held g.N.Sink.faults in
    let B = g.J.Journals.begins in
    let T = g.L.Link.talk in
    let terms = all_terms c.args.served.terms (option_map (λ p. p.now) c.args.served.prefix) (policy_of c.args.served.policy.now) in
    let before : ServeWorld g.row.L.Denot g.row.C.Denot g.row.N.Denot = record {
      pass = c.args.pass.now;
      links = A.left c.args.parts.now.acceptor;
      came = A.came c.args.parts.now.acceptor;
      waits = A.waits c.args.parts.now.acceptor;
      quiets = A.quiets c.args.parts.now.acceptor;
      begun = g.J.Journals.calls c.args.parts.now.journals;
      jobs = P.jobs c.args.parts.now.spawner;
      given_back = P.ends c.args.parts.now.spawner;
      out = P.out c.args.parts.now.spawner;
      unstarted = P.faults c.args.parts.now.spawner;
    } in
    let after : g.row.A.Denot → ServeWorld g.row.L.Denot g.row.C.Denot g.row.N.Denot =
    λ (a : g.row.A.Denot). record {
      pass = c.start_session.new.pass;
      links = A.left a;
      came = A.came a;
      waits = A.waits a;
      quiets = A.quiets a;
      begun = g.J.Journals.calls c.start_session.new.parts.journals;
      jobs = P.jobs c.start_session.new.parts.spawner;
      given_back = P.ends c.start_session.new.parts.spawner;
      out = P.out c.start_session.new.parts.spawner;
      unstarted = P.faults c.start_session.new.parts.spawner;
    } in
    subst (λ (a : g.row.A.Denot). Taken W B T (arc_value c.args.served.hub.now) terms first (after a) c.count.new.self) (sym c.start_session.ensures.acceptor)
    (taken_more W B T (arc_value c.args.served.hub.now) terms first before (after c.next.new.self) c.args.tally.now c.count.new.self c.in-Ok-Link.link c.in-Ok.started t
    (leaves_link (A.left c.args.parts.now.acceptor) (A.left c.next.new.self) c.in-Ok-Link.field-0 c.in-Ok-Link.link c.in-Ok-Link.field-0-is c.in-Ok-Link.ensures.left)
    (came_link (A.came c.args.parts.now.acceptor) (A.came c.next.new.self) c.in-Ok-Link.field-0 c.in-Ok-Link.link c.in-Ok-Link.field-0-is c.in-Ok-Link.ensures.came)
    c.in-Ok-Link.ensures.waits c.in-Ok-Link.ensures.quiets c.in-Ok.ensures.fares c.count.ensures.remains c.count.ensures.counted)

pub returns-in-Err-clause-taken : goal.returns-in-Err-clause-taken
returns-in-Err-clause-taken g c first t =
    let A = g.A.Acceptor in
    let P = g.P.Spawner in
    let W = Worked g.L.Link.talk g.L.Link.faults g.L.Link.notices g.C.Clock.readings g.N.Sink.held g.N.Sink.faults in
    let B = g.J.Journals.begins in
    let T = g.L.Link.talk in
    let terms = all_terms c.args.served.terms (option_map (λ p. p.now) c.args.served.prefix) (policy_of c.args.served.policy.now) in
    let before : ServeWorld g.row.L.Denot g.row.C.Denot g.row.N.Denot = record {
      pass = c.args.pass.now;
      links = A.left c.args.parts.now.acceptor;
      came = A.came c.args.parts.now.acceptor;
      waits = A.waits c.args.parts.now.acceptor;
      quiets = A.quiets c.args.parts.now.acceptor;
      begun = g.J.Journals.calls c.args.parts.now.journals;
      jobs = P.jobs c.args.parts.now.spawner;
      given_back = P.ends c.args.parts.now.spawner;
      out = P.out c.args.parts.now.spawner;
      unstarted = P.faults c.args.parts.now.spawner;
    } in
    let after : g.row.A.Denot → ServeWorld g.row.L.Denot g.row.C.Denot g.row.N.Denot =
    λ (a : g.row.A.Denot). record {
      pass = c.start_session.new.pass;
      links = A.left a;
      came = A.came a;
      waits = A.waits a;
      quiets = A.quiets a;
      begun = g.J.Journals.calls c.start_session.new.parts.journals;
      jobs = P.jobs c.start_session.new.parts.spawner;
      given_back = P.ends c.start_session.new.parts.spawner;
      out = P.out c.start_session.new.parts.spawner;
      unstarted = P.faults c.start_session.new.parts.spawner;
    } in
    subst (λ (a : g.row.A.Denot). Halted W B T (arc_value c.args.served.hub.now) terms first (after a) c.halt_of.result) (sym c.start_session.ensures.acceptor)
    (halted_cut W B T (arc_value c.args.served.hub.now) terms first before
    (after c.next.new.self) c.args.tally.now c.in-Ok-Link.link c.in-Err.fault c.halt_of.result c.halt_of.ensures.fault t c.requires.awaits
    (leaves_link (A.left c.args.parts.now.acceptor) (A.left c.next.new.self) c.in-Ok-Link.field-0 c.in-Ok-Link.link c.in-Ok-Link.field-0-is c.in-Ok-Link.ensures.left)
    (came_link (A.came c.args.parts.now.acceptor) (A.came c.next.new.self) c.in-Ok-Link.field-0 c.in-Ok-Link.link c.in-Ok-Link.field-0-is c.in-Ok-Link.ensures.came)
    c.in-Ok-Link.ensures.waits c.in-Ok-Link.ensures.quiets c.in-Err.ensures.fares)

pub returns-in-Ok-Quiet-clause-taken : goal.returns-in-Ok-Quiet-clause-taken
returns-in-Ok-Quiet-clause-taken g c first t =
    let A = g.A.Acceptor in
    let P = g.P.Spawner in
    let W = Worked g.L.Link.talk g.L.Link.faults g.L.Link.notices g.C.Clock.readings g.N.Sink.held g.N.Sink.faults in
    let B = g.J.Journals.begins in
    let T = g.L.Link.talk in
    let terms = all_terms c.args.served.terms (option_map (λ p. p.now) c.args.served.prefix) (policy_of c.args.served.policy.now) in
    let before : ServeWorld g.row.L.Denot g.row.C.Denot g.row.N.Denot = record {
      pass = c.args.pass.now;
      links = A.left c.args.parts.now.acceptor;
      came = A.came c.args.parts.now.acceptor;
      waits = A.waits c.args.parts.now.acceptor;
      quiets = A.quiets c.args.parts.now.acceptor;
      begun = g.J.Journals.calls c.args.parts.now.journals;
      jobs = P.jobs c.args.parts.now.spawner;
      given_back = P.ends c.args.parts.now.spawner;
      out = P.out c.args.parts.now.spawner;
      unstarted = P.faults c.args.parts.now.spawner;
    } in
    taken_still W B T (arc_value c.args.served.hub.now) terms first before (A.left c.next.new.self) (A.came c.next.new.self) (A.waits c.next.new.self) (A.quiets c.next.new.self) c.args.tally.now t
    (subst (λ (u : Arrived g.row.L.Denot). Leaves (A.left c.args.parts.now.acceptor) (A.left c.next.new.self) (Ok u)) c.in-Ok-Quiet.field-0-is c.in-Ok-Quiet.ensures.left)
    (subst (λ (u : Arrived g.row.L.Denot). Grows (A.came c.args.parts.now.acceptor) (A.came c.next.new.self) (arrived_in (Ok u))) c.in-Ok-Quiet.field-0-is c.in-Ok-Quiet.ensures.came)
    c.in-Ok-Quiet.ensures.waits
    (c.in-Ok-Quiet.ensures.quiet (subst (λ (u : Arrived g.row.L.Denot). IsNoLink (Ok u)) (sym c.in-Ok-Quiet.field-0-is) tt))

pub returns-in-Err-Failed-clause-taken : goal.returns-in-Err-Failed-clause-taken
returns-in-Err-Failed-clause-taken g c first t =
    let A = g.A.Acceptor in
    let P = g.P.Spawner in
    let W = Worked g.L.Link.talk g.L.Link.faults g.L.Link.notices g.C.Clock.readings g.N.Sink.held g.N.Sink.faults in
    let B = g.J.Journals.begins in
    let T = g.L.Link.talk in
    let terms = all_terms c.args.served.terms (option_map (λ p. p.now) c.args.served.prefix) (policy_of c.args.served.policy.now) in
    let before : ServeWorld g.row.L.Denot g.row.C.Denot g.row.N.Denot = record {
      pass = c.args.pass.now;
      links = A.left c.args.parts.now.acceptor;
      came = A.came c.args.parts.now.acceptor;
      waits = A.waits c.args.parts.now.acceptor;
      quiets = A.quiets c.args.parts.now.acceptor;
      begun = g.J.Journals.calls c.args.parts.now.journals;
      jobs = P.jobs c.args.parts.now.spawner;
      given_back = P.ends c.args.parts.now.spawner;
      out = P.out c.args.parts.now.spawner;
      unstarted = P.faults c.args.parts.now.spawner;
    } in
    halted_now W B T (arc_value c.args.served.hub.now) terms first before (A.left c.next.new.self) (A.came c.next.new.self) (A.waits c.next.new.self) (A.quiets c.next.new.self) c.args.tally.now
    c.in-Err-Failed.field-0 AcceptFault (λ e. cc) t c.in-Err-Failed.ensures.left c.in-Err-Failed.ensures.came c.in-Err-Failed.ensures.waits c.in-Err-Failed.ensures.quiets

pub returns-in-Err-NoMemory-clause-taken : goal.returns-in-Err-NoMemory-clause-taken
returns-in-Err-NoMemory-clause-taken g c first t =
    let A = g.A.Acceptor in
    let P = g.P.Spawner in
    let W = Worked g.L.Link.talk g.L.Link.faults g.L.Link.notices g.C.Clock.readings g.N.Sink.held g.N.Sink.faults in
    let B = g.J.Journals.begins in
    let T = g.L.Link.talk in
    let terms = all_terms c.args.served.terms (option_map (λ p. p.now) c.args.served.prefix) (policy_of c.args.served.policy.now) in
    let before : ServeWorld g.row.L.Denot g.row.C.Denot g.row.N.Denot = record {
      pass = c.args.pass.now;
      links = A.left c.args.parts.now.acceptor;
      came = A.came c.args.parts.now.acceptor;
      waits = A.waits c.args.parts.now.acceptor;
      quiets = A.quiets c.args.parts.now.acceptor;
      begun = g.J.Journals.calls c.args.parts.now.journals;
      jobs = P.jobs c.args.parts.now.spawner;
      given_back = P.ends c.args.parts.now.spawner;
      out = P.out c.args.parts.now.spawner;
      unstarted = P.faults c.args.parts.now.spawner;
    } in
    halted_now W B T (arc_value c.args.served.hub.now) terms first before (A.left c.next.new.self) (A.came c.next.new.self) (A.waits c.next.new.self) (A.quiets c.next.new.self) c.args.tally.now
    c.in-Err-NoMemory.field-0 NoMemory (λ e. cc) t c.in-Err-NoMemory.ensures.left c.in-Err-NoMemory.ensures.came c.in-Err-NoMemory.ensures.waits c.in-Err-NoMemory.ensures.quiets

-- ---- the acceptor is as it was when the link left it

pub returns-in-Ok-clause-bound : goal.returns-in-Ok-clause-bound
returns-in-Ok-clause-bound g c =
    let A = g.A.Acceptor in
    subst (λ (a : g.row.A.Denot). Stays (A.bound c.args.parts.now.acceptor) (A.bound a)) (sym c.start_session.ensures.acceptor) c.in-Ok-Link.ensures.bound

pub returns-in-Ok-clause-later : goal.returns-in-Ok-clause-later
returns-in-Ok-clause-later g c =
    let A = g.A.Acceptor in
    subst (λ (a : g.row.A.Denot). A.faults c.args.parts.now.acceptor ≤ A.faults a) (sym c.start_session.ensures.acceptor) c.in-Ok-Link.ensures.later

pub returns-in-Err-clause-bound : goal.returns-in-Err-clause-bound
returns-in-Err-clause-bound g c =
    let A = g.A.Acceptor in
    subst (λ (a : g.row.A.Denot). Stays (A.bound c.args.parts.now.acceptor) (A.bound a)) (sym c.start_session.ensures.acceptor) c.in-Ok-Link.ensures.bound

pub returns-in-Err-clause-later : goal.returns-in-Err-clause-later
returns-in-Err-clause-later g c =
    let A = g.A.Acceptor in
    subst (λ (a : g.row.A.Denot). A.faults c.args.parts.now.acceptor ≤ A.faults a) (sym c.start_session.ensures.acceptor) c.in-Ok-Link.ensures.later

pub returns-in-Ok-clause-asked : goal.returns-in-Ok-clause-asked
returns-in-Ok-clause-asked g c =
    let A = g.A.Acceptor in
    subst (λ (a : g.row.A.Denot). Grows (A.waits c.args.parts.now.acceptor) (A.waits a) (WAIT_MS ∷ [])) (sym c.start_session.ensures.acceptor) c.in-Ok-Link.ensures.waits

pub returns-in-Err-clause-asked : goal.returns-in-Err-clause-asked
returns-in-Err-clause-asked g c =
    let A = g.A.Acceptor in
    subst (λ (a : g.row.A.Denot). Grows (A.waits c.args.parts.now.acceptor) (A.waits a) (WAIT_MS ∷ [])) (sym c.start_session.ensures.acceptor) c.in-Ok-Link.ensures.waits

-- ---- the own pass has seen all that it had

pub returns-in-Ok-clause-grows : goal.returns-in-Ok-clause-grows
returns-in-Ok-clause-grows g c = c.in-Ok.ensures.fares.went.grows

pub returns-in-Err-clause-grows : goal.returns-in-Err-clause-grows
returns-in-Err-clause-grows g c = c.in-Err.ensures.fares.went.grows

pub returns-in-Ok-Quiet-clause-grows : goal.returns-in-Ok-Quiet-clause-grows
returns-in-Ok-Quiet-clause-grows g c = starts_self (seen c.args.pass.now)

pub returns-in-Err-Failed-clause-grows : goal.returns-in-Err-Failed-clause-grows
returns-in-Err-Failed-clause-grows g c = starts_self (seen c.args.pass.now)

pub returns-in-Err-NoMemory-clause-grows : goal.returns-in-Err-NoMemory-clause-grows
returns-in-Err-NoMemory-clause-grows g c = starts_self (seen c.args.pass.now)
