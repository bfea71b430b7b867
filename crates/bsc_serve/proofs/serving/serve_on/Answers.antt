use Rattle.std.proofs.Common.{inr, ℕ, true, false, List, [], Option, None, Some, ap, refl, subst, sym, ◌∙◌}
use Rattle.std.specs.Prelude.{option_map}
use Rattle.std.specs.Arc.{arc_value}
use Rattle.bsc_outside.specs.Faults.{HasRisen}
use Rattle.bsc_turn.specs.Passes.{own_list, seen}
use Rattle.bsc_turn.proofs.Beginnings.{starts_self}
use Rattle.bsc_hub.specs.declared.hub.Hub.{Hub}
use Rattle.bsc_hub.specs.Passing.{Passed}
use Rattle.bsc_hub.proofs.Following.{starts_then}
use Rattle.bsc_edge.specs.Told.{Stays}
use Rattle.bsc_session.specs.Jobs.{Worked, policy_of}
use Rattle.bsc_serve.specs.declared.accepted.Accepted.TheVariants.{Halted as HaltedBy}
use Rattle.bsc_serve.specs.declared.end.ServeEnd.{ServeEnd}
use Rattle.bsc_serve.specs.declared.tally.Tally.{Tally}
use Rattle.bsc_serve.specs.Asking.{Asking, EndsAsked, EndsUnasked, Looked, asking_by}
use Rattle.bsc_serve.specs.Inner.{GoesOn, Stopped, StopsFirst, asked_end, world_of}
use Rattle.bsc_serve.specs.Serving.{Serving}
use Rattle.bsc_serve.specs.Terms.{all_terms}
use Rattle.bsc_serve.specs.Waking.{LastIs, stop_place}
use Rattle.bsc_serve.specs.Worlds.{ServeWorld, Stock, served_world}
use Rattle.bsc_serve.proofs.Ending.{asked_lost, asked_served, asked_so, halt_failed, halt_lost, halt_unasked, serves_after, serves_asked, serves_halted, serves_whole, whole_lost}
use Rattle.bsc_serve.proofs.Ending.{whole_served, whole_unasked}
use Rattle.bsc_serve.proofs.Shown.{goes_seen, shown_later, shown_then}
use Rattle.bsc_serve.proofs.Waking.{last_told, stands_at}
use Rattle.bsc_serve.proofs.serving.serve_on.Goals as goal

pub returns-in-All-clause-serving : goal.returns-in-All-clause-serving
returns-in-All-clause-serving g c =
    let A = g.A.Acceptor in
    let P = g.P.Spawner in
    let W = Worked g.L.Link.talk g.L.Link.faults g.L.Link.notices g.C.Clock.readings g.N.Sink.held g.N.Sink.faults in
    let B = g.J.Journals.begins in
    let T = g.L.Link.talk in
    let h = arc_value c.args.served.hub.now in
    let terms = all_terms c.args.served.terms (option_map (λ p. p.now) c.args.served.prefix) (policy_of c.args.served.policy.now) in
    let own = g.N.Sink.held c.args.own.now in
    let own' = g.N.Sink.held c.finish-stopped.new.own in
    let before : ServeWorld g.row.L.Denot g.row.C.Denot g.row.N.Denot = record {
      pass = c.args.pass.now;
      links = A.left c.args.parts.now.acceptor;
      came = A.came c.args.parts.now.acceptor;
      waits = A.waits c.args.parts.now.acceptor;
      quiets = A.quiets c.args.parts.now.acceptor;
      begun = g.J.Journals.calls c.args.parts.now.journals;
      jobs = P.jobs c.args.parts.now.spawner;
      given_back = P.ends c.args.parts.now.spawner;
      out = P.out c.args.parts.now.spawner;
      unstarted = P.faults c.args.parts.now.spawner;
    } in
    let none_out : Stock g.row.L.Denot g.row.C.Denot g.row.N.Denot = record {
      jobs = P.jobs c.await_all.new.spawner;
      given_back = P.ends c.await_all.new.spawner;
      out = P.out c.await_all.new.spawner;
      unstarted = P.faults c.await_all.new.spawner;
    } in
    let all_came : Stock g.row.L.Denot g.row.C.Denot g.row.N.Denot = record {
      jobs = P.jobs c.accept_all.new.parts.spawner;
      given_back = P.ends c.accept_all.new.parts.spawner;
      out = P.out c.accept_all.new.parts.spawner;
      unstarted = P.faults c.accept_all.new.parts.spawner;
    } in
    let all_ended : Stock g.row.L.Denot g.row.C.Denot g.row.N.Denot = record {
      jobs = P.jobs c.take_ended.new.spawner;
      given_back = P.ends c.take_ended.new.spawner;
      out = P.out c.take_ended.new.spawner;
      unstarted = P.faults c.take_ended.new.spawner;
    } in
    let beside : ServeWorld g.row.L.Denot g.row.C.Denot g.row.N.Denot = record {
      pass = c.accept_all.new.pass;
      links = A.left c.accept_all.new.parts.acceptor;
      came = A.came c.accept_all.new.parts.acceptor;
      waits = A.waits c.accept_all.new.parts.acceptor;
      quiets = A.quiets c.accept_all.new.parts.acceptor;
      begun = g.J.Journals.calls c.accept_all.new.parts.journals;
      jobs = P.jobs c.accept_all.new.parts.spawner;
      given_back = P.ends c.accept_all.new.parts.spawner;
      out = P.out c.accept_all.new.parts.spawner;
      unstarted = P.faults c.accept_all.new.parts.spawner;
    } in
    let first : ServeWorld g.row.L.Denot g.row.C.Denot g.row.N.Denot = world_of before.pass none_out before in
    let m : ServeWorld g.row.L.Denot g.row.C.Denot g.row.N.Denot = world_of c.show.new.pass all_ended beside in
    let after : ServeWorld g.row.L.Denot g.row.C.Denot g.row.N.Denot = world_of c.finish-stopped.new.pass all_ended beside in
    let goes : GoesOn W B T h c.accept_all.new.pass all_came c.take_ended.new.pass all_ended =
    subst (λ (y : Hub). GoesOn W B T y c.accept_all.new.pass all_came c.take_ended.new.pass all_ended) c.deref.ensures c.take_ended.ensures.goes_on in
    let sees : Passed h c.take_ended.new.pass [] None c.show.new.pass =
    subst (λ (y : Hub). Passed y c.take_ended.new.pass [] None c.show.new.pass) c.deref-in-All.ensures c.show.ensures.passed in
    let seen_so = goes_seen W B T h c.take_ended.new.pass c.show.new.pass all_ended sees c.show.ensures.loaded in
    let tally : Tally = record { remaining = Some 0; unstarted = c.in-All.unstarted } in
    let taken = seen_so terms first (world_of c.take_ended.new.pass all_ended beside) tally (goes terms first beside tally c.in-All.ensures.accepts) in
    let stopped : Stopped h c.show.new.pass c.finish-stopped.new.pass c.finish-stopped.result.answer =
    subst (λ (y : Hub). Stopped y c.show.new.pass c.finish-stopped.new.pass c.finish-stopped.result.answer) c.deref-in-All-2.ensures c.finish-stopped.ensures.stopped in
    rw (c.wake_all.ensures.left, c.wake_all.ensures.came, c.wake_all.ensures.waits, c.wake_all.ensures.quiets)
    (subst (λ (e : ServeEnd). Serving W B T terms (served_world h own before) (served_world h own' after) e) (sym c.done.ensures)
    (serves_after W B T h terms before after none_out own own' _ c.await_all.ensures.jobs c.await_all.ensures.gave c.await_all.ensures.later
    (serves_whole W B T h terms first m c.finish-stopped.new.pass c.in-All.unstarted c.finish-stopped.result.answer c.finish-stopped.result.lost own own' c.accept_all.ensures.fits
    c.await_all.ensures.none taken
    (c.take_ended.ensures.none refl) stopped c.finish-stopped.ensures.records c.finish-stopped.ensures.has_line)))

pub returns-in-Asked-clause-serving : goal.returns-in-Asked-clause-serving
returns-in-Asked-clause-serving g c =
    let A = g.A.Acceptor in
    let P = g.P.Spawner in
    let W = Worked g.L.Link.talk g.L.Link.faults g.L.Link.notices g.C.Clock.readings g.N.Sink.held g.N.Sink.faults in
    let B = g.J.Journals.begins in
    let T = g.L.Link.talk in
    let h = arc_value c.args.served.hub.now in
    let terms = all_terms c.args.served.terms (option_map (λ p. p.now) c.args.served.prefix) (policy_of c.args.served.policy.now) in
    let own = g.N.Sink.held c.args.own.now in
    let own' = g.N.Sink.held c.stop_first-asked.new.own in
    let before : ServeWorld g.row.L.Denot g.row.C.Denot g.row.N.Denot = record {
      pass = c.args.pass.now;
      links = A.left c.args.parts.now.acceptor;
      came = A.came c.args.parts.now.acceptor;
      waits = A.waits c.args.parts.now.acceptor;
      quiets = A.quiets c.args.parts.now.acceptor;
      begun = g.J.Journals.calls c.args.parts.now.journals;
      jobs = P.jobs c.args.parts.now.spawner;
      given_back = P.ends c.args.parts.now.spawner;
      out = P.out c.args.parts.now.spawner;
      unstarted = P.faults c.args.parts.now.spawner;
    } in
    let none_out : Stock g.row.L.Denot g.row.C.Denot g.row.N.Denot = record {
      jobs = P.jobs c.await_all.new.spawner;
      given_back = P.ends c.await_all.new.spawner;
      out = P.out c.await_all.new.spawner;
      unstarted = P.faults c.await_all.new.spawner;
    } in
    let at_halt : Stock g.row.L.Denot g.row.C.Denot g.row.N.Denot = record {
      jobs = P.jobs c.accept_all.new.parts.spawner;
      given_back = P.ends c.accept_all.new.parts.spawner;
      out = P.out c.accept_all.new.parts.spawner;
      unstarted = P.faults c.accept_all.new.parts.spawner;
    } in
    let all_ended : Stock g.row.L.Denot g.row.C.Denot g.row.N.Denot = record {
      jobs = P.jobs c.stop_first-asked.new.parts.spawner;
      given_back = P.ends c.stop_first-asked.new.parts.spawner;
      out = P.out c.stop_first-asked.new.parts.spawner;
      unstarted = P.faults c.stop_first-asked.new.parts.spawner;
    } in
    let beside : ServeWorld g.row.L.Denot g.row.C.Denot g.row.N.Denot = record {
      pass = c.accept_all.new.pass;
      links = A.left c.accept_all.new.parts.acceptor;
      came = A.came c.accept_all.new.parts.acceptor;
      waits = A.waits c.accept_all.new.parts.acceptor;
      quiets = A.quiets c.accept_all.new.parts.acceptor;
      begun = g.J.Journals.calls c.accept_all.new.parts.journals;
      jobs = P.jobs c.accept_all.new.parts.spawner;
      given_back = P.ends c.accept_all.new.parts.spawner;
      out = P.out c.accept_all.new.parts.spawner;
      unstarted = P.faults c.accept_all.new.parts.spawner;
    } in
    let first : ServeWorld g.row.L.Denot g.row.C.Denot g.row.N.Denot = world_of before.pass none_out before in
    let m : ServeWorld g.row.L.Denot g.row.C.Denot g.row.N.Denot = world_of c.accept_all.new.pass at_halt beside in
    let after : ServeWorld g.row.L.Denot g.row.C.Denot g.row.N.Denot = world_of c.stop_first-asked.new.pass all_ended beside in
    let s : StopsFirst W h c.accept_all.new.pass at_halt c.stop_first-asked.new.pass all_ended c.stop_first-asked.result.answer = c.stop_first-asked.ensures.stops in
    let a = c.in-Asked.ensures.accepts in
    rw (c.stop_first-asked.ensures.left, c.stop_first-asked.ensures.came, c.stop_first-asked.ensures.waits, c.stop_first-asked.ensures.quiets, c.stop_first-asked.ensures.journals)
    (subst (λ (e : ServeEnd). Serving W B T terms (served_world h own before) (served_world h own' after) e) (sym c.asked_end.ensures)
    (serves_after W B T h terms before after none_out own own' _ c.await_all.ensures.jobs c.await_all.ensures.gave c.await_all.ensures.later
    (subst (λ (u : ℕ). Serving W B T terms (served_world h own first) (served_world h own' after) (asked_end u c.stop_first-asked.result.answer c.stop_first-asked.result.lost)) a.1
    (serves_asked W B T h terms first m s.at_stop c.stop_first-asked.new.pass all_ended a.0 c.stop_first-asked.result.answer c.stop_first-asked.result.lost own own' c.await_all.ensures.none
    a.2 s.stopped
    s.ended c.stop_first-asked.ensures.none c.stop_first-asked.ensures.records c.stop_first-asked.ensures.has_line))))

pub returns-in-Halted-clause-serving : goal.returns-in-Halted-clause-serving
returns-in-Halted-clause-serving g c =
    let A = g.A.Acceptor in
    let P = g.P.Spawner in
    let W = Worked g.L.Link.talk g.L.Link.faults g.L.Link.notices g.C.Clock.readings g.N.Sink.held g.N.Sink.faults in
    let B = g.J.Journals.begins in
    let T = g.L.Link.talk in
    let h = arc_value c.args.served.hub.now in
    let terms = all_terms c.args.served.terms (option_map (λ p. p.now) c.args.served.prefix) (policy_of c.args.served.policy.now) in
    let own = g.N.Sink.held c.args.own.now in
    let own' = g.N.Sink.held c.stop_first-told.new.own in
    let before : ServeWorld g.row.L.Denot g.row.C.Denot g.row.N.Denot = record {
      pass = c.args.pass.now;
      links = A.left c.args.parts.now.acceptor;
      came = A.came c.args.parts.now.acceptor;
      waits = A.waits c.args.parts.now.acceptor;
      quiets = A.quiets c.args.parts.now.acceptor;
      begun = g.J.Journals.calls c.args.parts.now.journals;
      jobs = P.jobs c.args.parts.now.spawner;
      given_back = P.ends c.args.parts.now.spawner;
      out = P.out c.args.parts.now.spawner;
      unstarted = P.faults c.args.parts.now.spawner;
    } in
    let none_out : Stock g.row.L.Denot g.row.C.Denot g.row.N.Denot = record {
      jobs = P.jobs c.await_all.new.spawner;
      given_back = P.ends c.await_all.new.spawner;
      out = P.out c.await_all.new.spawner;
      unstarted = P.faults c.await_all.new.spawner;
    } in
    let at_halt : Stock g.row.L.Denot g.row.C.Denot g.row.N.Denot = record {
      jobs = P.jobs c.accept_all.new.parts.spawner;
      given_back = P.ends c.accept_all.new.parts.spawner;
      out = P.out c.accept_all.new.parts.spawner;
      unstarted = P.faults c.accept_all.new.parts.spawner;
    } in
    let all_ended : Stock g.row.L.Denot g.row.C.Denot g.row.N.Denot = record {
      jobs = P.jobs c.stop_first-told.new.parts.spawner;
      given_back = P.ends c.stop_first-told.new.parts.spawner;
      out = P.out c.stop_first-told.new.parts.spawner;
      unstarted = P.faults c.stop_first-told.new.parts.spawner;
    } in
    let beside : ServeWorld g.row.L.Denot g.row.C.Denot g.row.N.Denot = record {
      pass = c.accept_all.new.pass;
      links = A.left c.accept_all.new.parts.acceptor;
      came = A.came c.accept_all.new.parts.acceptor;
      waits = A.waits c.accept_all.new.parts.acceptor;
      quiets = A.quiets c.accept_all.new.parts.acceptor;
      begun = g.J.Journals.calls c.accept_all.new.parts.journals;
      jobs = P.jobs c.accept_all.new.parts.spawner;
      given_back = P.ends c.accept_all.new.parts.spawner;
      out = P.out c.accept_all.new.parts.spawner;
      unstarted = P.faults c.accept_all.new.parts.spawner;
    } in
    let first : ServeWorld g.row.L.Denot g.row.C.Denot g.row.N.Denot = world_of before.pass none_out before in
    let m : ServeWorld g.row.L.Denot g.row.C.Denot g.row.N.Denot = world_of c.accept_all.new.pass at_halt beside in
    let after : ServeWorld g.row.L.Denot g.row.C.Denot g.row.N.Denot = world_of c.stop_first-told.new.pass all_ended beside in
    let s : StopsFirst W h c.accept_all.new.pass at_halt c.stop_first-told.new.pass all_ended c.stop_first-told.result.answer = c.stop_first-told.ensures.stops in
    rw (c.stop_first-told.ensures.left, c.stop_first-told.ensures.came, c.stop_first-told.ensures.waits, c.stop_first-told.ensures.quiets, c.stop_first-told.ensures.journals)
    (subst (λ (e : ServeEnd). Serving W B T terms (served_world h own before) (served_world h own' after) e) (sym c.end_of.ensures)
    (serves_after W B T h terms before after none_out own own' _ c.await_all.ensures.jobs c.await_all.ensures.gave c.await_all.ensures.later
    (serves_halted W B T h terms first m s.at_stop c.stop_first-told.new.pass all_ended c.in-Halted.halt c.stop_first-told.result.answer c.stop_first-told.result.lost own own'
    c.await_all.ensures.none c.in-Halted.ensures.accepts s.stopped
    s.ended c.stop_first-told.ensures.none c.stop_first-told.ensures.records c.stop_first-told.ensures.has_line)))

pub returns-in-All-clause-asked : goal.returns-in-All-clause-asked
returns-in-All-clause-asked g c =
    let A = g.A.Acceptor in
    let Q = g.Q.StopAsker in
    let old : Asking = asking_by Q.looks Q.asked Q.endings c.args.asker.now in
    let new : Asking = asking_by Q.looks Q.asked Q.endings c.show.new.asker in
    record {
      is_asked = false;
      looked = subst (λ (w : Option (List ℕ)). Looked (own_list c.args.pass.now) (A.waits c.args.parts.now.acceptor) w old new false) (sym c.wake_all.ensures.waits)
          (subst (λ (z : Asking). Looked (own_list c.args.pass.now) (A.waits c.args.parts.now.acceptor) (A.waits c.accept_all.new.parts.acceptor) old z false) (sym c.show.ensures.asker)
          c.in-All.ensures.looked);
      ends = subst (λ (e : ServeEnd). EndsUnasked e) (sym c.done.ensures) (whole_unasked c.in-All.unstarted c.finish-stopped.result.answer c.finish-stopped.result.lost);
    }

pub returns-in-Asked-clause-asked : goal.returns-in-Asked-clause-asked
returns-in-Asked-clause-asked g c =
    let A = g.A.Acceptor in
    let Q = g.Q.StopAsker in
    let old : Asking = asking_by Q.looks Q.asked Q.endings c.args.asker.now in
    let new : Asking = asking_by Q.looks Q.asked Q.endings c.accept_all.new.asker in
    record {
      is_asked = true;
      looked = subst (λ (w : Option (List ℕ)). Looked (own_list c.args.pass.now) (A.waits c.args.parts.now.acceptor) w old new true) (sym c.stop_first-asked.ensures.waits) c.in-Asked.ensures.looked;
      ends = subst (λ (e : ServeEnd). EndsAsked e) (sym c.asked_end.ensures) (asked_so c.in-Asked.unstarted c.stop_first-asked.result.answer c.stop_first-asked.result.lost);
    }

pub returns-in-Halted-clause-asked : goal.returns-in-Halted-clause-asked
returns-in-Halted-clause-asked g c =
    let A = g.A.Acceptor in
    let Q = g.Q.StopAsker in
    let old : Asking = asking_by Q.looks Q.asked Q.endings c.args.asker.now in
    let new : Asking = asking_by Q.looks Q.asked Q.endings c.accept_all.new.asker in
    record {
      is_asked = false;
      looked = subst (λ (w : Option (List ℕ)). Looked (own_list c.args.pass.now) (A.waits c.args.parts.now.acceptor) w old new false) (sym c.stop_first-told.ensures.waits) c.in-Halted.ensures.looked;
      ends = subst (λ (e : ServeEnd). EndsUnasked e) (sym c.end_of.ensures) (halt_unasked c.in-Halted.halt c.stop_first-told.result.lost);
    }

pub returns-in-All-clause-failed : goal.returns-in-All-clause-failed
returns-in-All-clause-failed g c e =
    absurd (whole_served c.in-All.unstarted c.finish-stopped.result.answer c.finish-stopped.result.lost (sym c.done.ensures ∙ e))

pub returns-in-Asked-clause-failed : goal.returns-in-Asked-clause-failed
returns-in-Asked-clause-failed g c e =
    absurd (asked_served c.in-Asked.unstarted c.stop_first-asked.result.answer c.stop_first-asked.result.lost (sym c.asked_end.ensures ∙ e))

pub returns-in-Halted-clause-failed : goal.returns-in-Halted-clause-failed
returns-in-Halted-clause-failed g c e =
    subst (λ (n : ℕ). HasRisen (g.A.Acceptor.faults c.args.parts.now.acceptor) n) (sym c.stop_first-told.ensures.same)
    (c.accept_all.ensures.failed (c.in-Halted.is ∙ ap HaltedBy (halt_failed c.in-Halted.halt c.stop_first-told.result.lost (sym c.end_of.ensures ∙ e))))

pub returns-in-All-clause-unrecorded : goal.returns-in-All-clause-unrecorded
returns-in-All-clause-unrecorded g c e =
    inr (c.finish-stopped.ensures.failed (whole_lost c.in-All.unstarted c.finish-stopped.result.answer c.finish-stopped.result.lost (sym c.done.ensures ∙ e)))

pub returns-in-Asked-clause-unrecorded : goal.returns-in-Asked-clause-unrecorded
returns-in-Asked-clause-unrecorded g c e =
    inr (c.stop_first-asked.ensures.unput (asked_lost c.in-Asked.unstarted c.stop_first-asked.result.answer c.stop_first-asked.result.lost (sym c.asked_end.ensures ∙ e)))

pub returns-in-Halted-clause-unrecorded : goal.returns-in-Halted-clause-unrecorded
returns-in-Halted-clause-unrecorded g c e =
    halt_lost c.in-Halted.halt c.stop_first-told.result.lost (sym c.end_of.ensures ∙ e)
    (λ x. rw c.stop_first-told.ensures.journals (c.accept_all.ensures.unbegun (c.in-Halted.is ∙ ap HaltedBy x)))
    c.stop_first-told.ensures.unput

pub returns-in-All-clause-woken : goal.returns-in-All-clause-woken
returns-in-All-clause-woken g c =
    let A = g.A.Acceptor in
    let answer = c.finish-stopped.result.answer in (
      stop_place answer,
      stands_at _ _ c.finish-stopped.new.pass c.finish-stopped.new.pass answer c.finish-stopped.ensures.stopped (starts_self (seen c.finish-stopped.new.pass)),
      subst (λ (n : ℕ). LastIs (A.stops c.wake_all.new.self) n) c.place_of.ensures
          (last_told (A.stops c.accept_all.new.parts.acceptor) (A.stops c.wake_all.new.self) c.place_of.result c.wake_all.ensures.woken),
    )

pub returns-in-All-clause-bound : goal.returns-in-All-clause-bound
returns-in-All-clause-bound g c =
    subst (λ b. Stays (g.A.Acceptor.bound c.args.parts.now.acceptor) b) (sym c.wake_all.ensures.bound) c.accept_all.ensures.bound

pub returns-in-Asked-clause-bound : goal.returns-in-Asked-clause-bound
returns-in-Asked-clause-bound g c =
    subst (λ b. Stays (g.A.Acceptor.bound c.args.parts.now.acceptor) b) (sym c.stop_first-asked.ensures.bound) c.accept_all.ensures.bound

pub returns-in-Halted-clause-bound : goal.returns-in-Halted-clause-bound
returns-in-Halted-clause-bound g c =
    subst (λ b. Stays (g.A.Acceptor.bound c.args.parts.now.acceptor) b) (sym c.stop_first-told.ensures.bound) c.accept_all.ensures.bound

-- ---- what was shown

pub returns-in-All-clause-shown : goal.returns-in-All-clause-shown
returns-in-All-clause-shown g c =
    let Q = g.Q.StopAsker in
    let begins = starts_then (seen c.accept_all.new.pass) (seen c.take_ended.new.pass) (seen c.show.new.pass) c.take_ended.ensures.takes_in.went.grows c.show.ensures.passed.grows in
    shown_later (seen c.show.new.pass) (seen c.finish-stopped.new.pass) (Q.statuses c.args.asker.now) (Q.statuses c.show.new.asker) c.finish-stopped.ensures.stopped.passed.grows
    (shown_then (seen c.accept_all.new.pass) (seen c.show.new.pass) (Q.statuses c.args.asker.now) (Q.statuses c.accept_all.new.asker) (Q.statuses c.show.new.asker) begins
    c.accept_all.ensures.shown c.show.ensures.shown)

pub returns-in-Asked-clause-shown : goal.returns-in-Asked-clause-shown
returns-in-Asked-clause-shown g c =
    let Q = g.Q.StopAsker in
    let s = c.stop_first-asked.ensures.stops in
    shown_later (seen c.accept_all.new.pass) (seen c.stop_first-asked.new.pass) (Q.statuses c.args.asker.now) (Q.statuses c.accept_all.new.asker)
    (starts_then (seen c.accept_all.new.pass) (seen s.at_stop) (seen c.stop_first-asked.new.pass) s.stopped.passed.grows s.ended.went.grows) c.accept_all.ensures.shown

pub returns-in-Halted-clause-shown : goal.returns-in-Halted-clause-shown
returns-in-Halted-clause-shown g c =
    let Q = g.Q.StopAsker in
    let s = c.stop_first-told.ensures.stops in
    shown_later (seen c.accept_all.new.pass) (seen c.stop_first-told.new.pass) (Q.statuses c.args.asker.now) (Q.statuses c.accept_all.new.asker)
    (starts_then (seen c.accept_all.new.pass) (seen s.at_stop) (seen c.stop_first-told.new.pass) s.stopped.passed.grows s.ended.went.grows) c.accept_all.ensures.shown
