use Rattle.std.proofs.Common.{[], ◌∙◌, None, false, true, arith, refl, subst, sym}
use Rattle.std.specs.Prelude.{option_map}
use Rattle.std.specs.Arc.{arc_value}
use Rattle.bsc_turn.specs.Passes.{newest_number, own_list, seen}
use Rattle.bsc_hub.specs.Passing.{Passed}
use Rattle.bsc_hub.proofs.Following.{starts_then}
use Rattle.bsc_edge.proofs.Common.{stays_same, stays_then}
use Rattle.bsc_session.specs.Jobs.{Worked, policy_of}
use Rattle.bsc_hub.specs.declared.hub.Hub.{Hub}
use Rattle.bsc_serve.specs.Asking.{Asking, Looked, asking_by}
use Rattle.bsc_serve.specs.Inner.{GoesOn}
use Rattle.bsc_serve.specs.Showing.{Shown}
use Rattle.bsc_serve.specs.Terms.{all_terms}
use Rattle.bsc_serve.specs.Worlds.{ServeWorld, Stock}
use Rattle.bsc_serve.proofs.Looking.{looked_last, looked_more, looked_none}
use Rattle.bsc_serve.proofs.Shown.{goes_seen, shown_later, shown_none, shown_then}
use Rattle.bsc_serve.proofs.Taking.{taken_begins}
use Rattle.bsc_serve.proofs.accepting.accept_all.Goals as goal

pub loop-init : goal.loop-init
loop-init g c =
    let A = g.A.Acceptor in
    let P = g.P.Spawner in
    let Q = g.Q.StopAsker in
    let W = Worked g.L.Link.talk g.L.Link.faults g.L.Link.notices g.C.Clock.readings g.N.Sink.held g.N.Sink.faults in
    let B = g.J.Journals.begins in
    let T = g.L.Link.talk in
    let terms = all_terms c.args.served.terms (option_map (λ p. p.now) c.args.served.prefix) (policy_of c.args.served.policy.now) in
    let first : ServeWorld g.row.L.Denot g.row.C.Denot g.row.N.Denot = record {
      pass = c.args.pass.now;
      links = A.left c.args.parts.now.acceptor;
      came = A.came c.args.parts.now.acceptor;
      waits = A.waits c.args.parts.now.acceptor;
      quiets = A.quiets c.args.parts.now.acceptor;
      begun = g.J.Journals.calls c.args.parts.now.journals;
      jobs = P.jobs c.args.parts.now.spawner;
      given_back = P.ends c.args.parts.now.spawner;
      out = P.out c.args.parts.now.spawner;
      unstarted = P.faults c.args.parts.now.spawner;
    } in (
      c.requires.can,
      c.requires.pass,
      taken_begins W B T (arc_value c.args.served.hub.now) terms first c.of-tally.result c.requires.pass c.requires.none c.of-tally.ensures.remaining c.of-tally.ensures.unstarted,
      looked_none (own_list c.args.pass.now) (A.waits c.args.parts.now.acceptor) (asking_by Q.looks Q.asked Q.endings c.args.asker.now),
      omega arith,
      stays_same (A.bound c.args.parts.now.acceptor),
      omega arith,
      refl,
      refl,
      shown_none (seen c.args.pass.now) (Q.statuses c.args.asker.now),
      (tt, tt),
    )

pub loop-preserved : goal.loop-preserved
loop-preserved g c =
    let A = g.A.Acceptor in
    let P = g.P.Spawner in
    let Q = g.Q.StopAsker in
    let W = Worked g.L.Link.talk g.L.Link.faults g.L.Link.notices g.C.Clock.readings g.N.Sink.held g.N.Sink.faults in
    let B = g.J.Journals.begins in
    let T = g.L.Link.talk in
    let terms = all_terms c.args.served.terms (option_map (λ p. p.now) c.args.served.prefix) (policy_of c.args.served.policy.now) in
    let first : ServeWorld g.row.L.Denot g.row.C.Denot g.row.N.Denot = record {
      pass = c.args.pass.now;
      links = A.left c.args.parts.now.acceptor;
      came = A.came c.args.parts.now.acceptor;
      waits = A.waits c.args.parts.now.acceptor;
      quiets = A.quiets c.args.parts.now.acceptor;
      begun = g.J.Journals.calls c.args.parts.now.journals;
      jobs = P.jobs c.args.parts.now.spawner;
      given_back = P.ends c.args.parts.now.spawner;
      out = P.out c.args.parts.now.spawner;
      unstarted = P.faults c.args.parts.now.spawner;
    } in
    let before : Stock g.row.L.Denot g.row.C.Denot g.row.N.Denot = record {
      jobs = P.jobs c.loop.parts.spawner;
      given_back = P.ends c.loop.parts.spawner;
      out = P.out c.loop.parts.spawner;
      unstarted = P.faults c.loop.parts.spawner;
    } in
    let after : Stock g.row.L.Denot g.row.C.Denot g.row.N.Denot = record {
      jobs = P.jobs c.take_ended.new.spawner;
      given_back = P.ends c.take_ended.new.spawner;
      out = P.out c.take_ended.new.spawner;
      unstarted = P.faults c.take_ended.new.spawner;
    } in
    let h = arc_value c.args.served.hub.now in
    let sees : Passed h c.loop.pass [] None c.show.new.pass = subst (λ (y : Hub). Passed y c.loop.pass [] None c.show.new.pass) c.deref.ensures c.show.ensures.passed in
    let goes : GoesOn W B T h c.show.new.pass before c.take_ended.new.pass after =
    subst (λ (y : Hub). GoesOn W B T y c.show.new.pass before c.take_ended.new.pass after) c.deref-in-loop.ensures c.take_ended.ensures.goes_on in
    let here : ServeWorld g.row.L.Denot g.row.C.Denot g.row.N.Denot = record {
      pass = c.loop.pass;
      links = A.left c.loop.parts.acceptor;
      came = A.came c.loop.parts.acceptor;
      waits = A.waits c.loop.parts.acceptor;
      quiets = A.quiets c.loop.parts.acceptor;
      begun = g.J.Journals.calls c.loop.parts.journals;
      jobs = P.jobs c.loop.parts.spawner;
      given_back = P.ends c.loop.parts.spawner;
      out = P.out c.loop.parts.spawner;
      unstarted = P.faults c.loop.parts.spawner;
    } in
    let seen_so = goes_seen W B T h c.loop.pass c.show.new.pass before sees c.show.ensures.loaded in
    let there : ServeWorld g.row.L.Denot g.row.C.Denot g.row.N.Denot = record here { pass = c.show.new.pass } in
    let taken = goes terms first there c.loop.tally (seen_so terms first here c.loop.tally c.loop.invariant.2) in
    let t = c.in_default.ensures.taken first taken in (
      c.in_default.ensures.again,
      t.went.caller,
      t,
      subst (λ (z : Asking). Looked (own_list c.args.pass.now) (A.waits c.args.parts.now.acceptor) (A.waits c.take_next.new.parts.acceptor) (asking_by Q.looks Q.asked Q.endings c.args.asker.now) z false)
          (sym c.show.ensures.asker)
          (looked_more (own_list c.args.pass.now) (own_list c.loop.pass) (A.waits c.args.parts.now.acceptor) (A.waits c.loop.parts.acceptor) (A.waits c.take_next.new.parts.acceptor)
          (asking_by Q.looks Q.asked Q.endings c.args.asker.now)
          (asking_by Q.looks Q.asked Q.endings c.loop.asker)
          (asking_by Q.looks Q.asked Q.endings c.asks-is_asked.new.self) c.asks-is_asked.result c.loop.invariant.3 c.loop.invariant.2.went.makes c.in_default.ensures.asked
          c.if-is_asked.false c.asks-is_asked.ensures.told c.asks-is_asked.ensures.later c.asks-is_asked.ensures.endings),
      omega (arith, c.loop.invariant.4, c.in_default.ensures.later),
      stays_then (A.bound c.args.parts.now.acceptor) (A.bound c.loop.parts.acceptor) (A.bound c.take_next.new.parts.acceptor) c.loop.invariant.5 c.in_default.ensures.bound,
      omega (arith, c.loop.invariant.6, c.in_default.ensures.journals_later),
      c.in_default.ensures.unlost ∙ c.loop.invariant.7,
      c.in_default.ensures.unlimited ∙ c.loop.invariant.8,
      shown_later (seen c.show.new.pass) (seen c.take_next.new.pass) (Q.statuses c.args.asker.now) (Q.statuses c.show.new.asker)
          (starts_then (seen c.show.new.pass) (seen c.take_ended.new.pass) (seen c.take_next.new.pass) c.take_ended.ensures.takes_in.went.grows c.in_default.ensures.grows)
          (shown_then (seen c.loop.pass) (seen c.show.new.pass) (Q.statuses c.args.asker.now) (Q.statuses c.loop.asker) (Q.statuses c.show.new.asker) c.show.ensures.passed.grows
          c.loop.invariant.9 (subst (λ o. Shown (seen c.show.new.pass) o (Q.statuses c.show.new.asker)) c.asks-is_asked.ensures.statuses c.show.ensures.shown)),
      (tt, tt),
    )

pub returns-in-Some-take_next-clause-accepts : goal.returns-in-Some-take_next-clause-accepts
returns-in-Some-take_next-clause-accepts g c =
    let A = g.A.Acceptor in
    let P = g.P.Spawner in
    let Q = g.Q.StopAsker in
    let W = Worked g.L.Link.talk g.L.Link.faults g.L.Link.notices g.C.Clock.readings g.N.Sink.held g.N.Sink.faults in
    let B = g.J.Journals.begins in
    let T = g.L.Link.talk in
    let terms = all_terms c.args.served.terms (option_map (λ p. p.now) c.args.served.prefix) (policy_of c.args.served.policy.now) in
    let first : ServeWorld g.row.L.Denot g.row.C.Denot g.row.N.Denot = record {
      pass = c.args.pass.now;
      links = A.left c.args.parts.now.acceptor;
      came = A.came c.args.parts.now.acceptor;
      waits = A.waits c.args.parts.now.acceptor;
      quiets = A.quiets c.args.parts.now.acceptor;
      begun = g.J.Journals.calls c.args.parts.now.journals;
      jobs = P.jobs c.args.parts.now.spawner;
      given_back = P.ends c.args.parts.now.spawner;
      out = P.out c.args.parts.now.spawner;
      unstarted = P.faults c.args.parts.now.spawner;
    } in
    let before : Stock g.row.L.Denot g.row.C.Denot g.row.N.Denot = record {
      jobs = P.jobs c.loop.parts.spawner;
      given_back = P.ends c.loop.parts.spawner;
      out = P.out c.loop.parts.spawner;
      unstarted = P.faults c.loop.parts.spawner;
    } in
    let after : Stock g.row.L.Denot g.row.C.Denot g.row.N.Denot = record {
      jobs = P.jobs c.take_ended.new.spawner;
      given_back = P.ends c.take_ended.new.spawner;
      out = P.out c.take_ended.new.spawner;
      unstarted = P.faults c.take_ended.new.spawner;
    } in
    let h = arc_value c.args.served.hub.now in
    let sees : Passed h c.loop.pass [] None c.show.new.pass = subst (λ (y : Hub). Passed y c.loop.pass [] None c.show.new.pass) c.deref.ensures c.show.ensures.passed in
    let goes : GoesOn W B T h c.show.new.pass before c.take_ended.new.pass after =
    subst (λ (y : Hub). GoesOn W B T y c.show.new.pass before c.take_ended.new.pass after) c.deref-in-loop.ensures c.take_ended.ensures.goes_on in
    let here : ServeWorld g.row.L.Denot g.row.C.Denot g.row.N.Denot = record {
      pass = c.loop.pass;
      links = A.left c.loop.parts.acceptor;
      came = A.came c.loop.parts.acceptor;
      waits = A.waits c.loop.parts.acceptor;
      quiets = A.quiets c.loop.parts.acceptor;
      begun = g.J.Journals.calls c.loop.parts.journals;
      jobs = P.jobs c.loop.parts.spawner;
      given_back = P.ends c.loop.parts.spawner;
      out = P.out c.loop.parts.spawner;
      unstarted = P.faults c.loop.parts.spawner;
    } in
    let seen_so = goes_seen W B T h c.loop.pass c.show.new.pass before sees c.show.ensures.loaded in
    let there : ServeWorld g.row.L.Denot g.row.C.Denot g.row.N.Denot = record here { pass = c.show.new.pass } in
    let taken = goes terms first there c.loop.tally (seen_so terms first here c.loop.tally c.loop.invariant.2) in
    c.in-Some-take_next.ensures.taken first taken

pub returns-in-Some-take_next-clause-shown : goal.returns-in-Some-take_next-clause-shown
returns-in-Some-take_next-clause-shown g c =
    let Q = g.Q.StopAsker in
    shown_later (seen c.show.new.pass) (seen c.take_next.new.pass) (Q.statuses c.args.asker.now) (Q.statuses c.show.new.asker)
    (starts_then (seen c.show.new.pass) (seen c.take_ended.new.pass) (seen c.take_next.new.pass) c.take_ended.ensures.takes_in.went.grows c.in-Some-take_next.ensures.grows)
    (shown_then (seen c.loop.pass) (seen c.show.new.pass) (Q.statuses c.args.asker.now) (Q.statuses c.loop.asker) (Q.statuses c.show.new.asker) c.show.ensures.passed.grows
    c.loop.invariant.9 (subst (λ o. Shown (seen c.show.new.pass) o (Q.statuses c.show.new.asker)) c.asks-is_asked.ensures.statuses c.show.ensures.shown))

-- ---- whether the stop was asked for

pub returns-then-is_asked-clause-shown : goal.returns-then-is_asked-clause-shown
returns-then-is_asked-clause-shown g c =
    let Q = g.Q.StopAsker in
    shown_then (seen c.loop.pass) (seen c.show.new.pass) (Q.statuses c.args.asker.now) (Q.statuses c.loop.asker) (Q.statuses c.show.new.asker) c.show.ensures.passed.grows
    c.loop.invariant.9 (subst (λ o. Shown (seen c.show.new.pass) o (Q.statuses c.show.new.asker)) c.asks-is_asked.ensures.statuses c.show.ensures.shown)

pub returns-then-is_asked-clause-accepts : goal.returns-then-is_asked-clause-accepts
returns-then-is_asked-clause-accepts g c =
    let A = g.A.Acceptor in
    let P = g.P.Spawner in
    let W = Worked g.L.Link.talk g.L.Link.faults g.L.Link.notices g.C.Clock.readings g.N.Sink.held g.N.Sink.faults in
    let B = g.J.Journals.begins in
    let T = g.L.Link.talk in
    let terms = all_terms c.args.served.terms (option_map (λ p. p.now) c.args.served.prefix) (policy_of c.args.served.policy.now) in
    let first : ServeWorld g.row.L.Denot g.row.C.Denot g.row.N.Denot = record {
      pass = c.args.pass.now;
      links = A.left c.args.parts.now.acceptor;
      came = A.came c.args.parts.now.acceptor;
      waits = A.waits c.args.parts.now.acceptor;
      quiets = A.quiets c.args.parts.now.acceptor;
      begun = g.J.Journals.calls c.args.parts.now.journals;
      jobs = P.jobs c.args.parts.now.spawner;
      given_back = P.ends c.args.parts.now.spawner;
      out = P.out c.args.parts.now.spawner;
      unstarted = P.faults c.args.parts.now.spawner;
    } in
    let before : Stock g.row.L.Denot g.row.C.Denot g.row.N.Denot = record {
      jobs = P.jobs c.loop.parts.spawner;
      given_back = P.ends c.loop.parts.spawner;
      out = P.out c.loop.parts.spawner;
      unstarted = P.faults c.loop.parts.spawner;
    } in
    let h = arc_value c.args.served.hub.now in
    let sees : Passed h c.loop.pass [] None c.show.new.pass = subst (λ (y : Hub). Passed y c.loop.pass [] None c.show.new.pass) c.deref.ensures c.show.ensures.passed in
    let here : ServeWorld g.row.L.Denot g.row.C.Denot g.row.N.Denot = record {
      pass = c.loop.pass;
      links = A.left c.loop.parts.acceptor;
      came = A.came c.loop.parts.acceptor;
      waits = A.waits c.loop.parts.acceptor;
      quiets = A.quiets c.loop.parts.acceptor;
      begun = g.J.Journals.calls c.loop.parts.journals;
      jobs = P.jobs c.loop.parts.spawner;
      given_back = P.ends c.loop.parts.spawner;
      out = P.out c.loop.parts.spawner;
      unstarted = P.faults c.loop.parts.spawner;
    } in
    (c.loop.tally, refl, goes_seen W B T h c.loop.pass c.show.new.pass before sees c.show.ensures.loaded terms first here c.loop.tally c.loop.invariant.2)

pub returns-then-is_asked-clause-looked : goal.returns-then-is_asked-clause-looked
returns-then-is_asked-clause-looked g c =
    let A = g.A.Acceptor in
    let Q = g.Q.StopAsker in
    subst (λ (z : Asking). Looked (own_list c.args.pass.now) (A.waits c.args.parts.now.acceptor) (A.waits c.loop.parts.acceptor) (asking_by Q.looks Q.asked Q.endings c.args.asker.now) z true)
    (sym c.show.ensures.asker)
    (looked_last (own_list c.args.pass.now) (own_list c.loop.pass) (A.waits c.args.parts.now.acceptor) (A.waits c.loop.parts.acceptor) (asking_by Q.looks Q.asked Q.endings c.args.asker.now)
    (asking_by Q.looks Q.asked Q.endings c.loop.asker)
    (asking_by Q.looks Q.asked Q.endings c.asks-is_asked.new.self) c.asks-is_asked.result c.loop.invariant.3 c.loop.invariant.2.went.makes c.if-is_asked.true c.asks-is_asked.ensures.told
    (c.asks-is_asked.ensures.asked c.if-is_asked.true) c.asks-is_asked.ensures.later c.asks-is_asked.ensures.endings)

pub returns-in-Some-take_next-clause-looked : goal.returns-in-Some-take_next-clause-looked
returns-in-Some-take_next-clause-looked g c =
    let A = g.A.Acceptor in
    let Q = g.Q.StopAsker in
    subst (λ (z : Asking). Looked (own_list c.args.pass.now) (A.waits c.args.parts.now.acceptor) (A.waits c.take_next.new.parts.acceptor) (asking_by Q.looks Q.asked Q.endings c.args.asker.now) z false)
    (sym c.show.ensures.asker)
    (looked_more (own_list c.args.pass.now) (own_list c.loop.pass) (A.waits c.args.parts.now.acceptor) (A.waits c.loop.parts.acceptor) (A.waits c.take_next.new.parts.acceptor)
    (asking_by Q.looks Q.asked Q.endings c.args.asker.now)
    (asking_by Q.looks Q.asked Q.endings c.loop.asker)
    (asking_by Q.looks Q.asked Q.endings c.asks-is_asked.new.self) c.asks-is_asked.result c.loop.invariant.3 c.loop.invariant.2.went.makes c.in-Some-take_next.ensures.asked
    c.if-is_asked.false c.asks-is_asked.ensures.told c.asks-is_asked.ensures.later c.asks-is_asked.ensures.endings)
