use Rattle.std.proofs.Common.{Some, None, ap, refl, sym, ◌∙◌}
use Rattle.bsc_session.specs.Jobs.{makes_lines, policy_of}
use Rattle.bsc_session.proofs.DoneJobs.{noted_work, unnoted_work}
use Rattle.bsc_session.proofs.working.SessionJobJob.work.Goals as goal

pub returns-in-Some : goal.returns-in-Some
returns-in-Some g c =
    let e = c.serve_guarded-ended.ensures in
    let q = c.serve_guarded-ended.new in
    let b = c.args.self in
    let is = ap policy_of c.in-Some.is in
    rw (c.of.ensures.link, c.of.ensures.clock, c.of.ensures.journal)
    (noted_work g.L.Link.talk g.L.Link.faults g.L.Link.notices g.C.Clock.readings g.N.Sink.held g.N.Sink.faults b _ q.link q.clock q.journal c.deref-here.result.now
    (Some c.deref-guard.result.now) c.deref-here.ensures (ap (λ p. Some p) c.deref-guard.ensures ∙ sym is)
    (ap (λ p. makes_lines b.is_recorded p) is) e.woken e.ends e.caused e.failed e.unrecorded e.later)

pub returns-then-is_recorded : goal.returns-then-is_recorded
returns-then-is_recorded g c =
    let e = c.serve_recorded-ended.ensures in
    let q = c.serve_recorded-ended.new in
    let b = c.args.self in
    let none = ap policy_of c.in_default.is in
    rw (c.of-then-is_recorded.ensures.link, c.of-then-is_recorded.ensures.clock, c.of-then-is_recorded.ensures.journal)
    (noted_work g.L.Link.talk g.L.Link.faults g.L.Link.notices g.C.Clock.readings g.N.Sink.held g.N.Sink.faults b _ q.link q.clock q.journal c.deref-here.result.now
    None c.deref-here.ensures (sym none) (ap (λ p. makes_lines b.is_recorded p) none ∙ c.if-is_recorded.true) e.woken e.ends e.caused e.failed
    e.unrecorded e.later)

pub returns : goal.returns
returns g c =
    let e = c.serve_connection-ended.ensures in
    let q = c.serve_connection-ended.new in
    let b = c.args.self in
    let none = ap policy_of c.in_default.is in
    rw (c.of-2.ensures.link, c.of-2.ensures.clock, c.of-2.ensures.journal)
    (unnoted_work g.L.Link.talk g.L.Link.faults g.L.Link.notices g.C.Clock.readings g.N.Sink.held g.N.Sink.faults b _ q.link q.clock b.journal c.deref-here.result.now
    None c.deref-here.ensures (sym none) (ap (λ p. makes_lines b.is_recorded p) none ∙ c.if-is_recorded.false) e.woken refl e.ends e.caused e.failed
    e.recorded e.later)
