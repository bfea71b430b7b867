use Rattle.std.proofs.Common.{Ok, refl, ap, ◌∙◌}
use Rattle.bsc_accept.specs.declared.event.Event.TheVariants.{Message as Came}
use Rattle.bsc_session.specs.Standings.{start_of, told}
use Rattle.bsc_session.proofs.Asking.{tied_told}
use Rattle.bsc_session.proofs.Hearing.{carries_so, held_told, message_heard, message_unjudged, not_over, passes_there, place_is}
use Rattle.bsc_session.proofs.answering.take_message.Goals as goal

pub answer-requires-clause-route : goal.answer-requires-clause-route
answer-requires-clause-route g c is =
    carries_so c.requires.0 c.requires.1 c.args.at.now c.args.now c.in-Ok.verdict c.message-step.new.self c.message-step.result _ c.requires.3 c.message-step.ensures.step is
    (λ e same. c.verdict.ensures.route e (c.in-Ok.is ∙ ap (λ x. Ok x) same))

pub returns-in-Ok-clause-heard : goal.returns-in-Ok-clause-heard
returns-in-Ok-clause-heard g c v s fixed guarded held runs =
    let does = c.message-step.ensures.step (start_of v s) s.events runs.machine in
    message_heard c.args.here.hub.now v s c.args.now c.args.m.now c.args.pass.now c.answer.new.pass c.args.at.now _ c.answer.new.at (g.L.Link.talk c.args.link.now)
    (g.L.Link.talk c.answer.new.link) (g.J.Journal.held c.args.journal.now) (g.J.Journal.held c.answer.new.journal) c.in-Ok.verdict c.message-step.result c.answer.result
    (c.in-Ok.ensures.found ∙ place_is v s c.args.m.now c.phase.result c.identity.result _
    (c.phase.ensures.told (start_of v s) s.events runs.machine (not_over c.args.at.now.machine runs.waits)) c.identity.ensures fixed)
    does.0 refl
    (c.answer.ensures.answered v (told s (Came c.args.now c.in-Ok.verdict))
    (held_told c.args.here.hub.now v s c.args.pass.now c.args.at.now c.message-step.new.self (Came c.args.now c.in-Ok.verdict) held) does.1
    (tied_told s (Came c.args.now c.in-Ok.verdict) refl runs.tied) guarded)

pub returns-in-Err-clause-heard : goal.returns-in-Err-clause-heard
returns-in-Err-clause-heard g c v s fixed guarded held runs = message_unjudged c.args.here.hub.now v s c.args.now c.args.m.now c.args.pass.now c.args.at.now (g.L.Link.talk c.args.link.now)
    (g.J.Journal.held c.args.journal.now) c.stop_at.result held
    (passes_there v s c.args.m.now _ (place_is v s c.args.m.now c.phase.result c.identity.result _
    (c.phase.ensures.told (start_of v s) s.events runs.machine (not_over c.args.at.now.machine runs.waits)) c.identity.ensures fixed) c.in-Err.ensures.memory) c.stop_at.ensures
