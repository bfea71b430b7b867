use Rattle.std.proofs.Common.{Some, None, Ok, Err, refl, ap}
use Rattle.bsc_edge.specs.declared.incoming.Incoming.TheVariants.{Quiet, Text, Closed}
use Rattle.bsc_session.specs.Receiving.{received_one}
use Rattle.bsc_session.proofs.Hearing.{held_received, hears_message, hears_nothing, runs_received, standing_received}
use Rattle.bsc_session.proofs.Notifying.{asks_nobody, asks_then}
use Rattle.bsc_session.proofs.turning.hear.Goals as goal

pub take_message-requires : goal.take_message-requires
take_message-requires g c = standing_received c.args.here.hub.now c.args.pass.now c.args.at.now _ refl c.requires.stands

pub returns-in-Ok-Message-clause-heard : goal.returns-in-Ok-Message-clause-heard
returns-in-Ok-Message-clause-heard g c v s fixed guarded held runs =
    hears_message c.args.here.hub.now v s c.args.now c.args.wait_ms c.in-Ok-Message.m c.args.pass.now c.take_message.new.pass c.args.at.now _ c.take_message.new.at
    (g.L.Link.talk c.args.link.now) (g.L.Link.talk c.receive.new.self) (g.L.Link.talk c.take_message.new.link) (g.J.Journal.held c.args.journal.now)
    (g.J.Journal.held c.take_message.new.journal) c.take_message.result (rw c.in-Ok-Message.field-0-is at c.in-Ok-Message.ensures.told) refl
    (rw c.as_slice.ensures at c.take_message.ensures.heard v (received_one s) fixed guarded (held_received c.args.here.hub.now v s c.args.pass.now c.args.at.now _ refl held)
    (runs_received v s c.args.at.now _ runs))

pub returns-in-Ok-Quiet-clause-heard : goal.returns-in-Ok-Quiet-clause-heard
returns-in-Ok-Quiet-clause-heard g c v s fixed guarded held runs = hears_nothing c.args.here.hub.now v s c.args.now c.args.wait_ms c.args.pass.now c.args.at.now _
    (g.L.Link.talk c.args.link.now) (g.L.Link.talk c.receive.new.self) (g.J.Journal.held c.args.journal.now) (Ok Quiet) None
    (rw c.in-Ok-Quiet.field-0-is at c.in-Ok-Quiet.ensures.told) refl refl refl refl (held_received c.args.here.hub.now v s c.args.pass.now c.args.at.now _ refl held)
    (λ going. runs_received v s c.args.at.now _ runs)

pub returns-in-Ok-Text-clause-heard : goal.returns-in-Ok-Text-clause-heard
returns-in-Ok-Text-clause-heard g c v s fixed guarded held runs = hears_nothing c.args.here.hub.now v s c.args.now c.args.wait_ms c.args.pass.now c.args.at.now _
    (g.L.Link.talk c.args.link.now) (g.L.Link.talk c.receive.new.self) (g.J.Journal.held c.args.journal.now) (Ok Text) (Some c.stop_closing.result)
    (rw c.in-Ok-Text.field-0-is at c.in-Ok-Text.ensures.told) refl refl (ap (λ x. Some x) c.stop_closing.ensures) refl
    (held_received c.args.here.hub.now v s c.args.pass.now c.args.at.now _ refl held) (λ going. cc)

pub returns-in-Ok-Closed-clause-heard : goal.returns-in-Ok-Closed-clause-heard
returns-in-Ok-Closed-clause-heard g c v s fixed guarded held runs = hears_nothing c.args.here.hub.now v s c.args.now c.args.wait_ms c.args.pass.now c.args.at.now _
    (g.L.Link.talk c.args.link.now) (g.L.Link.talk c.receive.new.self) (g.J.Journal.held c.args.journal.now) (Ok Closed) (Some _)
    (rw c.in-Ok-Closed.field-0-is at c.in-Ok-Closed.ensures.told) refl refl refl refl (held_received c.args.here.hub.now v s c.args.pass.now c.args.at.now _ refl held) (λ going. cc)

pub returns-in-Err-clause-heard : goal.returns-in-Err-clause-heard
returns-in-Err-clause-heard g c v s fixed guarded held runs = hears_nothing c.args.here.hub.now v s c.args.now c.args.wait_ms c.args.pass.now c.args.at.now _ (g.L.Link.talk c.args.link.now)
    (g.L.Link.talk c.receive.new.self) (g.J.Journal.held c.args.journal.now) (Err c.in-Err.fault) (Some c.stop_at.result) c.in-Err.ensures.told refl refl
    (ap (λ x. Some x) c.stop_at.ensures) refl (held_received c.args.here.hub.now v s c.args.pass.now c.args.at.now _ refl held) (λ going. cc)

pub returns-in-Ok-Message-clause-woken : goal.returns-in-Ok-Message-clause-woken
returns-in-Ok-Message-clause-woken g c = asks_then c.args.pass.now c.take_message.new.pass (g.L.Link.notices c.args.link.now) (g.L.Link.notices c.receive.new.self)
    (g.L.Link.notices c.take_message.new.link) c.receive.ensures.asked c.take_message.ensures.woken

pub returns-in-Ok-Quiet-clause-woken : goal.returns-in-Ok-Quiet-clause-woken
returns-in-Ok-Quiet-clause-woken g c = asks_nobody c.args.pass.now (g.L.Link.notices c.args.link.now) (g.L.Link.notices c.receive.new.self) c.receive.ensures.asked

pub returns-in-Ok-Text-clause-woken : goal.returns-in-Ok-Text-clause-woken
returns-in-Ok-Text-clause-woken g c = asks_nobody c.args.pass.now (g.L.Link.notices c.args.link.now) (g.L.Link.notices c.receive.new.self) c.receive.ensures.asked

pub returns-in-Ok-Closed-clause-woken : goal.returns-in-Ok-Closed-clause-woken
returns-in-Ok-Closed-clause-woken g c = asks_nobody c.args.pass.now (g.L.Link.notices c.args.link.now) (g.L.Link.notices c.receive.new.self) c.receive.ensures.asked

pub returns-in-Err-clause-woken : goal.returns-in-Err-clause-woken
returns-in-Err-clause-woken g c = asks_nobody c.args.pass.now (g.L.Link.notices c.args.link.now) (g.L.Link.notices c.receive.new.self) c.receive.ensures.asked
