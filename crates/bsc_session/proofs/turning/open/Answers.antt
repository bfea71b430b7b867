use Rattle.std.proofs.Common.{◌∙◌, sym, refl, None}
use Rattle.bsc_accept.specs.declared.event.Event.TheVariants.{Tick}
use Rattle.bsc_session.specs.Opening.{Ticks}
use Rattle.bsc_session.specs.Reading.{started, ticked}
use Rattle.bsc_session.specs.Standings.{told}
use Rattle.bsc_session.proofs.Opening.{followed_some, opens_apart, opens_attended, opens_expired}
use Rattle.bsc_session.proofs.turning.open.Goals as goal

pub drain_outbox-requires-clause-some : goal.drain_outbox-requires-clause-some
drain_outbox-requires-clause-some g c =
    let k : Ticks c.requires.stands.0 c.requires.stands.1 c.args.now c.args.at.now c.tick.new.at None =
    rw c.in_default.is at (c.tick.ensures.told c.requires.stands.0 c.requires.stands.1 c.requires.stands.2 c.requires.stands.3) in
    followed_some c.requires.stands.0 (told c.requires.stands.1 (Tick c.args.now)) c.tick.new.at k.follows (k.runs refl)
    (sym (c.is_connected.ensures.told c.requires.stands.0 (told c.requires.stands.1 (Tick c.args.now)) (k.runs refl).machine) ∙ c.if-is_connected.true)

pub returns-in-Some-clause-opened : goal.returns-in-Some-clause-opened
returns-in-Some-clause-opened g c v s s0 is f r fixed = opens_expired v s c.args.now c.args.at.now c.tick.new.at (g.L.Link.talk c.args.link.now)
    (g.J.Journal.held c.args.journal.now) c.in-Some.stop (rw is at (c.in-Some.ensures.told v s0 f r))

pub returns-then-is_connected-clause-opened : goal.returns-then-is_connected-clause-opened
returns-then-is_connected-clause-opened g c v s s0 is f r fixed =
    let k : Ticks v (started s c.args.now) c.args.now c.args.at.now c.tick.new.at None = rw (is, c.in_default.is) at (c.tick.ensures.told v s0 f r) in
    opens_attended v s c.args.now c.args.at.now c.tick.new.at c.drain_outbox.new.at (g.L.Link.talk c.args.link.now) (g.L.Link.talk c.drain_outbox.new.link)
    (g.J.Journal.held c.args.journal.now) (g.J.Journal.held c.drain_outbox.new.journal) c.drain_outbox.result k
    (sym (c.is_connected.ensures.told v (ticked s c.args.now) (k.runs refl).machine) ∙ c.if-is_connected.true)
    (c.drain_outbox.ensures.attended v (ticked s c.args.now) fixed k.follows (k.runs refl))

pub returns-else-is_connected-clause-opened : goal.returns-else-is_connected-clause-opened
returns-else-is_connected-clause-opened g c v s s0 is f r fixed =
    let k : Ticks v (started s c.args.now) c.args.now c.args.at.now c.tick.new.at None = rw (is, c.in_default.is) at (c.tick.ensures.told v s0 f r) in
    opens_apart v s c.args.now c.args.at.now c.tick.new.at (g.L.Link.talk c.args.link.now) (g.J.Journal.held c.args.journal.now) k
    (sym (c.is_connected.ensures.told v (ticked s c.args.now) (k.runs refl).machine) ∙ c.if-is_connected.false)
