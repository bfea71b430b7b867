-- An outbox is emptied, and then it is seen how its connection ended.
use Rattle.std.proofs.Common.{subst}
use Rattle.bsc_script.specs.States.{with_peer}
use Rattle.bsc_script.specs.Emptying.{given_frames, unwritten}
use Rattle.bsc_script.specs.Between.{IsWritten}
use Rattle.bsc_script.proofs.Outboxes.{written_joined, live_emptied, ended_place, ended_emptied, ended_connected, not_left, placed_within}
use Rattle.bsc_script.proofs.script_hub.ScriptHub.empty_at.Goals as goal
use Rattle.std.proofs.lemmas.Result.{on_ok_weaker as on_ok}

pub write_at-requires-clause-some : goal.write_at-requires-clause-some
write_at-requires-clause-some c =
    let r = c.requires.some in
    (r.0, r.1, r.2, written_joined c.args.self.now c.args.at r.2 r.3 r.0 r.1 r.4)

pub returns-in-None : goal.returns-in-None
returns-in-None c = λ s k d ds w.
    live_emptied c.args.self.now c.write_at.new.self c.args.at d ds s k c.args.text.now.items c.write_at.new.text.items w
    (subst (λ o. IsWritten c.write_at.new.self c.args.at d s k o c.args.text.now.items c.write_at.new.text.items) c.in-None.is
    (c.in_ok-write_at.ensures s k d (written_joined c.args.self.now c.args.at d ds s k w)))

pub tell_ended-requires-clause-within : goal.tell_ended-requires-clause-within
tell_ended-requires-clause-within c = (
    let r = c.requires.some in
    let i = (subst (λ o. IsWritten c.write_at.new.self c.args.at c.requires.some.2 c.requires.some.0 c.requires.some.1 o c.args.text.now.items c.write_at.new.text.items) c.in-Some.is
    (c.in_ok-write_at.ensures c.requires.some.0 c.requires.some.1 c.requires.some.2
    (written_joined c.args.self.now c.args.at c.requires.some.2 c.requires.some.3 c.requires.some.0 c.requires.some.1 c.requires.some.4))) in
    let p = ended_place c.args.self.now c.write_at.new.self c.args.at r.2 r.3 r.0 r.1 c.in-Some.ending c.args.text.now.items c.write_at.new.text.items r.4 i in
    placed_within c.write_at.new.self (with_peer (given_frames (unwritten r.0 r.1 r.2) r.1) r.0) c.args.at (given_frames (unwritten r.0 r.1 r.2) r.1) p.stands p.here)

pub tell_ended-requires-clause-connected : goal.tell_ended-requires-clause-connected
tell_ended-requires-clause-connected c = (
    let r = c.requires.some in
    let i = (subst (λ o. IsWritten c.write_at.new.self c.args.at c.requires.some.2 c.requires.some.0 c.requires.some.1 o c.args.text.now.items c.write_at.new.text.items) c.in-Some.is
    (c.in_ok-write_at.ensures c.requires.some.0 c.requires.some.1 c.requires.some.2
    (written_joined c.args.self.now c.args.at c.requires.some.2 c.requires.some.3 c.requires.some.0 c.requires.some.1 c.requires.some.4))) in
    ended_connected c.write_at.new.self c.args.at r.2 r.3 r.0 r.1 c.in-Some.ending c.args.self.now c.args.text.now.items c.write_at.new.text.items r.4 i)

pub tell_ended-requires-clause-ending : goal.tell_ended-requires-clause-ending
tell_ended-requires-clause-ending c = (
    let r = c.requires.some in
    let i = (subst (λ o. IsWritten c.write_at.new.self c.args.at c.requires.some.2 c.requires.some.0 c.requires.some.1 o c.args.text.now.items c.write_at.new.text.items) c.in-Some.is
    (c.in_ok-write_at.ensures c.requires.some.0 c.requires.some.1 c.requires.some.2
    (written_joined c.args.self.now c.args.at c.requires.some.2 c.requires.some.3 c.requires.some.0 c.requires.some.1 c.requires.some.4))) in
    not_left c.in-Some.ending i.not_left)

pub tell_ended-requires-clause-some : goal.tell_ended-requires-clause-some
tell_ended-requires-clause-some c = (
    let r = c.requires.some in
    let i = (subst (λ o. IsWritten c.write_at.new.self c.args.at c.requires.some.2 c.requires.some.0 c.requires.some.1 o c.args.text.now.items c.write_at.new.text.items) c.in-Some.is
    (c.in_ok-write_at.ensures c.requires.some.0 c.requires.some.1 c.requires.some.2
    (written_joined c.args.self.now c.args.at c.requires.some.2 c.requires.some.3 c.requires.some.0 c.requires.some.1 c.requires.some.4))) in
    (with_peer (given_frames (unwritten r.0 r.1 r.2) r.1) r.0, i.stands))

pub returns-in-Some : goal.returns-in-Some
returns-in-Some c = λ s k d ds w. (
    let i = (subst (λ o. IsWritten c.write_at.new.self c.args.at d s k o c.args.text.now.items c.write_at.new.text.items) c.in-Some.is
    (c.in_ok-write_at.ensures s k d (written_joined c.args.self.now c.args.at d ds s k w))) in
    let j = given_frames (unwritten s k d) k in
    on_ok c.tell_ended.result
    (ended_emptied c.write_at.new.self c.tell_ended.new.self c.args.at d ds s k c.in-Some.ending c.args.text.now.items c.write_at.new.text.items c.tell_ended.new.text.items i)
    (c.tell_ended.ensures (with_peer j s) j ds d (ended_place c.args.self.now c.write_at.new.self c.args.at d ds s k c.in-Some.ending c.args.text.now.items c.write_at.new.text.items w i) w.conn))
