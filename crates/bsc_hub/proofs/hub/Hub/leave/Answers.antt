use Rattle.std.proofs.Common.{◌≡◌, [], ◌∷◌, ◌++◌, List, ap, sym, ◌∙◌, subst}
use Rattle.bsc_history.specs.declared.entry.Entry.{Entry}
use Rattle.bsc_history.specs.declared.limits.About.{About}
use Rattle.bsc_history.specs.Marks.{entries}
use Rattle.bsc_turn.specs.Passes.{IsPassOf, guard_view, seen}
use Rattle.bsc_desk.specs.declared.desk.Desk.{Desk}
use Rattle.bsc_desk.specs.Standing.{DeskStands}
use Rattle.bsc_hub.specs.Passing.{Passed, about_of, fixed_of}
use Rattle.bsc_hub.proofs.Passing.{found_back, found_with, passed_with, worn_found}
use Rattle.std.proofs.Common.{take, unwrap_or}
use Rattle.bsc_history.specs.declared.ending.End.TheVariants.{Left}
use Rattle.bsc_history.specs.declared.reply.Reply.TheVariants.{Gone as GoneReply}
use Rattle.bsc_history.specs.Ends.{ended}
use Rattle.bsc_ring.specs.Ends.{empties_of}
use Rattle.bsc_turn.specs.declared.view.View.{View}
use Rattle.bsc_history.specs.Outboxes.{sent}
use Rattle.bsc_hub.specs.Calls.{leave_stamped, placed}
use Rattle.bsc_hub.proofs.Guarding.{guard_mark, guard_row}
use Rattle.bsc_hub.proofs.Leaves.{sent_left}
use Rattle.bsc_hub.proofs.hub.Hub.leave.Goals as goal

pub leave-said-requires-clause-unleft : goal.leave-said-requires-clause-unleft
leave-said-requires-clause-unleft g c =
    let h = c.args.self.now in
    let e = c.enter-guard.ensures in
    let w = guard_view c.enter-guard.result in
    let stands : DeskStands c.state.result.now w.seen = subst (λ d. DeskStands d w.seen) (sym c.state.ensures.value) e.stands in
    let s = c.requires.caller.0.1.1 in
    guard_row c.state.result.now c.args.pass.now c.number-caller.result c.args.conn w stands e.seen e.same e.guard.1.2 s.5 s.2 c.number-caller.ensures c.requires.own

pub leave-said-requires-clause-mark : goal.leave-said-requires-clause-mark
leave-said-requires-clause-mark g c =
    let h = c.args.self.now in
    let e = c.enter-guard.ensures in
    let w = guard_view c.enter-guard.result in
    let stands : DeskStands c.state.result.now w.seen = subst (λ d. DeskStands d w.seen) (sym c.state.ensures.value) e.stands in
    guard_mark c.state.result.now (seen c.args.pass.now) w.seen c.args.conn c.args.outlet stands e.seen c.requires.mark

pub returns-clause-pass : goal.returns-clause-pass
returns-clause-pass g c =
    let h = c.args.self.now in
    let e = c.enter-guard.ensures in
    let w = guard_view c.enter-guard.result in
    let stands : DeskStands c.state.result.now w.seen = subst (λ d. DeskStands d w.seen) (sym c.state.ensures.value) e.stands in
    let about : c.state.result.now.about ≡ about_of h = ap (λ (d : Desk). d.about) c.state.ensures.value ∙ e.about ∙ h.fixed in
    let p = c.args.pass.now in
    let q = c.commit_leave-at.new.pass in
    let k = c.commit_leave-at.ensures in
    let gone = c.leave-said.result in
    let made = passed_with h p q w (leave_stamped c.number-caller.result c.args.conn c.empties-empties.result gone) c.commit_leave-at.result c.leave-said.new.self c.requires.caller
    (subst (λ t. IsPassOf fixed_of t q) e.guard.0 k.1) k.2 k.0 e.same e.seen
    (subst (λ n. DeskStands c.leave-said.new.self (w.seen ++ leave_stamped c.number-caller.result c.args.conn n gone ∷ [])) (sym c.empties-empties.ensures)
    (c.leave-said.ensures.stands w.seen stands)) (c.leave-said.ensures.about ∙ about) in
    subst (λ n. Passed h p [] (placed c.commit_leave-at.result (leave_stamped n c.args.conn (empties_of c.args.outlet) gone)) q) c.number-caller.ensures (
    subst (λ n. Passed h p [] (placed c.commit_leave-at.result (leave_stamped c.number-caller.result c.args.conn n gone)) q) c.empties-empties.ensures made
    )

pub returns-clause-due : goal.returns-clause-due
returns-clause-due g c =
    let h = c.args.self.now in
    let e = c.enter-guard.ensures in
    let w = guard_view c.enter-guard.result in
    let stands : DeskStands c.state.result.now w.seen = subst (λ d. DeskStands d w.seen) (sym c.state.ensures.value) e.stands in
    let about : c.state.result.now.about ≡ about_of h = ap (λ (d : Desk). d.about) c.state.ensures.value ∙ e.about ∙ h.fixed in
    let k = c.commit_leave-at.ensures in
    let gone = c.leave-said.result in
    let found = found_with c.commit_leave-at.new.pass w (leave_stamped c.number-caller.result c.args.conn c.empties-empties.result gone) c.commit_leave-at.result k.2 k.0 in
    c.leave-said.ensures.due w.seen stands ∙ ap (λ (F : List Entry). GoneReply (unwrap_or (ended F c.args.conn) Left) gone.taken) (sym found)

pub returns-clause-given : goal.returns-clause-given
returns-clause-given g c =
    let h = c.args.self.now in
    let e = c.enter-guard.ensures in
    let w = guard_view c.enter-guard.result in
    let stands : DeskStands c.state.result.now w.seen = subst (λ d. DeskStands d w.seen) (sym c.state.ensures.value) e.stands in
    let about : c.state.result.now.about ≡ about_of h = ap (λ (d : Desk). d.about) c.state.ensures.value ∙ e.about ∙ h.fixed in
    let gone = c.leave-said.result in
    let after : sent (about_of h) (entries (seen c.commit_leave-at.new.pass)) c.args.conn ≡ sent (about_of h) (entries w.seen) c.args.conn =
    ap (λ (v : View). sent (about_of h) (entries v.seen) c.args.conn) c.commit_leave-at.ensures.2
    ∙ sent_left (about_of h) w.seen c.number-caller.result c.args.conn c.empties-empties.result gone c.args.conn in
    c.leave-said.ensures.given w.seen stands ∙ ap (λ (a : About). take gone.taken (sent a (entries w.seen) c.args.conn)) about ∙ ap (take gone.taken) (sym after)

pub returns-clause-all : goal.returns-clause-all
returns-clause-all g c all =
    let h = c.args.self.now in
    let e = c.enter-guard.ensures in
    let w = guard_view c.enter-guard.result in
    let stands : DeskStands c.state.result.now w.seen = subst (λ d. DeskStands d w.seen) (sym c.state.ensures.value) e.stands in
    let about : c.state.result.now.about ≡ about_of h = ap (λ (d : Desk). d.about) c.state.ensures.value ∙ e.about ∙ h.fixed in
    let gone = c.leave-said.result in
    let after : sent (about_of h) (entries (seen c.commit_leave-at.new.pass)) c.args.conn ≡ sent (about_of h) (entries w.seen) c.args.conn =
    ap (λ (v : View). sent (about_of h) (entries v.seen) c.args.conn) c.commit_leave-at.ensures.2
    ∙ sent_left (about_of h) w.seen c.number-caller.result c.args.conn c.empties-empties.result gone c.args.conn in
    c.leave-said.ensures.all w.seen stands all ∙ ap (λ (a : About). sent a (entries w.seen) c.args.conn) about ∙ sym after
