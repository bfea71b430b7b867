use Rattle.std.proofs.Common.{◌≡◌, [], ◌∷◌, ◌++◌, List, Some, ap, sym, ◌∙◌, subst}
use Rattle.bsc_history.specs.declared.entry.Entry.{Entry}
use Rattle.bsc_history.specs.declared.limits.About.{About}
use Rattle.bsc_history.specs.Marks.{entries}
use Rattle.bsc_turn.specs.Passes.{IsPassOf, after_commit, guard_view, seen, view_of}
use Rattle.bsc_desk.specs.declared.desk.Desk.{Desk}
use Rattle.bsc_desk.specs.Standing.{DeskStands}
use Rattle.bsc_hub.specs.Passing.{Passed, about_of, fixed_of}
use Rattle.bsc_hub.proofs.Passing.{found_back, found_with, passed_with, worn_found}
use Rattle.bsc_history.specs.declared.reply.Reply.TheVariants.{Joined as JoinedReply, Refused as RefusedReply}
use Rattle.bsc_ring.specs.Ends.{inlet_mark, outlet_mark}
use Rattle.bsc_desk.specs.Entries.{connect_adds, connect_due, connect_said, connect_stamped, said_by_no_row}
use Rattle.bsc_hub.specs.Calls.{joined_stamped, placed, refused_stamped}
use Rattle.bsc_hub.proofs.hub.Hub.connect_with.Goals as goal

pub returns-in-Ok-clause-pass : goal.returns-in-Ok-clause-pass
returns-in-Ok-clause-pass g c =
    let h = c.args.self.now in
    let e = c.enter-guard.ensures in
    let w = guard_view c.enter-guard.result in
    let stands : DeskStands c.state.result.now w.seen = subst (λ d. DeskStands d w.seen) (sym c.state.ensures.value) e.stands in
    let about : c.state.result.now.about ≡ about_of h = ap (λ (d : Desk). d.about) c.state.ensures.value ∙ e.about ∙ h.fixed in
    let p = c.args.pass.now in
    let q = c.commit_joined-at.new.pass in
    let k = c.commit_joined-at.ensures in
    let knows = subst (λ who. view_of q ≡ after_commit (joined_stamped c.number-caller.result who c.in-Ok.row (outlet_mark c.args.outlet)) w) c.of-note.ensures k.2 in
    subst (λ n. Passed h p [] (placed c.commit_joined-at.result (joined_stamped n c.args.who c.in-Ok.row (outlet_mark c.args.outlet))) q) c.number-caller.ensures (
    passed_with h p q w (joined_stamped c.number-caller.result c.args.who c.in-Ok.row (outlet_mark c.args.outlet)) c.commit_joined-at.result c.connect.new.self c.requires.caller
    (subst (λ t. IsPassOf fixed_of t q) e.guard.0 k.1) knows k.0 e.same e.seen
    (subst (λ m. DeskStands c.connect.new.self (w.seen ++ connect_stamped c.number-caller.result c.args.who m (JoinedReply c.in-Ok.row.conn c.in-Ok.row.replaced) ∷ [])) c.requires.mark
    (c.in-Ok.ensures.stands w.seen stands)) (c.in-Ok.ensures.about ∙ about)
    )

pub returns-in-Ok-clause-due : goal.returns-in-Ok-clause-due
returns-in-Ok-clause-due g c =
    let h = c.args.self.now in
    let e = c.enter-guard.ensures in
    let w = guard_view c.enter-guard.result in
    let stands : DeskStands c.state.result.now w.seen = subst (λ d. DeskStands d w.seen) (sym c.state.ensures.value) e.stands in
    let about : c.state.result.now.about ≡ about_of h = ap (λ (d : Desk). d.about) c.state.ensures.value ∙ e.about ∙ h.fixed in
    c.in-Ok.ensures.due w.seen stands
    ∙ ap (λ (a : About). connect_due a (entries w.seen) c.args.who) about
    ∙ ap (λ (F : List Entry). connect_due (about_of h) F c.args.who) (sym (found_with c.commit_joined-at.new.pass w
    (joined_stamped c.number-caller.result c.of-note.result.value c.in-Ok.row (outlet_mark c.args.outlet)) c.commit_joined-at.result c.commit_joined-at.ensures.2 c.commit_joined-at.ensures.0))

pub returns-clause-pass : goal.returns-clause-pass
returns-clause-pass g c =
    let h = c.args.self.now in
    let e = c.enter-guard.ensures in
    let w = guard_view c.enter-guard.result in
    let stands : DeskStands c.state.result.now w.seen = subst (λ d. DeskStands d w.seen) (sym c.state.ensures.value) e.stands in
    let about : c.state.result.now.about ≡ about_of h = ap (λ (d : Desk). d.about) c.state.ensures.value ∙ e.about ∙ h.fixed in
    let arm = c.in-Err-Refused-default in
    let said : connect_said c.connect.result ≡ Some (RefusedReply arm.refusal) = ap connect_said arm.is ∙ ap said_by_no_row arm.field-0-0-is in
    let p = c.args.pass.now in
    let q = c.commit_refused-at.new.pass in
    let k = c.commit_refused-at.ensures in
    let knows = subst (λ who. view_of q ≡ after_commit (refused_stamped c.number-caller.result who arm.refusal) w) c.of-note.ensures k.2 in
    let stands_now = subst (λ r. DeskStands c.connect.new.self (w.seen ++ connect_adds c.number-caller.result c.args.who (inlet_mark c.args.inlet) r)) said (c.connect.ensures.stands w.seen stands) in
    subst (λ n. Passed h p [] (placed c.commit_refused-at.result (refused_stamped n c.args.who arm.refusal)) q) c.number-caller.ensures (
    passed_with h p q w (refused_stamped c.number-caller.result c.args.who arm.refusal) c.commit_refused-at.result c.connect.new.self c.requires.caller
    (subst (λ t. IsPassOf fixed_of t q) e.guard.0 k.1) knows k.0 e.same e.seen stands_now (c.connect.ensures.about ∙ about)
    )

pub returns-clause-due : goal.returns-clause-due
returns-clause-due g c =
    let h = c.args.self.now in
    let e = c.enter-guard.ensures in
    let w = guard_view c.enter-guard.result in
    let stands : DeskStands c.state.result.now w.seen = subst (λ d. DeskStands d w.seen) (sym c.state.ensures.value) e.stands in
    let about : c.state.result.now.about ≡ about_of h = ap (λ (d : Desk). d.about) c.state.ensures.value ∙ e.about ∙ h.fixed in
    let arm = c.in-Err-Refused-default in
    let said : connect_said c.connect.result ≡ Some (RefusedReply arm.refusal) = ap connect_said arm.is ∙ ap said_by_no_row arm.field-0-0-is in
    let k = c.commit_refused-at.ensures in
    let found = found_with c.commit_refused-at.new.pass w (refused_stamped c.number-caller.result c.of-note.result.value arm.refusal) c.commit_refused-at.result k.2 k.0 in
    sym said ∙ c.connect.ensures.due w.seen stands
    ∙ ap (λ (a : About). connect_due a (entries w.seen) c.args.who) about
    ∙ ap (λ (F : List Entry). connect_due (about_of h) F c.args.who) (sym found)
