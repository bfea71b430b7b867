use Rattle.std.proofs.Common.{◌≡◌, [], ◌∷◌, ◌++◌, List, ap, sym, ◌∙◌, subst}
use Rattle.bsc_history.specs.declared.entry.Entry.{Entry}
use Rattle.bsc_history.specs.declared.limits.About.{About}
use Rattle.bsc_history.specs.Marks.{entries}
use Rattle.bsc_turn.specs.Passes.{IsPassOf, guard_view, seen}
use Rattle.bsc_desk.specs.declared.desk.Desk.{Desk}
use Rattle.bsc_desk.specs.Standing.{DeskStands}
use Rattle.bsc_hub.specs.Passing.{Passed, about_of, fixed_of}
use Rattle.bsc_hub.proofs.Passing.{found_back, found_with, passed_with, worn_found}
use Rattle.bsc_history.specs.Replies.{forward_reply}
use Rattle.bsc_desk.specs.Entries.{all_looks}
use Rattle.bsc_hub.specs.Calls.{all_stamped, placed}
use Rattle.bsc_hub.proofs.Guarding.{guard_sender}
use Rattle.bsc_hub.proofs.hub.Hub.forward_all.Goals as goal

pub forward_all-requires-clause-unleft : goal.forward_all-requires-clause-unleft
forward_all-requires-clause-unleft g c =
    let h = c.args.self.now in
    let e = c.enter-guard.ensures in
    let w = guard_view c.enter-guard.result in
    let stands : DeskStands c.state.result.now w.seen = subst (λ d. DeskStands d w.seen) (sym c.state.ensures.value) e.stands in
    let s = c.requires.caller.0.1.1 in
    guard_sender c.state.result.now c.args.pass.now c.number-caller.result c.args.conn c.args.frame.now.sender w stands e.seen e.same e.guard.1.2 s.5 s.2 c.number-caller.ensures c.requires.own

pub returns-in-Err-clause-worn : goal.returns-in-Err-clause-worn
returns-in-Err-clause-worn g c =
    let h = c.args.self.now in
    let e = c.enter-guard.ensures in
    let w = guard_view c.enter-guard.result in
    let stands : DeskStands c.state.result.now w.seen = subst (λ d. DeskStands d w.seen) (sym c.state.ensures.value) e.stands in
    let about : c.state.result.now.about ≡ about_of h = ap (λ (d : Desk). d.about) c.state.ensures.value ∙ e.about ∙ h.fixed in
    worn_found _ _ _ w.seen _ about (found_back c.back.new.pass w c.back.ensures.knows) (c.in-Err.ensures.worn w.seen stands)

pub returns-in-Ok-clause-pass : goal.returns-in-Ok-clause-pass
returns-in-Ok-clause-pass g c =
    let h = c.args.self.now in
    let e = c.enter-guard.ensures in
    let w = guard_view c.enter-guard.result in
    let stands : DeskStands c.state.result.now w.seen = subst (λ d. DeskStands d w.seen) (sym c.state.ensures.value) e.stands in
    let about : c.state.result.now.about ≡ about_of h = ap (λ (d : Desk). d.about) c.state.ensures.value ∙ e.about ∙ h.fixed in
    let p = c.args.pass.now in
    let q = c.commit_all-at.new.pass in
    let k = c.commit_all-at.ensures in
    subst (λ n. Passed h p [] (placed c.commit_all-at.result (all_stamped n c.args.conn c.args.frame.now.message c.in-Ok.said)) q) c.number-caller.ensures (
    passed_with h p q w (all_stamped c.number-caller.result c.args.conn c.args.frame.now.message c.in-Ok.said) c.commit_all-at.result c.forward_all.new.self c.requires.caller
    (subst (λ t. IsPassOf fixed_of t q) e.guard.0 k.1) k.2 k.0 e.same e.seen (c.in-Ok.ensures.stands w.seen stands) (c.in-Ok.ensures.about ∙ about)
    )

pub returns-in-Ok-clause-due : goal.returns-in-Ok-clause-due
returns-in-Ok-clause-due g c =
    let h = c.args.self.now in
    let e = c.enter-guard.ensures in
    let w = guard_view c.enter-guard.result in
    let stands : DeskStands c.state.result.now w.seen = subst (λ d. DeskStands d w.seen) (sym c.state.ensures.value) e.stands in
    let about : c.state.result.now.about ≡ about_of h = ap (λ (d : Desk). d.about) c.state.ensures.value ∙ e.about ∙ h.fixed in
    let found = found_with c.commit_all-at.new.pass w
    (all_stamped c.number-caller.result c.args.conn c.args.frame.now.message c.in-Ok.said) c.commit_all-at.result c.commit_all-at.ensures.2 c.commit_all-at.ensures.0 in
    c.in-Ok.ensures.due w.seen stands
    ∙ ap (λ (a : About). forward_reply a (entries w.seen) c.args.conn c.args.frame.now.message (all_looks c.in-Ok.said)) about
    ∙ ap (λ (F : List Entry). forward_reply (about_of h) F c.args.conn c.args.frame.now.message (all_looks c.in-Ok.said)) (sym found)

pub returns-in-Ok-clause-worn : goal.returns-in-Ok-clause-worn
returns-in-Ok-clause-worn g c =
    let h = c.args.self.now in
    let e = c.enter-guard.ensures in
    let w = guard_view c.enter-guard.result in
    let stands : DeskStands c.state.result.now w.seen = subst (λ d. DeskStands d w.seen) (sym c.state.ensures.value) e.stands in
    let about : c.state.result.now.about ≡ about_of h = ap (λ (d : Desk). d.about) c.state.ensures.value ∙ e.about ∙ h.fixed in
    worn_found _ _ _ w.seen _ about (found_with c.commit_all-at.new.pass w
    (all_stamped c.number-caller.result c.args.conn c.args.frame.now.message c.in-Ok.said) c.commit_all-at.result c.commit_all-at.ensures.2 c.commit_all-at.ensures.0)
    (c.in-Ok.ensures.worn w.seen stands)
