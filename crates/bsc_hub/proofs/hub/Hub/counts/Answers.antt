use Rattle.std.proofs.Common.{◌≡◌, [], ◌∷◌, ◌++◌, List, ap, sym, ◌∙◌, subst}
use Rattle.bsc_history.specs.declared.entry.Entry.{Entry}
use Rattle.bsc_history.specs.declared.limits.About.{About}
use Rattle.bsc_history.specs.Marks.{entries}
use Rattle.bsc_turn.specs.Passes.{IsPassOf, guard_view, seen}
use Rattle.bsc_desk.specs.declared.desk.Desk.{Desk}
use Rattle.bsc_desk.specs.Standing.{DeskStands}
use Rattle.bsc_hub.specs.Passing.{Passed, about_of, fixed_of}
use Rattle.bsc_hub.proofs.Passing.{found_back, found_with, passed_with, worn_found}
use Rattle.bsc_hub.specs.Calls.{count_stamped}
use Rattle.bsc_hub.proofs.hub.Hub.counts.Goals as goal

pub returns-in-Ok-clause-worn : goal.returns-in-Ok-clause-worn
returns-in-Ok-clause-worn g c =
    let h = c.args.self.now in
    let e = c.enter-guard.ensures in
    let w = guard_view c.enter-guard.result in
    let stands : DeskStands c.state.result.now w.seen = subst (λ d. DeskStands d w.seen) (sym c.state.ensures.value) e.stands in
    let about : c.state.result.now.about ≡ about_of h = ap (λ (d : Desk). d.about) c.state.ensures.value ∙ e.about ∙ h.fixed in
    worn_found _ _ _ w.seen _ about (found_with c.commit_count-at.new.pass w
    (count_stamped c.number-caller.result c.in-Ok.said) c.commit_count-at.result c.commit_count-at.ensures.2 c.commit_count-at.ensures.0) (c.in-Ok.ensures.worn w.seen stands)
