use Rattle.std.proofs.Common.{◌≡◌, [], ◌∷◌, ◌++◌, List, ap, sym, ◌∙◌, subst}
use Rattle.bsc_history.specs.declared.entry.Entry.{Entry}
use Rattle.bsc_history.specs.declared.limits.About.{About}
use Rattle.bsc_history.specs.Marks.{entries}
use Rattle.bsc_turn.specs.Passes.{IsPassOf, guard_view, seen}
use Rattle.bsc_desk.specs.declared.desk.Desk.{Desk}
use Rattle.bsc_desk.specs.Standing.{DeskStands}
use Rattle.bsc_hub.specs.Passing.{Passed, about_of, fixed_of}
use Rattle.bsc_hub.proofs.Passing.{found_back, found_with, stopped_found}
use Rattle.bsc_history.specs.Counting.{counts}
use Rattle.bsc_hub.specs.Calls.{stop_stamped}
use Rattle.bsc_hub.proofs.hub.Hub.stop.Goals as goal

pub returns-in-Ok-clause-due : goal.returns-in-Ok-clause-due
returns-in-Ok-clause-due g c =
    let h = c.args.self.now in
    let e = c.enter-guard.ensures in
    let w = guard_view c.enter-guard.result in
    let stands : DeskStands c.state.result.now w.seen = subst (λ d. DeskStands d w.seen) (sym c.state.ensures.value) e.stands in
    c.in-Ok.ensures.due w.seen stands ∙ ap counts (sym (found_with c.commit_stop-at.new.pass w
    (stop_stamped c.number-caller.result c.in-Ok.said) c.commit_stop-at.result c.commit_stop-at.ensures.2 c.commit_stop-at.ensures.0))

pub returns-in-Ok-clause-refused : goal.returns-in-Ok-clause-refused
returns-in-Ok-clause-refused g c =
    let h = c.args.self.now in
    let e = c.enter-guard.ensures in
    let w = guard_view c.enter-guard.result in
    let stands : DeskStands c.state.result.now w.seen = subst (λ d. DeskStands d w.seen) (sym c.state.ensures.value) e.stands in
    stopped_found _ w.seen _ (found_with c.commit_stop-at.new.pass w (stop_stamped c.number-caller.result c.in-Ok.said) c.commit_stop-at.result c.commit_stop-at.ensures.2 c.commit_stop-at.ensures.0)
    (c.in-Ok.ensures.refused w.seen stands)
