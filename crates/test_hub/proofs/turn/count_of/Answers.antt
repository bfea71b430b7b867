use Rattle.std.proofs.Common.{◌≡◌, ◌∷◌, ◌++◌, List, length, ap, ◌∙◌, arith}
use Rattle.bsc_history.specs.declared.entry.Entry.{Entry}
use Rattle.test_hub.specs.declared.turn.Counter.{Counter}
use Rattle.bsc_turn.specs.declared.view.View.{View}
use Rattle.bsc_turn.specs.Effects.{IsConsistent, ended_of}
use Rattle.bsc_turn.specs.Passes.{guard_view, own_list, ended_callers, view_of}
use Rattle.test_hub.proofs.turn.count_of.Goals as goal

pub returns : goal.returns
returns g c =
    let v : View = guard_view c.enter-guard.result in
    let w : View = view_of c.args.other in
    let t : IsConsistent v = c.enter-guard.ensures.guard.1.2 in
    let ended : v.ended ≡ ended_callers c.args.pass ++ ended_of w ∷ ended_callers c.args.other = ap (λ (x : View). x.ended) c.enter-guard.ensures.same ∙ c.join.ensures.kept in
    let own : v.own ≡ own_list c.args.pass = ap (λ (x : View). x.own) c.enter-guard.ensures.same ∙ c.join.ensures.own in
    let both = c.two_callers.ensures v (ended_callers c.args.pass) (ended_of w) (ended_callers c.args.other) t ended in
    let mine = ap (λ (x : List Entry). length x) own in
    let count : c.state.result.now.count ≡ length v.seen = ap (λ (x : Counter). x.count) c.state.ensures.value ∙ c.enter-guard.ensures.stands in
    omega (arith, both, mine, count)
