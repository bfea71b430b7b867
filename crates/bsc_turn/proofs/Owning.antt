-- A caller's own entries, by what its view says of them.
-- It serves the clauses of `entering_keeps_own`, `own_is_all` and `two_callers`.
use Rattle.std.proofs.Common.{◌≡◌, ◌+◌, ◌≤◌, ℕ, List, ◌∷◌, ◌++◌, length, sym, ◌∙◌, ap, subst, arith}
use mathlib.Core.Option.{some}
use lib.ListN.{get_elem?}
use Rattle.bsc_history.specs.declared.entry.Entry.{Entry}
use Rattle.bsc_history.specs.declared.limits.About.{About}
use Rattle.bsc_history.specs.declared.mark.Stamped.{Stamped}
use Rattle.bsc_turn.specs.declared.view.EndedCaller.{EndedCaller}
use Rattle.bsc_turn.specs.declared.view.View.{View}
use Rattle.bsc_turn.specs.Effects.{IsConsistent, having_seen}
use Rattle.bsc_turn.specs.Histories.{own_of}
use Rattle.bsc_turn.specs.Passes.{IsSound}
use Rattle.bsc_turn.proofs.Beginnings.{two_own}
use Rattle.bsc_turn.proofs.Uniting.{at_middle}

-- the own list of a view is all that it has seen of its number
pub own_is : (n : ℕ) (a : About) (callers : ℕ) (v : View) → IsSound n a callers v → own_of v.seen n ≡ v.own
own_is n a callers v s = ap (own_of v.seen) (sym s.2) ∙ s.5.0

-- a view before its caller entered and the guard's view tell of the same own entries
pub same_own : (v w : View) (H : List Stamped) → w ≡ having_seen H v → IsConsistent v → IsConsistent w → own_of H v.number ≡ own_of v.seen v.number
same_own v w H e tv tw = ap (λ (x : View). own_of x.seen x.number) (sym e) ∙ tw.0 ∙ ap (λ (x : View). x.own) e ∙ sym tv.0

-- a caller's own entries and those of one that ended in its pass are no more than it has seen
pub two_callers_own : (v : View) (m : List EndedCaller) (e : EndedCaller) (l : List EndedCaller) → IsConsistent v → v.ended ≡ m ++ e ∷ l → length v.own + length e.own ≤ length v.seen
two_callers_own v m e l t is =
    let has : get_elem? v.ended (length m) ≡ some e = subst (λ (x : List EndedCaller). get_elem? x (length m) ≡ some e) (sym is) (at_middle m e l) in
    let its = t.1 (length m) e has in
    let both = two_own v.seen v.number e.number its.0 in
    let mine = ap (λ (x : List Entry). length x) t.0 in
    let other = ap (λ (x : List Entry). length x) its.1 in
    omega (arith, both, mine, other)
