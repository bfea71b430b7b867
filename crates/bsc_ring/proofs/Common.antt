-- Lemmas that crates above cite too.
-- It serves bsc_desk, bsc_hub_core and bsc_script_laws.
use Rattle.bsc_history.specs.declared.ending.End.{End}
use Rattle.bsc_ring.specs.Ends.{IsNewOutlet, FoundEnd}
use Rattle.bsc_ring.specs.Lists.{StartsWith}
use Rattle.bsc_ring.specs.declared.ends.Outlet.{Outlet}
use Rattle.bsc_ring.specs.declared.found.Found.{Found}
use Rattle.std.proofs.Common.{length-append, ◌≡◌, ◌+◌, arith, ◌∙◌, length, ◌≤◌, List, ap, ℕ, ◌∷◌, refl, ◌++◌, [], append-nil}
use lib.ListN.{get_elem?}
use mathlib.Core.Option.{some}

pub short_of : (whole front : List (List ℕ)) → StartsWith whole front → length front ≤ length whole
short_of whole front w =
    let same : length whole ≡ length front + length w.0 = ap length w.1 ∙ length-append front w.0 in
    omega arith

pub same_fronts : (xs ys : List (List ℕ)) → StartsWith xs ys → StartsWith ys xs → xs ≡ ys
same_fronts xs ys v w =
    let a : length xs ≡ length ys + length v.0 = ap length v.1 ∙ length-append ys v.0 in
    let b : length ys ≡ length xs + length w.0 = ap length w.1 ∙ length-append xs w.0 in
    v.1 ∙ ap (λ (l : List (List ℕ)). ys ++ l) (none v.0 (omega arith)) ∙ append-nil ys
  where
    none : (l : List (List ℕ)) → length l ≡ 0 → l ≡ []
    none [] h = refl
    none (x ∷ l) h = cc

pub at_end : (xs ys : List Found) (y : Found) → get_elem? (xs ++ y ∷ ys) (length xs) ≡ some y
at_end [] ys y = refl
at_end (x ∷ xs) ys y = at_end xs ys y

pub nothing_found : (o : Outlet) → IsNewOutlet o → (e : End) → FoundEnd o e → ⊥
nothing_found o new e f = (let bad = rw new.2 at f.1 in cc)
