-- Places in lists, and rows changed at a place.
-- It serves the clauses of `row_at`.
use Rattle.std.proofs.Common.{◌≡◌, ◌+◌, ◌<◌, ℕ, zero, suc, Bool, true, false, cond, List, [], ◌∷◌, length, get_or, find, Option, Some, None, refl, ap, sym, ◌∙◌, arith}
use Rattle.std.specs.List.{position}
use Rattle.std.specs.Option.{option_map}
use Rattle.std.proofs.lemmas.List.Quantifiers.{position-Some}
use Rattle.bsc_legality.specs.declared.row.Row.{Row}
use Rattle.bsc_lemmas.proofs.Lists.{position-cons}
use Rattle.bsc_lemmas.proofs.Options.{position_later as later}

-- positions

find_here : (p : Row → Bool) (rows : List Row) (i : ℕ) (r : Row) → i < length rows → p (get_or rows i r) ≡ true → ((k : ℕ) → k < i → p (get_or rows k r) ≡ false) → r ≡ get_or rows i r
    → find p rows ≡ Some r
find_here p [] i r within here before at = absurd (omega arith)
find_here p (x ∷ xs) zero r within here before at = rw here (ap Some (sym at))
find_here p (x ∷ xs) (suc i) r within here before at = rw (before 0 (omega arith)) (find_here p xs i r (omega arith) here (λ k h. before (suc k) (omega arith)) at)

-- a look-up finds the row at the place
pub find_placed : (p : Row → Bool) (rows : List Row) (i : ℕ) (r : Row) → position p rows ≡ Some i → r ≡ get_or rows i r → find p rows ≡ Some r
find_placed p rows i r place at = let q = position-Some p rows i r place in find_here p rows i r q.0 q.1 q.2 at

-- where there is no place, nothing is found
pub no_find : (p : Row → Bool) (rows : List Row) → position p rows ≡ None → find p rows ≡ None
no_find p [] none = refl
no_find p (x ∷ rows) none =
    let later : (o : Option ℕ) → option_map (λ i. 1 + i) o ≡ None → o ≡ None = λ o. elim o as (λ o. option_map (λ i. 1 + i) o ≡ None → o ≡ None) [ None ↦ λ e. refl | Some i ↦ λ e. cc ] in
    let by : (b : Bool) → cond b (Some 0) (option_map (λ i. 1 + i) (position p rows)) ≡ None
    → cond b (Some x) (find p rows) ≡ None = λ b. elim b as (λ b. cond b (Some 0) (option_map (λ i. 1 + i) (position p rows)) ≡ None
    → cond b (Some x) (find p rows) ≡ None) [ true ↦ λ e. cc | false ↦ λ e. no_find p rows (later (position p rows) e) ] in
    by (p x) (sym (position-cons p x rows) ∙ none)
