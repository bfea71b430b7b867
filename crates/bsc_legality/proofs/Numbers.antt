-- Rows in the order of their numbers, searched by a number.
-- It serves clauses of functions of `changing`, `following`, `legality` and `rows`.
use Rattle.std.proofs.Common.{◌≡◌, ◌≢◌, ◌<◌, ◌≤◌, ◌+◌, inl, inr, ℕ, zero, suc, nat_lt, Bool, true, false, cond, List, [], ◌∷◌, length, get_or, Some, None, Result, Ok, Err, refl, ap, sym, ◌∙◌, arith}
use Rattle.std.specs.List.{AllByRecursion, list_all, position}
use Rattle.std.specs.List.Sorted.{IsSearchInRange, IsBinarySearchResult, IsNonDecreasingBy}
use Rattle.std.specs.Ordering.{nat_cmp, ordering_index}
use Rattle.std.specs.Option.{option_map}
use Rattle.std.specs.Result.{result_ok}
use Rattle.std.proofs.lemmas.Cmp.{ranked}
use Rattle.std.proofs.lemmas.Bool.{and_parts, cases_lt, cases_eq, eq-eqb, ne_eqb, ltb-true}
use Rattle.std.proofs.lemmas.Bool.Decides.{nat_tests}
use Rattle.bsc_legality.specs.declared.row.Row.{Row}
use Rattle.bsc_legality.specs.Rows.{has_number, rising}
use Rattle.bsc_lemmas.proofs.Lists.{position-cons}

pub all_at : (p : Row → Bool) (rows : List Row) (i : ℕ) (d : Row) → i < length rows → list_all p rows ≡ true → p (get_or rows i d) ≡ true
all_at p [] i d within all = absurd (omega arith)
all_at p (r ∷ rows) zero d within all = (and_parts (p r) (list_all p rows) all).0
all_at p (r ∷ rows) (suc i) d within all = all_at p rows i d (omega arith) (and_parts (p r) (list_all p rows) all).1

-- whether the number of a row is below that of another
abbrev pub below : Row → Row → Bool
below r s = nat_lt r.connection.number s.connection.number

pub rising_parts : (r : Row) (rows : List Row) → rising (r ∷ rows) ≡ true → (list_all (below r) rows ≡ true) × (rising rows ≡ true)
rising_parts r rows h = and_parts (list_all (below r) rows) (rising rows) h

pub rises_at : (rows : List Row) (i j : ℕ) (d : Row) → rising rows ≡ true → i < j → j < length rows → (get_or rows i d).connection.number < (get_or rows j d).connection.number
rises_at [] i j d rise before within = absurd (omega arith)
rises_at (r ∷ rows) i zero d rise before within = absurd (omega arith)
rises_at (r ∷ rows) zero (suc j) d rise before within = ltb-true r.connection.number (get_or rows j d).connection.number (all_at (below r) rows j d (omega arith) (rising_parts r rows rise).0)
rises_at (r ∷ rows) (suc i) (suc j) d rise before within = rises_at rows i j d (rising_parts r rows rise).1 (omega arith) (omega arith)

no_lower : (rows : List Row) (i j : ℕ) (d : Row) → rising rows ≡ true → i ≤ j → j < length rows → (get_or rows i d).connection.number ≤ (get_or rows j d).connection.number
no_lower rows i j d rise up within = elim (cases_eq i j) [
  | inl same ↦ (let e : (get_or rows i d).connection.number ≡ (get_or rows j d).connection.number = ap (λ (n : ℕ). (get_or rows n d).connection.number) same in omega arith)
  | inr other ↦ (let less = rises_at rows i j d rise (omega (arith, other)) within in omega arith)
]

comparisons_rise : (conn : ℕ) (rows : List Row) → rising rows ≡ true → IsNonDecreasingBy (λ r. ordering_index (nat_cmp r.connection.number conn)) rows
comparisons_rise conn rows rise i j d up within = let low = no_lower rows i j d rise up within in grind (arith, nat_tests)

other_number : (conn : ℕ) (rows : List Row) → ((k : ℕ) (d : Row) → k < length rows → (get_or rows k d).connection.number ≢ conn) → position (has_number conn) rows ≡ None
other_number conn [] none = refl
other_number conn (r ∷ rows) none =
    position-cons (has_number conn) r rows
    ∙ ap (λ (b : Bool). cond b (Some 0) (option_map (λ i. 1 + i) (position (has_number conn) rows))) (ne_eqb r.connection.number conn (none 0 r (omega arith)))
    ∙ ap (option_map (λ i. 1 + i)) (other_number conn rows (λ k d within. none (suc k) d (omega arith)))

pub at_place : (conn : ℕ) (rows : List Row) (i : ℕ) → rising rows ≡ true → i < length rows → ((d : Row) → (get_or rows i d).connection.number ≡ conn) → position (has_number conn) rows ≡ Some i
at_place conn [] i rise within here = absurd (omega arith)
at_place conn (r ∷ rows) zero rise within here = position-cons (has_number conn) r rows
    ∙ ap (λ (b : Bool). cond b (Some 0) (option_map (λ i. 1 + i) (position (has_number conn) rows))) (eq-eqb r.connection.number conn (here r))
at_place conn (r ∷ rows) (suc i) rise within here =
    let less = rises_at (r ∷ rows) 0 (suc i) r rise (omega arith) within in
    let same = here r in
    position-cons (has_number conn) r rows
    ∙ ap (λ (b : Bool). cond b (Some 0) (option_map (λ i. 1 + i) (position (has_number conn) rows))) (ne_eqb r.connection.number conn (λ e. omega arith))
    ∙ ap (option_map (λ i. 1 + i)) (at_place conn rows i (rising_parts r rows rise).1 (omega arith) here)
    ∙ (let e : 1 + i ≡ suc i = omega arith in ap Some e)

-- a search by a number ends at its first place
pub searched : (conn : ℕ) (rows : List Row) (r : Result ℕ ℕ) → rising rows ≡ true → IsSearchInRange r (length rows) → IsBinarySearchResult (λ x. nat_cmp x.connection.number conn) rows r
    → result_ok r ≡ position (has_number conn) rows
searched conn rows (Ok i) rise within equal = sym (at_place conn rows i rise within (λ d. ranked (get_or rows i d).connection.number conn _ (sym (equal d))))
searched conn rows (Err i) rise within parts =
    let split = parts (comparisons_rise conn rows rise) in
    sym (other_number conn rows (λ k d there. elim (cases_lt k i) [
      | inl less ↦ (let low : (get_or rows k d).connection.number < conn = ranked (get_or rows k d).connection.number conn _ (sym (split.0 k d (omega arith) less)) in λ e. omega arith)
      | inr more ↦ (let high : conn < (get_or rows k d).connection.number = ranked (get_or rows k d).connection.number conn _ (sym (split.1 k d more there)) in λ e. omega arith)
    ]))

-- of rows in order none after the first has its number
pub others : (c : ℕ) (r : Row) (rows : List Row) → r.connection.number ≡ c → list_all (below r) rows ≡ true → AllByRecursion (λ s. has_number c s ≡ false) rows
others c r [] is above = tt
others c r (s ∷ rows) is above =
    let two = and_parts (below r s) (list_all (below r) rows) above in
    let less = ltb-true r.connection.number s.connection.number two.0 in
    (ne_eqb s.connection.number c (λ e. omega arith), others c r rows is two.1)
