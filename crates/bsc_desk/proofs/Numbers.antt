-- Rows in the order of their numbers, searched by a number.
-- It serves clauses of functions of `connecting`, `desk` and `rows`.
use Rattle.std.proofs.Common.{◌≡◌, ◌≢◌, ◌<◌, ◌≤◌, ◌+◌, ◌==◌, inl, inr, ℕ, zero, suc, Bool, true, false, cond, List, [], ◌∷◌, length, map, find, get_or, Option, Some, None, Result}
use Rattle.std.proofs.Common.{Ok, Err, refl, ap, sym, ◌∙◌, arith}
use Rattle.std.specs.List.{position}
use Rattle.std.specs.List.Sorted.{IsSearchInRange, IsBinarySearchResult, IsNonDecreasingBy}
use Rattle.std.specs.Ordering.{nat_cmp, ordering_index}
use Rattle.std.specs.Option.{option_map}
use Rattle.std.specs.Result.{result_ok}
use Rattle.std.proofs.lemmas.Cmp.{ranked}
use Rattle.std.proofs.lemmas.Bool.{cases_lt, cases_eq, eq-eqb, ne_eqb, ltb-true}
use Rattle.std.proofs.lemmas.Bool.Decides.{nat_tests}
use Rattle.bsc_history.specs.Laws.{Apart}
use Rattle.bsc_history.specs.declared.connection.Connection.{Connection}
use Rattle.bsc_desk.specs.declared.row.Row.{Row}
use Rattle.bsc_desk.specs.Orders.{in_order}
use Rattle.bsc_desk.specs.Rising.{rises}
use Rattle.bsc_desk.specs.Live.{connection, number}
use Rattle.bsc_desk.proofs.Orders.{InOrder, order_true, order-at, all-map}
use Rattle.bsc_desk.proofs.Walks.{apart_rows, has_number}
use Rattle.bsc_lemmas.proofs.Lists.{position-cons}

abbrev Rises : Row → Row → Type 0
Rises r s = rises r s ≡ true

-- the number of a row is below that of another
below : (r s : Row) → rises r s ≡ true → r.connection.number < s.connection.number
below r s h = ltb-true r.connection.number s.connection.number h

-- rows that rise have numbers that are apart
pub apart : (rows : List Row) → InOrder Rises rows → Apart (λ (x : Connection). x.number) (map connection rows)
apart [] order = tt
apart (r ∷ rows) order = (all-map (Rises r) (λ (x : Connection). r.connection.number ≢ x.number) connection rows (λ s h same. (let less = below r s h in omega arith)) order.0, apart rows order.1)

no_lower : (rows : List Row) (i j : ℕ) (d : Row) → InOrder Rises rows → i ≤ j → j < length rows → (get_or rows i d).connection.number ≤ (get_or rows j d).connection.number
no_lower rows i j d order up within = elim (cases_eq i j) [
  | inl same ↦ (let e : (get_or rows i d).connection.number ≡ (get_or rows j d).connection.number = ap (λ (n : ℕ). (get_or rows n d).connection.number) same in omega arith)
  | inr other ↦ (let less = below (get_or rows i d) (get_or rows j d) (order-at Rises rows i j d order (omega (arith, other)) within) in omega arith)
]

comparisons_rise : (conn : ℕ) (rows : List Row) → InOrder Rises rows → IsNonDecreasingBy (λ r. ordering_index (nat_cmp r.connection.number conn)) rows
comparisons_rise conn rows order i j d up within = let rise = no_lower rows i j d order up within in grind (arith, nat_tests)

other_number : (conn : ℕ) (rows : List Row) → ((k : ℕ) (d : Row) → k < length rows → (get_or rows k d).connection.number ≢ conn) → position (has_number conn) rows ≡ None
other_number conn [] none = refl
other_number conn (r ∷ rows) none =
    position-cons (has_number conn) r rows
    ∙ ap (λ (b : Bool). cond b (Some 0) (option_map (λ i. 1 + i) (position (has_number conn) rows))) (ne_eqb r.connection.number conn (none 0 r (omega arith)))
    ∙ ap (option_map (λ i. 1 + i)) (other_number conn rows (λ k d within. none (suc k) d (omega arith)))

pub at_place : (conn : ℕ) (rows : List Row) (i : ℕ) → InOrder Rises rows → i < length rows → ((d : Row) → (get_or rows i d).connection.number ≡ conn) → position (has_number conn) rows ≡ Some i
at_place conn [] i order within here = absurd (omega arith)
at_place conn (r ∷ rows) zero order within here = position-cons (has_number conn) r rows
    ∙ ap (λ (b : Bool). cond b (Some 0) (option_map (λ i. 1 + i) (position (has_number conn) rows))) (eq-eqb r.connection.number conn (here r))
at_place conn (r ∷ rows) (suc i) order within here =
    let less = below r (get_or rows i r) (order-at Rises (r ∷ rows) 0 (suc i) r order (omega arith) within) in
    let same = here r in
    position-cons (has_number conn) r rows
    ∙ ap (λ (b : Bool). cond b (Some 0) (option_map (λ i. 1 + i) (position (has_number conn) rows))) (ne_eqb r.connection.number conn (λ e. omega arith))
    ∙ ap (option_map (λ i. 1 + i)) (at_place conn rows i order.1 (omega arith) here)
    ∙ (let e : 1 + i ≡ suc i = omega arith in ap Some e)

-- a search by a number ends at its first place
pub searched : (conn : ℕ) (rows : List Row) (r : Result ℕ ℕ) → in_order rises rows ≡ true → IsSearchInRange r (length rows)
    → IsBinarySearchResult (λ x. nat_cmp x.connection.number conn) rows r → result_ok r ≡ position (has_number conn) rows
searched conn rows (Ok i) order within equal = sym (at_place conn rows i (order_true rises rows order) within (λ d. ranked (get_or rows i d).connection.number conn _ (sym (equal d))))
searched conn rows (Err i) order within parts =
    let split = parts (comparisons_rise conn rows (order_true rises rows order)) in
    sym (other_number conn rows (λ k d there. elim (cases_lt k i) [
      | inl less ↦ (let low : (get_or rows k d).connection.number < conn = ranked (get_or rows k d).connection.number conn _ (sym (split.0 k d (omega arith) less)) in λ e. omega arith)
      | inr more ↦ (let high : conn < (get_or rows k d).connection.number = ranked (get_or rows k d).connection.number conn _ (sym (split.1 k d more there)) in λ e. omega arith)
    ]))

pub rows_rise : (rows : List Row) → in_order rises rows ≡ true → Apart number rows
rows_rise rows h = apart_rows rows (apart rows (order_true rises rows h))

-- where there is no place, none is found
pub none_found : (conn : ℕ) (rows : List Row) → position (has_number conn) rows ≡ None → find (has_number conn) rows ≡ None
none_found conn [] none = refl
none_found conn (r ∷ rows) none =
    let Goal = λ (b : Bool). cond b (Some 0) (option_map (λ i. 1 + i) (position (has_number conn) rows)) ≡ None → cond b (Some r) (find (has_number conn) rows) ≡ None in
    let later : (o : Option ℕ) → option_map (λ i. 1 + i) o ≡ None → o ≡ None = λ o. elim o as (λ o. option_map (λ i. 1 + i) o ≡ None → o ≡ None) [ None ↦ λ e. refl | Some i ↦ λ e. cc ] in
    let by : (b : Bool) → Goal b = λ b. elim b as Goal [ true ↦ λ e. cc | false ↦ λ e. none_found conn rows (later (position (has_number conn) rows) e) ] in
    by (r.connection.number == conn) (sym (position-cons (has_number conn) r rows) ∙ none)
