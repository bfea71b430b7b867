-- The row of a connection tells whose it is.
-- It serves the clauses of `is_of`.
use Rattle.std.proofs.Common.{◌≡◌, ℕ, ◌==◌, Bool, true, false, ◌&&◌, ◌||◌, cond, List, [], ◌∷◌, Some, refl, ap, sym, ◌∙◌}
use Rattle.std.specs.List.{AllByRecursion}
use Rattle.std.proofs.lemmas.Bool.{eqb-true}
use Rattle.bsc_legality.specs.declared.row.Row.{Row}
use Rattle.bsc_legality.specs.Deciding.{is_of_in}
use Rattle.bsc_legality.specs.Rows.{has_number, is_by, rising, row_of}
use Rattle.bsc_legality.proofs.Numbers.{others, rising_parts}
use Rattle.bsc_lemmas.proofs.Booleans.{or_false}

none_of : (caller c : ℕ) (rows : List Row) → AllByRecursion (λ s. has_number c s ≡ false) rows → is_of_in rows caller c ≡ false
none_of caller c [] all = refl
none_of caller c (r ∷ rows) all = ap (λ (b : Bool). (b && (r.connection.caller == caller)) || is_of_in rows caller c) all.0 ∙ none_of caller c rows all.1

pub is_by_row : (caller c : ℕ) (rows : List Row) → rising rows ≡ true → is_by (row_of rows c) caller ≡ is_of_in rows caller c
is_by_row caller c [] rise = refl
is_by_row caller c (r ∷ rows) rise =
    let two = rising_parts r rows rise in
    let G = λ (b : Bool). is_by (cond b (Some r) (row_of rows c)) caller ≡ ((b && (r.connection.caller == caller)) || is_of_in rows caller c) in
    let by : (b : Bool) → has_number c r ≡ b → G b = λ b. elim b as (λ b. has_number c r ≡ b → G b) [
      | true ↦ λ e. sym (ap (λ (b : Bool). (r.connection.caller == caller) || b) (none_of caller c rows (others c r rows (eqb-true r.connection.number c e) two.0))
          ∙ or_false (r.connection.caller == caller))
      | false ↦ λ e. is_by_row caller c rows two.1
    ] in
    by (has_number c r) refl
