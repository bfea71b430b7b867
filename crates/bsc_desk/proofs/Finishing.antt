-- Rows that are finished, and rows that change one after the other.
-- It serves clauses of functions of `looking` and `rows`.
use Rattle.std.proofs.Common.{◌≡◌, ℕ, zero, suc, ◌+◌, ◌<◌, true, false, List, [], ◌∷◌, length, get_or, Option, Some, None, is_some, refl, ap, sym, ◌∙◌, subst, arith}
use Rattle.std.proofs.Math.ListN.{set}
use Rattle.std.specs.List.{list_any, position}
use Rattle.std.proofs.lemmas.Bool.{or_parts}
use Rattle.bsc_history.specs.declared.ending.End.{End}
use Rattle.bsc_desk.specs.declared.row.Row.{Row}
use Rattle.bsc_desk.specs.Changes.{EachBecomes, FinishesIf}
use Rattle.bsc_desk.specs.Live.{is_row}
use Rattle.bsc_desk.proofs.Walks.{has_number}
use Rattle.bsc_lemmas.proofs.Lists.{position_any}

stay : (conn : Option ℕ) (ending : End) (rows : List Row) → list_any (is_row conn) rows ≡ false → EachBecomes (λ r s. FinishesIf (is_row conn r) ending r s) rows rows
stay conn ending [] none = tt
stay conn ending (r ∷ rows) none =
    let two = or_parts (is_row conn r) (list_any (is_row conn) rows) none in
    (subst (λ b. FinishesIf b ending r r) (sym two.0) refl, stay conn ending rows two.1)

no_row : (rows : List Row) → list_any (is_row None) rows ≡ false
no_row [] = refl
no_row (r ∷ rows) = no_row rows

-- no connection is given, or it has no row
pub finish_nobody : (conn : Option ℕ) (ending : End) (rows : List Row) → conn ≡ None → EachBecomes (λ r s. FinishesIf (is_row conn r) ending r s) rows rows
finish_nobody conn ending rows none = stay conn ending rows (ap (λ (o : Option ℕ). list_any (is_row o) rows) none ∙ no_row rows)

pub finish_nowhere : (conn : Option ℕ) (c : ℕ) (ending : End) (rows : List Row) → conn ≡ Some c → position (has_number c) rows ≡ None
    → EachBecomes (λ r s. FinishesIf (is_row conn r) ending r s) rows rows
finish_nowhere conn c ending rows is none = stay conn ending rows (ap (λ (o : Option ℕ). list_any (is_row o) rows) is ∙ sym (position_any (has_number c) rows) ∙ ap is_some none)

-- R says how each of the first i rows became what it is now, and the others are as they were
abbrev pub DoneTo : (Row → Row → Type 0) → ℕ → List Row → List Row → Type 0
DoneTo R zero rows now = now ≡ rows
DoneTo R (suc i) (r ∷ rows) (s ∷ now) = R r s × DoneTo R i rows now
DoneTo R (suc i) rows now = ⊥

pub done_next : (R : Row → Row → Type 0) (i : ℕ) (rows now : List Row) (r s : Row) → i < length rows → DoneTo R i rows now → R (get_or now i r) s → DoneTo R (i + 1) rows (set now i s)
done_next R i rows now r s within h f = subst (λ k. DoneTo R k rows (set now i s)) (let e : suc i ≡ i + 1 = omega arith in e) (next i rows now within h f)
  where
    next : (i : ℕ) (rows now : List Row) → i < length rows → DoneTo R i rows now → R (get_or now i r) s → DoneTo R (suc i) rows (set now i s)
    next zero [] now within h f = absurd (omega arith)
    next zero (y ∷ rows) now within h f = subst (λ (l : List Row). DoneTo R 1 (y ∷ rows) (set l 0 s)) (sym h) (subst (λ (l : List Row). R (get_or l 0 r) s) h f, refl)
    next (suc i) (y ∷ rows) (n ∷ now) within h f = (h.0, next i rows now (omega arith) h.1 f)
    next (suc i) [] now within h f = absurd h
    next (suc i) (y ∷ rows) [] within h f = absurd h

pub done_all : (R : Row → Row → Type 0) (i : ℕ) (rows now : List Row) → i ≡ length rows → DoneTo R i rows now → EachBecomes R rows now
done_all R i rows now all h = end rows now (subst (λ k. DoneTo R k rows now) all h)
  where
    end : (rows now : List Row) → DoneTo R (length rows) rows now → EachBecomes R rows now
    end [] [] h = tt
    end [] (s ∷ now) h = cc
    end (r ∷ rows) (s ∷ now) h = (h.0, end rows now h.1)
    end (r ∷ rows) [] h = absurd h
