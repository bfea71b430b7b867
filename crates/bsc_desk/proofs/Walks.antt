-- Rows that change row by row, or at one place.
-- It serves clauses of most source files here.
use Rattle.std.proofs.Common.{◌≡◌, ◌≢◌, ℕ, zero, suc, ◌<◌, ◌==◌, Bool, true, false, cond, List, [], ◌∷◌, length, map, find, get_or, Option, Some, refl, ap, sym, ◌∙◌, subst, arith}
use Rattle.std.proofs.Math.ListN.{set}
use Rattle.std.specs.List.{position, AllByRecursion}
use Rattle.std.proofs.lemmas.Bool.{ne_eqb, eqb-true}
use Rattle.std.proofs.lemmas.List.Quantifiers.{position-Some}
use Rattle.bsc_history.specs.declared.connection.Connection.{Connection}
use Rattle.bsc_history.specs.Laws.{Apart}
use Rattle.bsc_desk.specs.declared.row.Row.{Row}
use Rattle.bsc_desk.specs.Changes.{ChangesAt, EachBecomes}
use Rattle.bsc_desk.specs.Live.{connection, number}

abbrev pub has_number : ℕ → Row → Bool
has_number c r = r.connection.number == c

-- what R leaves alone in each row

pub each_same : (R : Row → Row → Type 0) (rows : List Row) → ((r : Row) → R r r) → EachBecomes R rows rows
each_same R [] same = tt
each_same R (r ∷ rows) same = (same r, each_same R rows same)

pub each_weaker : (R T : Row → Row → Type 0) (rows after : List Row) → ((r s : Row) → R r s → T r s) → EachBecomes R rows after → EachBecomes T rows after
each_weaker R T [] [] f h = tt
each_weaker R T (r ∷ rows) (s ∷ after) f h = (f r s h.0, each_weaker R T rows after f h.1)
each_weaker R T rows after f h = absurd h

pub each_connections : (R : Row → Row → Type 0) (rows after : List Row) → ((r s : Row) → R r s → s.connection ≡ r.connection) → EachBecomes R rows after → map connection after ≡ map connection rows
each_connections R [] [] f h = refl
each_connections R (r ∷ rows) (s ∷ after) f h = ap (λ k. k ∷ map connection after) (f r s h.0) ∙ ap (λ l. connection r ∷ l) (each_connections R rows after f h.1)
each_connections R rows after f h = absurd h

-- what is said of each row before gives what is said of each row after
pub each_all : (R : Row → Row → Type 0) (P Q : Row → Type 0) (rows after : List Row) → ((r s : Row) → P r → R r s → Q s) → AllByRecursion P rows → EachBecomes R rows after → AllByRecursion Q after
each_all R P Q [] [] f all h = tt
each_all R P Q (r ∷ rows) (s ∷ after) f all h = (f r s all.0 h.0, each_all R P Q rows after f all.1 h.1)
each_all R P Q rows after f all h = absurd h

-- what R leaves alone in a row, it leaves alone in what a look-up by number finds
pub each_found : {A : Type 0} (g : Option Row → A) (R : Row → Row → Type 0) (c : ℕ) (rows after : List Row)
    → ((r s : Row) → R r s → (s.connection ≡ r.connection) × (g (Some s) ≡ g (Some r))) → EachBecomes R rows after → g (find (has_number c) after) ≡ g (find (has_number c) rows)
each_found g R c [] [] f h = refl
each_found g R c (r ∷ rows) (s ∷ after) f h =
    let same = f r s h.0 in
    let rest = each_found g R c rows after f h.1 in
    ap (λ (k : Connection). g (cond (k.number == c) (Some s) (find (has_number c) after))) same.0
    ∙ elim (r.connection.number == c) as (λ b. g (cond b (Some s) (find (has_number c) after)) ≡ g (cond b (Some r) (find (has_number c) rows))) [ true ↦ same.1 | false ↦ rest ]
each_found g R c rows after f h = absurd h

-- a change at one place

pub changes_set : (R : Row → Row → Type 0) (rows : List Row) (i : ℕ) (r s : Row) → i < length rows → r ≡ get_or rows i r → R r s → ChangesAt R i rows (set rows i s)
changes_set R [] i r s within at h = absurd (omega arith)
changes_set R (x ∷ rows) zero r s within at h = (subst (λ z. R z s) at h, refl)
changes_set R (x ∷ rows) (suc i) r s within at h = (refl, changes_set R rows i r s (omega arith) at h)

-- it is a change row by row, where a row may stay as it is
pub changes_each : (R T : Row → Row → Type 0) (i : ℕ) (rows after : List Row) → ((r s : Row) → R r s → T r s) → ((r : Row) → T r r) → ChangesAt R i rows after → EachBecomes T rows after
changes_each R T zero (r ∷ rows) (s ∷ after) f g h = (f r s h.0, subst (EachBecomes T rows) (sym h.1) (each_same T rows g))
changes_each R T (suc i) (r ∷ rows) (s ∷ after) f g h = (subst (λ z. T r z) (sym h.0) (g r), changes_each R T i rows after f g h.1)
changes_each R T i rows after f g h = absurd h

-- the place is the first at which a test passes, and no row behind it passes
abbrev pub OnlyAt : (Row → Bool) → ℕ → List Row → Type 0
OnlyAt t i [] = ⊥
OnlyAt t zero (r ∷ rows) = (t r ≡ true) × AllByRecursion (λ y. t y ≡ false) rows
OnlyAt t (suc i) (r ∷ rows) = (t r ≡ false) × OnlyAt t i rows

-- then it is a change of the rows that pass
pub changes_if : (R : Row → Row → Type 0) (t : Row → Bool) (i : ℕ) (rows after : List Row) (T : Bool → Row → Row → Type 0) → ((r s : Row) → R r s → T true r s) → ((r : Row) → T false r r)
    → OnlyAt t i rows → ChangesAt R i rows after → EachBecomes (λ r s. T (t r) r s) rows after
changes_if R t zero (r ∷ rows) (s ∷ after) T f g only h =
    (subst (λ b. T b r s) (sym only.0) (f r s h.0), subst (EachBecomes (λ r s. T (t r) r s) rows) (sym h.1) (stay rows only.1))
  where
    stay : (rows : List Row) → AllByRecursion (λ y. t y ≡ false) rows → EachBecomes (λ r s. T (t r) r s) rows rows
    stay [] all = tt
    stay (y ∷ rows) all = (subst (λ b. T b y y) (sym all.0) (g y), stay rows all.1)
changes_if R t (suc i) (r ∷ rows) (s ∷ after) T f g only h =
    (subst (λ z. T (t r) r z) (sym h.0) (subst (λ b. T b r r) (sym only.0) (g r)), changes_if R t i rows after T f g only.1 h.1)
changes_if R t i rows after T f g only h = absurd h

-- numbers

pub all_at : (P : Row → Type 0) (rows : List Row) (i : ℕ) (r : Row) → i < length rows → r ≡ get_or rows i r → AllByRecursion P rows → P r
all_at P [] i r within at h = absurd (omega arith)
all_at P (x ∷ rows) zero r within at h = subst P (sym at) h.0
all_at P (x ∷ rows) (suc i) r within at h = all_at P rows i r (omega arith) at h.1

pub all_map : (P : Connection → Type 0) (rows : List Row) → AllByRecursion P (map connection rows) → AllByRecursion (λ r. P (connection r)) rows
all_map P [] h = tt
all_map P (r ∷ rows) h = (h.0, all_map P rows h.1)

pub apart_rows : (rows : List Row) → Apart (λ (c : Connection). c.number) (map connection rows) → Apart number rows
apart_rows [] h = tt
apart_rows (r ∷ rows) h = (all_map (λ c. r.connection.number ≢ c.number) rows h.0, apart_rows rows h.1)

-- of rows with numbers of their own, only the one at the place passes
only_here : (c i : ℕ) (rows : List Row) (d : Row) → i < length rows → has_number c (get_or rows i d) ≡ true → ((k : ℕ) → k < i → has_number c (get_or rows k d) ≡ false) → Apart number rows
    → OnlyAt (has_number c) i rows
only_here c i [] d within here before apart = absurd (omega arith)
only_here c zero (r ∷ rows) d within here before apart = (here, others rows apart.0)
  where
    others : (rows : List Row) → AllByRecursion (λ y. number r ≢ number y) rows → AllByRecursion (λ y. has_number c y ≡ false) rows
    others [] all = tt
    others (y ∷ rows) all = (ne_eqb y.connection.number c (λ e. all.0 (eqb-true r.connection.number c here ∙ sym e)), others rows all.1)
only_here c (suc i) (r ∷ rows) d within here before apart = (before 0 (omega arith), only_here c i rows d (omega arith) here (λ k h. before (suc k) (omega arith)) apart.1)

pub only_number : (c i : ℕ) (rows : List Row) (r : Row) → position (has_number c) rows ≡ Some i → Apart number rows → OnlyAt (has_number c) i rows
only_number c i rows r place apart = let p = position-Some (has_number c) rows i r place in only_here c i rows r p.0 p.1 p.2 apart
