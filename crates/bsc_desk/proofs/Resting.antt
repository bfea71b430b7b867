-- What the rows of a desk count, and rows that are looked at.
-- It serves the clauses of `count_open` and `status`.
use Rattle.std.proofs.Common.{◌≡◌, ℕ, List, [], ◌∷◌, drop, length, filter, refl, ap, sym, ◌∙◌}
use Rattle.std.proofs.lemmas.List.{length-map}
use Rattle.std.specs.Prelude.{Some}
use Rattle.bsc_history.specs.declared.connection.Connection.{Connection}
use Rattle.bsc_history.specs.declared.mark.Stamped.{Stamped}
use Rattle.bsc_history.specs.Ends.{live, unleft}
use Rattle.bsc_history.specs.Marks.{entries}
use Rattle.bsc_desk.specs.declared.desk.Desk.{Desk}
use Rattle.bsc_desk.specs.declared.row.Row.{Row}
use Rattle.bsc_desk.specs.Changes.{IsSameRow, Rests}
use Rattle.bsc_desk.specs.Live.{connection, is_open, known_in}
use Rattle.bsc_desk.specs.Standing.{DeskStands}
use Rattle.bsc_desk.proofs.Filing.{StaysFiled}
use Rattle.bsc_desk.proofs.LiveRows.{live_rows}
use Rattle.bsc_desk.proofs.Meets.{same_files}

pub count_live : (d : Desk) (S : List Stamped) → DeskStands d S → length (filter is_open d.rows.items) ≡ length (live (entries S))
count_live d S p = sym (ap (λ (l : List Connection). length l) (live_rows d S p) ∙ length-map (filter is_open d.rows.items) connection)

pub count_unleft : (d : Desk) (S : List Stamped) → DeskStands d S → length d.rows.items ≡ length (unleft (entries S))
count_unleft d S p = sym (length-map d.rows.items connection) ∙ ap (λ (l : List Connection). length l) p.unleft_rows

-- what stays of a row that is looked at
pub rests_same : (r s : Row) → Rests r s → IsSameRow r s
rests_same r s h = h.0

pub rests_files : (r s : Row) → Rests r s → StaysFiled r s
rests_files r s h = same_files r s h.0

pub rests_known : (r s : Row) → Rests r s → (s.connection ≡ r.connection) × (known_in (Some s) ≡ known_in (Some r))
rests_known r s h = (h.0.same, h.1)

-- the live connections of the rows from a place on
abbrev pub live_from : ℕ → List Row → ℕ
live_from i rows = length (filter is_open (drop i rows))

pub live_none : (rows : List Row) (i : ℕ) → i ≡ length rows → live_from i rows ≡ 0
live_none rows i all = ap (λ k. live_from k rows) all ∙ none rows
  where
    none : (rows : List Row) → live_from (length rows) rows ≡ 0
    none [] = refl
    none (r ∷ rows) = none rows
