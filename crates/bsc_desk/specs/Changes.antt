-- Rows that change row by row.
use Rattle.std.specs.Prelude.{◌≡◌, ℕ, zero, suc, Bool, true, false, ⊤, List, [], ◌∷◌, Some}
use Rattle.std.specs.Option.{option_or}
use Rattle.bsc_history.specs.declared.ending.End.{End}
use Rattle.bsc_ring.specs.Ends.{known_taken}
use Rattle.bsc_desk.specs.declared.row.Row.{Row}
use Rattle.bsc_desk.specs.Pushes.{SamePushes}

-- The row r was finished with an End, where it had none, and is now s.
pub record Finishes (ending : End) (r s : Row) : Type 0 where
  pub same : s.connection ≡ r.connection
  pub ends : s.ending ≡ option_or r.ending (Some ending)
  pub pushes : SamePushes r.inlet s.inlet
  pub known : known_taken s.inlet ≡ known_taken r.inlet

-- the same where a test passes; else the row is as it was
abbrev pub FinishesIf : Bool → End → Row → Row → Type 0
FinishesIf true ending r s = Finishes ending r s
FinishesIf false ending r s = s ≡ r

-- The row is as it was, but for what its inlet knows of its outlet.
pub record IsSameRow (r s : Row) : Type 0 where
  pub same : s.connection ≡ r.connection
  pub ends : s.ending ≡ r.ending
  pub pushes : SamePushes r.inlet s.inlet

-- The same, and its inlet knows what it knew.
abbrev pub Rests : Row → Row → Type 0
Rests r s = IsSameRow r s × (known_taken s.inlet ≡ known_taken r.inlet)

-- Row by row, what R says of the row before and the row after.
abbrev pub EachBecomes : (Row → Row → Type 0) → List Row → List Row → Type 0
EachBecomes R [] [] = ⊤
EachBecomes R (r ∷ rows) (s ∷ after) = R r s × EachBecomes R rows after
EachBecomes R rows after = ⊥

-- The row at a place becomes another, as R says, and each other row is as it was.
abbrev pub ChangesAt : (Row → Row → Type 0) → ℕ → List Row → List Row → Type 0
ChangesAt R zero (r ∷ rows) (s ∷ after) = R r s × (after ≡ rows)
ChangesAt R (suc i) (r ∷ rows) (s ∷ after) = (s ≡ r) × ChangesAt R i rows after
ChangesAt R i rows after = ⊥
