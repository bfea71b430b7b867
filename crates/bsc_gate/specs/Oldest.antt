-- The oldest in a table of places, some of which are free.
use Rattle.std.specs.Prelude.{◌≡◌, ◌⊎◌, ◌≤◌, ℕ, List, slice_get, Option, Some, None}

module _ {R : Type 0} (until : R → ℕ) where
  -- At this place stands what is over first, and no place is free. Of two that are over at once it may be either.
  pub record IsOldest (rows : List (Option R)) (place : ℕ) : Type 0 where
    pub row : R
    pub stands : slice_get rows place ≡ Some (Some row)
    pub least : (i : ℕ) (other : Option R) → slice_get rows i ≡ Some other → (r : R) × (other ≡ Some r) × (until row ≤ until r)

  -- A place is free, or the oldest stands there.
  abbrev pub MayTake : List (Option R) → ℕ → Type 0
  MayTake rows place = (slice_get rows place ≡ Some None) ⊎ IsOldest rows place
