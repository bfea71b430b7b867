-- What the loop that takes links counts.
use Rattle.std.specs.Prelude.{◌≡◌, ℕ, ◌≤◌, ◌+◌, ◌⊎◌, Bool, true, false, Option, Some, None, ⊤}

-- How many links are still to come, of so many and after n have arrived.
abbrev pub Remains : Option ℕ → ℕ → Option ℕ → Type 0
Remains None n None = ⊤
Remains None n (Some k) = ⊥
Remains (Some s) n None = ⊥
Remains (Some s) n (Some k) = n + k ≡ s

-- A count is u, or u is past the greatest u64.
abbrev pub CountsUp : ℕ → ℕ → Type 0
CountsUp c u = (c ≡ u) ⊎ (18446744073709551616 ≤ u)

-- one for a link whose session isn't started
abbrev pub one_unless : Bool → ℕ
one_unless true = 0
one_unless false = 1
