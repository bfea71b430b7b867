-- Counts of faults, and what faults leave.
use Rattle.std.specs.Prelude.{ℕ, ◌<◌, ◌≤◌, ◌⊎◌, List, take, length, Option}
use Rattle.std.specs.Io.KnownBytes.{Appends}

-- A count increased, or stands at its last value, the greatest u64.
abbrev pub HasRisen : ℕ → ℕ → Type 0
HasRisen old new = (old < new) ⊎ (18446744073709551615 ≤ new)

-- What is held grew by the first n of these octets, for some n.
abbrev pub PutsPrefix : Option (List ℕ) → Option (List ℕ) → List ℕ → Type 0
PutsPrefix old new octets = (n : ℕ) × (n ≤ length octets) × Appends old new (take n octets)
