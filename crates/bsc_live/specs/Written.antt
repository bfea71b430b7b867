-- What was written to a stream that may hold it.
use Rattle.std.specs.Prelude.{ℕ, List, drop, Option}
use Rattle.std.specs.Io.KnownBytes.{append_known}

-- What was written: what has left, where that is told, and behind it what is held, of which so many octets have left.
abbrev pub written : Option (List ℕ) → List ℕ → ℕ → Option (List ℕ)
written left held gone = append_known left (drop gone held)
