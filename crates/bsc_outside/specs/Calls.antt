-- Calls that are counted, some of which fail.
use Rattle.std.specs.Prelude.{ℕ, ◌+◌, ◌==◌, min, Bool, List}
use Rattle.std.specs.List.{list_any}

-- The number of the next call, where so many were made: the first is call 1, and numbers stop at the greatest u64.
abbrev pub next_call : ℕ → ℕ
next_call made = min (made + 1) 18446744073709551615

-- Whether the next call is one of those that are to fail.
abbrev pub is_next_failing : List ℕ → ℕ → Bool
is_next_failing failing made = list_any (λ n. n == next_call made) failing
