-- Writes, one after another.
-- It serves the clauses of `put_all`.
use Rattle.std.proofs.Common.{ℕ, ◌+◌, List, ◌++◌, take, drop, Some, None, Option, ap, sym, ◌∙◌, append_assoc}
use Rattle.std.proofs.Math.Seq.{take-add}
use Rattle.std.specs.Io.KnownBytes.{Appends}

-- a write after another adds what both took
pub appends_more : (a b c : Option (List ℕ)) (xs : List ℕ) (at n : ℕ) → Appends a b (take at xs) → Appends b c (take n (drop at xs)) → Appends a c (take (at + n) xs)
appends_more None b c xs at n h k = tt
appends_more (Some a) None c xs at n h k = absurd h
appends_more (Some a) (Some b) None xs at n h k = absurd k
appends_more (Some a) (Some b) (Some c) xs at n h k = k ∙ (ap (λ (l : List ℕ). l ++ take n (drop at xs)) h
    ∙ (append_assoc a (take at xs) (take n (drop at xs)) ∙ ap (λ (l : List ℕ). a ++ l) (sym (take-add at n xs))))
