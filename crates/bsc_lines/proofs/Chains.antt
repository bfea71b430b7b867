-- Texts put one behind the other.
-- It serves the clauses of `put_counts` and `put_lists`.
use Rattle.std.proofs.Common.{◌≡◌, ℕ, List, ◌++◌, ap, ◌∙◌, append_assoc, Result, Ok, Err}
use Rattle.std.specs.Prelude.{IfOk, ⊤}
use Rattle.bsc_octets.specs.declared.no_memory.NoMemory.{NoMemory}

pub behind : (o : Result ⊤ NoMemory) (a b w r z : List ℕ) → b ≡ a ++ w → IfOk o (λ done. z ≡ b ++ r) → IfOk o (λ done. z ≡ a ++ (w ++ r))
behind (Ok x) a b w r z h g = g ∙ ap (λ (l : List ℕ). l ++ r) h ∙ append_assoc a w r
behind (Err e) a b w r z h g = tt

pub onto : (a b w r z : List ℕ) → b ≡ a ++ w → z ≡ b ++ r → z ≡ a ++ (w ++ r)
onto a b w r z h g = g ∙ ap (λ (l : List ℕ). l ++ r) h ∙ append_assoc a w r
