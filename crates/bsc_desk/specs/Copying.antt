-- The copies of a broadcast.
use Rattle.std.specs.Prelude.{◌≡◌, ◌+◌, ◌*◌, ℕ, List, vec_len, Vec}
use Rattle.std.specs.List.{AllByRecursion}
use Rattle.std.specs.declared.alloc.Global.{Global}
use Rattle.bsc_desk.specs.declared.copies.Copies.{Copies}

-- how many copies there are
abbrev pub count_of : Copies → ℕ
count_of c = vec_len c.loose + 32 * vec_len c.batches

-- each batch has 32 copies of the octets o
abbrev pub AreBatches : List ℕ → List (Vec (List ℕ) Global) → Type 0
AreBatches o batches = AllByRecursion (λ b. (vec_len b ≡ 32) × AllByRecursion (λ x. x ≡ o) b.items) batches

-- all are copies of the octets o
pub record AreCopies (o : List ℕ) (c : Copies) : Type 0 where
  pub loose : AllByRecursion (λ x. x ≡ o) c.loose.items
  pub batches : AreBatches o c.batches.items
