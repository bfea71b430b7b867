-- Which place is told where not each place stands once.
use Rattle.std.specs.Prelude.{◌≡◌, ◌≤◌, ◌<◌, ◌==◌, ℕ, nat_eq, nat_lt, Bool, false, List, count_by, IsTrue}
use Rattle.std.specs.List.{list_any, IsDistinct}

-- whether place p stands among some
abbrev pub stands : ℕ → List ℕ → Bool
stands p places = list_any (λ q. q == p) places

-- Place p stands more than once, and none before it does.
pub record IsLeastTwice (p : ℕ) (places : List ℕ) : Type 0 where
  pub twice : 1 < count_by (λ q. q == p) places
  pub least : (k : ℕ) → k < p → count_by (λ q. q == k) places ≤ 1

-- No place stands twice; place p doesn't stand, a greater one does, and so does each before it.
pub record IsLeastMissing (p : ℕ) (places : List ℕ) : Type 0 where
  pub once : IsDistinct nat_eq places
  pub missing : stands p places ≡ false
  pub below : IsTrue (list_any (λ q. nat_lt p q) places)
  pub least : (k : ℕ) → k < p → IsTrue (stands k places)
