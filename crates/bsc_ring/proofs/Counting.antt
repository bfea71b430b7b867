-- The newest load, and the length of a list with one more item.
use Rattle.std.proofs.Common.{◌≡◌, ℕ, ◌+◌, List, [], ◌∷◌, ◌++◌, length, refl, length-append}
use Rattle.bsc_ring.specs.Lists.{Item, newest}

pub newest_last : (l : List ℕ) (n : ℕ) → newest (l ++ n ∷ []) ≡ n
unfolding newest
newest_last [] n = refl
newest_last (x ∷ []) n = refl
newest_last (x ∷ y ∷ ys) n = newest_last (y ∷ ys) n

pub newest_none : newest [] ≡ 0
unfolding newest
newest_none = refl

pub length_more : (l : List Item) (x : Item) → length (l ++ x ∷ []) ≡ length l + 1
length_more l x = length-append l (x ∷ [])
