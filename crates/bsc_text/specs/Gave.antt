-- What a source gave, read by read, and what may come behind it. Also a source that can't tell what is still to come
-- may tell what it gave.
use Rattle.std.specs.Prelude.{◌≡◌, ℕ, Bool, true, false, List, [], ◌∷◌, ◌++◌, Option, Some, None, ⊤}
use Rattle.std.specs.List.{concat}

-- The reads that are told grew by these, and were told before. What isn't told any more says nothing.
abbrev pub Gave : Option (List (List ℕ)) → Option (List (List ℕ)) → List (List ℕ) → Type 0
Gave old None gave = ⊤
Gave None (Some new) gave = ⊥
Gave (Some old) (Some new) gave = new ≡ old ++ gave

-- Whether one of these reads found the end of the input, which is a read of no octets.
abbrev pub has_end : List (List ℕ) → Bool
has_end [] = false
has_end ([] ∷ gave) = true
has_end ((c ∷ octets) ∷ gave) = has_end gave

-- These octets may be left behind what some reads gave: none, where one of them found the end.
abbrev pub MayFollow : List (List ℕ) → List ℕ → Type 0
MayFollow gave rest = has_end gave ≡ true → rest ≡ []

-- Some reads gave a first part of an input. So is any input that begins with it, and what is left of it, whatever that
-- may be; where the end was found, it is nothing.
abbrev pub OfReads : Option (List (List ℕ)) → Option (List (List ℕ)) → (List ℕ → List ℕ → Type 0) → Type 0
OfReads before after So =
    (gave : List (List ℕ)) × Gave before after gave
    × ((rest : List ℕ) → MayFollow gave rest → So (concat gave ++ rest) rest)
