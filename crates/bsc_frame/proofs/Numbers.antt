-- Octets, one by one or as a number of two, and the rest behind them.
-- It serves clauses of most source files here.
use Rattle.std.proofs.Common.{◌≡◌, ℕ, ◌+◌, ◌<◌, ◌≤◌, List, [], ◌∷◌, ◌++◌, length, get_or, take, drop, refl, sym, ap, ◌∙◌, arith, length-drop}
use Rattle.std.proofs.lemmas.List.{take-append-drop, get_or-drop, drop-drop, drop_all, append-nil}
use Rattle.byteorder.specs.Endian.{big_bytes, big_number}
use Rattle.bsc_octets.proofs.TwoOctets.{first_two_octets}

abbrev pub AreOctets : List ℕ → Type 0
AreOctets p = (i : ℕ) → get_or p i 0 < 256

-- the number of two octets, and what follows them
pub number_then : (p : List ℕ) (at : ℕ) → at + 2 ≤ length p → AreOctets p → big_bytes 2 (big_number 2 (drop at p)) ++ drop (at + 2) p ≡ drop at p
number_then p at long octets =
    let within : (i : ℕ) → get_or (drop at p) i 0 < 256 = λ i. rw get_or-drop (octets (at + i)) in
    let two : big_bytes 2 (big_number 2 (drop at p)) ≡ take 2 (drop at p) = first_two_octets (drop at p) (omega (arith, length-drop at p)) (within 0) (within 1) in
    ap (λ (l : List ℕ). l ++ drop (at + 2) p) two ∙ ap (λ (l : List ℕ). take 2 (drop at p) ++ l) (sym (drop-drop 2 at p)) ∙ take-append-drop 2 (drop at p)

-- the last two octets
pub number_last : (p : List ℕ) (at : ℕ) → length p ≡ at + 2 → AreOctets p → big_bytes 2 (big_number 2 (drop at p)) ≡ drop at p
number_last p at long octets =
    sym (append-nil (big_bytes 2 (big_number 2 (drop at p)))) ∙ ap (λ (l : List ℕ). big_bytes 2 (big_number 2 (drop at p)) ++ l) (sym (drop_all (at + 2) p (omega arith)))
    ∙ number_then p at (omega arith) octets

-- the first octets, one by one
pub two_then : (p : List ℕ) → 2 ≤ length p → get_or p 0 0 ∷ get_or p 1 0 ∷ drop 2 p ≡ p
two_then [] long = absurd (omega arith)
two_then (a ∷ []) long = absurd (omega arith)
two_then (a ∷ b ∷ p) long = refl

pub three_then : (p : List ℕ) → 3 ≤ length p → get_or p 0 0 ∷ get_or p 1 0 ∷ get_or p 2 0 ∷ drop 3 p ≡ p
three_then [] long = absurd (omega arith)
three_then (a ∷ []) long = absurd (omega arith)
three_then (a ∷ b ∷ []) long = absurd (omega arith)
three_then (a ∷ b ∷ c ∷ p) long = refl
