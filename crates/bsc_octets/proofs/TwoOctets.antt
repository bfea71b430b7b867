-- Numbers of two octets, as octets and back.
-- It serves clauses of functions of `envelope`, `forwarding` and `identity`.
use Rattle.std.proofs.Common.{◌≡◌, ℕ, ◌+◌, ◌*◌, ◌%◌, ◌<◌, ◌≤◌, List, [], ◌∷◌, ◌++◌, length, get_or, take, refl, arith}
use Rattle.std.proofs.lemmas.Nat.{div-mul-add, mod-mul-add}
use Rattle.byteorder.specs.Endian.{big_bytes, big_number}
use Rattle.byteorder.specs.Numbers.{big_number-reads_back}

-- the octets of the number that two octets make are those two
pub two_octets : (a b : ℕ) (rest : List ℕ) → a < 256 → b < 256 → big_bytes 2 (big_number 2 (a ∷ b ∷ rest)) ≡ a ∷ b ∷ []
two_octets a b rest ha hb =
    let e : a * 256 + (b * 1 + 0) ≡ a * 256 + b = omega arith in
    let m : a % 256 ≡ a = omega arith in
    rw (e, div-mul-add a 256 b hb, m, mod-mul-add a 256 b hb) refl

-- the number that the two octets of a number make is that number
pub two_octet_number : (n : ℕ) (rest : List ℕ) → n < 65536 → big_number 2 (big_bytes 2 n ++ rest) ≡ n
two_octet_number n rest h = big_number-reads_back 2 n rest h

-- the same of the first two octets of a list
pub first_two_octets : (b : List ℕ) → 2 ≤ length b → get_or b 0 0 < 256 → get_or b 1 0 < 256 → big_bytes 2 (big_number 2 b) ≡ take 2 b
first_two_octets [] two first second = let h : 2 ≤ 0 = two in absurd (omega arith)
first_two_octets (x ∷ []) two first second = let h : 2 ≤ 1 = two in absurd (omega arith)
first_two_octets (x ∷ y ∷ rest) two first second = two_octets x y rest first second
