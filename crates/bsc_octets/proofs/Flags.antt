-- The bits of the control flags: how they are tested, and what putting in bit 3 and taking out bit 2 leaves.
-- It serves the clauses of `forwarded`.
use Rattle.std.proofs.Common.{◌≡◌, ℕ, ◌*◌, ◌/◌, ◌%◌, Bool, true, false, if◌then◌else◌, refl, ◌∙◌, arith}
use Rattle.std.specs.Prelude.{bit_and, bit_or}
use Rattle.std.proofs.lemmas.Nat.Bits.{and_pow, bit_at_or, bit_at_and, bit_at-lt}
use Rattle.bsc_octets.specs.Envelopes.{announces_origin, announces_dest}

-- ---- tests

pub origin_flag : (flags : ℕ) → bit_and flags 8 ≡ flags / 8 % 2 * 8
origin_flag flags = and_pow flags 3

pub dest_flag : (flags : ℕ) → bit_and flags 4 ≡ flags / 4 % 2 * 4
dest_flag flags = and_pow flags 2

pub ruleset flag_tests = (origin_flag, dest_flag)

-- ---- changes

-- bit 3 is set where it is put in
origin_set : (flags : ℕ) → announces_origin (bit_or flags 8) ≡ true
origin_set flags =
    let bit : bit_or flags 8 / 8 % 2 ≡ 1 = (let both = bit_at_or flags 8 3 in let below = bit_at-lt flags 3 in omega arith) in
    rw bit refl

-- putting in bit 3 leaves bit 2
dest_left : (flags : ℕ) → announces_dest (bit_or flags 8) ≡ announces_dest flags
dest_left flags =
    let bit : bit_or flags 8 / 4 % 2 ≡ flags / 4 % 2 = (let both = bit_at_or flags 8 2 in omega arith) in
    rw bit refl

-- taking out bit 2 leaves bit 3
origin_left : (flags : ℕ) → announces_origin (bit_and flags 251) ≡ announces_origin flags
origin_left flags =
    let bit : bit_and flags 251 / 8 % 2 ≡ flags / 8 % 2 = (let both = bit_at_and flags 251 3 in let below = bit_at-lt flags 3 in omega arith) in
    rw bit refl

-- bit 2 is clear where it is taken out
dest_cleared : (flags : ℕ) → announces_dest (bit_and flags 251) ≡ false
dest_cleared flags =
    let bit : bit_and flags 251 / 4 % 2 ≡ 0 = (let both = bit_at_and flags 251 2 in omega arith) in
    rw bit refl

-- so they announce an origin, and a destination exactly for a broadcast
pub origin_out : (flags : ℕ) (b : Bool) → announces_origin (if b then bit_or flags 8 else bit_and (bit_or flags 8) 251) ≡ true
origin_out flags true = origin_set flags
origin_out flags false = origin_left (bit_or flags 8) ∙ origin_set flags

pub dest_out : (flags : ℕ) (b : Bool) → announces_dest flags ≡ true → announces_dest (if b then bit_or flags 8 else bit_and (bit_or flags 8) 251) ≡ b
dest_out flags true announced = dest_left flags ∙ announced
dest_out flags false announced = dest_cleared (bit_or flags 8)
