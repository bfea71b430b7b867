-- The control flags: how they are tested, what a message sets, and that they are no more than that.
-- It serves the clauses of `one_check`, `one_spelling` and `read`.
use Rattle.std.proofs.Common.{◌≡◌, ℕ, ◌+◌, ◌*◌, ◌/◌, ◌%◌, ◌≤◌, Bool, true, false, refl, ◌∙◌, arith}
use Rattle.std.specs.Prelude.{bit_and}
use Rattle.std.proofs.lemmas.Nat.Bits.{and_pow}
use Rattle.bsc_octets.specs.Envelopes.{announces_origin, announces_dest}
use Rattle.bsc_options.specs.Spelling.{bit}
use Rattle.bsc_frame.specs.Layout.{announces_dest_options, announces_data_options}
use Rattle.bsc_options.proofs.Common.{bit_of}

-- ---- tests

pub dest_options_flag : (flags : ℕ) → bit_and flags 2 ≡ flags / 2 % 2 * 2
dest_options_flag flags = and_pow flags 1

pub data_options_flag : (flags : ℕ) → bit_and flags 1 ≡ flags % 2
data_options_flag flags = and_pow flags 0 ∙ omega arith

pub ruleset option_flags = (dest_options_flag, data_options_flag)

-- ---- the four flags of a message

abbrev pub four_flags : Bool → Bool → Bool → Bool → ℕ
four_flags o d x y = 8 * bit o + 4 * bit d + 2 * bit x + bit y

-- the flags announce what they are made of, and no reserved one is set
pub record Announce (flags : ℕ) (o d x y : Bool) : Type 0 where
  pub origin : announces_origin flags ≡ o
  pub dest : announces_dest flags ≡ d
  pub dest_options : announces_dest_options flags ≡ x
  pub data_options : announces_data_options flags ≡ y
  pub few : flags ≤ 0x0F

pub announced : (o d x y : Bool) → Announce (four_flags o d x y) o d x y
announced false false false false = record { origin = refl; dest = refl; dest_options = refl; data_options = refl; few = omega arith }
announced false false false true = record { origin = refl; dest = refl; dest_options = refl; data_options = refl; few = omega arith }
announced false false true false = record { origin = refl; dest = refl; dest_options = refl; data_options = refl; few = omega arith }
announced false false true true = record { origin = refl; dest = refl; dest_options = refl; data_options = refl; few = omega arith }
announced false true false false = record { origin = refl; dest = refl; dest_options = refl; data_options = refl; few = omega arith }
announced false true false true = record { origin = refl; dest = refl; dest_options = refl; data_options = refl; few = omega arith }
announced false true true false = record { origin = refl; dest = refl; dest_options = refl; data_options = refl; few = omega arith }
announced false true true true = record { origin = refl; dest = refl; dest_options = refl; data_options = refl; few = omega arith }
announced true false false false = record { origin = refl; dest = refl; dest_options = refl; data_options = refl; few = omega arith }
announced true false false true = record { origin = refl; dest = refl; dest_options = refl; data_options = refl; few = omega arith }
announced true false true false = record { origin = refl; dest = refl; dest_options = refl; data_options = refl; few = omega arith }
announced true false true true = record { origin = refl; dest = refl; dest_options = refl; data_options = refl; few = omega arith }
announced true true false false = record { origin = refl; dest = refl; dest_options = refl; data_options = refl; few = omega arith }
announced true true false true = record { origin = refl; dest = refl; dest_options = refl; data_options = refl; few = omega arith }
announced true true true false = record { origin = refl; dest = refl; dest_options = refl; data_options = refl; few = omega arith }
announced true true true true = record { origin = refl; dest = refl; dest_options = refl; data_options = refl; few = omega arith }

-- flags none of which is reserved are those that they announce
pub flags_again : (flags : ℕ) → flags ≤ 0x0F → four_flags (announces_origin flags) (announces_dest flags) (announces_dest_options flags) (announces_data_options flags) ≡ flags
flags_again flags few =
    let o : bit (announces_origin flags) ≡ flags / 8 % 2 = bit_of (flags / 8 % 2) (omega arith) in
    let d : bit (announces_dest flags) ≡ flags / 4 % 2 = bit_of (flags / 4 % 2) (omega arith) in
    let x : bit (announces_dest_options flags) ≡ flags / 2 % 2 = bit_of (flags / 2 % 2) (omega arith) in
    let y : bit (announces_data_options flags) ≡ flags % 2 = bit_of (flags % 2) (omega arith) in
    rw (o, d, x, y) (omega arith)
