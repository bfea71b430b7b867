-- The marker: its bits are tested, put together, and found again.
-- It serves clauses of functions of `checking`, `first`, `laws` and `reading`.
use Rattle.std.proofs.Common.{◌≡◌, ℕ, ◌+◌, ◌*◌, ◌/◌, ◌%◌, ◌<◌, ◌≤◌, Bool, true, false, eqb, is_some, refl, ◌∙◌, arith}
use Rattle.std.specs.Prelude.{bit_and}
use Rattle.std.proofs.lemmas.Nat.Bits.{and_pow, and_high}
use Rattle.bsc_options.specs.declared.item.OptionItem.{OptionItem}
use Rattle.bsc_options.specs.Spelling.{bit, marker_of}
use Rattle.bsc_options.proofs.Common.{bit_of}

-- ---- tests

pub more_bit : (marker : ℕ) → bit_and marker 128 ≡ marker / 128 % 2 * 128
more_bit marker = and_pow marker 7

pub must_bit : (marker : ℕ) → bit_and marker 64 ≡ marker / 64 % 2 * 64
must_bit marker = and_pow marker 6

pub data_bit : (marker : ℕ) → bit_and marker 32 ≡ marker / 32 % 2 * 32
data_bit marker = and_pow marker 5

pub type_bits : (marker : ℕ) → bit_and marker 31 ≡ marker % 32
type_bits marker = and_high marker 5 0 ∙ omega arith

pub ruleset bit_tests = (more_bit, must_bit, data_bit, type_bits)

-- ---- the marker that its parts make, and the parts of a marker

-- a bit is 0 or 1, and says whether it is set
bit_le : (b : Bool) → bit b ≤ 1
bit_le true = omega arith
bit_le false = omega arith

bit_same : (a b : Bool) → bit a ≡ bit b → a ≡ b
bit_same true true e = refl
bit_same false false e = refl
bit_same true false e = absurd (omega arith)
bit_same false true e = absurd (omega arith)

-- the four parts of a number below 256
parts_again : (marker : ℕ) → marker < 256 → 128 * (marker / 128 % 2) + 64 * (marker / 64 % 2) + 32 * (marker / 32 % 2) + marker % 32 ≡ marker
parts_again marker h = omega arith

-- two numbers of four such parts are one where each part is
same_parts : (f g m n s t k l : ℕ) → f ≤ 1 → g ≤ 1 → m ≤ 1 → n ≤ 1 → s ≤ 1 → t ≤ 1 → k < 32 → l < 32
    → 128 * f + 64 * m + 32 * s + k ≡ 128 * g + 64 * n + 32 * t + l → (f ≡ g) × (m ≡ n) × (s ≡ t) × (k ≡ l)
same_parts f g m n s t k l hf hg hm hn hs ht hk hl e =
    let first : f ≡ g = omega arith in
    let second : m ≡ n = omega arith in
    let third : s ≡ t = omega arith in
    (first, second, third, omega arith)

-- the item that a marker says has that marker
pub marker_of-parts : (marker : ℕ) (item : OptionItem) → marker < 256 → item.must ≡ eqb (marker / 64 % 2) 1 → item.kind ≡ marker % 32 → is_some item.content ≡ eqb (marker / 32 % 2) 1
    → marker_of (eqb (marker / 128 % 2) 1) item ≡ marker
marker_of-parts marker item h must kind content =
    let more : bit (eqb (marker / 128 % 2) 1) ≡ marker / 128 % 2 = bit_of (marker / 128 % 2) (omega arith) in
    let second : bit (eqb (marker / 64 % 2) 1) ≡ marker / 64 % 2 = bit_of (marker / 64 % 2) (omega arith) in
    let third : bit (eqb (marker / 32 % 2) 1) ≡ marker / 32 % 2 = bit_of (marker / 32 % 2) (omega arith) in
    rw (must, kind, content, more, second, third) (parts_again marker h)

-- a marker has one follower bit, one must bit, one data bit and one type
pub same_marker : (f g : Bool) (x y : OptionItem) → x.kind < 32 → y.kind < 32 → marker_of f x ≡ marker_of g y
    → (f ≡ g) × (x.must ≡ y.must) × (is_some x.content ≡ is_some y.content) × (x.kind ≡ y.kind)
same_marker f g x y kx ky e =
    let parts = same_parts (bit f) (bit g) (bit x.must) (bit y.must) (bit (is_some x.content)) (bit (is_some y.content)) x.kind y.kind
    (bit_le f) (bit_le g) (bit_le x.must) (bit_le y.must) (bit_le (is_some x.content)) (bit_le (is_some y.content)) kx ky e in
    (bit_same f g parts.0, bit_same x.must y.must parts.1, bit_same (is_some x.content) (is_some y.content) parts.2, parts.3)
