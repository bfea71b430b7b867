-- At most 18 digits stand before one, and so a number of 19 digits fits.
use Rattle.std.proofs.Common.{ℕ, ◌^◌, ◌≤◌, lit<, arith}
use Rattle.std.proofs.Math.Nat.{pow-le-pow_right}
use Rattle.bsc_text.proofs.grammar.read_number.Goals as goal

most : (i : ℕ) → i ≤ 18 → 10 ^ i ≤ 10 ^ 18
most i h = pow-le-pow_right (lit< tt) h

pub overflow_mul-number : goal.overflow_mul-number
overflow_mul-number c = omega (arith, most c.loop-digit.digit-index (omega arith))

pub overflow_add-number : goal.overflow_add-number
overflow_add-number c = omega (arith, most c.loop-digit.digit-index (omega arith))
