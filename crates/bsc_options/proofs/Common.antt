-- Lemmas that crates above cite too.
-- It serves clauses of functions of `checking`, `first`, `laws` and `reading`.
use Rattle.bsc_options.specs.Spelling.{bit}
use Rattle.std.proofs.Common.{eqb, zero, ◌≡◌, refl, arith, ◌<◌, suc, ℕ}

pub bit_of : (n : ℕ) → n < 2 → bit (eqb n 1) ≡ n
bit_of zero h = refl
bit_of (suc zero) h = refl
bit_of (suc (suc n)) h = absurd (omega arith)
