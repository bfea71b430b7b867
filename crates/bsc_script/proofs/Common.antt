-- Lemmas that crates above cite too.
-- It serves the clauses of `empty_at`, `empty_one` and `is_to_empty`.
use Rattle.bsc_checks.specs.declared.phase.Phase.{Phase}
use Rattle.bsc_checks.specs.declared.phase.Phase.TheVariants.{Connected}
use Rattle.bsc_script.specs.Emptying.{is_connected}
use Rattle.std.proofs.Common.{true, ◌≡◌, refl}

pub connected_only : (p : Phase) → is_connected p ≡ true → p ≡ Connected
connected_only Connected e = refl
connected_only p e = cc
