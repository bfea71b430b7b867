-- Whether a phase is Connected can be told.
-- It serves the clauses of `judge`, `one_outcome` and `passed`.
use Rattle.std.proofs.Common.{◌≡◌, refl}
use Rattle.bsc_checks.specs.declared.phase.Phase.{Phase}
use Rattle.bsc_checks.specs.declared.phase.Phase.TheVariants.{AwaitingRequest, AwaitingAccept, Connected, Disconnecting}

pub connected_or_not : (phase : Phase) → ((phase ≡ Connected → ⊥) → ⊥) → phase ≡ Connected
connected_or_not AwaitingRequest inside = absurd (inside (λ e. cc))
connected_or_not AwaitingAccept inside = absurd (inside (λ e. cc))
connected_or_not Connected inside = refl
connected_or_not Disconnecting inside = absurd (inside (λ e. cc))
