-- That an answer tells of a fault only where the count of such faults rose.
use Rattle.std.specs.Prelude.{◌≡◌, ℕ}
use Rattle.bsc_outside.specs.Faults.{HasRisen}

-- Where this is the answer, an end or a status, the count of the faults of which it tells rose.
abbrev pub RisesIf : {A : Type 0} → A → A → ℕ → ℕ → Type 0
RisesIf answer told before after = answer ≡ told → HasRisen before after
