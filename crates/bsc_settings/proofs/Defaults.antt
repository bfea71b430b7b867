-- What stands for a key that is missing.
-- It serves the clauses of `given`.
use Rattle.std.proofs.Common.{◌≡◌, ℕ, Option, Some, None, option_map, refl}
use Rattle.bsc_settings.specs.Values.{number, otherwise}
use Rattle.bsc_settings.specs.Rows.{default_of}

pub otherwise-default_of : (d : Option ℕ) → option_map number d ≡ otherwise (default_of d)
otherwise-default_of None = refl
otherwise-default_of (Some n) = refl
