-- What an answer unfolds to compute this crate's definitions on literal octets.
-- It serves many crates above.
use Rattle.std.specs.Prelude.{⊤}
use Rattle.bsc_checks.specs.Outcomes.{outcome_of}

unfoldable pub verdict_on_literals : ⊤
unfolding outcome_of
verdict_on_literals = tt
