-- What lists say, by the values that they are read from.
-- It serves the clauses of `members_in` and `rules_in`.
use Rattle.std.proofs.Common.{◌≡◌, ◌∙◌, ◌++◌, map, flat_map, List, [], ◌∷◌, Option, Some, refl, ap}
use Rattle.toml.specs.Data.{Data}
use Rattle.toml.specs.View.{view}
use Rattle.toml.specs.declared.value.Value.{Value}
use Rattle.bsc_settings.specs.Listed.{one_of, sayings, sayings_of}

through_view : {T : Type 0} (says : Data → Option T) (values : List Value) → flat_map (λ v. one_of (says (view v))) values ≡ sayings says (map view values)
through_view {T} says [] = refl
through_view {T} says (v ∷ values) = ap (λ (l : List T). one_of (says (view v)) ++ l) (through_view says values)

pub of_values : {T : Type 0} (says : Data → Option T) (values : List Value) (at : Option (List Data)) → Some (map view values) ≡ at
    → flat_map (λ v. one_of (says (view v))) values ≡ sayings_of says at
of_values says values at is = through_view says values ∙ ap (sayings_of says) is
