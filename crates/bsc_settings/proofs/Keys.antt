-- The keys of a map, beside those of the table that it stands for.
-- It serves clauses of functions of `known_policy` and `known`.
use Rattle.std.proofs.Common.{◌≡◌, ℕ, Bool, ◌&&◌, List, [], ◌∷◌, String, Global, string_bytes, refl, ap}
use Rattle.std.specs.List.{list_all}
use Rattle.std.specs.Map.{keys_of as map_keys}
use Rattle.toml.specs.View.{members_view}
use Rattle.toml.specs.declared.value.Value.{Value}
use Rattle.bsc_settings.specs.Documents.{keys_of}

-- a test holds of all keys of the map exactly where it does of all keys of the table
pub all_keys : (p : List ℕ → Bool) (es : List (String Global × Value)) →
    list_all (λ key. p (string_bytes key)) (map_keys es) ≡ list_all p (keys_of (members_view es))
all_keys p [] = refl
all_keys p (e ∷ es) = ap (λ b. p (string_bytes e.0) && b) (all_keys p es)
