-- Whether the rest of a text goes on with URIs.
-- It serves the clauses of `are_uris`.
use Rattle.std.proofs.Common.{ℕ, Bool, true, false, ◌&&◌, List, [], ◌∷◌}
use Rattle.std.specs.List.{list_all}
use Rattle.bsc_settings.specs.Uris.{is_uri, is_uri_octet, cut_at_spaces}

-- the words of the rest, where a URI had begun or not
abbrev go_on : Bool → List (List ℕ) → Bool
go_on begun [] = true
go_on true (word ∷ words) = list_all is_uri_octet word && list_all is_uri words
go_on false (word ∷ words) = is_uri word && list_all is_uri words

abbrev pub rest_are_uris : Bool → List ℕ → Bool
rest_are_uris begun text = go_on begun (cut_at_spaces text)
