-- The texts that are URIs.
use Rattle.std.specs.Prelude.{ℕ, nat_eq, nat_lt, ◌==◌, Bool, false, ◌&&◌, if◌then◌else◌, List, [], ◌∷◌, codes, IsTrue}
use Rattle.std.specs.List.{list_all, starts_with}

-- whether a text begins with `ws://`, as the URI of a hub does that can be dialled
abbrev pub is_hub_uri : List ℕ → Bool
is_hub_uri text = starts_with nat_eq text (codes "ws://")

abbrev pub IsHubUri : List ℕ → Type 0
IsHubUri text = IsTrue (is_hub_uri text)

-- whether a URI may have an octet: a character of ASCII that is printed, and no space (RFC 3986, 2)
abbrev pub is_uri_octet : ℕ → Bool
is_uri_octet c = nat_lt 32 c && nat_lt c 127

-- whether a word may be a URI: it has an octet, and none but such
abbrev pub is_uri : List ℕ → Bool
is_uri [] = false
is_uri (c ∷ word) = list_all is_uri_octet (c ∷ word)

-- an octet in front of the first of some words
abbrev pub in_front : ℕ → List (List ℕ) → List (List ℕ)
in_front c [] = (c ∷ []) ∷ []
in_front c (word ∷ words) = (c ∷ word) ∷ words

-- a text, cut at each space
abbrev pub cut_at_spaces : List ℕ → List (List ℕ)
cut_at_spaces [] = [] ∷ []
cut_at_spaces (c ∷ text) = if c == 32 then [] ∷ cut_at_spaces text else in_front c (cut_at_spaces text)

-- Whether a text is URIs with one space between two.
abbrev pub are_uris : List ℕ → Bool
are_uris text = list_all is_uri (cut_at_spaces text)

abbrev pub AreUris : List ℕ → Type 0
AreUris text = IsTrue (are_uris text)
