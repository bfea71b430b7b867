-- Texts between quotation marks, as TOML has them.
use Rattle.std.specs.Prelude.{ℕ, nat_lt, ◌==◌, ◌||◌, if◌then◌else◌, List, [], ◌∷◌, ◌++◌, flat_map}
use Rattle.hex.specs.Hex.{encode_upper}

-- An octet of a text: a quotation mark (34) and a backslash (92) stand behind a backslash, and a character of ASCII that isn't
-- printed as `\u00` and two hexadecimal digits.
abbrev pub escaped : ℕ → List ℕ
escaped c =
    if c == 34 then 92 ∷ 34 ∷ []
    else if c == 92 then 92 ∷ 92 ∷ []
    else if nat_lt c 32 || c == 127 then 92 ∷ 117 ∷ 48 ∷ 48 ∷ encode_upper (c ∷ [])
    else c ∷ []

-- a text that needs no backslash, between quotation marks
abbrev pub marked : List ℕ → List ℕ
marked plain = 34 ∷ plain ++ 34 ∷ []

-- A text between quotation marks.
abbrev pub quoted : List ℕ → List ℕ
quoted text = marked (flat_map escaped text)
