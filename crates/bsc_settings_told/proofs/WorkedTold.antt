-- Lines of settings, worked by hand.
-- No clause needs it: worked examples.
use Rattle.std.proofs.Common.{◌≡◌, [], ◌∷◌, ◌++◌, codes, false, refl}
use Rattle.std.specs.Fmt.{digits}
use Rattle.hex.specs.Hex.{encode_with}
use Rattle.bsc_settings.specs.Table.{absent, or_else, required}
use Rattle.bsc_settings.specs.Values.{number, text, allows, missing}
use Rattle.bsc_settings_told.specs.Lines.{line_by, set_line, unset_line}
use Rattle.bsc_settings_told.specs.Quoting.{quoted}

-- a default, another number where there is one, and a number that has none
a_default : line_by (codes "outbox") (or_else 64) (number 64) ≡ codes "outbox = 64 # default\n"
unfolding set_line digits
a_default = refl

another_number : line_by (codes "outbox") (or_else 64) (number 65) ≡ codes "outbox = 65\n"
unfolding set_line digits
another_number = refl

without_default : line_by (codes "port") required (number 64) ≡ codes "port = 64\n"
unfolding set_line digits
without_default = refl

-- what isn't set
unset : line_by (codes "failover") absent missing ≡ codes "# failover isn't set # default\n"
unfolding unset_line
unset = refl

-- a text, with a quotation mark, a backslash and a line feed; and what a rule does
a_text : quoted (97 ∷ 34 ∷ 92 ∷ 10 ∷ []) ≡ 34 ∷ 97 ∷ 92 ∷ 34 ∷ 92 ∷ 92 ∷ 92 ∷ 117 ∷ 48 ∷ 48 ∷ 48 ∷ 65 ∷ 34 ∷ []
unfolding encode_with
a_text = refl

a_rule : line_by (codes "do") required (allows false) ≡ codes "do = " ++ 34 ∷ codes "deny" ++ 34 ∷ codes "\n"
unfolding set_line
a_rule = refl
