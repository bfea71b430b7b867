-- What is proved of each way to read words.
-- It serves clauses of functions of `beside`, `laws` and `reading`.
use Rattle.std.proofs.Common.{◌∷◌, ◌≡◌, ◌≤◌, Bool, List, None, Option, Some, codes, false, is_some, true}
use Rattle.std.specs.Prelude.{⊤, option_and_then}
use Rattle.clap.specs.Words.{Row, Text, is_simple_and_free}
use Rattle.bsc_text.specs.Lines.{same_octets}
use Rattle.bsc_cli.specs.declared.asked.Way.{Way}
use Rattle.bsc_cli.specs.declared.bounds.TheConstants.{WORKERS}
use Rattle.bsc_cli.specs.Words.{AskedOf, app_for, asked_as, found_by, have_no_hyphen, listed_as, load, other_way}
use Rattle.bsc_cli.proofs.Lists.{plain_in}

-- A workload has as many workers as it may have.
abbrev pub Fits : Option AskedOf → Type 0
Fits (Some (load n)) = (1 ≤ n) × (n ≤ WORKERS)
Fits asked = ⊤

-- what words behind the first ask for as a list, in the other way of the command
abbrev pub listed_other : Way → List Text → Option AskedOf
listed_other way words = option_and_then (λ w. listed_as w words) (other_way way)

pub record Reads (way : Way) : Type 0 where
  -- `clap` says what it finds by this command's arguments
  pub simple : is_simple_and_free (app_for way) ≡ true
  -- words without hyphens ask for what they do as a list
  pub plain : (name : Text) (words : List Text) → have_no_hyphen words ≡ true → asked_as way (name ∷ words) ≡ listed_as way words
  -- a list is taken, where its paths begin with no hyphen
  pub taken : (name : Text) (words : List Text) → same_octets name (codes "--") ≡ false → is_some (listed_as way words) ≡ true → plain_in (listed_as way words) ≡ true
      → asked_as way (name ∷ words) ≡ listed_as way words
  -- a list of the other way isn't taken in this one
  pub apart : (name : Text) (words : List Text) → is_some (listed_other way words) ≡ true → plain_in (listed_other way words) ≡ true → asked_as way (name ∷ words) ≡ None
  -- a call for help asks for nothing
  pub long_help : (name : Text) (words : List Text) → asked_as way (name ∷ codes "--help" ∷ words) ≡ None
  pub short_help : (name : Text) (words : List Text) → asked_as way (name ∷ codes "-h" ∷ words) ≡ None
  -- what is asked for has as many workers as it may have
  pub fits : (ended : Bool) (rows : List Row) → Fits (found_by way ended rows)
