-- What is told of a whole line: the first of its rules that it breaks, from the left.
use Rattle.std.specs.Prelude.{◌≡◌, ◌==◌, ◌%◌, ℕ, nat_le, Bool, true, false, not, ◌&&◌, ◌||◌, if◌then◌else◌, List, [], ◌∷◌, codes, length, Option, Some, None, Result, Ok, Err, ⊤}
use Rattle.std.specs.List.{list_all}
use Rattle.bsc_octets.specs.declared.bounds.TheConstants.{LEAST_BVLC}
use Rattle.bsc_text.specs.Grammar.{vmac_of_word}
use Rattle.bsc_diagnostics.specs.Broken.{device_rule, maximum_from, maximum_rule, one_node_rule, unless, vmac_rule}
use Rattle.bsc_diagnostics.specs.declared.diagnostic.Diagnostic.{Diagnostic}
use Rattle.bsc_diagnostics.specs.declared.diagnostic.Diagnostic.TheVariants as diagnostic

-- What a line breaks: a word of it a rule; a form, of which a word is missing; a form, by a word too many; or a rule as a whole.
pub data Broken : Type 0 where
  word : List ℕ → List ℕ → Broken
  missing : List ℕ → Broken
  more : List ℕ → List ℕ → Broken
  line : List ℕ → Broken

-- This is told.
abbrev pub Says : Diagnostic → Broken → Type 0
Says (diagnostic.Word named broken) (word it rule) = (named.now ≡ it) × (broken.now ≡ rule)
Says (diagnostic.Missing of_form) (missing form) = of_form.now ≡ form
Says (diagnostic.More named of_form) (more it form) = (named.now ≡ it) × (of_form.now ≡ form)
Says (diagnostic.Line broken) (line rule) = broken.now ≡ rule
Says told broken = ⊥

-- Something is told exactly where something is broken, and that.
abbrev pub TellsFirst : {T : Type 0} → Result T Diagnostic → Option Broken → Type 0
TellsFirst (Ok x) None = ⊤
TellsFirst (Err told) (Some broken) = Says told broken
TellsFirst answer broken = ⊥

-- ---- checks, one behind the other

-- the first of two that is broken
abbrev pub first : Option Broken → Option Broken → Option Broken
first (Some broken) later = Some broken
first None later = later

-- what a word breaks, by what is said of it
abbrev pub of_word : List ℕ → Option (List ℕ) → Option Broken
of_word it None = None
of_word it (Some rule) = Some (word it rule)

-- A rule of a word says what is wrong with one that breaks it. The first of these words that breaks its rule; words that are missing
-- break none.
abbrev pub wrong : List (List ℕ → Option (List ℕ)) → List (List ℕ) → Option Broken
wrong [] words = None
wrong (rule ∷ rules) [] = None
wrong (rule ∷ rules) (it ∷ words) = first (of_word it (rule it)) (wrong rules words)

-- fewer words than there are rules
abbrev pub too_few : List ℕ → List (List ℕ → Option (List ℕ)) → List (List ℕ) → Option Broken
too_few form [] words = None
too_few form (rule ∷ rules) [] = Some (missing form)
too_few form (rule ∷ rules) (it ∷ words) = too_few form rules words

-- more words than there are rules
abbrev pub too_many : List ℕ → List (List ℕ → Option (List ℕ)) → List (List ℕ) → Option Broken
too_many form [] [] = None
too_many form [] (it ∷ words) = Some (more it form)
too_many form (rule ∷ rules) [] = None
too_many form (rule ∷ rules) (it ∷ words) = too_many form rules words

-- the words of a line that has a word for each rule: as many, and each by its own
abbrev pub by_form : List ℕ → List (List ℕ → Option (List ℕ)) → List (List ℕ) → Option Broken
by_form form rules words = first (too_few form rules words) (first (too_many form rules words) (wrong rules words))

-- any word
abbrev pub any : List ℕ → Option (List ℕ)
any it = None

-- what is told: what is broken, or that it is no line at all, although nothing of it is
abbrev pub or_no_line : List ℕ → Option Broken → Broken
or_no_line rule None = line rule
or_no_line rule (Some broken) = broken

-- ---- octets, as hexadecimal digits over any number of words

abbrev pub is_digit : ℕ → Bool
is_digit c = (nat_le 48 c && nat_le c 57) || (nat_le 65 c && nat_le c 70) || (nat_le 97 c && nat_le c 102)

abbrev pub digits_rule : List ℕ → Option (List ℕ)
digits_rule it = unless (list_all is_digit it) (codes "has octets that are no hexadecimal digits")

-- whether one of two is so, and not both
abbrev pub differ : Bool → Bool → Bool
differ true b = not b
differ false b = b

-- whether these words have an odd number of digits in all
abbrev pub are_odd : List (List ℕ) → Bool
are_odd [] = false
are_odd (it ∷ words) = differ (length it % 2 == 1) (are_odd words)

-- the first word with an octet that is no digit
abbrev pub no_digits : List (List ℕ) → Option Broken
no_digits [] = None
no_digits (it ∷ words) = first (of_word it (digits_rule it)) (no_digits words)

-- what an odd number of digits breaks
abbrev pub odd : Bool → Option Broken
odd true = Some (line (codes "its hexadecimal digits are an odd number"))
odd false = None

abbrev pub octets_broken : List (List ℕ) → Option Broken
octets_broken words = first (no_digits words) (odd (are_odd words))

-- ---- identities

-- an identity: a VMAC, a device, the longest message and the longest NPDU, whichever they are
abbrev pub identity_rules : List (List ℕ → Option (List ℕ))
identity_rules = vmac_rule ∷ device_rule ∷ maximum_rule ∷ maximum_rule ∷ []

-- what a hub may have of them: the VMAC of one node, and lengths that aren't too short
abbrev pub hub_rules : List (List ℕ → Option (List ℕ))
hub_rules =
    (λ it. one_node_rule (vmac_of_word it))
    ∷ maximum_from LEAST_BVLC (codes "is a longest message below 0040")
    ∷ maximum_from 1 (codes "is a longest NPDU below 0001") ∷ []
