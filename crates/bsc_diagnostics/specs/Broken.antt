-- Which rule a word breaks, and what is told then.
use Rattle.std.specs.Prelude.{◌≡◌, ℕ, nat_le, Bool, not, ◌&&◌, ◌||◌, if◌then◌else◌, List, [], ◌∷◌, codes, is_some, Option, Some, None, Result, Ok, Err}
use Rattle.bsc_octets.specs.declared.vmac.Vmac.{Vmac}
use Rattle.bsc_octets.specs.Addresses.{same_vmac, zero_vmac, broadcast}
use Rattle.bsc_text.specs.Grammar.{device_of_word, is_name, maximum_of_word, number_of, vmac_of_word}
use Rattle.bsc_text.specs.declared.bounds.TheConstants.{LATEST}
use Rattle.bsc_diagnostics.specs.declared.diagnostic.Diagnostic.{Diagnostic}
use Rattle.bsc_diagnostics.specs.declared.diagnostic.Diagnostic.TheVariants as diagnostic

-- ---- what is told

-- It is told that this word breaks this rule.
abbrev pub IsOfWord : Diagnostic → List ℕ → List ℕ → Type 0
IsOfWord (diagnostic.Word named broken) word rule = (named.now ≡ word) × (broken.now ≡ rule)
IsOfWord told word rule = ⊥

-- It is told that a word is missing of a line of this form.
abbrev pub IsMissing : Diagnostic → List ℕ → Type 0
IsMissing (diagnostic.Missing of_form) form = of_form.now ≡ form
IsMissing told form = ⊥

-- It is told that a line of this form has words too many, from this one on.
abbrev pub IsMore : Diagnostic → List (List ℕ) → List ℕ → Type 0
IsMore (diagnostic.More named of_form) (word ∷ words) form = (named.now ≡ word) × (of_form.now ≡ form)
IsMore told words form = ⊥

-- A word is told to break a rule exactly where it breaks one, and that one.
abbrev pub Tells : {T : Type 0} → Result T Diagnostic → List ℕ → Option (List ℕ) → Type 0
Tells (Ok x) word broken = broken ≡ None
Tells (Err told) word broken = (rule : List ℕ) × (broken ≡ Some rule) × IsOfWord told word rule

-- ---- the rules

-- the rule that is broken where this isn't so
abbrev pub unless : Bool → List ℕ → Option (List ℕ)
unless is_so rule = if is_so then None else Some rule

-- A VMAC, a device, a maximum length, a number and a name are what their readers take.
abbrev pub no_vmac : List ℕ
no_vmac = codes "is no VMAC of 12 hexadecimal digits"

abbrev pub vmac_rule : List ℕ → Option (List ℕ)
vmac_rule word = unless (is_some (vmac_of_word word)) no_vmac

abbrev pub device_rule : List ℕ → Option (List ℕ)
device_rule word = unless (is_some (device_of_word word)) (codes "is no UUID")

abbrev pub no_maximum : List ℕ
no_maximum = codes "is no maximum length of 4 hexadecimal digits"

abbrev pub maximum_rule : List ℕ → Option (List ℕ)
maximum_rule word = unless (is_some (maximum_of_word word)) no_maximum

abbrev pub number_rule : List ℕ → Option (List ℕ)
number_rule word = unless (is_some (number_of word)) (codes "is no number of 1 to 19 digits without a sign or a leading zero")

abbrev pub name_rule : List ℕ → Option (List ℕ)
name_rule word = unless (is_name word) (codes "is no name of 1 to 16 letters, digits or `_`, or is `hub`")

-- a destination, by the VMAC that a word is, where it is one: it isn't zero
abbrev pub destination_rule : Option Vmac → Option (List ℕ)
destination_rule None = Some no_vmac
destination_rule (Some v) = unless (not (same_vmac v zero_vmac)) (codes "is the VMAC zero")

-- the VMAC of one node, likewise: it is neither zero nor the broadcast
abbrev pub one_node_rule : Option Vmac → Option (List ℕ)
one_node_rule None = Some no_vmac
one_node_rule (Some v) =
    unless (not (same_vmac v zero_vmac) && not (same_vmac v broadcast)) (codes "is the VMAC zero or the broadcast, which are no one node's")

-- a number from one to another, by the number that a word is, where it is one
abbrev pub within_rule : ℕ → ℕ → List ℕ → Option ℕ → Option (List ℕ)
within_rule least greatest rule None = Some rule
within_rule least greatest rule (Some n) = unless (nat_le least n && nat_le n greatest) rule

-- a maximum length of at least so many octets
abbrev pub maximum_within : ℕ → List ℕ → Option ℕ → Option (List ℕ)
maximum_within least rule None = Some no_maximum
maximum_within least rule (Some n) = unless (nat_le least n) rule

abbrev pub maximum_from : ℕ → List ℕ → List ℕ → Option (List ℕ)
maximum_from least rule word = maximum_within least rule (maximum_of_word word)

-- What is wrong with a time to which the clock of a script can't be set, by the number that a word is, where it is one.
abbrev pub time_rule : Option ℕ → List ℕ
time_rule None = codes "is less than the time that the clock is set to"
time_rule (Some ms) = if nat_le ms LATEST then codes "is less than the time that the clock is set to" else codes "is above 10^15 milliseconds"
