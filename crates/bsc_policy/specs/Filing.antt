-- What is filed under addresses, and for each two classes.
use Rattle.std.specs.Prelude.{◌≡◌, ℕ, nat_eq, if◌then◌else◌, List, map, slice_get, unwrap_or, Option, Some, None}
use Rattle.std.specs.Cmp.Lexicographic.{pointwise}
use Rattle.std.specs.HashMap.{HashMap, get_by}
use Rattle.std.specs.Option.{option_or}
use Rattle.bsc_octets.specs.declared.vmac.Vmac.{Vmac}
use Rattle.bsc_octets.specs.Addresses.{same_vmac}
use Rattle.bsc_policy.specs.declared.classes.Classes.{Classes}
use Rattle.bsc_policy.specs.declared.key.Key.{Key}
use Rattle.bsc_policy.specs.declared.rule.Rule.{Rule}
use Rattle.bsc_policy.specs.Decisions.{number_of}

-- the classes that are filed under an address
abbrev pub filed_at : {S : Type 0} → HashMap Key Classes S → Vmac → Option Classes
filed_at filed v = get_by (λ k. pointwise nat_eq v.0 k.0) filed

-- classes are filed under the address w, unless some were
abbrev pub Files : {S : Type 0} → HashMap Key Classes S → HashMap Key Classes S → Vmac → Classes → Type 0
Files old new w classes = (v : Vmac) → filed_at new v ≡ option_or (filed_at old v) (if same_vmac w v then Some classes else None)

-- the numbers of the first rules that apply from a group to each of these, and those from each of some to each of others
abbrev pub row_of : List Rule → List (List ℕ) → List ℕ → List ℕ
row_of rules tos from = map (λ to. number_of rules from to) tos

abbrev pub rows_of : List Rule → List (List ℕ) → List (List ℕ) → List (List ℕ)
rows_of rules froms tos = map (λ from. row_of rules tos from) froms

-- the number at a place of a row; 0 where there is none
abbrev pub number_in : Option (List ℕ) → ℕ → ℕ
number_in None place = 0
number_in (Some row) place = unwrap_or (slice_get row place) 0

-- the number for who sends and who receives; 0 where either has no classes
abbrev pub number_for : List (List ℕ) → Option Classes → Option Classes → ℕ
number_for rows (Some sender) (Some receiver) = number_in (slice_get rows sender.from) receiver.to
number_for rows sender receiver = 0
