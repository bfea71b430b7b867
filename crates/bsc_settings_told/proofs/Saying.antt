-- The policy of settings is what the lists of their document say.
-- It serves the clauses of `tell_hub`.
use Rattle.std.proofs.Common.{◌≡◌, ◌∙◌, ◌++◌, Bool, true, false, List, [], ◌∷◌, codes, Option, Some, None, option_map, option_and_then, refl, ap, ap₂, sym, inl, inr, Global}
use Rattle.std.specs.Arc.{arc_value}
use Rattle.std.specs.declared.sync.Arc.{Arc}
use Rattle.std.proofs.lemmas.Bool.{cases_Bool}
use Rattle.std.proofs.lemmas.Option.{none-some, same_Some as some-is}
use Rattle.toml.specs.Data.{Data, Items, Members, as_array, get_member}
use Rattle.bsc_policy.specs.declared.policy.Policy.{Policy}
use Rattle.bsc_settings.specs.declared.settings.Settings.{Settings}
use Rattle.bsc_settings.specs.Documents.{policy_of}
use Rattle.bsc_settings.specs.Fields.{IsSaidBy}
use Rattle.bsc_settings.specs.Listed.{Listed, listed_in, listed_of, one_of, sayings, sayings_of, values_at}
use Rattle.bsc_settings.specs.Policies.{all_said, are_members, are_rules, before_all, list_said, listed, member_said, members_in, parts_in, parts_of, passing, rule_said, rules_in, PolicyParts}

more : {T : Type 0} (o : Option T) (os : Option (List T)) (rest xs : List T) → ((ys : List T) → os ≡ Some ys → rest ≡ ys)
    → before_all o os ≡ Some xs → one_of o ++ rest ≡ xs
more None None rest xs next is = absurd (none-some xs is)
more None (Some ys) rest xs next is = absurd (none-some xs is)
more (Some x) None rest xs next is = absurd (none-some xs is)
more {T} (Some x) (Some ys) rest xs next is = ap (λ (l : List T). x ∷ l) (next ys refl) ∙ some-is (x ∷ ys) xs is

all_say : {T : Type 0} (says : Data → Option T) (values : List Data) (xs : List T) → all_said says values ≡ Some xs → sayings says values ≡ xs
all_say says [] xs is = some-is [] xs is
all_say says (value ∷ values) xs is = more (says value) (all_said says values) (sayings says values) xs (all_say says values) is

passed : {T : Type 0} (test : List T → Bool) (o : Option (List T)) (xs : List T) → passing test o ≡ Some xs → o ≡ Some xs
passed test None xs is = absurd (none-some xs is)
passed test (Some ys) xs is =
    elim (cases_Bool (test ys)) [
      | inl holds ↦ rw holds at is
      | inr fails ↦ absurd (none-some xs (rw fails at is))
    ]

items_say : {T : Type 0} (says : Data → Option T) (test : List T → Bool) (o : Option Items) (xs : List T)
    → passing test (option_and_then (λ items. all_said says (listed items)) o) ≡ Some xs → sayings_of says (option_map listed o) ≡ xs
items_say says test None xs is = absurd (none-some xs is)
items_say says test (Some items) xs is = all_say says (listed items) xs (passed test (all_said says (listed items)) xs is)

list_says : {T : Type 0} (says : Data → Option T) (test : List T → Bool) (at : Option Data) (xs : List T)
    → list_said says test at ≡ Some xs → sayings_of says (option_map listed (option_and_then as_array at)) ≡ xs
list_says says test None xs is = some-is [] xs is
list_says says test (Some value) xs is = items_say says test (as_array value) xs is

parts_say : (p : Policy) (table : Members) → parts_of p ≡ parts_in table → listed_of p ≡ listed_in table
parts_say p table is =
    let members : Some p.members.items ≡ members_in table = ap PolicyParts.members is in
    let rules : Some p.rules.items ≡ rules_in table = ap PolicyParts.rules is in
    ap₂ (λ m r. record { members = m; rules = r })
    (sym (list_says member_said are_members (get_member (codes "member") table) p.members.items (sym members)))
    (sym (list_says rule_said are_rules (get_member (codes "rule") table) p.rules.items (sym rules)))

shared : (p : Option (Arc Policy Global)) (table : Option Members) → option_map (λ it. parts_of (arc_value it)) p ≡ option_map parts_in table
    → option_map listed_of (option_map arc_value p) ≡ option_map listed_in table
shared None None is = refl
shared None (Some table) is = absurd (none-some (parts_in table) is)
shared (Some p) None is = absurd (none-some (parts_of (arc_value p)) (sym is))
shared (Some p) (Some table) is = ap Some (parts_say (arc_value p) table (some-is (parts_of (arc_value p)) (parts_in table) is))

pub policy_says : (doc : Members) (s : Settings) → IsSaidBy doc s → option_map listed_of (option_map arc_value s.policy) ≡ option_map listed_in (policy_of doc)
policy_says doc s said = shared s.policy (policy_of doc) said.policy
