-- What the policy of a document lists, whether or not it is at fault.
use Rattle.std.specs.Prelude.{ℕ, List, [], ◌∷◌, codes, flat_map, Option, Some, None, option_and_then, option_map}
use Rattle.toml.specs.Data.{Data, Items, Members, as_array, get_member}
use Rattle.bsc_policy.specs.declared.member.Member.{Member}
use Rattle.bsc_policy.specs.declared.policy.Policy.{Policy}
use Rattle.bsc_policy.specs.declared.rule.Rule.{Rule}
use Rattle.bsc_settings.specs.declared.listed_policy.PolicyLists.{PolicyLists}
use Rattle.bsc_settings.specs.Policies.{listed, member_said, rule_said}

-- one alone, where there is one
abbrev pub one_of : {T : Type 0} → Option T → List T
one_of None = []
one_of (Some x) = x ∷ []

-- what the values say that say something
abbrev pub sayings : {T : Type 0} → (Data → Option T) → List Data → List T
sayings says values = flat_map (λ v. one_of (says v)) values

-- what a list of values says, where there is one
abbrev pub sayings_of : {T : Type 0} → (Data → Option T) → Option (List Data) → List T
sayings_of says None = []
sayings_of says (Some values) = sayings says values

-- the values of the list at a key of a table, where a list stands there
abbrev pub values_at : List ℕ → Members → Option (List Data)
values_at key table = option_map listed (option_and_then as_array (get_member key table))

-- Members and rules, in their order.
pub record Listed : Type 0 where
  pub members : List Member
  pub rules : List Rule

-- What a table `policy` lists: of each list the members, or the rules, that its values say.
abbrev pub listed_in : Members → Listed
listed_in table = record {
  members = sayings_of member_said (values_at (codes "member") table);
  rules = sayings_of rule_said (values_at (codes "rule") table);
}

-- The lists of a policy, and lists that were read.
abbrev pub listed_of : Policy → Listed
listed_of p = record { members = p.members.items; rules = p.rules.items }

abbrev pub listed_by : PolicyLists → Listed
listed_by l = record { members = l.members.items; rules = l.rules.items }
