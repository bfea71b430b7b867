-- The policy that a document says.
use Rattle.std.specs.Prelude.{nat_le, Bool, true, not, ◌&&◌, if◌then◌else◌, List, [], ◌∷◌, codes, length, Option, Some, None, option_and_then}
use Rattle.std.specs.List.{list_any}
use Rattle.toml.specs.Data.{Data, Items, no_items, item, Members, as_array, as_table, get_member}
use Rattle.bsc_policy.specs.declared.bounds.TheConstants.{MEMBERS, RULES}
use Rattle.bsc_policy.specs.declared.member.Member.{Member}
use Rattle.bsc_policy.specs.declared.policy.Policy.{Policy}
use Rattle.bsc_policy.specs.declared.rule.Rule.{Rule}
use Rattle.bsc_policy.specs.Writing.{is_taken_by}
use Rattle.bsc_settings.specs.Table.{member_device_row, member_vmac_row, member_group_row, rule_do_row, rule_from_row, rule_to_row}
use Rattle.bsc_settings.specs.Values.{Value, vmac, uuid, text, allows, value_at}

-- the member of these values, where there are all three
abbrev pub member_by : Option Value → Option Value → Option Value → Option Member
member_by (Some (uuid u)) (Some (vmac v)) (Some (text g)) = Some (record { device = u; vmac = v; group = g })
member_by device address group = None

-- the rule of these values, likewise
abbrev pub rule_by : Option Value → Option Value → Option Value → Option Rule
rule_by (Some (allows b)) (Some (text from)) (Some (text to)) = Some (record { allows = b; from = from; to = to })
rule_by does from to = None

-- The member that a table says: its device, its address and its group are the values of its rows.
abbrev pub member_in : Members → Option Member
member_in table = member_by (value_at member_device_row table) (value_at member_vmac_row table) (value_at member_group_row table)

-- The rule that a table says: whether it allows, and its two sides are the values of its rows.
abbrev pub rule_in : Members → Option Rule
rule_in table = rule_by (value_at rule_do_row table) (value_at rule_from_row table) (value_at rule_to_row table)

-- The member that a value of a list says. Only a table says one.
abbrev pub member_said : Data → Option Member
member_said value = option_and_then member_in (as_table value)

-- The rule that a value of a list says, likewise.
abbrev pub rule_said : Data → Option Rule
rule_said value = option_and_then rule_in (as_table value)

-- the values of a list
abbrev pub listed : Items → List Data
listed no_items = []
listed (item value rest) = value ∷ listed rest

-- one in front of others, where there is one and there are others
abbrev pub before_all : {T : Type 0} → Option T → Option (List T) → Option (List T)
before_all (Some x) (Some xs) = Some (x ∷ xs)
before_all x xs = None

-- what all of some values say, where each says something
abbrev pub all_said : {T : Type 0} → (Data → Option T) → List Data → Option (List T)
all_said says [] = Some []
all_said says (value ∷ rest) = before_all (says value) (all_said says rest)

-- these, where they pass a test
abbrev pub passing : {T : Type 0} → (List T → Bool) → Option (List T) → Option (List T)
passing test None = None
passing test (Some xs) = if test xs then Some xs else None

-- What a list of the table `policy` says, where what stands at its key is a list, each of its values says something, and
-- together they pass a test. Where nothing stands at the key it is the empty list.
abbrev pub list_said : {T : Type 0} → (Data → Option T) → (List T → Bool) → Option Data → Option (List T)
list_said says test None = Some []
list_said says test (Some value) = passing test (option_and_then (λ items. all_said says (listed items)) (as_array value))

-- whether no two of these members have the same address, and no two the same device
abbrev pub are_apart : List Member → Bool
are_apart [] = true
are_apart (m ∷ members) = not (list_any (is_taken_by m.vmac m.device) members) && are_apart members

-- Whether a policy takes these members: there are no more than it takes, and no address and no device stands twice.
abbrev pub are_members : List Member → Bool
are_members members = nat_le (length members) MEMBERS && are_apart members

-- Whether it takes these rules: there are no more than it takes.
abbrev pub are_rules : List Rule → Bool
are_rules rules = nat_le (length rules) RULES

-- The members that a table `policy` lists, where they are members that a policy takes.
abbrev pub members_in : Members → Option (List Member)
members_in table = list_said member_said are_members (get_member (codes "member") table)

-- The rules that it lists, likewise.
abbrev pub rules_in : Members → Option (List Rule)
rules_in table = list_said rule_said are_rules (get_member (codes "rule") table)

-- What a policy is: its members and its rules, in their order.
pub record PolicyParts : Type 0 where
  pub members : Option (List Member)
  pub rules : Option (List Rule)

-- the parts of a policy
abbrev pub parts_of : Policy → PolicyParts
parts_of p = record { members = Some p.members.items; rules = Some p.rules.items }

-- the parts that a table `policy` says
abbrev pub parts_in : Members → PolicyParts
parts_in table = record { members = members_in table; rules = rules_in table }
