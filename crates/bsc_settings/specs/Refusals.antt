-- Why a policy is refused: the list at fault, its first entry at fault, and what is wrong with that.
use Rattle.std.specs.Prelude.{◌≡◌, ◌⊎◌, ◌+◌, ℕ, nat_le, Bool, true, if◌then◌else◌, List, [], ◌∷◌, ◌++◌, codes, length, position, Option, Some, None, is_some, option_map, IsTrue}
use Rattle.std.specs.Option.{option_or}
use Rattle.toml.specs.Data.{Data, Items, Members, as_array, as_table, get_member}
use Rattle.bsc_policy.specs.declared.bounds.TheConstants.{MEMBERS, RULES}
use Rattle.bsc_policy.specs.declared.member.Member.{Member}
use Rattle.bsc_policy.specs.declared.rule.Rule.{Rule}
use Rattle.bsc_policy.specs.Writing.{is_taken_by}
use Rattle.bsc_settings.specs.declared.refusal.EntryFault.{EntryFault}
use Rattle.bsc_settings.specs.declared.refusal.EntryFault.TheVariants as entry
use Rattle.bsc_settings.specs.declared.refusal.PolicyRefusal.{PolicyRefusal}
use Rattle.bsc_settings.specs.declared.refusal.PolicyRefusal.TheVariants as refused
use Rattle.bsc_settings.specs.Table.{Row, member_device_row, member_vmac_row, member_group_row, rule_do_row, rule_from_row, rule_to_row}
use Rattle.bsc_settings.specs.Values.{value_at}
use Rattle.bsc_settings.specs.Policies.{all_said, are_members, are_rules, listed, member_in, member_said, members_in, rule_in, rule_said}

-- ---- what is wrong with an entry

-- The rows of a member, in the order in which they are looked at, each with what is wrong where a table has no value for it.
abbrev pub member_rows : List (Row × EntryFault)
member_rows = (member_device_row, entry.Device) ∷ (member_vmac_row, entry.Vmac) ∷ (member_group_row, entry.Group) ∷ []

-- The rows of a rule, likewise.
abbrev pub rule_rows : List (Row × EntryFault)
rule_rows = (rule_do_row, entry.Do) ∷ (rule_from_row, entry.From) ∷ (rule_to_row, entry.To) ∷ []

-- what is wrong by the first of these rows for which a table has no value
abbrev pub first_missing : List (Row × EntryFault) → Members → Option EntryFault
first_missing [] table = None
first_missing (r ∷ rows) table = if is_some (value_at r.0 table) then first_missing rows table else Some r.1

-- Why a member isn't taken behind these: they are as many as a policy takes, or one of them has its address or its device, the
-- first of which is named, counted from 1.
abbrev pub untaken : List Member → Option Member → Option EntryFault
untaken before None = None
untaken before (Some m) =
    if nat_le MEMBERS (length before) then Some (entry.Full MEMBERS)
    else option_map (λ i. entry.Twice (i + 1)) (position (is_taken_by m.vmac m.device) before)

-- why a rule isn't taken behind these: they are as many as a policy takes
abbrev pub unruled : List Rule → Option EntryFault
unruled before = if nat_le RULES (length before) then Some (entry.Full RULES) else None

-- what is wrong with a member that a table says, behind these
abbrev pub member_fault_in : List Member → Option Members → Option EntryFault
member_fault_in before None = Some entry.NoTable
member_fault_in before (Some table) = option_or (first_missing member_rows table) (untaken before (member_in table))

-- what is wrong with a rule that a table says, behind these
abbrev pub rule_fault_in : List Rule → Option Members → Option EntryFault
rule_fault_in before None = Some entry.NoTable
rule_fault_in before (Some table) = option_or (first_missing rule_rows table) (unruled before)

-- What is wrong with a value of the list of members, behind these members: it is no table, a row has no value there, or the
-- policy doesn't take the member.
abbrev pub member_fault : List Member → Data → Option EntryFault
member_fault before value = member_fault_in before (as_table value)

-- The same of a value of the list of rules.
abbrev pub rule_fault : List Rule → Data → Option EntryFault
rule_fault before value = rule_fault_in before (as_table value)

-- ---- the first entry at fault

module _ {T : Type 0} (says : Data → Option T) (fits : List T → Bool) (wrong : List T → Data → Option EntryFault) where
  -- The entry with this number is the first at fault, counted from 1: those before it say what the policy takes, and this is
  -- wrong with it, behind these.
  pub record IsFirst (values : List Data) (number : ℕ) (fault : EntryFault) : Type 0 where
    pub before : List Data
    pub value : Data
    pub rest : List Data
    pub taken : List T
    pub whole : values ≡ before ++ value ∷ rest
    pub place : number ≡ length before + 1
    pub said : all_said says before ≡ Some taken
    pub fine : fits taken ≡ true
    pub is_wrong : wrong taken value ≡ Some fault

-- A refusal is of these values of the list of members: it names the first that is at fault.
abbrev pub IsOfMembers : List Data → PolicyRefusal → Type 0
IsOfMembers values (refused.Member number fault) = IsFirst member_said are_members member_fault values number fault
IsOfMembers values refusal = ⊥

-- A refusal is of these values of the list of rules, likewise.
abbrev pub IsOfRules : List Data → PolicyRefusal → Type 0
IsOfRules values (refused.Rule number fault) = IsFirst rule_said are_rules rule_fault values number fault
IsOfRules values refusal = ⊥

-- a refusal is of what stands where a list is to: it says so of what is no list
abbrev pub IsOfList : (List Data → PolicyRefusal → Type 0) → PolicyRefusal → Option Items → PolicyRefusal → Type 0
IsOfList IsOf no_list None refusal = refusal ≡ no_list
IsOfList IsOf no_list (Some items) refusal = IsOf (listed items) refusal

-- a refusal is of what stands at the key of a list, where something does
abbrev pub IsOfKey : (List Data → PolicyRefusal → Type 0) → PolicyRefusal → Option Data → PolicyRefusal → Type 0
IsOfKey IsOf no_list None refusal = ⊥
IsOfKey IsOf no_list (Some value) refusal = IsOfList IsOf no_list (as_array value) refusal

-- Why a table `policy` is refused: for its list of members; or, where nothing is wrong with that, for its list of rules.
abbrev pub IsWhy : Members → PolicyRefusal → Type 0
IsWhy table refusal =
    IsOfKey IsOfMembers refused.MemberList (get_member (codes "member") table) refusal
    ⊎ (IsTrue (is_some (members_in table)) × IsOfKey IsOfRules refused.RuleList (get_member (codes "rule") table) refusal)
