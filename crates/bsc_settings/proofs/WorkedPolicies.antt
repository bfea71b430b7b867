-- Policies of documents, worked by hand.
-- No clause needs it: worked examples.
use Rattle.std.proofs.Common.{◌≡◌, ℕ, pos, true, false, List, [], ◌∷◌, codes, replicate, Some, None, refl, inl, inr}
use Rattle.std.proofs.lemmas.Bool.{false≢true}
use Rattle.hex.specs.Hex.{decode_pairs}
use Rattle.uuid.proofs.OnLiterals.{uuid_on_literals}
use Rattle.toml.specs.Data.{Data, Items, Members, member as entry, no_members, item, no_items, array, table, string, integer}
use Rattle.bsc_policy.specs.declared.member.Member.{Member}
use Rattle.bsc_settings.specs.declared.key.KeyName.TheVariants.{HubVmac, PolicyMember, PolicyRule, Unknown}
use Rattle.bsc_settings.specs.Groups.{allows_of, is_group, is_group_or_all}
use Rattle.bsc_settings.specs.declared.refusal.EntryFault.TheVariants as entry_fault
use Rattle.bsc_settings.specs.declared.refusal.PolicyRefusal.TheVariants as refused
use Rattle.bsc_settings.specs.Policies.{are_members, member_said, members_in, rule_said}
use Rattle.bsc_settings.specs.Refusals.{IsFirst, IsWhy, member_fault, rule_fault}
use Rattle.bsc_settings.specs.Faults.{fault_of}

-- ---- groups

longest : is_group (codes "abcdefghijklmNOP") ≡ true
longest = refl

too_long : is_group (codes "abcdefghijklmnopq") ≡ false
too_long = refl

empty : is_group (codes "") ≡ false
empty = refl

digit : is_group (codes "ctl1") ≡ false
digit = refl

-- `*` is no group, and stands for all
no_group : is_group (codes "*") ≡ false
no_group = refl

all : is_group_or_all (codes "*") ≡ true
all = refl

allow : allows_of (codes "allow") ≡ Some true
allow = refl

deny : allows_of (codes "deny") ≡ Some false
deny = refl

neither : allows_of (codes "Allow") ≡ None
neither = refl

-- ---- members and rules

abbrev written : List ℕ → List ℕ → List ℕ → Data
written device vmac group =
    table (entry (codes "device") (string device) (entry (codes "group") (string group) (entry (codes "vmac") (string vmac) no_members)))

abbrev a : Data
a = written (codes "aaaaaaaaaaaaaaaaaaaaaaaaaaaaaaaa") (codes "02000000000A") (codes "ctl")

abbrev b : Data
b = written (codes "bbbbbbbbbbbbbbbbbbbbbbbbbbbbbbbb") (codes "02000000000B") (codes "ctl")

-- another device at the address of A, and A's device at another address
abbrev at_a : Data
at_a = written (codes "bbbbbbbbbbbbbbbbbbbbbbbbbbbbbbbb") (codes "02000000000a") (codes "ops")

abbrev of_a : Data
of_a = written (codes "aaaaaaaa-aaaa-aaaa-aaaa-aaaaaaaaaaaa") (codes "02000000000B") (codes "ops")

abbrev the_member : ℕ → ℕ → Member
the_member octet last = record { device = record { 0 = replicate 16 octet }; vmac = record { 0 = 2 ∷ 0 ∷ 0 ∷ 0 ∷ 0 ∷ last ∷ [] }; group = codes "ctl" }

a_member : member_said a ≡ Some (the_member 0xAA 0x0A)
unfolding decode_pairs uuid_on_literals
a_member = refl

-- a value that is no table, and a table without a group
no_table : member_said (integer (pos 1)) ≡ None
no_table = refl

no_group_there : member_said (table (entry (codes "device") (string (codes "aaaaaaaaaaaaaaaaaaaaaaaaaaaaaaaa"))
    (entry (codes "vmac") (string (codes "02000000000A")) no_members))) ≡ None
unfolding decode_pairs uuid_on_literals
no_group_there = refl

-- the address that is reserved
reserved : member_said (written (codes "aaaaaaaaaaaaaaaaaaaaaaaaaaaaaaaa") (codes "000000000000") (codes "ctl")) ≡ None
unfolding decode_pairs uuid_on_literals
reserved = refl

abbrev with_members : Items → Members
with_members items = entry (codes "member") (array items) no_members

-- two members, in the order in which they are listed
two : members_in (with_members (item a (item b no_items))) ≡ Some (the_member 0xAA 0x0A ∷ the_member 0xBB 0x0B ∷ [])
unfolding decode_pairs uuid_on_literals
two = refl

-- an address that stands twice, and a device
one_address : members_in (with_members (item a (item at_a no_items))) ≡ None
unfolding decode_pairs uuid_on_literals
one_address = refl

one_device : members_in (with_members (item a (item of_a no_items))) ≡ None
unfolding decode_pairs uuid_on_literals
one_device = refl

-- the third of three is no member
third : members_in (with_members (item a (item b (item (integer (pos 1)) no_items)))) ≡ None
unfolding decode_pairs uuid_on_literals
third = refl

-- no list, and none
no_list : members_in (entry (codes "member") (table no_members) no_members) ≡ None
no_list = refl

none : members_in no_members ≡ Some []
none = refl

-- a rule, and one that neither allows nor denies
abbrev ruled : List ℕ → List ℕ → List ℕ → Data
ruled does from to = table (entry (codes "do") (string does) (entry (codes "from") (string from) (entry (codes "to") (string to) no_members)))

a_rule : rule_said (ruled (codes "deny") (codes "ctl") (codes "*")) ≡ Some (record { allows = false; from = codes "ctl"; to = codes "*" })
a_rule = refl

no_rule : rule_said (ruled (codes "forbid") (codes "ctl") (codes "*")) ≡ None
no_rule = refl

-- ---- the order of faults

abbrev with_policy : Members → Members
with_policy members = entry (codes "policy") (table members) no_members

-- the members come before the rules, and both behind the keys of `hub` and before what is unknown
members_first : fault_of (with_policy (entry (codes "member") (integer (pos 1)) (entry (codes "rule") (integer (pos 1)) no_members))) ≡ Some PolicyMember
members_first = refl

rules_next : fault_of (with_policy (entry (codes "other") (integer (pos 1)) (entry (codes "rule") (integer (pos 1)) no_members))) ≡ Some PolicyRule
rules_next = refl

hub_before : fault_of (entry (codes "hub") (table no_members) (with_policy (entry (codes "member") (integer (pos 1)) no_members))) ≡ Some HubVmac
hub_before = refl

-- an empty policy has no fault; another key, a key that no rule has, and a policy that is no table are unknown
empty_policy : fault_of (with_policy no_members) ≡ None
empty_policy = refl

other_key : fault_of (with_policy (entry (codes "members") (array no_items) no_members)) ≡ Some Unknown
other_key = refl

abbrev logged : Data
logged = table (entry (codes "do") (string (codes "deny")) (entry (codes "from") (string (codes "*")) (entry (codes "log") (integer (pos 1)) (entry (codes "to") (string (codes "*")) no_members))))

other_key_of_a_rule : fault_of (with_policy (entry (codes "rule") (array (item logged no_items)) no_members)) ≡ Some Unknown
other_key_of_a_rule = refl

no_policy : fault_of (entry (codes "policy") (integer (pos 1)) no_members) ≡ Some Unknown
no_policy = refl

-- ---- the first entry at fault

-- the third entry is the first at fault, and the fourth isn't named
first_of_four : IsFirst member_said are_members member_fault (a ∷ b ∷ integer (pos 1) ∷ integer (pos 2) ∷ []) 3 entry_fault.NoTable
unfolding decode_pairs uuid_on_literals
first_of_four = record {
  before = a ∷ b ∷ [];
  value = integer (pos 1);
  rest = integer (pos 2) ∷ [];
  taken = the_member 0xAA 0x0A ∷ the_member 0xBB 0x0B ∷ [];
  whole = refl;
  place = refl;
  said = refl;
  fine = refl;
  is_wrong = refl;
}

-- who has the address of the first entry is at fault for that
has_the_address_of_the_first : member_fault (the_member 0xAA 0x0A ∷ []) at_a ≡ Some (entry_fault.Twice 1)
unfolding decode_pairs uuid_on_literals
has_the_address_of_the_first = refl

-- of several keys without a value the first in the order of the rows is named
device_first : member_fault [] (table no_members) ≡ Some entry_fault.Device
device_first = refl

vmac_next : member_fault [] (written (codes "aaaaaaaaaaaaaaaaaaaaaaaaaaaaaaaa") (codes "000000000000") (codes "")) ≡ Some entry_fault.Vmac
unfolding decode_pairs uuid_on_literals
vmac_next = refl

no_fault : member_fault [] a ≡ None
unfolding decode_pairs uuid_on_literals
no_fault = refl

rule_of_no_side : rule_fault [] (ruled (codes "deny") (codes "ctl") (codes "")) ≡ Some entry_fault.To
rule_of_no_side = refl

-- where the members are at fault no rule is named
members_before_rules : IsWhy (entry (codes "member") (integer (pos 1)) (entry (codes "rule") (integer (pos 1)) no_members)) refused.RuleList → ⊥
members_before_rules (inl same) = cc
members_before_rules (inr both) = false≢true both.0
