-- Decisions over members and rules written out, by computation.
-- No clause needs it: worked examples.
use Rattle.std.proofs.Common.{◌≡◌, ℕ, true, false, List, [], ◌∷◌, Some, None, codes, position, replicate, refl}
use Rattle.bsc_octets.specs.declared.device_id.DeviceId.{DeviceId}
use Rattle.bsc_octets.specs.declared.identity.Identity.{Identity}
use Rattle.bsc_octets.specs.declared.vmac.Vmac.{Vmac}
use Rattle.bsc_octets.specs.Addresses.{broadcast}
use Rattle.bsc_policy.specs.declared.decision.Decision.TheVariants.{Allowed, Denied}
use Rattle.bsc_policy.specs.declared.member.Member.{Member}
use Rattle.bsc_policy.specs.declared.rule.Rule.{Rule}
use Rattle.bsc_policy.specs.Decisions.{decided_of, is_admitted}
use Rattle.bsc_policy.specs.Writing.{is_taken_by}

abbrev address : ℕ → Vmac
address n = record { 0 = 2 ∷ 0 ∷ 0 ∷ 0 ∷ 0 ∷ n ∷ [] }

abbrev device : ℕ → DeviceId
device n = record { 0 = replicate 16 n }

abbrev peer : ℕ → ℕ → Identity
peer n u = record { vmac = address n; device = device u; max_bvlc = 1600; max_npdu = 1497 }

-- A and B are controllers, and C is an operator's.
abbrev members : List Member
members =
    record { device = device 0xAA; vmac = address 0x0A; group = codes "ctl" }
    ∷ record { device = device 0xBB; vmac = address 0x0B; group = codes "ctl" }
    ∷ record { device = device 0xCC; vmac = address 0x0C; group = codes "ops" }
    ∷ []

abbrev deny_ctl_ops : Rule
deny_ctl_ops = record { allows = false; from = codes "ctl"; to = codes "ops" }

abbrev allow_all : Rule
allow_all = record { allows = true; from = codes "*"; to = codes "*" }

abbrev rules : List Rule
rules = deny_ctl_ops ∷ allow_all ∷ []

-- ---- between members

a_to_b : decided_of members rules (address 0x0A) (address 0x0B) ≡ Allowed 2
a_to_b = refl

a_to_c : decided_of members rules (address 0x0A) (address 0x0C) ≡ Denied 1
a_to_c = refl

c_to_a : decided_of members rules (address 0x0C) (address 0x0A) ≡ Allowed 2
c_to_a = refl

a_to_itself : decided_of members rules (address 0x0A) (address 0x0A) ≡ Allowed 2
a_to_itself = refl

-- the first rule that applies decides, and not the last
in_the_other_order : decided_of members (allow_all ∷ deny_ctl_ops ∷ []) (address 0x0A) (address 0x0C) ≡ Allowed 1
in_the_other_order = refl

-- where no rule applies it is denied by rule 0
none_applies : decided_of members (deny_ctl_ops ∷ []) (address 0x0A) (address 0x0B) ≡ Denied 0
none_applies = refl

no_rules : decided_of members [] (address 0x0A) (address 0x0B) ≡ Denied 0
no_rules = refl

-- a rule with `*` on one side
to_all_groups : decided_of members (record { allows = true; from = codes "ops"; to = codes "*" } ∷ []) (address 0x0C) (address 0x0B) ≡ Allowed 1
to_all_groups = refl

from_another_group : decided_of members (record { allows = true; from = codes "ops"; to = codes "*" } ∷ []) (address 0x0B) (address 0x0C) ≡ Denied 0
from_another_group = refl

-- a rule for a group without members applies to nothing
a_group_without_members : decided_of members (record { allows = false; from = codes "lab"; to = codes "*" } ∷ rules) (address 0x0A) (address 0x0C) ≡ Denied 2
a_group_without_members = refl

-- ---- who isn't a member

a_to_d : decided_of members rules (address 0x0A) (address 0x0D) ≡ Denied 0
a_to_d = refl

d_to_a : decided_of members rules (address 0x0D) (address 0x0A) ≡ Denied 0
d_to_a = refl

a_to_all : decided_of members rules (address 0x0A) broadcast ≡ Denied 0
a_to_all = refl

nobody : decided_of [] (allow_all ∷ []) (address 0x0A) (address 0x0B) ≡ Denied 0
nobody = refl

-- ---- who is admitted

a_joins : is_admitted members (peer 0x0A 0xAA) ≡ true
a_joins = refl

a_under_the_address_of_b : is_admitted members (peer 0x0B 0xAA) ≡ false
a_under_the_address_of_b = refl

a_under_a_new_address : is_admitted members (peer 0x0D 0xAA) ≡ false
a_under_a_new_address = refl

d_under_the_address_of_a : is_admitted members (peer 0x0A 0xDD) ≡ false
d_under_the_address_of_a = refl

-- ---- who is a member already

address_twice : position (is_taken_by (address 0x0B) (device 0xDD)) members ≡ Some 1
address_twice = refl

device_twice : position (is_taken_by (address 0x0D) (device 0xCC)) members ≡ Some 2
device_twice = refl

-- the lowest of two
both_twice : position (is_taken_by (address 0x0C) (device 0xAA)) members ≡ Some 0
both_twice = refl

one_more : position (is_taken_by (address 0x0D) (device 0xDD)) members ≡ None
one_more = refl
