-- What a policy decides, by its members and its rules as they were written.
use Rattle.std.specs.Prelude.{◌&&◌, ◌||◌, ◌+◌, ℕ, zero, suc, nat_eq, Bool, if◌then◌else◌, List, find, position, codes, slice_get, Option, Some, None}
use Rattle.std.specs.Cmp.Lexicographic.{pointwise}
use Rattle.std.specs.List.{list_any}
use Rattle.bsc_octets.specs.declared.identity.Identity.{Identity}
use Rattle.bsc_octets.specs.declared.vmac.Vmac.{Vmac}
use Rattle.bsc_octets.specs.Addresses.{same_device, same_vmac}
use Rattle.bsc_policy.specs.declared.decision.Decision.{Decision}
use Rattle.bsc_policy.specs.declared.decision.Decision.TheVariants.{Allowed, Denied}
use Rattle.bsc_policy.specs.declared.member.Member.{Member}
use Rattle.bsc_policy.specs.declared.rule.Rule.{Rule}

-- A side of a rule covers a group: it is `*`, or that group.
abbrev pub covers : List ℕ → List ℕ → Bool
covers side group = pointwise nat_eq side (codes "*") || pointwise nat_eq side group

-- A rule applies to what goes from one group to another: both its sides cover.
abbrev pub applies : List ℕ → List ℕ → Rule → Bool
applies from to r = covers r.from from && covers r.to to

-- A place, counted from 1 where lists count from 0. It is 0 where there is none.
abbrev pub from_one : Option ℕ → ℕ
from_one None = 0
from_one (Some i) = i + 1

-- The number of the first rule that applies to what goes from one group to another: rules are numbered from 1. It is 0
-- where none applies.
abbrev pub number_of : List Rule → List ℕ → List ℕ → ℕ
number_of rules from to = from_one (position (applies from to) rules)

-- The group of the member that has an address.
abbrev pub group_in : Option Member → Option (List ℕ)
group_in None = None
group_in (Some m) = Some m.group

abbrev pub group_of : List Member → Vmac → Option (List ℕ)
group_of members v = group_in (find (λ m. same_vmac m.vmac v) members)

-- The number of the rule that decides between two groups. It is 0 where either is missing.
abbrev pub number_between : List Rule → Option (List ℕ) → Option (List ℕ) → ℕ
number_between rules (Some from) (Some to) = number_of rules from to
number_between rules from to = 0

-- What the rule with a number decides. Rule 0 stands for none, and denies.
abbrev pub by_rule : ℕ → Option Rule → Decision
by_rule i None = Denied 0
by_rule i (Some r) = if r.allows then Allowed (i + 1) else Denied (i + 1)

abbrev pub decided_by : List Rule → ℕ → Decision
decided_by rules zero = Denied 0
decided_by rules (suc i) = by_rule i (slice_get rules i)

-- What is decided of what goes from one address to another: where both have members, the first rule that applies to their
-- groups decides. Else, and where none applies, it is denied by rule 0.
abbrev pub decided_of : List Member → List Rule → Vmac → Vmac → Decision
decided_of members rules from to = decided_by rules (number_between rules (group_of members from) (group_of members to))

-- A device is admitted under an address exactly where one member has both.
abbrev pub is_admitted : List Member → Identity → Bool
is_admitted members who = list_any (λ m. same_vmac m.vmac who.vmac && same_device m.device who.device) members
