-- What a policy denies at a hub's port. Without a policy nothing is denied.
use Rattle.std.specs.Prelude.{ℕ, List, Option, Some, None, if◌then◌else◌}
use Rattle.bsc_octets.specs.declared.identity.Identity.{Identity}
use Rattle.bsc_octets.specs.declared.vmac.Vmac.{Vmac}
use Rattle.bsc_octets.specs.Forwarding.{destination, is_broadcast}
use Rattle.bsc_policy.specs.declared.decision.Decision.{Decision}
use Rattle.bsc_policy.specs.declared.decision.Decision.TheVariants.{Allowed, Denied}
use Rattle.bsc_policy.specs.declared.policy.Policy.{Policy}
use Rattle.bsc_policy.specs.Decisions.{decided_of, is_admitted}
use Rattle.bsc_lines.specs.declared.denial.Denial.{Denial}
use Rattle.bsc_lines.specs.declared.denial.Denial.TheVariants.{OfConnect, OfPair}

-- What a decision on a pair denies.
abbrev pub denied_by : Decision → Vmac → Vmac → Option Denial
denied_by (Allowed rule) from to = None
denied_by (Denied rule) from to = Some (OfPair rule from to)

-- What a policy denies of what would go from one address to another; nothing, where there is no other.
abbrev pub denied_pair : Policy → Vmac → Option Vmac → Option Denial
denied_pair p from None = None
denied_pair p from (Some to) = denied_by (decided_of p.members.items p.rules.items from to) from to

-- A device that isn't admitted is denied its connect, by rule 0.
abbrev pub denied_connect : Option Policy → Identity → Option Denial
denied_connect None who = None
denied_connect (Some p) who = if is_admitted p.members.items who then None else Some (OfConnect who.vmac)

-- A unicast of the connection that has an address is denied where the pair of this address and its Destination is. A
-- broadcast is forwarded: it is denied, or not, to each that gets it.
abbrev pub denied_from : Policy → Option Vmac → List ℕ → Option Denial
denied_from p None m = None
denied_from p (Some from) m = if is_broadcast m then None else denied_pair p from (Some (destination m))

-- What is denied of a message: nothing without a policy, and else what `denied_from` says.
abbrev pub denied_message : Option Policy → Option Vmac → List ℕ → Option Denial
denied_message None from m = None
denied_message (Some p) from m = denied_from p from m
