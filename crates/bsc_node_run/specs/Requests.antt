-- What the lines of a script ask of a node.
use Rattle.std.specs.Prelude.{nat_lt, Bool, true, false, not, ◌&&◌, length}
use Rattle.bsc_octets.specs.Addresses.{same_vmac, zero_vmac}
use Rattle.bsc_node.specs.declared.node_event.NodeEvent.{NodeEvent}
use Rattle.bsc_node.specs.declared.node_event.NodeEvent.TheVariants.{Send, Resolve, DirectTo, Solicit, Finish}

-- whether an NPDU that is sent has an octet
abbrev pub has_octets : NodeEvent → Bool
has_octets (Send dest npdu) = nat_lt 0 (length npdu)
has_octets e = true

-- Whether it is one of the events for which a script may ask: a Send of some octets to a VMAC that isn't zero, a Resolve,
-- a DirectTo, a Solicit or a Finish.
abbrev pub is_asked : NodeEvent → Bool
is_asked (Send dest npdu) = nat_lt 0 (length npdu) && not (same_vmac dest zero_vmac)
is_asked (Resolve v) = true
is_asked (DirectTo v) = true
is_asked (Solicit v) = true
is_asked Finish = true
is_asked e = false
