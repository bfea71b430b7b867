-- What a place says of the addresses and of the function of a message, as tests.
use Rattle.std.specs.Prelude.{ℕ, ◌==◌, ◌||◌, ◌&&◌, nat_le, not, Bool, true, false, is_some, is_none, Option, Some, None}
use Rattle.bsc_octets.specs.declared.vmac.Vmac.{Vmac}
use Rattle.bsc_octets.specs.Addresses.{broadcast, same_vmac}
use Rattle.bsc_checks.specs.declared.phase.Phase.{Phase}
use Rattle.bsc_checks.specs.declared.phase.Phase.TheVariants.{AwaitingRequest, AwaitingAccept, Connected, Disconnecting}
use Rattle.bsc_checks.specs.declared.place.Place.{Place}
use Rattle.bsc_checks.specs.declared.place.Place.TheVariants.{HubPort, NodeHub, NodeDirect}
use Rattle.bsc_checks.specs.Places.{phase_of}

-- ---- the addresses

-- Whether a message with this Destination is a unicast.
abbrev pub is_unicast : Option Vmac → Bool
is_unicast None = true
is_unicast (Some v) = not (same_vmac v broadcast)

-- Whether there is no Originating address, though the function needs one.
abbrev pub lacks_sender : ℕ → Option Vmac → Bool
lacks_sender function origin = (is_none origin && not (function == 0x00)) && not (nat_le 0x06 function && nat_le function 0x0B)

-- Whether there is a Destination that is neither the broadcast address nor this node's own.
abbrev pub is_for_another : Vmac → Option Vmac → Bool
is_for_another own None = false
is_for_another own (Some v) = not (same_vmac v broadcast) && not (same_vmac v own)

-- Whether this is the address of the peer, where that is known.
abbrev pub is_peer : Option Vmac → Vmac → Bool
is_peer None v = false
is_peer (Some w) v = same_vmac w v

-- Whether there is an Originating address that is not the peer's.
abbrev pub is_from_another : Option Vmac → Option Vmac → Bool
is_from_another peer None = false
is_from_another peer (Some v) = not (is_peer peer v)

-- Whether there is a Destination that is not this node's own.
abbrev pub is_not_for : Vmac → Option Vmac → Bool
is_not_for own None = false
is_not_for own (Some v) = not (same_vmac v own)

-- Whether the addresses of a message with this function are wrong for the place.
abbrev pub has_wrong_addresses : Place → ℕ → Option Vmac → Option Vmac → Bool
has_wrong_addresses (HubPort phase) function origin dest = is_some origin
has_wrong_addresses (NodeHub own phase) function origin dest = lacks_sender function origin || is_for_another own dest
has_wrong_addresses (NodeDirect own peer phase) function origin dest = is_from_another peer origin || is_not_for own dest

-- ---- the function

-- Whether the function is one of the three that say of a connection that it ends, or that it is still there.
abbrev pub is_of_life : ℕ → Bool
is_of_life function = (function == 0x08) || ((function == 0x0A) || (function == 0x0B))

-- Whether the function is in place once the connection is made.
abbrev pub is_in_place_connected : Place → ℕ → Option Vmac → Bool
is_in_place_connected (HubPort phase) function origin = (function == 0x08) || (function == 0x0A)
is_in_place_connected (NodeHub own phase) function origin = nat_le function 0x05 || (is_of_life function && is_none origin)
is_in_place_connected (NodeDirect own peer phase) function origin = nat_le function 0x05 || is_of_life function

-- Whether the function is in place in this phase.
abbrev pub is_in_place_in : Phase → Place → ℕ → Option Vmac → Bool
is_in_place_in AwaitingRequest place function origin = function == 0x06
is_in_place_in AwaitingAccept place function origin = (function == 0x00) || (function == 0x07)
is_in_place_in Connected place function origin = is_in_place_connected place function origin
is_in_place_in Disconnecting place function origin = (function == 0x00) || (function == 0x09)

-- Whether the connection is made.
abbrev pub is_connected : Phase → Bool
is_connected Connected = true
is_connected phase = false

-- Whether a message, which the hub is to carry on or not, is in place.
abbrev pub is_in_place : Bool → Place → ℕ → Option Vmac → Bool
is_in_place true place function origin = is_connected (phase_of place)
is_in_place false place function origin = is_in_place_in (phase_of place) place function origin
