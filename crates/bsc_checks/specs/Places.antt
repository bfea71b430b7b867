-- Which addresses a message has, and what a place says of them and of the function (Annex AB, "BACnet/SC Virtual Link Layer").
use Rattle.std.specs.Prelude.{◌≡◌, ◌≢◌, ℕ, ◌≤◌, ◌⊎◌, Bool, true, false, if◌then◌else◌, List, Option, Some, None}
use Rattle.bsc_octets.specs.declared.vmac.Vmac.{Vmac}
use Rattle.bsc_octets.specs.Addresses.{broadcast}
use Rattle.bsc_octets.specs.Envelopes.{flags_in, announces_origin, announces_dest, vmac_at}
use Rattle.bsc_checks.specs.declared.phase.Phase.{Phase}
use Rattle.bsc_checks.specs.declared.phase.Phase.TheVariants.{AwaitingRequest, AwaitingAccept, Connected, Disconnecting}
use Rattle.bsc_checks.specs.declared.place.Place.{Place}
use Rattle.bsc_checks.specs.declared.place.Place.TheVariants.{HubPort, NodeHub, NodeDirect}

-- ---- the addresses of a message

-- The Originating Virtual Address, where the Control Flags announce one.
abbrev pub origin_in : List ℕ → Option Vmac
origin_in m = if announces_origin (flags_in m) then Some (vmac_at m 4) else None

-- The Destination Virtual Address, where they announce one: it stands behind the Originating Virtual Address.
abbrev pub dest_in : List ℕ → Option Vmac
dest_in m = if announces_dest (flags_in m) then Some (vmac_at m (if announces_origin (flags_in m) then 10 else 4)) else None

-- A message with this Destination is a unicast: it has none, or one that is not the broadcast address.
abbrev pub IsUnicast : Option Vmac → Type 0
IsUnicast dest = dest ≢ Some broadcast

-- ---- the place

-- The phase of a place.
abbrev pub phase_of : Place → Phase
phase_of (HubPort phase) = phase
phase_of (NodeHub own phase) = phase
phase_of (NodeDirect own peer phase) = phase

-- Whether the message is one that the hub carries on: it came at a hub port, and has a Destination.
abbrev pub is_to_carry : Place → List ℕ → Bool
is_to_carry (HubPort phase) m = announces_dest (flags_in m)
is_to_carry place m = false

-- ---- the addresses at a place

-- The functions of the connection itself, which its two ends say to each other: 06 to 0B, from Connect-Request to Heartbeat-ACK.
abbrev pub IsOfConnection : ℕ → Type 0
IsOfConnection function = (0x06 ≤ function) × (function ≤ 0x0B)

-- There is no Originating address, though the function needs one: every function but BVLC-Result and those of the connection does.
abbrev pub LacksSender : ℕ → Option Vmac → Type 0
LacksSender function origin = (origin ≡ None) × (function ≢ 0x00) × (¬ IsOfConnection function)

-- There is a Destination, and it is neither the broadcast address nor this node's own.
abbrev pub IsForAnother : Vmac → Option Vmac → Type 0
IsForAnother own dest = (v : Vmac) × (dest ≡ Some v) × (v ≢ broadcast) × (v ≢ own)

-- There is an Originating address, and it is not that of the peer; while the peer is not known, none is.
abbrev pub IsFromAnother : Option Vmac → Option Vmac → Type 0
IsFromAnother peer origin = (v : Vmac) × (origin ≡ Some v) × (peer ≢ Some v)

-- There is a Destination, and it is not this node's own.
abbrev pub IsNotFor : Vmac → Option Vmac → Type 0
IsNotFor own dest = (v : Vmac) × (dest ≡ Some v) × (v ≢ own)

-- The addresses of a message with this function are wrong for the place. A node gives its hub no Originating address. The
-- hub gives a node the sender's, and passes on only what is for that node or for all. On a direct connection each address
-- that is given is that of its end.
abbrev pub HasWrongAddresses : Place → ℕ → Option Vmac → Option Vmac → Type 0
HasWrongAddresses (HubPort phase) function origin dest = origin ≢ None
HasWrongAddresses (NodeHub own phase) function origin dest = LacksSender function origin ⊎ IsForAnother own dest
HasWrongAddresses (NodeDirect own peer phase) function origin dest = IsFromAnother peer origin ⊎ IsNotFor own dest

-- ---- the function at a place

-- What is said once the connection is made: to a hub, that the connection ends or is still there; to a node, also the
-- functions 00 to 05, which are between nodes; and what its hub says of the connection it says in no other's name.
abbrev pub IsInPlaceConnected : Place → ℕ → Option Vmac → Type 0
IsInPlaceConnected (HubPort phase) function origin = (function ≡ 0x08) ⊎ (function ≡ 0x0A)
IsInPlaceConnected (NodeHub own phase) function origin = (function ≤ 0x05) ⊎ (((function ≡ 0x08) ⊎ (function ≡ 0x0A) ⊎ (function ≡ 0x0B)) × (origin ≡ None))
IsInPlaceConnected (NodeDirect own peer phase) function origin = (function ≤ 0x05) ⊎ (function ≡ 0x08) ⊎ (function ≡ 0x0A) ⊎ (function ≡ 0x0B)

-- The function is in place in this phase: a Connect-Request where one is awaited; a BVLC-Result or a Connect-Accept where
-- the answer to one is; a BVLC-Result or a Disconnect-ACK where the answer to a Disconnect-Request is; and once connected
-- as above.
abbrev pub IsInPlaceIn : Phase → Place → ℕ → Option Vmac → Type 0
IsInPlaceIn AwaitingRequest place function origin = function ≡ 0x06
IsInPlaceIn AwaitingAccept place function origin = (function ≡ 0x00) ⊎ (function ≡ 0x07)
IsInPlaceIn Connected place function origin = IsInPlaceConnected place function origin
IsInPlaceIn Disconnecting place function origin = (function ≡ 0x00) ⊎ (function ≡ 0x09)

-- The message is in place: one that is to be carried on where the connection is made, whatever its function, and another where its function is.
abbrev pub IsInPlace : Bool → Place → ℕ → Option Vmac → Type 0
IsInPlace true place function origin = phase_of place ≡ Connected
IsInPlace false place function origin = IsInPlaceIn (phase_of place) place function origin
