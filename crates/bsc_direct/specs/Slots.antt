-- Which slots of direct connections are claimed and which are established, by all that happened to them, newest last
-- (Annex AB, "Direct Connections").
use Rattle.std.specs.Prelude.{ℕ, ◌==◌, Bool, true, false, not, ◌&&◌, if◌then◌else◌, List, find, Option, Some, None, is_some, unwrap_or}
use Rattle.std.specs.List.{list_any, range_with_len}
use Rattle.bsc_octets.specs.declared.vmac.Vmac.{Vmac}
use Rattle.bsc_octets.specs.declared.device_id.DeviceId.{DeviceId}
use Rattle.bsc_octets.specs.declared.identity.Identity.{Identity}
use Rattle.bsc_octets.specs.Addresses.{same_vmac, same_device}
use Rattle.bsc_connector.specs.Back.{newest_of, since}
use Rattle.bsc_direct.specs.declared.bounds.TheConstants.{SLOTS}
use Rattle.bsc_direct.specs.declared.call.SlotCall.{SlotCall}
use Rattle.bsc_direct.specs.declared.call.SlotCall.TheVariants.{Claim, Up, Release}
use Rattle.bsc_direct.specs.declared.establish.Establish.{Establish}
use Rattle.bsc_direct.specs.declared.establish.Establish.TheVariants.{Up as IsUp, Duplicate, WrongPeer}

-- The slots of a node, numbered from 0.
unfoldable pub slots : List ℕ
slots = range_with_len 0 SLOTS

-- ---- what one call says

-- whether the slot is claimed by a call, where the call is about it
abbrev pub claim_said : ℕ → SlotCall → Option Bool
claim_said k (Claim slot wanted) = if slot == k then Some true else None
claim_said k (Release slot) = if slot == k then Some false else None
claim_said k (Up slot peer) = None

-- the VMAC for which the slot is claimed by a call, and none where the call releases it
abbrev pub wanted_by : ℕ → SlotCall → Option (Option Vmac)
wanted_by k (Claim slot wanted) = if slot == k then Some wanted else None
wanted_by k (Release slot) = if slot == k then Some None else None
wanted_by k (Up slot peer) = None

-- Whether a call ends that the slot is established: it is claimed or released.
abbrev pub clears : ℕ → SlotCall → Bool
clears k call = is_some (claim_said k call)

-- the peer with which the slot is established by a call
abbrev pub peer_by : ℕ → SlotCall → Option Identity
peer_by k (Up slot peer) = if slot == k then Some peer else None
peer_by k call = None

-- whether by a call another slot is established for this device
abbrev pub replaces : ℕ → Identity → SlotCall → Bool
replaces k who (Up slot peer) = not (slot == k) && same_device peer.device who.device
replaces k who call = false

-- whether by a call the slot is established
abbrev pub is_up_call : ℕ → SlotCall → Bool
is_up_call k call = is_some (peer_by k call)

-- ---- what all calls say

-- The slot is claimed: the newest call that claims or releases it claims it.
abbrev pub is_claimed : List SlotCall → ℕ → Bool
is_claimed calls k = unwrap_or (newest_of (claim_said k) calls) false

-- The lowest free slot, where one is free.
abbrev pub free_slot : List SlotCall → Option ℕ
free_slot calls = find (λ k. not (is_claimed calls k)) slots

-- The VMAC that is wanted of the slot's peer, where it is claimed for one.
abbrev pub wanted : List SlotCall → ℕ → Option Vmac
wanted calls k = unwrap_or (newest_of (wanted_by k) calls) None

-- the peer, unless a call since then replaced it
abbrev pub unless_replaced : ℕ → List SlotCall → Option Identity → Option Identity
unless_replaced k calls None = None
unless_replaced k calls (Some who) = if list_any (replaces k who) (since (is_up_call k) calls) then None else Some who

-- The peer with which the slot is established: since it was claimed its connection came up, and since then no other
-- slot was established for the same device.
abbrev pub established_peer : List SlotCall → ℕ → Option Identity
established_peer calls k = unless_replaced k calls (newest_of (peer_by k) (since (clears k) calls))

-- whether there is a peer, and it passes the test
abbrev pub is_peer : (Identity → Bool) → Option Identity → Bool
is_peer test None = false
is_peer test (Some who) = test who

-- the lowest slot that is established with a peer that passes the test
abbrev pub established_with : (Identity → Bool) → List SlotCall → Option ℕ
established_with test calls = find (λ k. is_peer test (established_peer calls k)) slots

-- The slot that is established for v.
abbrev pub established : List SlotCall → Vmac → Option ℕ
established calls v = established_with (λ peer. same_vmac peer.vmac v) calls

-- The slot that is established for a device.
abbrev pub of_device : List SlotCall → DeviceId → Option ℕ
of_device calls device = established_with (λ peer. same_device peer.device device) calls

-- whether a peer has the VMAC of who, and is another device
abbrev pub is_rival : Identity → Identity → Bool
is_rival who peer = same_vmac peer.vmac who.vmac && not (same_device peer.device who.device)

-- The slot that is established for the VMAC of who by another device.
abbrev pub rival : List SlotCall → Identity → Option ℕ
rival calls who = established_with (is_rival who) calls

-- ---- whether a connection is established

-- refused as a duplicate where there is a rival, and else up
abbrev pub unless_rival : Option ℕ → Option ℕ → Establish
unless_rival (Some holder) replaced = Duplicate (Some holder)
unless_rival None replaced = IsUp replaced

-- an own VMAC is a duplicate that no slot holds
abbrev pub unless_own : Bool → Establish → Establish
unless_own true otherwise = Duplicate None
unless_own false otherwise = otherwise

-- another peer than the wanted one is wrong
abbrev pub unless_wrong : Option Vmac → Identity → Establish → Establish
unless_wrong None who otherwise = otherwise
unless_wrong (Some v) who otherwise = if same_vmac v who.vmac then otherwise else WrongPeer v

-- Whether the connection of the slot k with who is established: not where another VMAC was wanted, nor where its VMAC
-- is the own one or is established for another device. Where its device has an established slot, that one is replaced.
abbrev pub establish : Vmac → List SlotCall → ℕ → Identity → Establish
establish own calls k who =
    unless_wrong (wanted calls k) who (unless_own (same_vmac who.vmac own) (unless_rival (rival calls who) (of_device calls who.device)))
