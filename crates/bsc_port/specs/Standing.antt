-- What a port may be told, how it is left, and what its calls answer, for whatever its machine was told before.
use Rattle.std.specs.Prelude.{◌≡◌, ◌≢◌, ℕ, false, true, List, [], ◌∷◌, ◌++◌, Option, Some, None, ⊤}
use Rattle.bsc_octets.specs.declared.vmac.Vmac.{Vmac}
use Rattle.bsc_octets.specs.Addresses.{same_vmac, zero_vmac, broadcast}
use Rattle.bsc_octets.specs.Forwarding.{has_route}
use Rattle.bsc_policy.specs.declared.policy.Policy.{Policy}
use Rattle.bsc_history.specs.declared.ending.End.TheVariants.{Left}
use Rattle.bsc_checks.specs.declared.phase.Phase.TheVariants.{AwaitingRequest}
use Rattle.bsc_accept.specs.declared.accepting.Accepting.{Accepting}
use Rattle.bsc_accept.specs.declared.start.Start.{Start}
use Rattle.bsc_accept.specs.declared.event.Event.{Event}
use Rattle.bsc_accept.specs.Standing.{AcceptingStands, AwaitsAnswer, IsConnected, IsOpen, IsOver, phase_of}
use Rattle.bsc_port.specs.declared.event.PortEvent.{PortEvent}
use Rattle.bsc_port.specs.declared.event.PortEvent.TheVariants.{Joined, Refused, Ended, Tick}
use Rattle.bsc_port.specs.declared.output.Output.{Output}
use Rattle.bsc_port.specs.declared.output.Output.TheVariants.{SendClose, Close}
use Rattle.bsc_port.specs.declared.action.PortAction.{PortAction}
use Rattle.bsc_port.specs.declared.action.PortAction.TheVariants.{Does, Connect, Forward, Deny, Reject}
use Rattle.bsc_port.specs.declared.port.Port.{Port}
use Rattle.bsc_port.specs.Actions.{action, heard, machine_event, output}

-- ---- what it may be told

-- The machine of a port started somehow, and was told some events.
abbrev pub HasPast : {J : Type 0} → Port J → Type 0
HasPast p = (s : Start) × (E : List Event) × AcceptingStands p.machine s E

-- A port that may hear: its machine is open and doesn't wait for the hub's answer. One that has joined doesn't wait for a
-- Connect-Request.
pub record IsReady {J : Type 0} (p : Port J) : Type 0 where
  pub waits : IsOpen p.machine
  pub asked : (j : J) → p.joined ≡ Some j → phase_of p.machine ≡ AwaitingRequest → ⊥

-- When an event may be told: an answer of the hub where the machine waits for one, an end of the connection where the
-- machine is connected, and a time where the port may hear.
abbrev pub MayHandle : {J : Type 0} → PortEvent → Port J → Type 0
MayHandle Joined p = AwaitsAnswer p.machine
MayHandle (Refused refusal) p = AwaitsAnswer p.machine × (p.joined ≡ None)
MayHandle (Ended now ending) p = IsReady p × IsConnected p.machine × (ending ≢ Left)
MayHandle (Tick now) p = IsReady p

-- ---- how it is left

-- After a closing a port is over, and else it may hear.
abbrev pub LeavesPort : {J : Type 0} → Output → Port J → Type 0
LeavesPort (SendClose octets c) p = IsOver p.machine
LeavesPort (Close c) p = IsOver p.machine
LeavesPort other p = IsReady p

-- How an action at a message leaves it. Where a device is to join, none has, and the machine waits for the hub's answer. Of a
-- port whose device is rejected nothing is said: the link is closed, and it is told no more.
abbrev pub LeavesBy : {J : Type 0} → PortAction → Port J → Type 0
LeavesBy (Does output) p = LeavesPort output p
LeavesBy (Connect who) p = AwaitsAnswer p.machine × (p.joined ≡ None)
LeavesBy (Reject denial) p = ⊤
LeavesBy other p = IsReady p

-- What is known of an action: a device that is to join has the address of a node, a message that is forwarded has a
-- Destination and no origin, and only a policy denies.
abbrev pub Fits : Option Policy → List ℕ → PortAction → Type 0
Fits policy m (Connect who) = (same_vmac who.vmac zero_vmac ≡ false) × (same_vmac who.vmac broadcast ≡ false)
Fits policy m Forward = has_route m ≡ true
Fits policy m (Deny denial) = policy ≢ None
Fits policy m (Reject denial) = policy ≢ None
Fits policy m other = ⊤

-- ---- what it does

-- Whatever a machine was told before, the action at a message is that of the definition, and the machine then stands for
-- these events and the message.
abbrev pub Hears : Accepting → Accepting → Option Policy → Option Vmac → ℕ → ℕ → List ℕ → PortAction → Type 0
Hears old new policy from now max m a = (s : Start) (E : List Event) → AcceptingStands old s E → max ≡ s.own.max_bvlc
    → (a ≡ action policy from s E now m) × AcceptingStands new s (E ++ heard s E now m ∷ [])

-- The same of what is done at an event.
abbrev pub Handles : Accepting → Accepting → PortEvent → Output → Type 0
Handles old new e o = (s : Start) (E : List Event) → AcceptingStands old s E
    → (o ≡ output s E e) × AcceptingStands new s (E ++ machine_event e ∷ [])
