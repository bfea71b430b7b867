-- What a port does, by all that its machine was told before: the machine started as s and was told the events E.
use Rattle.std.specs.Prelude.{ℕ, List, Option, Some, None}
use Rattle.bsc_octets.specs.declared.identity.Identity.{Identity}
use Rattle.bsc_octets.specs.declared.vmac.Vmac.{Vmac}
use Rattle.bsc_policy.specs.declared.policy.Policy.{Policy}
use Rattle.bsc_lines.specs.declared.denial.Denial.{Denial}
use Rattle.bsc_checks.specs.declared.place.Place.TheVariants.{HubPort}
use Rattle.bsc_checks.specs.declared.verdict.Verdict.{Verdict}
use Rattle.bsc_checks.specs.declared.verdict.Verdict.TheVariants.{Silent}
use Rattle.bsc_checks.specs.Outcomes.{outcome_of}
use Rattle.bsc_accept.specs.declared.start.Start.{Start}
use Rattle.bsc_accept.specs.declared.event.Event.{Event}
use Rattle.bsc_accept.specs.declared.event.Event.TheVariants.{Message as Came, Joined as HasJoined, Refused as WasRefused, Ended as HasEnded, Tick as Ticked}
use Rattle.bsc_accept.specs.declared.step.Step.{Step}
use Rattle.bsc_accept.specs.declared.step.Step.TheVariants.{Ask, Up, Put, PutClose, Close as CloseStep, Nothing as NoStep}
use Rattle.bsc_accept.specs.Past.{phase}
use Rattle.bsc_accept.specs.Steps.{step}
use Rattle.bsc_port.specs.declared.event.PortEvent.{PortEvent}
use Rattle.bsc_port.specs.declared.event.PortEvent.TheVariants.{Joined, Refused, Ended, Tick}
use Rattle.bsc_port.specs.declared.output.Output.{Output}
use Rattle.bsc_port.specs.declared.output.Output.TheVariants.{Nothing, Send, SendClose, Close}
use Rattle.bsc_port.specs.declared.action.PortAction.{PortAction}
use Rattle.bsc_port.specs.declared.action.PortAction.TheVariants.{Does, Discard, Connect, Forward, Deny, Reject}
use Rattle.bsc_port.specs.Guarding.{denied_connect, denied_message}

-- ---- what a step does with the link

-- The octets and the closing of a step. One that asks for the hub does nothing with the link.
abbrev pub output_of : Step → Output
output_of (Put octets) = Send octets
output_of (PutClose octets c) = SendClose octets c
output_of (CloseStep c) = Close c
output_of other = Nothing

-- ---- events

-- What the machine is told at an event.
abbrev pub machine_event : PortEvent → Event
machine_event Joined = HasJoined
machine_event (Refused refusal) = WasRefused refusal
machine_event (Ended now ending) = HasEnded now ending
machine_event (Tick now) = Ticked now

-- What a port does at an event.
abbrev pub output : Start → List Event → PortEvent → Output
output s E e = output_of (step s E (machine_event e))

-- ---- messages

-- The verdict on a message: at the hub's port, in the phase of the machine, with the greatest length that the hub takes.
abbrev pub verdict : Start → List Event → List ℕ → Verdict
verdict s E m = outcome_of m (HubPort (phase E)) s.own.max_bvlc

-- What the machine is told at a message.
abbrev pub heard : Start → List Event → ℕ → List ℕ → Event
heard s E now m = Came now (verdict s E m)

-- What follows where the machine does nothing: a message that is met by silence is discarded.
abbrev pub quiet_by : Verdict → PortAction
quiet_by (Silent check) = Discard check
quiet_by v = Does Nothing

-- What follows where a device asks to join, by what is denied of it.
abbrev pub connect_by : Option Denial → Identity → PortAction
connect_by None who = Connect who
connect_by (Some denial) who = Reject denial

-- What follows where a message is to be forwarded, by what is denied of it.
abbrev pub forward_by : Option Denial → PortAction
forward_by None = Forward
forward_by (Some denial) = Deny denial

-- What follows a message, by its verdict and the step of the machine. The hub is called for an Ask and an Up, unless the
-- policy denies it.
abbrev pub action_by : Option Policy → Option Vmac → List ℕ → Verdict → Step → PortAction
action_by policy from m v (Ask who) = connect_by (denied_connect policy who) who
action_by policy from m v Up = forward_by (denied_message policy from m)
action_by policy from m v NoStep = quiet_by v
action_by policy from m v other = Does (output_of other)

-- What a port does at a message that comes at a time, by the policy and the address of the connection, where it has joined.
abbrev pub action : Option Policy → Option Vmac → Start → List Event → ℕ → List ℕ → PortAction
action policy from s E now m = action_by policy from m (verdict s E m) (step s E (heard s E now m))
