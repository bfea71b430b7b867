-- What a session does, by what its port does: a port whose machine started and was told what the session's was.
use Rattle.std.specs.Prelude.{◌≡◌, ℕ, Bool, true, false, List, [], ◌∷◌, Option, Some, None, Ok}
use Rattle.bsc_octets.specs.declared.identity.Identity.{Identity}
use Rattle.bsc_lines.specs.declared.denial.Denial.{Denial}
use Rattle.bsc_accept.specs.declared.closing.Closing.{Closing}
use Rattle.bsc_accept.specs.declared.step.Step.TheVariants.{Ask}
use Rattle.bsc_port.specs.declared.action.PortAction.{PortAction}
use Rattle.bsc_port.specs.declared.action.PortAction.TheVariants.{Does, Connect, Forward, Deny, Reject}
use Rattle.bsc_port.specs.declared.event.PortEvent.{PortEvent}
use Rattle.bsc_port.specs.declared.output.Output.{Output}
use Rattle.bsc_port.specs.declared.output.Output.TheVariants.{Send, SendClose, Close}
use Rattle.bsc_port.specs.Actions.{action, heard, machine_event, output}
use Rattle.bsc_edge.specs.declared.incoming.Incoming.TheVariants.{Message}
use Rattle.bsc_session.specs.Answering.{calls_hub, denied_in, last_wanted}
use Rattle.bsc_session.specs.Judging.{heard_step, heard_told}
use Rattle.bsc_session.specs.Puts.{octets_in}
use Rattle.bsc_session.specs.Stops.{closing_in}
use Rattle.bsc_session.specs.Standings.{Standing, Terms, start_of, told, wanted}

-- The action of a session's port at a message.
abbrev pub acts : Terms → Standing → ℕ → List ℕ → PortAction
acts v s now m = action v.policy s.address (start_of v s) s.events now m

-- What a session's port does at another event.
abbrev pub handles : Terms → Standing → PortEvent → Output
handles v s e = output (start_of v s) s.events e

-- Whether an action calls the hub.
abbrev pub is_call : PortAction → Bool
is_call (Connect who) = true
is_call Forward = true
is_call other = false

-- What an action denies.
abbrev pub denial_by : PortAction → Option Denial
denial_by (Deny denial) = Some denial
denial_by (Reject denial) = Some denial
denial_by other = None

-- The octets that an output sends.
abbrev pub octets_of : Output → List (List ℕ)
octets_of (Send octets) = octets.items ∷ []
octets_of (SendClose octets c) = octets.items ∷ []
octets_of other = []

-- The closing of the link that is in an output.
abbrev pub closing_of : Output → Option Closing
closing_of (SendClose octets c) = Some c
closing_of (Close c) = Some c
closing_of other = None

-- The same of an action, where the hub isn't called.
abbrev pub octets_by : PortAction → List (List ℕ)
octets_by (Does output) = octets_of output
octets_by other = []

abbrev pub closing_by : PortAction → Option Closing
closing_by (Does output) = closing_of output
closing_by other = None

-- At a message that was judged, a session does what its port does: the machine is told what the port's is told, the hub is
-- called and a denial is noted exactly where the action says so, the device that asks to join is the one that it names, and
-- where the hub isn't called the octets that are put and the closing are those of the action.
pub record FollowsPort (v : Terms) (s : Standing) (now : ℕ) (m : List ℕ) : Type 0 where
  pub told : heard_told v s now true (Ok (Message m)) ≡ told s (heard (start_of v s) s.events now m)
  pub calls : calls_hub v s (heard_step v s now true (Ok (Message m))) (Ok (Message m)) ≡ is_call (acts v s now m)
  pub denies : denied_in v s (heard_step v s now true (Ok (Message m))) (Ok (Message m)) ≡ denial_by (acts v s now m)
  pub asks : (who : Identity) → acts v s now m ≡ Connect who → heard_step v s now true (Ok (Message m)) ≡ Ask who
  pub puts : octets_in (last_wanted v s (heard_step v s now true (Ok (Message m))) None) ≡ octets_by (acts v s now m)
  pub closes : closing_in (last_wanted v s (heard_step v s now true (Ok (Message m))) None) ≡ closing_by (acts v s now m)

-- At another event, which the hub's answer to a Connect, an End and a reading of the clock are, the octets that the session
-- puts and the closing that it wants are those of its port.
pub record FollowsEvent (v : Terms) (s : Standing) (e : PortEvent) : Type 0 where
  pub puts : octets_in (wanted v s (machine_event e)) ≡ octets_of (handles v s e)
  pub closes : closing_in (wanted v s (machine_event e)) ≡ closing_of (handles v s e)
