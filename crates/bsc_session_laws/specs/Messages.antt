-- The messages that a session was given, each with the verdict on it, and what its entries say of messages.
use Rattle.std.specs.Prelude.{List, [], None, Ok, Option, Result, Some, flat_map, option_to_list, ℕ, ◌∷◌}
use Rattle.bsc_octets.specs.declared.identity.Identity.{Identity}
use Rattle.bsc_history.specs.declared.call.Call.{Call}
use Rattle.bsc_history.specs.declared.call.Call.TheVariants.{Connect, Forward}
use Rattle.bsc_history.specs.declared.entry.Entry.{Entry}
use Rattle.bsc_checks.specs.declared.verdict.Verdict.{Verdict}
use Rattle.bsc_checks.specs.declared.verdict.Verdict.TheVariants.{Carry, Pass}
use Rattle.bsc_accept.specs.Messages.{who_asks}
use Rattle.bsc_edge.specs.declared.fault.LinkFault.{LinkFault}
use Rattle.bsc_edge.specs.declared.incoming.Incoming.{Incoming}
use Rattle.bsc_edge.specs.declared.incoming.Incoming.TheVariants.{Message}
use Rattle.bsc_lines.specs.declared.denial.Denial.{Denial}
use Rattle.bsc_port.specs.Guarding.{denied_message}
use Rattle.bsc_session.specs.Course.{SessionCourse, all_turns, shares}
use Rattle.bsc_session.specs.Judging.{verdict_on}
use Rattle.bsc_session.specs.Receiving.{Hearing}
use Rattle.bsc_session.specs.Standings.{Standing, Terms, begun}
use Rattle.bsc_session.specs.Taking.{opened}
use Rattle.bsc_session.specs.Turns.{Turn}

-- ---- the messages that were given

-- A message that the link gave; the verdict on it, at the hub port, in the phase in which it came; and what the policy
-- denies of it, where it is a unicast to be carried on: nothing, where there is no policy.
pub record JudgedMessage : Type 0 where
  pub octets : List ℕ
  pub verdict : Verdict
  pub denied : Option Denial

-- the message among things given, by where the session stood
abbrev pub message_by : Terms → Standing → Result Incoming LinkFault → List JudgedMessage
message_by v s (Ok (Message m)) = record { octets = m; verdict = verdict_on v s m; denied = denied_message v.policy s.address m } ∷ []
message_by v s given = []

abbrev pub message_after : Terms → Standing → Option Hearing → List JudgedMessage
message_after v s None = []
message_after v s (Some h) = message_by v s h.given

-- the message of a turn, where it was given one
abbrev pub message_in : Terms → Standing → Turn → List JudgedMessage
message_in v s t = message_after v (opened s t.opening) t.hearing

-- The messages of all turns, in order.
abbrev pub messages_of : {v : Terms} → SessionCourse v → List JudgedMessage
messages_of {v} c = shares message_in v begun (all_turns c)

-- ---- what was to be done about them

abbrev pub carried_by : List ℕ → Verdict → List (List ℕ)
carried_by m (Carry envelope) = m ∷ []
carried_by m verdict = []

-- Those of some messages that are to be carried on.
abbrev pub carried : List JudgedMessage → List (List ℕ)
carried ms = flat_map (λ m. carried_by m.octets m.verdict) ms

abbrev pub allowed_by : List ℕ → Verdict → Option Denial → List (List ℕ)
allowed_by m (Carry envelope) None = m ∷ []
allowed_by m (Carry envelope) (Some d) = []
allowed_by m verdict denial = []

-- Those of some messages that are to be carried on and aren't denied.
abbrev pub allowed : List JudgedMessage → List (List ℕ)
allowed ms = flat_map (λ m. allowed_by m.octets m.verdict m.denied) ms

abbrev pub asked_by : Verdict → List Identity
asked_by (Pass msg) = option_to_list (who_asks msg.body)
asked_by verdict = []

-- Who asks to connect in some messages: by the Connect-Requests among them that pass.
abbrev pub asked : List JudgedMessage → List Identity
asked ms = flat_map (λ m. asked_by m.verdict) ms

-- ---- what the entries say

abbrev pub forwarded_in : Call → List (List ℕ)
forwarded_in (Forward sender m) = m ∷ []
forwarded_in call = []

-- The messages of the Forwards among some entries.
abbrev pub forwarded : List Entry → List (List ℕ)
forwarded E = flat_map (λ e. forwarded_in e.call) E

abbrev pub connected_in : Call → List Identity
connected_in (Connect who) = who ∷ []
connected_in call = []

-- Who the Connects among some entries are for.
abbrev pub connected : List Entry → List Identity
connected E = flat_map (λ e. connected_in e.call) E
