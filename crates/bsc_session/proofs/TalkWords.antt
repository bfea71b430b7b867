-- The words of worked talks. The hub has the VMAC 020000000001 and takes 1,600 octets. A has the VMAC 02000000000A, and its
-- connect has the Message ID 1. Readings are 0 where none is named.
-- It serves bsc_network_of_runs and bsc_session_laws.
use Rattle.std.proofs.Common.{ℕ, [], ◌∷◌, ◌++◌, Some, None, Ok, List, Option, Result, Bool, true, replicate, refl, inr, lit≤}
use Rattle.std.specs.Prelude.{◌<◌, ◌≡◌, is_none, is_some, length}
use Rattle.bsc_octets.specs.Identities.{identity_of}
use Rattle.bsc_history.specs.declared.call.Call.TheVariants.{Connect, Forward, Leave}
use Rattle.bsc_history.specs.declared.ending.End.{End}
use Rattle.bsc_history.specs.declared.ending.End.TheVariants.{Left}
use Rattle.bsc_history.specs.declared.entry.Entry.{Entry}
use Rattle.bsc_history.specs.declared.reply.Reply.{Reply}
use Rattle.bsc_history.specs.declared.reply.Reply.TheVariants.{Joined, Gone}
use Rattle.bsc_edge.specs.declared.fault.LinkFault.{LinkFault}
use Rattle.bsc_edge.specs.declared.incoming.Incoming.{Incoming}
use Rattle.bsc_edge.specs.declared.incoming.Incoming.TheVariants.{Message}
use Rattle.bsc_edge.specs.declared.said.Said.{Said}
use Rattle.bsc_edge.specs.declared.said.Said.TheVariants.{Gave}
use Rattle.bsc_session.specs.Receiving.{Answer, replies, Hearing}
use Rattle.bsc_session.specs.Standings.{Standing, Terms}
use Rattle.bsc_session.specs.Talk.{Session, leaving, named}
use Rattle.bsc_session.specs.Taking.{IsOpening, Opening, full_wait, opened, stop_before}
use Rattle.bsc_session.specs.Turns.{Turn, IsTurn}
use Rattle.bsc_session.specs.Answering.{AnswerFits, calls_hub, put_after, step_of}
use Rattle.bsc_session.specs.Course.{SessionCourse, empties_of, end_of, entries_of, frames_of, readings_of, talk_of}
use Rattle.bsc_session.specs.Judging.{LacksAtPass}
use Rattle.bsc_session.specs.Puts.{HasPut}
use Rattle.bsc_session.proofs.NoteFacts.Common.{no_line}

-- the octets of the hub's identity, and of A's
abbrev pub hub_octets : List ℕ
hub_octets = 0x02 ∷ 0x00 ∷ 0x00 ∷ 0x00 ∷ 0x00 ∷ 0x01 ∷ 0x01 ∷ 0x01 ∷ 0x01 ∷ 0x01 ∷ 0x01 ∷ 0x01 ∷ 0x01 ∷ 0x01 ∷ 0x01 ∷ 0x01 ∷ 0x01 ∷ 0x01 ∷ 0x01 ∷ 0x01 ∷ 0x01 ∷ 0x01 ∷ 0x06 ∷ 0x40 ∷ 0x05 ∷ 0xD9 ∷ []

abbrev pub a_octets : List ℕ
a_octets = 0x02 ∷ 0x00 ∷ 0x00 ∷ 0x00 ∷ 0x00 ∷ 0x0A ∷ 0x0A ∷ 0x0A ∷ 0x0A ∷ 0x0A ∷ 0x0A ∷ 0x0A ∷ 0x0A ∷ 0x0A ∷ 0x0A ∷ 0x0A ∷ 0x0A ∷ 0x0A ∷ 0x0A ∷ 0x0A ∷ 0x0A ∷ 0x0A ∷ 0x06 ∷ 0x40 ∷ 0x05 ∷ 0xD9 ∷ []

-- a session of caller 3, with the usual waits and a hundred receives
abbrev pub terms : Terms
terms = record { caller = 3; hub = identity_of hub_octets; times = record { connect_wait = 10000; disconnect_wait = 10000; heartbeat = 300000 }; turns = 100; policy = None }

-- an opening that takes nothing, at a reading
abbrev pub reads : ℕ → Opening
reads now = record { reading = now; frames = []; met = None; lost = None; fault = None }

pub bare : (s : Standing) (now : ℕ) → IsOpening terms s (reads now)
bare s now = record { takes = inr (refl, refl); few = lit≤ tt; not_left = λ h. cc; line = tt; cause = tt }

-- what comes from a receive on, with no line lost
abbrev pub heard_so : Result Incoming LinkFault → Bool → Option Answer → Option LinkFault → Hearing
heard_so given judged answer fault = record { given = given; judged = judged; answer = answer; lost = None; fault = fault }

-- a thing given at a reading, with the hub's answer, and with the answer of the last put where that failed
abbrev pub given_at : ℕ → Result Incoming LinkFault → Option Answer → Option LinkFault → Turn
given_at now given answer fault = record { opening = reads now; hearing = Some (heard_so given true answer fault) }

abbrev pub gives : Incoming → Turn
gives x = given_at 0 (Ok x) None None

-- A's connect, the accept that answers it, and the turn of both
abbrev pub connect : List ℕ
connect = 0x06 ∷ 0x00 ∷ 0x00 ∷ 0x01 ∷ a_octets

abbrev pub accept : List ℕ
accept = 0x07 ∷ 0x00 ∷ 0x00 ∷ 0x01 ∷ hub_octets

abbrev pub connects : Said
connects = Gave full_wait (Ok (Message connect))

abbrev pub joins_as : ℕ → Turn
joins_as c = given_at 0 (Ok (Message connect)) (Some (replies 0 [] (Joined c None))) None

abbrev pub joins : Turn
joins = joins_as 1

-- the entries of the session
abbrev pub joined_as : ℕ → Entry
joined_as c = record { caller = 3; call = Connect (identity_of a_octets); looks = []; reply = Joined c None }

abbrev pub left_as : ℕ → ℕ → ℕ → Entry
left_as c taken empties = record { caller = 3; call = Leave c taken empties; looks = []; reply = Gone Left taken }

-- a unicast of A to itself, and as it comes back; three of it to B; a Disconnect-Request and its ACK; a head that is cut;
-- a message of an octet too many
abbrev pub to_itself : List ℕ
to_itself = 0x01 ∷ 0x04 ∷ 0x00 ∷ 0x02 ∷ 0x02 ∷ 0x00 ∷ 0x00 ∷ 0x00 ∷ 0x00 ∷ 0x0A ∷ 0x01 ∷ 0x00 ∷ []

abbrev pub back : List ℕ
back = 0x01 ∷ 0x08 ∷ 0x00 ∷ 0x02 ∷ 0x02 ∷ 0x00 ∷ 0x00 ∷ 0x00 ∷ 0x00 ∷ 0x0A ∷ 0x01 ∷ 0x00 ∷ []

abbrev pub to_b : ℕ → List ℕ
to_b n = 0x01 ∷ 0x04 ∷ 0x00 ∷ n ∷ 0x02 ∷ 0x00 ∷ 0x00 ∷ 0x00 ∷ 0x00 ∷ 0x0B ∷ 0x01 ∷ 0x00 ∷ []

abbrev pub leaves : List ℕ
leaves = 0x08 ∷ 0x00 ∷ 0x00 ∷ 0x07 ∷ []

abbrev pub leaves_ack : List ℕ
leaves_ack = 0x09 ∷ 0x00 ∷ 0x00 ∷ 0x07 ∷ []

abbrev pub cut : List ℕ
cut = 0x01 ∷ 0x04 ∷ []

abbrev pub too_long : List ℕ
too_long = (0x01 ∷ 0x04 ∷ 0x00 ∷ 0x02 ∷ 0x02 ∷ 0x00 ∷ 0x00 ∷ 0x00 ∷ 0x00 ∷ 0x0B ∷ []) ++ replicate 1591 0x00

-- the Disconnect-Request to one that was replaced, and its ACK
abbrev pub farewell : List ℕ
farewell = 0x08 ∷ 0x00 ∷ 0x00 ∷ 0x01 ∷ []

abbrev pub farewell_ack : List ℕ
farewell_ack = 0x09 ∷ 0x00 ∷ 0x00 ∷ 0x01 ∷ []

-- a unicast forwarded by c, to the outbox of a connection from which nothing was taken
abbrev pub forwards_to : ℕ → List ℕ → (ℕ → Reply) → Turn
forwards_to c m reply = given_at 0 (Ok (Message m)) (Some (replies 1 (record { conn = c; taken = 0 } ∷ []) (reply c))) None

abbrev pub forwarded : ℕ → ℕ → List ℕ → (ℕ → Reply) → Entry
forwarded sender c m reply = record { caller = 3; call = Forward sender m; looks = record { conn = c; taken = 0 } ∷ []; reply = reply c }

-- a turn that takes nothing, receives, and loses no line, as it may be
pub hears : (s : Standing) (now : ℕ) (given : Result Incoming LinkFault) (judged : Bool) (answer : Option Answer) (fault : Option LinkFault) → s.receives < terms.turns
    → true ≡ is_none (stop_before terms s (reads now))
    → LacksAtPass terms (opened s (reads now)) judged given
    → is_some answer ≡ calls_hub terms (opened s (reads now)) (step_of terms (opened s (reads now)) now (heard_so given judged answer fault)) given
    → AnswerFits (step_of terms (opened s (reads now)) now (heard_so given judged answer fault)) answer → HasPut (put_after terms (opened s (reads now)) now (heard_so given judged answer fault)) fault
    → IsTurn terms s (record { opening = reads now; hearing = Some (heard_so given judged answer fault) })
hears s now given judged answer fault room on memory calls fits cause =
    record { room = room; opening = bare s now; heard = on; hearing = record { memory = memory; calls = calls; fits = fits; line = no_line _; cause = cause } }

-- what a course comes to is a session's
pub told_by : (v : Terms) (c : SessionCourse v) (reply : End) → ((n : ℕ) (e : End) → (end_of c).conn ≡ Some n → (end_of c).ended ≡ Some e → reply ≡ e)
    → Session v (talk_of c) (readings_of c) (entries_of c ++ leaving v.caller (end_of c).conn (length (frames_of c)) (empties_of c) reply) (frames_of c)
    (record { why = named (end_of c).ended c.stop.why; conn = (end_of c).conn; taken = length (frames_of c); empties = empties_of c; turns = (end_of c).receives })
told_by v c reply replied = record {
  course = c;
  reply = reply;
  replied = replied;
  left_at = 0;
  left_lost = None;
  line = no_line _;
  talk = refl;
  readings = refl;
  entries = refl;
  received = refl;
  why = refl;
  conn = refl;
  taken = refl;
  empties = refl;
  made = refl;
}
