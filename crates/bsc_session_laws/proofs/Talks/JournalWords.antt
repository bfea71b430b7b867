-- The words of talks with a journal and with a policy. The hub, A and their octets are those of the talks without.
use Rattle.std.proofs.Common.{◌≡◌, ℕ, [], ◌∷◌, ◌++◌, Some, None, Ok, List, Option, Result, true, false, codes, replicate, refl, sym, ◌∙◌, inr, lit≤}
use Rattle.std.specs.Prelude.{◌<◌, is_none, is_some, length}
use Rattle.bsc_octets.specs.Identities.{identity_of}
use Rattle.bsc_octets.specs.declared.vmac.Vmac.{Vmac}
use Rattle.bsc_policy.specs.declared.member.Member.{Member}
use Rattle.bsc_policy.specs.declared.policy.Policy.{Policy}
use Rattle.bsc_policy.specs.declared.rule.Rule.{Rule}
use Rattle.bsc_history.specs.declared.call.Call.TheVariants.{Connect}
use Rattle.bsc_history.specs.declared.ending.End.{End}
use Rattle.bsc_history.specs.declared.ending.End.TheVariants.{Left}
use Rattle.bsc_history.specs.declared.entry.Entry.{Entry}
use Rattle.bsc_history.specs.declared.reply.Reply.TheVariants.{Joined}
use Rattle.bsc_edge.specs.declared.fault.LinkFault.{LinkFault}
use Rattle.bsc_edge.specs.declared.incoming.Incoming.{Incoming}
use Rattle.bsc_edge.specs.declared.incoming.Incoming.TheVariants.{Message}
use Rattle.bsc_edge.specs.declared.said.Said.{Said}
use Rattle.bsc_edge.specs.declared.said.Said.TheVariants.{Gave}
use Rattle.bsc_session.specs.Notes.Notes.{HasLine, Note}
use Rattle.bsc_session.proofs.NoteFacts.Common.{no_line}
use Rattle.bsc_session.specs.declared.ended.Ended.{Ended}
use Rattle.bsc_session.specs.Answering.{AnswerFits, calls_hub, notes_hearing, step_of}
use Rattle.bsc_session.specs.Course.{SessionCourse, empties_of, end_of, entries_of, frames_of, notes_of, readings_of, talk_of}
use Rattle.bsc_session.specs.Receiving.{Answer, Hearing, replies}
use Rattle.bsc_session.specs.Standings.{Standing, Terms}
use Rattle.bsc_session.specs.Taking.{IsOpening, full_wait, opened, stop_before}
use Rattle.bsc_session.specs.Talk.{Session, first_lost, journal_of, leaving, lost_of, named, named_lost, noted_leaving}
use Rattle.bsc_session.specs.Turns.{IsTurn, Turn}
use Rattle.bsc_session.proofs.TalkWords.{connect, reads, terms}
use Rattle.bsc_session.proofs.Lists.{well}

-- A session with this talk, these readings, own entries, frames and end, that notes this in its journal; and why the line of
-- the last note wasn't put, where it wasn't.
abbrev pub Talked : Terms → List Said → List ℕ → List Entry → List (List ℕ) → Ended → List Note → Option LinkFault → Type 0
Talked v T R E frames ended notes lost = (x : Session v T R E frames ended) × (journal_of x ≡ notes) × (lost_of x ≡ lost)

-- ---- turns

-- a message or another thing given, with the hub's answer, and why its line wasn't put where it wasn't
abbrev pub heard_with : Result Incoming LinkFault → Option Answer → Option LinkFault → Hearing
heard_with given answer lost = record { given = given; judged = true; answer = answer; lost = lost; fault = None }

abbrev pub turn_with : Result Incoming LinkFault → Option Answer → Option LinkFault → Turn
turn_with given answer lost = record { opening = reads 0; hearing = Some (heard_with given answer lost) }

-- A's connect, which joins as a connection; its entry has this place
abbrev pub joins_at : ℕ → ℕ → Turn
joins_at at c = turn_with (Ok (Message connect)) (Some (replies at [] (Joined c None))) None

-- ---- devices

-- A device has the address 02:00:00:00:00:n, and n sixteen times as its UUID.
abbrev pub address : ℕ → Vmac
address n = record { 0 = 0x02 ∷ 0x00 ∷ 0x00 ∷ 0x00 ∷ 0x00 ∷ n ∷ [] }

abbrev pub peer_octets : ℕ → List ℕ
peer_octets n = (0x02 ∷ 0x00 ∷ 0x00 ∷ 0x00 ∷ 0x00 ∷ n ∷ []) ++ replicate 16 n ++ 0x06 ∷ 0x40 ∷ 0x05 ∷ 0xD9 ∷ []

abbrev pub connect_of : ℕ → List ℕ
connect_of n = 0x06 ∷ 0x00 ∷ 0x00 ∷ 0x01 ∷ peer_octets n

-- its connect joins as a connection
abbrev pub asks : ℕ → Said
asks n = Gave full_wait (Ok (Message (connect_of n)))

abbrev pub joins_by : ℕ → ℕ → ℕ → Turn
joins_by n at c = turn_with (Ok (Message (connect_of n))) (Some (replies at [] (Joined c None))) None

abbrev pub joined_by : ℕ → ℕ → Entry
joined_by n c = record { caller = 3; call = Connect (identity_of (peer_octets n)); looks = []; reply = Joined c None }

-- a unicast of A to C, and of C to A
abbrev pub a_to_c : List ℕ
a_to_c = 0x01 ∷ 0x04 ∷ 0x00 ∷ 0x02 ∷ 0x02 ∷ 0x00 ∷ 0x00 ∷ 0x00 ∷ 0x00 ∷ 0x0C ∷ 0x01 ∷ 0x00 ∷ []

abbrev pub c_to_a : List ℕ
c_to_a = 0x01 ∷ 0x04 ∷ 0x00 ∷ 0x02 ∷ 0x02 ∷ 0x00 ∷ 0x00 ∷ 0x00 ∷ 0x00 ∷ 0x0A ∷ 0x01 ∷ 0x00 ∷ []

-- a broadcast of A as it is forwarded, and a unicast as it comes from a device
abbrev pub from_a_to_all : List ℕ
from_a_to_all = 0x01 ∷ 0x0C ∷ 0x00 ∷ 0x02 ∷ 0x02 ∷ 0x00 ∷ 0x00 ∷ 0x00 ∷ 0x00 ∷ 0x0A ∷ 0xFF ∷ 0xFF ∷ 0xFF ∷ 0xFF ∷ 0xFF ∷ 0xFF ∷ 0x01 ∷ 0x00 ∷ []

abbrev pub comes_from : ℕ → List ℕ
comes_from n = 0x01 ∷ 0x08 ∷ 0x00 ∷ 0x02 ∷ 0x02 ∷ 0x00 ∷ 0x00 ∷ 0x00 ∷ 0x00 ∷ n ∷ 0x01 ∷ 0x00 ∷ []

-- ---- the policy

abbrev member_as : ℕ → List ℕ → Member
member_as n group = record { device = record { 0 = replicate 16 n }; vmac = address n; group = group }

-- A and B are in the group ctl, and C is in ops. D isn't written.
abbrev pub members : List Member
members = member_as 0x0A (codes "ctl") ∷ member_as 0x0B (codes "ctl") ∷ member_as 0x0C (codes "ops") ∷ []

-- Rule 1 denies what goes from ctl to ops, and rule 2 allows all.
abbrev pub rules : List Rule
rules = record { allows = false; from = codes "ctl"; to = codes "ops" } ∷ record { allows = true; from = codes "*"; to = codes "*" } ∷ []

-- a session that is guarded by a policy
abbrev pub guarded : Policy → Terms
guarded p = record terms { policy = Some p }

-- ---- turns as they may be

-- an opening that takes nothing
bare_by : (v : Terms) (s : Standing) → IsOpening v s (reads 0)
bare_by v s = record { takes = inr (refl, refl); few = lit≤ tt; not_left = λ h. cc; line = no_line _; cause = well _ }

-- a turn that takes nothing and receives, of which no put fails
pub hears_by : (v : Terms) (s : Standing) (given : Result Incoming LinkFault) (answer : Option Answer) (lost : Option LinkFault)
    → s.receives < v.turns → true ≡ is_none (stop_before v s (reads 0))
    → is_some answer ≡ calls_hub v (opened s (reads 0)) (step_of v (opened s (reads 0)) 0 (heard_with given answer lost)) given
    → AnswerFits (step_of v (opened s (reads 0)) 0 (heard_with given answer lost)) answer
    → HasLine (notes_hearing v (opened s (reads 0)) 0 (heard_with given answer lost)) lost
    → IsTurn v s (turn_with given answer lost)
hears_by v s given answer lost room on calls fits line =
    record { room = room; opening = bare_by v s; heard = on; hearing = record { memory = tt; calls = calls; fits = fits; line = line; cause = well _ } }

-- ---- what a course comes to

no_end : (x y : End) → None ≡ Some y → x ≡ y
no_end x y h = cc

-- What a course comes to that met no End is a session's, whose Leave has a place, and a line that is lost or not. Its talk
-- and its notes are given, since these wait for what a policy decides.
pub told_as : (v : Terms) (c : SessionCourse v) (left_at : ℕ) (left_lost : Option LinkFault) (T : List Said) (notes : List Note)
    → (end_of c).ended ≡ None
    → HasLine (noted_leaving c.stop.lost left_at (leaving v.caller (end_of c).conn (length (frames_of c)) (empties_of c) Left)) left_lost
    → T ≡ talk_of c
    → notes_of c ++ noted_leaving c.stop.lost left_at (leaving v.caller (end_of c).conn (length (frames_of c)) (empties_of c) Left) ≡ notes
    → Talked v T (readings_of c) (entries_of c ++ leaving v.caller (end_of c).conn (length (frames_of c)) (empties_of c) Left) (frames_of c)
    (record {
      why = named_lost left_lost (named (end_of c).ended c.stop.why);
      conn = (end_of c).conn;
      taken = length (frames_of c);
      empties = empties_of c;
      turns = (end_of c).receives;
    })
    notes (first_lost c.stop.lost left_lost)
told_as v c left_at left_lost T notes unended line talk noted = (
  record {
    course = c;
    reply = Left;
    replied = λ n e joined met. no_end Left e (sym unended ∙ met);
    left_at = left_at;
    left_lost = left_lost;
    line = line;
    talk = talk;
    readings = refl;
    entries = refl;
    received = refl;
    why = refl;
    conn = refl;
    taken = refl;
    empties = refl;
    made = refl;
  },
  noted,
  refl,
)
