-- Talks of sessions that lose a line of their journal, each by computation.
use Rattle.std.proofs.Common.{[], ◌∷◌, Some, None, Ok, refl, lit<}
use Rattle.bsc_history.specs.declared.reply.Reply.TheVariants.{Joined, Appended}
use Rattle.bsc_edge.specs.declared.fault.LinkFault.TheVariants.{Failed, NoMemory}
use Rattle.bsc_edge.specs.declared.incoming.Incoming.TheVariants.{Message, Closed}
use Rattle.bsc_edge.specs.declared.said.Said.TheVariants.{Gave, Put, Closed as SaidClosed}
use Rattle.bsc_accept.specs.declared.reason.Reason.TheVariants.{NoMemory as MemoryReason}
use Rattle.bsc_accept.specs.Reasons.{reason_text}
use Rattle.bsc_checks.proofs.OnLiterals.{verdict_on_literals}
use Rattle.bsc_session.specs.Notes.Notes.{made}
use Rattle.bsc_session.specs.declared.why.Why.TheVariants.{JournalFault, NoMemory as WhyNoMemory, PeerClosed}
use Rattle.bsc_session.specs.Answering.{IsHearing}
use Rattle.bsc_session.specs.Receiving.{replies}
use Rattle.bsc_session.specs.Standings.{Standing}
use Rattle.bsc_session.specs.Stops.{stop_for, stop_unrecorded}
use Rattle.bsc_session.specs.Taking.{full_wait}
use Rattle.bsc_session.proofs.TalkWords.{accept, connect, connects, forwarded, joined_as, left_as, terms, to_b}
use Rattle.bsc_session_laws.proofs.Talks.JournalWords.{Talked, heard_with, hears_by, joins_at, told_as, turn_with}

-- The line of A's join isn't put: A gets no answer, and its Leave has no line.
a_joins_line_is_lost : Talked terms
    (connects ∷ SaidClosed 1011 [] ∷ [])
    (0 ∷ [])
    (joined_as 1 ∷ left_as 1 0 0 ∷ [])
    []
    (record { why = JournalFault; conn = Some 1; taken = 0; empties = 0; turns = 1 })
    (made 0 (joined_as 1) ∷ [])
    (Some Failed)
unfolding verdict_on_literals
a_joins_line_is_lost = told_as terms (record {
  went_on = [];
  last = Some (turn_with (Ok (Message connect)) (Some (replies 0 [] (Joined 1 None))) (Some Failed));
  stop = stop_unrecorded Failed;
  turns = (hears_by terms _ _ _ _ (lit< tt) refl refl refl tt, tt);
  goes_on = tt;
  stops = refl;
}) 1 None _ _ refl tt refl refl

-- The same for want of memory.
no_memory_for_a_joins_line : Talked terms
    (connects ∷ SaidClosed 1011 (reason_text MemoryReason) ∷ [])
    (0 ∷ [])
    (joined_as 1 ∷ left_as 1 0 0 ∷ [])
    []
    (record { why = WhyNoMemory; conn = Some 1; taken = 0; empties = 0; turns = 1 })
    (made 0 (joined_as 1) ∷ [])
    (Some NoMemory)
unfolding verdict_on_literals
no_memory_for_a_joins_line = told_as terms (record {
  went_on = [];
  last = Some (turn_with (Ok (Message connect)) (Some (replies 0 [] (Joined 1 None))) (Some NoMemory));
  stop = stop_unrecorded NoMemory;
  turns = (hears_by terms _ _ _ _ (lit< tt) refl refl refl tt, tt);
  goes_on = tt;
  stops = refl;
}) 1 None _ _ refl tt refl refl

-- B has connection 1. A sends it a message, which is in its outbox, and the line of that isn't put.
a_forwards_line_is_lost : Talked terms
    (connects ∷ Put accept None ∷ Gave full_wait (Ok (Message (to_b 2))) ∷ SaidClosed 1011 [] ∷ [])
    (0 ∷ 0 ∷ [])
    (joined_as 2 ∷ forwarded 2 1 (to_b 2) Appended ∷ left_as 2 0 1 ∷ [])
    []
    (record { why = JournalFault; conn = Some 2; taken = 0; empties = 1; turns = 2 })
    (made 1 (joined_as 2) ∷ made 2 (forwarded 2 1 (to_b 2) Appended) ∷ [])
    (Some Failed)
unfolding verdict_on_literals
a_forwards_line_is_lost = told_as terms (record {
  went_on = joins_at 1 2 ∷ [];
  last = Some (turn_with (Ok (Message (to_b 2))) (Some (replies 2 (record { conn = 1; taken = 0 } ∷ []) (Appended 1))) (Some Failed));
  stop = stop_unrecorded Failed;
  turns = (hears_by terms _ _ _ _ (lit< tt) refl refl refl tt, (hears_by terms _ _ _ _ (lit< tt) refl refl tt tt, tt));
  goes_on = (refl, tt);
  stops = refl;
}) 3 None _ _ refl tt refl refl

-- A's link gives Closed, and the line of its Leave isn't put.
the_leaves_line_is_lost : Talked terms
    (connects ∷ Put accept None ∷ Gave full_wait (Ok Closed) ∷ [])
    (0 ∷ 0 ∷ [])
    (joined_as 1 ∷ left_as 1 0 1 ∷ [])
    []
    (record { why = JournalFault; conn = Some 1; taken = 0; empties = 1; turns = 2 })
    (made 0 (joined_as 1) ∷ made 1 (left_as 1 0 1) ∷ [])
    (Some Failed)
unfolding verdict_on_literals
the_leaves_line_is_lost = told_as terms (record {
  went_on = joins_at 0 1 ∷ [];
  last = Some (turn_with (Ok Closed) None None);
  stop = stop_for PeerClosed None;
  turns = (hears_by terms _ _ _ _ (lit< tt) refl refl refl tt, (hears_by terms _ _ _ _ (lit< tt) refl refl tt tt, tt));
  goes_on = (refl, tt);
  stops = refl;
}) 1 (Some Failed) _ _ refl tt refl refl

-- The same, and no line is lost.
no_line_is_lost : Talked terms
    (connects ∷ Put accept None ∷ Gave full_wait (Ok Closed) ∷ [])
    (0 ∷ 0 ∷ [])
    (joined_as 1 ∷ left_as 1 0 1 ∷ [])
    []
    (record { why = PeerClosed; conn = Some 1; taken = 0; empties = 1; turns = 2 })
    (made 0 (joined_as 1) ∷ made 1 (left_as 1 0 1) ∷ [])
    None
unfolding verdict_on_literals
no_line_is_lost = told_as terms (record {
  went_on = joins_at 0 1 ∷ [];
  last = Some (turn_with (Ok Closed) None None);
  stop = stop_for PeerClosed None;
  turns = (hears_by terms _ _ _ _ (lit< tt) refl refl refl tt, (hears_by terms _ _ _ _ (lit< tt) refl refl tt tt, tt));
  goes_on = (refl, tt);
  stops = refl;
}) 1 None _ _ refl tt refl refl

-- ---- what no session has

-- A line is lost where nothing is noted: the link gives Closed.
no_lost_line_without_a_note : (s : Standing) → IsHearing terms s 0 (heard_with (Ok Closed) None (Some Failed)) → ⊥
no_lost_line_without_a_note s is = is.line
