-- Talks of sessions that are guarded by a policy, each by computation. No policy is written out: each row is of every policy
-- with these members and rules.
use Rattle.std.proofs.Common.{◌≡◌, [], ◌∷◌, ◌++◌, Some, None, Ok, codes, refl, ap, sym, inl, lit<, lit≤}
use Rattle.bsc_history.specs.declared.reply.Reply.TheVariants.{Appended}
use Rattle.bsc_octets.specs.Envelopes.{envelope_of}
use Rattle.bsc_policy.specs.declared.policy.Policy.{Policy}
use Rattle.bsc_edge.specs.declared.fault.LinkFault.TheVariants.{Failed}
use Rattle.bsc_edge.specs.declared.incoming.Incoming.TheVariants.{Message, Closed}
use Rattle.bsc_edge.specs.declared.said.Said.TheVariants.{Gave, Put, Closed as SaidClosed}
use Rattle.bsc_accept.specs.declared.reason.Reason.TheVariants.{Policy as PolicyReason}
use Rattle.bsc_accept.specs.Reasons.{reason_text}
use Rattle.bsc_lines.specs.declared.denial.Denial.TheVariants.{OfConnect, OfPair}
use Rattle.bsc_lines.proofs.OnLiterals.{lines_on_literals}
use Rattle.bsc_checks.proofs.OnLiterals.{verdict_on_literals}
use Rattle.bsc_session.specs.Notes.Notes.{denied, line_feed, lines_of, made}
use Rattle.bsc_session.proofs.NoteFacts.Common.{no_line}
use Rattle.bsc_session.specs.Guarding.{denials, denied_frame, let_through}
use Rattle.bsc_session.specs.declared.why.Why.TheVariants.{Denied, JournalFault, PeerClosed}
use Rattle.bsc_session.specs.Puts.{puts}
use Rattle.bsc_session.specs.Receiving.{replies}
use Rattle.bsc_session.specs.Standings.{Standing}
use Rattle.bsc_session.specs.Stops.{stop_closing, stop_for, stop_unrecorded}
use Rattle.bsc_session.specs.Taking.{IsOpening, full_wait}
use Rattle.bsc_session.proofs.TalkWords.{accept, forwarded, left_as}
use Rattle.bsc_session.proofs.Lists.{well}
use Rattle.bsc_session_laws.proofs.Talks.JournalWords.{Talked, told_as, turn_with, hears_by, heard_with}
use Rattle.bsc_session_laws.proofs.Talks.JournalWords.{a_to_c, address, asks, c_to_a, comes_from, connect_of, from_a_to_all, guarded, joined_by, joins_by, members, rules}

-- D asks to join, and isn't admitted: the hub isn't called, and the link is closed.
a_stranger_is_turned_away : (p : Policy) → p.members.items ≡ members → p.rules.items ≡ rules → Talked (guarded p)
    (asks 0x0D ∷ SaidClosed 1008 (reason_text PolicyReason) ∷ [])
    (0 ∷ [])
    []
    []
    (record { why = Denied 0; conn = None; taken = 0; empties = 0; turns = 1 })
    (denied (OfConnect (address 0x0D)) ∷ [])
    None
unfolding verdict_on_literals
a_stranger_is_turned_away p m r = told_as (guarded p) (record {
  went_on = [];
  last = Some (turn_with (Ok (Message (connect_of 0x0D))) None None);
  stop = stop_closing (Denied 0) 1008 PolicyReason;
  turns = (hears_by (guarded p) _ _ _ _ (lit< tt) refl (rw m refl) tt (no_line _), tt);
  goes_on = tt;
  stops = rw m refl;
}) 0 None _ _ refl tt refl (rw m refl)

-- The same, and the line of the denial isn't put: that is the cause, and the closing is that of a lost line.
a_strangers_line_is_lost : (p : Policy) → p.members.items ≡ members → p.rules.items ≡ rules → Talked (guarded p)
    (asks 0x0D ∷ SaidClosed 1011 [] ∷ [])
    (0 ∷ [])
    []
    []
    (record { why = JournalFault; conn = None; taken = 0; empties = 0; turns = 1 })
    (denied (OfConnect (address 0x0D)) ∷ [])
    (Some Failed)
unfolding verdict_on_literals
a_strangers_line_is_lost p m r = told_as (guarded p) (record {
  went_on = [];
  last = Some (turn_with (Ok (Message (connect_of 0x0D))) None (Some Failed));
  stop = stop_unrecorded Failed;
  turns = (hears_by (guarded p) _ _ _ _ (lit< tt) refl (rw m refl) tt (rw m tt), tt);
  goes_on = tt;
  stops = refl;
}) 0 None _ _ refl tt refl (rw m refl)

-- C has connection 1. A sends it a unicast, which rule 1 denies: no entry is made of it, and the session goes on.
a_unicast_is_denied : (p : Policy) → p.members.items ≡ members → p.rules.items ≡ rules → Talked (guarded p)
    (asks 0x0A ∷ Put accept None ∷ Gave full_wait (Ok (Message a_to_c)) ∷ Gave full_wait (Ok Closed) ∷ [])
    (0 ∷ 0 ∷ 0 ∷ [])
    (joined_by 0x0A 2 ∷ left_as 2 0 2 ∷ [])
    []
    (record { why = PeerClosed; conn = Some 2; taken = 0; empties = 2; turns = 3 })
    (made 1 (joined_by 0x0A 2) ∷ denied (OfPair 1 (address 0x0A) (address 0x0C)) ∷ made 2 (left_as 2 0 2) ∷ [])
    None
unfolding verdict_on_literals
a_unicast_is_denied p m r = told_as (guarded p) (record {
  went_on = joins_by 0x0A 1 2 ∷ turn_with (Ok (Message a_to_c)) None None ∷ [];
  last = Some (turn_with (Ok Closed) None None);
  stop = stop_for PeerClosed None;
  turns = (
    hears_by (guarded p) _ _ _ _ (lit< tt) refl (rw m refl) refl (no_line _),
    (
      hears_by (guarded p) _ _ _ _ (lit< tt) refl (rw (r, m) refl) tt (no_line _),
      (hears_by (guarded p) _ _ _ _ (lit< tt) refl refl tt tt, tt),
    ),
  );
  goes_on = (rw m refl, (rw (r, m) refl, tt));
  stops = refl;
}) 2 None _ _ refl tt refl (rw (r, m) refl)

-- The journal then has these lines.
its_journal : lines_of (made 1 (joined_by 0x0A 2) ∷ denied (OfPair 1 (address 0x0A) (address 0x0C)) ∷ made 2 (left_as 2 0 2) ∷ [])
    ≡ codes "1 3 connect 02000000000A0A0A0A0A0A0A0A0A0A0A0A0A0A0A0A0A064005D9 joined 2" ++ line_feed
    ++ codes "deny 1 from 02000000000A to 02000000000C" ++ line_feed
    ++ codes "2 3 leave 2 0 2 gone left 0" ++ line_feed
unfolding lines_on_literals
its_journal = refl

-- A has connection 1, and C sends it a unicast, which rule 2 allows.
a_unicast_is_allowed : (p : Policy) → p.members.items ≡ members → p.rules.items ≡ rules → Talked (guarded p)
    (asks 0x0C ∷ Put accept None ∷ Gave full_wait (Ok (Message c_to_a)) ∷ Gave full_wait (Ok Closed) ∷ [])
    (0 ∷ 0 ∷ 0 ∷ [])
    (joined_by 0x0C 2 ∷ forwarded 2 1 c_to_a Appended ∷ left_as 2 0 2 ∷ [])
    []
    (record { why = PeerClosed; conn = Some 2; taken = 0; empties = 2; turns = 3 })
    (made 1 (joined_by 0x0C 2) ∷ made 2 (forwarded 2 1 c_to_a Appended) ∷ made 3 (left_as 2 0 2) ∷ [])
    None
unfolding verdict_on_literals
a_unicast_is_allowed p m r = told_as (guarded p) (record {
  went_on = joins_by 0x0C 1 2 ∷ turn_with (Ok (Message c_to_a)) (Some (replies 2 (record { conn = 1; taken = 0 } ∷ []) (Appended 1))) None ∷ [];
  last = Some (turn_with (Ok Closed) None None);
  stop = stop_for PeerClosed None;
  turns = (
    hears_by (guarded p) _ _ _ _ (lit< tt) refl (rw m refl) refl (no_line _),
    (
      hears_by (guarded p) _ _ _ _ (lit< tt) refl (rw (r, m) refl) tt (no_line _),
      (hears_by (guarded p) _ _ _ _ (lit< tt) refl refl tt tt, tt),
    ),
  );
  goes_on = (rw m refl, (rw (r, m) refl, tt));
  stops = refl;
}) 3 None _ _ refl tt refl (rw (r, m) refl)

-- ---- frames to C

-- a frame from A is denied, and one of its own isn't
from_a_denied : (p : Policy) → p.members.items ≡ members → p.rules.items ≡ rules
    → denied_frame p (Some (address 0x0C)) from_a_to_all ≡ Some (OfPair 1 (address 0x0A) (address 0x0C))
unfolding envelope_of
from_a_denied p m r = rw (r, m) refl

its_own_allowed : (p : Policy) → p.members.items ≡ members → p.rules.items ≡ rules → denied_frame p (Some (address 0x0C)) (comes_from 0x0C) ≡ None
unfolding envelope_of
its_own_allowed p m r = rw (r, m) refl

passes : (p : Policy) → p.members.items ≡ members → p.rules.items ≡ rules
    → let_through (Some p) (Some (address 0x0C)) (from_a_to_all ∷ comes_from 0x0C ∷ []) ≡ comes_from 0x0C ∷ []
passes p m r = rw (from_a_denied p m r, its_own_allowed p m r) refl

passes_none : (p : Policy) → p.members.items ≡ members → p.rules.items ≡ rules
    → let_through (Some p) (Some (address 0x0C)) (from_a_to_all ∷ []) ≡ []
passes_none p m r = rw (from_a_denied p m r) refl

one_denial : (p : Policy) → p.members.items ≡ members → p.rules.items ≡ rules
    → denials (Some p) (Some (address 0x0C)) (from_a_to_all ∷ comes_from 0x0C ∷ []) ≡ OfPair 1 (address 0x0A) (address 0x0C) ∷ []
one_denial p m r = rw (from_a_denied p m r, its_own_allowed p m r) refl

-- C takes a broadcast of A, which rule 1 denies it, and a unicast of its own: only the unicast is put. Both count as taken,
-- and the outbox was empty behind them.
a_broadcast_is_filtered : (p : Policy) → p.members.items ≡ members → p.rules.items ≡ rules → Talked (guarded p)
    (asks 0x0C ∷ Put accept None ∷ Put (comes_from 0x0C) None ∷ Gave full_wait (Ok Closed) ∷ [])
    (0 ∷ 0 ∷ [])
    (joined_by 0x0C 2 ∷ left_as 2 2 1 ∷ [])
    (from_a_to_all ∷ comes_from 0x0C ∷ [])
    (record { why = PeerClosed; conn = Some 2; taken = 2; empties = 1; turns = 2 })
    (made 1 (joined_by 0x0C 2) ∷ denied (OfPair 1 (address 0x0A) (address 0x0C)) ∷ made 4 (left_as 2 2 1) ∷ [])
    None
unfolding verdict_on_literals envelope_of
a_broadcast_is_filtered p m r = told_as (guarded p) (record {
  went_on = joins_by 0x0C 1 2 ∷ [];
  last = Some (record {
    opening = record { reading = 0; frames = from_a_to_all ∷ comes_from 0x0C ∷ []; met = None; lost = None; fault = None };
    hearing = Some (heard_with (Ok Closed) None None);
  });
  stop = stop_for PeerClosed None;
  turns = (
    hears_by (guarded p) _ _ _ _ (lit< tt) refl (rw m refl) refl (no_line _),
    (
      record {
        room = lit< tt;
        opening = record { takes = inl (refl, refl); few = lit≤ tt; not_left = λ h. cc; line = no_line _; cause = well _ };
        heard = refl;
        hearing = record { memory = tt; calls = refl; fits = tt; line = tt; cause = tt };
      },
      tt,
    ),
  );
  goes_on = (rw m refl, tt);
  stops = refl;
}) 4 None _ _ refl tt
    (ap (λ fs. asks 0x0C ∷ Put accept None ∷ (((puts (fs ++ []) None ++ Gave full_wait (Ok Closed) ∷ []) ++ []) ++ [])) (sym (passes p m r)))
    (rw (r, m) refl)

-- C takes a broadcast of A, and the line of its denial isn't put.
a_filtered_frames_line_is_lost : (p : Policy) → p.members.items ≡ members → p.rules.items ≡ rules → Talked (guarded p)
    (asks 0x0C ∷ Put accept None ∷ SaidClosed 1011 [] ∷ [])
    (0 ∷ 0 ∷ [])
    (joined_by 0x0C 2 ∷ left_as 2 1 0 ∷ [])
    (from_a_to_all ∷ [])
    (record { why = JournalFault; conn = Some 2; taken = 1; empties = 0; turns = 1 })
    (made 1 (joined_by 0x0C 2) ∷ denied (OfPair 1 (address 0x0A) (address 0x0C)) ∷ [])
    (Some Failed)
unfolding verdict_on_literals envelope_of
a_filtered_frames_line_is_lost p m r = told_as (guarded p) (record {
  went_on = joins_by 0x0C 1 2 ∷ [];
  last = Some (record {
    opening = record { reading = 0; frames = from_a_to_all ∷ []; met = None; lost = Some Failed; fault = None };
    hearing = None;
  });
  stop = stop_unrecorded Failed;
  turns = (
    hears_by (guarded p) _ _ _ _ (lit< tt) refl (rw m refl) refl (no_line _),
    (
      record {
        room = lit< tt;
        opening = record { takes = inl (refl, refl); few = lit≤ tt; not_left = λ h. cc; line = rw (r, m) tt; cause = well _ };
        heard = refl;
        hearing = tt;
      },
      tt,
    ),
  );
  goes_on = (rw m refl, tt);
  stops = refl;
}) 3 None _ _ refl tt
    (ap (λ fs. asks 0x0C ∷ Put accept None ∷ (((puts (fs ++ []) None ++ []) ++ []) ++ SaidClosed 1011 [] ∷ [])) (sym (passes_none p m r)))
    (rw (r, m) refl)

-- ---- what no session has

-- The put of a frame fails that the policy denies.
no_fault_of_a_denied_frame : (p : Policy) → p.members.items ≡ members → p.rules.items ≡ rules → (s : Standing) → s.address ≡ Some (address 0x0C)
    → IsOpening (guarded p) s (record { reading = 0; frames = from_a_to_all ∷ []; met = None; lost = None; fault = Some Failed }) → ⊥
unfolding envelope_of
no_fault_of_a_denied_frame p m r s at is = rw (at, r, m) at is.cause

-- A line is lost of a frame that the policy lets through.
no_lost_line_of_an_allowed_frame : (p : Policy) → p.members.items ≡ members → p.rules.items ≡ rules → (s : Standing) → s.address ≡ Some (address 0x0C)
    → IsOpening (guarded p) s (record { reading = 0; frames = comes_from 0x0C ∷ []; met = None; lost = Some Failed; fault = None }) → ⊥
unfolding envelope_of
no_lost_line_of_an_allowed_frame p m r s at is = rw (at, r, m) at is.line
