-- What the laws say of a session that is guarded by a policy, computed: frames that come to A, a unicast of A that is denied,
-- and A where it isn't admitted. A may send to itself; C and A may send each other nothing.
-- No clause needs it: worked examples.
use Rattle.std.proofs.Common.{◌≡◌, ℕ, true, false, List, [], ◌∷◌, Some, None, Ok, refl, inr, codes, replicate, lit<, lit≤}
use Rattle.bsc_octets.specs.declared.device_id.DeviceId.{DeviceId}
use Rattle.bsc_octets.specs.declared.vmac.Vmac.{Vmac}
use Rattle.bsc_octets.specs.Envelopes.{envelope_of}
use Rattle.bsc_octets.specs.Identities.{identity_of}
use Rattle.bsc_policy.specs.declared.member.Member.{Member}
use Rattle.bsc_policy.specs.declared.policy.Policy.{Policy}
use Rattle.bsc_policy.specs.declared.rule.Rule.{Rule}
use Rattle.bsc_history.specs.declared.ending.End.TheVariants.{Left}
use Rattle.bsc_edge.specs.declared.incoming.Incoming.TheVariants.{Message}
use Rattle.bsc_edge.specs.declared.said.Said.TheVariants.{Closed as SaidClosed}
use Rattle.bsc_accept.specs.declared.reason.Reason.TheVariants.{Policy as PolicyReason}
use Rattle.bsc_accept.specs.Reasons.{reason_text}
use Rattle.bsc_session.specs.Notes.Notes.{denied}
use Rattle.bsc_lines.specs.declared.denial.Denial.TheVariants.{OfConnect, OfPair}
use Rattle.bsc_checks.proofs.OnLiterals.{verdict_on_literals}
use Rattle.bsc_session.specs.declared.why.Why.TheVariants.{Denied}
use Rattle.bsc_session.specs.Course.{shares}
use Rattle.bsc_session.specs.Guarding.{denials, let_through}
use Rattle.bsc_session.specs.Standings.{Terms, begun}
use Rattle.bsc_session.specs.Stops.{stop_closing}
use Rattle.bsc_session.specs.Talk.{Session, journal_of}
use Rattle.bsc_session.specs.Turns.{Turn, notes_in}
use Rattle.bsc_session.proofs.TalkWords.{a_octets, back, connect, connects, given_at, joins, terms, to_itself, told_by}
use Rattle.bsc_session_laws.specs.Laws.{AreAllBut, IsUnconnectedBy}
use Rattle.bsc_session_laws.specs.Messages.{allowed, asked, carried, connected, message_in}
use Rattle.bsc_session_laws.specs.Policies.{PolicyIsFollowed}
use Rattle.bsc_session_laws.proofs.Guarding.{policy_is_followed}

abbrev address : ℕ → Vmac
address n = record { 0 = 2 ∷ 0 ∷ 0 ∷ 0 ∷ 0 ∷ n ∷ [] }

abbrev device : ℕ → DeviceId
device n = record { 0 = replicate 16 n }

abbrev rules : List Rule
rules = record { allows = true; from = codes "ctl"; to = codes "ctl" } ∷ record { allows = false; from = codes "*"; to = codes "*" } ∷ []

abbrev members : List Member
members =
    record { device = device 0x0A; vmac = address 0x0A; group = codes "ctl" }
    ∷ record { device = device 0x0C; vmac = address 0x0C; group = codes "ops" }
    ∷ []

-- a unicast to C, and one that C sent
abbrev to_c : List ℕ
to_c = 0x01 ∷ 0x04 ∷ 0x00 ∷ 0x03 ∷ 0x02 ∷ 0x00 ∷ 0x00 ∷ 0x00 ∷ 0x00 ∷ 0x0C ∷ 0x01 ∷ 0x00 ∷ []

abbrev of_c : List ℕ
of_c = 0x01 ∷ 0x08 ∷ 0x00 ∷ 0x03 ∷ 0x02 ∷ 0x00 ∷ 0x00 ∷ 0x00 ∷ 0x00 ∷ 0x0C ∷ 0x01 ∷ 0x00 ∷ []

abbrev guarded : Policy → Terms
guarded p = record terms { policy = Some p }

module _ (p : Policy) (ms : p.members.items ≡ members) (rs : p.rules.items ≡ rules) where
  -- of two frames to A the one of C isn't put, and what is denied is noted
  one_is_let_through : let_through (Some p) (Some (address 0x0A)) (of_c ∷ back ∷ []) ≡ back ∷ []
  unfolding envelope_of
  one_is_let_through = rw (ms, rs) refl

  one_is_denied : denials (Some p) (Some (address 0x0A)) (of_c ∷ back ∷ []) ≡ OfPair 2 (address 0x0C) (address 0x0A) ∷ []
  unfolding envelope_of
  one_is_denied = rw (ms, rs) refl

  -- A sends to C and to itself: both are to be carried on, and what isn't denied is the second
  abbrev sends : List Turn
  sends = joins ∷ given_at 0 (Ok (Message to_c)) None None ∷ given_at 0 (Ok (Message to_itself)) None None ∷ []

  both_are_carried : carried (shares message_in (guarded p) begun sends) ≡ to_c ∷ to_itself ∷ []
  unfolding verdict_on_literals
  both_are_carried = refl

  one_is_allowed : allowed (shares message_in (guarded p) begun sends) ≡ to_itself ∷ []
  unfolding verdict_on_literals
  one_is_allowed = rw (ms, rs) refl

-- A policy without members: A asks and is turned away, so there is no Connect, and it is as the law says.
module _ (p : Policy) (ms : p.members.items ≡ []) where
  abbrev turned_away : Turn
  turned_away = given_at 0 (Ok (Message connect)) None None

  it_is_turned_away : AreAllBut (IsUnconnectedBy (Some p) (Some turned_away)) (asked (shares message_in (guarded p) begun (turned_away ∷ []))) (connected [])
  unfolding verdict_on_literals
  it_is_turned_away = inr (identity_of a_octets, inr (p, refl, rw ms refl), refl)

  a_is_turned_away : Session (guarded p) (connects ∷ SaidClosed 1008 (reason_text PolicyReason) ∷ []) (0 ∷ []) [] [] (record { why = Denied 0; conn = None; taken = 0; empties = 0; turns = 1 })
  unfolding verdict_on_literals
  a_is_turned_away = told_by (guarded p) (record {
    went_on = [];
    last = Some turned_away;
    stop = stop_closing (Denied 0) 1008 PolicyReason;
    turns = (
      record {
        room = lit< tt;
        opening = record { takes = inr (refl, refl); few = lit≤ tt; not_left = λ h. cc; line = tt; cause = tt };
        heard = refl;
        hearing = record { memory = tt; calls = rw ms refl; fits = tt; line = rw ms tt; cause = tt };
      },
      tt,
    );
    goes_on = tt;
    stops = rw ms refl;
  }) Left (λ c e joined met. cc)

  its_denial_is_noted : shares notes_in (guarded p) begun (turned_away ∷ []) ≡ denied (OfConnect (address 0x0A)) ∷ []
  unfolding verdict_on_literals
  its_denial_is_noted = rw ms refl

  it_follows : PolicyIsFollowed (guarded p) (connects ∷ SaidClosed 1008 (reason_text PolicyReason) ∷ []) [] [] (journal_of a_is_turned_away) a_is_turned_away.course
  it_follows = policy_is_followed (guarded p) (connects ∷ SaidClosed 1008 (reason_text PolicyReason) ∷ []) (0 ∷ []) [] []
      (record { why = Denied 0; conn = None; taken = 0; empties = 0; turns = 1 }) a_is_turned_away
