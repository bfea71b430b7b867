-- Talks written out, sessions by computation, and what the laws say of them, computed: A connects, sends to itself, gets its
-- frame, and closes; the hub is worn when A sends; and the line of A's Connect isn't put into the journal.
-- It serves bsc_network_of_runs.
use Rattle.std.proofs.Common.{◌≡◌, ◌≢◌, ℕ, true, List, [], ◌∷◌, Some, None, Ok, refl, inl, inr, lit<, lit≤}
use Rattle.bsc_octets.specs.Identities.{identity_of}
use Rattle.bsc_history.specs.declared.ending.End.TheVariants.{Left}
use Rattle.bsc_history.specs.declared.entry.Entry.{Entry}
use Rattle.bsc_history.specs.declared.reply.Reply.TheVariants.{Appended, Joined}
use Rattle.bsc_edge.specs.declared.fault.LinkFault.TheVariants.{Failed}
use Rattle.bsc_edge.specs.declared.incoming.Incoming.TheVariants.{Closed, Message}
use Rattle.bsc_edge.specs.declared.said.Said.{Said}
use Rattle.bsc_edge.specs.declared.said.Said.TheVariants.{Closed as SaidClosed, Gave, Put}
use Rattle.bsc_checks.proofs.OnLiterals.{verdict_on_literals}
use Rattle.bsc_session.specs.declared.ended.Ended.{Ended}
use Rattle.bsc_session.specs.declared.why.Why.TheVariants.{JournalFault, PeerClosed}
use Rattle.bsc_session.specs.Course.{shares}
use Rattle.bsc_session.specs.Receiving.{replies, worn}
use Rattle.bsc_session.specs.Standings.{begun}
use Rattle.bsc_session.specs.Stops.{stop_for, stop_unrecorded}
use Rattle.bsc_session.specs.Taking.{full_wait}
use Rattle.bsc_session.specs.Talk.{Session}
use Rattle.bsc_session.specs.Turns.{Turn}
use Rattle.bsc_session.proofs.TalkWords.{a_octets, accept, back, bare, connect, connects, forwarded as forwarded_as, forwards_to, given_at, hears, joined_as, joins, left_as, reads}
use Rattle.bsc_session.proofs.TalkWords.{terms, to_itself, told_by}
use Rattle.bsc_session_laws.specs.Laws.{AcceptsFirst, AreAllBut, ConnectsAreAsked, ForwardsAreCarried, IsUnentered}
use Rattle.bsc_session_laws.specs.Messages.{asked, carried, connected, forwarded, message_in}
use Rattle.bsc_session_laws.proofs.Accepting.{frames_follow_accept}
use Rattle.bsc_session_laws.proofs.Connecting.{connects_are_asked}
use Rattle.bsc_session_laws.proofs.Owning.{forwards_are_carried}

abbrev pub talk : List Said
talk = connects ∷ Put accept None ∷ Gave full_wait (Ok (Message to_itself)) ∷ Put back None ∷ Gave full_wait (Ok Closed) ∷ []

abbrev pub made : List Entry
made = joined_as 1 ∷ forwarded_as 1 1 to_itself Appended ∷ left_as 1 1 2 ∷ []

abbrev pub over : Ended
over = record { why = PeerClosed; conn = Some 1; taken = 1; empties = 2; turns = 3 }

-- the last turn: the frame is put, and then the link is closed
abbrev gets_back : Turn
gets_back = record {
  opening = record { reading = 0; frames = back ∷ []; met = None; lost = None; fault = None };
  hearing = Some (record { given = Ok Closed; judged = true; answer = None; lost = None; fault = None });
}

abbrev turns : List Turn
turns = joins ∷ forwards_to 1 to_itself Appended ∷ gets_back ∷ []

pub a_hears_itself : Session terms talk (0 ∷ 0 ∷ 0 ∷ []) made (back ∷ []) over
unfolding verdict_on_literals
a_hears_itself = told_by terms (record {
  went_on = (joins ∷ forwards_to 1 to_itself Appended ∷ []);
  last = Some gets_back;
  stop = stop_for PeerClosed None;
  turns = (
    hears _ 0 _ _ _ _ (lit< tt) refl tt refl refl tt,
    (
      hears _ 0 _ _ _ _ (lit< tt) refl tt refl tt tt,
      (
        record {
          room = lit< tt;
          opening = record { takes = inl (refl, refl); few = lit≤ tt; not_left = λ h. cc; line = tt; cause = tt };
          heard = refl;
          hearing = record { memory = tt; calls = refl; fits = tt; line = tt; cause = tt };
        },
        tt,
      ),
    ),
  );
  goes_on = (refl, (refl, tt));
  stops = refl;
}) Left (λ c e joined met. cc)

-- one message of these turns is to be carried on, and one Forward is made of it
it_is_carried : carried (shares message_in terms begun turns) ≡ to_itself ∷ []
unfolding verdict_on_literals
it_is_carried = refl

it_is_forwarded : forwarded made ≡ to_itself ∷ []
it_is_forwarded = refl

it_forwards : ForwardsAreCarried terms made over a_hears_itself.course
it_forwards = forwards_are_carried terms talk (0 ∷ 0 ∷ 0 ∷ []) made (back ∷ []) over a_hears_itself

-- A asked, and one Connect is made for it
a_asked : asked (shares message_in terms begun turns) ≡ identity_of a_octets ∷ []
unfolding verdict_on_literals
a_asked = refl

a_is_connected : connected made ≡ identity_of a_octets ∷ []
a_is_connected = refl

it_connects : ConnectsAreAsked terms made a_hears_itself.course
it_connects = connects_are_asked terms talk (0 ∷ 0 ∷ 0 ∷ []) made (back ∷ []) over a_hears_itself

-- it takes a frame, and so the Connect-Accept was put first
it_accepts_first : AcceptsFirst terms talk a_hears_itself.course
it_accepts_first = frames_follow_accept terms talk (0 ∷ 0 ∷ 0 ∷ []) made (back ∷ []) over a_hears_itself (λ e. cc)

-- ---- one that lacks its entry

-- the last turn: a message comes that is to be carried on, and the hub is worn
abbrev finds_worn : Turn
finds_worn = given_at 0 (Ok (Message to_itself)) (Some worn) None

-- the message is to be carried on, no Forward is made of it, and it is as the law says: the last thing given, and the hub
-- made no entry of its call
it_lacks : AreAllBut (IsUnentered (Some finds_worn)) (carried (shares message_in terms begun (joins ∷ finds_worn ∷ []))) (forwarded (joined_as 1 ∷ left_as 1 0 1 ∷ []))
unfolding verdict_on_literals
it_lacks = inr (to_itself, (refl, inl refl), refl)

-- and it isn't all of them
it_is_not_all : carried (shares message_in terms begun (joins ∷ finds_worn ∷ [])) ≢ forwarded (joined_as 1 ∷ left_as 1 0 1 ∷ [])
unfolding verdict_on_literals
it_is_not_all = λ e. one_is_not_none to_itself e
  where
    one_is_not_none : (m : List ℕ) → m ∷ [] ≡ [] → ⊥
    one_is_not_none m f = cc

-- ---- one that loses a line

-- the line of A's Connect isn't put into the journal: the session ends, and the entry stays
abbrev loses_its_line : Turn
loses_its_line = record { opening = reads 0; hearing = Some (record { given = Ok (Message connect); judged = true; answer = Some (replies 0 [] (Joined 1 None)); lost = Some Failed; fault = None }) }

a_line_is_lost : Session terms (connects ∷ SaidClosed 1011 [] ∷ []) (0 ∷ []) (joined_as 1 ∷ left_as 1 0 0 ∷ []) [] (record { why = JournalFault; conn = Some 1; taken = 0; empties = 0; turns = 1 })
unfolding verdict_on_literals
a_line_is_lost = told_by terms (record {
  went_on = [];
  last = Some loses_its_line;
  stop = stop_unrecorded Failed;
  turns = (record { room = lit< tt; opening = bare begun 0; heard = refl; hearing = record { memory = tt; calls = refl; fits = refl; line = tt; cause = tt } }, tt);
  goes_on = tt;
  stops = refl;
}) Left (λ c e joined met. cc)

it_is_connected_still : connected (joined_as 1 ∷ left_as 1 0 0 ∷ []) ≡ asked (shares message_in terms begun (loses_its_line ∷ []))
unfolding verdict_on_literals
it_is_connected_still = refl
