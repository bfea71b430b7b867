-- Talks written out, each a session by computation: how sessions end that neither the link nor the peer ends; and what no
-- session has.
-- No clause needs it: worked examples.
use Rattle.std.proofs.Common.{◌≡◌, ℕ, List, [], ◌∷◌, Some, None, Ok, true, refl, inl, lit<, lit≤, false, arith}
use Rattle.bsc_octets.specs.Identities.{identity_of}
use Rattle.bsc_frame.specs.declared.body.Body.TheVariants.{ConnectRequest}
use Rattle.bsc_history.specs.declared.call.Call.TheVariants.{Leave}
use Rattle.bsc_history.specs.declared.ending.End.TheVariants.{Left, Full, Replaced}
use Rattle.bsc_history.specs.declared.reply.Reply.TheVariants.{Gone}
use Rattle.bsc_edge.specs.declared.fault.LinkFault.TheVariants.{Failed, NoMemory}
use Rattle.bsc_edge.specs.declared.incoming.Incoming.TheVariants.{Message}
use Rattle.bsc_edge.specs.declared.said.Said.TheVariants.{Gave, Put, Closed as SaidClosed}
use Rattle.bsc_accept.specs.declared.reason.Reason.TheVariants.{Nothing as NoReason, HubWorn, NoMemory as MemoryReason, OutboxFull}
use Rattle.bsc_accept.specs.Reasons.{reason_text}
use Rattle.bsc_accept.specs.Messages.{to_peer}
use Rattle.bsc_checks.proofs.OnLiterals.{verdict_on_literals}
use Rattle.bsc_session.specs.declared.why.Why.TheVariants.{PeerLeft, EndedBy, NoMemory as WhyNoMemory, Spent, Worn as WhyWorn}
use Rattle.bsc_session.specs.Receiving.{worn}
use Rattle.bsc_session.specs.Standings.{Standing, Terms}
use Rattle.bsc_session.specs.Stops.{stop_at, stop_closing}
use Rattle.bsc_session.specs.Taking.{IsOpening, full_wait}
use Rattle.bsc_session.specs.Talk.{Session}
use Rattle.bsc_session.specs.Turns.{IsTurn, Turn}
use Rattle.bsc_session.proofs.TalkWords.{a_octets, terms, reads, given_at, connect, accept, connects, joins, joined_as, left_as, back, to_b, farewell, farewell_ack, hears, told_by}

-- No receive may be made: the link is closed with 1001, and no clock is read.
no_receive_may_be_made : Session (record terms { turns = 0 })
    (SaidClosed 1001 [] ∷ [])
    []
    []
    []
    (record { why = Spent; conn = None; taken = 0; empties = 0; turns = 0 })
no_receive_may_be_made = told_by (record terms { turns = 0 }) (record {
  went_on = [];
  last = None;
  stop = stop_closing Spent 1001 NoReason;
  turns = tt;
  goes_on = tt;
  stops = (refl, refl);
}) Left (λ c e joined met. cc)

-- A has an outbox for two frames, and a third was sent to it: the two are put, and then the link is closed.
an_end_has_frames_before_it : Session terms
    (connects ∷ Put accept None ∷ Put back None ∷ Put back None ∷ SaidClosed 1008 (reason_text OutboxFull) ∷ [])
    (0 ∷ 0 ∷ [])
    (joined_as 1 ∷ record { caller = 3; call = Leave 1 2 0; looks = []; reply = Gone Full 2 } ∷ [])
    (back ∷ back ∷ [])
    (record { why = EndedBy Full; conn = Some 1; taken = 2; empties = 0; turns = 1 })
unfolding verdict_on_literals
an_end_has_frames_before_it = told_by terms (record {
  went_on = joins ∷ [];
  last = Some (record { opening = record { reading = 0; frames = back ∷ back ∷ []; met = Some Full; lost = None; fault = None }; hearing = None });
  stop = stop_closing (EndedBy Full) 1008 OutboxFull;
  turns = (
    hears _ 0 _ _ _ _ (lit< tt) refl tt refl refl tt,
    (
      record {
        room = lit< tt;
        opening = record { takes = inl (refl, refl); few = lit≤ tt; not_left = λ h. cc; line = tt; cause = tt };
        heard = refl;
        hearing = tt;
      },
      tt,
    ),
  );
  goes_on = (refl, tt);
  stops = refl;
}) Full (λ c e joined met. cc)

-- A message of A is to be forwarded, and the hub has made as many calls as it may.
the_hub_is_worn : Session terms
    (connects ∷ Put accept None ∷ Gave full_wait (Ok (Message (to_b 1))) ∷ SaidClosed 1008 (reason_text HubWorn) ∷ [])
    (0 ∷ 0 ∷ [])
    (joined_as 1 ∷ left_as 1 0 1 ∷ [])
    []
    (record { why = WhyWorn; conn = Some 1; taken = 0; empties = 1; turns = 2 })
unfolding verdict_on_literals
the_hub_is_worn = told_by terms (record {
  went_on = joins ∷ [];
  last = Some (given_at 0 (Ok (Message (to_b 1))) (Some worn) None);
  stop = stop_closing WhyWorn 1008 HubWorn;
  turns = (hears _ 0 _ _ _ _ (lit< tt) refl tt refl refl tt, (hears _ 0 _ _ _ _ (lit< tt) refl tt refl tt tt, tt));
  goes_on = (refl, tt);
  stops = refl;
}) Left (λ c e joined met. cc)

-- A's connect passes, and there is no memory for judging it.
no_memory_is_found : Session terms
    (connects ∷ SaidClosed 1011 (reason_text MemoryReason) ∷ [])
    (0 ∷ [])
    []
    []
    (record { why = WhyNoMemory; conn = None; taken = 0; empties = 0; turns = 1 })
unfolding verdict_on_literals
no_memory_is_found = told_by terms (record {
  went_on = [];
  last = Some (record { opening = reads 0; hearing = Some (record { given = Ok (Message connect); judged = false; answer = None; lost = None; fault = None }) });
  stop = stop_at NoMemory;
  turns = (hears _ 0 _ _ _ _ (lit< tt) refl (to_peer 1 (ConnectRequest (identity_of a_octets)), refl) refl tt tt, tt);
  goes_on = tt;
  stops = refl;
}) Left (λ c e joined met. cc)

-- A's connection is replaced: A is put a Disconnect-Request, answers it, and the link is closed.
a_replaced_one_answers : Session terms
    (connects ∷ Put accept None ∷ Put farewell None ∷ Gave full_wait (Ok (Message farewell_ack)) ∷ SaidClosed 1000 [] ∷ [])
    (0 ∷ 0 ∷ [])
    (joined_as 1 ∷ record { caller = 3; call = Leave 1 0 0; looks = []; reply = Gone Replaced 0 } ∷ [])
    []
    (record { why = EndedBy Replaced; conn = Some 1; taken = 0; empties = 0; turns = 2 })
unfolding verdict_on_literals
a_replaced_one_answers = told_by terms (record {
  went_on = joins ∷ [];
  last = Some (record {
    opening = record { reading = 0; frames = []; met = Some Replaced; lost = None; fault = None };
    hearing = Some (record { given = Ok (Message farewell_ack); judged = true; answer = None; lost = None; fault = None });
  });
  stop = stop_closing PeerLeft 1000 NoReason;
  turns = (
    hears _ 0 _ _ _ _ (lit< tt) refl tt refl refl tt,
    (
      record {
        room = lit< tt;
        opening = record { takes = inl (refl, refl); few = lit≤ tt; not_left = λ h. cc; line = tt; cause = tt };
        heard = refl;
        hearing = record { memory = tt; calls = refl; fits = tt; line = tt; cause = tt };
      },
      tt,
    ),
  );
  goes_on = (refl, tt);
  stops = refl;
}) Replaced (λ c e joined met. cc)

-- ---- what no session has

-- A put fails, and the outbox is asked again and gives an End.
no_end_after_a_fault : (s : Standing) → IsOpening terms s (record { reading = 0; frames = back ∷ []; met = Some Full; lost = None; fault = Some Failed }) → ⊥
no_end_after_a_fault s is = is.cause

-- The outbox gives the End of one that left.
no_end_of_one_that_left : (s : Standing) (frames : List (List ℕ)) → IsOpening terms s (record { reading = 0; frames = frames; met = Some Left; lost = None; fault = None }) → ⊥
no_end_of_one_that_left s frames is = is.not_left refl

-- A turn is made though the receives are spent.
no_turn_when_spent : (v : Terms) (s : Standing) (t : Turn) → s.receives ≡ v.turns → IsTurn v s t → ⊥
no_turn_when_spent v s t spent is = (let room = is.room in omega (arith, spent, room))
