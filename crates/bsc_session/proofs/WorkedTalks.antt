-- Talks written out, each a session by computation: a link of which each call in turn fails, and what a peer may send.
-- No clause needs it: worked examples.
use Rattle.std.proofs.Common.{[], ◌∷◌, ◌++◌, Some, None, Ok, Err, true, replicate, refl, inl, lit<, lit≤}
use Rattle.bsc_octets.specs.Identities.{identity_of}
use Rattle.bsc_history.specs.declared.call.Call.TheVariants.{Connect}
use Rattle.bsc_history.specs.declared.ending.End.TheVariants.{Left}
use Rattle.bsc_history.specs.declared.reply.Reply.TheVariants.{Joined, Refused, Appended, Closed as ClosedReply}
use Rattle.bsc_history.specs.declared.reply.Refusal.TheVariants.{Stopped}
use Rattle.bsc_edge.specs.declared.fault.LinkFault.TheVariants.{Failed}
use Rattle.bsc_edge.specs.declared.incoming.Incoming.TheVariants.{Message, Text, Quiet, Closed}
use Rattle.bsc_edge.specs.declared.said.Said.TheVariants.{Gave, Put, Closed as SaidClosed}
use Rattle.bsc_accept.specs.declared.reason.Reason.TheVariants.{Nothing as NoReason, ConnectWait}
use Rattle.bsc_accept.specs.Reasons.{reason_text}
use Rattle.bsc_checks.proofs.OnLiterals.{verdict_on_literals}
use Rattle.bsc_session.specs.declared.bounds.TheConstants.{TAKES}
use Rattle.bsc_session.specs.declared.why.Why.TheVariants.{PeerClosed, NotBinary, PeerLeft, Refused as WhyRefused, WaitExpired, LinkFault as WhyLinkFault}
use Rattle.bsc_session.specs.Receiving.{replies}
use Rattle.bsc_session.specs.Stops.{stop_at, stop_for, stop_closing}
use Rattle.bsc_session.specs.Taking.{full_wait}
use Rattle.bsc_session.specs.Talk.{Session}
use Rattle.bsc_session.proofs.TalkWords.{a_octets, terms, reads, bare, given_at, gives, connect, accept, connects, joins_as, joins, joined_as, left_as, to_itself, back, to_b}
use Rattle.bsc_session.proofs.TalkWords.{leaves, leaves_ack, cut, too_long, forwards_to, forwarded, hears, told_by}

-- The link gives A's connect, and then Closed; nothing fails.
nothing_fails : Session terms
    (connects ∷ Put accept None ∷ Gave full_wait (Ok Closed) ∷ [])
    (0 ∷ 0 ∷ [])
    (joined_as 1 ∷ left_as 1 0 1 ∷ [])
    []
    (record { why = PeerClosed; conn = Some 1; taken = 0; empties = 1; turns = 2 })
unfolding verdict_on_literals
nothing_fails = told_by terms (record {
  went_on = (joins ∷ []);
  last = Some (gives Closed);
  stop = stop_for PeerClosed None;
  turns = (hears _ 0 _ _ _ _ (lit< tt) refl tt refl refl tt, (hears _ 0 _ _ _ _ (lit< tt) refl tt refl tt tt, tt));
  goes_on = (refl, tt);
  stops = refl;
}) Left (λ c e joined met. cc)

-- The same, and call 1, the receive, fails.
call_1_fails : Session terms
    (Gave full_wait (Err Failed) ∷ [])
    (0 ∷ [])
    []
    []
    (record { why = WhyLinkFault; conn = None; taken = 0; empties = 0; turns = 1 })
unfolding verdict_on_literals
call_1_fails = told_by terms (record {
  went_on = [];
  last = Some (given_at 0 (Err Failed) None None);
  stop = stop_at Failed;
  turns = (hears _ 0 _ _ _ _ (lit< tt) refl tt refl tt tt, tt);
  goes_on = tt;
  stops = refl;
}) Left (λ c e joined met. cc)

-- Call 2, the put of the accept, fails.
call_2_fails : Session terms
    (connects ∷ Put accept (Some Failed) ∷ [])
    (0 ∷ [])
    (joined_as 1 ∷ left_as 1 0 0 ∷ [])
    []
    (record { why = WhyLinkFault; conn = Some 1; taken = 0; empties = 0; turns = 1 })
unfolding verdict_on_literals
call_2_fails = told_by terms (record {
  went_on = [];
  last = Some (given_at 0 (Ok (Message connect)) (Some (replies 0 [] (Joined 1 None))) (Some Failed));
  stop = stop_at Failed;
  turns = (hears _ 0 _ _ _ _ (lit< tt) refl tt refl refl tt, tt);
  goes_on = tt;
  stops = refl;
}) Left (λ c e joined met. cc)

-- Call 3, the second receive, fails.
call_3_fails : Session terms
    (connects ∷ Put accept None ∷ Gave full_wait (Err Failed) ∷ [])
    (0 ∷ 0 ∷ [])
    (joined_as 1 ∷ left_as 1 0 1 ∷ [])
    []
    (record { why = WhyLinkFault; conn = Some 1; taken = 0; empties = 1; turns = 2 })
unfolding verdict_on_literals
call_3_fails = told_by terms (record {
  went_on = (joins ∷ []);
  last = Some (given_at 0 (Err Failed) None None);
  stop = stop_at Failed;
  turns = (hears _ 0 _ _ _ _ (lit< tt) refl tt refl refl tt, (hears _ 0 _ _ _ _ (lit< tt) refl tt refl tt tt, tt));
  goes_on = (refl, tt);
  stops = refl;
}) Left (λ c e joined met. cc)

-- A sends to itself; call 4, the put of the frame that comes back, fails.
a_frame_cannot_leave : Session terms
    (connects ∷ Put accept None ∷ Gave full_wait (Ok (Message to_itself)) ∷ Put back (Some Failed) ∷ [])
    (0 ∷ 0 ∷ 0 ∷ [])
    (joined_as 1 ∷ forwarded 1 1 to_itself Appended ∷ left_as 1 1 1 ∷ [])
    (back ∷ [])
    (record { why = WhyLinkFault; conn = Some 1; taken = 1; empties = 1; turns = 2 })
unfolding verdict_on_literals
a_frame_cannot_leave = told_by terms (record {
  went_on = (joins ∷ forwards_to 1 to_itself Appended ∷ []);
  last = Some (record { opening = record { reading = 0; frames = back ∷ []; met = None; lost = None; fault = Some Failed }; hearing = None });
  stop = stop_at Failed;
  turns = (
    hears _ 0 _ _ _ _ (lit< tt) refl tt refl refl tt,
    (
      hears _ 0 _ _ _ _ (lit< tt) refl tt refl tt tt,
      (record { room = lit< tt; opening = record { takes = inl (refl, refl); few = lit≤ tt; not_left = λ h. cc; line = tt; cause = tt }; heard = refl; hearing = tt }, tt),
    ),
  );
  goes_on = (refl, (refl, tt));
  stops = refl;
}) Left (λ c e joined met. cc)

-- A text comes.
a_text_comes : Session terms
    (connects ∷ Put accept None ∷ Gave full_wait (Ok Text) ∷ SaidClosed 1003 [] ∷ [])
    (0 ∷ 0 ∷ [])
    (joined_as 1 ∷ left_as 1 0 1 ∷ [])
    []
    (record { why = NotBinary; conn = Some 1; taken = 0; empties = 1; turns = 2 })
unfolding verdict_on_literals
a_text_comes = told_by terms (record {
  went_on = (joins ∷ []);
  last = Some (gives Text);
  stop = stop_closing NotBinary 1003 NoReason;
  turns = (hears _ 0 _ _ _ _ (lit< tt) refl tt refl refl tt, (hears _ 0 _ _ _ _ (lit< tt) refl tt refl tt tt, tt));
  goes_on = (refl, tt);
  stops = refl;
}) Left (λ c e joined met. cc)

-- The same, and call 4, the closing, fails: the talk has it, whatever it answered.
a_text_comes_and_the_closing_fails : Session terms
    (connects ∷ Put accept None ∷ Gave full_wait (Ok Text) ∷ SaidClosed 1003 [] ∷ [])
    (0 ∷ 0 ∷ [])
    (joined_as 1 ∷ left_as 1 0 1 ∷ [])
    []
    (record { why = NotBinary; conn = Some 1; taken = 0; empties = 1; turns = 2 })
unfolding verdict_on_literals
a_text_comes_and_the_closing_fails = told_by terms (record {
  went_on = (joins ∷ []);
  last = Some (gives Text);
  stop = stop_closing NotBinary 1003 NoReason;
  turns = (hears _ 0 _ _ _ _ (lit< tt) refl tt refl refl tt, (hears _ 0 _ _ _ _ (lit< tt) refl tt refl tt tt, tt));
  goes_on = (refl, tt);
  stops = refl;
}) Left (λ c e joined met. cc)

-- A Disconnect-Request comes; call 4, the put of its ACK, fails.
the_ack_cannot_leave : Session terms
    (connects ∷ Put accept None ∷ Gave full_wait (Ok (Message leaves)) ∷ Put leaves_ack (Some Failed) ∷ [])
    (0 ∷ 0 ∷ [])
    (joined_as 1 ∷ left_as 1 0 1 ∷ [])
    []
    (record { why = WhyLinkFault; conn = Some 1; taken = 0; empties = 1; turns = 2 })
unfolding verdict_on_literals
the_ack_cannot_leave = told_by terms (record {
  went_on = (joins ∷ []);
  last = Some (given_at 0 (Ok (Message leaves)) None (Some Failed));
  stop = stop_at Failed;
  turns = (hears _ 0 _ _ _ _ (lit< tt) refl tt refl refl tt, (hears _ 0 _ _ _ _ (lit< tt) refl tt refl tt tt, tt));
  goes_on = (refl, tt);
  stops = refl;
}) Left (λ c e joined met. cc)

-- A Disconnect-Request comes; call 5, the closing, fails, which changes nothing.
the_peer_leaves : Session terms
    (connects ∷ Put accept None ∷ Gave full_wait (Ok (Message leaves)) ∷ Put leaves_ack None ∷ SaidClosed 1000 [] ∷ [])
    (0 ∷ 0 ∷ [])
    (joined_as 1 ∷ left_as 1 0 1 ∷ [])
    []
    (record { why = PeerLeft; conn = Some 1; taken = 0; empties = 1; turns = 2 })
unfolding verdict_on_literals
the_peer_leaves = told_by terms (record {
  went_on = (joins ∷ []);
  last = Some (gives (Message leaves));
  stop = stop_closing PeerLeft 1000 NoReason;
  turns = (hears _ 0 _ _ _ _ (lit< tt) refl tt refl refl tt, (hears _ 0 _ _ _ _ (lit< tt) refl tt refl tt tt, tt));
  goes_on = (refl, tt);
  stops = refl;
}) Left (λ c e joined met. cc)

-- A head comes that is cut; nothing is answered.
a_cut_head_comes : Session terms
    (connects ∷ Put accept None ∷ Gave full_wait (Ok (Message cut)) ∷ Gave full_wait (Ok Closed) ∷ [])
    (0 ∷ 0 ∷ 0 ∷ [])
    (joined_as 1 ∷ left_as 1 0 2 ∷ [])
    []
    (record { why = PeerClosed; conn = Some 1; taken = 0; empties = 2; turns = 3 })
unfolding verdict_on_literals
a_cut_head_comes = told_by terms (record {
  went_on = (joins ∷ gives (Message cut) ∷ []);
  last = Some (gives Closed);
  stop = stop_for PeerClosed None;
  turns = (hears _ 0 _ _ _ _ (lit< tt) refl tt refl refl tt, (hears _ 0 _ _ _ _ (lit< tt) refl tt refl tt tt, (hears _ 0 _ _ _ _ (lit< tt) refl tt refl tt tt, tt)));
  goes_on = (refl, (refl, tt));
  stops = refl;
}) Left (λ c e joined met. cc)

-- A message comes of an octet too many; nothing is answered.
a_message_too_long_comes : Session terms
    (connects ∷ Put accept None ∷ Gave full_wait (Ok (Message too_long)) ∷ Gave full_wait (Ok Closed) ∷ [])
    (0 ∷ 0 ∷ 0 ∷ [])
    (joined_as 1 ∷ left_as 1 0 2 ∷ [])
    []
    (record { why = PeerClosed; conn = Some 1; taken = 0; empties = 2; turns = 3 })
unfolding verdict_on_literals
a_message_too_long_comes = told_by terms (record {
  went_on = (joins ∷ gives (Message too_long) ∷ []);
  last = Some (gives Closed);
  stop = stop_for PeerClosed None;
  turns = (hears _ 0 _ _ _ _ (lit< tt) refl tt refl refl tt, (hears _ 0 _ _ _ _ (lit< tt) refl tt refl tt tt, (hears _ 0 _ _ _ _ (lit< tt) refl tt refl tt tt, tt)));
  goes_on = (refl, (refl, tt));
  stops = refl;
}) Left (λ c e joined met. cc)

-- Two waits end without a message, and the third reading finds the connect wait over.
no_connect_comes : Session terms
    (Gave full_wait (Ok Quiet) ∷ Gave full_wait (Ok Quiet) ∷ SaidClosed 1008 (reason_text ConnectWait) ∷ [])
    (0 ∷ 9999 ∷ 10000 ∷ [])
    []
    []
    (record { why = WaitExpired; conn = None; taken = 0; empties = 0; turns = 2 })
unfolding verdict_on_literals
no_connect_comes = told_by terms (record {
  went_on = (gives Quiet ∷ given_at 9999 (Ok Quiet) None None ∷ []);
  last = Some (record { opening = reads 10000; hearing = None });
  stop = stop_closing WaitExpired 1008 ConnectWait;
  turns = (hears _ 0 _ _ _ _ (lit< tt) refl tt refl tt tt, (hears _ 9999 _ _ _ _ (lit< tt) refl tt refl tt tt, (record { room = lit< tt; opening = bare _ 10000; heard = refl; hearing = tt }, tt)));
  goes_on = (refl, (refl, tt));
  stops = refl;
}) Left (λ c e joined met. cc)

-- The hub has stopped before A's connect.
the_hub_has_stopped : Session terms
    (connects ∷ SaidClosed 1001 [] ∷ [])
    (0 ∷ [])
    (record { caller = 3; call = Connect (identity_of a_octets); looks = []; reply = Refused Stopped } ∷ [])
    []
    (record { why = WhyRefused Stopped; conn = None; taken = 0; empties = 0; turns = 1 })
unfolding verdict_on_literals
the_hub_has_stopped = told_by terms (record {
  went_on = [];
  last = Some (given_at 0 (Ok (Message connect)) (Some (replies 0 [] (Refused Stopped))) None);
  stop = stop_closing (WhyRefused Stopped) 1001 NoReason;
  turns = (hears _ 0 _ _ _ _ (lit< tt) refl tt refl refl tt, tt);
  goes_on = tt;
  stops = refl;
}) Left (λ c e joined met. cc)

-- B has connection 1 and an outbox for two frames, and takes none; A sends it three.
an_outbox_is_full : Session terms
    (connects ∷ Put accept None ∷ Gave full_wait (Ok (Message (to_b 1))) ∷ Gave full_wait (Ok (Message (to_b 2))) ∷ Gave full_wait (Ok (Message (to_b 3))) ∷ Gave full_wait (Ok Closed) ∷ [])
    (0 ∷ 0 ∷ 0 ∷ 0 ∷ 0 ∷ [])
    (joined_as 2 ∷ forwarded 2 1 (to_b 1) Appended ∷ forwarded 2 1 (to_b 2) Appended ∷ forwarded 2 1 (to_b 3) ClosedReply ∷ left_as 2 0 4 ∷ [])
    []
    (record { why = PeerClosed; conn = Some 2; taken = 0; empties = 4; turns = 5 })
unfolding verdict_on_literals
an_outbox_is_full = told_by terms (record {
  went_on = (joins_as 2 ∷ forwards_to 1 (to_b 1) Appended ∷ forwards_to 1 (to_b 2) Appended ∷ forwards_to 1 (to_b 3) ClosedReply ∷ []);
  last = Some (gives Closed);
  stop = stop_for PeerClosed None;
  turns = (
    hears _ 0 _ _ _ _ (lit< tt) refl tt refl refl tt,
    (
      hears _ 0 _ _ _ _ (lit< tt) refl tt refl tt tt,
      (hears _ 0 _ _ _ _ (lit< tt) refl tt refl tt tt, (hears _ 0 _ _ _ _ (lit< tt) refl tt refl tt tt, (hears _ 0 _ _ _ _ (lit< tt) refl tt refl tt tt, tt))),
    ),
  );
  goes_on = (refl, (refl, (refl, (refl, tt))));
  stops = refl;
}) Left (λ c e joined met. cc)

-- As many frames wait in A's outbox as a turn takes: the receive behind them only looks.
more_may_wait : Session terms
    (connects ∷ Put accept None ∷ (replicate TAKES (Put back None) ++ Gave 0 (Ok Closed) ∷ []))
    (0 ∷ 0 ∷ [])
    (joined_as 1 ∷ left_as 1 TAKES 0 ∷ [])
    (replicate TAKES back)
    (record { why = PeerClosed; conn = Some 1; taken = TAKES; empties = 0; turns = 2 })
unfolding verdict_on_literals
more_may_wait = told_by terms (record {
  went_on = (joins ∷ []);
  last = Some (record {
    opening = record { reading = 0; frames = replicate TAKES back; met = None; lost = None; fault = None };
    hearing = Some (record { given = Ok Closed; judged = true; answer = None; lost = None; fault = None });
  });
  stop = stop_for PeerClosed None;
  turns = (
    hears _ 0 _ _ _ _ (lit< tt) refl tt refl refl tt,
    (
      record {
        room = lit< tt;
        opening = record { takes = inl (refl, refl); few = lit≤ tt; not_left = λ h. cc; line = tt; cause = tt };
        heard = refl;
        hearing = record { memory = tt; calls = refl; fits = tt; line = tt; cause = tt };
      },
      tt,
    ),
  );
  goes_on = (refl, tt);
  stops = refl;
}) Left (λ c e joined met. cc)
