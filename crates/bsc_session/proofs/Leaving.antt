-- When a Disconnect-Request or an End ends a session.
-- It serves the clauses of `causes_are_exact` and `serve`.
use Rattle.std.proofs.Common.{◌≡◌, ◌↔◌, ℕ, Bool, true, false, is_some, is_none, ◌&&◌, List, refl, sym, ◌∙◌, Option, Some, None, Result, Ok, Err}
use Rattle.bsc_octets.specs.declared.identity.Identity.{Identity}
use Rattle.bsc_frame.specs.declared.body.Body.{Body}
use Rattle.bsc_frame.specs.declared.body.Body.TheVariants.{HeartbeatRequest, DisconnectRequest}
use Rattle.bsc_frame.specs.declared.message.Message.{Message as Bvlc}
use Rattle.bsc_history.specs.declared.ending.End.{End}
use Rattle.bsc_history.specs.declared.reply.Reply.TheVariants.{Joined, Refused as RefusedReply}
use Rattle.bsc_checks.specs.declared.phase.Phase.TheVariants.{Connected}
use Rattle.bsc_checks.specs.declared.verdict.Verdict.{Verdict}
use Rattle.bsc_checks.specs.declared.verdict.Verdict.TheVariants.{Pass, Carry as Carried, Silent, Nak}
use Rattle.bsc_edge.specs.declared.fault.LinkFault.{LinkFault}
use Rattle.bsc_edge.specs.declared.fault.LinkFault.TheVariants.{Failed, NoMemory as MemoryFault}
use Rattle.bsc_edge.specs.declared.incoming.Incoming.{Incoming}
use Rattle.bsc_edge.specs.declared.incoming.Incoming.TheVariants.{Message, Text, Quiet, Closed}
use Rattle.bsc_accept.specs.declared.closing.Closing.{Closing}
use Rattle.bsc_accept.specs.declared.step.Step.{Step}
use Rattle.bsc_accept.specs.declared.step.Step.TheVariants.{Ask, PutClose, Up, Close}
use Rattle.bsc_accept.specs.Messages.{disconnect_ack, octets_of, who_asks}
use Rattle.bsc_accept.specs.Past.{Standing as MachineStanding, awaiting_request, connected, disconnecting, phase_named, standing}
use Rattle.bsc_accept.specs.Steps.{ask_step, connected_step, message_step, normal}
use Rattle.arrayvec.specs.ArrayVec.{ArrayVec}
use Rattle.bsc_session.specs.declared.stop.Stop.{Stop}
use Rattle.bsc_session.specs.declared.why.Why.TheVariants.{Denied, EndedBy, NoMemory, NotBinary, PeerClosed, PeerLeft, Refused, Worn}
use Rattle.bsc_lines.specs.declared.denial.Denial.{Denial}
use Rattle.bsc_session.specs.Answering.{AnswerFits, calls, cause_of, denial_in, last_wanted, stop_by, stop_given, stop_judged, stop_message}
use Rattle.bsc_session.specs.Causes.{AnswersLeaving, HasAnswered, answer_in, given_in, hearing_fault, judged_in}
use Rattle.bsc_session.specs.Judging.{heard, heard_step, verdict_on}
use Rattle.bsc_session.specs.Receiving.{Answer, replies, worn, no_memory, Hearing}
use Rattle.bsc_session.specs.Reading.{ticked, wanted_at}
use Rattle.bsc_session.specs.Standings.{Standing, Terms}
use Rattle.bsc_session.specs.Stops.{closes, closing_in, first_of, stop_at, stop_for, stop_if, stop_lost, stop_unrecorded}
use Rattle.bsc_session.specs.Taking.{Opening, end_step, ended_by, opened, stop_before, waiting_for}
use Rattle.bsc_session.specs.Turns.{IsTurn, after, stop_in}
use Rattle.bsc_session.proofs.Causing.{Ends, closes_why, left_after, lost_after, parts_before, why_is}
use Rattle.bsc_session.proofs.EndingAtFault.{after_none, alone, no_stop}
use Rattle.bsc_session.proofs.Keeping.{Sound, has_quit, met_known, sound_opened, unmet_opened, unquit}

pub no_gift : (h : Hearing) → given_in (Some h) ≡ None → ⊥
no_gift h is = cc

-- ---- an End

waiting_parts : (conn : Option ℕ) (d : End) → waiting_for conn ≡ EndedBy d → ⊥
waiting_parts None d h = cc
waiting_parts (Some c) d h = cc

fault_parts : (f : LinkFault) (d : End) → (stop_at f).why ≡ EndedBy d → ⊥
fault_parts Failed d h = cc
fault_parts MemoryFault d h = cc

lost_parts : (f : LinkFault) (d : End) → (stop_unrecorded f).why ≡ EndedBy d → ⊥
lost_parts Failed d h = cc
lost_parts MemoryFault d h = cc

-- a stop that has the cause of an End is by one that was met
parts_by : (conn : Option ℕ) (tick : Option Closing) (lost fault : Option LinkFault) (v : Terms) (s : Standing) (met : Option End) (now : ℕ) (stop : Stop) (d : End)
    → first_of (closes (waiting_for conn) tick) (first_of (stop_lost lost) (first_of (stop_if fault) (closes (ended_by met) (closing_in (end_step v s now met))))) ≡ Some stop
    → stop.why ≡ EndedBy d → met ≡ Some d
parts_by conn (Some c) lost fault v s met now stop d is why = absurd (waiting_parts conn d (sym (why_is _ stop is) ∙ why))
parts_by conn None (Some f) fault v s met now stop d is why = absurd (lost_parts f d (sym (why_is (stop_unrecorded f) stop is) ∙ why))
parts_by conn None None (Some f) v s met now stop d is why = absurd (fault_parts f d (sym (why_is (stop_at f) stop is) ∙ why))
parts_by conn None None None v s None now stop d is why = cc
parts_by conn None None None v s (Some e) now stop d is why = (let k : EndedBy e ≡ EndedBy d = sym (closes_why (EndedBy e) (closing_in (end_step v s now (Some e))) stop is) ∙ why in cc)

pub end_named : (v : Terms) (s : Standing) (o : Opening) (h : Option Hearing) (stop : Stop) (d : End) → Ends (given_in h) (judged_in h) (answer_in h) (hearing_fault o.fault h) stop.why
    → stop_in v s (record { opening = o; hearing = h }) ≡ Some stop → stop.why ≡ EndedBy d → (after v s (record { opening = o; hearing = h })).ended ≡ Some d
end_named v s o None stop d e stops why = met_known v s o None d (parts_by s.conn (closing_in (wanted_at v s o.reading)) o.lost o.fault v (ticked s o.reading) o.met o.reading stop d
    (sym (alone (stop_before v s o)) ∙ stops) why)
end_named v s o (Some x) stop d e stops why = absurd (no_gift x (parts_before d e why))

-- ---- a Disconnect-Request

-- a connected machine was told a Disconnect-Request that passed
record Departs (g : MachineStanding) (x : Verdict) : Type 0 where
  live : phase_named g ≡ Connected
  message : Bvlc
  passes : x ≡ Pass message
  leaves : message.body ≡ DisconnectRequest

ask_open : (who : Option Identity) (c : Closing) → closing_in (ask_step who) ≡ Some c → ⊥
ask_open None c h = cc
ask_open (Some w) c h = cc

connected_closes : (id : ℕ) (body : Body) (c : Closing) → closing_in (connected_step id body) ≡ Some c → body ≡ DisconnectRequest
connected_closes id DisconnectRequest c h = refl
connected_closes id HeartbeatRequest c h = cc
connected_closes id body c h = cc

-- a message that closes, while the machine doesn't disconnect, is one
closes_by : (g : MachineStanding) (x : Verdict) (c : Closing) → (has_quit g ≡ true → ⊥) → closing_in (message_step g x) ≡ Some c → Departs g x
closes_by awaiting_request (Pass msg) c quit h = absurd (ask_open (who_asks msg.body) c h)
closes_by connected (Pass msg) c quit h = record { live = refl; message = msg; passes = refl; leaves = connected_closes msg.id msg.body c h }
closes_by (disconnecting f) x c quit h = absurd (quit refl)
closes_by g (Carried e) c quit h = cc
closes_by g (Silent check) c quit h = cc
closes_by g (Nak check octets) c quit h = cc

fault_left : (f : LinkFault) → (stop_at f).why ≡ PeerLeft → ⊥
fault_left Failed h = cc
fault_left MemoryFault h = cc

step_left : (v : Terms) (s : Standing) (st : Step) (a : Option Answer) (stop : Stop) → closes (cause_of st a) (closing_in (last_wanted v s st a)) ≡ Some stop → is_some a ≡ calls st
    → AnswerFits st a → stop.why ≡ PeerLeft
    → (c : Closing) × (closing_in st ≡ Some c)
step_left v s (Ask who) (Some (replies at l (RefusedReply r))) stop is calls fits why =
    let k : Refused r ≡ PeerLeft = sym (closes_why (Refused r) (closing_in (last_wanted v s (Ask who) (Some (replies at l (RefusedReply r))))) stop is) ∙ why in cc
step_left v s (Ask who) (Some (replies at l (Joined c y))) stop is calls fits why = cc
step_left v s (Ask who) a stop is calls fits why = cc
step_left v s Up a stop is calls fits why = cc
step_left v s (PutClose o c) a stop is calls fits why = (c, refl)
step_left v s (Close c) a stop is calls fits why = (c, refl)
step_left v s st None stop is calls fits why = cc
step_left v s st (Some a) stop is calls fits why = cc

-- a stop that has the cause of a peer that left is by a step that closes, and no put failed
answered_left : (v : Terms) (s : Standing) (st : Step) (a : Option Answer) (fault : Option LinkFault) (stop : Stop) → is_some a ≡ calls st → AnswerFits st a
    → first_of (stop_by a) (first_of (stop_if fault) (closes (cause_of st a) (closing_in (last_wanted v s st a)))) ≡ Some stop → stop.why ≡ PeerLeft
    → (fault ≡ None) × ((c : Closing) × (closing_in st ≡ Some c))
answered_left v s st (Some worn) fault stop calls fits is why = (let k : Worn ≡ PeerLeft = sym (why_is _ stop is) ∙ why in cc)
answered_left v s st (Some no_memory) fault stop calls fits is why = (let k : NoMemory ≡ PeerLeft = sym (why_is _ stop is) ∙ why in cc)
answered_left v s st a None stop calls fits is why = (refl, step_left v s st a stop is calls fits why)
answered_left v s st a (Some f) stop calls fits is why = absurd (fault_left f (sym (why_is (stop_at f) stop is) ∙ why))

carried_left : (v : Terms) (s : Standing) (fault : Option LinkFault) (stop : Stop) → first_of (stop_if fault) None ≡ Some stop → stop.why ≡ PeerLeft → ⊥
carried_left v s None stop is why = cc
carried_left v s (Some f) stop is why = fault_left f (sym (why_is (stop_at f) stop is) ∙ why)

message_left : (v : Terms) (s : Standing) (st : Step) (d : Option Denial) (a : Option Answer) (fault : Option LinkFault) (stop : Stop) → is_some a ≡ is_none d && calls st → AnswerFits st a
    → stop_message v s st d a None fault ≡ Some stop → stop.why ≡ PeerLeft
    → (fault ≡ None) × ((c : Closing) × (closing_in st ≡ Some c))
message_left v s st None a fault stop calls fits is why = answered_left v s st a fault stop calls fits is why
message_left v s st (Some d) (Some a) fault stop calls fits is why = cc
message_left v s (Ask who) (Some d) None fault stop calls fits is why = (let k : Denied 0 ≡ PeerLeft = sym (why_is _ stop is) ∙ why in cc)
message_left v s Up (Some d) None fault stop calls fits is why = absurd (carried_left v s fault stop is why)
message_left v s st (Some d) None fault stop calls fits is why = answered_left v s st None fault stop refl fits is why

judged_left : (v : Terms) (s0 s : Standing) (now : ℕ) (m : List ℕ) (judged : Bool) (d : Option Denial) (a : Option Answer) (lost fault : Option LinkFault) (stop : Stop)
    → (has_quit (standing s0.events) ≡ true → ⊥)
    → is_some a ≡ is_none d && calls (heard_step v s0 now judged (Ok (Message m))) → AnswerFits (heard_step v s0 now judged (Ok (Message m))) a
    → stop_judged judged (stop_message v s (heard_step v s0 now judged (Ok (Message m))) d a None fault) ≡ Some stop → stop.why ≡ PeerLeft
    → AnswersLeaving v s0 (record { given = Ok (Message m); judged = judged; answer = a; lost = lost; fault = fault })
judged_left v s0 s now m true d a lost fault stop quit calls fits is why =
    let k = message_left v s (heard_step v s0 now true (Ok (Message m))) d a fault stop calls fits is why in
    let z = closes_by (standing s0.events) (verdict_on v s0 m) k.1.0 quit k.1.1 in
    record { connected = z.live; octets = m; gave = refl; had_memory = refl; message = z.message; passes = z.passes; leaves = z.leaves; put = k.0 }
judged_left v s0 s now m false d a lost fault stop quit calls fits is why = (let k : NoMemory ≡ PeerLeft = sym (why_is _ stop is) ∙ why in cc)

given_left : (v : Terms) (s0 s : Standing) (now : ℕ) (given : Result Incoming LinkFault) (judged : Bool) (d : Option Denial) (a : Option Answer) (lost fault : Option LinkFault) (stop : Stop)
    → (has_quit (standing s0.events) ≡ true → ⊥)
    → is_some a ≡ is_none d && calls (heard_step v s0 now judged given) → AnswerFits (heard_step v s0 now judged given) a
    → stop_given given (stop_judged judged (stop_message v s (heard_step v s0 now judged given) d a None fault)) ≡ Some stop → stop.why ≡ PeerLeft
    → AnswersLeaving v s0 (record { given = given; judged = judged; answer = a; lost = lost; fault = fault })
given_left v s0 s now (Err f) judged d a lost fault stop quit calls fits is why = absurd (fault_left f (sym (why_is (stop_at f) stop is) ∙ why))
given_left v s0 s now (Ok Closed) judged d a lost fault stop quit calls fits is why = (let k : PeerClosed ≡ PeerLeft = sym (why_is _ stop is) ∙ why in cc)
given_left v s0 s now (Ok Text) judged d a lost fault stop quit calls fits is why = (let k : NotBinary ≡ PeerLeft = sym (why_is _ stop is) ∙ why in cc)
given_left v s0 s now (Ok Quiet) judged d a lost fault stop quit calls fits is why = cc
given_left v s0 s now (Ok (Message m)) judged d a lost fault stop quit calls fits is why = judged_left v s0 s now m judged d a lost fault stop quit calls fits is why

-- where a Disconnect-Request was answered, it is so that the session stops
departs_step : (g : MachineStanding) (x : Verdict) (msg : Bvlc) → phase_named g ≡ Connected → x ≡ Pass msg → msg.body ≡ DisconnectRequest
    → message_step g x ≡ PutClose (octets_of (disconnect_ack msg.id)) normal
departs_step awaiting_request x msg live is leaves = cc
departs_step connected x msg live is leaves = rw (is, leaves) refl
departs_step (disconnecting f) x msg live is leaves = cc

closing_stops : (v : Terms) (s : Standing) (o : ArrayVec ℕ) (c : Closing) (d : Option Denial) (a : Option Answer) (stop : Stop) → is_some a ≡ is_none d && calls (PutClose o c)
    → stop_message v s (PutClose o c) d a None None ≡ Some stop → stop.why ≡ PeerLeft
closing_stops v s o c None None stop calls is = why_is (stop_for PeerLeft (Some c)) stop is
closing_stops v s o c (Some d) None stop calls is = why_is (stop_for PeerLeft (Some c)) stop is
closing_stops v s o c None (Some a) stop calls is = cc
closing_stops v s o c (Some d) (Some a) stop calls is = cc

step_stops : (v : Terms) (s : Standing) (st : Step) (o : ArrayVec ℕ) (c : Closing) (d : Option Denial) (a : Option Answer) (stop : Stop) → st ≡ PutClose o c
    → is_some a ≡ is_none d && calls st → stop_message v s st d a None None ≡ Some stop → stop.why ≡ PeerLeft
step_stops v s st o c d a stop e calls is = closing_stops v s o c d a stop (rw e at calls) (rw e at is)

answered_stops : (v : Terms) (s0 s : Standing) (now : ℕ) (given : Result Incoming LinkFault) (judged : Bool) (d : Option Denial) (a : Option Answer) (fault : Option LinkFault) (stop : Stop)
    (m : List ℕ) (msg : Bvlc)
    → given ≡ Ok (Message m) → judged ≡ true → fault ≡ None → phase_named (standing s0.events) ≡ Connected → verdict_on v s0 m ≡ Pass msg → msg.body ≡ DisconnectRequest
    → is_some a ≡ is_none d && calls (heard_step v s0 now judged given) → stop_given given (stop_judged judged (stop_message v s (heard_step v s0 now judged given) d a None fault))
    ≡ Some stop → stop.why ≡ PeerLeft
answered_stops v s0 s now given judged d a fault stop m msg gave memory put live passes leaves calls is =
    step_stops v s (message_step (standing s0.events) (verdict_on v s0 m)) _ normal d a stop (departs_step (standing s0.events) (verdict_on v s0 m) msg live passes leaves)
    (rw (memory, gave) at calls) (rw (memory, gave, put) at is)

-- ---- the row

left_first : (v : Terms) (s : Standing) (o : Opening) (h : Option Hearing) (stop : Stop) → Ends (given_in h) (judged_in h) (answer_in h) (hearing_fault o.fault h) stop.why
    → (has_quit (standing (opened s o).events) ≡ true → ⊥) → lost_after h ≡ None
    → IsTurn v s (record { opening = o; hearing = h }) → stop_in v s (record { opening = o; hearing = h }) ≡ Some stop → stop.why ≡ PeerLeft
    → HasAnswered v s (Some (record { opening = o; hearing = h }))
left_first v s o None stop e quit unlost is stops why = absurd (left_after e why)
left_first v s o (Some x) stop e quit unlost is stops why = given_left v (opened s o) (heard v (opened s o) o.reading x.judged x.given) o.reading x.given x.judged
    (denial_in v (opened s o) o.reading x) x.answer x.lost x.fault stop quit is.hearing.calls is.hearing.fits
    (rw unlost at (after_none (stop_before v s o) _ stop (no_stop (stop_before v s o) is.heard) stops)) why

left_last : (v : Terms) (s : Standing) (o : Opening) (h : Option Hearing) (stop : Stop) → lost_after h ≡ None
    → IsTurn v s (record { opening = o; hearing = h }) → stop_in v s (record { opening = o; hearing = h }) ≡ Some stop → HasAnswered v s (Some (record { opening = o; hearing = h }))
    → stop.why ≡ PeerLeft
left_last v s o None stop unlost is stops k = absurd k
left_last v s o (Some x) stop unlost is stops k = answered_stops v (opened s o) (heard v (opened s o) o.reading x.judged x.given) o.reading x.given x.judged
    (denial_in v (opened s o) o.reading x) x.answer x.fault stop k.octets k.message k.gave k.had_memory k.put k.connected k.passes k.leaves is.hearing.calls
    (rw unlost at (after_none (stop_before v s o) _ stop (no_stop (stop_before v s o) is.heard) stops))

pub peer_left_row : (v : Terms) (s : Standing) (o : Opening) (h : Option Hearing) (stop : Stop) → Ends (given_in h) (judged_in h) (answer_in h) (hearing_fault o.fault h) stop.why → Sound s
    → lost_after h ≡ None
    → IsTurn v s (record { opening = o; hearing = h }) → stop_in v s (record { opening = o; hearing = h }) ≡ Some stop → (after v s (record { opening = o; hearing = h })).ended ≡ None
    → stop.why ≡ PeerLeft ↔ HasAnswered v s (Some (record { opening = o; hearing = h }))
peer_left_row v s o h stop e sound unlost is stops none = (
  λ why. left_first v s o h stop e (unquit (opened s o) (sound_opened s o sound) (unmet_opened v s o h none)) unlost is stops why,
  λ k. left_last v s o h stop unlost is stops k,
)
