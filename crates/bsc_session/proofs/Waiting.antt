-- When a reading ends a session: the connect wait is over where nobody has joined, and the peer is idle where one has.
-- It serves the clauses of `causes_are_exact` and `serve`.
use Rattle.std.proofs.Common.{◌≡◌, ◌⊎◌, ◌↔◌, ℕ, Bool, true, false, cond, is_some, refl, sym, ◌∙◌, inl, inr, Option, Some, None}
use Rattle.bsc_history.specs.declared.ending.End.{End}
use Rattle.bsc_checks.specs.declared.phase.Phase.TheVariants.{AwaitingRequest, Connected}
use Rattle.bsc_edge.specs.declared.fault.LinkFault.{LinkFault}
use Rattle.bsc_edge.specs.declared.fault.LinkFault.TheVariants.{Failed, NoMemory as MemoryFault}
use Rattle.bsc_accept.specs.declared.closing.Closing.{Closing}
use Rattle.bsc_accept.specs.declared.start.Start.{Start}
use Rattle.bsc_accept.specs.declared.step.Step.TheVariants.{Close, Nothing}
use Rattle.bsc_accept.specs.Past.{Standing as MachineStanding, awaiting_request, connected, disconnecting, last_message, phase_named, standing}
use Rattle.bsc_accept.specs.declared.reason.Reason.TheVariants.{ConnectWait, Idle as IdleReason}
use Rattle.bsc_accept.specs.Steps.{closing, tick_step}
use Rattle.bsc_accept.specs.Waits.{connect_wait_is_over, is_idle}
use Rattle.bsc_session.specs.declared.stop.Stop.{Stop}
use Rattle.bsc_session.specs.declared.why.Why.{Why}
use Rattle.bsc_session.specs.declared.why.Why.TheVariants.{EndedBy, Idle, WaitExpired}
use Rattle.bsc_session.specs.Causes.{HasIdled, HasWaited, answer_in, given_in, hearing_fault, judged_in}
use Rattle.bsc_session.specs.Following.{has_joined}
use Rattle.bsc_session.specs.Reading.{started, wanted_at, ticked}
use Rattle.bsc_session.specs.Receiving.{Hearing}
use Rattle.bsc_session.specs.Standings.{Standing, Terms, start_of}
use Rattle.bsc_session.specs.Stops.{closes, closing_in, first_of, stop_at, stop_if, stop_lost, stop_unrecorded}
use Rattle.bsc_session.specs.Taking.{Opening, end_step, ended_by, stop_before, waiting_for}
use Rattle.bsc_session.specs.Turns.{after, stop_in}
use Rattle.bsc_session.proofs.Causing.{Ends, closes_why, waits_before, why_is}
use Rattle.bsc_session.proofs.EndingAtFault.{alone}
use Rattle.bsc_session.proofs.Keeping.{Sound, has_quit, unmet, unquit}
use Rattle.bsc_session.proofs.Leaving.{no_gift}

-- ---- what the reading wants

-- a wait that is over closes
over : (b : Bool) (c d : Closing) → closing_in (cond b (Close c) Nothing) ≡ Some d → b ≡ true
over true c d h = refl
over false c d h = cc

closed : (b : Bool) (c : Closing) → b ≡ true → closing_in (cond b (Close c) Nothing) ≡ Some c
closed true c h = refl
closed false c h = cc

-- the reading closes while nobody has joined
waited_at : (from : Start) (last now : ℕ) (g : MachineStanding) (c : Closing) → has_joined g ≡ false → closing_in (tick_step from last now g) ≡ Some c → (phase_named g ≡ AwaitingRequest)
    × (connect_wait_is_over from now ≡ true)
waited_at from last now awaiting_request c h is = (refl, over (connect_wait_is_over from now) _ c is)
waited_at from last now connected c h is = cc
waited_at from last now (disconnecting f) c h is = cc

-- it closes while one has, and doesn't disconnect
idled_at : (from : Start) (last now : ℕ) (g : MachineStanding) (c : Closing) → has_joined g ≡ true → (has_quit g ≡ true → ⊥) → closing_in (tick_step from last now g) ≡ Some c
    → (phase_named g ≡ Connected) × (is_idle from last now ≡ true)
idled_at from last now awaiting_request c h quit is = cc
idled_at from last now connected c h quit is = (refl, over (is_idle from last now) _ c is)
idled_at from last now (disconnecting f) c h quit is = absurd (quit refl)

waits_at : (from : Start) (last now : ℕ) (g : MachineStanding) → phase_named g ≡ AwaitingRequest → connect_wait_is_over from now ≡ true → (has_joined g ≡ false)
    × ((c : Closing) × (closing_in (tick_step from last now g) ≡ Some c))
waits_at from last now awaiting_request h is = (refl, (closing 1008 ConnectWait, closed (connect_wait_is_over from now) _ is))
waits_at from last now connected h is = cc
waits_at from last now (disconnecting f) h is = cc

idles_at : (from : Start) (last now : ℕ) (g : MachineStanding) → phase_named g ≡ Connected → is_idle from last now ≡ true → (has_joined g ≡ true)
    × ((c : Closing) × (closing_in (tick_step from last now g) ≡ Some c))
idles_at from last now awaiting_request h is = cc
idles_at from last now connected h is = (refl, (closing 1008 IdleReason, closed (is_idle from last now) _ is))
idles_at from last now (disconnecting f) h is = cc

-- ---- how the opening stops

abbrev IsWaiting : Why → Type 0
IsWaiting w = (w ≡ WaitExpired) ⊎ (w ≡ Idle)

fault_waits : (f : LinkFault) → IsWaiting (stop_at f).why → ⊥
fault_waits Failed (inl h) = cc
fault_waits Failed (inr h) = cc
fault_waits MemoryFault (inl h) = cc
fault_waits MemoryFault (inr h) = cc

end_waits : (v : Terms) (s : Standing) (met : Option End) (now : ℕ) (stop : Stop) → closes (ended_by met) (closing_in (end_step v s now met)) ≡ Some stop → IsWaiting stop.why → ⊥
end_waits v s None now stop is h = cc
end_waits v s (Some e) now stop is (inl h) = (let k : EndedBy e ≡ WaitExpired = sym (closes_why (EndedBy e) (closing_in (end_step v s now (Some e))) stop is) ∙ h in cc)
end_waits v s (Some e) now stop is (inr h) = (let k : EndedBy e ≡ Idle = sym (closes_why (EndedBy e) (closing_in (end_step v s now (Some e))) stop is) ∙ h in cc)

lost_waits : (f : LinkFault) → IsWaiting (stop_unrecorded f).why → ⊥
lost_waits Failed (inl h) = cc
lost_waits Failed (inr h) = cc
lost_waits MemoryFault (inl h) = cc
lost_waits MemoryFault (inr h) = cc

-- neither a lost line nor a fault nor an End gives such a cause
later_waits : (v : Terms) (s : Standing) (met : Option End) (now : ℕ) (lost fault : Option LinkFault) (stop : Stop)
    → first_of (stop_lost lost) (first_of (stop_if fault) (closes (ended_by met) (closing_in (end_step v s now met)))) ≡ Some stop → IsWaiting stop.why → ⊥
later_waits v s met now (Some f) fault stop is h = (let k : IsWaiting (stop_unrecorded f).why = rw (why_is (stop_unrecorded f) stop is) at h in lost_waits f k)
later_waits v s met now None None stop is h = end_waits v s met now stop is h
later_waits v s met now None (Some f) stop is h = (let k : IsWaiting (stop_at f).why = rw (why_is (stop_at f) stop is) at h in fault_waits f k)

-- the reading closes
reading_closes : (conn : Option ℕ) (tick : Option Closing) (later : Option Stop) (stop : Stop) → (later ≡ Some stop → IsWaiting stop.why → ⊥)
    → first_of (closes (waiting_for conn) tick) later ≡ Some stop → IsWaiting stop.why → (stop.why ≡ waiting_for conn) × ((c : Closing) × (tick ≡ Some c))
reading_closes conn None later stop not is h = absurd (not is h)
reading_closes conn (Some c) later stop not is h = (why_is _ stop is, (c, refl))

opening_closes : (v : Terms) (s : Standing) (o : Opening) (stop : Stop) → stop_before v s o ≡ Some stop → IsWaiting stop.why → (stop.why ≡ waiting_for s.conn)
    × ((c : Closing) × (closing_in (wanted_at v s o.reading) ≡ Some c))
opening_closes v s o stop is h = reading_closes s.conn (closing_in (wanted_at v s o.reading)) _ stop (later_waits v (ticked s o.reading) o.met o.reading o.lost o.fault stop) is h

-- where the reading closes, that is how the turn stops
stops_closed : (conn : Option ℕ) (tick : Option Closing) (c : Closing) (later last : Option Stop) (stop : Stop) → tick ≡ Some c
    → first_of (first_of (closes (waiting_for conn) tick) later) last ≡ Some stop → stop.why ≡ waiting_for conn
stops_closed conn None c later last stop h is = cc
stops_closed conn (Some d) c later last stop h is = why_is _ stop is

unjoined_waits : (conn : Option ℕ) → false ≡ is_some conn → waiting_for conn ≡ WaitExpired
unjoined_waits None h = refl
unjoined_waits (Some c) h = cc

joined_waits : (conn : Option ℕ) → true ≡ is_some conn → waiting_for conn ≡ Idle
joined_waits None h = cc
joined_waits (Some c) h = refl

waits_unjoined : (conn : Option ℕ) → waiting_for conn ≡ WaitExpired → is_some conn ≡ false
waits_unjoined None h = refl
waits_unjoined (Some c) h = cc

waits_joined : (conn : Option ℕ) → waiting_for conn ≡ Idle → is_some conn ≡ true
waits_joined None h = cc
waits_joined (Some c) h = refl

-- ---- the rows

wait_found : (v : Terms) (s : Standing) (o : Opening) (h : Option Hearing) (stop : Stop) → Sound s → stop_before v s o ≡ Some stop → stop.why ≡ WaitExpired
    → HasWaited v s (Some (record { opening = o; hearing = h }))
wait_found v s o h stop sound is why =
    let k = opening_closes v s o stop is (inl why) in
    waited_at (start_of v (started s o.reading)) (last_message (start_of v (started s o.reading)) s.events) o.reading (standing s.events) k.1.0
    (sound.tied ∙ waits_unjoined s.conn (sym k.0 ∙ why)) k.1.1

idle_found : (v : Terms) (s : Standing) (o : Opening) (h : Option Hearing) (stop : Stop) → Sound s → s.ended ≡ None → stop_before v s o ≡ Some stop → stop.why ≡ Idle
    → HasIdled v s (Some (record { opening = o; hearing = h }))
idle_found v s o h stop sound none is why =
    let k = opening_closes v s o stop is (inr why) in
    idled_at (start_of v (started s o.reading)) (last_message (start_of v (started s o.reading)) s.events) o.reading (standing s.events) k.1.0 (sound.tied ∙ waits_joined s.conn (sym k.0 ∙ why))
    (unquit s sound none) k.1.1

wait_first : (v : Terms) (s : Standing) (o : Opening) (h : Option Hearing) (stop : Stop) → Ends (given_in h) (judged_in h) (answer_in h) (hearing_fault o.fault h) stop.why → Sound s
    → stop_in v s (record { opening = o; hearing = h }) ≡ Some stop → stop.why ≡ WaitExpired → HasWaited v s (Some (record { opening = o; hearing = h }))
wait_first v s o None stop e sound stops why = wait_found v s o None stop sound (sym (alone (stop_before v s o)) ∙ stops) why
wait_first v s o (Some x) stop e sound stops why = absurd (no_gift x (waits_before e (inl why)))

wait_last : (v : Terms) (s : Standing) (o : Opening) (h : Option Hearing) (stop : Stop) → Sound s
    → stop_in v s (record { opening = o; hearing = h }) ≡ Some stop → HasWaited v s (Some (record { opening = o; hearing = h })) → stop.why ≡ WaitExpired
wait_last v s o h stop sound stops k =
    let w = waits_at (start_of v (started s o.reading)) (last_message (start_of v (started s o.reading)) s.events) o.reading (standing s.events) k.0 k.1 in
    stops_closed s.conn (closing_in (wanted_at v s o.reading)) w.1.0 _ _ stop w.1.1 stops ∙ unjoined_waits s.conn (sym w.0 ∙ sound.tied)

pub wait_row : (v : Terms) (s : Standing) (o : Opening) (h : Option Hearing) (stop : Stop) → Ends (given_in h) (judged_in h) (answer_in h) (hearing_fault o.fault h) stop.why → Sound s
    → stop_in v s (record { opening = o; hearing = h }) ≡ Some stop → stop.why ≡ WaitExpired ↔ HasWaited v s (Some (record { opening = o; hearing = h }))
wait_row v s o h stop e sound stops = (λ why. wait_first v s o h stop e sound stops why, λ k. wait_last v s o h stop sound stops k)

idle_first : (v : Terms) (s : Standing) (o : Opening) (h : Option Hearing) (stop : Stop) → Ends (given_in h) (judged_in h) (answer_in h) (hearing_fault o.fault h) stop.why → Sound s → s.ended ≡ None
    → stop_in v s (record { opening = o; hearing = h }) ≡ Some stop → stop.why ≡ Idle → HasIdled v s (Some (record { opening = o; hearing = h }))
idle_first v s o None stop e sound none stops why = idle_found v s o None stop sound none (sym (alone (stop_before v s o)) ∙ stops) why
idle_first v s o (Some x) stop e sound none stops why = absurd (no_gift x (waits_before e (inr why)))

idle_last : (v : Terms) (s : Standing) (o : Opening) (h : Option Hearing) (stop : Stop) → Sound s
    → stop_in v s (record { opening = o; hearing = h }) ≡ Some stop → HasIdled v s (Some (record { opening = o; hearing = h })) → stop.why ≡ Idle
idle_last v s o h stop sound stops k =
    let w = idles_at (start_of v (started s o.reading)) (last_message (start_of v (started s o.reading)) s.events) o.reading (standing s.events) k.0 k.1 in
    stops_closed s.conn (closing_in (wanted_at v s o.reading)) w.1.0 _ _ stop w.1.1 stops ∙ joined_waits s.conn (sym w.0 ∙ sound.tied)

pub idle_row : (v : Terms) (s : Standing) (o : Opening) (h : Option Hearing) (stop : Stop) → Ends (given_in h) (judged_in h) (answer_in h) (hearing_fault o.fault h) stop.why → Sound s
    → stop_in v s (record { opening = o; hearing = h }) ≡ Some stop → (after v s (record { opening = o; hearing = h })).ended ≡ None
    → stop.why ≡ Idle ↔ HasIdled v s (Some (record { opening = o; hearing = h }))
idle_row v s o h stop e sound stops none = (λ why. idle_first v s o h stop e sound (unmet v s o h none).1 stops why, λ k. idle_last v s o h stop sound stops k)
