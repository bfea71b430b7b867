-- Who the peer of a link is, once its machine is told one thing more.
-- It serves clauses of functions of `state`.
use Rattle.std.proofs.Common.{◌≡◌, ℕ, ◌==◌, Bool, true, false, not, cond, ◌&&◌, List, [], ◌∷◌, ◌++◌, Option, Some, None, refl, ap, sym, ◌∙◌, subst}
use Rattle.std.specs.Prelude.{is_some}
use Rattle.std.specs.Option.{option_or, option_and_then, option_map}
use Rattle.std.proofs.lemmas.Bool.{false≢true}
use Rattle.arrayvec.specs.ArrayVec.{ArrayVec}
use Rattle.bsc_octets.specs.declared.identity.Identity.{Identity}
use Rattle.bsc_frame.specs.declared.message.Message.{Message}
use Rattle.bsc_frame.specs.declared.body.Body.{Body}
use Rattle.bsc_frame.specs.declared.body.Body.TheVariants.{DisconnectRequest, HeartbeatRequest, HeartbeatAck}
use Rattle.bsc_checks.specs.declared.verdict.Verdict.{Verdict}
use Rattle.bsc_checks.specs.declared.verdict.Verdict.TheVariants.{Pass, Carry, Silent, Nak}
use Rattle.bsc_connector.specs.Back.{first_of}
use Rattle.bsc_accept.specs.declared.start.Start.{Start}
use Rattle.bsc_accept.specs.declared.closing.Closing.{Closing}
use Rattle.bsc_accept.specs.declared.event.Event.{Event}
use Rattle.bsc_accept.specs.declared.event.Event.TheVariants.{Message as Heard, Joined, Refused as IsRefused, Ended, Finish as AskedToFinish, Tick as Ticked}
use Rattle.bsc_accept.specs.declared.step.Step.TheVariants.{Close as StepClose, Nothing as StepNothing}
use Rattle.bsc_history.specs.declared.reply.Refusal.{Refusal}
use Rattle.bsc_history.specs.declared.reply.Refusal.TheVariants.{Stopped, Duplicate, TableFull}
use Rattle.bsc_accept.specs.Messages.{who_asks}
use Rattle.bsc_accept.specs.Past as A
use Rattle.bsc_accept.specs.Steps as AS
use Rattle.bsc_accept.specs.Kept as AK
use Rattle.bsc_accept.specs.Standing as AN
use Rattle.bsc_accept.specs.Messages as AM
use Rattle.bsc_accept.specs.Waits.{connect_wait_is_over, is_idle, disconnect_wait_is_over}
use Rattle.bsc_accept.proofs.Looking as AL
use Rattle.bsc_accept.proofs.Common.{refusing}
use Rattle.bsc_initiate.specs.declared.event.InitEvent.{InitEvent}
use Rattle.bsc_initiate.specs.declared.event.InitEvent.TheVariants.{Opened, Message as Came, Finish, Tick}
use Rattle.bsc_initiate.specs.declared.step.InitStep.TheVariants.{Put, Close, Nothing}
use Rattle.bsc_initiate.specs.Messages.{who_accepts, refusing_code, says_who}
use Rattle.bsc_initiate.specs.Past.{Standing, awaiting_websocket, awaiting_accept, connected, disconnecting, standing, request_at, last_message, heartbeat_was_put, is_heartbeat_due}
use Rattle.bsc_initiate.specs.Kept.{moved}
use Rattle.bsc_initiate.specs.Standing.{open_stage}
use Rattle.bsc_initiate.specs.Steps.{step, answer_step, connected_step, finish_step, tick_step, message_step}
use Rattle.bsc_initiate.proofs.Looking.{standing-more}
use Rattle.bsc_node.specs.Links.{accepts_by, asks_by, request, who_accepted, who_asked}
use Rattle.bsc_node_core.specs.Machines.{may_tell_dialled, may_tell_taken, dialled_peer, taken_peer}
use Rattle.bsc_node_core.specs.Standing.{AcceptStands, AskStands}
use Rattle.bsc_connector.proofs.Common.{first_of-more as first-more}
use Rattle.bsc_node.proofs.Common.{accepted-kept, asked-kept}

-- ---- looking for the first

or_some : {A : Type 0} (o p : Option A) → is_some o ≡ true → option_or o p ≡ o
or_some (Some x) p h = refl
or_some None p h = absurd (false≢true h)

-- ---- a link that was dialled

-- who accepted, by the request that there is once e came, and by what was told until then and by e
abbrev accepted_by : List InitEvent → InitEvent → Option ℕ → Option Identity
accepted_by E e o = option_and_then (λ id. option_or (first_of (accepts_by id) E) (accepts_by id e)) o

accepted-by : (E : List InitEvent) (e : InitEvent) (o : Option ℕ) → option_and_then (λ id. first_of (accepts_by id) (E ++ e ∷ [])) o ≡ accepted_by E e o
accepted-by E e None = refl
accepted-by E e (Some id) = first-more (accepts_by id) E e

accepted-more : (E : List InitEvent) (e : InitEvent) → who_accepted (E ++ e ∷ []) ≡ accepted_by E e (option_or (request E) (request_at e))
accepted-more E e =
    ap (λ o. option_and_then (λ id. first_of (accepts_by id) (E ++ e ∷ [])) o) (first-more request_at E e)
    ∙ accepted-by E e (option_or (request E) (request_at e))

-- Who accepted stays so.
accepted-stays : (E : List InitEvent) (e : InitEvent) → is_some (who_accepted E) ≡ true → who_accepted (E ++ e ∷ []) ≡ who_accepted E
accepted-stays E e h = accepted-more E e ∙ by (request E) h
  where
    by : (o : Option ℕ) → is_some (option_and_then (λ id. first_of (accepts_by id) E) o) ≡ true → accepted_by E e (option_or o (request_at e)) ≡ option_and_then (λ id. first_of (accepts_by id) E) o
    by None g = absurd (false≢true g)
    by (Some id) g = or_some (first_of (accepts_by id) E) (accepts_by id e) g

still-accepted : (E : List InitEvent) (e : InitEvent) → is_some (who_accepted E) ≡ true → is_some (who_accepted (E ++ e ∷ [])) ≡ true
still-accepted E e h = ap is_some (accepted-stays E e h) ∙ h

-- who accepted, where the request has this Message ID and wasn't accepted before
accepted-at : (E : List InitEvent) (e : InitEvent) (id : ℕ) → request E ≡ Some id → first_of (accepts_by id) E ≡ None → who_accepted (E ++ e ∷ []) ≡ accepts_by id e
accepted-at E e id r n = accepted-more E e ∙ ap (λ o. accepted_by E e (option_or o (request_at e))) r ∙ ap (λ o. option_or o (accepts_by id e)) n

accepted-before : (E : List InitEvent) (id : ℕ) → request E ≡ Some id → first_of (accepts_by id) E ≡ None → who_accepted E ≡ None
accepted-before E id r n = ap (λ o. option_and_then (λ i. first_of (accepts_by i) E) o) r ∙ n

unasked-before : (E : List InitEvent) → request E ≡ None → who_accepted E ≡ None
unasked-before E r = ap (λ o. option_and_then (λ i. first_of (accepts_by i) E) o) r

-- Before the Connect-Request, something is told that neither asks nor is a message.
websocket-awaited : (E : List InitEvent) (e : InitEvent) → request_at e ≡ None → ((id : ℕ) → accepts_by id e ≡ None) → AcceptStands awaiting_websocket E → AcceptStands awaiting_websocket (E ++ e ∷ [])
websocket-awaited E e r n h = (
  first-more request_at E e ∙ ap (λ o. option_or o (request_at e)) h.0 ∙ r,
  λ id. first-more (accepts_by id) E e ∙ ap (λ o. option_or o (accepts_by id e)) (h.1 id) ∙ n id,
)

-- The request isn't accepted.
accept-awaited : (E : List InitEvent) (e : InitEvent) (id : ℕ) → accepts_by id e ≡ None → AcceptStands (awaiting_accept id) E → AcceptStands (awaiting_accept id) (E ++ e ∷ [])
accept-awaited E e id n h = (
  first-more request_at E e ∙ ap (λ o. option_or o (request_at e)) h.0,
  first-more (accepts_by id) E e ∙ ap (λ o. option_or o (accepts_by id e)) h.1 ∙ n,
)

passed : (E : List InitEvent) (now id : ℕ) (msg : Message) (b : Bool) (o : Option Identity) → accepts_by id (Came now (Pass msg)) ≡ cond b o None → AcceptStands (awaiting_accept id) E
    → AcceptStands (cond (b && says_who o) connected (awaiting_accept id)) (E ++ Came now (Pass msg) ∷ [])
passed E now id msg true (Some who) a h = ap is_some (accepted-at E (Came now (Pass msg)) id h.0 h.1 ∙ a)
passed E now id msg true None a h = accept-awaited E (Came now (Pass msg)) id a h
passed E now id msg false o a h = accept-awaited E (Came now (Pass msg)) id a h

heard : (E : List InitEvent) (now id : ℕ) (v : Verdict) → AcceptStands (awaiting_accept id) E → AcceptStands (moved (awaiting_accept id) (Came now v)) (E ++ Came now v ∷ [])
heard E now id (Pass msg) h = passed E now id msg (msg.id == id) (who_accepts msg.body) refl h
heard E now id (Carry envelope) h = accept-awaited E (Came now (Carry envelope)) id refl h
heard E now id (Silent check) h = accept-awaited E (Came now (Silent check)) id refl h
heard E now id (Nak check octets) h = accept-awaited E (Came now (Nak check octets)) id refl h

accept-by : (g : Standing) (put : Bool) (E : List InitEvent) (e : InitEvent) → may_tell_dialled (open_stage g put) e ≡ true → AcceptStands g E → AcceptStands (moved g e) (E ++ e ∷ [])
accept-by awaiting_websocket put E (Opened now id) m h = (
  first-more request_at E (Opened now id) ∙ ap (λ o. option_or o (Some id)) h.0,
  first-more (accepts_by id) E (Opened now id) ∙ ap (λ o. option_or o None) (h.1 id),
)
accept-by awaiting_websocket put E (Came now v) m h = absurd (false≢true m)
accept-by awaiting_websocket put E (Finish now id) m h = websocket-awaited E (Finish now id) refl (λ i. refl) h
accept-by awaiting_websocket put E (Tick now id) m h = websocket-awaited E (Tick now id) refl (λ i. refl) h
accept-by (awaiting_accept id) put E (Opened now i) m h = absurd (false≢true m)
accept-by (awaiting_accept id) put E (Came now v) m h = heard E now id v h
accept-by (awaiting_accept id) put E (Finish now i) m h = accept-awaited E (Finish now i) id refl h
accept-by (awaiting_accept id) put E (Tick now i) m h = accept-awaited E (Tick now i) id refl h
accept-by connected put E (Opened now i) m h = absurd (false≢true m)
accept-by connected put E (Came now v) m h = still-accepted E (Came now v) h
accept-by connected put E (Finish now i) m h = still-accepted E (Finish now i) h
accept-by connected put E (Tick now i) m h = still-accepted E (Tick now i) h
accept-by (disconnecting f) put E e m h = still-accepted E e h

-- Whether the peer has accepted, with one thing more that the machine was told.
pub accept-goes-on : (E : List InitEvent) (e : InitEvent) (put : Bool) → may_tell_dialled (open_stage (standing E) put) e ≡ true → AcceptStands (standing E) E
    → AcceptStands (standing (E ++ e ∷ [])) (E ++ e ∷ [])
accept-goes-on E e put m h = subst (λ (g : Standing). AcceptStands g (E ++ e ∷ [])) (sym (standing-more E e)) (accept-by (standing E) put E e m h)

-- ---- and who it is

no_peer : (b : Bool) (c : Closing) (p : Option Identity) → dialled_peer (cond b (Close c) Nothing) p ≡ p
no_peer true c p = refl
no_peer false c p = refl

finish_names : (g : Standing) (id : ℕ) (p : Option Identity) → dialled_peer (finish_step g id) p ≡ p
finish_names awaiting_websocket id p = refl
finish_names (awaiting_accept i) id p = refl
finish_names connected id p = refl
finish_names (disconnecting f) id p = refl

tick_names : (s : Start) (last : ℕ) (put : Bool) (now id : ℕ) (g : Standing) (p : Option Identity) → dialled_peer (tick_step s last put now id g) p ≡ p
tick_names s last put now id awaiting_websocket p = no_peer (connect_wait_is_over s now) _ p
tick_names s last put now id (awaiting_accept i) p = no_peer (connect_wait_is_over s now) _ p
tick_names s last put now id connected p = by (is_idle s last now) (is_heartbeat_due s last now && not put) _ _
  where
    by : (b c : Bool) (x : Closing) (o : ArrayVec ℕ) → dialled_peer (cond b (Close x) (cond c (Put o) Nothing)) p ≡ p
    by true c x o = refl
    by false true x o = refl
    by false false x o = refl
tick_names s last put now id (disconnecting f) p = no_peer (disconnect_wait_is_over s f now) _ p

served_names : (id : ℕ) (body : Body) (p : Option Identity) → dialled_peer (connected_step id body) p ≡ p
served_names id HeartbeatRequest p = refl
served_names id DisconnectRequest p = refl
served_names id HeartbeatAck p = refl
served_names id body p = refl

answered : (E : List InitEvent) (now id : ℕ) (msg : Message) (b : Bool) (o : Option Identity) (code : Option ℕ) → accepts_by id (Came now (Pass msg)) ≡ cond b o None
    → AcceptStands (awaiting_accept id) E
    → who_accepted (E ++ Came now (Pass msg) ∷ []) ≡ dialled_peer (cond b (answer_step o code) Nothing) (who_accepted E)
answered E now id msg true (Some who) code a h = accepted-at E (Came now (Pass msg)) id h.0 h.1 ∙ a
answered E now id msg true None (Some code) a h = accepted-at E (Came now (Pass msg)) id h.0 h.1 ∙ a ∙ sym (accepted-before E id h.0 h.1)
answered E now id msg true None None a h = accepted-at E (Came now (Pass msg)) id h.0 h.1 ∙ a ∙ sym (accepted-before E id h.0 h.1)
answered E now id msg false o code a h = accepted-at E (Came now (Pass msg)) id h.0 h.1 ∙ a ∙ sym (accepted-before E id h.0 h.1)

message_names : (g : Standing) (put : Bool) (E : List InitEvent) (now : ℕ) (v : Verdict) → may_tell_dialled (open_stage g put) (Came now v) ≡ true → AcceptStands g E
    → who_accepted (E ++ Came now v ∷ []) ≡ dialled_peer (message_step g v) (who_accepted E)
message_names awaiting_websocket put E now v m h = absurd (false≢true m)
message_names (awaiting_accept id) put E now (Pass msg) m h = answered E now id msg (msg.id == id) (who_accepts msg.body) (refusing_code msg.body) refl h
message_names (awaiting_accept id) put E now (Carry envelope) m h = accepted-kept E (Came now (Carry envelope)) refl (λ i. refl)
message_names (awaiting_accept id) put E now (Silent check) m h = accepted-kept E (Came now (Silent check)) refl (λ i. refl)
message_names (awaiting_accept id) put E now (Nak check octets) m h = accepted-kept E (Came now (Nak check octets)) refl (λ i. refl)
message_names connected put E now (Pass msg) m h = accepted-stays E (Came now (Pass msg)) h ∙ sym (served_names msg.id msg.body (who_accepted E))
message_names connected put E now (Carry envelope) m h = accepted-stays E (Came now (Carry envelope)) h
message_names connected put E now (Silent check) m h = accepted-stays E (Came now (Silent check)) h
message_names connected put E now (Nak check octets) m h = accepted-stays E (Came now (Nak check octets)) h
message_names (disconnecting f) put E now (Pass msg) m h = accepted-stays E (Came now (Pass msg)) h ∙ sym (no_peer (AM.is_farewell_answer f.id msg) AS.normal (who_accepted E))
message_names (disconnecting f) put E now (Carry envelope) m h = accepted-stays E (Came now (Carry envelope)) h
message_names (disconnecting f) put E now (Silent check) m h = accepted-stays E (Came now (Silent check)) h
message_names (disconnecting f) put E now (Nak check octets) m h = accepted-stays E (Came now (Nak check octets)) h

opened_names : (g : Standing) (put : Bool) (E : List InitEvent) (now id : ℕ) → may_tell_dialled (open_stage g put) (Opened now id) ≡ true → AcceptStands g E
    → who_accepted (E ++ Opened now id ∷ []) ≡ who_accepted E
opened_names awaiting_websocket put E now id m h =
    accepted-more E (Opened now id) ∙ ap (λ o. accepted_by E (Opened now id) (option_or o (Some id))) h.0 ∙ ap (λ o. option_or o None) (h.1 id) ∙ sym (unasked-before E h.0)
opened_names (awaiting_accept i) put E now id m h = absurd (false≢true m)
opened_names connected put E now id m h = absurd (false≢true m)
opened_names (disconnecting f) put E now id m h = absurd (false≢true m)

-- Who accepted, with one thing more that the machine was told.
pub accepted-goes-on : (s : Start) (E : List InitEvent) (e : InitEvent) (put : Bool) → may_tell_dialled (open_stage (standing E) put) e ≡ true → AcceptStands (standing E) E
    → who_accepted (E ++ e ∷ []) ≡ dialled_peer (step s E e) (who_accepted E)
accepted-goes-on s E (Opened now id) put m h = opened_names (standing E) put E now id m h
accepted-goes-on s E (Came now v) put m h = message_names (standing E) put E now v m h
accepted-goes-on s E (Finish now id) put m h = accepted-kept E (Finish now id) refl (λ i. refl) ∙ sym (finish_names (standing E) id (who_accepted E))
accepted-goes-on s E (Tick now id) put m h = accepted-kept E (Tick now id) refl (λ i. refl) ∙ sym (tick_names s (last_message s E) (heartbeat_was_put s E) now id (standing E) (who_accepted E))

-- ---- a link that was taken

-- Who asked stays so.
asked-stays : (E : List Event) (e : Event) → is_some (who_asked E) ≡ true → who_asked (E ++ e ∷ []) ≡ who_asked E
asked-stays E e h = first-more asks_by E e ∙ or_some (who_asked E) (asks_by e) h

still-asked : (E : List Event) (e : Event) → is_some (who_asked E) ≡ true → is_some (who_asked (E ++ e ∷ [])) ≡ true
still-asked E e h = ap is_some (asked-stays E e h) ∙ h

asked-first : (E : List Event) (e : Event) → who_asked E ≡ None → who_asked (E ++ e ∷ []) ≡ asks_by e
asked-first E e h = first-more asks_by E e ∙ ap (λ o. option_or o (asks_by e)) h

asking : (E : List Event) (now id : ℕ) (msg : Message) (o : Option Identity) → asks_by (Heard now (Pass msg)) ≡ o → who_asked E ≡ None
    → AskStands A.awaiting_request (option_map (λ (who : Identity). id) o) (E ++ Heard now (Pass msg) ∷ [])
asking E now id msg (Some who) a h = ap is_some (asked-first E (Heard now (Pass msg)) h ∙ a)
asking E now id msg None a h = asked-first E (Heard now (Pass msg)) h ∙ a

asked-by : (E : List Event) (now : ℕ) (v : Verdict) → who_asked E ≡ None → AskStands A.awaiting_request (A.asked_at (Heard now v)) (E ++ Heard now v ∷ [])
asked-by E now (Pass msg) h = asking E now msg.id msg (who_asks msg.body) refl h
asked-by E now (Carry envelope) h = asked-first E (Heard now (Carry envelope)) h
asked-by E now (Silent check) h = asked-first E (Heard now (Silent check)) h
asked-by E now (Nak check octets) h = asked-first E (Heard now (Nak check octets)) h

ask-by : (s : Start) (g : A.Standing) (q : Option ℕ) (E : List Event) (e : Event) → may_tell_taken (AN.open_stage g q) e ≡ true → AS.closes (AS.step s E e) ≡ false → AskStands g q E
    → AskStands (AK.moved g e) (A.asked_at e) (E ++ e ∷ [])
ask-by s A.awaiting_request None E (Heard now v) m c h = asked-by E now v h
ask-by s A.awaiting_request None E Joined m c h = absurd (false≢true m)
ask-by s A.awaiting_request None E (IsRefused refusal) m c h = absurd (false≢true m)
ask-by s A.awaiting_request None E (Ended now ending) m c h = absurd (false≢true m)
ask-by s A.awaiting_request None E (AskedToFinish now id) m c h = asked-first E (AskedToFinish now id) h
ask-by s A.awaiting_request None E (Ticked now) m c h = asked-first E (Ticked now) h
ask-by s A.awaiting_request (Some q) E (Heard now v) m c h = absurd (false≢true m)
ask-by s A.awaiting_request (Some q) E Joined m c h = still-asked E Joined h
ask-by s A.awaiting_request (Some q) E (IsRefused refusal) m c h = absurd (false≢true (sym c ∙ refusing (AS.asked_id E) refusal))
ask-by s A.awaiting_request (Some q) E (Ended now ending) m c h = absurd (false≢true m)
ask-by s A.awaiting_request (Some q) E (AskedToFinish now id) m c h = absurd (false≢true m)
ask-by s A.awaiting_request (Some q) E (Ticked now) m c h = absurd (false≢true m)
ask-by s A.connected q E (Heard now v) m c h = still-asked E (Heard now v) h
ask-by s A.connected q E Joined m c h = absurd (false≢true m)
ask-by s A.connected q E (IsRefused refusal) m c h = absurd (false≢true m)
ask-by s A.connected q E (Ended now ending) m c h = absurd (false≢true m)
ask-by s A.connected q E (AskedToFinish now id) m c h = still-asked E (AskedToFinish now id) h
ask-by s A.connected q E (Ticked now) m c h = still-asked E (Ticked now) h
ask-by s (A.disconnecting f) q E e m c h = still-asked E e h

-- Whether the peer has asked, with one thing more that the machine was told and by which it doesn't close.
pub ask-goes-on : (s : Start) (E : List Event) (e : Event) → may_tell_taken (AN.open_stage (A.standing E) (A.question E)) e ≡ true → AS.closes (AS.step s E e) ≡ false
    → AskStands (A.standing E) (A.question E) E
    → AskStands (A.standing (E ++ e ∷ [])) (A.question (E ++ e ∷ [])) (E ++ e ∷ [])
ask-goes-on s E e m c h =
    subst (λ (g : A.Standing). AskStands g (A.question (E ++ e ∷ [])) (E ++ e ∷ [])) (sym (AL.standing-more E e))
    (subst (λ (q : Option ℕ). AskStands (AK.moved (A.standing E) e) q (E ++ e ∷ [])) (sym (AL.question-more E e)) (ask-by s (A.standing E) (A.question E) E e m c h))

no_asker : (b : Bool) (c : Closing) (p : Option Identity) → taken_peer (cond b (StepClose c) StepNothing) p ≡ p
no_asker true c p = refl
no_asker false c p = refl

served_asks : (id : ℕ) (body : Body) (p : Option Identity) → taken_peer (AS.connected_step id body) p ≡ p
served_asks id HeartbeatRequest p = refl
served_asks id DisconnectRequest p = refl
served_asks id body p = refl

refused_asks : (id : ℕ) (refusal : Refusal) (p : Option Identity) → taken_peer (AS.refused_step id refusal) p ≡ p
refused_asks id (Duplicate holder) p = refl
refused_asks id (TableFull rows) p = refl
refused_asks id Stopped p = refl

finish_asks : (g : A.Standing) (id : ℕ) (p : Option Identity) → taken_peer (AS.finish_step g id) p ≡ p
finish_asks A.awaiting_request id p = refl
finish_asks A.connected id p = refl
finish_asks (A.disconnecting f) id p = refl

tick_asks : (s : Start) (last now : ℕ) (g : A.Standing) (p : Option Identity) → taken_peer (AS.tick_step s last now g) p ≡ p
tick_asks s last now A.awaiting_request p = no_asker (connect_wait_is_over s now) _ p
tick_asks s last now A.connected p = no_asker (is_idle s last now) _ p
tick_asks s last now (A.disconnecting f) p = no_asker (disconnect_wait_is_over s f now) _ p

asks-first : (E : List Event) (now : ℕ) (msg : Message) (o : Option Identity) → asks_by (Heard now (Pass msg)) ≡ o → who_asked E ≡ None
    → who_asked (E ++ Heard now (Pass msg) ∷ []) ≡ taken_peer (AS.ask_step o) (who_asked E)
asks-first E now msg (Some who) a h = asked-first E (Heard now (Pass msg)) h ∙ a
asks-first E now msg None a h = asked-first E (Heard now (Pass msg)) h ∙ a ∙ sym h

message_asks : (g : A.Standing) (q : Option ℕ) (E : List Event) (now : ℕ) (v : Verdict) → may_tell_taken (AN.open_stage g q) (Heard now v) ≡ true → AskStands g q E
    → who_asked (E ++ Heard now v ∷ []) ≡ taken_peer (AS.message_step g v) (who_asked E)
message_asks A.awaiting_request None E now (Pass msg) m h = asks-first E now msg (who_asks msg.body) refl h
message_asks A.awaiting_request None E now (Carry envelope) m h = asked-kept E (Heard now (Carry envelope)) refl
message_asks A.awaiting_request None E now (Silent check) m h = asked-kept E (Heard now (Silent check)) refl
message_asks A.awaiting_request None E now (Nak check octets) m h = asked-kept E (Heard now (Nak check octets)) refl
message_asks A.awaiting_request (Some q) E now v m h = absurd (false≢true m)
message_asks A.connected q E now (Pass msg) m h = asked-stays E (Heard now (Pass msg)) h ∙ sym (served_asks msg.id msg.body (who_asked E))
message_asks A.connected q E now (Carry envelope) m h = asked-kept E (Heard now (Carry envelope)) refl
message_asks A.connected q E now (Silent check) m h = asked-kept E (Heard now (Silent check)) refl
message_asks A.connected q E now (Nak check octets) m h = asked-kept E (Heard now (Nak check octets)) refl
message_asks (A.disconnecting f) q E now (Pass msg) m h = asked-stays E (Heard now (Pass msg)) h ∙ sym (no_asker (AM.is_farewell_answer f.id msg) AS.normal (who_asked E))
message_asks (A.disconnecting f) q E now (Carry envelope) m h = asked-kept E (Heard now (Carry envelope)) refl
message_asks (A.disconnecting f) q E now (Silent check) m h = asked-kept E (Heard now (Silent check)) refl
message_asks (A.disconnecting f) q E now (Nak check octets) m h = asked-kept E (Heard now (Nak check octets)) refl

ended_never : (g : A.Standing) (q : Option ℕ) (now : ℕ) (ending : _) → may_tell_taken (AN.open_stage g q) (Ended now ending) ≡ false
ended_never A.awaiting_request None now ending = refl
ended_never A.awaiting_request (Some q) now ending = refl
ended_never A.connected q now ending = refl
ended_never (A.disconnecting f) q now ending = refl

-- Who asked, with one thing more that the machine was told.
pub asked-goes-on : (s : Start) (E : List Event) (e : Event) → may_tell_taken (AN.open_stage (A.standing E) (A.question E)) e ≡ true → AskStands (A.standing E) (A.question E) E
    → who_asked (E ++ e ∷ []) ≡ taken_peer (AS.step s E e) (who_asked E)
asked-goes-on s E (Heard now v) m h = message_asks (A.standing E) (A.question E) E now v m h
asked-goes-on s E Joined m h = asked-kept E Joined refl
asked-goes-on s E (IsRefused refusal) m h = asked-kept E (IsRefused refusal) refl ∙ sym (refused_asks (AS.asked_id E) refusal (who_asked E))
asked-goes-on s E (Ended now ending) m h = absurd (false≢true (sym (ended_never (A.standing E) (A.question E) now ending) ∙ m))
asked-goes-on s E (AskedToFinish now id) m h = asked-kept E (AskedToFinish now id) refl ∙ sym (finish_asks (A.standing E) id (who_asked E))
asked-goes-on s E (Ticked now) m h = asked-kept E (Ticked now) refl ∙ sym (tick_asks s (A.last_message s E) now (A.standing E) (who_asked E))
