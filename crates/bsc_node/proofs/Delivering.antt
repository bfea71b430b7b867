-- A node delivers at most the one message that came.
-- It serves the clauses of `delivers_what_came`.
use Rattle.std.proofs.Common.{◌≡◌, ℕ, Bool, true, false, not, cond, inl, inr, List, [], ◌∷◌, ◌++◌, Option, Some, None, refl, ap, sym, ◌∙◌}
use Rattle.std.specs.Prelude.{◌⊎◌, ◌==◌, IsTrue, filter, filter_map}
use Rattle.std.specs.List.{list_all}
use Rattle.std.proofs.lemmas.List.{append-nil}
use Rattle.bsc_octets.specs.declared.vmac.Vmac.{Vmac}
use Rattle.bsc_octets.specs.declared.identity.Identity.{Identity}
use Rattle.bsc_frame.specs.declared.message.Message.{Message}
use Rattle.bsc_frame.specs.declared.body.Body.{Body}
use Rattle.bsc_frame.specs.declared.body.Body.TheVariants.{Npdu, DisconnectRequest, HeartbeatRequest, HeartbeatAck}
use Rattle.bsc_checks.specs.declared.verdict.Verdict.{Verdict}
use Rattle.bsc_checks.specs.declared.verdict.Verdict.TheVariants.{Pass, Carry, Silent, Nak}
use Rattle.bsc_accept.specs.declared.step.Step.{Step}
use Rattle.bsc_accept.specs.declared.event.Event.{Event}
use Rattle.bsc_accept.specs.declared.event.Event.TheVariants.{Message as AcceptMessage}
use Rattle.bsc_accept.specs.Messages.{who_asks, is_farewell_answer}
use Rattle.bsc_accept.specs.Past as Accepting
use Rattle.bsc_accept.specs.Steps as AcceptingSteps
use Rattle.bsc_accept.specs.Steps.{closing, normal}
use Rattle.bsc_initiate.specs.declared.event.InitEvent.{InitEvent}
use Rattle.bsc_initiate.specs.declared.event.InitEvent.TheVariants.{Message as InitMessage}
use Rattle.bsc_initiate.specs.declared.step.InitStep.{InitStep}
use Rattle.bsc_initiate.specs.declared.step.InitStep.TheVariants.{Nothing, Close as InitClose}
use Rattle.bsc_accept.specs.declared.step.Step.TheVariants.{Close as StepClose, Nothing as StepNothing}
use Rattle.bsc_initiate.specs.Messages.{who_accepts, refusing_code}
use Rattle.bsc_initiate.specs.Past.{Standing, awaiting_websocket, awaiting_accept, connected, disconnecting, standing}
use Rattle.bsc_initiate.specs.Steps.{answer_step, connected_step, passed_step, message_step}
use Rattle.bsc_node.specs.declared.link_name.LinkName.{LinkName}
use Rattle.bsc_node.specs.declared.node_event.NodeEvent.{NodeEvent}
use Rattle.bsc_node.specs.declared.node_event.NodeEvent.TheVariants.{Opened, Came, Send}
use Rattle.bsc_node.specs.declared.timed_event.TimedEvent.{TimedEvent}
use Rattle.bsc_node.specs.declared.note.Note.TheVariants.{NoPath, TooLong}
use Rattle.bsc_node.specs.declared.action.Action.{Action}
use Rattle.bsc_node.specs.declared.action.Action.TheVariants.{Put, Close, Deliver}
use Rattle.bsc_node.specs.Logs.{Made, Line, did, Log, Rule, nothing, either, with_some, does, tells, now, action_of}
use Rattle.bsc_node.specs.Links.{was_taken, initiating_events, accepting_events, by_machine, hears, verdict, Outcome, puts, puts_and_closes, closes, meets, is_refused, passes_up}
use Rattle.bsc_node.specs.Links.{keeps_still, initiating_outcome, accepting_outcome, outcome}
use Rattle.bsc_node.specs.Ways.{way}
use Rattle.bsc_node.specs.Ending.{ends, closes_link, carries_out_by}
use Rattle.bsc_node.specs.Receiving.{sender, delivers, takes_body}
use Rattle.bsc_node.specs.Requesting.{puts_own, other_end_takes, sends}
use Rattle.bsc_node.specs.Events.{obeys_by, obeys, follows}
use Rattle.bsc_node.specs.Conditions.{may_come}
use Rattle.bsc_node.specs.Laws.{with_event, with_heard, delivers_npdu, delivered_at, IsDeliveredOnce, DeliversWhatCame}
use Rattle.bsc_node.proofs.Order.{in_order-brought}
use Rattle.bsc_node.proofs.Passing.{Passes, pass-in_order, pass-either, pass-nothing, pass-found}
use Rattle.bsc_node.proofs.Told.{outcome-initiating, outcome-accepting}
use Rattle.bsc_node.proofs.Quiet.{is_quiet_action, Quiet, quiet-ends, quiet-closes_link}
use Rattle.bsc_node.proofs.Heard.{LetsQuiet, lets-rule, pass-meets_peer, pass-is_refused_by, quiet-takes_body}
use Rattle.bsc_node.proofs.Following.{is_came, pass-follows, opened-dialled, goes_on-is}
use Rattle.bsc_lemmas.proofs.Booleans.{and_left, and_right, not_true}

-- ---- what a machine hands up is what came

up_if : (e : InitEvent) (msg : Message) (v : Verdict) (b : Bool) (x y : InitStep) → (initiating_outcome e x ≡ passes_up msg → v ≡ Pass msg) → (initiating_outcome e y ≡ passes_up msg → v ≡ Pass msg)
    → initiating_outcome e (cond b x y) ≡ passes_up msg → v ≡ Pass msg
up_if e msg v true x y f g h = f h
up_if e msg v false x y f g h = g h

up_answer : (e : InitEvent) (msg : Message) (v : Verdict) (who : Option Identity) (code : Option ℕ) → initiating_outcome e (answer_step who code) ≡ passes_up msg → v ≡ Pass msg
up_answer e msg v (Some who) code h = cc
up_answer e msg v None (Some code) h = cc
up_answer e msg v None None h = cc

same_up : (m msg : Message) → passes_up m ≡ passes_up msg → Pass m ≡ Pass msg
same_up m msg h = cc

up_connected : (now : ℕ) (m msg : Message) (id : ℕ) (body : Body) → initiating_outcome (InitMessage now (Pass m)) (connected_step id body) ≡ passes_up msg → Pass m ≡ Pass msg
up_connected now m msg id HeartbeatRequest h = cc
up_connected now m msg id DisconnectRequest h = cc
up_connected now m msg id HeartbeatAck h = cc
up_connected now m msg id body h = same_up m msg h

up_passed : (now : ℕ) (m msg : Message) (g : Standing) → initiating_outcome (InitMessage now (Pass m)) (passed_step g m) ≡ passes_up msg → Pass m ≡ Pass msg
up_passed now m msg awaiting_websocket h = cc
up_passed now m msg (awaiting_accept id) h =
    up_if (InitMessage now (Pass m)) msg (Pass m) (m.id == id) (answer_step (who_accepts m.body) (refusing_code m.body)) Nothing
    (up_answer (InitMessage now (Pass m)) msg (Pass m) (who_accepts m.body) (refusing_code m.body)) (λ n. cc) h
up_passed now m msg connected h = up_connected now m msg m.id m.body h
up_passed now m msg (disconnecting f) h = up_if (InitMessage now (Pass m)) msg (Pass m) (is_farewell_answer f.id m) (InitClose normal) Nothing (λ n. cc) (λ n. cc) h

up_heard : (now : ℕ) (v : Verdict) (msg : Message) (g : Standing) → initiating_outcome (InitMessage now v) (message_step g v) ≡ passes_up msg → v ≡ Pass msg
up_heard now (Pass m) msg g h = up_passed now m msg g h
up_heard now (Carry envelope) msg g h = cc
up_heard now (Silent check) msg g h = cc
up_heard now (Nak check octets) msg g h = cc

up_if_taken : (g : Accepting.Standing) (e : Event) (msg : Message) (v : Verdict) (b : Bool) (x y : Step) → (accepting_outcome g e x ≡ passes_up msg → v ≡ Pass msg)
    → (accepting_outcome g e y ≡ passes_up msg → v ≡ Pass msg)
    → accepting_outcome g e (cond b x y) ≡ passes_up msg → v ≡ Pass msg
up_if_taken g e msg v true x y p q h = p h
up_if_taken g e msg v false x y p q h = q h

up_asked : (e : Event) (msg : Message) (v : Verdict) (who : Option Identity) → accepting_outcome Accepting.awaiting_request e (AcceptingSteps.ask_step who) ≡ passes_up msg → v ≡ Pass msg
up_asked e msg v (Some who) h = cc
up_asked e msg v None h = cc

up_taken_connected : (now : ℕ) (m msg : Message) (id : ℕ) (body : Body)
    → accepting_outcome Accepting.connected (AcceptMessage now (Pass m)) (AcceptingSteps.connected_step id body) ≡ passes_up msg → Pass m ≡ Pass msg
up_taken_connected now m msg id HeartbeatRequest h = cc
up_taken_connected now m msg id DisconnectRequest h = cc
up_taken_connected now m msg id body h = same_up m msg h

up_taken_passed : (now : ℕ) (m msg : Message) (g : Accepting.Standing) → accepting_outcome g (AcceptMessage now (Pass m)) (AcceptingSteps.passed_step g m) ≡ passes_up msg → Pass m ≡ Pass msg
up_taken_passed now m msg Accepting.awaiting_request h = up_asked (AcceptMessage now (Pass m)) msg (Pass m) (who_asks m.body) h
up_taken_passed now m msg Accepting.connected h = up_taken_connected now m msg m.id m.body h
up_taken_passed now m msg (Accepting.disconnecting f) h = up_if_taken (Accepting.disconnecting f) (AcceptMessage now (Pass m)) msg (Pass m) (is_farewell_answer f.id m)
    (StepClose normal) StepNothing (λ n. cc) (λ n. cc) h

up_taken_heard : (now : ℕ) (v : Verdict) (msg : Message) (g : Accepting.Standing) → accepting_outcome g (AcceptMessage now v) (AcceptingSteps.message_step g v) ≡ passes_up msg → v ≡ Pass msg
up_taken_heard now (Pass m) msg g h = up_taken_passed now m msg g h
up_taken_heard now (Carry envelope) msg g h = cc
up_taken_heard now (Silent check) msg Accepting.awaiting_request h = cc
up_taken_heard now (Silent check) msg Accepting.connected h = cc
up_taken_heard now (Silent check) msg (Accepting.disconnecting f) h = cc
up_taken_heard now (Nak check octets) msg g h = cc

-- A message that is for the node is the one that came, and it passed.
pub up-came : (a : Made) (name : LinkName) (o : List ℕ) (M : Log) (msg : Message) → outcome a (M ++ hears a name o M) name ≡ passes_up msg → verdict a M name o ≡ Pass msg
up-came a name o M msg h = by (was_taken name M) refl
  where
    by : (b : Bool) → was_taken name M ≡ b → verdict a M name o ≡ Pass msg
    by false t =
        up_heard (now M) (verdict a M name o) msg (standing (initiating_events M name))
        (sym (ap (λ (b : Bool). outcome a (M ++ by_machine (λ n. InitMessage (now M) (verdict a M n o)) (λ n. AcceptMessage (now M) (verdict a M n o)) name b) name) t
        ∙ outcome-initiating a M name (InitMessage (now M) (verdict a M name o)) t) ∙ h)
    by true t =
        up_taken_heard (now M) (verdict a M name o) msg (Accepting.standing (accepting_events M name))
        (sym (ap (λ (b : Bool). outcome a (M ++ by_machine (λ n. InitMessage (now M) (verdict a M n o)) (λ n. AcceptMessage (now M) (verdict a M n o)) name b) name) t
        ∙ outcome-accepting a M name (AcceptMessage (now M) (verdict a M name o)) t) ∙ h)

-- ---- lines that deliver nothing

abbrev pub delivers_none : Line → Bool
delivers_none (did action) = not (delivers_npdu action)
delivers_none m = true

quiet_delivers_none_by : (action : Action) → is_quiet_action action ≡ true → not (delivers_npdu action) ≡ true
quiet_delivers_none_by (Deliver delivered) h = h
quiet_delivers_none_by action h = refl

quiet_delivers_none : LetsQuiet delivers_none
quiet_delivers_none (did action) h = quiet_delivers_none_by action h
quiet_delivers_none m h = refl

none-quiet : (rule : Rule) → Quiet rule → Passes delivers_none rule
none-quiet rule q = lets-rule delivers_none quiet_delivers_none rule q

none-sends : (v : Vmac) (npdu : List ℕ) → Passes delivers_none (sends v npdu)
none-sends v npdu =
    pass-found delivers_none (way v) (λ w. either (other_end_takes w npdu) (puts_own w (Npdu npdu)) (tells (TooLong v))) (tells (NoPath v))
    (λ w. pass-either delivers_none (other_end_takes w npdu) (puts_own w (Npdu npdu)) (tells (TooLong v)) (λ L. refl) (λ L. refl)) (λ L. refl)

none-follows : (a : Made) (M : Log) (ev : NodeEvent) → is_came ev ≡ false → ((name : LinkName) → ev ≡ Opened name → was_taken name M ≡ false) → list_all delivers_none (follows a ev M) ≡ true
none-follows a M (Came name octets) s o = cc
none-follows a M (Send dest npdu) s o = none-sends dest npdu M
none-follows a M ev s o = pass-follows delivers_none quiet_delivers_none a M ev refl refl (record { dialled = o; next = λ name k is named uri. refl; dial = λ k free uri. refl; take = λ k free. refl })

-- what lines deliver
abbrev pub delivered_by : List Line → List Action
delivered_by lines = filter delivers_npdu (filter_map action_of lines)

none_delivered_by : (m : Line) (lines : List Line) → delivers_none m ≡ true → delivered_by lines ≡ [] → delivered_by (m ∷ lines) ≡ []
none_delivered_by (did action) lines h rest = ap (λ (b : Bool). cond b (action ∷ delivered_by lines) (delivered_by lines)) (not_true (delivers_npdu action) h) ∙ rest
none_delivered_by m lines h rest = rest

none_delivered : (lines : List Line) → list_all delivers_none lines ≡ true → delivered_by lines ≡ []
none_delivered [] h = refl
none_delivered (m ∷ lines) h = none_delivered_by m lines (and_left (delivers_none m) (list_all delivers_none lines) h)
    (none_delivered lines (and_right (delivers_none m) (list_all delivers_none lines) h))

not_came : (a : Made) (L : Log) (e : TimedEvent) → IsTrue (may_come L e) → is_came e.event ≡ false → delivered_at a L e ≡ []
not_came a L e h s =
    ap delivered_by (goes_on-is a L e) ∙ none_delivered (follows a e.event (with_event L e)) (none-follows a (with_event L e) e.event s (λ name is. opened-dialled L e name is h))

-- ---- a message that came

abbrev is_up : Outcome → Bool
is_up (passes_up msg) = true
is_up o = false

none-obeys_by : (a : Made) (name : LinkName) (o : Outcome) → is_up o ≡ false → Passes delivers_none (obeys_by a name o)
none-obeys_by a name (puts o) h = λ L. refl
none-obeys_by a name (puts_and_closes o closing) h =
    pass-in_order delivers_none (carries_out_by name (puts_and_closes o closing) ∷ ends a name ∷ [])
    (pass-in_order delivers_none (does (Put name o) ∷ does (Close name closing) ∷ []) ((λ L. refl), ((λ L. refl), tt)), (none-quiet (ends a name) (quiet-ends a name), tt))
none-obeys_by a name (closes closing) h = none-quiet (closes_link a name closing) (quiet-closes_link a name closing)
none-obeys_by a name (meets who) h = pass-meets_peer delivers_none quiet_delivers_none (λ k w. refl) a name who
none-obeys_by a name (is_refused origin code) h = pass-is_refused_by delivers_none quiet_delivers_none refl a name origin code
none-obeys_by a name (passes_up msg) h = cc
none-obeys_by a name keeps_still h = pass-nothing delivers_none

by_sender : (a : Made) (L : Log) (e : TimedEvent) (name : LinkName) (o : List ℕ) (msg : Message) (npdu : List ℕ) → e.event ≡ Came name o → verdict a (with_event L e) name o ≡ Pass msg
    → msg.body ≡ Npdu npdu
    → (v : Option Vmac) → sender name msg (with_heard a L e name o) ≡ v → delivered_at a L e ≡ delivered_by (with_some v (delivers msg npdu) nothing (with_heard a L e name o))
    → (delivered_at a L e ≡ []) ⊎ IsDeliveredOnce a L e
by_sender a L e name o msg npdu is passed body None s h = inl h
by_sender a L e name o msg npdu is passed body (Some v) s h = inr (name, o, msg, npdu, v, is, passed, body, s, h)

by_body : (a : Made) (L : Log) (e : TimedEvent) (name : LinkName) (o : List ℕ) (msg : Message) → e.event ≡ Came name o → verdict a (with_event L e) name o ≡ Pass msg
    → (body : Body) → msg.body ≡ body → delivered_at a L e ≡ delivered_by (takes_body a name msg body (with_heard a L e name o)) → (delivered_at a L e ≡ []) ⊎ IsDeliveredOnce a L e
by_body a L e name o msg is passed (Npdu npdu) b h = by_sender a L e name o msg npdu is passed b (sender name msg (with_heard a L e name o)) refl h
by_body a L e name o msg is passed body b h =
    inl (h ∙ none_delivered (takes_body a name msg body (with_heard a L e name o)) (none-quiet (takes_body a name msg body) (quiet-takes_body a name msg body refl) (with_heard a L e name o)))

by_outcome : (a : Made) (L : Log) (e : TimedEvent) (name : LinkName) (o : List ℕ) → e.event ≡ Came name o
    → ((msg : Message) → outcome a (with_heard a L e name o) name ≡ passes_up msg → verdict a (with_event L e) name o ≡ Pass msg)
    → (u : Outcome) → outcome a (with_heard a L e name o) name ≡ u → delivered_at a L e ≡ delivered_by (obeys_by a name u (with_heard a L e name o)) → (delivered_at a L e ≡ []) ⊎ IsDeliveredOnce a L e
by_outcome a L e name o is up (passes_up msg) u h = by_body a L e name o msg is (up msg u) msg.body refl h
by_outcome a L e name o is up other u h = inl (h ∙ none_delivered (obeys_by a name other (with_heard a L e name o)) (none-obeys_by a name other refl (with_heard a L e name o)))

-- what the machine is told delivers nothing
machine_delivers : (b : Bool) (dialled : LinkName → InitEvent) (taken : LinkName → Event) (name : LinkName) (lines : List Line)
    → delivered_by (by_machine dialled taken name b ++ lines) ≡ delivered_by lines
machine_delivers true dialled taken name lines = refl
machine_delivers false dialled taken name lines = refl

came_delivers : (a : Made) (M : Log) (name : LinkName) (o : List ℕ) → delivered_by (follows a (Came name o) M) ≡ delivered_by (obeys a name (M ++ hears a name o M))
came_delivers a M name o =
    ap delivered_by (in_order-brought (hears a name o ∷ obeys a name ∷ []) M)
    ∙ machine_delivers (was_taken name M) (λ n. InitMessage (now M) (verdict a M n o)) (λ n. AcceptMessage (now M) (verdict a M n o)) name (obeys a name (M ++ hears a name o M) ++ [])
    ∙ ap delivered_by (append-nil (obeys a name (M ++ hears a name o M)))

is_came_by : (a : Made) (L : Log) (e : TimedEvent) (name : LinkName) (o : List ℕ) → e.event ≡ Came name o → (delivered_at a L e ≡ []) ⊎ IsDeliveredOnce a L e
is_came_by a L e name o is =
    by_outcome a L e name o is (up-came a name o (with_event L e)) (outcome a (with_heard a L e name o) name) refl
    (ap delivered_by (goes_on-is a L e) ∙ ap (λ (ev : NodeEvent). delivered_by (follows a ev (with_event L e))) is ∙ came_delivers a (with_event L e) name o)

-- ---- all events

by_event : (a : Made) (L : Log) (e : TimedEvent) → IsTrue (may_come L e) → (ev : NodeEvent) → e.event ≡ ev → (delivered_at a L e ≡ []) ⊎ IsDeliveredOnce a L e
by_event a L e h (Came name o) is = is_came_by a L e name o is
by_event a L e h ev is = inl (not_came a L e h (ap is_came is))

pub delivers_what_came : (a : Made) → DeliversWhatCame a
delivers_what_came a L e h = by_event a L e h e.event refl
