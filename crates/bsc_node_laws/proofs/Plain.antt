-- Plain lines, which fit wherever they stand: no link begins by them, no slot is released, the connector isn't told of the
-- primary hub's end, and the end of the node isn't told. Which rules go on by plain lines alone.
-- It serves the clauses of `links_begin_anew`.
use Rattle.std.proofs.Common.{◌≡◌, ℕ, Bool, true, false, not, ◌&&◌, List, [], ◌∷◌, ◌++◌, Option, Some, None, refl}
use Rattle.std.specs.Prelude.{◌==◌}
use Rattle.std.specs.List.{list_all}
use Rattle.bsc_octets.specs.declared.vmac.Vmac.{Vmac}
use Rattle.bsc_connector.specs.declared.side.Side.TheVariants.{Primary, Failover}
use Rattle.bsc_connector.specs.declared.event.ConnectorEvent.{ConnectorEvent}
use Rattle.bsc_connector.specs.declared.event.ConnectorEvent.TheVariants.{Start, Failed, Lost}
use Rattle.bsc_direct.specs.declared.call.SlotCall.{SlotCall}
use Rattle.bsc_direct.specs.declared.call.SlotCall.TheVariants.{Release}
use Rattle.bsc_frame.specs.declared.message.Message.{Message}
use Rattle.bsc_frame.specs.declared.body.Body.{Body}
use Rattle.bsc_frame.specs.declared.body.Body.TheVariants.{BvlcResult, Npdu, AddressResolution, AddressResolutionAck, Advertisement, AdvertisementSolicitation}
use Rattle.bsc_frame.specs.declared.answer.Answer.{Answer}
use Rattle.bsc_frame.specs.declared.answer.Answer.TheVariants.{Ack, Nak}
use Rattle.bsc_resolve.specs.declared.call.ResolveCall.TheVariants.{Answered, Ask, Refused as RefusedCall}
use Rattle.bsc_resolve.specs.declared.ask_refusal.AskRefusal.{AskRefusal}
use Rattle.bsc_resolve.specs.declared.ask_refusal.AskRefusal.TheVariants.{Full, Pending, NoMemory}
use Rattle.bsc_accept.specs.declared.event.Event.{Event}
use Rattle.bsc_accept.specs.declared.event.Event.TheVariants.{Message as AcceptMessage, Tick as AcceptTick, Finish as AcceptFinish}
use Rattle.bsc_initiate.specs.declared.event.InitEvent.{InitEvent}
use Rattle.bsc_initiate.specs.declared.event.InitEvent.TheVariants.{Opened as MachineOpened, Message as InitMessage, Tick as InitTick, Finish as InitFinish}
use Rattle.bsc_node.specs.declared.link_name.LinkName.{LinkName}
use Rattle.bsc_node.specs.declared.link_name.LinkName.TheVariants.{Hub}
use Rattle.bsc_node.specs.declared.note.Note.TheVariants.{HubNow, NoPath, TooLong, Uris, Advert as ToldAdvert, Nak as ToldNak, Finished}
use Rattle.bsc_node.specs.declared.action.Action.{Action}
use Rattle.bsc_node.specs.declared.action.Action.TheVariants.{Dial, Take, Put, Close, Tell}
use Rattle.bsc_node.specs.Messages.{nak, not_supported_code}
use Rattle.bsc_node.specs.Logs.{Made, Line, came, initiating, connector, slot, did, Log, Rule, nothing, in_order, either, with_some, does, tells, now, next_id}
use Rattle.bsc_node.specs.Links.{is_there, was_taken, verdict, by_machine, hears, ticks, finishes, Outcome, puts, puts_and_closes, closes, meets, is_refused, passes_up, keeps_still, outcome}
use Rattle.bsc_node.specs.Hubs.{hub_use, hub_use_before, newest_step, same_use}
use Rattle.bsc_node.specs.Ways.{Way, way, awaits, ask_refusal, resolution_sees}
use Rattle.bsc_node.specs.Ending.{carries_out_by, carries_out, finishes_machine, tells_use, drops_failover}
use Rattle.bsc_node.specs.Receiving.{sender, is_for_all, answers, answers_by, learns, drops_question, takes_answer, of_sender, takes_body, delivers}
use Rattle.bsc_node.specs.Requesting.{puts_own, by_path, asks_unless, sends, resolves, solicits, other_end_takes}
use Rattle.bsc_node.proofs.Passing.{Passes, pass-in_order, pass-either, pass-nothing, pass-when, pass-found, pass-if, pass-some}
use Rattle.bsc_node_laws.proofs.Tied.{FitsHub, Fits, EachFits}
use Rattle.bsc_lemmas.proofs.Booleans.{and_left, and_right}

abbrev is_plain_hub : ConnectorEvent → Bool
is_plain_hub Start = false
is_plain_hub (Failed Primary) = false
is_plain_hub (Lost Primary) = false
is_plain_hub e = true

abbrev is_plain_told : InitEvent → Bool
is_plain_told (MachineOpened now id) = false
is_plain_told e = true

abbrev is_plain_call : SlotCall → Bool
is_plain_call (Release k) = false
is_plain_call call = true

abbrev is_plain_action : Action → Bool
is_plain_action (Dial name uri) = false
is_plain_action (Take name) = false
is_plain_action (Tell Finished) = false
is_plain_action action = true

abbrev pub is_plain : Line → Bool
is_plain (came e) = false
is_plain (initiating name e) = is_plain_told e
is_plain (connector e) = is_plain_hub e.event
is_plain (slot call) = is_plain_call call
is_plain (did action) = is_plain_action action
is_plain m = true

-- Whatever the log, the rule goes on by plain lines.
abbrev pub Plain : Rule → Type 0
Plain rule = Passes is_plain rule

-- ---- plain lines fit

hub_fits : (L : Log) (e : ConnectorEvent) → is_plain_hub e ≡ true → FitsHub L e
hub_fits L Start h = cc
hub_fits L (Failed Primary) h = cc
hub_fits L (Lost Primary) h = cc
hub_fits L e h = tt

told_fits : (a : Made) (L : Log) (name : LinkName) (e : InitEvent) → is_plain_told e ≡ true → Fits a L (initiating name e)
told_fits a L name (MachineOpened now id) h = cc
told_fits a L name e h = tt

call_fits : (a : Made) (L : Log) (call : SlotCall) → is_plain_call call ≡ true → Fits a L (slot call)
call_fits a L (Release k) h = cc
call_fits a L call h = tt

action_fits : (a : Made) (L : Log) (action : Action) → is_plain_action action ≡ true → Fits a L (did action)
action_fits a L (Dial name uri) h = cc
action_fits a L (Take name) h = cc
action_fits a L (Tell Finished) h = cc
action_fits a L action h = tt

line_fits : (a : Made) (L : Log) (m : Line) → is_plain m ≡ true → Fits a L m
line_fits a L (came e) h = cc
line_fits a L (initiating name e) h = told_fits a L name e h
line_fits a L (connector e) h = hub_fits L e.event h
line_fits a L (slot call) h = call_fits a L call h
line_fits a L (did action) h = action_fits a L action h
line_fits a L m h = tt

-- Plain lines fit behind every log.
pub plain-fits : (a : Made) (L : Log) (lines : List Line) → list_all is_plain lines ≡ true → EachFits a L lines
plain-fits a L [] h = tt
plain-fits a L (m ∷ lines) h =
    (line_fits a L m (and_left (is_plain m) (list_all is_plain lines) h), plain-fits a (L ++ m ∷ []) lines (and_right (is_plain m) (list_all is_plain lines) h))

-- ---- machines

plain_machine : (dialled : LinkName → InitEvent) (taken : LinkName → Event) (name : LinkName) → is_plain_told (dialled name) ≡ true
    → (b : Bool) → list_all is_plain (by_machine dialled taken name b) ≡ true
plain_machine dialled taken name h true = refl
plain_machine dialled taken name h false = rw h refl

pub plain-hears : (a : Made) (name : LinkName) (o : List ℕ) → Plain (hears a name o)
plain-hears a name o L = plain_machine (λ n. InitMessage (now L) (verdict a L n o)) (λ n. AcceptMessage (now L) (verdict a L n o)) name refl (was_taken name L)

pub plain-ticks : (name : LinkName) → Plain (ticks name)
plain-ticks name L = plain_machine (λ n. InitTick (now L) (next_id L)) (λ n. AcceptTick (now L)) name refl (was_taken name L)

plain_finishes : (name : LinkName) → Plain (finishes name)
plain_finishes name L = plain_machine (λ n. InitFinish (now L) (next_id L)) (λ n. AcceptFinish (now L) (next_id L)) name refl (was_taken name L)

pub plain-carries_by : (name : LinkName) (o : Outcome) → Plain (carries_out_by name o)
plain-carries_by name (puts o) = λ L. refl
plain-carries_by name (puts_and_closes o closing) = pass-in_order is_plain (does (Put name o) ∷ does (Close name closing) ∷ []) ((λ L. refl), ((λ L. refl), tt))
plain-carries_by name (closes closing) = λ L. refl
plain-carries_by name (meets who) = λ L. refl
plain-carries_by name (is_refused origin code) = λ L. refl
plain-carries_by name (passes_up msg) = λ L. refl
plain-carries_by name keeps_still = λ L. refl

pub plain-carries : (a : Made) (name : LinkName) → Plain (carries_out a name)
plain-carries a name L = plain-carries_by name (outcome a L name) L

pub plain-finishes_machine : (a : Made) (name : LinkName) → Plain (finishes_machine a name)
plain-finishes_machine a name =
    pass-when is_plain (is_there name) (in_order (finishes name ∷ carries_out a name ∷ []))
    (pass-in_order is_plain (finishes name ∷ carries_out a name ∷ []) (plain_finishes name, (plain-carries a name, tt)))

-- ---- hubs

pub plain-tells_use : Plain tells_use
plain-tells_use L = pass-when is_plain (λ M. not (same_use (hub_use_before M) (hub_use M))) (tells (HubNow (hub_use L))) (λ M. refl) L

pub plain-drops_failover : (a : Made) → Plain (drops_failover a)
plain-drops_failover a = pass-when is_plain (λ L. (newest_step a L).drop_failover) (finishes_machine a (Hub Failover)) (plain-finishes_machine a (Hub Failover))

-- ---- a message for the node

plain_of_sender : (name : LinkName) (msg : Message) (rule : Vmac → Rule) → ((v : Vmac) → Plain (rule v)) → Plain (of_sender name msg rule)
plain_of_sender name msg rule q L = pass-some is_plain (sender name msg L) rule nothing q (pass-nothing is_plain) L

plain_answers_by : (name : LinkName) (msg : Message) (o : Option (List ℕ)) → Plain (answers_by name msg o)
plain_answers_by name msg (Some uris) = λ L. refl
plain_answers_by name msg None = pass-when is_plain (λ L. not (is_for_all msg)) (answers name msg msg.id (nak 0x02 not_supported_code)) (λ L. refl)

plain_learns : (a : Made) (msg : Message) (uris : List ℕ) (v : Vmac) → Plain (learns a msg uris v)
plain_learns a msg uris v =
    pass-when is_plain (awaits a msg.id v) (in_order (resolution_sees (Answered msg.id v uris) ∷ tells (Uris v uris) ∷ []))
    (pass-in_order is_plain (resolution_sees (Answered msg.id v uris) ∷ tells (Uris v uris) ∷ []) ((λ L. refl), ((λ L. refl), tt)))

plain_drops_question : (a : Made) (function id : ℕ) (v : Vmac) → Plain (drops_question a function id v)
plain_drops_question a function id v L = pass-if is_plain ((function == 0x02) && awaits a id v L) (resolution_sees (RefusedCall id v)) nothing (λ M. refl) (pass-nothing is_plain) L

plain_takes_answer : (a : Made) (name : LinkName) (msg : Message) (answer : Answer) → Plain (takes_answer a name msg answer)
plain_takes_answer a name msg (Ack function) L = refl
plain_takes_answer a name msg (Nak function marker class code details) L =
    pass-in_order is_plain (tells (ToldNak (sender name msg L) function code) ∷ with_some (sender name msg L) (drops_question a function msg.id) nothing ∷ [])
    ((λ M. refl), ((λ M. pass-some is_plain (sender name msg L) (drops_question a function msg.id) nothing (plain_drops_question a function msg.id) (pass-nothing is_plain) M), tt)) L

pub plain-takes_body : (a : Made) (name : LinkName) (msg : Message) (body : Body) → Plain (takes_body a name msg body)
plain-takes_body a name msg (Npdu npdu) = plain_of_sender name msg (delivers msg npdu) (λ v L. refl)
plain-takes_body a name msg AddressResolution = plain_answers_by name msg a.limits.uris
plain-takes_body a name msg (AddressResolutionAck uris) = plain_of_sender name msg (learns a msg uris) (plain_learns a msg uris)
plain-takes_body a name msg (Advertisement ad) = plain_of_sender name msg (λ v. tells (ToldAdvert v ad)) (λ v L. refl)
plain-takes_body a name msg AdvertisementSolicitation = λ L. refl
plain-takes_body a name msg (BvlcResult answer) = plain_takes_answer a name msg answer
plain-takes_body a name msg body = pass-nothing is_plain

-- ---- what the user wants

plain_by_path : (v : Vmac) (rule : Way → Rule) → ((w : Way) → Plain (rule w)) → Plain (by_path v rule)
plain_by_path v rule q = pass-found is_plain (way v) rule (tells (NoPath v)) q (λ L. refl)

pub plain-sends : (v : Vmac) (npdu : List ℕ) → Plain (sends v npdu)
plain-sends v npdu =
    plain_by_path v (λ w. either (other_end_takes w npdu) (puts_own w (Npdu npdu)) (tells (TooLong v)))
    (λ w. pass-either is_plain (other_end_takes w npdu) (puts_own w (Npdu npdu)) (tells (TooLong v)) (λ L. refl) (λ L. refl))

plain_asks_unless : (w : Way) (v : Vmac) (o : Option AskRefusal) → Plain (asks_unless w v o)
plain_asks_unless w v None L = pass-in_order is_plain (puts_own w AddressResolution ∷ resolution_sees (Ask (now L) (next_id L) v) ∷ []) ((λ M. refl), ((λ M. refl), tt)) L
plain_asks_unless w v (Some (Full held)) L = refl
plain_asks_unless w v (Some (Pending id)) L = refl
plain_asks_unless w v (Some NoMemory) L = refl

pub plain-resolves : (a : Made) (v : Vmac) → Plain (resolves a v)
plain-resolves a v = plain_by_path v (λ w L. asks_unless w v (ask_refusal a v L) L) (λ w L. plain_asks_unless w v (ask_refusal a v L) L)

pub plain-solicits : (v : Vmac) → Plain (solicits v)
plain-solicits v = plain_by_path v (λ w. puts_own w AdvertisementSolicitation) (λ w L. refl)
