-- Rules by whose lines nothing is dialled, no word is drawn, and the connector is told nothing.
-- It serves the clauses of `failures_are_all_heard`.
use Rattle.std.proofs.Common.{◌≡◌, ℕ, Bool, true, false, not, ◌&&◌, List, [], ◌∷◌, Option, Some, None, refl}
use Rattle.std.specs.Prelude.{◌==◌, filter_map}
use Rattle.std.specs.List.{list_all, list_any}
use Rattle.bsc_octets.specs.declared.vmac.Vmac.{Vmac}
use Rattle.bsc_octets.specs.declared.identity.Identity.{Identity}
use Rattle.bsc_frame.specs.declared.message.Message.{Message}
use Rattle.bsc_frame.specs.declared.body.Body.{Body}
use Rattle.bsc_frame.specs.declared.body.Body.TheVariants.{BvlcResult, Npdu, AddressResolution, AddressResolutionAck, Advertisement, AdvertisementSolicitation}
use Rattle.bsc_frame.specs.declared.answer.Answer.{Answer}
use Rattle.bsc_frame.specs.declared.answer.Answer.TheVariants.{Ack, Nak}
use Rattle.bsc_connector.specs.declared.side.Side.TheVariants.{Failover}
use Rattle.bsc_resolve.specs.declared.call.ResolveCall.TheVariants.{Answered, Ask, Refused as RefusedCall}
use Rattle.bsc_resolve.specs.declared.ask_refusal.AskRefusal.{AskRefusal}
use Rattle.bsc_resolve.specs.declared.ask_refusal.AskRefusal.TheVariants.{Full, Pending, NoMemory}
use Rattle.bsc_accept.specs.declared.event.Event.{Event}
use Rattle.bsc_accept.specs.declared.event.Event.TheVariants.{Message as AcceptMessage, Tick as AcceptTick, Finish as AcceptFinish}
use Rattle.bsc_initiate.specs.declared.event.InitEvent.{InitEvent}
use Rattle.bsc_initiate.specs.declared.event.InitEvent.TheVariants.{Message as InitMessage, Tick as InitTick, Finish as InitFinish}
use Rattle.bsc_accept.specs.declared.reason.Reason.TheVariants.{TableFull}
use Rattle.bsc_accept.specs.Steps.{closing}
use Rattle.bsc_direct.specs.declared.call.SlotCall.TheVariants.{Claim, Release}
use Rattle.bsc_node.specs.declared.link_name.LinkName.{LinkName}
use Rattle.bsc_node.specs.declared.link_name.LinkName.TheVariants.{Hub, Direct}
use Rattle.bsc_node.specs.declared.note.Note.TheVariants.{HubNow, DirectDown, NoPath, TooLong, Uris, Advert as ToldAdvert, Nak as ToldNak, Finished}
use Rattle.bsc_node.specs.declared.action.Action.{Action}
use Rattle.bsc_node.specs.declared.action.Action.TheVariants.{Dial, Take, Refuse, Put, Close, Draw}
use Rattle.bsc_node.specs.Messages.{nak, not_supported_code}
use Rattle.bsc_node.specs.Logs.{Made, Line, connector, did, Rule, nothing, in_order, either, where_found, with_some, does, tells, now, next_id, is_finishing, action_of}
use Rattle.bsc_node.specs.Laws.{draws}
use Rattle.bsc_node.specs.Links.{is_there, none_there, was_taken, verdict, by_machine, hears, ticks, finishes, Outcome, puts, puts_and_closes}
use Rattle.bsc_node.specs.Links.{closes, meets, is_refused, passes_up, keeps_still, outcome}
use Rattle.bsc_node.specs.Hubs.{hub_use, hub_use_before, hub_events, newest_step, same_use}
use Rattle.bsc_node.specs.Ways.{Way, way, awaits, ask_refusal, free_slot, established_peer, slots_see, resolution_sees}
use Rattle.bsc_node.specs.Ending.{carries_out_by, carries_out, finishes_machine, tells_use, drops_failover, ends_slot, tells_finished}
use Rattle.bsc_node.specs.Receiving.{sender, is_for_all, answers, answers_by, learns, drops_question, takes_answer, of_sender, takes_body, delivers}
use Rattle.bsc_node.specs.Requesting.{puts_own, by_path, asks_unless, sends, resolves, solicits, other_end_takes}
use Rattle.bsc_node.specs.Events.{arrives}
use Rattle.bsc_node.proofs.Passing.{Passes, pass-in_order, pass-either, pass-nothing, pass-when, pass-found, pass-if, pass-some}

abbrev is_plain_action : Action → Bool
is_plain_action (Dial name uri) = false
is_plain_action Draw = false
is_plain_action action = true

abbrev pub is_plain : Line → Bool
is_plain (connector e) = false
is_plain (did action) = is_plain_action action
is_plain m = true

-- Whatever the log, the rule goes on by such lines.
abbrev pub Plain : Rule → Type 0
Plain rule = Passes is_plain rule

-- ---- what such lines say

abbrev pub dial_in : Action → Option LinkName
dial_in (Dial name uri) = Some name
dial_in action = None

-- Under which names lines dial.
abbrev pub dialled_in : List Line → List LinkName
dialled_in lines = filter_map dial_in (filter_map action_of lines)

pub plain-dials : (lines : List Line) → list_all is_plain lines ≡ true → dialled_in lines ≡ []
plain-dials [] h = refl
plain-dials (did (Dial name uri) ∷ lines) h = cc
plain-dials (did Draw ∷ lines) h = cc
plain-dials (did action ∷ lines) h = plain-dials lines h
plain-dials (connector e ∷ lines) h = cc
plain-dials (m ∷ lines) h = plain-dials lines h

pub plain-tells : (lines : List Line) → list_all is_plain lines ≡ true → hub_events lines ≡ []
plain-tells [] h = refl
plain-tells (did (Dial name uri) ∷ lines) h = cc
plain-tells (did Draw ∷ lines) h = cc
plain-tells (did action ∷ lines) h = plain-tells lines h
plain-tells (connector e ∷ lines) h = cc
plain-tells (m ∷ lines) h = plain-tells lines h

pub plain-draws : (lines : List Line) → list_all is_plain lines ≡ true → list_any draws (filter_map action_of lines) ≡ false
plain-draws [] h = refl
plain-draws (did (Dial name uri) ∷ lines) h = cc
plain-draws (did Draw ∷ lines) h = cc
plain-draws (did action ∷ lines) h = plain-draws lines h
plain-draws (connector e ∷ lines) h = cc
plain-draws (m ∷ lines) h = plain-draws lines h

-- ---- machines

pub plain-machine : (dialled : LinkName → InitEvent) (taken : LinkName → Event) (name : LinkName) (b : Bool) → list_all is_plain (by_machine dialled taken name b) ≡ true
plain-machine dialled taken name true = refl
plain-machine dialled taken name false = refl

pub plain-hears : (a : Made) (name : LinkName) (o : List ℕ) → Plain (hears a name o)
plain-hears a name o L = plain-machine (λ n. InitMessage (now L) (verdict a L n o)) (λ n. AcceptMessage (now L) (verdict a L n o)) name (was_taken name L)

pub plain-ticks : (name : LinkName) → Plain (ticks name)
plain-ticks name L = plain-machine (λ n. InitTick (now L) (next_id L)) (λ n. AcceptTick (now L)) name (was_taken name L)

pub plain-finishes : (name : LinkName) → Plain (finishes name)
plain-finishes name L = plain-machine (λ n. InitFinish (now L) (next_id L)) (λ n. AcceptFinish (now L) (next_id L)) name (was_taken name L)

pub plain-carries : (name : LinkName) (o : Outcome) → Plain (carries_out_by name o)
plain-carries name (puts o) L = refl
plain-carries name (puts_and_closes o closing) L = pass-in_order is_plain (does (Put name o) ∷ does (Close name closing) ∷ []) ((λ M. refl), ((λ M. refl), tt)) L
plain-carries name (closes closing) L = refl
plain-carries name (meets who) L = refl
plain-carries name (is_refused origin code) L = refl
plain-carries name (passes_up msg) L = refl
plain-carries name keeps_still L = refl

pub plain-carries_out : (a : Made) (name : LinkName) → Plain (carries_out a name)
plain-carries_out a name L = plain-carries name (outcome a L name) L

pub plain-finishes_machine : (a : Made) (name : LinkName) → Plain (finishes_machine a name)
plain-finishes_machine a name =
    pass-when is_plain (is_there name) (in_order (finishes name ∷ carries_out a name ∷ []))
    (pass-in_order is_plain (finishes name ∷ carries_out a name ∷ []) (plain-finishes name, (plain-carries_out a name, tt)))

-- ---- hubs and slots

pub plain-tells_use : Plain tells_use
plain-tells_use L = pass-when is_plain (λ M. not (same_use (hub_use_before M) (hub_use M))) (tells (HubNow (hub_use L))) (λ M. refl) L

pub plain-drops_failover : (a : Made) → Plain (drops_failover a)
plain-drops_failover a = pass-when is_plain (λ L. (newest_step a L).drop_failover) (finishes_machine a (Hub Failover)) (plain-finishes_machine a (Hub Failover))

pub plain-ends_slot : (k : ℕ) → Plain (ends_slot k)
plain-ends_slot k =
    pass-in_order is_plain (where_found (established_peer k) (λ (who : Identity). tells (DirectDown who.vmac)) nothing ∷ slots_see (Release k) ∷ [])
    (pass-found is_plain (established_peer k) (λ (who : Identity). tells (DirectDown who.vmac)) nothing (λ who L. refl) (pass-nothing is_plain), ((λ L. refl), tt))

pub plain-tells_finished : Plain tells_finished
plain-tells_finished = pass-when is_plain (λ L. is_finishing L && none_there L) (tells Finished) (λ L. refl)

pub plain-arrives : Plain arrives
plain-arrives =
    pass-found is_plain free_slot (λ k. in_order (slots_see (Claim k None) ∷ does (Take (Direct k)) ∷ [])) (does (Refuse (closing 1008 TableFull)))
    (λ k. pass-in_order is_plain (slots_see (Claim k None) ∷ does (Take (Direct k)) ∷ []) ((λ L. refl), ((λ L. refl), tt))) (λ L. refl)

-- ---- a message for the node

plain_answers_by : (name : LinkName) (msg : Message) (o : Option (List ℕ)) → Plain (answers_by name msg o)
plain_answers_by name msg (Some uris) = λ L. refl
plain_answers_by name msg None = pass-when is_plain (λ L. not (is_for_all msg)) (answers name msg msg.id (nak 0x02 not_supported_code)) (λ L. refl)

plain_of_sender : (name : LinkName) (msg : Message) (rule : Vmac → Rule) → ((v : Vmac) → Plain (rule v)) → Plain (of_sender name msg rule)
plain_of_sender name msg rule q L = pass-some is_plain (sender name msg L) rule nothing q (pass-nothing is_plain) L

plain_learns : (a : Made) (msg : Message) (uris : List ℕ) (v : Vmac) → Plain (learns a msg uris v)
plain_learns a msg uris v =
    pass-when is_plain (awaits a msg.id v) (in_order (resolution_sees (Answered msg.id v uris) ∷ tells (Uris v uris) ∷ []))
    (pass-in_order is_plain (resolution_sees (Answered msg.id v uris) ∷ tells (Uris v uris) ∷ []) ((λ L. refl), ((λ L. refl), tt)))

plain_drops_question : (a : Made) (function id : ℕ) (v : Vmac) → Plain (drops_question a function id v)
plain_drops_question a function id v L = pass-if is_plain ((function == 0x02) && awaits a id v L) (resolution_sees (RefusedCall id v)) nothing (λ M. refl) (pass-nothing is_plain) L

plain_takes_answer : (a : Made) (name : LinkName) (msg : Message) (answer : Answer) → Plain (takes_answer a name msg answer)
plain_takes_answer a name msg (Ack function) L = refl
plain_takes_answer a name msg (Nak function marker class code details) L =
    pass-in_order is_plain (tells (ToldNak (sender name msg L) function code) ∷ with_some (sender name msg L) (drops_question a function msg.id) nothing ∷ [])
    ((λ M. refl), ((λ M. pass-some is_plain (sender name msg L) (drops_question a function msg.id) nothing (plain_drops_question a function msg.id) (pass-nothing is_plain) M), tt)) L

pub plain-takes_body : (a : Made) (name : LinkName) (msg : Message) (body : Body) → Plain (takes_body a name msg body)
plain-takes_body a name msg (Npdu npdu) = plain_of_sender name msg (delivers msg npdu) (λ v L. refl)
plain-takes_body a name msg AddressResolution = plain_answers_by name msg a.limits.uris
plain-takes_body a name msg (AddressResolutionAck uris) = plain_of_sender name msg (learns a msg uris) (plain_learns a msg uris)
plain-takes_body a name msg (Advertisement ad) = plain_of_sender name msg (λ v. tells (ToldAdvert v ad)) (λ v L. refl)
plain-takes_body a name msg AdvertisementSolicitation = λ L. refl
plain-takes_body a name msg (BvlcResult answer) = plain_takes_answer a name msg answer
plain-takes_body a name msg body = pass-nothing is_plain

-- ---- what the user wants

plain_by_path : (v : Vmac) (rule : Way → Rule) → ((w : Way) → Plain (rule w)) → Plain (by_path v rule)
plain_by_path v rule q = pass-found is_plain (way v) rule (tells (NoPath v)) q (λ L. refl)

pub plain-sends : (v : Vmac) (npdu : List ℕ) → Plain (sends v npdu)
plain-sends v npdu =
    plain_by_path v (λ w. either (other_end_takes w npdu) (puts_own w (Npdu npdu)) (tells (TooLong v)))
    (λ w. pass-either is_plain (other_end_takes w npdu) (puts_own w (Npdu npdu)) (tells (TooLong v)) (λ L. refl) (λ L. refl))

plain_asks_unless : (w : Way) (v : Vmac) (o : Option AskRefusal) → Plain (asks_unless w v o)
plain_asks_unless w v None L = pass-in_order is_plain (puts_own w AddressResolution ∷ resolution_sees (Ask (now L) (next_id L) v) ∷ []) ((λ M. refl), ((λ M. refl), tt)) L
plain_asks_unless w v (Some (Full held)) L = refl
plain_asks_unless w v (Some (Pending id)) L = refl
plain_asks_unless w v (Some NoMemory) L = refl

pub plain-resolves : (a : Made) (v : Vmac) → Plain (resolves a v)
plain-resolves a v = plain_by_path v (λ w L. asks_unless w v (ask_refusal a v L) L) (λ w L. plain_asks_unless w v (ask_refusal a v L) L)

pub plain-solicits : (v : Vmac) → Plain (solicits v)
plain-solicits v = plain_by_path v (λ w. puts_own w AdvertisementSolicitation) (λ w L. refl)
