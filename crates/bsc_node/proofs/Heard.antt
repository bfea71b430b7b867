-- What follows from a message, from what the user wants, and from the other events: which of it is quiet, and which is not.
-- It serves clauses of functions of `laws`.
use Rattle.std.proofs.Common.{◌≡◌, ℕ, Bool, true, false, not, ◌&&◌, List, [], ◌∷◌, ◌++◌, Option, Some, None, refl, ap, ◌∙◌}
use Rattle.std.specs.Prelude.{◌==◌, map}
use Rattle.std.specs.List.{list_all}
use Rattle.std.proofs.lemmas.List.Folds.{list_all-append}
use Rattle.bsc_octets.specs.declared.vmac.Vmac.{Vmac}
use Rattle.bsc_octets.specs.declared.identity.Identity.{Identity}
use Rattle.bsc_frame.specs.declared.message.Message.{Message}
use Rattle.bsc_frame.specs.declared.body.Body.{Body}
use Rattle.bsc_frame.specs.declared.body.Body.TheVariants.{BvlcResult, Npdu, AddressResolution, AddressResolutionAck, Advertisement, AdvertisementSolicitation}
use Rattle.bsc_frame.specs.declared.answer.Answer.{Answer}
use Rattle.bsc_frame.specs.declared.answer.Answer.TheVariants.{Ack, Nak}
use Rattle.bsc_resolve.specs.declared.call.ResolveCall.TheVariants.{Answered, Ask, Refused as RefusedCall}
use Rattle.bsc_resolve.specs.declared.ask_refusal.AskRefusal.{AskRefusal}
use Rattle.bsc_resolve.specs.declared.ask_refusal.AskRefusal.TheVariants.{Full, Pending, NoMemory}
use Rattle.bsc_accept.specs.declared.event.Event.TheVariants.{Joined, Refused as RefusedEvent, Tick as AcceptTick}
use Rattle.bsc_initiate.specs.declared.event.InitEvent.TheVariants.{Tick as InitTick}
use Rattle.bsc_accept.specs.declared.reason.Reason.TheVariants.{TableFull}
use Rattle.bsc_accept.specs.Steps.{closing, normal}
use Rattle.bsc_history.specs.declared.reply.Refusal.TheVariants.{Duplicate as DuplicateRefusal}
use Rattle.bsc_connector.specs.declared.event.ConnectorEvent.TheVariants.{Connected as ConnectorConnected, Tick as ConnectorTick}
use Rattle.bsc_direct.specs.declared.call.SlotCall.TheVariants.{Claim, Up}
use Rattle.bsc_direct.specs.declared.establish.Establish.{Establish}
use Rattle.bsc_direct.specs.declared.establish.Establish.TheVariants.{Up as IsUp, Duplicate, WrongPeer}
use Rattle.bsc_node.specs.Messages.{nak, not_supported_code}
use Rattle.bsc_node.specs.declared.link_name.LinkName.{LinkName}
use Rattle.bsc_node.specs.declared.link_name.LinkName.TheVariants.{Hub, Direct}
use Rattle.bsc_node.specs.declared.note.Note.TheVariants.{Uris, Advert as ToldAdvert, Nak as ToldNak, DirectUp, NoPath, NoDirect, NoUris, SlotsFull}
use Rattle.bsc_node.specs.declared.action.Action.TheVariants.{Dial, Close, Draw, Take, Refuse}
use Rattle.bsc_node.specs.Logs.{Made, Line, did, slot, accepting, Log, Rule, nothing, in_order, either, if_so, with_some, where_found, does, tells, now, next_id}
use Rattle.bsc_node.specs.Links.{names, is_there, was_taken, start, accepting_events, by_machine, ticks, Outcome, puts, puts_and_closes, closes, meets, is_refused, passes_up, keeps_still, outcome}
use Rattle.bsc_node.specs.Hubs.{is_under_way}
use Rattle.bsc_node.specs.Ways.{Way, way, wanted, next_uri, free_slot, established, learnt, uris_to_dial, awaits_peer, establish, awaits, ask_refusal, slots_see, resolution_sees}
use Rattle.bsc_node.specs.Ending.{carries_out, carries_out_by, tells_connector, tells_finished, ends, closes_link, finishes_link}
use Rattle.bsc_node.specs.Meeting.{joins, refuses, finishes_replaced, comes_up, meets_dialled, meets_taken, meets_slot, meets_direct, meets_peer, wrong_peer, tells_refusal, may_draw, is_refused_by}
use Rattle.bsc_node.specs.Receiving.{sender, is_for_all, answers, answers_by, learns, drops_question, takes_answer, of_sender, takes_body}
use Rattle.bsc_node.specs.Requesting.{puts_own, by_path, asks_unless, resolves, solicits, dials_first, directs}
use Rattle.bsc_node.specs.Events.{obeys_by, obeys, dial_fails, arrives, ticks_link, ticks_resolution, time_passes, is_to_end}
use Rattle.bsc_node.proofs.Order.{brought, in_order-brought}
use Rattle.bsc_node.proofs.Passing.{Passes, PassEach, pass-brought, pass-in_order, pass-either, pass-nothing, pass-when, pass-found, pass-if, pass-some, pass-mapped, pass-each-append, pass-weaker}
use Rattle.bsc_node.proofs.Told.{outcome-accepting}
use Rattle.bsc_node.proofs.Calm.{is_calm, calm-joined, calm-duplicate}
use Rattle.bsc_node.proofs.Quiet.{is_quiet, Quiet, quiet-two, quiet-machine, quiet-carries, calm-ticked, quiet-tells_connector, quiet-tells_finished, quiet-ends, quiet-closes_link}
use Rattle.bsc_node.proofs.Quiet.{quiet-finishes_link}
use Rattle.std.proofs.lemmas.Bool.{and_from as both}

-- ---- tests that quiet lines pass

-- What is quiet passes the test.
abbrev pub LetsQuiet : (Line → Bool) → Type 0
LetsQuiet test = (m : Line) → is_quiet m ≡ true → test m ≡ true

pub lets-rule : (test : Line → Bool) → LetsQuiet test → (rule : Rule) → Quiet rule → Passes test rule
lets-rule test lets rule q L = pass-weaker is_quiet test lets (rule L) (q L)

-- two rules, each where the one before has left the log, and then others
pub pass-two-then : (test : Line → Bool) (first second : Rule) (rest : List Rule) (L : Log) → list_all test (first L) ≡ true → list_all test (second (L ++ first L)) ≡ true → PassEach test rest
    → list_all test (in_order (first ∷ second ∷ rest) L) ≡ true
pass-two-then test first second rest L p q r =
    ap (list_all test) (in_order-brought (first ∷ second ∷ rest) L)
    ∙ list_all-append test (first L) (brought (second ∷ rest) (L ++ first L))
    ∙ both (list_all test (first L)) (list_all test (brought (second ∷ rest) (L ++ first L))) p
    (list_all-append test (second (L ++ first L)) (brought rest ((L ++ first L) ++ second (L ++ first L)))
    ∙ both (list_all test (second (L ++ first L))) (list_all test (brought rest ((L ++ first L) ++ second (L ++ first L)))) q (pass-brought test rest r ((L ++ first L) ++ second (L ++ first L))))

-- ---- a peer has named itself: all is quiet but that a slot comes up

pass-finishes_replaced : (test : Line → Bool) → LetsQuiet test → (a : Made) (replaced : Option ℕ) → Passes test (finishes_replaced a replaced)
pass-finishes_replaced test lets a None = pass-nothing test
pass-finishes_replaced test lets a (Some k) = lets-rule test lets (finishes_link a (Direct k)) (quiet-finishes_link a (Direct k))

-- what follows where a slot came up
pub pass-after_up : (test : Line → Bool) → LetsQuiet test → (a : Made) (who : Identity) (replaced : Option ℕ) → PassEach test (tells (DirectUp who.vmac) ∷ finishes_replaced a replaced ∷ [])
pass-after_up test lets a who replaced = (lets-rule test lets (tells (DirectUp who.vmac)) (λ L. refl), (pass-finishes_replaced test lets a replaced, tt))

pass-comes_up : (test : Line → Bool) → LetsQuiet test → (a : Made) (k : ℕ) (who : Identity) (replaced : Option ℕ) → test (slot (Up k who)) ≡ true → Passes test (comes_up a k who replaced)
pass-comes_up test lets a k who replaced up =
    pass-in_order test (slots_see (Up k who) ∷ tells (DirectUp who.vmac) ∷ finishes_replaced a replaced ∷ [])
    ((λ L. both (test (slot (Up k who))) true up refl), pass-after_up test lets a who replaced)

pass-meets_dialled : (test : Line → Bool) → LetsQuiet test → (a : Made) (k : ℕ) (who : Identity) (e : Establish) → test (slot (Up k who)) ≡ true → Passes test (meets_dialled a k who e)
pass-meets_dialled test lets a k who (IsUp replaced) up = pass-comes_up test lets a k who replaced up
pass-meets_dialled test lets a k who (Duplicate holder) up = lets-rule test lets (closes_link a (Direct k) wrong_peer) (quiet-closes_link a (Direct k) wrong_peer)
pass-meets_dialled test lets a k who (WrongPeer v) up = lets-rule test lets (closes_link a (Direct k) wrong_peer) (quiet-closes_link a (Direct k) wrong_peer)

pass-carries : (test : Line → Bool) → LetsQuiet test → (a : Made) (k : ℕ) (L : Log) → is_calm (outcome a L (Direct k)) ≡ true → list_all test (carries_out a (Direct k) L) ≡ true
pass-carries test lets a k L h = pass-weaker is_quiet test lets (carries_out a (Direct k) L) (quiet-carries (Direct k) (outcome a L (Direct k)) h L)

calm_joins : (a : Made) (k : ℕ) (L : Log) → was_taken (Direct k) L ≡ true → is_calm (outcome a (L ++ accepting (Direct k) Joined ∷ []) (Direct k)) ≡ true
calm_joins a k L h = ap is_calm (outcome-accepting a L (Direct k) Joined h) ∙ calm-joined (start a (L ++ accepting (Direct k) Joined ∷ []) (Direct k)) (accepting_events L (Direct k))

calm_refuses : (a : Made) (k : ℕ) (L : Log) → was_taken (Direct k) L ≡ true → is_calm (outcome a (L ++ accepting (Direct k) (RefusedEvent (DuplicateRefusal None)) ∷ []) (Direct k)) ≡ true
calm_refuses a k L h =
    ap is_calm (outcome-accepting a L (Direct k) (RefusedEvent (DuplicateRefusal None)) h)
    ∙ calm-duplicate (start a (L ++ accepting (Direct k) (RefusedEvent (DuplicateRefusal None)) ∷ []) (Direct k)) (accepting_events L (Direct k))

pub pass-refused : (test : Line → Bool) → LetsQuiet test → (a : Made) (k : ℕ) (L : Log) → was_taken (Direct k) L ≡ true
    → list_all test (in_order (refuses (Direct k) ∷ carries_out a (Direct k) ∷ ends a (Direct k) ∷ []) L) ≡ true
pass-refused test lets a k L h =
    pass-two-then test (refuses (Direct k)) (carries_out a (Direct k)) (ends a (Direct k) ∷ []) L (lets-rule test lets (refuses (Direct k)) (λ M. refl) L)
    (pass-carries test lets a k (L ++ refuses (Direct k) L) (calm_refuses a k L h)) (lets-rule test lets (ends a (Direct k)) (quiet-ends a (Direct k)), tt)

pass-taken : (test : Line → Bool) → LetsQuiet test → (a : Made) (k : ℕ) (who : Identity) (e : Establish) (L : Log) → test (slot (Up k who)) ≡ true → was_taken (Direct k) L ≡ true
    → list_all test (meets_taken a k who e L) ≡ true
pass-taken test lets a k who (IsUp replaced) L up h =
    pass-two-then test (joins (Direct k)) (carries_out a (Direct k)) (comes_up a k who replaced ∷ []) L (lets-rule test lets (joins (Direct k)) (λ M. refl) L)
    (pass-carries test lets a k (L ++ joins (Direct k) L) (calm_joins a k L h)) (pass-comes_up test lets a k who replaced up, tt)
pass-taken test lets a k who (Duplicate holder) L up h = pass-refused test lets a k L h
pass-taken test lets a k who (WrongPeer v) L up h = pass-refused test lets a k L h

-- whatever the slots answer
pub pass-meets : (test : Line → Bool) → LetsQuiet test → (a : Made) (k : ℕ) (who : Identity) (e : Establish) → test (slot (Up k who)) ≡ true
    → Passes test (either (was_taken (Direct k)) (meets_taken a k who e) (meets_dialled a k who e))
pass-meets test lets a k who e up L = by (was_taken (Direct k) L) refl
  where
    by : (b : Bool) → was_taken (Direct k) L ≡ b → list_all test (if_so b (meets_taken a k who e) (meets_dialled a k who e) L) ≡ true
    by true h = pass-taken test lets a k who e L up h
    by false h = pass-meets_dialled test lets a k who e up L

pub pass-meets_direct : (test : Line → Bool) → LetsQuiet test → (a : Made) (k : ℕ) (who : Identity) → test (slot (Up k who)) ≡ true → Passes test (meets_direct a k who)
pass-meets_direct test lets a k who up =
    pass-either test (awaits_peer k) (meets_slot a k who) (closes_link a (Direct k) wrong_peer) (λ L. pass-meets test lets a k who (establish a k who L) up L)
    (lets-rule test lets (closes_link a (Direct k) wrong_peer) (quiet-closes_link a (Direct k) wrong_peer))

pub pass-meets_peer : (test : Line → Bool) → LetsQuiet test → ((k : ℕ) (who : Identity) → test (slot (Up k who)) ≡ true) → (a : Made) (name : LinkName) (who : Identity)
    → Passes test (meets_peer a name who)
pass-meets_peer test lets up a (Hub s) who =
    pass-when test (is_under_way a s) (tells_connector a (ConnectorConnected s)) (lets-rule test lets (tells_connector a (ConnectorConnected s)) (quiet-tells_connector a (ConnectorConnected s)))
pass-meets_peer test lets up a (Direct k) who = pass-meets_direct test lets a k who (up k who)

-- ---- a refusal: all is quiet but that a word is drawn

pub pass-is_refused_by : (test : Line → Bool) → LetsQuiet test → test (did Draw) ≡ true → (a : Made) (name : LinkName) (origin : Option Vmac) (code : ℕ)
    → Passes test (is_refused_by a name origin code)
pass-is_refused_by test lets draw a name origin code =
    pass-in_order test (does (Close name normal) ∷ tells_refusal name origin code ∷ either (may_draw name code) (does Draw) (ends a name) ∷ []) (
      lets-rule test lets (does (Close name normal)) (λ L. refl),
      (
        lets-rule test lets (tells_refusal name origin code) (λ L. refl),
        (pass-either test (may_draw name code) (does Draw) (ends a name) (λ L. both (test (did Draw)) true draw refl) (lets-rule test lets (ends a name) (quiet-ends a name)), tt),
      ),
    )

-- ---- a message for the node: all is quiet but the delivery of an NPDU

quiet-of_sender : (name : LinkName) (msg : Message) (rule : Vmac → Rule) → ((v : Vmac) → Quiet (rule v)) → Quiet (of_sender name msg rule)
quiet-of_sender name msg rule q L = pass-some is_quiet (sender name msg L) rule nothing q (pass-nothing is_quiet) L

quiet-answers_by : (name : LinkName) (msg : Message) (o : Option (List ℕ)) → Quiet (answers_by name msg o)
quiet-answers_by name msg (Some uris) = λ L. refl
quiet-answers_by name msg None = pass-when is_quiet (λ L. not (is_for_all msg)) (answers name msg msg.id (nak 0x02 not_supported_code)) (λ L. refl)

quiet-learns : (a : Made) (msg : Message) (uris : List ℕ) (v : Vmac) → Quiet (learns a msg uris v)
quiet-learns a msg uris v =
    pass-when is_quiet (awaits a msg.id v) (in_order (resolution_sees (Answered msg.id v uris) ∷ tells (Uris v uris) ∷ []))
    (pass-in_order is_quiet (resolution_sees (Answered msg.id v uris) ∷ tells (Uris v uris) ∷ []) ((λ L. refl), ((λ L. refl), tt)))

quiet-drops_question : (a : Made) (function id : ℕ) (v : Vmac) → Quiet (drops_question a function id v)
quiet-drops_question a function id v L = pass-if is_quiet ((function == 0x02) && awaits a id v L) (resolution_sees (RefusedCall id v)) nothing (λ M. refl) (pass-nothing is_quiet) L

quiet-takes_answer : (a : Made) (name : LinkName) (msg : Message) (answer : Answer) → Quiet (takes_answer a name msg answer)
quiet-takes_answer a name msg (Ack function) L = refl
quiet-takes_answer a name msg (Nak function marker class code details) L =
    pass-in_order is_quiet (tells (ToldNak (sender name msg L) function code) ∷ with_some (sender name msg L) (drops_question a function msg.id) nothing ∷ [])
    ((λ M. refl), ((λ M. pass-some is_quiet (sender name msg L) (drops_question a function msg.id) nothing (quiet-drops_question a function msg.id) (pass-nothing is_quiet) M), tt)) L

-- whether a body is an NPDU
abbrev pub is_npdu_body : Body → Bool
is_npdu_body (Npdu npdu) = true
is_npdu_body body = false

pub quiet-takes_body : (a : Made) (name : LinkName) (msg : Message) (body : Body) → is_npdu_body body ≡ false → Quiet (takes_body a name msg body)
quiet-takes_body a name msg (Npdu npdu) h = cc
quiet-takes_body a name msg AddressResolution h = quiet-answers_by name msg a.limits.uris
quiet-takes_body a name msg (AddressResolutionAck uris) h = quiet-of_sender name msg (learns a msg uris) (quiet-learns a msg uris)
quiet-takes_body a name msg (Advertisement ad) h = quiet-of_sender name msg (λ v. tells (ToldAdvert v ad)) (λ v L. refl)
quiet-takes_body a name msg AdvertisementSolicitation h = λ L. refl
quiet-takes_body a name msg (BvlcResult answer) h = quiet-takes_answer a name msg answer
quiet-takes_body a name msg body h = pass-nothing is_quiet

-- ---- what the user wants

pub quiet-by_path : (v : Vmac) (rule : Way → Rule) → ((w : Way) → Quiet (rule w)) → Quiet (by_path v rule)
quiet-by_path v rule q = pass-found is_quiet (way v) rule (tells (NoPath v)) q (λ L. refl)

quiet-asks_unless : (w : Way) (v : Vmac) (o : Option AskRefusal) → Quiet (asks_unless w v o)
quiet-asks_unless w v None L =
    pass-in_order is_quiet (puts_own w AddressResolution ∷ resolution_sees (Ask (now L) (next_id L) v) ∷ []) ((λ M. refl), ((λ M. refl), tt)) L
quiet-asks_unless w v (Some (Full held)) L = refl
quiet-asks_unless w v (Some (Pending id)) L = refl
quiet-asks_unless w v (Some NoMemory) L = refl

pub quiet-resolves : (a : Made) (v : Vmac) → Quiet (resolves a v)
quiet-resolves a v = quiet-by_path v (λ w L. asks_unless w v (ask_refusal a v L) L) (λ w L. quiet-asks_unless w v (ask_refusal a v L) L)

pub quiet-solicits : (v : Vmac) → Quiet (solicits v)
quiet-solicits v = quiet-by_path v (λ w. puts_own w AdvertisementSolicitation) (λ w L. refl)

pass-dials_first : (test : Line → Bool) → LetsQuiet test → (v : Vmac) (k : ℕ) (uris : List (List ℕ)) → ((uri : List ℕ) → test (did (Dial (Direct k) uri)) ≡ true) → Passes test (dials_first v k uris)
pass-dials_first test lets v k [] dial = lets-rule test lets (tells (NoDirect v)) (λ L. refl)
pass-dials_first test lets v k (uri ∷ uris) dial =
    pass-in_order test (slots_see (Claim k (Some v)) ∷ does (Dial (Direct k) uri) ∷ [])
    (lets-rule test lets (slots_see (Claim k (Some v))) (λ L. refl), ((λ L. both (test (did (Dial (Direct k) uri))) true (dial uri) refl), tt))

-- a rule of what is found, where it is known what is found
pass-some-is : {A : Type 0} (test : Line → Bool) (o : Option A) (rule : A → Rule) (other : Rule) (L : Log) → ((x : A) → o ≡ Some x → list_all test (rule x L) ≡ true)
    → list_all test (other L) ≡ true → list_all test (with_some o rule other L) ≡ true
pass-some-is test (Some x) rule other L p q = p x refl
pass-some-is test None rule other L p q = q

-- slots are claimed and dialled that were found free
pub pass-directs : (test : Line → Bool) → LetsQuiet test → (v : Vmac) (L : Log) → ((k : ℕ) → free_slot L ≡ Some k → (uri : List ℕ) → test (did (Dial (Direct k) uri)) ≡ true)
    → list_all test (directs v L) ≡ true
pass-directs test lets v L dial =
    pass-some-is test (established v L) (λ k. nothing) (where_found (learnt v) (λ text. where_found free_slot (λ k M. dials_first v k (uris_to_dial v M) M) (tells SlotsFull)) (tells (NoUris v))) L
    (λ k is. refl)
    (pass-some-is test (learnt v L) (λ text. where_found free_slot (λ k M. dials_first v k (uris_to_dial v M) M) (tells SlotsFull)) (tells (NoUris v)) L
    (λ text is. pass-some-is test (free_slot L) (λ k M. dials_first v k (uris_to_dial v M) M) (tells SlotsFull) L
    (λ k free. pass-dials_first test lets v k (uris_to_dial v L) (dial k free) L) (lets-rule test lets (tells SlotsFull) (λ M. refl) L))
    (lets-rule test lets (tells (NoUris v)) (λ M. refl) L))

-- ---- the other events

pub quiet-obeys_by : (a : Made) (name : LinkName) (o : Outcome) → is_calm o ≡ true → Quiet (obeys_by a name o)
quiet-obeys_by a name (puts o) h = quiet-carries name (puts o) h
quiet-obeys_by a name (puts_and_closes o closing) h = pass-in_order is_quiet (carries_out_by name (puts_and_closes o closing) ∷ ends a name ∷ [])
    (quiet-carries name (puts_and_closes o closing) h, (quiet-ends a name, tt))
quiet-obeys_by a name (closes closing) h = quiet-closes_link a name closing
quiet-obeys_by a name (meets who) h = cc
quiet-obeys_by a name (is_refused origin code) h = cc
quiet-obeys_by a name (passes_up msg) h = cc
quiet-obeys_by a name keeps_still h = pass-nothing is_quiet

pub quiet-obeys : (a : Made) (name : LinkName) (L : Log) → is_calm (outcome a L name) ≡ true → list_all is_quiet (obeys a name L) ≡ true
quiet-obeys a name L h = quiet-obeys_by a name (outcome a L name) h L

pub pass-dial_fails : (test : Line → Bool) → LetsQuiet test → (a : Made) (name : LinkName) → ((k : ℕ) → name ≡ Direct k → (uri : List ℕ) → test (did (Dial (Direct k) uri)) ≡ true)
    → Passes test (dial_fails a name)
pass-dial_fails test lets a (Hub s) dial = lets-rule test lets (ends a (Hub s)) (quiet-ends a (Hub s))
pass-dial_fails test lets a (Direct k) dial =
    pass-found test (next_uri k) (λ uri. does (Dial (Direct k) uri)) (in_order (where_found (wanted k) (λ v. tells (NoDirect v)) nothing ∷ ends a (Direct k) ∷ []))
    (λ uri L. both (test (did (Dial (Direct k) uri))) true (dial k refl uri) refl)
    (pass-in_order test (where_found (wanted k) (λ v. tells (NoDirect v)) nothing ∷ ends a (Direct k) ∷ []) (
      pass-found test (wanted k) (λ v. tells (NoDirect v)) nothing (λ v. lets-rule test lets (tells (NoDirect v)) (λ L. refl)) (pass-nothing test),
      (lets-rule test lets (ends a (Direct k)) (quiet-ends a (Direct k)), tt),
    ))

pass-takes : (test : Line → Bool) → LetsQuiet test → (k : ℕ) → test (did (Take (Direct k))) ≡ true → Passes test (in_order (slots_see (Claim k None) ∷ does (Take (Direct k)) ∷ []))
pass-takes test lets k take =
    pass-in_order test (slots_see (Claim k None) ∷ does (Take (Direct k)) ∷ [])
    (lets-rule test lets (slots_see (Claim k None)) (λ L. refl), ((λ L. both (test (did (Take (Direct k)))) true take refl), tt))

pub pass-arrives : (test : Line → Bool) → LetsQuiet test → (L : Log) → ((k : ℕ) → free_slot L ≡ Some k → test (did (Take (Direct k))) ≡ true) → list_all test (arrives L) ≡ true
pass-arrives test lets L take =
    pass-some-is test (free_slot L) (λ k. in_order (slots_see (Claim k None) ∷ does (Take (Direct k)) ∷ [])) (does (Refuse (closing 1008 TableFull))) L
    (λ k free. pass-takes test lets k (take k free) L) (lets-rule test lets (does (Refuse (closing 1008 TableFull))) (λ M. refl) L)

quiet-ticks_link : (a : Made) (name : LinkName) → Quiet (ticks_link a name)
quiet-ticks_link a name =
    pass-when is_quiet (is_there name) (in_order (ticks name ∷ obeys a name ∷ []))
    (λ L. quiet-two (ticks name) (obeys a name) L (quiet-ticks name L (was_taken name L)) (quiet-obeys a name (L ++ ticks name L) (calm-ticked a name L)))
  where
    quiet-ticks : (name : LinkName) (L : Log) (b : Bool) → list_all is_quiet (by_machine (λ n. InitTick (now L) (next_id L)) (λ n. AcceptTick (now L)) name b) ≡ true
    quiet-ticks name L b = quiet-machine (λ n. InitTick (now L) (next_id L)) (λ n. AcceptTick (now L)) name b

pub quiet-time_passes : (a : Made) → Quiet (time_passes a)
quiet-time_passes a =
    pass-in_order is_quiet (map (ticks_link a) names ++ tells_connector a ConnectorTick ∷ ticks_resolution ∷ [])
    (pass-each-append is_quiet (map (ticks_link a) names) (tells_connector a ConnectorTick ∷ ticks_resolution ∷ []) (pass-mapped is_quiet (ticks_link a) names (quiet-ticks_link a))
    (quiet-tells_connector a ConnectorTick, ((λ L. refl), tt)))

pub quiet-is_to_end : (a : Made) → Quiet (is_to_end a)
quiet-is_to_end a = pass-in_order is_quiet (tells_finished ∷ map (finishes_link a) names) (quiet-tells_finished, pass-mapped is_quiet (finishes_link a) names (quiet-finishes_link a))
