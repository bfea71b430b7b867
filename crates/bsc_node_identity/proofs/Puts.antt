-- What a node puts on a direct link goes over one that is there: the step of a machine of a link that is, the answer to what came over it,
-- or a message on the way of an established slot.
-- It serves the clauses of `direct_puts_are_there`.
use Rattle.std.proofs.Common.{◌≡◌, ℕ, Bool, true, false, not, ◌||◌, List, [], ◌∷◌, ◌++◌, Option, Some, None, refl, ap, sym, ◌∙◌, subst}
use Rattle.std.specs.Prelude.{⊤, IsTrue, map}
use Rattle.bsc_octets.specs.declared.vmac.Vmac.{Vmac}
use Rattle.bsc_octets.specs.declared.identity.Identity.{Identity}
use Rattle.bsc_connector.specs.declared.event.ConnectorEvent.TheVariants.{Start as ConnectorStart, Connected, Tick as ConnectorTick}
use Rattle.bsc_frame.specs.declared.message.Message.{Message}
use Rattle.bsc_frame.specs.declared.body.Body.{Body}
use Rattle.bsc_frame.specs.declared.body.Body.TheVariants.{BvlcResult, Npdu, AddressResolution, AddressResolutionAck, Advertisement, AdvertisementSolicitation}
use Rattle.bsc_resolve.specs.declared.call.ResolveCall.TheVariants.{Ask}
use Rattle.bsc_resolve.specs.declared.ask_refusal.AskRefusal.{AskRefusal}
use Rattle.bsc_resolve.specs.declared.ask_refusal.AskRefusal.TheVariants.{Full, Pending, NoMemory}
use Rattle.bsc_accept.specs.declared.closing.Closing.{Closing}
use Rattle.bsc_accept.specs.declared.reason.Reason.TheVariants.{Nothing}
use Rattle.bsc_accept.specs.declared.event.Event.{Event}
use Rattle.bsc_accept.specs.declared.event.Event.TheVariants.{Message as AcceptMessage, Joined, Tick as AcceptTick, Finish as AcceptFinish}
use Rattle.bsc_accept.specs.Steps.{closing, normal}
use Rattle.bsc_initiate.specs.declared.event.InitEvent.TheVariants.{Message as InitMessage, Tick as InitTick, Finish as InitFinish}
use Rattle.bsc_direct.specs.declared.call.SlotCall.TheVariants.{Up}
use Rattle.bsc_direct.specs.declared.establish.Establish.{Establish}
use Rattle.bsc_direct.specs.declared.establish.Establish.TheVariants.{Up as IsUp, Duplicate, WrongPeer}
use Rattle.bsc_node.specs.Messages.{nak, not_supported_code}
use Rattle.bsc_node.specs.declared.link_name.LinkName.{LinkName}
use Rattle.bsc_node.specs.declared.link_name.LinkName.TheVariants.{Hub, Direct}
use Rattle.bsc_node.specs.declared.node_event.NodeEvent.{NodeEvent}
use Rattle.bsc_node.specs.declared.node_event.NodeEvent.TheVariants.{Start, Opened, DialFailed, Arrived, Came, CameText, Lost, Tick, Send, Resolve, DirectTo, Solicit, Finish, Random, NoRandom}
use Rattle.bsc_node.specs.declared.note.Note.TheVariants.{DirectUp, NoPath, TooLong, Advert as ToldAdvert}
use Rattle.bsc_node.specs.declared.timed_event.TimedEvent.{TimedEvent}
use Rattle.bsc_node.specs.declared.action.Action.{Action}
use Rattle.bsc_node.specs.declared.action.Action.TheVariants.{Put, Close, Tell, Draw}
use Rattle.bsc_node.specs.Logs.{Made, Line, came, did, slot, accepting, Log, Rule, nothing, in_order, either, does, tells, now, next_id}
use Rattle.bsc_node.specs.Links.{names, is_over_by_event, is_there, was_taken, verdict, opens, hears, ticks, finishes}
use Rattle.bsc_node.specs.Links.{Outcome, puts, puts_and_closes, closes, meets, is_refused, passes_up, keeps_still, outcome}
use Rattle.bsc_node.specs.Hubs.{is_under_way}
use Rattle.bsc_node.specs.Ways.{Way, way, awaits_peer, ask_refusal, establish, slots_see, resolution_sees}
use Rattle.bsc_node.specs.Ending.{carries_out_by, carries_out, finishes_machine, tells_connector, tells_finished, ends, closes_link, finishes_link}
use Rattle.bsc_node.specs.Meeting.{refuses, wrong_peer, finishes_replaced, comes_up, meets_dialled, meets_taken, meets_slot, meets_peer, tells_refusal, may_draw, is_refused_by, renews, keeps_vmac}
use Rattle.bsc_node.specs.Receiving.{sender, is_for_all, answers, answers_by, learns, takes_answer, takes_body, delivers}
use Rattle.bsc_node.specs.Requesting.{puts_own, by_path, asks_unless, sends, resolves, solicits, other_end_takes, directs}
use Rattle.bsc_node.specs.Events.{obeys_by, obeys, tries_next, arrives, ticks_link, ticks_resolution, time_passes, is_to_end, follows}
use Rattle.bsc_node.specs.Node.{goes_on}
use Rattle.bsc_node.specs.Conditions.{fits, may_come, has_opened}
use Rattle.bsc_node.specs.Laws.{with_event}
use Rattle.bsc_node.proofs.There.{there-other}
use Rattle.bsc_node.proofs.Following.{goes_on-is}
use Rattle.bsc_node.proofs.Lasting.{event_fits}
use Rattle.bsc_node.proofs.Passing.{Passes, pass-weaker, pass-in_order, pass-either, pass-nothing, pass-when}
use Rattle.bsc_node_identity.proofs.Bare.{Bare, is_bare, bare-arrives, bare-directs, bare-ends, bare-finishes, bare-hears, bare-keeps_vmac, bare-learns, bare-renews}
use Rattle.bsc_node_identity.proofs.Bare.{bare-takes_answer, bare-tells_connector, bare-tells_finished, bare-ticks, bare-tries_next}
use Rattle.bsc_node_identity.proofs.OneMore.{established-same}
use Rattle.bsc_lemmas.proofs.Booleans.{and_left, first_of_three}
use Rattle.bsc_node_identity.specs.There.{DirectPutsAreThere}
use Rattle.bsc_node_identity.specs.Carried.{LeadsTo}
use Rattle.bsc_node_identity.proofs.Each.{EachHas, each-append, each-at, each-cons, each-either, each-last, each-none, each-some, each-test, each-when}
use Rattle.bsc_node_identity.proofs.Held.{held-goes_on, told_there}
use Rattle.bsc_node_identity.proofs.Holding.{HeldAt}
use Rattle.bsc_node_identity.proofs.Leading.{ways_lead_there}
use Rattle.bsc_node_identity.proofs.Settled.{lasting}

-- a message that is put on a link
abbrev OnThere : Log → LinkName → Type 0
OnThere N (Hub s) = ⊤
OnThere N (Direct k) = is_there (Direct k) N ≡ true

abbrev ThereFor : Log → Action → Type 0
ThereFor N (Put name o) = OnThere N name
ThereFor N action = ⊤

abbrev PutsThere : Log → Line → Type 0
PutsThere N (did action) = ThereFor N action
PutsThere N m = ⊤

on_there : (N : Log) (name : LinkName) → is_there name N ≡ true → OnThere N name
on_there N (Hub s) h = tt
on_there N (Direct k) h = h

-- ---- lines that put nothing on a direct link

abbrev puts_action_none : Action → Bool
puts_action_none (Put (Direct k) o) = false
puts_action_none action = true

abbrev puts_none : Line → Bool
puts_none (did action) = puts_action_none action
puts_none m = true

done_none : (N : Log) (action : Action) → puts_action_none action ≡ true → ThereFor N action
done_none N (Put (Hub s) o) h = tt
done_none N (Put (Direct k) o) h = cc
done_none N action h = tt

has_none : (N : Log) (m : Line) → puts_none m ≡ true → PutsThere N m
has_none N (did action) h = done_none N action h
has_none N m h = tt

bare_action_none : (action : Action) → is_bare (did action) ≡ true → puts_action_none action ≡ true
bare_action_none (Put (Direct k) o) h = cc
bare_action_none (Put (Hub s) o) h = refl
bare_action_none action h = refl

bare_none : (m : Line) → is_bare m ≡ true → puts_none m ≡ true
bare_none (did action) h = bare_action_none action h
bare_none m h = refl

-- Whatever the log, the rule goes on by such lines.
abbrev Silent : Rule → Type 0
Silent rule = Passes puts_none rule

each_silent : (rule : Rule) → Silent rule → (N : Log) → EachHas PutsThere N (rule N)
each_silent rule p N = each-test PutsThere puts_none has_none N (rule N) (p N)

silent_bare : (rule : Rule) → Bare rule → Silent rule
silent_bare rule p N = pass-weaker is_bare puts_none bare_none (rule N) (p N)

each_bare : (rule : Rule) → Bare rule → (N : Log) → EachHas PutsThere N (rule N)
each_bare rule p = each_silent rule (silent_bare rule p)

silent_closes_link : (a : Made) (name : LinkName) (closing : Closing) → Silent (closes_link a name closing)
silent_closes_link a name closing = pass-in_order puts_none (does (Close name closing) ∷ ends a name ∷ []) ((λ N. refl), (silent_bare (ends a name) (bare-ends a name), tt))

silent_is_refused_by : (a : Made) (name : LinkName) (origin : Option Vmac) (code : ℕ) → Silent (is_refused_by a name origin code)
silent_is_refused_by a name origin code =
    pass-in_order puts_none (does (Close name normal) ∷ tells_refusal name origin code ∷ either (may_draw name code) (does Draw) (ends a name) ∷ [])
    ((λ N. refl), ((λ N. refl), (pass-either puts_none (may_draw name code) (does Draw) (ends a name) (λ N. refl) (silent_bare (ends a name) (bare-ends a name)), tt)))

-- ---- over a link that is there

each_carries_by : (name : LinkName) (u : Outcome) (N : Log) → is_there name N ≡ true → EachHas PutsThere N (carries_out_by name u N)
each_carries_by name (puts o) N there = (on_there N name there, tt)
each_carries_by name (puts_and_closes o closing) N there =
    each-cons PutsThere (does (Put name o)) (does (Close name closing) ∷ []) N (on_there N name there, tt) (each-last PutsThere (does (Close name closing)) (N ++ did (Put name o) ∷ []) (tt, tt))
each_carries_by name (closes closing) N there = (tt, tt)
each_carries_by name (meets who) N there = tt
each_carries_by name (is_refused origin code) N there = tt
each_carries_by name (passes_up msg) N there = tt
each_carries_by name keeps_still N there = tt

each_finishes_machine : (a : Made) (name : LinkName) (N : Log) → EachHas PutsThere N (finishes_machine a name N)
each_finishes_machine a name N =
    each-when PutsThere (is_there name) (in_order (finishes name ∷ carries_out a name ∷ [])) N
    (λ there. each-cons PutsThere (finishes name) (carries_out a name ∷ []) N (each_bare (finishes name) (bare-finishes name) N)
    (each-last PutsThere (carries_out a name) (N ++ finishes name N)
    (each_carries_by name (outcome a (N ++ finishes name N) name) (N ++ finishes name N)
    (told_there name N (λ n. InitFinish (now N) (next_id N)) (λ n. AcceptFinish (now N) (next_id N)) (was_taken name N) there))))

each_finishes_link : (a : Made) (name : LinkName) (N : Log) → EachHas PutsThere N (finishes_link a name N)
each_finishes_link a name N =
    each-when PutsThere (is_there name) (in_order (finishes_machine a name ∷ either (is_there name) nothing (ends a name) ∷ [])) N
    (λ there. each-cons PutsThere (finishes_machine a name) (either (is_there name) nothing (ends a name) ∷ []) N (each_finishes_machine a name N)
    (each-last PutsThere (either (is_there name) nothing (ends a name)) (N ++ finishes_machine a name N)
    (each_bare (either (is_there name) nothing (ends a name)) (pass-either is_bare (is_there name) nothing (ends a name) (pass-nothing is_bare) (bare-ends a name)) (N ++ finishes_machine a name N))))

-- ---- a peer has named itself

each_finishes_replaced : (a : Made) (replaced : Option ℕ) (N : Log) → EachHas PutsThere N (finishes_replaced a replaced N)
each_finishes_replaced a None N = tt
each_finishes_replaced a (Some j) N = each_finishes_link a (Direct j) N

each_comes_up : (a : Made) (j : ℕ) (who : Identity) (replaced : Option ℕ) (N : Log) → EachHas PutsThere N (comes_up a j who replaced N)
each_comes_up a j who replaced N =
    each-cons PutsThere (slots_see (Up j who)) (tells (DirectUp who.vmac) ∷ finishes_replaced a replaced ∷ []) N (tt, tt)
    (each-cons PutsThere (tells (DirectUp who.vmac)) (finishes_replaced a replaced ∷ []) (N ++ slot (Up j who) ∷ []) (tt, tt)
    (each-last PutsThere (finishes_replaced a replaced) ((N ++ slot (Up j who) ∷ []) ++ did (Tell (DirectUp who.vmac)) ∷ [])
    (each_finishes_replaced a replaced ((N ++ slot (Up j who) ∷ []) ++ did (Tell (DirectUp who.vmac)) ∷ []))))

each_meets_dialled : (a : Made) (j : ℕ) (who : Identity) (answer : Establish) (N : Log) → EachHas PutsThere N (meets_dialled a j who answer N)
each_meets_dialled a j who (IsUp replaced) N = each_comes_up a j who replaced N
each_meets_dialled a j who (Duplicate holder) N = each_silent (closes_link a (Direct j) wrong_peer) (silent_closes_link a (Direct j) wrong_peer) N
each_meets_dialled a j who (WrongPeer v) N = each_silent (closes_link a (Direct j) wrong_peer) (silent_closes_link a (Direct j) wrong_peer) N

-- a machine is told something, and what it puts is carried out, and then more
each_answered : (a : Made) (j : ℕ) (m : Event) (rules : List Rule) (N : Log) → is_there (Direct j) N ≡ true → ((M : Log) → EachHas PutsThere M (in_order rules M))
    → EachHas PutsThere N (in_order ((λ L. accepting (Direct j) m ∷ []) ∷ carries_out a (Direct j) ∷ rules) N)
each_answered a j m rules N there more =
    each-cons PutsThere (λ L. accepting (Direct j) m ∷ []) (carries_out a (Direct j) ∷ rules) N (tt, tt)
    (each-cons PutsThere (carries_out a (Direct j)) rules told_log (each_carries_by (Direct j) (outcome a told_log (Direct j)) told_log
    (there-other (Direct j) N (accepting (Direct j) m) refl refl ∙ there)) (more (told_log ++ carries_out a (Direct j) told_log)))
  where
    told_log : Log
    told_log = N ++ accepting (Direct j) m ∷ []

each_refused : (a : Made) (j : ℕ) (N : Log) → is_there (Direct j) N ≡ true → EachHas PutsThere N (in_order (refuses (Direct j) ∷ carries_out a (Direct j) ∷ ends a (Direct j) ∷ []) N)
each_refused a j N there = each_answered a j _ (ends a (Direct j) ∷ []) N there (λ M. each-last PutsThere (ends a (Direct j)) M (each_bare (ends a (Direct j)) (bare-ends a (Direct j)) M))

each_meets_taken : (a : Made) (j : ℕ) (who : Identity) (answer : Establish) (N : Log) → is_there (Direct j) N ≡ true → EachHas PutsThere N (meets_taken a j who answer N)
each_meets_taken a j who (IsUp replaced) N there = each_answered a j Joined (comes_up a j who replaced ∷ []) N there
    (λ M. each-last PutsThere (comes_up a j who replaced) M (each_comes_up a j who replaced M))
each_meets_taken a j who (Duplicate holder) N there = each_refused a j N there
each_meets_taken a j who (WrongPeer v) N there = each_refused a j N there

each_meets_peer : (a : Made) (name : LinkName) (who : Identity) (N : Log) → is_there name N ≡ true → EachHas PutsThere N (meets_peer a name who N)
each_meets_peer a (Hub s) who N there = each_bare (meets_peer a (Hub s) who) (pass-when is_bare (is_under_way a s) (tells_connector a (Connected s)) (bare-tells_connector a (Connected s))) N
each_meets_peer a (Direct j) who N there =
    each-either PutsThere (awaits_peer j) (meets_slot a j who) (closes_link a (Direct j) wrong_peer) N
    (λ h. each-either PutsThere (was_taken (Direct j)) (meets_taken a j who (establish a j who N)) (meets_dialled a j who (establish a j who N)) N
    (λ taken. each_meets_taken a j who (establish a j who N) N there) (λ dialled. each_meets_dialled a j who (establish a j who N) N))
    (λ h. each_silent (closes_link a (Direct j) wrong_peer) (silent_closes_link a (Direct j) wrong_peer) N)

-- ---- a message for the node

each_answers_by : (name : LinkName) (msg : Message) (own : Option (List ℕ)) (N : Log) → is_there name N ≡ true → EachHas PutsThere N (answers_by name msg own N)
each_answers_by name msg (Some uris) N there = (on_there N name there, tt)
each_answers_by name msg None N there = each-when PutsThere (λ M. not (is_for_all msg)) (answers name msg msg.id (nak 0x02 not_supported_code)) N (λ h. (on_there N name there, tt))

each_takes_body : (a : Made) (name : LinkName) (msg : Message) (body : Body) (N : Log) → is_there name N ≡ true → EachHas PutsThere N (takes_body a name msg body N)
each_takes_body a name msg (Npdu npdu) N there = each-some PutsThere (sender name msg N) (delivers msg npdu) nothing N (λ v s. (tt, tt)) tt
each_takes_body a name msg AddressResolution N there = each_answers_by name msg a.limits.uris N there
each_takes_body a name msg (AddressResolutionAck uris) N there = each-some PutsThere (sender name msg N) (learns a msg uris) nothing N
    (λ v s. each_bare (learns a msg uris v) (bare-learns a msg uris v) N) tt
each_takes_body a name msg (Advertisement ad) N there = each-some PutsThere (sender name msg N) (λ v. tells (ToldAdvert v ad)) nothing N (λ v s. (tt, tt)) tt
each_takes_body a name msg AdvertisementSolicitation N there = (on_there N name there, tt)
each_takes_body a name msg (BvlcResult answer) N there = each_bare (takes_answer a name msg answer) (bare-takes_answer a name msg answer) N
each_takes_body a name msg body N there = tt

-- ---- what follows from a machine's step

each_obeys_by : (a : Made) (name : LinkName) (u : Outcome) (N : Log) → is_there name N ≡ true → EachHas PutsThere N (obeys_by a name u N)
each_obeys_by a name (puts o) N there = (on_there N name there, tt)
each_obeys_by a name (puts_and_closes o closing) N there =
    each-cons PutsThere (carries_out_by name (puts_and_closes o closing)) (ends a name ∷ []) N (each_carries_by name (puts_and_closes o closing) N there)
    (each-last PutsThere (ends a name) (N ++ carries_out_by name (puts_and_closes o closing) N) (each_bare (ends a name) (bare-ends a name) (N ++ carries_out_by name (puts_and_closes o closing) N)))
each_obeys_by a name (closes closing) N there = each_silent (closes_link a name closing) (silent_closes_link a name closing) N
each_obeys_by a name (meets who) N there = each_meets_peer a name who N there
each_obeys_by a name (is_refused origin code) N there = each_silent (is_refused_by a name origin code) (silent_is_refused_by a name origin code) N
each_obeys_by a name (passes_up msg) N there = each_takes_body a name msg msg.body N there
each_obeys_by a name keeps_still N there = tt

each_told : (a : Made) (name : LinkName) (rule : Rule) (N : Log) → Bare rule → is_there name (N ++ rule N) ≡ true → EachHas PutsThere N (in_order (rule ∷ obeys a name ∷ []) N)
each_told a name rule N bare there =
    each-cons PutsThere rule (obeys a name ∷ []) N (each_bare rule bare N) (each-last PutsThere (obeys a name) (N ++ rule N) (each_obeys_by a name (outcome a (N ++ rule N) name) (N ++ rule N) there))

each_ticks_link : (a : Made) (name : LinkName) (N : Log) → EachHas PutsThere N (ticks_link a name N)
each_ticks_link a name N =
    each-when PutsThere (is_there name) (in_order (ticks name ∷ obeys a name ∷ [])) N
    (λ there. each_told a name (ticks name) N (bare-ticks name) (told_there name N (λ n. InitTick (now N) (next_id N)) (λ n. AcceptTick (now N)) (was_taken name N) there))

each_mapped : {A : Type 0} (rule : A → Rule) (xs : List A) (rules : List Rule) → ((x : A) (M : Log) → EachHas PutsThere M (rule x M)) → ((M : Log) → EachHas PutsThere M (in_order rules M))
    → (N : Log) → EachHas PutsThere N (in_order (map rule xs ++ rules) N)
each_mapped rule [] rules p q N = q N
each_mapped rule (x ∷ xs) rules p q N = each-cons PutsThere (rule x) (map rule xs ++ rules) N (p x N) (each_mapped rule xs rules p q (N ++ rule x N))

each_time_passes : (a : Made) (N : Log) → EachHas PutsThere N (time_passes a N)
each_time_passes a N =
    each_mapped (ticks_link a) names (tells_connector a ConnectorTick ∷ ticks_resolution ∷ []) (each_ticks_link a)
    (λ M. each-cons PutsThere (tells_connector a ConnectorTick) (ticks_resolution ∷ []) M (each_bare (tells_connector a ConnectorTick) (bare-tells_connector a ConnectorTick) M)
    (each-last PutsThere ticks_resolution (M ++ tells_connector a ConnectorTick M) (tt, tt))) N

each_all : {A : Type 0} (rule : A → Rule) (xs : List A) → ((x : A) (M : Log) → EachHas PutsThere M (rule x M)) → (N : Log) → EachHas PutsThere N (in_order (map rule xs) N)
each_all rule [] p N = each-none PutsThere N
each_all rule (x ∷ xs) p N = each-cons PutsThere (rule x) (map rule xs) N (p x N) (each_all rule xs p (N ++ rule x N))

each_is_to_end : (a : Made) (N : Log) → EachHas PutsThere N (is_to_end a N)
each_is_to_end a N =
    each-cons PutsThere tells_finished (map (finishes_link a) names) N (each_bare tells_finished bare-tells_finished N)
    (each_all (finishes_link a) names (each_finishes_link a) (N ++ tells_finished N))

-- ---- on the way of a message

-- Each slot that is established has its link.
abbrev AllHeld : Log → Type 0
AllHeld N = (k : ℕ) → HeldAt k N

way_there : (N : Log) (v : Vmac) (w : Way) → AllHeld N → way v N ≡ Some w → OnThere N w.link
way_there N v w held is = by w.link (ways_lead_there N v w is)
  where
    by : (name : LinkName) → LeadsTo N v name w.dest → OnThere N name
    by (Hub s) leads = tt
    by (Direct k) leads = held k leads.1 leads.2

each_by_path : (v : Vmac) (rule : Way → Rule) (N : Log) → ((w : Way) → OnThere N w.link → EachHas PutsThere N (rule w N)) → AllHeld N → EachHas PutsThere N (by_path v rule N)
each_by_path v rule N p held = each-some PutsThere (way v N) rule (tells (NoPath v)) N (λ w is. p w (way_there N v w held is)) (tt, tt)

each_sends : (v : Vmac) (npdu : List ℕ) (N : Log) → AllHeld N → EachHas PutsThere N (sends v npdu N)
each_sends v npdu N =
    each_by_path v (λ w. either (other_end_takes w npdu) (puts_own w (Npdu npdu)) (tells (TooLong v))) N
    (λ w there. each-either PutsThere (other_end_takes w npdu) (puts_own w (Npdu npdu)) (tells (TooLong v)) N (λ h. (there, tt)) (λ h. (tt, tt)))

each_asks_unless : (w : Way) (v : Vmac) (o : Option AskRefusal) (N : Log) → OnThere N w.link → EachHas PutsThere N (asks_unless w v o N)
each_asks_unless w v None N there =
    each-cons PutsThere (puts_own w AddressResolution) (resolution_sees (Ask (now N) (next_id N) v) ∷ []) N (there, tt)
    (each-last PutsThere (resolution_sees (Ask (now N) (next_id N) v)) (N ++ puts_own w AddressResolution N) (tt, tt))
each_asks_unless w v (Some (Full held)) N there = (tt, tt)
each_asks_unless w v (Some (Pending id)) N there = (tt, tt)
each_asks_unless w v (Some NoMemory) N there = tt

each_resolves : (a : Made) (v : Vmac) (N : Log) → AllHeld N → EachHas PutsThere N (resolves a v N)
each_resolves a v N = each_by_path v (λ w M. asks_unless w v (ask_refusal a v M) M) N (λ w there. each_asks_unless w v (ask_refusal a v N) N there)

each_solicits : (v : Vmac) (N : Log) → AllHeld N → EachHas PutsThere N (solicits v N)
each_solicits v N = each_by_path v (λ w. puts_own w AdvertisementSolicitation) N (λ w there. (there, tt))

-- ---- all events

module _ (a : Made) (L : Log) (e : TimedEvent) (may : IsTrue (may_come L e)) (held : AllHeld L) where
  abbrev M : Log
  M = with_event L e

  fitting : (ev : NodeEvent) → e.event ≡ ev → fits L ev ≡ true
  fitting ev is = sym (ap (fits L) is) ∙ event_fits L e may

  there_still : (name : LinkName) (ev : NodeEvent) → e.event ≡ ev → is_over_by_event name ev ≡ false → is_there name L ≡ true → is_there name M ≡ true
  there_still name ev is over there = there-other name L (came e) refl (ap (is_over_by_event name) is ∙ over) ∙ there

  -- an event by which no link is over leaves each slot its link
  still_held : (ev : NodeEvent) → e.event ≡ ev → ((k : ℕ) → is_over_by_event (Direct k) ev ≡ false) → AllHeld M
  still_held ev is none k who h = there_still (Direct k) ev is (none k) (held k who (sym (established-same k L (came e) refl) ∙ h))

  follow : (ev : NodeEvent) → e.event ≡ ev → EachHas PutsThere M (follows a ev M)
  follow Start is = each_bare (tells_connector a ConnectorStart) (bare-tells_connector a ConnectorStart) M
  follow (Opened name) is =
      each_told a name (opens name) M (λ N. refl)
      (there-other name M _ refl refl ∙ there_still name (Opened name) is refl (first_of_three (is_there name L) (not (was_taken name L)) (not (has_opened name L)) (fitting (Opened name) is)))
  follow (DialFailed (Hub s)) is = each_bare (ends a (Hub s)) (bare-ends a (Hub s)) M
  follow (DialFailed (Direct j)) is = each_bare (tries_next a j) (bare-tries_next a j) M
  follow Arrived is = each_bare arrives bare-arrives M
  follow (Came name o) is =
      each_told a name (hears a name o) M (bare-hears a name o)
      (told_there name M (λ n. InitMessage (now M) (verdict a M n o)) (λ n. AcceptMessage (now M) (verdict a M n o)) (was_taken name M)
      (there_still name (Came name o) is refl (and_left (is_there name L) (was_taken name L || has_opened name L) (fitting (Came name o) is))))
  follow (CameText name) is = each_silent (closes_link a name (closing 1003 Nothing)) (silent_closes_link a name (closing 1003 Nothing)) M
  follow (Lost name) is = each_bare (ends a name) (bare-ends a name) M
  follow Tick is = each_time_passes a M
  follow (Send dest npdu) is = each_sends dest npdu M (still_held (Send dest npdu) is (λ k. refl))
  follow (Resolve v) is = each_resolves a v M (still_held (Resolve v) is (λ k. refl))
  follow (DirectTo v) is = each_bare (directs v) (bare-directs v) M
  follow (Solicit v) is = each_solicits v M (still_held (Solicit v) is (λ k. refl))
  follow Finish is = each_is_to_end a M
  follow (Random w) is = each_bare (renews a) (bare-renews a) M
  follow NoRandom is = each_bare (keeps_vmac a) (bare-keeps_vmac a) M

-- A log each of whose puts goes over a link that is there, and in which each established slot has its link.
record AllThere (L : Log) : Type 0 where
  puts : EachHas PutsThere [] L
  held : AllHeld L

there_more : (a : Made) (L : Log) (e : TimedEvent) → AllThere L → IsTrue (may_come L e) → AllThere (L ++ goes_on a e L)
there_more a L e all may = record {
  puts = each-append PutsThere [] L (goes_on a e L) all.puts (subst (EachHas PutsThere L) (sym (goes_on-is a L e)) (tt, follow a L e may all.held e.event refl));
  held = λ k. held-goes_on k a L e (all.held k) may;
}

pub direct_puts_are_there : (a : Made) → DirectPutsAreThere a
direct_puts_are_there a events h before later k o is =
    each-at PutsThere [] before (did (Put (Direct k) o)) later (subst (EachHas PutsThere []) is (lasting a AllThere (record { puts = tt; held = λ j who g. cc }) (there_more a) events h).puts)
