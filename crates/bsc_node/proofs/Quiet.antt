-- Which rules are quiet: they neither deliver, nor put an Encapsulated-NPDU, nor begin a direct connection, nor bring a slot up, nor draw a word.
-- It serves clauses of functions of `laws`.
use Rattle.std.proofs.Common.{◌≡◌, ℕ, Bool, true, false, not, ◌&&◌, [], ◌∷◌, ◌++◌, refl, ap, ◌∙◌}
use Rattle.std.specs.Prelude.{unwrap_or}
use Rattle.std.specs.List.{list_all}
use Rattle.std.proofs.lemmas.List.Folds.{list_all-append}
use Rattle.bsc_octets.specs.declared.identity.Identity.{Identity}
use Rattle.bsc_octets.specs.Functions.{is_npdu}
use Rattle.bsc_connector.specs.declared.side.Side.{Side}
use Rattle.bsc_connector.specs.declared.side.Side.TheVariants.{Primary, Failover}
use Rattle.bsc_connector.specs.declared.event.ConnectorEvent.{ConnectorEvent}
use Rattle.bsc_connector.specs.declared.event.ConnectorEvent.TheVariants.{Failed, Lost}
use Rattle.bsc_accept.specs.declared.closing.Closing.{Closing}
use Rattle.bsc_accept.specs.declared.event.Event.{Event}
use Rattle.bsc_accept.specs.declared.event.Event.TheVariants.{Tick as AcceptTick, Finish as AcceptFinish}
use Rattle.bsc_initiate.specs.declared.event.InitEvent.{InitEvent}
use Rattle.bsc_initiate.specs.declared.event.InitEvent.TheVariants.{Tick as InitTick, Finish as InitFinish}
use Rattle.bsc_accept.specs.Steps.{normal}
use Rattle.bsc_direct.specs.declared.call.SlotCall.{SlotCall}
use Rattle.bsc_direct.specs.declared.call.SlotCall.TheVariants.{Up, Release}
use Rattle.bsc_node.specs.declared.link_name.LinkName.{LinkName}
use Rattle.bsc_node.specs.declared.link_name.LinkName.TheVariants.{Hub, Direct}
use Rattle.bsc_node.specs.declared.note.Note.TheVariants.{HubNow, DirectDown, Finished, Renewed, NoRandom}
use Rattle.bsc_node.specs.declared.action.Action.{Action}
use Rattle.bsc_node.specs.declared.action.Action.TheVariants.{Dial, Take, Put, Close, Deliver, Draw}
use Rattle.bsc_node.specs.Logs.{Made, Line, did, slot, initiating, accepting, Log, Rule, nothing, in_order, either, when, where_found, does, tells, own_vmac, now, next_id, is_finishing, came}
use Rattle.bsc_node.specs.Links.{is_there, none_there, was_taken, start, initiating_events, accepting_events, by_machine, ticks, finishes, Outcome, puts, puts_and_closes, closes}
use Rattle.bsc_node.specs.Links.{meets, is_refused, passes_up, keeps_still, outcome}
use Rattle.bsc_node.specs.Hubs.{hub_use, hub_use_before, is_up, is_under_way, is_dropped, newest_step, told, same_use}
use Rattle.bsc_node.specs.Ways.{established_peer, slots_see}
use Rattle.bsc_node.specs.Ending.{carries_out_by, carries_out, finishes_machine, dials, dials_primary, dials_failover, tells_use, drops_failover, tells_connector, ends_hub}
use Rattle.bsc_node.specs.Ending.{ends_slot, tells_finished, ends_by, ends, closes_link, finishes_link}
use Rattle.bsc_node.specs.Meeting.{refusing_side, ends_refused, renews, keeps_vmac}
use Rattle.bsc_node.proofs.Order.{in_order-brought}
use Rattle.bsc_node.proofs.Passing.{Passes, pass-in_order, pass-either, pass-nothing, pass-when, pass-found}
use Rattle.bsc_node.proofs.Told.{outcome-initiating, outcome-accepting}
use Rattle.bsc_node.proofs.Calm.{is_calm, calm-tick, calm-finish, calm-taken_tick, calm-taken_finish}
use Rattle.std.proofs.lemmas.Bool.{and_from as both}

abbrev pub is_quiet_action : Action → Bool
is_quiet_action (Put name o) = not (is_npdu o)
is_quiet_action (Deliver delivered) = false
is_quiet_action Draw = false
is_quiet_action (Dial (Direct k) uri) = false
is_quiet_action (Take name) = false
is_quiet_action action = true

abbrev pub is_quiet_call : SlotCall → Bool
is_quiet_call (Up k who) = false
is_quiet_call call = true

abbrev pub is_quiet : Line → Bool
is_quiet (did action) = is_quiet_action action
is_quiet (slot call) = is_quiet_call call
is_quiet (came e) = false
is_quiet m = true

-- Whatever the log, nothing of that comes about.
abbrev pub Quiet : Rule → Type 0
Quiet rule = Passes is_quiet rule

pub quiet-does : (action : Action) → is_quiet_action action ≡ true → Quiet (does action)
quiet-does action h L = both (is_quiet_action action) true h refl

-- two rules, the second of which is quiet where the first has left the log
pub quiet-two : (first second : Rule) (L : Log) → list_all is_quiet (first L) ≡ true → list_all is_quiet (second (L ++ first L)) ≡ true → list_all is_quiet (in_order (first ∷ second ∷ []) L) ≡ true
quiet-two first second L p q =
    ap (list_all is_quiet) (in_order-brought (first ∷ second ∷ []) L)
    ∙ list_all-append is_quiet (first L) (second (L ++ first L) ++ [])
    ∙ both (list_all is_quiet (first L)) (list_all is_quiet (second (L ++ first L) ++ [])) p
    (list_all-append is_quiet (second (L ++ first L)) [] ∙ both (list_all is_quiet (second (L ++ first L))) true q refl)

-- ---- machines

pub quiet-machine : (dialled : LinkName → InitEvent) (taken : LinkName → Event) (name : LinkName) (b : Bool) → list_all is_quiet (by_machine dialled taken name b) ≡ true
quiet-machine dialled taken name true = refl
quiet-machine dialled taken name false = refl

pub quiet-carries : (name : LinkName) (o : Outcome) → is_calm o ≡ true → Quiet (carries_out_by name o)
quiet-carries name (puts o) h = quiet-does (Put name o) h
quiet-carries name (puts_and_closes o closing) h = pass-in_order is_quiet (does (Put name o) ∷ does (Close name closing) ∷ []) (quiet-does (Put name o) h, ((λ L. refl), tt))
quiet-carries name (closes closing) h = λ L. refl
quiet-carries name (meets who) h = λ L. refl
quiet-carries name (is_refused origin code) h = λ L. refl
quiet-carries name (passes_up msg) h = λ L. refl
quiet-carries name keeps_still h = λ L. refl

-- told to finish, or told the time, a machine is calm
pub calm-finished : (a : Made) (name : LinkName) (L : Log) → is_calm (outcome a (L ++ finishes name L) name) ≡ true
calm-finished a name L = by (was_taken name L) refl
  where
    by : (b : Bool) → was_taken name L ≡ b → is_calm (outcome a (L ++ finishes name L) name) ≡ true
    by false h =
        ap (λ (b : Bool). is_calm (outcome a (L ++ by_machine (λ n. InitFinish (now L) (next_id L)) (λ n. AcceptFinish (now L) (next_id L)) name b) name)) h
        ∙ ap is_calm (outcome-initiating a L name (InitFinish (now L) (next_id L)) h)
        ∙ calm-finish (start a (L ++ initiating name (InitFinish (now L) (next_id L)) ∷ []) name) (initiating_events L name) (now L) (next_id L)
    by true h =
        ap (λ (b : Bool). is_calm (outcome a (L ++ by_machine (λ n. InitFinish (now L) (next_id L)) (λ n. AcceptFinish (now L) (next_id L)) name b) name)) h
        ∙ ap is_calm (outcome-accepting a L name (AcceptFinish (now L) (next_id L)) h)
        ∙ calm-taken_finish (start a (L ++ accepting name (AcceptFinish (now L) (next_id L)) ∷ []) name) (accepting_events L name) (now L) (next_id L)

pub calm-ticked : (a : Made) (name : LinkName) (L : Log) → is_calm (outcome a (L ++ ticks name L) name) ≡ true
calm-ticked a name L = by (was_taken name L) refl
  where
    by : (b : Bool) → was_taken name L ≡ b → is_calm (outcome a (L ++ ticks name L) name) ≡ true
    by false h =
        ap (λ (b : Bool). is_calm (outcome a (L ++ by_machine (λ n. InitTick (now L) (next_id L)) (λ n. AcceptTick (now L)) name b) name)) h
        ∙ ap is_calm (outcome-initiating a L name (InitTick (now L) (next_id L)) h)
        ∙ calm-tick (start a (L ++ initiating name (InitTick (now L) (next_id L)) ∷ []) name) (initiating_events L name) (now L) (next_id L)
    by true h =
        ap (λ (b : Bool). is_calm (outcome a (L ++ by_machine (λ n. InitTick (now L) (next_id L)) (λ n. AcceptTick (now L)) name b) name)) h
        ∙ ap is_calm (outcome-accepting a L name (AcceptTick (now L)) h)
        ∙ calm-taken_tick (start a (L ++ accepting name (AcceptTick (now L)) ∷ []) name) (accepting_events L name) (now L)

pub quiet-finishes_machine : (a : Made) (name : LinkName) → Quiet (finishes_machine a name)
quiet-finishes_machine a name =
    pass-when is_quiet (is_there name) (in_order (finishes name ∷ carries_out a name ∷ []))
    (λ L. quiet-two (finishes name) (carries_out a name) L
    (quiet-machine (λ n. InitFinish (now L) (next_id L)) (λ n. AcceptFinish (now L) (next_id L)) name (was_taken name L))
    (quiet-carries name (outcome a (L ++ finishes name L) name) (calm-finished a name L) (L ++ finishes name L)))

-- ---- hubs

quiet-dials_failover : (a : Made) → Quiet (dials_failover a)
quiet-dials_failover a =
    pass-when is_quiet (dials a Failover) (in_order (when (is_there (Hub Failover)) (does (Close (Hub Failover) normal)) ∷ does (Dial (Hub Failover) (unwrap_or a.limits.failover [])) ∷ []))
    (pass-in_order is_quiet (when (is_there (Hub Failover)) (does (Close (Hub Failover) normal)) ∷ does (Dial (Hub Failover) (unwrap_or a.limits.failover [])) ∷ [])
    (pass-when is_quiet (is_there (Hub Failover)) (does (Close (Hub Failover) normal)) (λ L. refl), ((λ L. refl), tt)))

quiet-tells_use : Quiet tells_use
quiet-tells_use L = pass-when is_quiet (λ M. not (same_use (hub_use_before M) (hub_use M))) (tells (HubNow (hub_use L))) (λ M. refl) L

pub quiet-tells_connector : (a : Made) (event : ConnectorEvent) → Quiet (tells_connector a event)
quiet-tells_connector a event =
    pass-in_order is_quiet (told event ∷ dials_primary a ∷ dials_failover a ∷ tells_use ∷ drops_failover a ∷ []) (
      (λ L. refl),
      (
        pass-when is_quiet (dials a Primary) (does (Dial (Hub Primary) a.limits.primary)) (λ L. refl),
        (
          quiet-dials_failover a,
          (
            quiet-tells_use,
            (pass-when is_quiet (λ L. (newest_step a L).drop_failover) (finishes_machine a (Hub Failover)) (quiet-finishes_machine a (Hub Failover)), tt),
          ),
        ),
      ),
    )

-- ---- a link is over

quiet-ends_hub : (a : Made) (s : Side) → Quiet (ends_hub a s)
quiet-ends_hub a s =
    pass-either is_quiet (is_dropped s) nothing (either (is_up s) (tells_connector a (Lost s)) (when (is_under_way a s) (tells_connector a (Failed s)))) (pass-nothing is_quiet)
    (pass-either is_quiet (is_up s) (tells_connector a (Lost s)) (when (is_under_way a s) (tells_connector a (Failed s))) (quiet-tells_connector a (Lost s))
    (pass-when is_quiet (is_under_way a s) (tells_connector a (Failed s)) (quiet-tells_connector a (Failed s))))

quiet-ends_slot : (k : ℕ) → Quiet (ends_slot k)
quiet-ends_slot k =
    pass-in_order is_quiet (where_found (established_peer k) (λ (who : Identity). tells (DirectDown who.vmac)) nothing ∷ slots_see (Release k) ∷ [])
    (pass-found is_quiet (established_peer k) (λ (who : Identity). tells (DirectDown who.vmac)) nothing (λ who L. refl) (pass-nothing is_quiet), ((λ L. refl), tt))

quiet-ends_by : (a : Made) (name : LinkName) → Quiet (ends_by a name)
quiet-ends_by a (Hub s) = quiet-ends_hub a s
quiet-ends_by a (Direct k) = quiet-ends_slot k

pub quiet-tells_finished : Quiet tells_finished
quiet-tells_finished = pass-when is_quiet (λ L. is_finishing L && none_there L) (tells Finished) (λ L. refl)

pub quiet-ends : (a : Made) (name : LinkName) → Quiet (ends a name)
quiet-ends a name = pass-in_order is_quiet (ends_by a name ∷ tells_finished ∷ []) (quiet-ends_by a name, (quiet-tells_finished, tt))

pub quiet-closes_link : (a : Made) (name : LinkName) (closing : Closing) → Quiet (closes_link a name closing)
quiet-closes_link a name closing = pass-in_order is_quiet (does (Close name closing) ∷ ends a name ∷ []) ((λ L. refl), (quiet-ends a name, tt))

pub quiet-finishes_link : (a : Made) (name : LinkName) → Quiet (finishes_link a name)
quiet-finishes_link a name =
    pass-when is_quiet (is_there name) (in_order (finishes_machine a name ∷ either (is_there name) nothing (ends a name) ∷ []))
    (pass-in_order is_quiet (finishes_machine a name ∷ either (is_there name) nothing (ends a name) ∷ [])
    (quiet-finishes_machine a name, (pass-either is_quiet (is_there name) nothing (ends a name) (pass-nothing is_quiet) (quiet-ends a name), tt)))

-- ---- another VMAC

quiet-ends_refused : (a : Made) → Quiet (ends_refused a)
quiet-ends_refused a = pass-found is_quiet refusing_side (λ s. ends a (Hub s)) nothing (λ s. quiet-ends a (Hub s)) (pass-nothing is_quiet)

pub quiet-renews : (a : Made) → Quiet (renews a)
quiet-renews a = pass-in_order is_quiet ((λ L. tells (Renewed (own_vmac a L)) L) ∷ ends_refused a ∷ []) ((λ L. refl), (quiet-ends_refused a, tt))

pub quiet-keeps_vmac : (a : Made) → Quiet (keeps_vmac a)
quiet-keeps_vmac a = pass-in_order is_quiet (tells NoRandom ∷ ends_refused a ∷ []) ((λ L. refl), (quiet-ends_refused a, tt))
