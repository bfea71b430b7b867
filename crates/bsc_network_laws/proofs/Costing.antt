-- How many hubs are dialled at an event at most: what follows from each event but those that dial for a slot.
-- It serves the clauses of `failures_are_all_heard`.
use Rattle.std.proofs.Common.{◌≡◌, ◌≤◌, ℕ, Bool, true, false, [], ◌∷◌, ◌++◌, Option, Some, None, refl, arith}
use Rattle.std.specs.Prelude.{◌+◌, if◌then◌else◌, map}
use Rattle.std.specs.List.{list_any}
use Rattle.bsc_octets.specs.declared.vmac.Vmac.{Vmac}
use Rattle.bsc_octets.specs.declared.identity.Identity.{Identity}
use Rattle.bsc_connector.specs.declared.side.Side.{Side}
use Rattle.bsc_connector.specs.declared.event.ConnectorEvent.TheVariants.{Start as ConnectorStart, Connected, Failed, Lost as ConnectorLost, Tick as ConnectorTick}
use Rattle.bsc_accept.specs.declared.closing.Closing.{Closing}
use Rattle.bsc_accept.specs.declared.reason.Reason.TheVariants.{Nothing}
use Rattle.bsc_accept.specs.Steps.{closing, normal}
use Rattle.bsc_direct.specs.declared.call.SlotCall.TheVariants.{Up}
use Rattle.bsc_direct.specs.declared.establish.Establish.{Establish}
use Rattle.bsc_direct.specs.declared.establish.Establish.TheVariants.{Up as IsUp}
use Rattle.bsc_node.specs.declared.link_name.LinkName.{LinkName}
use Rattle.bsc_node.specs.declared.link_name.LinkName.TheVariants.{Hub, Direct}
use Rattle.bsc_node.specs.declared.node_event.NodeEvent.{NodeEvent}
use Rattle.bsc_node.specs.declared.node_event.NodeEvent.TheVariants.{Start, Opened, DialFailed, Arrived, Came, CameText, Lost, Tick, Send, Resolve, DirectTo, Solicit, Finish, Random, NoRandom}
use Rattle.bsc_node.specs.declared.timed_event.TimedEvent.{TimedEvent}
use Rattle.bsc_node.specs.declared.note.Note.TheVariants.{DirectUp, Renewed, NoRandom as ToldNoRandom}
use Rattle.bsc_node.specs.declared.action.Action.TheVariants.{Close, Draw}
use Rattle.bsc_node.specs.Logs.{Made, came, did, Log, Rule, nothing, in_order, either, when, does, tells, own_vmac}
use Rattle.bsc_node.specs.Links.{Outcome, puts, puts_and_closes, closes, meets, is_refused, passes_up, keeps_still, names, is_there, was_taken, opens, hears, ticks, outcome}
use Rattle.bsc_node.specs.Hubs.{is_up, is_under_way, is_dropped}
use Rattle.bsc_node.specs.Ways.{awaits_peer, establish, slots_see}
use Rattle.bsc_node.specs.Ending.{carries_out_by, carries_out, tells_connector, ends_hub, ends_slot, tells_finished, ends_by, ends, closes_link, finishes_link, finishes_machine}
use Rattle.bsc_node.specs.Meeting.{wrong_peer, joins, refuses, finishes_replaced, comes_up, meets_dialled, meets_taken, meets_slot, meets_direct, meets_peer, tells_refusal, may_draw, is_refused_by}
use Rattle.bsc_node.specs.Meeting.{refusing_side, ends_refused, renews, keeps_vmac}
use Rattle.bsc_node.specs.Receiving.{takes_up}
use Rattle.bsc_node.specs.Requesting.{sends, resolves, solicits}
use Rattle.bsc_node.specs.Events.{obeys_by, obeys, arrives, ticks_link, ticks_resolution, time_passes, is_to_end, follows}
use Rattle.bsc_node.specs.Laws.{draws}
use Rattle.bsc_node.specs.Node.{goes_on, actions_at}
use Rattle.bsc_node.proofs.Calm.{is_calm}
use Rattle.bsc_node.proofs.Quiet.{calm-ticked}
use Rattle.bsc_network.specs.NodeEvents.{brings_about}
use Rattle.bsc_network_laws.proofs.Undialled.{plain-hears, plain-ticks, plain-carries, plain-carries_out, plain-finishes_machine, plain-ends_slot}
use Rattle.bsc_network_laws.proofs.Undialled.{plain-tells_finished, plain-arrives, plain-takes_body}
use Rattle.bsc_network_laws.proofs.Undialled.{plain-sends, plain-resolves, plain-solicits}
use Rattle.bsc_network_laws.proofs.Spending.{Spent, Spends, spent-cons, spends-plain, spends-more, spends-end, spends-cons, spends-then}
use Rattle.bsc_network_laws.proofs.Spending.{free-order, free-mapped, spends-either, spends-nothing, spends-when}
use Rattle.bsc_network_laws.proofs.Spending.{same_spare, spends-found, spends-tells_connector}

-- ---- a link is over

free_ends_hub : (a : Made) (s : Side) → Spends a 0 (ends_hub a s)
free_ends_hub a s =
    spends-either a 0 (is_dropped s) nothing (either (is_up s) (tells_connector a (ConnectorLost s)) (when (is_under_way a s) (tells_connector a (Failed s)))) (spends-nothing a 0)
    (spends-either a 0 (is_up s) (tells_connector a (ConnectorLost s)) (when (is_under_way a s) (tells_connector a (Failed s))) (spends-tells_connector a (ConnectorLost s))
    (spends-when a 0 (is_under_way a s) (tells_connector a (Failed s)) (spends-tells_connector a (Failed s))))

free_ends_by : (a : Made) (name : LinkName) → Spends a 0 (ends_by a name)
free_ends_by a (Hub s) = free_ends_hub a s
free_ends_by a (Direct k) = spends-plain a (ends_slot k) (plain-ends_slot k)

free_ends : (a : Made) (name : LinkName) → Spends a 0 (ends a name)
free_ends a name = free-order a (ends_by a name ∷ tells_finished ∷ []) (free_ends_by a name, (spends-plain a tells_finished plain-tells_finished, tt))

free_closes_link : (a : Made) (name : LinkName) (c : Closing) → Spends a 0 (closes_link a name c)
free_closes_link a name c = free-order a (does (Close name c) ∷ ends a name ∷ []) (spends-plain a (does (Close name c)) (λ L. refl), (free_ends a name, tt))

free_finishes_link : (a : Made) (name : LinkName) → Spends a 0 (finishes_link a name)
free_finishes_link a name =
    spends-when a 0 (is_there name) (in_order (finishes_machine a name ∷ either (is_there name) nothing (ends a name) ∷ []))
    (free-order a (finishes_machine a name ∷ either (is_there name) nothing (ends a name) ∷ [])
    (spends-plain a (finishes_machine a name) (plain-finishes_machine a name), (spends-either a 0 (is_there name) nothing (ends a name) (spends-nothing a 0) (free_ends a name), tt)))

-- ---- a peer has named itself, or has refused

free_finishes_replaced : (a : Made) (replaced : Option ℕ) → Spends a 0 (finishes_replaced a replaced)
free_finishes_replaced a None = spends-nothing a 0
free_finishes_replaced a (Some k) = free_finishes_link a (Direct k)

free_comes_up : (a : Made) (k : ℕ) (who : Identity) (replaced : Option ℕ) → Spends a 0 (comes_up a k who replaced)
free_comes_up a k who replaced =
    free-order a (slots_see (Up k who) ∷ tells (DirectUp who.vmac) ∷ finishes_replaced a replaced ∷ [])
    (spends-plain a (slots_see (Up k who)) (λ L. refl), (spends-plain a (tells (DirectUp who.vmac)) (λ L. refl), (free_finishes_replaced a replaced, tt)))

free_meets_dialled : (a : Made) (k : ℕ) (who : Identity) (answer : Establish) → Spends a 0 (meets_dialled a k who answer)
free_meets_dialled a k who (IsUp replaced) = free_comes_up a k who replaced
free_meets_dialled a k who otherwise = free_closes_link a (Direct k) wrong_peer

free_refuses : (a : Made) (k : ℕ) → Spends a 0 (in_order (refuses (Direct k) ∷ carries_out a (Direct k) ∷ ends a (Direct k) ∷ []))
free_refuses a k =
    free-order a (refuses (Direct k) ∷ carries_out a (Direct k) ∷ ends a (Direct k) ∷ [])
    (spends-plain a (refuses (Direct k)) (λ L. refl), (spends-plain a (carries_out a (Direct k)) (plain-carries_out a (Direct k)), (free_ends a (Direct k), tt)))

free_meets_taken : (a : Made) (k : ℕ) (who : Identity) (answer : Establish) → Spends a 0 (meets_taken a k who answer)
free_meets_taken a k who (IsUp replaced) =
    free-order a (joins (Direct k) ∷ carries_out a (Direct k) ∷ comes_up a k who replaced ∷ [])
    (spends-plain a (joins (Direct k)) (λ L. refl), (spends-plain a (carries_out a (Direct k)) (plain-carries_out a (Direct k)), (free_comes_up a k who replaced, tt)))
free_meets_taken a k who otherwise = free_refuses a k

free_meets_direct : (a : Made) (k : ℕ) (who : Identity) → Spends a 0 (meets_direct a k who)
free_meets_direct a k who =
    spends-either a 0 (awaits_peer k) (meets_slot a k who) (closes_link a (Direct k) wrong_peer)
    (λ L. spends-either a 0 (was_taken (Direct k)) (meets_taken a k who (establish a k who L)) (meets_dialled a k who (establish a k who L)) (free_meets_taken a k who (establish a k who L))
    (free_meets_dialled a k who (establish a k who L)) L) (free_closes_link a (Direct k) wrong_peer)

one_meets : (a : Made) (name : LinkName) (who : Identity) → Spends a 1 (meets_peer a name who)
one_meets a (Hub s) who = spends-when a 1 (is_under_way a s) (tells_connector a (Connected s)) (spends-tells_connector a (Connected s))
one_meets a (Direct k) who = spends-more a 0 1 (meets_direct a k who) (omega arith) (free_meets_direct a k who)

free_draw : (a : Made) → Spends a 0 (does Draw)
free_draw a L = record { hubs = refl; within = let same = same_spare a L (did Draw ∷ []) refl in omega (arith, same) }

free_is_refused_by : (a : Made) (name : LinkName) (origin : Option Vmac) (code : ℕ) → Spends a 0 (is_refused_by a name origin code)
free_is_refused_by a name origin code =
    free-order a (does (Close name normal) ∷ tells_refusal name origin code ∷ either (may_draw name code) (does Draw) (ends a name) ∷ []) (
      spends-plain a (does (Close name normal)) (λ L. refl),
      (
        spends-plain a (tells_refusal name origin code) (λ L. refl),
        (spends-either a 0 (may_draw name code) (does Draw) (ends a name) (free_draw a) (free_ends a name), tt),
      ),
    )

-- ---- what a machine wants

calm_obeys : (a : Made) (name : LinkName) (o : Outcome) → is_calm o ≡ true → Spends a 0 (obeys_by a name o)
calm_obeys a name (puts o) c = spends-plain a (carries_out_by name (puts o)) (plain-carries name (puts o))
calm_obeys a name (puts_and_closes o closing) c =
    free-order a (carries_out_by name (puts_and_closes o closing) ∷ ends a name ∷ [])
    (spends-plain a (carries_out_by name (puts_and_closes o closing)) (plain-carries name (puts_and_closes o closing)), (free_ends a name, tt))
calm_obeys a name (closes closing) c = free_closes_link a name closing
calm_obeys a name (meets who) c = cc
calm_obeys a name (is_refused origin code) c = free_is_refused_by a name origin code
calm_obeys a name (passes_up msg) c = spends-plain a (takes_up a name msg) (plain-takes_body a name msg msg.body)
calm_obeys a name keeps_still c = spends-nothing a 0

one_obeys_by : (a : Made) (name : LinkName) (o : Outcome) → Spends a 1 (obeys_by a name o)
one_obeys_by a name (puts o) = spends-more a 0 1 _ (omega arith) (spends-plain a (carries_out_by name (puts o)) (plain-carries name (puts o)))
one_obeys_by a name (puts_and_closes o closing) =
    spends-more a 0 1 _ (omega arith) (free-order a (carries_out_by name (puts_and_closes o closing) ∷ ends a name ∷ [])
    (spends-plain a (carries_out_by name (puts_and_closes o closing)) (plain-carries name (puts_and_closes o closing)), (free_ends a name, tt)))
one_obeys_by a name (closes closing) = spends-more a 0 1 _ (omega arith) (free_closes_link a name closing)
one_obeys_by a name (meets who) = one_meets a name who
one_obeys_by a name (is_refused origin code) = spends-more a 0 1 _ (omega arith) (free_is_refused_by a name origin code)
one_obeys_by a name (passes_up msg) = spends-more a 0 1 _ (omega arith) (spends-plain a (takes_up a name msg) (plain-takes_body a name msg msg.body))
one_obeys_by a name keeps_still = spends-nothing a 1

one_obeys : (a : Made) (name : LinkName) → Spends a 1 (obeys a name)
one_obeys a name L = one_obeys_by a name (outcome a L name) L

-- ---- time, and the end

free_ticks_link : (a : Made) (name : LinkName) → Spends a 0 (ticks_link a name)
free_ticks_link a name =
    spends-when a 0 (is_there name) (in_order (ticks name ∷ obeys a name ∷ []))
    (λ L. spent-cons a 0 0 (ticks name) (obeys a name ∷ []) L (spends-plain a (ticks name) (plain-ticks name) L)
    (spent-cons a 0 0 (obeys a name) [] (L ++ ticks name L) (calm_obeys a name (outcome a (L ++ ticks name L) name) (calm-ticked a name L) (L ++ ticks name L))
    (spends-end a ((L ++ ticks name L) ++ obeys a name (L ++ ticks name L)))))

two_time_passes : (a : Made) → Spends a 2 (time_passes a)
two_time_passes a =
    spends-then a 2 (map (ticks_link a) names) (tells_connector a ConnectorTick ∷ ticks_resolution ∷ []) (free-mapped a (ticks_link a) names (free_ticks_link a))
    (spends-cons a 2 0 (tells_connector a ConnectorTick) (ticks_resolution ∷ []) (spends-tells_connector a ConnectorTick)
    (free-order a (ticks_resolution ∷ []) (spends-plain a ticks_resolution (λ L. refl), tt)))

free_is_to_end : (a : Made) → Spends a 0 (is_to_end a)
free_is_to_end a = free-order a (tells_finished ∷ map (finishes_link a) names) (spends-plain a tells_finished plain-tells_finished, free-mapped a (finishes_link a) names (free_finishes_link a))

free_ends_refused : (a : Made) → Spends a 0 (ends_refused a)
free_ends_refused a = spends-found a 0 refusing_side (λ s. ends a (Hub s)) nothing (λ s. free_ends a (Hub s)) (spends-nothing a 0)

free_renews : (a : Made) → Spends a 0 (renews a)
free_renews a = free-order a ((λ L. tells (Renewed (own_vmac a L)) L) ∷ ends_refused a ∷ []) (spends-plain a (λ L. tells (Renewed (own_vmac a L)) L) (λ L. refl), (free_ends_refused a, tt))

free_keeps_vmac : (a : Made) → Spends a 0 (keeps_vmac a)
free_keeps_vmac a = free-order a (tells ToldNoRandom ∷ ends_refused a ∷ []) (spends-plain a (tells ToldNoRandom) (λ L. refl), (free_ends_refused a, tt))

-- ---- each event

-- Whether an event may dial for a slot.
abbrev pub dials_slot : NodeEvent → Bool
dials_slot (DialFailed (Direct k)) = true
dials_slot (DirectTo v) = true
dials_slot e = false

-- What an event costs at most: nothing, where a dial failed.
abbrev pub cost : NodeEvent → ℕ
cost (DialFailed name) = 0
cost e = 2

at_most_two : (a : Made) (n : ℕ) (rule : Rule) → n ≤ 2 → Spends a n rule → Spends a 2 rule
at_most_two a n rule h s = spends-more a n 2 rule h s

spends_follows : (a : Made) (e : NodeEvent) → dials_slot e ≡ false → Spends a (cost e) (follows a e)
spends_follows a Start h = at_most_two a 1 (follows a Start) (omega arith) (spends-tells_connector a ConnectorStart)
spends_follows a (Opened name) h =
    at_most_two a 1 (follows a (Opened name)) (omega arith)
    (spends-cons a 0 1 (opens name) (obeys a name ∷ []) (spends-plain a (opens name) (λ L. refl)) (spends-cons a 1 0 (obeys a name) [] (one_obeys a name) (spends-end a)))
spends_follows a (DialFailed (Hub s)) h = free_ends a (Hub s)
spends_follows a (DialFailed (Direct k)) h = cc
spends_follows a Arrived h = at_most_two a 0 (follows a Arrived) (omega arith) (spends-plain a arrives plain-arrives)
spends_follows a (Came name o) h =
    at_most_two a 1 (follows a (Came name o)) (omega arith)
    (spends-cons a 0 1 (hears a name o) (obeys a name ∷ []) (spends-plain a (hears a name o) (plain-hears a name o)) (spends-cons a 1 0 (obeys a name) [] (one_obeys a name) (spends-end a)))
spends_follows a (CameText name) h = at_most_two a 0 (follows a (CameText name)) (omega arith) (free_closes_link a name (closing 1003 Nothing))
spends_follows a (Lost name) h = at_most_two a 0 (follows a (Lost name)) (omega arith) (free_ends a name)
spends_follows a Tick h = two_time_passes a
spends_follows a (Send dest npdu) h = at_most_two a 0 (follows a (Send dest npdu)) (omega arith) (spends-plain a (sends dest npdu) (plain-sends dest npdu))
spends_follows a (Resolve v) h = at_most_two a 0 (follows a (Resolve v)) (omega arith) (spends-plain a (resolves a v) (plain-resolves a v))
spends_follows a (DirectTo v) h = cc
spends_follows a (Solicit v) h = at_most_two a 0 (follows a (Solicit v)) (omega arith) (spends-plain a (solicits v) (plain-solicits v))
spends_follows a Finish h = at_most_two a 0 (follows a Finish) (omega arith) (free_is_to_end a)
spends_follows a (Random w) h = at_most_two a 0 (follows a (Random w)) (omega arith) (free_renews a)
spends_follows a NoRandom h = at_most_two a 0 (follows a NoRandom) (omega arith) (free_keeps_vmac a)

-- an event comes, and what costs n follows
spends_coming : (a : Made) (n : ℕ) (e : TimedEvent) → Spends a n (follows a e.event) → Spends a n (goes_on a e)
spends_coming a n e s =
    spends-more a (0 + (n + 0)) n (goes_on a e) (omega arith)
    (spends-cons a 0 (n + 0) (λ L. came e ∷ []) (follows a e.event ∷ []) (spends-plain a (λ L. came e ∷ []) (λ L. refl)) (spends-cons a n 0 (follows a e.event) [] s (spends-end a)))

-- What is dialled at such an event, by what the event costs.
pub spent-brought : (a : Made) (L : Log) (e : TimedEvent) → dials_slot e.event ≡ false → Spent a (cost e.event) L (brings_about a e L)
spent-brought a L e h = by (list_any draws (actions_at a L e))
  where
    none : TimedEvent
    none = record { now = e.now; event = NoRandom }

    first : Spends a (cost e.event) (goes_on a e)
    first = spends_coming a (cost e.event) e (spends_follows a e.event h)

    second : Spends a 0 (goes_on a none)
    second = spends_coming a 0 none (free_keeps_vmac a)

    by : (b : Bool) → Spent a (cost e.event) L (in_order (map (goes_on a) (if b then e ∷ none ∷ [] else e ∷ [])) L)
    by false = spends-more a (cost e.event + 0) (cost e.event) (in_order (goes_on a e ∷ [])) (omega arith) (spends-cons a (cost e.event) 0 (goes_on a e) [] first (spends-end a)) L
    by true =
        spends-more a (cost e.event + (0 + 0)) (cost e.event) (in_order (goes_on a e ∷ goes_on a none ∷ [])) (omega arith)
        (spends-cons a (cost e.event) (0 + 0) (goes_on a e) (goes_on a none ∷ []) first (spends-cons a 0 0 (goes_on a none) [] second (spends-end a))) L
