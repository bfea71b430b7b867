-- What was delivered in a network stays: a step adds to it and takes nothing away.
-- It serves bsc_network_script_laws and bsc_world.
use Rattle.std.proofs.Common.{◌≡◌, ℕ, zero, suc, ◌+◌, Bool, true, false, List, [], ◌∷◌, ◌++◌, length, map, drop, Option, Some, None, refl, ap, sym, ◌∙◌, append-nil, append_assoc}
use Rattle.std.specs.Prelude.{⊤, if◌then◌else◌, filter_map, slice_get}
use Rattle.std.proofs.lemmas.List.Sums.{fold-append}
use Rattle.std.proofs.Math.Seq.{drop-append_seam}
use Rattle.bsc_octets.specs.declared.identity.Identity.{Identity}
use Rattle.bsc_history.specs.declared.call.Call.TheVariants.{Connect, Forward}
use Rattle.bsc_history.specs.declared.reply.Reply.{Reply}
use Rattle.bsc_history.specs.declared.reply.Reply.TheVariants.{Joined, Refused}
use Rattle.bsc_history.specs.declared.ending.End.{End}
use Rattle.bsc_history.specs.Ends.{ended}
use Rattle.bsc_accept.specs.declared.event.Event.{Event}
use Rattle.bsc_accept.specs.declared.event.Event.TheVariants.{Message as Came, Joined as HasJoined, Refused as WasRefused, Ended}
use Rattle.bsc_accept.specs.declared.step.Step.{Step}
use Rattle.bsc_accept.specs.declared.step.Step.TheVariants.{Ask, Up as GoesUp, Put as PutStep, PutClose, Close}
use Rattle.bsc_node.specs.declared.link_name.LinkName.{LinkName}
use Rattle.bsc_node.specs.declared.node_event.NodeEvent.{NodeEvent}
use Rattle.bsc_node.specs.declared.node_event.NodeEvent.TheVariants.{DialFailed, Lost}
use Rattle.bsc_node.specs.declared.timed_event.TimedEvent.{TimedEvent}
use Rattle.bsc_node.specs.declared.action.Action.{Action}
use Rattle.bsc_node.specs.declared.action.Action.TheVariants.{Dial, Take as TakeLink, Refuse, Put, Close as CloseLink, Deliver, Tell, Draw}
use Rattle.bsc_node.specs.Conditions.{fits}
use Rattle.bsc_node.specs.Logs.{action_of}
use Rattle.bsc_network.specs.declared.arrival.Arrival.{Arrival}
use Rattle.bsc_network.specs.declared.way.Way.{Way}
use Rattle.bsc_network.specs.declared.way.Way.TheVariants.{Up, Down}
use Rattle.bsc_network.specs.declared.target.Target.{Target}
use Rattle.bsc_network.specs.declared.target.Target.TheVariants.{Hub as ToHub, Node as ToNode}
use Rattle.bsc_network.specs.declared.parcel.Content.{Content}
use Rattle.bsc_network.specs.declared.parcel.Content.TheVariants.{Message, Closed}
use Rattle.bsc_network.specs.declared.parcel.Parcel.{Parcel}
use Rattle.bsc_network.specs.declared.world_step.WorldStep.{WorldStep}
use Rattle.bsc_network.specs.declared.world_step.WorldStep.TheVariants.{Node as OfNode, Arrive, Lose, Take, Stop}
use Rattle.bsc_network.specs.declared.step_refusal.StepRefusal.{StepRefusal}
use Rattle.bsc_network.specs.declared.timed_step.TimedStep.{TimedStep}
use Rattle.bsc_network.specs.declared.world_delivery.WorldDelivery.{WorldDelivery}
use Rattle.bsc_network.specs.Settings.{Added}
use Rattle.bsc_network.specs.Traffic.{front, without_front}
use Rattle.bsc_network.specs.Worlds.{World, Hub, HubSide, Node, Link, history, traffic, hub_at, node_at, link_at, new_world}
use Rattle.bsc_network.specs.Changes.{Change, unchanged, in_order, with_node, with_link, with_side, with_traffic, puts_at, puts_now, with_found, of_hub, of_node, of_link, by_target}
use Rattle.bsc_network.specs.Outboxes.{Frame, frames}
use Rattle.bsc_network.specs.HubCalls.{called, is_worn, reply_in}
use Rattle.bsc_network.specs.HubSides.{of_side, leaves_as, leaves, closes, unless_over, step_at, told, carries_out as side_carries_out, tells, gets_reply, joins_by, connects}
use Rattle.bsc_network.specs.HubSides.{forwards, verdict_on, acts_on, hears as side_hears, receives}
use Rattle.bsc_network.specs.Taking.{takes_next, takes}
use Rattle.bsc_network.specs.NodeSides.{hold_of, name_of, puts_on, puts_by}
use Rattle.bsc_network.specs.Dialling.{leads_to, dials_to}
use Rattle.bsc_network.specs.NodeEvents.{takes_as, refuses, delivers, carries_out, brings_about, hears, comes_once, forgets_failure, hears_failures, most_failures, hears_all_failures, comes}
use Rattle.bsc_network.specs.Arriving.{event_of, reaches_node, reaches_side, reaches_hub, reaches, arrives, loses, is_lost}
use Rattle.bsc_network.specs.Refusals.{refusal}
use Rattle.bsc_network.specs.Networks.{does, does_unless, at_time, makes, delivered_at, deliveries, world}

-- ---- what grows

-- what was delivered in the one was delivered in the other, and this behind it
abbrev Grows : World → World → Type 0
Grows u v = (more : List WorldDelivery) × (v.delivered ≡ u.delivered ++ more)

abbrev GrowsBy : Change → Type 0
GrowsBy c = (w : World) → Grows w (c w)

no_more : (w : World) → Grows w w
no_more w = ([], sym (append-nil w.delivered))

then_more : (u v w : World) → Grows u v → Grows v w → Grows u w
then_more u v w g h = (g.0 ++ h.0, h.1 ∙ ap (λ d. d ++ h.0) g.1 ∙ append_assoc u.delivered g.0 h.0)

-- ---- changes put together

abbrev AllGrow : List Change → Type 0
AllGrow [] = ⊤
AllGrow (c ∷ cs) = GrowsBy c × AllGrow cs

all_grow : (cs : List Change) → AllGrow cs → GrowsBy (in_order cs)
all_grow [] a w = no_more w
all_grow (c ∷ cs) a w = then_more w (c w) (in_order cs (c w)) (a.0 w) (all_grow cs a.1 (c w))

two : (c d : Change) → GrowsBy c → GrowsBy d → GrowsBy (in_order (c ∷ d ∷ []))
two c d g h w = then_more w (c w) (d (c w)) (g w) (h (c w))

chosen : (b : Bool) (c d : Change) → GrowsBy c → GrowsBy d → GrowsBy (if b then c else d)
chosen true c d g h = g
chosen false c d g h = h

found : {A : Type 0} (o : Option A) (c : A → Change) → ((x : A) → GrowsBy (c x)) → GrowsBy (with_found o c)
found None c g w = no_more w
found (Some x) c g w = g x w

at_hub : (j : ℕ) (c : Hub → Change) → ((h : Hub) → GrowsBy (c h)) → GrowsBy (of_hub j c)
at_hub j c g w = found (hub_at w j) c g w

at_node : (k : ℕ) (c : Node → Change) → ((n : Node) → GrowsBy (c n)) → GrowsBy (of_node k c)
at_node k c g w = found (node_at w k) c g w

at_link : (l : ℕ) (c : Link → Change) → ((link : Link) → GrowsBy (c link)) → GrowsBy (of_link l c)
at_link l c g w = found (link_at w l) c g w

at_target : (t : Target) (c d : ℕ → Change) → ((j : ℕ) → GrowsBy (c j)) → ((k : ℕ) → GrowsBy (d k)) → GrowsBy (by_target t c d)
at_target (ToHub j) c d g h = g j
at_target (ToNode k) c d g h = h k

at_side : (l : ℕ) (c : ℕ → Hub → Link → Change) → ((j : ℕ) (h : Hub) (link : Link) → GrowsBy (c j h link)) → GrowsBy (of_side l c)
at_side l c g =
    at_link l (λ link. by_target link.to (λ j. of_hub j (λ h. c j h link)) (λ n. unchanged))
    (λ link. at_target link.to (λ j. of_hub j (λ h. c j h link)) (λ n. unchanged) (λ j. at_hub j (λ h. c j h link) (λ h. g j h link)) (λ n w. no_more w))

-- ---- the hub's side

leaves_as-grows : (j l : ℕ) (s : HubSide) (o : Option ℕ) → GrowsBy (leaves_as j l s o)
leaves_as-grows j l s None w = no_more w
leaves_as-grows j l s (Some c) w = no_more w

leaves-grows : (l : ℕ) → GrowsBy (leaves l)
leaves-grows l =
    at_side l (λ j h link. in_order (leaves_as j l link.side link.side.conn ∷ with_side l (λ s. record s { is_over = true }) ∷ []))
    (λ j h link. two (leaves_as j l link.side link.side.conn) (with_side l (λ s. record s { is_over = true })) (leaves_as-grows j l link.side link.side.conn) (λ w. no_more w))

closes-grows : (l : ℕ) → GrowsBy (closes l)
closes-grows l = two (puts_now l Down Closed) (leaves l) (λ w. no_more w) (leaves-grows l)

unless_over-grows : (l : ℕ) (c : Change) → GrowsBy c → GrowsBy (unless_over l c)
unless_over-grows l c g =
    at_side l (λ j h link. if link.side.is_over then unchanged else c) (λ j h link. chosen link.side.is_over unchanged c (λ w. no_more w) g)

side_carries_out-grows : (l : ℕ) (t : Step) → GrowsBy (side_carries_out l t)
side_carries_out-grows l (PutStep o) = λ w. no_more w
side_carries_out-grows l (PutClose o c) = two (puts_now l Down (Message o.items)) (closes l) (λ w. no_more w) (closes-grows l)
side_carries_out-grows l (Close c) = closes-grows l
side_carries_out-grows l other = λ w. no_more w

tells-grows : (l : ℕ) (e : Event) → GrowsBy (tells l e)
tells-grows l e =
    at_side l (λ j h link. in_order (told l e ∷ side_carries_out l (step_at h link e) ∷ []))
    (λ j h link. two (told l e) (side_carries_out l (step_at h link e)) (λ w. no_more w) (side_carries_out-grows l (step_at h link e)))

gets_reply-grows : (l : ℕ) (r : Reply) → GrowsBy (gets_reply l r)
gets_reply-grows l (Joined conn replaced) = two (with_side l (λ s. record s { conn = Some conn })) (tells l HasJoined) (λ w. no_more w) (tells-grows l HasJoined)
gets_reply-grows l (Refused refusal) = tells-grows l (WasRefused refusal)
gets_reply-grows l other = λ w. no_more w

joins_by-grows : (j l place : ℕ) (who : Identity) (r : Reply) → GrowsBy (joins_by j l place who r)
joins_by-grows j l place who r = two (called j l place (Connect who)) (gets_reply l r) (λ w. no_more w) (gets_reply-grows l r)

connects-grows : (l place : ℕ) (who : Identity) → GrowsBy (connects l place who)
connects-grows l place who =
    at_side l (λ j h link w. (if is_worn h then closes l else joins_by j l place who (reply_in w h (Connect who))) w)
    (λ j h link w. chosen (is_worn h) (closes l) (joins_by j l place who (reply_in w h (Connect who))) (closes-grows l) (joins_by-grows j l place who (reply_in w h (Connect who))) w)

forwards-grows : (l place : ℕ) (m : List ℕ) → GrowsBy (forwards l place m)
forwards-grows l place m =
    at_side l (λ j h link. with_found link.side.conn (λ c. if is_worn h then closes l else called j l place (Forward c m)))
    (λ j h link. found link.side.conn (λ c. if is_worn h then closes l else called j l place (Forward c m))
    (λ c. chosen (is_worn h) (closes l) (called j l place (Forward c m)) (closes-grows l) (λ w. no_more w)))

acts_on-grows : (l place : ℕ) (m : List ℕ) (t : Step) → GrowsBy (acts_on l place m t)
acts_on-grows l place m (Ask who) = connects-grows l place who
acts_on-grows l place m GoesUp = forwards-grows l place m
acts_on-grows l place m other = side_carries_out-grows l other

side_hears-grows : (l place : ℕ) (m : List ℕ) (e : Event) → GrowsBy (side_hears l place m e)
side_hears-grows l place m e =
    at_side l (λ j h link. in_order (told l e ∷ acts_on l place m (step_at h link e) ∷ []))
    (λ j h link. two (told l e) (acts_on l place m (step_at h link e)) (λ w. no_more w) (acts_on-grows l place m (step_at h link e)))

receives-grows : (l place : ℕ) (m : List ℕ) → GrowsBy (receives l place m)
receives-grows l place m =
    at_side l (λ j h link w. side_hears l place m (Came w.now (verdict_on h link m)) w)
    (λ j h link w. side_hears-grows l place m (Came w.now (verdict_on h link m)) w)

-- ---- a take

takes_next-grows : (l : ℕ) (f : Option Frame) (ending : Option End) → GrowsBy (takes_next l f ending)
takes_next-grows l (Some f) ending w =
    two (with_side l (λ s. record s { taken = s.taken + 1 })) (puts_at l Down f.sent_at (Message f.octets)) (λ v. no_more v) (λ v. no_more v) w
takes_next-grows l None (Some ending) w = tells-grows l (Ended w.now ending) w
takes_next-grows l None None w = no_more w

takes-grows : (l : ℕ) → GrowsBy (takes l)
takes-grows l =
    at_side l (λ j h link. with_found link.side.conn (λ c. takes_next l (slice_get (frames h c) link.side.taken) (ended (history h) c)))
    (λ j h link. found link.side.conn (λ c. takes_next l (slice_get (frames h c) link.side.taken) (ended (history h) c))
    (λ c. takes_next-grows l (slice_get (frames h c) link.side.taken) (ended (history h) c)))

-- ---- a node

puts_by-grows : (k : ℕ) (name : LinkName) (content : Content) → GrowsBy (puts_by k name content)
puts_by-grows k name content =
    at_node k (λ n. with_found (hold_of name n) (puts_on content)) (λ n. found (hold_of name n) (puts_on content) (λ held w. no_more w))

dials_to-grows : (k : ℕ) (name : LinkName) (t : Option Target) → GrowsBy (dials_to k name t)
dials_to-grows k name (Some t) w = no_more w
dials_to-grows k name None w = no_more w

-- An action adds to what was delivered where it delivers.
carries_out-grows : (k : ℕ) (by : Option Arrival) (a : Action) → GrowsBy (carries_out k by a)
carries_out-grows k by (Dial name uri) w = dials_to-grows k name (leads_to w uri) w
carries_out-grows k by (TakeLink name) w = found by (takes_as k name) (λ x v. no_more v) w
carries_out-grows k by (Refuse closing) w = found by refuses (λ x v. no_more v) w
carries_out-grows k by (Put name octets) w = puts_by-grows k name (Message octets) w
carries_out-grows k by (CloseLink name closing) w = puts_by-grows k name Closed w
carries_out-grows k by (Deliver delivered) w = found by (delivers k delivered) (λ x v. (record { sent_at = x.sent_at; node = k; delivered = delivered } ∷ [], refl)) w
carries_out-grows k by (Tell note) w = no_more w
carries_out-grows k by Draw w = no_more w

actions_grow : (k : ℕ) (by : Option Arrival) (actions : List Action) → AllGrow (map (carries_out k by) actions)
actions_grow k by [] = tt
actions_grow k by (a ∷ actions) = (carries_out-grows k by a, actions_grow k by actions)

hears-grows : (k : ℕ) (by : Option Arrival) (e : TimedEvent) (n : Node) → GrowsBy (hears k by e n)
hears-grows k by e n w =
    let first : Change = with_node k (λ m. record m { log = m.log ++ brings_about m.made e m.log }) in
    all_grow (first ∷ map (carries_out k by) (filter_map action_of (brings_about n.made e n.log))) ((λ v. no_more v), actions_grow k by (filter_map action_of (brings_about n.made e n.log))) w

comes_once-grows : (k : ℕ) (by : Option Arrival) (e : NodeEvent) → GrowsBy (comes_once k by e)
comes_once-grows k by e =
    at_node k (λ n w. (if fits n.log e then hears k by (record { now = w.now; event = e }) n else unchanged) w)
    (λ n w. chosen (fits n.log e) (hears k by (record { now = w.now; event = e }) n) unchanged (hears-grows k by (record { now = w.now; event = e }) n) (λ v. no_more v) w)

failures_grow : (most k : ℕ) (names : List LinkName) → GrowsBy (hears_failures most k names)
failures_grow most k [] w = no_more w
failures_grow zero k (name ∷ names) w = no_more w
failures_grow (suc most) k (name ∷ names) w =
    let then_told : World = comes_once k None (DialFailed name) (forgets_failure names w) in
    then_more w then_told (hears_failures most k then_told.failed then_told) (comes_once-grows k None (DialFailed name) (forgets_failure names w)) (failures_grow most k then_told.failed then_told)

comes-grows : (k : ℕ) (by : Option Arrival) (e : NodeEvent) → GrowsBy (comes k by e)
comes-grows k by e =
    at_node k (λ n. in_order (comes_once k by e ∷ hears_all_failures (most_failures n) k ∷ []))
    (λ n. two (comes_once k by e) (hears_all_failures (most_failures n) k) (comes_once-grows k by e) (λ w. failures_grow (most_failures n) k w.failed w))

-- ---- what arrives, and a loss

reaches_node-grows : (l : ℕ) (way : Way) (x : Parcel) (k : ℕ) → GrowsBy (reaches_node l way x k)
reaches_node-grows l way x k =
    let by : Option Arrival = Some (record { link = l; way = way; sent_at = x.sent_at }) in
    at_node k (λ n. with_found (event_of x.content (name_of l way n)) (comes k by)) (λ n. found (event_of x.content (name_of l way n)) (comes k by) (λ e. comes-grows k by e))

reaches_side-grows : (l place : ℕ) (content : Content) → GrowsBy (reaches_side l place content)
reaches_side-grows l place (Message octets) = receives-grows l place octets
reaches_side-grows l place Closed = leaves-grows l
reaches_side-grows l place content = λ w. no_more w

reaches_hub-grows : (l : ℕ) (x : Parcel) → GrowsBy (reaches_hub l x)
reaches_hub-grows l x = unless_over-grows l (reaches_side l x.sent_at x.content) (reaches_side-grows l x.sent_at x.content)

reaches-grows : (l : ℕ) (way : Way) (link : Link) (x : Parcel) → GrowsBy (reaches l way link x)
reaches-grows l Down link x = reaches_node-grows l Down x link.from
reaches-grows l Up link x = at_target link.to (λ j. reaches_hub l x) (reaches_node l Up x) (λ j. reaches_hub-grows l x) (λ k. reaches_node-grows l Up x k)

arrives-grows : (l : ℕ) (way : Way) → GrowsBy (arrives l way)
arrives-grows l way =
    at_link l (λ link. with_found (front (traffic way link)) (λ x. in_order (with_link l (with_traffic way without_front) ∷ reaches l way link x ∷ [])))
    (λ link. found (front (traffic way link)) (λ x. in_order (with_link l (with_traffic way without_front) ∷ reaches l way link x ∷ []))
    (λ x. two (with_link l (with_traffic way without_front)) (reaches l way link x) (λ w. no_more w) (reaches-grows l way link x)))

loses-grows : (l : ℕ) (way : Way) (k : ℕ) → GrowsBy (loses l way k)
loses-grows l way k =
    at_node k (λ n. with_found (name_of l way n) (λ name. comes k None (Lost name))) (λ n. found (name_of l way n) (λ name. comes k None (Lost name)) (λ name. comes-grows k None (Lost name)))

is_lost-grows : (l : ℕ) → GrowsBy (is_lost l)
is_lost-grows l =
    at_link l (λ link. in_order (with_link l (λ it. record it { is_lost = true }) ∷ loses l Down link.from ∷ by_target link.to (λ j. unless_over l (leaves l)) (loses l Up) ∷ []))
    (λ link. all_grow (with_link l (λ it. record it { is_lost = true }) ∷ loses l Down link.from ∷ by_target link.to (λ j. unless_over l (leaves l)) (loses l Up) ∷ []) (
      (λ w. no_more w),
      (
        loses-grows l Down link.from,
        (
          at_target link.to (λ j. unless_over l (leaves l)) (loses l Up) (λ j. unless_over-grows l (leaves l) (leaves-grows l))
              (λ k. loses-grows l Up k),
          tt,
        ),
      ),
    ))

-- ---- a step

does-grows : (step : WorldStep) → GrowsBy (does step)
does-grows (OfNode k e) w = comes-grows k None e w
does-grows (Arrive l way) w = arrives-grows l way w
does-grows (Lose l) w = is_lost-grows l w
does-grows (Take l) w = takes-grows l w
does-grows (Stop j) w = no_more w

does_unless-grows : (r : Option StepRefusal) (step : WorldStep) → GrowsBy (does_unless r step)
does_unless-grows None step w = does-grows step w
does_unless-grows (Some r) step w = no_more w

makes-grows : (w : World) (t : TimedStep) → Grows w (makes w t)
makes-grows w t = does_unless-grows (refusal w t.step) t.step (at_time t.now w)

-- What was delivered after a step is what was delivered before it, and what is delivered at it.
pub added_at : (w : World) (t : TimedStep) → (makes w t).delivered ≡ w.delivered ++ delivered_at w t
added_at w t =
    let g = makes-grows w t in
    let rest : delivered_at w t ≡ g.0 = ap (λ d. drop (length w.delivered) d) g.1 ∙ drop-append_seam w.delivered g.0 in
    g.1 ∙ ap (λ m. w.delivered ++ m) (sym rest)

-- What a network delivers after one step more.
pub delivers_more : (added : List Added) (steps : List TimedStep) (t : TimedStep) → deliveries added (steps ++ t ∷ []) ≡ deliveries added steps ++ delivered_at (world added steps) t
delivers_more added steps t = ap (λ (w : World). w.delivered) (fold-append makes (new_world added) steps (t ∷ [])) ∙ added_at (world added steps) t
