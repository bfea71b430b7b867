-- Between steps no dial that failed waits to be told: each step leaves none where none was.
-- It serves the clauses of `failures_are_all_heard`.
use Rattle.std.proofs.Common.{◌≡◌, ℕ, Bool, true, false, List, [], ◌∷◌, Option, Some, None}
use Rattle.std.specs.Prelude.{if◌then◌else◌, slice_get}
use Rattle.bsc_octets.specs.declared.identity.Identity.{Identity}
use Rattle.bsc_history.specs.declared.call.Call.TheVariants.{Connect, Forward}
use Rattle.bsc_history.specs.declared.reply.Reply.{Reply}
use Rattle.bsc_history.specs.declared.reply.Reply.TheVariants.{Joined, Refused}
use Rattle.bsc_history.specs.declared.ending.End.{End}
use Rattle.bsc_history.specs.Ends.{ended}
use Rattle.bsc_accept.specs.declared.event.Event.{Event}
use Rattle.bsc_accept.specs.declared.event.Event.TheVariants.{Message as Came, Joined as HasJoined, Refused as WasRefused, Ended}
use Rattle.bsc_accept.specs.declared.step.Step.{Step}
use Rattle.bsc_accept.specs.declared.step.Step.TheVariants.{Ask, Up as GoesUp, Put as PutStep, PutClose, Close}
use Rattle.bsc_node.specs.declared.node_event.NodeEvent.TheVariants.{Lost}
use Rattle.bsc_network.specs.declared.way.Way.{Way}
use Rattle.bsc_network.specs.declared.way.Way.TheVariants.{Up, Down}
use Rattle.bsc_network.specs.declared.target.Target.{Target}
use Rattle.bsc_network.specs.declared.target.Target.TheVariants.{Hub as ToHub, Node as ToNode}
use Rattle.bsc_network.specs.declared.parcel.Content.{Content}
use Rattle.bsc_network.specs.declared.parcel.Content.TheVariants.{Message, Closed}
use Rattle.bsc_network.specs.declared.parcel.Parcel.{Parcel}
use Rattle.bsc_network.specs.declared.world_step.WorldStep.{WorldStep}
use Rattle.bsc_network.specs.declared.world_step.WorldStep.TheVariants.{Node as OfNode, Arrive, Lose, Take, Stop}
use Rattle.bsc_network.specs.declared.step_refusal.StepRefusal.{StepRefusal}
use Rattle.bsc_network.specs.declared.timed_step.TimedStep.{TimedStep}
use Rattle.bsc_network.specs.Traffic.{front, without_front}
use Rattle.bsc_network.specs.Worlds.{World, Hub, HubSide, Link, history, traffic, hub_at, node_at, link_at}
use Rattle.bsc_network.specs.Changes.{Change, unchanged, in_order, with_link, with_side, with_traffic, puts_now, with_found, of_hub, by_target}
use Rattle.bsc_network.specs.Outboxes.{Frame, frames}
use Rattle.bsc_network.specs.HubCalls.{called, is_worn, reply_in}
use Rattle.bsc_network.specs.HubSides.{of_side, leaves_as, leaves, closes, unless_over, step_at, told, carries_out as side_carries_out, tells, gets_reply, joins_by, connects}
use Rattle.bsc_network.specs.HubSides.{forwards, verdict_on, acts_on, hears as side_hears, receives}
use Rattle.bsc_network.specs.Taking.{takes_next, takes}
use Rattle.bsc_network.specs.NodeSides.{name_of}
use Rattle.bsc_network.specs.NodeEvents.{comes}
use Rattle.bsc_network.specs.Arriving.{event_of, reaches_node, reaches_side, reaches_hub, reaches, arrives, loses, is_lost}
use Rattle.bsc_network.specs.Refusals.{refusal}
use Rattle.bsc_network.specs.Networks.{does, does_unless, at_time, makes}
use Rattle.bsc_network_laws.proofs.FailuresHeard.{untold-comes}

-- where no dial that failed waits to be told, none does after the change
abbrev Tells : Change → Type 0
Tells c = (w : World) → w.failed ≡ [] → (c w).failed ≡ []

-- ---- changes put together

two : (c d : Change) → Tells c → Tells d → Tells (in_order (c ∷ d ∷ []))
two c d g h w u = h (c w) (g w u)

chosen : (b : Bool) (c d : Change) → Tells c → Tells d → Tells (if b then c else d)
chosen true c d g h = g
chosen false c d g h = h

found : {A : Type 0} (o : Option A) (c : A → Change) → ((x : A) → Tells (c x)) → Tells (with_found o c)
found None c g w u = u
found (Some x) c g w u = g x w u

at_target : (t : Target) (c d : ℕ → Change) → ((j : ℕ) → Tells (c j)) → ((k : ℕ) → Tells (d k)) → Tells (by_target t c d)
at_target (ToHub j) c d g h = g j
at_target (ToNode k) c d g h = h k

at_side : (l : ℕ) (c : ℕ → Hub → Link → Change) → ((j : ℕ) (h : Hub) (link : Link) → Tells (c j h link)) → Tells (of_side l c)
at_side l c g w =
    found (link_at w l) (λ link. by_target link.to (λ j. of_hub j (λ h. c j h link)) (λ n. unchanged))
    (λ link. at_target link.to (λ j. of_hub j (λ h. c j h link)) (λ n. unchanged) (λ j v. found (hub_at v j) (λ h. c j h link) (λ h. g j h link) v) (λ n v u. u)) w

-- ---- the hub's side

leaves_as-tells : (j l : ℕ) (s : HubSide) (o : Option ℕ) → Tells (leaves_as j l s o)
leaves_as-tells j l s None w u = u
leaves_as-tells j l s (Some c) w u = u

pub leaves-tells : (l : ℕ) → Tells (leaves l)
leaves-tells l =
    at_side l (λ j h link. in_order (leaves_as j l link.side link.side.conn ∷ with_side l (λ s. record s { is_over = true }) ∷ []))
    (λ j h link. two (leaves_as j l link.side link.side.conn) (with_side l (λ s. record s { is_over = true })) (leaves_as-tells j l link.side link.side.conn) (λ w u. u))

closes-tells : (l : ℕ) → Tells (closes l)
closes-tells l = two (puts_now l Down Closed) (leaves l) (λ w u. u) (leaves-tells l)

unless_over-tells : (l : ℕ) (c : Change) → Tells c → Tells (unless_over l c)
unless_over-tells l c g = at_side l (λ j h link. if link.side.is_over then unchanged else c) (λ j h link. chosen link.side.is_over unchanged c (λ w u. u) g)

carries_out-tells : (l : ℕ) (t : Step) → Tells (side_carries_out l t)
carries_out-tells l (PutStep o) = λ w u. u
carries_out-tells l (PutClose o c) = two (puts_now l Down (Message o.items)) (closes l) (λ w u. u) (closes-tells l)
carries_out-tells l (Close c) = closes-tells l
carries_out-tells l other = λ w u. u

tells-tells : (l : ℕ) (e : Event) → Tells (tells l e)
tells-tells l e =
    at_side l (λ j h link. in_order (told l e ∷ side_carries_out l (step_at h link e) ∷ []))
    (λ j h link. two (told l e) (side_carries_out l (step_at h link e)) (λ w u. u) (carries_out-tells l (step_at h link e)))

gets_reply-tells : (l : ℕ) (r : Reply) → Tells (gets_reply l r)
gets_reply-tells l (Joined conn replaced) = two (with_side l (λ s. record s { conn = Some conn })) (tells l HasJoined) (λ w u. u) (tells-tells l HasJoined)
gets_reply-tells l (Refused refusal) = tells-tells l (WasRefused refusal)
gets_reply-tells l other = λ w u. u

joins_by-tells : (j l place : ℕ) (who : Identity) (r : Reply) → Tells (joins_by j l place who r)
joins_by-tells j l place who r = two (called j l place (Connect who)) (gets_reply l r) (λ w u. u) (gets_reply-tells l r)

connects-tells : (l place : ℕ) (who : Identity) → Tells (connects l place who)
connects-tells l place who =
    at_side l (λ j h link w. (if is_worn h then closes l else joins_by j l place who (reply_in w h (Connect who))) w)
    (λ j h link w. chosen (is_worn h) (closes l) (joins_by j l place who (reply_in w h (Connect who))) (closes-tells l) (joins_by-tells j l place who (reply_in w h (Connect who))) w)

forwards-tells : (l place : ℕ) (m : List ℕ) → Tells (forwards l place m)
forwards-tells l place m =
    at_side l (λ j h link. with_found link.side.conn (λ c. if is_worn h then closes l else called j l place (Forward c m)))
    (λ j h link. found link.side.conn (λ c. if is_worn h then closes l else called j l place (Forward c m))
    (λ c. chosen (is_worn h) (closes l) (called j l place (Forward c m)) (closes-tells l) (λ w u. u)))

acts_on-tells : (l place : ℕ) (m : List ℕ) (t : Step) → Tells (acts_on l place m t)
acts_on-tells l place m (Ask who) = connects-tells l place who
acts_on-tells l place m GoesUp = forwards-tells l place m
acts_on-tells l place m other = carries_out-tells l other

hears-tells : (l place : ℕ) (m : List ℕ) (e : Event) → Tells (side_hears l place m e)
hears-tells l place m e =
    at_side l (λ j h link. in_order (told l e ∷ acts_on l place m (step_at h link e) ∷ []))
    (λ j h link. two (told l e) (acts_on l place m (step_at h link e)) (λ w u. u) (acts_on-tells l place m (step_at h link e)))

receives-tells : (l place : ℕ) (m : List ℕ) → Tells (receives l place m)
receives-tells l place m =
    at_side l (λ j h link w. side_hears l place m (Came w.now (verdict_on h link m)) w) (λ j h link w. hears-tells l place m (Came w.now (verdict_on h link m)) w)

-- ---- a take

takes_next-tells : (l : ℕ) (f : Option Frame) (ending : Option End) → Tells (takes_next l f ending)
takes_next-tells l (Some f) ending w u = u
takes_next-tells l None (Some ending) w u = tells-tells l (Ended w.now ending) w u
takes_next-tells l None None w u = u

takes-tells : (l : ℕ) → Tells (takes l)
takes-tells l =
    at_side l (λ j h link. with_found link.side.conn (λ c. takes_next l (slice_get (frames h c) link.side.taken) (ended (history h) c)))
    (λ j h link. found link.side.conn (λ c. takes_next l (slice_get (frames h c) link.side.taken) (ended (history h) c))
    (λ c. takes_next-tells l (slice_get (frames h c) link.side.taken) (ended (history h) c)))

-- ---- what arrives, and a loss

reaches_node-tells : (l : ℕ) (way : Way) (x : Parcel) (k : ℕ) → Tells (reaches_node l way x k)
reaches_node-tells l way x k w =
    found (node_at w k) (λ n. with_found (event_of x.content (name_of l way n)) (comes k (Some (record { link = l; way = way; sent_at = x.sent_at }))))
    (λ n. found (event_of x.content (name_of l way n)) (comes k (Some (record { link = l; way = way; sent_at = x.sent_at })))
    (λ e. untold-comes k (Some (record { link = l; way = way; sent_at = x.sent_at })) e)) w

reaches_side-tells : (l place : ℕ) (content : Content) → Tells (reaches_side l place content)
reaches_side-tells l place (Message octets) = receives-tells l place octets
reaches_side-tells l place Closed = leaves-tells l
reaches_side-tells l place content = λ w u. u

reaches-tells : (l : ℕ) (way : Way) (link : Link) (x : Parcel) → Tells (reaches l way link x)
reaches-tells l Down link x = reaches_node-tells l Down x link.from
reaches-tells l Up link x =
    at_target link.to (λ j. reaches_hub l x) (reaches_node l Up x) (λ j. unless_over-tells l (reaches_side l x.sent_at x.content) (reaches_side-tells l x.sent_at x.content))
    (λ k. reaches_node-tells l Up x k)

arrives-tells : (l : ℕ) (way : Way) → Tells (arrives l way)
arrives-tells l way w =
    found (link_at w l) (λ link. with_found (front (traffic way link)) (λ x. in_order (with_link l (with_traffic way without_front) ∷ reaches l way link x ∷ [])))
    (λ link. found (front (traffic way link)) (λ x. in_order (with_link l (with_traffic way without_front) ∷ reaches l way link x ∷ []))
    (λ x. two (with_link l (with_traffic way without_front)) (reaches l way link x) (λ v u. u) (reaches-tells l way link x))) w

pub loses-tells : (l : ℕ) (way : Way) (k : ℕ) → Tells (loses l way k)
loses-tells l way k w =
    found (node_at w k) (λ n. with_found (name_of l way n) (λ name. comes k None (Lost name)))
    (λ n. found (name_of l way n) (λ name. comes k None (Lost name)) (λ name. untold-comes k None (Lost name))) w

is_lost-tells : (l : ℕ) → Tells (is_lost l)
is_lost-tells l w =
    found (link_at w l) (λ link. in_order (with_link l (λ it. record it { is_lost = true }) ∷ loses l Down link.from ∷ by_target link.to (λ j. unless_over l (leaves l)) (loses l Up) ∷ []))
    (λ link v u. at_target link.to (λ j. unless_over l (leaves l)) (loses l Up) (λ j. unless_over-tells l (leaves l) (leaves-tells l)) (λ k. loses-tells l Up k)
    (loses l Down link.from (with_link l (λ it. record it { is_lost = true }) v)) (loses-tells l Down link.from (with_link l (λ it. record it { is_lost = true }) v) u)) w

-- ---- a step

does-tells : (step : WorldStep) → Tells (does step)
does-tells (OfNode k e) w u = untold-comes k None e w u
does-tells (Arrive l way) w u = arrives-tells l way w u
does-tells (Lose l) w u = is_lost-tells l w u
does-tells (Take l) w u = takes-tells l w u
does-tells (Stop j) w u = u

unless-tells : (r : Option StepRefusal) (step : WorldStep) → Tells (does_unless r step)
unless-tells None step w u = does-tells step w u
unless-tells (Some r) step w u = u

-- No dial that failed waits to be told after a step, where none did before it.
pub untold-makes : (w : World) (t : TimedStep) → w.failed ≡ [] → (makes w t).failed ≡ []
untold-makes w t u = unless-tells (refusal w t.step) t.step (at_time t.now w) u
