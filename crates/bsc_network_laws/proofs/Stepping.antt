-- What holds of each move holds of each step of a network.
-- It serves clauses of functions of `laws`.
use Rattle.std.proofs.Common.{◌≡◌, inl, inr, ℕ, zero, suc, Bool, true, false, not, List, [], ◌∷◌, Option, Some, None, refl, ap, sym, arith, ◌∙◌}
use Rattle.std.specs.Prelude.{◌+◌, ◌&&◌, if◌then◌else◌, is_some}
use Rattle.std.specs.Option.{option_map}
use Rattle.bsc_history.specs.declared.call.Call.TheVariants.{Stop as StopCall}
use Rattle.bsc_history.specs.Replies.{is_stopped}
use Rattle.bsc_accept.specs.Past.{phase}
use Rattle.bsc_script.specs.Emptying.{is_connected}
use Rattle.bsc_node.specs.declared.link_name.LinkName.{LinkName}
use Rattle.bsc_node.specs.declared.node_event.NodeEvent.{NodeEvent}
use Rattle.bsc_node.specs.declared.node_event.NodeEvent.TheVariants.{DialFailed, Lost}
use Rattle.bsc_node.specs.Conditions.{fits}
use Rattle.bsc_network.specs.declared.way.Way.{Way}
use Rattle.bsc_network.specs.declared.way.Way.TheVariants.{Up, Down}
use Rattle.bsc_network.specs.declared.target.Target.{Target}
use Rattle.bsc_network.specs.declared.target.Target.TheVariants.{Hub as ToHub, Node as ToNode}
use Rattle.bsc_network.specs.declared.arrival.Arrival.{Arrival}
use Rattle.bsc_network.specs.declared.parcel.Parcel.{Parcel}
use Rattle.bsc_network.specs.declared.parcel.Content.{Content}
use Rattle.bsc_network.specs.declared.parcel.Content.TheVariants.{Message, Closed}
use Rattle.bsc_network.specs.declared.world_step.WorldStep.{WorldStep}
use Rattle.bsc_network.specs.declared.world_step.WorldStep.TheVariants.{Node as OfNode, Arrive, Lose, Take, Stop}
use Rattle.bsc_network.specs.declared.timed_step.TimedStep.{TimedStep}
use Rattle.bsc_network.specs.declared.step_refusal.StepRefusal.{StepRefusal}
use Rattle.bsc_network.specs.declared.step_refusal.StepRefusal.TheVariants.{NotNow, NoLink, NothingThere, AlreadyStopped}
use Rattle.bsc_network.specs.Traffic.{Traffic, front, without_front}
use Rattle.bsc_network.specs.Worlds.{World, Hub, Node, Link, history, traffic, hub_at, node_at, link_at}
use Rattle.bsc_network.specs.Changes.{Change, unchanged, in_order, with_found, with_link, with_traffic, by_target}
use Rattle.bsc_network.specs.HubCalls.{called, no_link}
use Rattle.bsc_network.specs.HubSides.{leaves, unless_over}
use Rattle.bsc_network.specs.NodeSides.{name_of}
use Rattle.bsc_network.specs.NodeEvents.{hears, comes_once, forgets_failure, hears_failures, hears_all_failures, most_failures, comes}
use Rattle.bsc_network.specs.Arriving.{event_of, reaches_node, reaches_side, reaches_hub, reaches, arrives, loses, is_lost}
use Rattle.bsc_network.specs.Refusals.{unless, is_own, is_timely, refuses_event, refuses_link, leads_to_hub, has_outbox, refuses_stop, refusal}
use Rattle.bsc_network.specs.Networks.{does, does_unless, at_time, makes}
use Rattle.bsc_network.proofs.Places.{kept-at, get-changed}
use Rattle.bsc_network_laws.specs.Ends.{receiver}
use Rattle.bsc_network_laws.proofs.Moves.{IsSide, HasArrived, IsHeardBy, Comes, Lets as LetsEach, LetsWhole}
use Rattle.bsc_network_laws.proofs.Beginning.{after_arrival, ComesFirst, LetsStep as Lets, LetsFrom, step-whole, step-from}
use Rattle.bsc_network_laws.proofs.Sides.{lets-of_side, going_on}
use Rattle.bsc_network_laws.proofs.Whole.{as_whole}
use Rattle.bsc_network_laws.proofs.Making.{found, chosen, lets-leaves, lets-receives, lets-takes}
use Rattle.bsc_lemmas.proofs.Booleans.{and_left, and_right, not_true as not_not}
use Rattle.std.proofs.lemmas.Option.{same_Some as some_same}

-- ---- an event comes to a node

lets-once : (B : World) (D : WorldStep) (R : World → World → Type 0) → Lets B D R → (w : World) (k : ℕ) (by : Option Arrival) (e : NodeEvent)
    → ((n : Node) → node_at w k ≡ Some n → Comes D w k n by e) → ComesFirst B w by e → R w (comes_once k by e w)
lets-once B D R M w k by e come first =
    found R (node_at w k) (λ n w. (if fits n.log e then hears k by (record { now = w.now; event = e }) n else unchanged) w) w (M.none w) (λ n here.
    chosen R (fits n.log e) (hears k by (record { now = w.now; event = e }) n) unchanged w (λ fit. M.each.hears w k n by e here (come n here) fit first) (λ dropped. M.none w))

lets-failures : (B : World) (D : WorldStep) (R : World → World → Type 0) → Lets B D R → (most k : ℕ) (names : List LinkName) (w : World) → R w (hears_failures most k names w)
lets-failures B D R M most k [] w = M.none w
lets-failures B D R M zero k (name ∷ names) w = M.each.forgets w []
lets-failures B D R M (suc most) k (name ∷ names) w =
    let v = forgets_failure names w in
    let told : World = comes_once k None (DialFailed name) v in
    M.then w v (hears_failures most k told.failed told) (M.each.forgets w names)
    (M.then v told (hears_failures most k told.failed told) (lets-once B D R M v k None (DialFailed name) (λ n here. inr (inr (name, refl))) (λ own. absurd (no_own own)))
    (lets-failures B D R M most k told.failed told))
  where
    no_own : is_own (DialFailed name) ≡ true → ⊥
    no_own own = cc

-- What holds of each move holds where an event comes to a node.
pub lets-comes : (B : World) (D : WorldStep) (R : World → World → Type 0) → Lets B D R → (w : World) (k : ℕ) (by : Option Arrival) (e : NodeEvent)
    → ((n : Node) → node_at w k ≡ Some n → Comes D w k n by e) → ComesFirst B w by e → R w (comes k by e w)
lets-comes B D R M w k by e come first =
    found R (node_at w k) (λ n. in_order (comes_once k by e ∷ hears_all_failures (most_failures n) k ∷ [])) w (M.none w) (λ n here.
    let v : World = comes_once k by e w in
    M.then w v (hears_all_failures (most_failures n) k v) (lets-once B D R M w k by e come first) (lets-failures B D R M (most_failures n) k v.failed v))

-- ---- what arrives at a node

lets-reaches_node : (B : World) (D : WorldStep) (R : World → World → Type 0) → Lets B D R → (w : World) (l : ℕ) (way : Way) (k : ℕ) (content : Content) (place : ℕ) → IsHeardBy w l way k
    → HasArrived w l way (record { content = content; sent_at = place })
    → w ≡ after_arrival l way B → R w (reaches_node l way (record { content = content; sent_at = place }) k w)
lets-reaches_node B D R M w l way k content place heard came first =
    let by : Option Arrival = Some (record { link = l; way = way; sent_at = place }) in
    found R (node_at w k) (λ n. with_found (event_of content (name_of l way n)) (comes k by)) w (M.none w) (λ n here.
    found R (event_of content (name_of l way n)) (comes k by) w (M.none w) (λ e is.
    lets-comes B D R M w k by e (λ m again. (content, heard, came, ap (λ (x : Node). event_of content (name_of l way x)) (some_same m n (sym again ∙ here)) ∙ is)) first))

-- ---- what arrives at a hub's side

lets-reaches_hub : (B : World) (D : WorldStep) (R : World → World → Type 0) → Lets B D R → (w : World) (l : ℕ) (content : Content) (place : ℕ)
    → HasArrived w l Up (record { content = content; sent_at = place })
    → w ≡ after_arrival l Up B → R w (reaches_hub l (record { content = content; sent_at = place }) w)
lets-reaches_hub B D R M w l content place came first =
    lets-of_side R w l (λ j h link. if link.side.is_over then unchanged else reaches_side l place content) (M.none w) (λ j h k side.
    chosen R k.side.is_over unchanged (reaches_side l place content) w (λ over. M.none w) (λ goes. by content j h k (going_on w l j h k side goes) came))
  where
    by : (content : Content) (j : ℕ) (h : Hub) (k : Link) → IsSide w l j h k → HasArrived w l Up (record { content = content; sent_at = place }) → R w (reaches_side l place content w)
    by (Message o) j h k side came = lets-receives B D R M w l j place h k o side came first
    by Closed j h k side came = lets-leaves B D R M w l j h k side
    by content j h k side came = M.none w

-- ---- by what a link leads to

target : (R : World → World → Type 0) (w : World) (t : Target) (at_hub at_node : ℕ → Change) → ((j : ℕ) → t ≡ ToHub j → R w (at_hub j w)) → ((k : ℕ) → t ≡ ToNode k → R w (at_node k w))
    → R w (by_target t at_hub at_node w)
target R w (ToHub j) at_hub at_node f g = f j refl
target R w (ToNode k) at_hub at_node f g = g k refl

-- ---- the front of a way

pub traffic-with : (way : Way) (f : Traffic → Traffic) (k : Link) → traffic way (with_traffic way f k) ≡ f (traffic way k)
traffic-with Up f k = refl
traffic-with Down f k = refl

receiver-with : (way on : Way) (f : Traffic → Traffic) (k : Link) → receiver way (with_traffic on f k) ≡ receiver way k
receiver-with Up Up f k = refl
receiver-with Up Down f k = refl
receiver-with Down Up f k = refl
receiver-with Down Down f k = refl

-- what was at the front has arrived
front_arrived : (w : World) (l : ℕ) (way : Way) (k : Link) (x : Parcel) → link_at w l ≡ Some k → front (traffic way k) ≡ Some x → HasArrived (with_link l (with_traffic way without_front) w) l way x
front_arrived w l way k x here is = record {
  on = without_front (traffic way k);
  found = ap (option_map (traffic way)) (get-changed l (with_traffic way without_front) w.links ∙ ap (option_map (with_traffic way without_front)) here) ∙ ap Some (traffic-with way without_front k);
  place = (traffic way k).arrived;
  here = is;
  last = omega arith;
}

heard_at : (w : World) (l : ℕ) (way on : Way) (f : Traffic → Traffic) (k : Link) (t : Target) → link_at w l ≡ Some k → receiver way k ≡ t
    → option_map (receiver way) (link_at (with_link l (with_traffic on f) w) l) ≡ Some t
heard_at w l way on f k t here is = kept-at (receiver way) l (with_traffic on f) (receiver-with way on f) w.links l ∙ ap (option_map (receiver way)) here ∙ ap Some is

lets-reaches : (B : World) (D : WorldStep) (R : World → World → Type 0) → Lets B D R → (w v : World) (l : ℕ) (way : Way) (k : Link) (content : Content) (place : ℕ)
    → ((t : Target) → receiver way k ≡ t → option_map (receiver way) (link_at v l) ≡ Some t)
    → HasArrived v l way (record { content = content; sent_at = place }) → v ≡ after_arrival l way B → R v (reaches l way k (record { content = content; sent_at = place }) v)
lets-reaches B D R M w v l Down k content place heard came first = lets-reaches_node B D R M v l Down k.from content place (heard (ToNode k.from) refl) came first
lets-reaches B D R M w v l Up k content place heard came first =
    target R v k.to (λ j. reaches_hub l (record { content = content; sent_at = place })) (reaches_node l Up (record { content = content; sent_at = place }))
    (λ j leads. lets-reaches_hub B D R M v l content place came first) (λ i leads. lets-reaches_node B D R M v l Up i content place (heard (ToNode i) leads) came first)

lets-arrives : (w : World) (D : WorldStep) (R : World → World → Type 0) → Lets w D R → (l : ℕ) (way : Way) → R w (arrives l way w)
lets-arrives w D R M l way =
    found R (link_at w l) (λ link. with_found (front (traffic way link)) (λ x. in_order (with_link l (with_traffic way without_front) ∷ reaches l way link x ∷ []))) w (M.none w) (λ k here.
    found R (front (traffic way k)) (λ x. in_order (with_link l (with_traffic way without_front) ∷ reaches l way k x ∷ [])) w (M.none w) (λ x is.
    let v = with_link l (with_traffic way without_front) w in
    M.then w v (reaches l way k x v) (M.each.arrives w l way k x here is)
    (lets-reaches w D R M w v l way k x.content x.sent_at (λ t to. heard_at w l way way without_front k t here to) (front_arrived w l way k x here is) refl)))

-- ---- the loss of a link

pub lets-loses : (B : World) (D : WorldStep) (R : World → World → Type 0) → Lets B D R → (w : World) (l : ℕ) (way : Way) (k : ℕ) → R w (loses l way k w)
lets-loses B D R M w l way k =
    found R (node_at w k) (λ n. with_found (name_of l way n) (λ name. comes k None (Lost name))) w (M.none w) (λ n here.
    found R (name_of l way n) (λ name. comes k None (Lost name)) w (M.none w) (λ name is.
    lets-comes B D R M w k None (Lost name) (λ m again. inr (inl (l, way, name, refl, ap (name_of l way) (some_same m n (sym again ∙ here)) ∙ is))) (λ own. absurd (no_own name own))))
  where
    no_own : (name : LinkName) → is_own (Lost name) ≡ true → ⊥
    no_own name own = cc

lets-side_lost : (B : World) (D : WorldStep) (R : World → World → Type 0) → Lets B D R → (w : World) (l : ℕ) → R w (unless_over l (leaves l) w)
lets-side_lost B D R M w l =
    lets-of_side R w l (λ j h link. if link.side.is_over then unchanged else leaves l) (M.none w) (λ j h k side.
    chosen R k.side.is_over unchanged (leaves l) w (λ over. M.none w) (λ goes. lets-leaves B D R M w l j h k (going_on w l j h k side goes)))

lets-is_lost : (B : World) (D : WorldStep) (R : World → World → Type 0) → Lets B D R → (w : World) (l : ℕ) → R w (is_lost l w)
lets-is_lost B D R M w l =
    found R (link_at w l) (λ link. in_order (with_link l (λ it. record it { is_lost = true }) ∷ loses l Down link.from ∷ by_target link.to (λ j. unless_over l (leaves l)) (loses l Up)
    ∷ [])) w (M.none w) (λ k here.
    let gone = with_link l (λ it. record it { is_lost = true }) w in
    let told = loses l Down k.from gone in
    let last = by_target k.to (λ j. unless_over l (leaves l)) (loses l Up) told in
    M.then w gone last (M.each.loses w l)
    (M.then gone told last (lets-loses B D R M gone l Down k.from)
    (target R told k.to (λ j. unless_over l (leaves l)) (loses l Up) (λ j leads. lets-side_lost B D R M told l) (λ i leads. lets-loses B D R M told l Up i))))

-- ---- a step

own_event : (o : Option Node) (n : Node) (e : NodeEvent) → refuses_event e o ≡ None → o ≡ Some n → is_own e ≡ true
own_event None n e h is = cc
own_event (Some m) n e h is = by (is_own e && is_timely m e) refl h
  where
    by : (b : Bool) → (is_own e && is_timely m e) ≡ b → unless b NotNow ≡ None → is_own e ≡ true
    by true passes g = and_left (is_own e) (is_timely m e) passes
    by false passes g = cc

lets-stop : (B : World) (D : WorldStep) (R : World → World → Type 0) → Lets B D R → (w : World) (j : ℕ) (o : Option Hub) → hub_at w j ≡ o → refuses_stop o ≡ None
    → R w (called j no_link w.steps StopCall w)
lets-stop B D R M w j None at h = cc
lets-stop B D R M w j (Some hub) at h = by (is_stopped (history hub)) refl h
  where
    by : (b : Bool) → is_stopped (history hub) ≡ b → unless (not b) AlreadyStopped ≡ None → R w (called j no_link w.steps StopCall w)
    by true is g = cc
    by false is g = M.each.stops w j hub at is

-- who takes has a session that isn't over
takes_going : (o : Option Link) (k : Link) → refuses_link has_outbox o ≡ None → o ≡ Some k → k.side.is_over ≡ false
takes_going None k h is = cc
takes_going (Some x) k h is = at_lost x.is_lost h
  where
    at_outbox : (b : Bool) → has_outbox x ≡ b → unless b NothingThere ≡ None → k.side.is_over ≡ false
    at_outbox false has g = cc
    at_outbox true has g =
        let s = x.side in
        let may = and_right (leads_to_hub x.to) (is_some s.conn && is_connected (phase s.events) && not s.is_over) has in
        ap (λ (y : Link). y.side.is_over) (sym (some_same x k is)) ∙ not_not s.is_over (and_right (is_some s.conn && is_connected (phase s.events)) (not s.is_over) may)

    at_lost : (b : Bool) → (if b then Some NoLink else unless (has_outbox x) NothingThere) ≡ None → k.side.is_over ≡ false
    at_lost true g = cc
    at_lost false g = at_outbox (has_outbox x) refl g

lets-does : (w : World) (D : WorldStep) (R : World → World → Type 0) → Lets w D R → refusal w D ≡ None → R w (does D w)
lets-does w (OfNode k e) R M h = lets-comes w (OfNode k e) R M w k None e (λ n here. inl (refl, own_event (node_at w k) n e h here)) (λ own. refl)
lets-does w (Arrive l way) R M h = lets-arrives w (Arrive l way) R M l way
lets-does w (Lose l) R M h = lets-is_lost w (Lose l) R M w l
lets-does w (Take l) R M h = lets-takes w (Take l) R M w l (λ k here. takes_going (link_at w l) k h here)
lets-does w (Stop j) R M h = lets-stop w (Stop j) R M w j (hub_at w j) refl h

lets-unless : (w : World) (D : WorldStep) (R : World → World → Type 0) → Lets w D R → (o : Option StepRefusal) → refusal w D ≡ o → R w (does_unless o D w)
lets-unless w D R M None is = lets-does w D R M is
lets-unless w D R M (Some refused) is = M.none w

-- the network of a step before what it does, and after it
abbrev pub begun : World → TimedStep → World
begun w t = at_time t.now w

abbrev pub done : World → TimedStep → World
done w t = does_unless (refusal w t.step) t.step (begun w t)

refusal-begun : (w : World) (now : ℕ) (step : WorldStep) → refusal (at_time now w) step ≡ refusal w step
refusal-begun w now (OfNode k e) = refl
refusal-begun w now (Arrive l way) = refl
refusal-begun w now (Lose l) = refl
refusal-begun w now (Take l) = refl
refusal-begun w now (Stop j) = refl

-- What holds of each move holds of what a step does, where the step began so and the end of a session is one move.
step-in : (R : World → World → Type 0) (t : TimedStep) (w : World) → Lets (begun w t) t.step R → R (begun w t) (done w t)
step-in R t w M = lets-unless (begun w t) t.step R M (refusal w t.step) (refusal-begun w t.now t.step)

-- So it is of each move, where the end of a session is one move.
pub whole-step : (R : World → World → Type 0) (t : TimedStep) → LetsWhole t.step R → (w : World) → R (begun w t) (done w t)
whole-step R t M w = step-in R t w (step-whole (begun w t) t.step R M)

-- So it is of each move, where the step began so.
pub lets-step_from : (R : World → World → Type 0) (t : TimedStep) (w : World) → LetsFrom (begun w t) t.step R → R (begun w t) (done w t)
lets-step_from R t w M = step-in R t w (step-from (begun w t) t.step R M)

-- So it is of each move.
pub lets-step : (R : World → World → Type 0) (t : TimedStep) → LetsEach t.step R → (w : World) → R (begun w t) (done w t)
lets-step R t M w = whole-step R t (as_whole t.step R M) w

-- And of the step, where it does of its being counted.
pub lets-makes : (R : World → World → Type 0) (t : TimedStep) → LetsEach t.step R → ((u : World) → R u (record u { steps = u.steps + 1 })) → (w : World) → R (begun w t) (makes w t)
lets-makes R t M counts w = M.then (begun w t) (done w t) (makes w t) (lets-step R t M w) (counts (done w t))
