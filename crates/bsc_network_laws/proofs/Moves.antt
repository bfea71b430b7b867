-- What a step of a network is made of: the moves, each with what is known where it is made.
-- It serves clauses of functions of `laws`.
use Rattle.std.proofs.Common.{◌≡◌, ◌⊎◌, ℕ, suc, Bool, true, false, List, [], ◌∷◌, ◌++◌, Option, Some, None}
use Rattle.std.specs.Prelude.{◌+◌, slice_get}
use Rattle.std.specs.Option.{option_map}
use Rattle.bsc_octets.specs.declared.identity.Identity.{Identity}
use Rattle.bsc_history.specs.declared.limits.About.{About}
use Rattle.bsc_history.specs.declared.call.Call.TheVariants.{Connect, Forward, Leave, Stop as StopCall}
use Rattle.bsc_history.specs.declared.reply.Reply.{Reply}
use Rattle.bsc_history.specs.declared.reply.Reply.TheVariants.{Joined}
use Rattle.bsc_history.specs.Replies.{is_stopped}
use Rattle.bsc_checks.specs.declared.place.Place.TheVariants.{HubPort}
use Rattle.bsc_checks.specs.Outcomes.{outcome_of}
use Rattle.bsc_accept.specs.declared.start.Start.{Start}
use Rattle.bsc_accept.specs.declared.event.Event.{Event}
use Rattle.bsc_accept.specs.declared.event.Event.TheVariants.{Message as CameToHub, Joined as HasJoined}
use Rattle.bsc_accept.specs.declared.step.Step.{Step}
use Rattle.bsc_accept.specs.declared.step.Step.TheVariants.{Ask, Up as GoesUp, Put, PutClose}
use Rattle.bsc_accept.specs.Past.{phase, is_joined}
use Rattle.bsc_accept.specs.Steps.{step}
use Rattle.bsc_script.specs.Emptying.{empties_after}
use Rattle.bsc_node.specs.declared.link_name.LinkName.{LinkName}
use Rattle.bsc_node.specs.declared.node_event.NodeEvent.{NodeEvent}
use Rattle.bsc_node.specs.declared.node_event.NodeEvent.TheVariants.{DialFailed, Lost}
use Rattle.bsc_node.specs.Conditions.{fits}
use Rattle.bsc_accept.proofs.OwnOctets.{IsJudged}
use Rattle.bsc_network.specs.declared.world_step.WorldStep.{WorldStep}
use Rattle.bsc_network.specs.declared.world_step.WorldStep.TheVariants.{Node as OfNode}
use Rattle.bsc_network.specs.declared.way.Way.{Way}
use Rattle.bsc_network.specs.declared.way.Way.TheVariants.{Up, Down}
use Rattle.bsc_network.specs.declared.target.Target.TheVariants.{Hub as ToHub, Node as ToNode}
use Rattle.bsc_network.specs.declared.arrival.Arrival.{Arrival}
use Rattle.bsc_network.specs.declared.parcel.Parcel.{Parcel}
use Rattle.bsc_network.specs.declared.parcel.Content.{Content}
use Rattle.bsc_network.specs.declared.parcel.Content.TheVariants.{Message, Closed}
use Rattle.bsc_network.specs.Traffic.{Traffic, front, without_front}
use Rattle.bsc_network.specs.Worlds.{World, Hub, Node, Link, history, traffic, hub_at, node_at, link_at}
use Rattle.bsc_network.specs.Changes.{with_link, with_side, with_traffic, puts_at, puts_now}
use Rattle.bsc_network.specs.Outboxes.{Frame, frames}
use Rattle.bsc_network.specs.HubCalls.{called, is_worn, reply_in, no_link}
use Rattle.bsc_network.specs.HubSides.{told}
use Rattle.bsc_network.specs.NodeSides.{name_of}
use Rattle.bsc_network.specs.NodeEvents.{hears, forgets_failure}
use Rattle.bsc_network.specs.Arriving.{event_of}
use Rattle.bsc_network.specs.Refusals.{is_own}
use Rattle.bsc_network_laws.specs.Ends.{receiver}

-- ---- what is known

-- The link leads to this hub, whose side it so has.
pub record HasSide (w : World) (l j : ℕ) (h : Hub) (k : Link) : Type 0 where
  pub hub : hub_at w j ≡ Some h
  pub link : link_at w l ≡ Some k
  pub leads : k.to ≡ ToHub j

-- And the session of that side isn't over.
pub record IsSide (w : World) (l j : ℕ) (h : Hub) (k : Link) : Type 0 where
  pub hub : hub_at w j ≡ Some h
  pub link : link_at w l ≡ Some k
  pub leads : k.to ≡ ToHub j
  pub going : k.side.is_over ≡ false

-- It was the last that arrived by this way of the link.
pub record HasArrived (w : World) (l : ℕ) (way : Way) (x : Parcel) : Type 0 where
  pub on : Traffic
  pub found : option_map (traffic way) (link_at w l) ≡ Some on
  pub place : ℕ
  pub here : slice_get on.put place ≡ Some x
  pub last : on.arrived ≡ suc place

-- the octets that a step of a hub's machine puts
abbrev pub octets_wanted : Step → Option (List ℕ)
octets_wanted (Put o) = Some o.items
octets_wanted (PutClose o c) = Some o.items
octets_wanted other = None

-- the machine of such a hub wants this at some event
abbrev pub IsWanted : About → Step → Type 0
IsWanted a st = (s : Start) × (E : List Event) × (e : Event) × (s.own ≡ a.hub) × IsJudged e × (st ≡ step s E e)

-- The machine of the hub's side wants this at the message that it was told last.
pub record IsTold (h : Hub) (k : Link) (m : List ℕ) (st : Step) : Type 0 where
  pub started : Start
  pub own : started.own ≡ h.about.hub
  pub events : List Event
  pub time : ℕ
  pub is : st ≡ step started events (CameToHub time (outcome_of m (HubPort (phase events)) h.about.hub.max_bvlc))
  pub told : k.side.events ≡ events ++ CameToHub time (outcome_of m (HubPort (phase events)) h.about.hub.max_bvlc) ∷ []

-- And the hub isn't worn.
pub record IsSaid (h : Hub) (k : Link) (m : List ℕ) (st : Step) : Type 0 where
  pub started : Start
  pub own : started.own ≡ h.about.hub
  pub events : List Event
  pub time : ℕ
  pub is : st ≡ step started events (CameToHub time (outcome_of m (HubPort (phase events)) h.about.hub.max_bvlc))
  pub told : k.side.events ≡ events ++ CameToHub time (outcome_of m (HubPort (phase events)) h.about.hub.max_bvlc) ∷ []
  pub fresh : is_worn h ≡ false

-- whether a reply says that a peer joined
abbrev pub says_joined : Reply → Bool
says_joined (Joined c replaced) = true
says_joined reply = false

-- what hears by this way of the link is node k
abbrev pub IsHeardBy : World → ℕ → Way → ℕ → Type 0
IsHeardBy w l way k = option_map (receiver way) (link_at w l) ≡ Some (ToNode k)

-- How an event comes to node k: something arrived by a way by which it hears; or it is the step's own event, a link that it has
-- is lost, or a dial has failed.
abbrev pub Comes : WorldStep → World → ℕ → Node → Option Arrival → NodeEvent → Type 0
Comes D w k n (Some a) e =
    (content : Content) × IsHeardBy w a.link a.way k × HasArrived w a.link a.way (record { content = content; sent_at = a.sent_at })
    × (event_of content (name_of a.link a.way n) ≡ Some e)
Comes D w k n None e =
    ((D ≡ OfNode k e) × (is_own e ≡ true))
    ⊎ (((l : ℕ) × (way : Way) × (name : LinkName) × (e ≡ Lost name) × (name_of l way n ≡ Some name)) ⊎ ((name : LinkName) × (e ≡ DialFailed name)))

-- ---- the moves

-- What holds of each move of this step.
pub record Each (D : WorldStep) (R : World → World → Type 0) : Type 0 where
  -- a hub's side
  pub over : (w : World) (l : ℕ) → R w (with_side l (λ s. record s { is_over = true }) w)
  pub tells : (w : World) (l j : ℕ) (h : Hub) (k : Link) (e : Event) → is_joined e ≡ false → IsSide w l j h k → R w (told l e w)
  pub empty : (w : World) (l : ℕ) → R w (with_side l (λ s. record s { empties = empties_after None s.empties }) w)
  pub closes_down : (w : World) (l : ℕ) → R w (puts_now l Down Closed w)
  pub hub_puts : (w : World) (l j : ℕ) (h : Hub) (k : Link) (st : Step) (o : List ℕ) → IsSide w l j h k → IsWanted h.about st → octets_wanted st ≡ Some o → R w (puts_now l Down (Message o) w)
  -- its calls
  pub leaves : (w : World) (l j : ℕ) (h : Hub) (k : Link) (c : ℕ) → IsSide w l j h k → k.side.conn ≡ Some c → R w (called j l w.steps (Leave c k.side.taken k.side.empties) w)
  pub stops : (w : World) (j : ℕ) (h : Hub) → hub_at w j ≡ Some h → is_stopped (history h) ≡ false → R w (called j no_link w.steps StopCall w)
  pub asks : (w : World) (l j place : ℕ) (h : Hub) (k : Link) (m : List ℕ) (who : Identity) → IsSide w l j h k → HasArrived w l Up (record { content = Message m; sent_at = place })
      → IsSaid h k m (Ask who) → says_joined (reply_in w h (Connect who)) ≡ false → R w (called j l place (Connect who) w)
  pub joins : (w : World) (l j place : ℕ) (h : Hub) (k : Link) (m : List ℕ) (who : Identity) (c : ℕ) (replaced : Option ℕ) → IsSide w l j h k
      → HasArrived w l Up (record { content = Message m; sent_at = place }) → IsSaid h k m (Ask who) → reply_in w h (Connect who) ≡ Joined c replaced
      → R w (told l HasJoined (with_side l (λ s. record s { conn = Some c }) (called j l place (Connect who) w)))
  pub forwards : (w : World) (l j place : ℕ) (h : Hub) (k : Link) (m : List ℕ) (c : ℕ) → IsSide w l j h k → k.side.conn ≡ Some c
      → HasArrived w l Up (record { content = Message m; sent_at = place }) → IsSaid h k m GoesUp → R w (called j l place (Forward c m) w)
  -- its taking
  pub takes : (w : World) (l j : ℕ) (h : Hub) (k : Link) (c : ℕ) (f : Frame) → IsSide w l j h k → k.side.conn ≡ Some c → slice_get (frames h c) k.side.taken ≡ Some f
      → R w (puts_at l Down f.sent_at (Message f.octets) (with_side l (λ s. record s { taken = s.taken + 1 }) w))
  -- an event that comes to a node, with all its actions; and that dials which failed are to be told no more
  pub hears : (w : World) (k : ℕ) (n : Node) (by : Option Arrival) (e : NodeEvent) → node_at w k ≡ Some n → Comes D w k n by e → fits n.log e ≡ true
      → R w (hears k by (record { now = w.now; event = e }) n w)
  pub forgets : (w : World) (later : List LinkName) → R w (forgets_failure later w)
  -- the links
  pub arrives : (w : World) (l : ℕ) (way : Way) (k : Link) (x : Parcel) → link_at w l ≡ Some k → front (traffic way k) ≡ Some x → R w (with_link l (with_traffic way without_front) w)
  pub loses : (w : World) (l : ℕ) → R w (with_link l (λ link. record link { is_lost = true }) w)

-- What holds where nothing changes, of one change after another, and of each move.
pub record Lets (D : WorldStep) (R : World → World → Type 0) : Type 0 where
  pub none : (w : World) → R w w
  pub then : (u v w : World) → R u v → R v w → R u w
  pub each : Each D R

-- ---- sessions that end

-- The same, where the end of a session is one move: its connection leaves, where there is one, and it is over.
pub record EachWhole (D : WorldStep) (R : World → World → Type 0) : Type 0 where
  -- a hub's side
  pub over : (w : World) (l j : ℕ) (h : Hub) (k : Link) → IsSide w l j h k → k.side.conn ≡ None → R w (with_side l (λ s. record s { is_over = true }) w)
  pub tells : (w : World) (l j : ℕ) (h : Hub) (k : Link) (e : Event) → is_joined e ≡ false → IsSide w l j h k → R w (told l e w)
  pub empty : (w : World) (l : ℕ) → R w (with_side l (λ s. record s { empties = empties_after None s.empties }) w)
  pub closes_down : (w : World) (l : ℕ) → R w (puts_now l Down Closed w)
  pub hub_puts : (w : World) (l j : ℕ) (h : Hub) (k : Link) (st : Step) (o : List ℕ) → IsSide w l j h k → IsWanted h.about st → octets_wanted st ≡ Some o → R w (puts_now l Down (Message o) w)
  -- its calls
  pub leaves : (w : World) (l j : ℕ) (h : Hub) (k : Link) (c : ℕ) → IsSide w l j h k → k.side.conn ≡ Some c
      → R w (with_side l (λ s. record s { is_over = true }) (called j l w.steps (Leave c k.side.taken k.side.empties) w))
  pub stops : (w : World) (j : ℕ) (h : Hub) → hub_at w j ≡ Some h → is_stopped (history h) ≡ false → R w (called j no_link w.steps StopCall w)
  pub asks : (w : World) (l j place : ℕ) (h : Hub) (k : Link) (m : List ℕ) (who : Identity) → IsSide w l j h k → HasArrived w l Up (record { content = Message m; sent_at = place })
      → IsSaid h k m (Ask who) → says_joined (reply_in w h (Connect who)) ≡ false → R w (called j l place (Connect who) w)
  pub joins : (w : World) (l j place : ℕ) (h : Hub) (k : Link) (m : List ℕ) (who : Identity) (c : ℕ) (replaced : Option ℕ) → IsSide w l j h k
      → HasArrived w l Up (record { content = Message m; sent_at = place }) → IsSaid h k m (Ask who) → reply_in w h (Connect who) ≡ Joined c replaced
      → R w (told l HasJoined (with_side l (λ s. record s { conn = Some c }) (called j l place (Connect who) w)))
  pub forwards : (w : World) (l j place : ℕ) (h : Hub) (k : Link) (m : List ℕ) (c : ℕ) → IsSide w l j h k → k.side.conn ≡ Some c
      → HasArrived w l Up (record { content = Message m; sent_at = place }) → IsSaid h k m GoesUp → R w (called j l place (Forward c m) w)
  -- its taking
  pub takes : (w : World) (l j : ℕ) (h : Hub) (k : Link) (c : ℕ) (f : Frame) → IsSide w l j h k → k.side.conn ≡ Some c → slice_get (frames h c) k.side.taken ≡ Some f
      → R w (puts_at l Down f.sent_at (Message f.octets) (with_side l (λ s. record s { taken = s.taken + 1 }) w))
  -- an event that comes to a node, with all its actions; and that dials which failed are to be told no more
  pub hears : (w : World) (k : ℕ) (n : Node) (by : Option Arrival) (e : NodeEvent) → node_at w k ≡ Some n → Comes D w k n by e → fits n.log e ≡ true
      → R w (hears k by (record { now = w.now; event = e }) n w)
  pub forgets : (w : World) (later : List LinkName) → R w (forgets_failure later w)
  -- the links
  pub arrives : (w : World) (l : ℕ) (way : Way) (k : Link) (x : Parcel) → link_at w l ≡ Some k → front (traffic way k) ≡ Some x → R w (with_link l (with_traffic way without_front) w)
  pub loses : (w : World) (l : ℕ) → R w (with_link l (λ link. record link { is_lost = true }) w)

pub record LetsWhole (D : WorldStep) (R : World → World → Type 0) : Type 0 where
  pub none : (w : World) → R w w
  pub then : (u v w : World) → R u v → R v w → R u w
  pub each : EachWhole D R
