-- The moves of a step that began with some network: what is known besides where an event comes first, and where a message is
-- passed on.
-- It serves clauses of functions of `laws`.
use Rattle.std.proofs.Common.{◌≡◌, ℕ, true, false, List, Option, Some, None}
use Rattle.std.specs.Prelude.{◌+◌, slice_get}
use Rattle.bsc_octets.specs.declared.identity.Identity.{Identity}
use Rattle.bsc_history.specs.declared.call.Call.TheVariants.{Connect, Forward, Leave, Stop as StopCall}
use Rattle.bsc_history.specs.declared.reply.Reply.TheVariants.{Joined}
use Rattle.bsc_history.specs.Replies.{is_stopped}
use Rattle.bsc_accept.specs.declared.event.Event.{Event}
use Rattle.bsc_accept.specs.declared.event.Event.TheVariants.{Joined as HasJoined}
use Rattle.bsc_accept.specs.declared.step.Step.{Step}
use Rattle.bsc_accept.specs.declared.step.Step.TheVariants.{Ask, Up as GoesUp}
use Rattle.bsc_accept.specs.Past.{is_joined}
use Rattle.bsc_script.specs.Emptying.{empties_after}
use Rattle.bsc_node.specs.declared.link_name.LinkName.{LinkName}
use Rattle.bsc_node.specs.declared.node_event.NodeEvent.{NodeEvent}
use Rattle.bsc_node.specs.Conditions.{fits}
use Rattle.bsc_network.specs.declared.world_step.WorldStep.{WorldStep}
use Rattle.bsc_network.specs.declared.way.Way.{Way}
use Rattle.bsc_network.specs.declared.way.Way.TheVariants.{Up, Down}
use Rattle.bsc_network.specs.declared.arrival.Arrival.{Arrival}
use Rattle.bsc_network.specs.declared.parcel.Parcel.{Parcel}
use Rattle.bsc_network.specs.declared.parcel.Content.TheVariants.{Message, Closed}
use Rattle.bsc_network.specs.Traffic.{front, without_front}
use Rattle.bsc_network.specs.Worlds.{World, Hub, HubSide, Node, Link, history, traffic, hub_at, node_at, link_at}
use Rattle.bsc_network.specs.Changes.{with_link, with_side, with_traffic, puts_at, puts_now}
use Rattle.bsc_network.specs.Outboxes.{Frame, frames}
use Rattle.bsc_network.specs.HubCalls.{called, reply_in, no_link}
use Rattle.bsc_network.specs.HubSides.{told}
use Rattle.bsc_network.specs.NodeEvents.{hears, forgets_failure}
use Rattle.bsc_network.specs.Refusals.{is_own}
use Rattle.bsc_network_laws.proofs.Moves.{IsSide, HasArrived, octets_wanted, IsWanted, IsSaid, says_joined, Comes, Each, Lets, LetsWhole}
use Rattle.bsc_network_laws.proofs.Beside.{Keeps, KeepsGiven, KeepsBoth}

-- a network once the front of a way has arrived
abbrev pub after_arrival : ℕ → Way → World → World
after_arrival l way B = with_link l (with_traffic way without_front) B

-- An event comes in a step that began with B: what arrived comes just after its arrival, and an event of the node's own comes
-- first.
abbrev pub ComesFirst : World → World → Option Arrival → NodeEvent → Type 0
ComesFirst B w (Some a) e = w ≡ after_arrival a.link a.way B
ComesFirst B w None e = is_own e ≡ true → w ≡ B

-- A message has just arrived by the way up, in a step that began with B, and the machine of the side was told so.
abbrev pub HasJustCome : World → World → ℕ → Type 0
HasJustCome B w l = (e : Event) × (w ≡ told l e (after_arrival l Up B))

-- What holds of each move of this step, where it began with B.
pub record EachFrom (B : World) (D : WorldStep) (R : World → World → Type 0) : Type 0 where
  -- a hub's side
  pub over : (w : World) (l : ℕ) → R w (with_side l (λ s. record s { is_over = true }) w)
  pub tells : (w : World) (l j : ℕ) (h : Hub) (k : Link) (e : Event) → is_joined e ≡ false → IsSide w l j h k → R w (told l e w)
  pub empty : (w : World) (l : ℕ) → R w (with_side l (λ s. record s { empties = empties_after None s.empties }) w)
  pub closes_down : (w : World) (l : ℕ) → R w (puts_now l Down Closed w)
  pub hub_puts : (w : World) (l j : ℕ) (h : Hub) (k : Link) (st : Step) (o : List ℕ) → IsSide w l j h k → IsWanted h.about st → octets_wanted st ≡ Some o → R w (puts_now l Down (Message o) w)
  -- its calls
  pub leaves : (w : World) (l j : ℕ) (h : Hub) (k : Link) (c : ℕ) → IsSide w l j h k → k.side.conn ≡ Some c → R w (called j l w.steps (Leave c k.side.taken k.side.empties) w)
  pub stops : (w : World) (j : ℕ) (h : Hub) → hub_at w j ≡ Some h → is_stopped (history h) ≡ false → R w (called j no_link w.steps StopCall w)
  pub asks : (w : World) (l j place : ℕ) (h : Hub) (k : Link) (m : List ℕ) (who : Identity) → IsSide w l j h k → HasArrived w l Up (record { content = Message m; sent_at = place })
      → IsSaid h k m (Ask who) → says_joined (reply_in w h (Connect who)) ≡ false → R w (called j l place (Connect who) w)
  pub joins : (w : World) (l j place : ℕ) (h : Hub) (k : Link) (m : List ℕ) (who : Identity) (c : ℕ) (replaced : Option ℕ) → IsSide w l j h k
      → HasArrived w l Up (record { content = Message m; sent_at = place }) → IsSaid h k m (Ask who) → reply_in w h (Connect who) ≡ Joined c replaced
      → R w (told l HasJoined (with_side l (λ s. record s { conn = Some c }) (called j l place (Connect who) w)))
  pub forwards : (w : World) (l j place : ℕ) (h : Hub) (k : Link) (m : List ℕ) (c : ℕ) → IsSide w l j h k → k.side.conn ≡ Some c
      → HasArrived w l Up (record { content = Message m; sent_at = place }) → IsSaid h k m GoesUp → HasJustCome B w l → R w (called j l place (Forward c m) w)
  -- its taking
  pub takes : (w : World) (l j : ℕ) (h : Hub) (k : Link) (c : ℕ) (f : Frame) → IsSide w l j h k → k.side.conn ≡ Some c → slice_get (frames h c) k.side.taken ≡ Some f
      → R w (puts_at l Down f.sent_at (Message f.octets) (with_side l (λ s. record s { taken = s.taken + 1 }) w))
  -- an event that comes to a node, with all its actions; and that dials which failed are to be told no more
  pub hears : (w : World) (k : ℕ) (n : Node) (by : Option Arrival) (e : NodeEvent) → node_at w k ≡ Some n → Comes D w k n by e → fits n.log e ≡ true → ComesFirst B w by e
      → R w (hears k by (record { now = w.now; event = e }) n w)
  pub forgets : (w : World) (later : List LinkName) → R w (forgets_failure later w)
  -- the links
  pub arrives : (w : World) (l : ℕ) (way : Way) (k : Link) (x : Parcel) → link_at w l ≡ Some k → front (traffic way k) ≡ Some x → R w (with_link l (with_traffic way without_front) w)
  pub loses : (w : World) (l : ℕ) → R w (with_link l (λ link. record link { is_lost = true }) w)

-- What holds where nothing changes, of one change after another, and of each move of a step that began with B.
pub record LetsFrom (B : World) (D : WorldStep) (R : World → World → Type 0) : Type 0 where
  pub none : (w : World) → R w w
  pub then : (u v w : World) → R u v → R v w → R u w
  pub each : EachFrom B D R

-- What holds of each move wherever it is made holds of it in such a step.
pub each-from : (B : World) (D : WorldStep) (R : World → World → Type 0) → Each D R → EachFrom B D R
each-from B D R M = record {
  over = M.over;
  tells = M.tells;
  empty = M.empty;
  closes_down = M.closes_down;
  hub_puts = M.hub_puts;
  leaves = M.leaves;
  stops = M.stops;
  asks = M.asks;
  joins = M.joins;
  forwards = λ w l j place h k m c side conn came said now. M.forwards w l j place h k m c side conn came said;
  takes = M.takes;
  hears = λ w k n by e here come fit now. M.hears w k n by e here come fit;
  forgets = M.forgets;
  arrives = M.arrives;
  loses = M.loses;
}

pub lets-from : (B : World) (D : WorldStep) (R : World → World → Type 0) → Lets D R → LetsFrom B D R
lets-from B D R M = record { none = M.none; then = M.then; each = each-from B D R M.each }

-- ---- where the end of a session is one move besides

-- The same, where the end of a session is one move.
pub record EachStep (B : World) (D : WorldStep) (R : World → World → Type 0) : Type 0 where
  -- a hub's side
  pub over : (w : World) (l j : ℕ) (h : Hub) (k : Link) → IsSide w l j h k → k.side.conn ≡ None → R w (with_side l (λ s. record s { is_over = true }) w)
  pub tells : (w : World) (l j : ℕ) (h : Hub) (k : Link) (e : Event) → is_joined e ≡ false → IsSide w l j h k → R w (told l e w)
  pub empty : (w : World) (l : ℕ) → R w (with_side l (λ s. record s { empties = empties_after None s.empties }) w)
  pub closes_down : (w : World) (l : ℕ) → R w (puts_now l Down Closed w)
  pub hub_puts : (w : World) (l j : ℕ) (h : Hub) (k : Link) (st : Step) (o : List ℕ) → IsSide w l j h k → IsWanted h.about st → octets_wanted st ≡ Some o → R w (puts_now l Down (Message o) w)
  -- its calls
  pub leaves : (w : World) (l j : ℕ) (h : Hub) (k : Link) (c : ℕ) → IsSide w l j h k → k.side.conn ≡ Some c
      → R w (with_side l (λ s. record s { is_over = true }) (called j l w.steps (Leave c k.side.taken k.side.empties) w))
  pub stops : (w : World) (j : ℕ) (h : Hub) → hub_at w j ≡ Some h → is_stopped (history h) ≡ false → R w (called j no_link w.steps StopCall w)
  pub asks : (w : World) (l j place : ℕ) (h : Hub) (k : Link) (m : List ℕ) (who : Identity) → IsSide w l j h k → HasArrived w l Up (record { content = Message m; sent_at = place })
      → IsSaid h k m (Ask who) → says_joined (reply_in w h (Connect who)) ≡ false → R w (called j l place (Connect who) w)
  pub joins : (w : World) (l j place : ℕ) (h : Hub) (k : Link) (m : List ℕ) (who : Identity) (c : ℕ) (replaced : Option ℕ) → IsSide w l j h k
      → HasArrived w l Up (record { content = Message m; sent_at = place }) → IsSaid h k m (Ask who) → reply_in w h (Connect who) ≡ Joined c replaced
      → R w (told l HasJoined (with_side l (λ s. record s { conn = Some c }) (called j l place (Connect who) w)))
  pub forwards : (w : World) (l j place : ℕ) (h : Hub) (k : Link) (m : List ℕ) (c : ℕ) → IsSide w l j h k → k.side.conn ≡ Some c
      → HasArrived w l Up (record { content = Message m; sent_at = place }) → IsSaid h k m GoesUp → HasJustCome B w l → R w (called j l place (Forward c m) w)
  -- its taking
  pub takes : (w : World) (l j : ℕ) (h : Hub) (k : Link) (c : ℕ) (f : Frame) → IsSide w l j h k → k.side.conn ≡ Some c → slice_get (frames h c) k.side.taken ≡ Some f
      → R w (puts_at l Down f.sent_at (Message f.octets) (with_side l (λ s. record s { taken = s.taken + 1 }) w))
  -- an event that comes to a node, with all its actions; and that dials which failed are to be told no more
  pub hears : (w : World) (k : ℕ) (n : Node) (by : Option Arrival) (e : NodeEvent) → node_at w k ≡ Some n → Comes D w k n by e → fits n.log e ≡ true → ComesFirst B w by e
      → R w (hears k by (record { now = w.now; event = e }) n w)
  pub forgets : (w : World) (later : List LinkName) → R w (forgets_failure later w)
  -- the links
  pub arrives : (w : World) (l : ℕ) (way : Way) (k : Link) (x : Parcel) → link_at w l ≡ Some k → front (traffic way k) ≡ Some x → R w (with_link l (with_traffic way without_front) w)
  pub loses : (w : World) (l : ℕ) → R w (with_link l (λ link. record link { is_lost = true }) w)

pub record LetsStep (B : World) (D : WorldStep) (R : World → World → Type 0) : Type 0 where
  pub none : (w : World) → R w w
  pub then : (u v w : World) → R u v → R v w → R u w
  pub each : EachStep B D R

pub step-whole : (B : World) (D : WorldStep) (R : World → World → Type 0) → LetsWhole D R → LetsStep B D R
step-whole B D R M = record {
  none = M.none;
  then = M.then;
  each = record {
    over = M.each.over;
    tells = M.each.tells;
    empty = M.each.empty;
    closes_down = M.each.closes_down;
    hub_puts = M.each.hub_puts;
    stops = M.each.stops;
    asks = M.each.asks;
    joins = M.each.joins;
    takes = M.each.takes;
    forgets = M.each.forgets;
    arrives = M.each.arrives;
    loses = M.each.loses;
    leaves = M.each.leaves;
    forwards = λ w l j place h k m c side conn came said now. M.each.forwards w l j place h k m c side conn came said;
    hears = λ w k n by e here come fit now. M.each.hears w k n by e here come fit;
  };
}

pub step-from : (B : World) (D : WorldStep) (R : World → World → Type 0) → LetsFrom B D R → LetsStep B D R
step-from B D R M = record {
  none = M.none;
  then = M.then;
  each = record {
    over = λ w l j h k side none. M.each.over w l;
    tells = M.each.tells;
    empty = M.each.empty;
    closes_down = M.each.closes_down;
    hub_puts = M.each.hub_puts;
    stops = M.each.stops;
    asks = M.each.asks;
    joins = M.each.joins;
    takes = M.each.takes;
    forgets = M.each.forgets;
    arrives = M.each.arrives;
    loses = M.each.loses;
    leaves = λ w l j h k c side conn.
        let v = called j l w.steps (Leave c k.side.taken k.side.empties) w in
        M.then w v (with_side l (λ (s : HubSide). record s { is_over = true }) v) (M.each.leaves w l j h k c side conn) (M.each.over v l);
    forwards = M.each.forwards;
    hears = M.each.hears;
  };
}

-- ---- what is kept

-- What each move keeps, and what it keeps where that holds.
pub beside-from : (B : World) (D : WorldStep) (P Inv : World → Type 0) → LetsFrom B D (Keeps P) → EachFrom B D (KeepsGiven P Inv) → LetsFrom B D (KeepsBoth P Inv)
beside-from B D P Inv M N = record {
  none = λ w p. (p, λ i. i);
  then = λ u v w f g p. let a = f p in let b = g a.0 in (b.0, λ i. b.1 (a.1 i));
  each = record {
    over = λ w l p. (M.each.over w l p, N.over w l p);
    tells = λ w l j h k e other side p. (M.each.tells w l j h k e other side p, N.tells w l j h k e other side p);
    empty = λ w l p. (M.each.empty w l p, N.empty w l p);
    closes_down = λ w l p. (M.each.closes_down w l p, N.closes_down w l p);
    hub_puts = λ w l j h k st o side wanted is p. (M.each.hub_puts w l j h k st o side wanted is p, N.hub_puts w l j h k st o side wanted is p);
    leaves = λ w l j h k c side conn p. (M.each.leaves w l j h k c side conn p, N.leaves w l j h k c side conn p);
    stops = λ w j h here is p. (M.each.stops w j h here is p, N.stops w j h here is p);
    asks = λ w l j place h k m who side came said is p. (M.each.asks w l j place h k m who side came said is p, N.asks w l j place h k m who side came said is p);
    joins = λ w l j place h k m who c replaced side came said is p. (M.each.joins w l j place h k m who c replaced side came said is p, N.joins w l j place h k m who c replaced side came said is p);
    forwards = λ w l j place h k m c side conn came said now p. (M.each.forwards w l j place h k m c side conn came said now p, N.forwards w l j place h k m c side conn came said now p);
    takes = λ w l j h k c f side conn is p. (M.each.takes w l j h k c f side conn is p, N.takes w l j h k c f side conn is p);
    hears = λ w k n by e here come fit now p. (M.each.hears w k n by e here come fit now p, N.hears w k n by e here come fit now p);
    forgets = λ w later p. (M.each.forgets w later p, N.forgets w later p);
    arrives = λ w l way k x here is p. (M.each.arrives w l way k x here is p, N.arrives w l way k x here is p);
    loses = λ w l p. (M.each.loses w l p, N.loses w l p);
  };
}
