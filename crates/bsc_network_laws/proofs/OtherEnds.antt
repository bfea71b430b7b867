-- After each step, what a node has under the name of a hub leads to a hub, and the peer of a direct connection is who is at its other
-- end.
-- It serves clauses of functions of `laws`.
use Rattle.std.proofs.Common.{◌≡◌, ◌<◌, ◌⊎◌, inl, inr, ℕ, Bool, true, false, cond, List, [], ◌∷◌, ◌++◌, length, Option, Some, None, refl, ap, sym, subst, ◌∙◌}
use Rattle.std.specs.Prelude.{◌^◌, ◌==◌, is_some, filter_map, find, map, slice_get, ⊤}
use Rattle.std.specs.Option.{option_map}
use Rattle.std.specs.List.{AllByRecursion, list_any}
use Rattle.std.proofs.lemmas.Bool.{eqb-true}
use Rattle.std.proofs.lemmas.Option.{slice_get-map}
use Rattle.bsc_direct.proofs.OneMore.{both_ways}
use Rattle.bsc_connector.specs.Back.{newest}
use Rattle.bsc_connector.specs.declared.side.Side.{Side}
use Rattle.bsc_connector.proofs.BackLemmas.{newest-more}
use Rattle.bsc_octets.specs.declared.identity.Identity.{Identity}
use Rattle.bsc_node.specs.declared.link_name.LinkName.{LinkName}
use Rattle.bsc_node.specs.declared.link_name.LinkName.TheVariants.{Hub as HubName, Direct}
use Rattle.bsc_node.specs.declared.node_event.NodeEvent.{NodeEvent}
use Rattle.bsc_node.specs.declared.node_event.NodeEvent.TheVariants.{Came}
use Rattle.bsc_node.specs.declared.action.Action.{Action}
use Rattle.bsc_node.specs.declared.action.Action.TheVariants.{Dial, Take}
use Rattle.bsc_node.specs.Conditions.{fits, brings_word}
use Rattle.bsc_node.specs.Logs.{Made, Log, did, action_of}
use Rattle.bsc_node.specs.Links.{same_link, names, begins, peer}
use Rattle.bsc_node_identity.specs.Naming.{is_connect}
use Rattle.bsc_node_identity.proofs.Carried.{connects_name_their_peer, others_name_nobody}
use Rattle.bsc_node_identity.proofs.Timely.{Timely}
use Rattle.bsc_network.specs.declared.world_step.WorldStep.{WorldStep}
use Rattle.bsc_network.specs.declared.timed_step.TimedStep.{TimedStep}
use Rattle.bsc_network.specs.declared.way.Way.{Way}
use Rattle.bsc_network.specs.declared.way.Way.TheVariants.{Up, Down}
use Rattle.bsc_network.specs.declared.target.Target.{Target}
use Rattle.bsc_network.specs.declared.target.Target.TheVariants.{Hub as ToHub, Node as ToNode}
use Rattle.bsc_network.specs.declared.hold.Hold.{Hold}
use Rattle.bsc_network.specs.declared.arrival.Arrival.{Arrival}
use Rattle.bsc_network.specs.declared.parcel.Parcel.{Parcel}
use Rattle.bsc_network.specs.declared.parcel.Content.{Content}
use Rattle.bsc_network.specs.declared.parcel.Content.TheVariants.{Opened, Arrived, Message, Closed}
use Rattle.bsc_network.specs.Traffic.{Traffic}
use Rattle.bsc_network.specs.Worlds.{World, Node, Link, traffic, node_at, link_at}
use Rattle.bsc_network.specs.Changes.{with_found}
use Rattle.bsc_network.specs.NodeSides.{same_way, hold_of, is_end, name_of, puts_on, puts_by, holds}
use Rattle.bsc_network.specs.Dialling.{leads_to, dials, new_link}
use Rattle.bsc_network.specs.NodeEvents.{brings_about, hears}
use Rattle.bsc_network.specs.Arriving.{event_of}
use Rattle.bsc_network.specs.Refusals.{is_own}
use Rattle.bsc_network.proofs.Places.{got-changed, get-changed, got-last, all-mapped, found-in}
use Rattle.bsc_network_laws.specs.Ends.{receiver, putter, messages}
use Rattle.bsc_network_laws.specs.Naming.{Cast, identity_in, IsNamedRight, NamesWhoPuts}
use Rattle.bsc_network_laws.specs.Peers.{other_end, who_is, who_is_there}
use Rattle.bsc_network_laws.proofs.Moves.{Comes, Each, Lets}
use Rattle.bsc_network_laws.proofs.Acting.{Among, goes_on_in, EachAct, LetsActs, acts_each}
use Rattle.bsc_network_laws.proofs.Timing.{no_word_comes}
use Rattle.bsc_network_laws.proofs.Stepping.{begun, done, lets-step}
use Rattle.bsc_network_laws.proofs.Beside.{Keeps, KeepsGiven, KeepsBoth, beside, together, acts-beside}
use Rattle.bsc_network_laws.proofs.Knowing.{amid-log}
use Rattle.bsc_network_laws.proofs.Casting.{Stays, Casts, casts-log, KnowsAll, knows_all, AmidAll, amid_all}
use Rattle.bsc_network_laws.proofs.Named.{Named, named_stays, all-messages}
use Rattle.bsc_network_laws.proofs.Diallers.{KnowsNames}
use Rattle.bsc_network_laws.proofs.Lasting.{Lasts, LinkGrows, lasts-longer}
use Rattle.bsc_network_laws.proofs.Lasting as Lasting
use Rattle.bsc_network_laws.proofs.Brought.{at_once, IsNamedBy, PeerOn, peer-on, unbegun, IsDue, each-due}
use Rattle.bsc_network_laws.proofs.MadeWell.{IsSet, MadeWell, dials-hub}
use Rattle.bsc_lemmas.proofs.Booleans.{and_left, and_right, eq_self as same_number}
use Rattle.bsc_lemmas.proofs.Lists.{all-at, all-push as all-one_more}
use Rattle.bsc_lemmas.proofs.Options.{some_none_any as some_none}
use Rattle.bsc_node.proofs.Common.{same_link-is as same_link-true}
use Rattle.std.proofs.lemmas.Option.{same_Some as some_same}

-- ---- what is kept

-- What a node has under the name of a hub leads to a hub.
abbrev pub LeadsToHub : World → Hold → Type 0
LeadsToHub w h = (s : Side) → h.name ≡ HubName s → (j : ℕ) × (other_end w (Some h) ≡ Some (ToHub j))

abbrev pub HubsLead : World → Type 0
HubsLead w = (k : ℕ) (n : Node) → node_at w k ≡ Some n → AllByRecursion (LeadsToHub w) n.holds

-- The peer of a direct connection is who is at its other end.
abbrev pub PeersRight : Cast → World → Type 0
PeersRight cast w = (k : ℕ) (n : Node) (s : ℕ) (who : Identity) → node_at w k ≡ Some n → peer n.log (Direct s) ≡ Some who → who_is_there cast w (Direct s) n ≡ Some who

pub record EndsRight (cast : Cast) (w : World) : Type 0 where
  pub hubs : HubsLead w
  pub peers : PeersRight cast w

-- ---- no link changes its ends

pub putter-grows : (way : Way) (x y : Link) → LinkGrows x y → putter way y ≡ putter way x
putter-grows Up x y g = ap (λ (k : ℕ). let t : Target = ToNode k in t) g.from
putter-grows Down x y g = g.to

pub receiver-grows : (way : Way) (x y : Link) → LinkGrows x y → receiver way y ≡ receiver way x
receiver-grows Up x y g = g.to
receiver-grows Down x y g = ap (λ (k : ℕ). let t : Target = ToNode k in t) g.from

pub end-lasts : (u v : World) → Lasts u v → (o : Option Hold) (t : Target) → other_end u o ≡ Some t → other_end v o ≡ Some t
end-lasts u v g None t is = cc
end-lasts u v g (Some h) t is =
    let x = found-in (putter h.hears) (link_at u h.link) t is in
    let y = g.links.at h.link x.0 x.1 in
    ap (option_map (putter h.hears)) y.1 ∙ ap Some (putter-grows h.hears x.0 y.0 y.2 ∙ x.2)

pub who-lasts : (cast : Cast) (u v : World) → Lasts u v → (o : Option Hold) (who : Identity) → who_is cast (other_end u o) ≡ Some who → who_is cast (other_end v o) ≡ Some who
who-lasts cast u v g o who is = by (other_end u o) refl is
  where
    by : (t : Option Target) → other_end u o ≡ t → who_is cast t ≡ Some who → who_is cast (other_end v o) ≡ Some who
    by None at h = cc
    by (Some t) at h = ap (who_is cast) (end-lasts u v g o t at) ∙ h

-- ---- moves that change no node

hubs-last : (u v : World) → Lasts u v → (h : Hold) → LeadsToHub u h → LeadsToHub v h
hubs-last u v g h leads s is = let l = leads s is in (l.0, end-lasts u v g (Some h) (ToHub l.0) l.1)

pub hubs-same : (u v : World) → Lasts u v → v.nodes ≡ u.nodes → HubsLead u → HubsLead v
hubs-same u v g same all k n here = all-mapped (LeadsToHub u) (LeadsToHub v) (hubs-last u v g) n.holds (all k n (ap (λ (ns : List Node). slice_get ns k) (sym same) ∙ here))

peers-same : (cast : Cast) (u v : World) → Lasts u v → v.nodes ≡ u.nodes → PeersRight cast u → PeersRight cast v
peers-same cast u v g same all k n s who here is = who-lasts cast u v g (hold_of (Direct s) n) who (all k n s who (ap (λ (ns : List Node). slice_get ns k) (sym same) ∙ here) is)

pub ends-same : (cast : Cast) (u v : World) → Lasts u v → v.nodes ≡ u.nodes → EndsRight cast u → EndsRight cast v
ends-same cast u v g same e = record { hubs = hubs-same u v g same e.hubs; peers = peers-same cast u v g same e.peers }

pub puts-nodes : (u : World) (k : ℕ) (name : LinkName) (content : Content) → (puts_by k name content u).nodes ≡ u.nodes
puts-nodes u k name content = at_node (node_at u k)
  where
    at_hold : (o : Option Hold) → (with_found o (puts_on content) u).nodes ≡ u.nodes
    at_hold None = refl
    at_hold (Some h) = refl

    at_node : (o : Option Node) → (with_found o (λ m. with_found (hold_of name m) (puts_on content)) u).nodes ≡ u.nodes
    at_node None = refl
    at_node (Some m) = at_hold (hold_of name m)

-- ---- a node has one end more

pub hubs-holds : (u : World) (k : ℕ) (h : Hold) → LeadsToHub u h → HubsLead u → HubsLead (holds k h u)
hubs-holds u k h leads all j n here = by (got-changed k (λ (m : Node). record m { holds = m.holds ++ h ∷ [] }) u.nodes j n here)
  where
    by : (slice_get u.nodes j ≡ Some n) ⊎ ((x : Node) × (k ≡ j) × (slice_get u.nodes j ≡ Some x) × (n ≡ record x { holds = x.holds ++ h ∷ [] })) → AllByRecursion (LeadsToHub (holds k h u)) n.holds
    by (inl at) = all j n at
    by (inr (x, same, at, is)) = subst (λ (m : Node). AllByRecursion (LeadsToHub (holds k h u)) m.holds) (sym is) (all-one_more (LeadsToHub u) x.holds h (all j x at) leads)

-- the newest under another name stays
pub held-other : (name : LinkName) (x : Node) (h : Hold) → same_link h.name name ≡ false → hold_of name (record x { holds = x.holds ++ h ∷ [] }) ≡ hold_of name x
held-other name x h other =
    newest-more (λ (g : Hold). same_link g.name name) x.holds h ∙ ap (λ (b : Bool). cond b (Some h) (newest (λ (g : Hold). same_link g.name name) x.holds)) other

-- the node's log is this
abbrev pub LogIs : ℕ → Log → World → Type 0
LogIs k L u = (m : Node) → node_at u k ≡ Some m → m.log ≡ L

peers-holds : (cast : Cast) (u : World) (k : ℕ) (h : Hold) (L : Log) → LogIs k L u → ((s : ℕ) → h.name ≡ Direct s → peer L (Direct s) ≡ None) → PeersRight cast u → PeersRight cast (holds k h u)
peers-holds cast u k h L log begun all j n s who here is = by (got-changed k (λ (m : Node). record m { holds = m.holds ++ h ∷ [] }) u.nodes j n here)
  where
    more : (x : Node) → k ≡ j → slice_get u.nodes j ≡ Some x → n ≡ record x { holds = x.holds ++ h ∷ [] } → (b : Bool) → same_link h.name (Direct s) ≡ b → who_is_there cast u (Direct s) n ≡ Some who
    more x same at to true name =
        some_none who
        (sym is ∙ ap (λ (m : Node). peer m.log (Direct s)) to
        ∙ ap (λ (L : Log). peer L (Direct s)) (log x (ap (λ (i : ℕ). slice_get u.nodes i) same ∙ at)) ∙ begun s (same_link-true h.name (Direct s) name))
    more x same at to false name =
        ap (λ (m : Node). who_is_there cast u (Direct s) m) to ∙ ap (λ (o : Option Hold). who_is cast (other_end u o)) (held-other (Direct s) x h name)
        ∙ all j x s who at (sym (ap (λ (m : Node). peer m.log (Direct s)) to) ∙ is)

    by : (slice_get u.nodes j ≡ Some n) ⊎ ((x : Node) × (k ≡ j) × (slice_get u.nodes j ≡ Some x) × (n ≡ record x { holds = x.holds ++ h ∷ [] })) → who_is_there cast u (Direct s) n ≡ Some who
    by (inl at) = all j n s who at is
    by (inr (x, same, at, to)) = more x same at to (same_link h.name (Direct s)) refl

log-same : (k : ℕ) (L : Log) (u v : World) → v.nodes ≡ u.nodes → LogIs k L u → LogIs k L v
log-same k L u v same log m here = log m (ap (λ (ns : List Node). slice_get ns k) (sym same) ∙ here)

log-holds : (k j : ℕ) (h : Hold) (L : Log) (u : World) → LogIs k L u → LogIs k L (holds j h u)
log-holds k j h L u log m here = by (got-changed j (λ (x : Node). record x { holds = x.holds ++ h ∷ [] }) u.nodes k m here)
  where
    by : (slice_get u.nodes k ≡ Some m) ⊎ ((x : Node) × (j ≡ k) × (slice_get u.nodes k ≡ Some x) × (m ≡ record x { holds = x.holds ++ h ∷ [] })) → m.log ≡ L
    by (inl at) = log m at
    by (inr (x, same, at, is)) = ap (λ (y : Node). y.log) is ∙ log x at

-- ---- who is named by what arrives

came-over : (content : Content) (name : Option LinkName) (link : LinkName) (o : List ℕ) → event_of content name ≡ Some (Came link o) → (content ≡ Message o) × (name ≡ Some link)
came-over Arrived name link o h = cc
came-over Opened (Some name) link o h = cc
came-over (Message p) (Some name) link o h = (cc, cc)
came-over Closed (Some name) link o h = cc
came-over Opened None link o h = cc
came-over (Message p) None link o h = cc
came-over Closed None link o h = cc

pub found-passes : {A : Type 0} (test : A → Bool) (xs : List A) (x : A) → find test xs ≡ Some x → test x ≡ true
found-passes test [] x h = cc
found-passes test (y ∷ xs) x h = by (test y) refl h (found-passes test xs x)
  where
    by : (b : Bool) → test y ≡ b → cond b (Some y) (find test xs) ≡ Some x → (find test xs ≡ Some x → test x ≡ true) → test x ≡ true
    by true is g later = ap test (sym (some_same y x g)) ∙ is
    by false is g later = later g

way-same : (way other : Way) → same_way way other ≡ true → way ≡ other
way-same Up Up h = refl
way-same Down Down h = refl
way-same Up Down h = cc
way-same Down Up h = cc

-- the end by which something arrived is the newest under its name
pub end-held : (l : ℕ) (way : Way) (o : Option Hold) → is_end l way o ≡ true → (h : Hold) × (o ≡ Some h) × (h.link ≡ l) × (h.hears ≡ way)
end-held l way None is = cc
end-held l way (Some h) is = (h, refl, eqb-true h.link l (and_left (h.link == l) (same_way h.hears way) is), way-same h.hears way (and_right (h.link == l) (same_way h.hears way) is))

-- A message that comes to a node over a link stood on the way of that link by which it hears.
pub record CameBy (w : World) (k : ℕ) (n : Node) (name : LinkName) (o : List ℕ) (by : Option Arrival) : Type 0 where
  pub arrival : Arrival
  pub is : by ≡ Some arrival
  pub held : Hold
  pub holds : hold_of name n ≡ Some held
  pub over : held.link ≡ arrival.link
  pub hears : held.hears ≡ arrival.way
  pub link : Link
  pub found : link_at w arrival.link ≡ Some link
  pub heard : receiver arrival.way link ≡ ToNode k
  pub place : ℕ
  pub stood : slice_get (traffic arrival.way link).put place ≡ Some (record { content = Message o; sent_at = arrival.sent_at })

pub came_by : (D : WorldStep) (w : World) (k : ℕ) (n : Node) (by : Option Arrival) (e : NodeEvent) (name : LinkName) (o : List ℕ) → Comes D w k n by e → e ≡ Came name o → CameBy w k n name o by
came_by D w k n (Some a) e name o (content, heard, arrived, is) came =
    let over = came-over content (name_of a.link a.way n) name o (is ∙ ap Some came) in
    let end = end-held a.link a.way (hold_of name n) (found-passes (λ (x : LinkName). is_end a.link a.way (hold_of x n)) names name over.1) in
    let at = found-in (traffic a.way) (link_at w a.link) arrived.on arrived.found in
    record {
      arrival = a;
      is = refl;
      held = end.0;
      holds = end.1;
      over = end.2;
      hears = end.3;
      link = at.0;
      found = at.1;
      heard = some_same (receiver a.way at.0) (ToNode k) (sym (ap (option_map (receiver a.way)) at.1) ∙ heard);
      place = arrived.place;
      stood = ap (λ (t : Traffic). slice_get t.put arrived.place) at.2 ∙ arrived.here ∙ ap (λ (c : Content). let p : Parcel = record { content = c; sent_at = a.sent_at } in Some p) over.0;
    }
came_by D w k n None e name o (inl own) came = absurd (not_own (sym (ap is_own came) ∙ own.1))
  where
    not_own : false ≡ true → ⊥
    not_own h = cc
came_by D w k n None e name o (inr (inl (l, way, lost, is, held))) came = cc
came_by D w k n None e name o (inr (inr (failed, is))) came = cc

-- What is at the other end of the link is what puts on that way.
pub came-end : (w : World) (k : ℕ) (n : Node) (name : LinkName) (o : List ℕ) (by : Option Arrival) (c : CameBy w k n name o by) → other_end w (hold_of name n) ≡ Some (putter c.arrival.way c.link)
came-end w k n name o by c =
    ap (other_end w) c.holds
    ∙ ap (λ (way : Way). option_map (putter way) (link_at w c.held.link)) c.hears
    ∙ ap (λ (l : ℕ). option_map (putter c.arrival.way) (link_at w l)) c.over
    ∙ ap (option_map (putter c.arrival.way)) c.found

names-on : (cast : Cast) (way : Way) (x : Link) → NamesWhoPuts cast x → AllByRecursion (IsNamedRight (identity_in cast (putter way x))) (messages (traffic way x))
names-on cast Up x names = names.up
names-on cast Down x names = names.down

-- Who names itself by what comes is who is at the other end.
named-there : (cast : Cast) (D : WorldStep) (w : World) (k : ℕ) (n : Node) (by : Option Arrival) (e : NodeEvent) (name : LinkName) (who : Identity) → MadeWell cast → Named cast w
    → Comes D w k n by e → IsNamedBy e name who
    → who_is_there cast w name n ≡ Some who
named-there cast D w k n by e name who made named come h = ap (who_is cast) (came-end w k n name h.octets by c) ∙ by_name (is_connect h.octets) refl
  where
    c : CameBy w k n name h.octets by
    c = came_by D w k n by e name h.octets come h.comes

    right : IsNamedRight (identity_in cast (putter c.arrival.way c.link)) (record { octets = h.octets; sent_at = c.arrival.sent_at })
    right =
        all-messages (IsNamedRight (identity_in cast (putter c.arrival.way c.link))) (traffic c.arrival.way c.link).put c.place h.octets c.arrival.sent_at
        (names-on cast c.arrival.way c.link (all-at (NamesWhoPuts cast) w.links c.arrival.link c.link named.links c.found)) c.stood

    by_name : (b : Bool) → is_connect h.octets ≡ b → identity_in cast (putter c.arrival.way c.link) ≡ Some who
    by_name true is =
        let r = right is in
        r.1 ∙ sym (connects_name_their_peer r.0 h.octets h.place h.max h.msg (made.fit (putter c.arrival.way c.link) r.0 r.1) r.2 h.passed) ∙ h.names
    by_name false is = some_none who (sym h.names ∙ others_name_nobody h.octets h.place h.max h.msg is h.passed)

-- ---- the node's log goes on

pub hubs-log : (w : World) (k T : ℕ) (e : NodeEvent) → HubsLead w → HubsLead (goes_on_in k (at_once T e) w)
hubs-log w k T e all j n here = by (got-changed k (λ (m : Node). record m { log = m.log ++ brings_about m.made (at_once T e) m.log }) w.nodes j n here)
  where
    by : (slice_get w.nodes j ≡ Some n) ⊎ ((x : Node) × (k ≡ j) × (slice_get w.nodes j ≡ Some x) × (n ≡ record x { log = x.log ++ brings_about x.made (at_once T e) x.log }))
        → AllByRecursion (LeadsToHub w) n.holds
    by (inl at) = all j n at
    by (inr (x, same, at, is)) = subst (λ (m : Node). AllByRecursion (LeadsToHub w) m.holds) (sym is) (all j x at)

peers-log : (cast : Cast) (w : World) (k T : ℕ) (n : Node) (e : NodeEvent) → node_at w k ≡ Some n
    → ((s : ℕ) (who : Identity) → peer (n.log ++ brings_about n.made (at_once T e) n.log) (Direct s) ≡ Some who → who_is_there cast w (Direct s) n ≡ Some who) → PeersRight cast w
    → PeersRight cast (goes_on_in k (at_once T e) w)
peers-log cast w k T n e here now all j m s who at is = by (got-changed k (λ (x : Node). record x { log = x.log ++ brings_about x.made (at_once T e) x.log }) w.nodes j m at)
  where
    by : (slice_get w.nodes j ≡ Some m) ⊎ ((x : Node) × (k ≡ j) × (slice_get w.nodes j ≡ Some x) × (m ≡ record x { log = x.log ++ brings_about x.made (at_once T e) x.log }))
        → who_is_there cast w (Direct s) m ≡ Some who
    by (inl before) = all j m s who before is
    by (inr (x, same, before, to)) =
        let one : x ≡ n = some_same x n (sym before ∙ ap (λ (i : ℕ). slice_get w.nodes i) (sym same) ∙ here) in
        let is_n : m ≡ record n { log = n.log ++ brings_about n.made (at_once T e) n.log } = to ∙ ap (λ (y : Node). record y { log = y.log ++ brings_about y.made (at_once T e) y.log }) one in
        ap (λ (y : Node). who_is_there cast w (Direct s) y) is_n ∙ now s who (sym (ap (λ (y : Node). peer y.log (Direct s)) is_n) ∙ is)

log-log : (w : World) (k T : ℕ) (n : Node) (e : NodeEvent) → node_at w k ≡ Some n → LogIs k (n.log ++ brings_about n.made (at_once T e) n.log) (goes_on_in k (at_once T e) w)
log-log w k T n e here m at = ap (λ (y : Node). y.log) (some_same m (longer n) (sym at ∙ get-changed k longer w.nodes ∙ ap (option_map longer) here))
  where
    longer : Node → Node
    longer x = record x { log = x.log ++ brings_about x.made (at_once T e) x.log }

-- ---- the actions of an event

-- An event that comes to a node keeps what its actions keep, from where the node's log went on.
pub acts-after : (cast : Cast) (T place : ℕ) (D : WorldStep) (k : ℕ) (w : World) (n : Node) (by : Option Arrival) (e : NodeEvent) (Of : Action → Type 0) (Inv : World → Type 0)
    → node_at w k ≡ Some n → Comes D w k n by e → fits n.log e ≡ true
    → EachAct k by Of (KeepsGiven (AmidAll w cast T place) Inv) → KnowsAll cast T place w
    → ((action : Action) → Among action (filter_map action_of (brings_about n.made (at_once w.now e) n.log)) → Of action)
    → Inv (goes_on_in k (at_once w.now e) w) → Inv (hears k by (at_once w.now e) n w)
acts-after cast T place D k w n by e Of Inv here come fit N known of =
    (acts_each k by Of (KeepsBoth (AmidAll w cast T place) Inv) (acts-beside k by Of (AmidAll w cast T place) Inv (amid_all cast T place D k w n by e come) N)
    (filter_map action_of (brings_about n.made (at_once w.now e) n.log)) (goes_on_in k (at_once w.now e) w) of
    (amid-log T place D k n by e w here come fit known.0, casts-log cast T place D k n by e w here come fit known.0 known.1)).1

-- What is known of an action: it is due, and where by it the link of a slot begins, that has no peer in the log.
abbrev Known : Made → NodeEvent → Log → Action → Type 0
Known a e L action = IsDue a e action × ((s : ℕ) → begins (Direct s) (did action) ≡ true → peer L (Direct s) ≡ None)

-- what is kept meanwhile
record Within (cast : Cast) (k : ℕ) (L : Log) (u : World) : Type 0 where
  ends : EndsRight cast u
  log : LogIs k L u

within-same : (cast : Cast) (k : ℕ) (L : Log) (u v : World) → Lasts u v → v.nodes ≡ u.nodes → Within cast k L u → Within cast k L v
within-same cast k L u v g same i = record { ends = ends-same cast u v g same i.ends; log = log-same k L u v same i.log }

within-holds : (cast : Cast) (k : ℕ) (L : Log) (u : World) (h : Hold) → LeadsToHub u h → ((s : ℕ) → h.name ≡ Direct s → peer L (Direct s) ≡ None) → Within cast k L u → Within cast k L (holds k h u)
within-holds cast k L u h leads begun i = record {
  ends = record { hubs = hubs-holds u k h leads i.ends.hubs; peers = peers-holds cast u k h L i.log begun i.ends.peers };
  log = log-holds k k h L u i.log;
}

takes-it : (s : ℕ) → begins (Direct s) (did (Take (Direct s))) ≡ true
takes-it s = ap (λ (b : Bool). is_some {T = Bool} (cond b (Some true) None)) (same_number s)

dials-it : (s : ℕ) (uri : List ℕ) → begins (Direct s) (did (Dial (Direct s) uri)) ≡ true
dials-it s uri = ap (λ (b : Bool). is_some {T = Bool} (cond b (Some false) None)) (same_number s)

-- what is taken is no hub, and what is dialled as a hub is one
pub leads-taken : (a : Made) (e : NodeEvent) (u : World) (name : LinkName) (l : ℕ) (way : Way) → IsDue a e (Take name) → LeadsToHub u (record { name = name; link = l; hears = way })
leads-taken a e u name l way due s is = absurd (subst (λ (x : LinkName). IsDue a e (Take x)) is due)

pub leads-dialled : (cast : Cast) (k : ℕ) (a : Made) (e : NodeEvent) (u : World) (name : LinkName) (uri : List ℕ) (t : Target) → MadeWell cast → Casts cast u → IsSet (length cast.hubs) a
    → IsDue a e (Dial name uri) → leads_to u uri ≡ Some t
    → LeadsToHub (record u { links = u.links ++ new_link u k t ∷ [] }) (record { name = name; link = length u.links; hears = Down })
leads-dialled cast k a e u name uri t made c set due leads s is =
    let hub = dials-hub cast u a e s uri t made c set (subst (λ (x : LinkName). IsDue a e (Dial x uri)) is due) leads in
    (hub.0, ap (option_map (putter Down)) (got-last u.links (new_link u k t)) ∙ ap Some hub.1)

within-takes : (cast : Cast) (k : ℕ) (a : Made) (e : NodeEvent) (L : Log) (u : World) (name : LinkName) (l : ℕ) (way : Way) → Known a e L (Take name) → Within cast k L u
    → Within cast k L (holds k (record { name = name; link = l; hears = way }) u)
within-takes cast k a e L u name l way known =
    within-holds cast k L u (record { name = name; link = l; hears = way }) (leads-taken a e u name l way known.0)
    (λ s is. known.1 s (ap (λ (x : LinkName). begins (Direct s) (did (Take x))) is ∙ takes-it s))

within-dials : (cast : Cast) (k : ℕ) (a : Made) (e : NodeEvent) (L : Log) (u : World) (name : LinkName) (uri : List ℕ) (t : Target) → MadeWell cast → Casts cast u
    → IsSet (length cast.hubs) a → Known a e L (Dial name uri) → leads_to u uri ≡ Some t
    → Within cast k L u → Within cast k L (dials k name t u)
within-dials cast k a e L u name uri t made c set known leads i =
    let v : World = record u { links = u.links ++ new_link u k t ∷ [] } in
    within-holds cast k L v (record { name = name; link = length u.links; hears = Down }) (leads-dialled cast k a e u name uri t made c set known.0 leads)
    (λ s is. known.1 s (ap (λ (x : LinkName). begins (Direct s) (did (Dial x uri))) is ∙ dials-it s uri)) (within-same cast k L u v (lasts-longer u (new_link u k t)) refl i)

each_act : (cast : Cast) (T place k : ℕ) (w : World) (by : Option Arrival) (a : Made) (e : NodeEvent) (L : Log) → MadeWell cast → IsSet (length cast.hubs) a
    → EachAct k by (Known a e L) (KeepsGiven (AmidAll w cast T place) (Within cast k L))
each_act cast T place k w by a e L made set = record {
  puts = λ u name o known m. within-same cast k L u _ (G.each.puts u name o tt) (puts-nodes u k name (Message o));
  closes = λ u name m. within-same cast k L u _ (G.each.closes u name) (puts-nodes u k name Closed);
  takes = λ u name b is known m. within-takes cast k a e L u name b.link b.way known;
  dials_as = λ u name uri t known leads m. within-dials cast k a e L u name uri t made m.1 set known leads;
  fails_as = λ u name m. within-same cast k L u _ (G.each.fails_as u name) refl;
  refuses_it = λ u b is m. within-same cast k L u _ (G.each.refuses_it u b is) refl;
  delivers_one = λ u d b is known m. within-same cast k L u _ (G.each.delivers_one u d b is tt) refl;
}
  where
    G : LetsActs k by (λ action. ⊤) Lasts
    G = Lasting.lets_acts k by

pub set-of : (cast : Cast) (w : World) (k : ℕ) (n : Node) → MadeWell cast → Casts cast w → node_at w k ≡ Some n → IsSet (length cast.hubs) n.made
set-of cast w k n made c here =
    all-at (IsSet (length cast.hubs)) (map (λ (x : Node). x.made) w.nodes) k n.made (subst (AllByRecursion (IsSet (length cast.hubs))) (sym c.nodes) made.set)
    (slice_get-map (λ (x : Node). x.made) w.nodes k ∙ ap (option_map (λ (x : Node). x.made)) here)

ends-hears : (cast : Cast) → MadeWell cast → (T place : ℕ) (D : WorldStep) (w : World) (k : ℕ) (n : Node) (by : Option Arrival) (e : NodeEvent) → node_at w k ≡ Some n → Comes D w k n by e
    → fits n.log e ≡ true
    → KeepsGiven (KnowsNames cast T place) (EndsRight cast) w (hears k by (at_once w.now e) n w)
ends-hears cast made T place D w k n by e here come fit m i =
    (acts-after cast T place D k w n by e (Known n.made e L) (Within cast k L) here come fit (each_act cast T place k w by n.made e L made (set-of cast w k n made m.0.1 here)) m.0
    (λ action among. (each-due w.now n.made n.log e below timely word fit action among, λ s begun. alone s action among begun (peer L (Direct s)) refl))
    (record {
      ends = record { hubs = hubs-log w k w.now e i.hubs; peers = peers-log cast w k w.now n e here now i.peers };
      log = log-log w k w.now n e here;
    })).ends
  where
    L : Log
    L = n.log ++ brings_about n.made (at_once w.now e) n.log

    below : w.now < 2 ^ 62
    below = subst (λ t. t < 2 ^ 62) (sym m.0.0.at.now) m.0.0.at.below

    timely : Timely w.now n.log
    timely = subst (λ t. Timely t n.log) (sym m.0.0.at.now) (all-at (λ (x : Node). Timely T x.log) w.nodes k n m.0.0.at.timely here)

    word : brings_word e ≡ false
    word = no_word_comes D w k n by e come

    stays : Stays n.made n.log
    stays = all-at (λ (x : Node). Stays x.made x.log) w.nodes k n m.0.1.stays here

    on : (s : ℕ) (who : Identity) → peer L (Direct s) ≡ Some who → PeerOn n.log e s who (brings_about n.made (at_once w.now e) n.log)
    on s who = peer-on w.now n.made n.log e stays.knit.settled below timely word fit s who

    then_there : (s : ℕ) (who : Identity) → (peer n.log (Direct s) ≡ Some who) ⊎ IsNamedBy e (Direct s) who → who_is_there cast w (Direct s) n ≡ Some who
    then_there s who (inl was) = i.peers k n s who here was
    then_there s who (inr named) = named-there cast D w k n by e (Direct s) who made m.1 come named

    now : (s : ℕ) (who : Identity) → peer L (Direct s) ≡ Some who → who_is_there cast w (Direct s) n ≡ Some who
    now s who h = then_there s who (on s who h).0

    alone : (s : ℕ) (action : Action) → Among action (filter_map action_of (brings_about n.made (at_once w.now e) n.log)) → begins (Direct s) (did action) ≡ true → (o : Option Identity)
        → peer L (Direct s) ≡ o → peer L (Direct s) ≡ None
    alone s action among begun None is = is
    alone s action among begun (Some who) is =
        both_ways (list_any (begins (Direct s)) (brings_about n.made (at_once w.now e) n.log)) (unbegun (Direct s) (brings_about n.made (at_once w.now e) n.log) action among begun) (on s who is).1

-- ---- the moves of a step

-- What a node has under the name of a hub keeps leading to a hub, and the peer of a direct connection stays who is at its other end.
pub ends_stay : (cast : Cast) → MadeWell cast → (T place : ℕ) (D : WorldStep) → Each D (KeepsGiven (KnowsNames cast T place) (EndsRight cast))
ends_stay cast made T place D = record {
  over = λ w l m. ends-same cast w _ (G.each.over w l) refl;
  tells = λ w l j h k e other side m. ends-same cast w _ (G.each.tells w l j h k e other side) refl;
  empty = λ w l m. ends-same cast w _ (G.each.empty w l) refl;
  closes_down = λ w l m. ends-same cast w _ (G.each.closes_down w l) refl;
  hub_puts = λ w l j h k st o side wanted is m. ends-same cast w _ (G.each.hub_puts w l j h k st o side wanted is) refl;
  leaves = λ w l j h k c side conn m. ends-same cast w _ (G.each.leaves w l j h k c side conn) refl;
  stops = λ w j h here is m. ends-same cast w _ (G.each.stops w j h here is) refl;
  asks = λ w l j p h k o who side came said is m. ends-same cast w _ (G.each.asks w l j p h k o who side came said is) refl;
  joins = λ w l j p h k o who c replaced side came said is m. ends-same cast w _ (G.each.joins w l j p h k o who c replaced side came said is) refl;
  forwards = λ w l j p h k o c side conn came said m. ends-same cast w _ (G.each.forwards w l j p h k o c side conn came said) refl;
  takes = λ w l j h k c f side conn is m. ends-same cast w _ (G.each.takes w l j h k c f side conn is) refl;
  hears = λ w k n by e here come fit. ends-hears cast made T place D w k n by e here come fit;
  forgets = λ w later m. ends-same cast w _ (G.each.forgets w later) refl;
  arrives = λ w l way k x here is m. ends-same cast w _ (G.each.arrives w l way k x here is) refl;
  loses = λ w l m. ends-same cast w _ (G.each.loses w l) refl;
}
  where
    G : Lets D Lasts
    G = Lasting.lets D

-- ---- all that is known then

abbrev pub KnowsEnds : Cast → ℕ → ℕ → World → Type 0
KnowsEnds cast T place u = KnowsNames cast T place u × EndsRight cast u

pub knows_ends : (cast : Cast) → MadeWell cast → (T place : ℕ) (D : WorldStep) → Lets D (Keeps (KnowsEnds cast T place))
knows_ends cast made T place D =
    together D (KnowsNames cast T place) (EndsRight cast) (together D (KnowsAll cast T place) (Named cast) (knows_all cast T place D) (named_stays cast T place D)) (ends_stay cast made T place D)

-- What each move keeps where this is known, a step keeps.
pub kept-ends : (cast : Cast) → MadeWell cast → (It : World → Type 0) (t : TimedStep) (place : ℕ) → Each t.step (KeepsGiven (KnowsEnds cast t.now place) It) → (w : World)
    → KnowsEnds cast t.now place (begun w t) → It (begun w t) → It (done w t)
kept-ends cast made It t place N w known = (lets-step (KeepsBoth (KnowsEnds cast t.now place) It) t
    (beside t.step (KnowsEnds cast t.now place) It (knows_ends cast made t.now place t.step) N) w known).1
