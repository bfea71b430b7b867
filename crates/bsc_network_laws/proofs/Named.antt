-- After each step, who names itself on a way of a link is who puts on that way; and what is in outboxes names nobody.
-- It serves clauses of functions of `laws`.
use Rattle.std.proofs.Common.{◌≡◌, ◌<◌, inl, inr, ℕ, zero, suc, Bool, true, false, List, [], ◌∷◌, Option, Some, None, refl, ap, sym, subst, ◌∙◌}
use Rattle.std.specs.Prelude.{◌+◌, ◌^◌, filter_map, slice_get, ⊤}
use Rattle.std.specs.Option.{option_map}
use Rattle.std.specs.List.{AllByRecursion}
use Rattle.std.proofs.lemmas.List.Elements.{filter_map-append}
use Rattle.bsc_octets.specs.declared.identity.Identity.{Identity}
use Rattle.bsc_history.specs.declared.call.Call.{Call}
use Rattle.bsc_history.specs.declared.call.Call.TheVariants.{Connect, Forward}
use Rattle.bsc_accept.specs.declared.step.Step.TheVariants.{Up as GoesUp}
use Rattle.bsc_node.specs.declared.link_name.LinkName.{LinkName}
use Rattle.bsc_node.specs.declared.node_event.NodeEvent.{NodeEvent}
use Rattle.bsc_node.specs.declared.timed_event.TimedEvent.{TimedEvent}
use Rattle.bsc_node.specs.declared.action.Action.{Action}
use Rattle.bsc_node.specs.Conditions.{fits}
use Rattle.bsc_node.specs.Logs.{Made, Log, came, own, own_vmac, renewal_in, action_of}
use Rattle.bsc_node.specs.Laws.{with_event}
use Rattle.bsc_node.specs.Node.{actions_at}
use Rattle.bsc_node.specs.Links.{same_link}
use Rattle.bsc_node_identity.specs.Naming.{is_connect, IsConnectOf, PutsAs}
use Rattle.bsc_node_identity.proofs.OneMore.{own_vmac-same}
use Rattle.bsc_node_identity.proofs.Events.{names-itself}
use Rattle.bsc_node_identity.proofs.Timely.{Timely}
use Rattle.bsc_network.specs.declared.world_step.WorldStep.{WorldStep}
use Rattle.bsc_network.specs.declared.way.Way.{Way}
use Rattle.bsc_network.specs.declared.way.Way.TheVariants.{Up, Down}
use Rattle.bsc_network.specs.declared.target.Target.{Target}
use Rattle.bsc_network.specs.declared.target.Target.TheVariants.{Hub as ToHub, Node as ToNode}
use Rattle.bsc_network.specs.declared.hold.Hold.{Hold}
use Rattle.bsc_network.specs.declared.arrival.Arrival.{Arrival}
use Rattle.bsc_network.specs.declared.parcel.Parcel.{Parcel}
use Rattle.bsc_network.specs.declared.parcel.Content.{Content}
use Rattle.bsc_network.specs.declared.parcel.Content.TheVariants.{Opened, Arrived, Message, Closed}
use Rattle.bsc_network.specs.Traffic.{Traffic, without_front, and_then}
use Rattle.bsc_network.specs.Worlds.{World, Hub, HubSide, Node, Link, entries, traffic, node_at, link_at}
use Rattle.bsc_network.specs.Changes.{with_found, with_link, with_side, with_traffic, puts_at}
use Rattle.bsc_network.specs.Outboxes.{Frame, frames, frames_by}
use Rattle.bsc_network.specs.HubCalls.{called, entry_in}
use Rattle.bsc_network.specs.NodeSides.{other_way, hold_of, puts_on, puts_by}
use Rattle.bsc_network.specs.Dialling.{new_link}
use Rattle.bsc_network.specs.NodeEvents.{brings_about}
use Rattle.bsc_network.proofs.Frames.{frames-more}
use Rattle.bsc_network.proofs.Places.{all-changed, all-changed_here, all-found, all-reversed}
use Rattle.bsc_network_laws.specs.Ends.{receiver, putter, message_of, messages}
use Rattle.bsc_network_laws.specs.Naming.{Cast, identity_in, IsNamedRight, NamesWhoPuts}
use Rattle.bsc_network_laws.proofs.Moves.{IsHeardBy, IsSide, HasArrived, IsSaid, Comes, Each}
use Rattle.bsc_network_laws.proofs.Acting.{Among, EachAct}
use Rattle.bsc_network_laws.proofs.Sides.{with_call}
use Rattle.bsc_network_laws.proofs.Timing.{no_word_comes}
use Rattle.bsc_network_laws.proofs.Events.{by-actions}
use Rattle.bsc_network_laws.proofs.Beside.{KeepsGiven}
use Rattle.bsc_network_laws.proofs.Holding.{EndOf, HoldsFit}
use Rattle.bsc_network_laws.proofs.Casting.{Stays, stays-on, Casts, KnowsAll, AmidAll, hears-all, hub-identity, node-identity}
use Rattle.bsc_network_laws.proofs.OwnNames.{own_names, carried_names_nobody, IsPlain, plain-frames}
use Rattle.bsc_lemmas.proofs.Lists.{all-at, all-push as all-one_more, all-right, all_append as all-joined}
use Rattle.bsc_network_laws.proofs.Common.{puts-other as putter-other}
use Rattle.std.proofs.lemmas.Option.{same_Some as some_same}

-- what enters a hub's outboxes names nobody
abbrev pub OutboxesNameNobody : Hub → Type 0
OutboxesNameNobody h = (c : ℕ) → AllByRecursion (λ (f : Frame). is_connect f.octets ≡ false) (frames h c)

pub record Named (cast : Cast) (w : World) : Type 0 where
  pub links : AllByRecursion (NamesWhoPuts cast) w.links
  pub outboxes : AllByRecursion OutboxesNameNobody w.hubs

-- ---- one way

-- where it names somebody, it names this peer
abbrev pub IsFresh : Option Identity → Content → Type 0
IsFresh own (Message o) = is_connect o ≡ true → (who : Identity) × (own ≡ Some who) × IsConnectOf who o
IsFresh own content = ⊤

fresh-one : (own : Option Identity) (place : ℕ) (content : Content) → IsFresh own content
    → AllByRecursion (IsNamedRight own) (filter_map message_of (record { content = content; sent_at = place } ∷ []))
fresh-one own place (Message o) fresh = (fresh, tt)
fresh-one own place Opened fresh = tt
fresh-one own place Arrived fresh = tt
fresh-one own place Closed fresh = tt

named-more : (own : Option Identity) (place : ℕ) (content : Content) (t : Traffic) → IsFresh own content → AllByRecursion (IsNamedRight own) (messages t)
    → AllByRecursion (IsNamedRight own) (messages (and_then (record { content = content; sent_at = place }) t))
named-more own place content t fresh all =
    subst (AllByRecursion (IsNamedRight own)) (sym (filter_map-append message_of t.put (record { content = content; sent_at = place } ∷ [])))
    (all-joined (IsNamedRight own) (messages t) _ all (fresh-one own place content fresh))

put-way : (cast : Cast) (way : Way) (place : ℕ) (content : Content) (x : Link) → IsFresh (identity_in cast (putter way x)) content → NamesWhoPuts cast x
    → NamesWhoPuts cast (with_traffic way (and_then (record { content = content; sent_at = place })) x)
put-way cast Up place content x fresh names = record { up = named-more (identity_in cast (putter Up x)) place content x.up fresh names.up; down = names.down }
put-way cast Down place content x fresh names = record { up = names.up; down = named-more (identity_in cast (putter Down x)) place content x.down fresh names.down }

-- ---- moves of links

link-same : (cast : Cast) (w : World) (l : ℕ) (f : Link → Link) → ((x : Link) → NamesWhoPuts cast x → NamesWhoPuts cast (f x)) → Named cast w → Named cast (with_link l f w)
link-same cast w l f keeps n = record { links = all-changed (NamesWhoPuts cast) l f keeps w.links n.links; outboxes = n.outboxes }

side-same : (cast : Cast) (w : World) (l : ℕ) (f : HubSide → HubSide) → Named cast w → Named cast (with_side l f w)
side-same cast w l f = link-same cast w l (λ link. record link { side = f link.side }) (λ x names. record { up = names.up; down = names.down })

-- something is put that names who puts it
named-puts : (cast : Cast) (w : World) (l place : ℕ) (way : Way) (content : Content) → ((x : Link) → link_at w l ≡ Some x → IsFresh (identity_in cast (putter way x)) content) → Named cast w
    → Named cast (puts_at l way place content w)
named-puts cast w l place way content fresh n = record {
  links = all-changed_here (NamesWhoPuts cast) l (with_traffic way (and_then (record { content = content; sent_at = place }))) w.links
      (λ x here names. put-way cast way place content x (fresh x here) names) n.links;
  outboxes = n.outboxes;
}

arrives-same : (cast : Cast) (w : World) (l : ℕ) (way : Way) → Named cast w → Named cast (with_link l (with_traffic way without_front) w)
arrives-same cast w l Up = link-same cast w l (with_traffic Up without_front) (λ x names. record { up = names.up; down = names.down })
arrives-same cast w l Down = link-same cast w l (with_traffic Down without_front) (λ x names. record { up = names.up; down = names.down })

pub named-same : (cast : Cast) (u v : World) → v.links ≡ u.links → v.hubs ≡ u.hubs → Named cast u → Named cast v
named-same cast u v links hubs n = record { links = subst (AllByRecursion (NamesWhoPuts cast)) (sym links) n.links; outboxes = subst (AllByRecursion OutboxesNameNobody) (sym hubs) n.outboxes }

-- ---- calls

named-called : (cast : Cast) (w : World) (j caller place : ℕ) (call : Call) → IsPlain call → Named cast w → Named cast (called j caller place call w)
named-called cast w j caller place call plain n = record {
  links = n.links;
  outboxes =
      all-changed OutboxesNameNobody j (with_call w caller place call)
      (λ h nobody c.
      subst (AllByRecursion (λ (f : Frame). is_connect f.octets ≡ false)) (sym (frames-more h.about h.posted (record { entry = entry_in w h caller call; sent_at = place }) c))
      (all-joined (λ (f : Frame). is_connect f.octets ≡ false) (frames h c) (frames_by h.about (entries h.posted) c (record { entry = entry_in w h caller call; sent_at = place })) (nobody c)
      (plain-frames h.about h.posted c (record { entry = entry_in w h caller call; sent_at = place }) plain)))
      w.hubs n.outboxes;
}

-- ---- what arrived

-- what stands on a way is among its messages
pub all-messages : (P : Frame → Type 0) (xs : List Parcel) (i : ℕ) (m : List ℕ) (place : ℕ) → AllByRecursion P (filter_map message_of xs)
    → slice_get xs i ≡ Some (record { content = Message m; sent_at = place }) → P (record { octets = m; sent_at = place })
all-messages P [] i m place all here = cc
all-messages P (x ∷ xs) zero m place all here = (subst (λ (y : Parcel). AllByRecursion P (filter_map message_of (y ∷ xs))) (some_same x _ here) all).0
all-messages P (x ∷ xs) (suc i) m place all here =
    all-messages P xs i m place (all-right P (filter_map message_of (x ∷ [])) (filter_map message_of xs) (subst (AllByRecursion P) (filter_map-append message_of (x ∷ []) xs) all)) here

-- what arrived by the way up of a link names the node that dialled it, where it names somebody
pub arrived-up : (cast : Cast) (w : World) (l place : ℕ) (k : Link) (m : List ℕ) → link_at w l ≡ Some k → HasArrived w l Up (record { content = Message m; sent_at = place }) → Named cast w
    → IsNamedRight (identity_in cast (ToNode k.from)) (record { octets = m; sent_at = place })
arrived-up cast w l place k m here arrival n =
    let same : k.up ≡ arrival.on = some_same k.up arrival.on (sym (ap (option_map (traffic Up)) here) ∙ arrival.found) in
    let names : NamesWhoPuts cast k = all-at (NamesWhoPuts cast) w.links l k n.links here in
    all-messages (IsNamedRight (identity_in cast (ToNode k.from))) k.up.put arrival.place m place names.up (ap (λ (t : Traffic). slice_get t.put arrival.place) same ∙ arrival.here)

-- ---- what a node puts

own-same : (a : Made) (L : Log) (e : TimedEvent) → renewal_in e.event ≡ None → own_vmac a L ≡ a.own.vmac → own a (with_event L e) ≡ a.own
own-same a L e wordless vmac = ap (λ v. record a.own { vmac = v }) (own_vmac-event ∙ vmac)
  where
    own_vmac-event : own_vmac a (with_event L e) ≡ own_vmac a L
    own_vmac-event = own_vmac-same a L (came e) wordless

pub all-among : (P : Action → Type 0) (xs : List Action) (x : Action) → AllByRecursion P xs → Among x xs → P x
all-among P [] x all none = absurd none
all-among P (y ∷ xs) x all (inl same) = subst P (sym same) all.0
all-among P (y ∷ xs) x all (inr later) = all-among P xs x all.1 later

-- each action of the event puts nothing that names another
node-names : (cast : Cast) (T place : ℕ) (D : WorldStep) (w : World) (k : ℕ) (n : Node) (by : Option Arrival) (e : NodeEvent) → node_at w k ≡ Some n → Comes D w k n by e
    → fits n.log e ≡ true → KnowsAll cast T place w
    → (action : Action) → Among action (filter_map action_of (brings_about n.made (record { now = w.now; event = e }) n.log)) → PutsAs n.made.own action
node-names cast T place D w k n by e here come fit known =
    by-actions (Stays n.made) (PutsAs n.made.own) w.now n.made n.log e (subst (λ t. t < 2 ^ 62) (sym known.0.at.now) known.0.at.below)
    (subst (λ t. Timely t n.log) (sym known.0.at.now) (all-at (λ (x : Node). Timely T x.log) w.nodes k n known.0.at.timely here)) (no_word_comes D w k n by e come) fit
    (stays-on n.made w.now e)
    (λ M x of s action among.
    all-among (PutsAs n.made.own) (actions_at n.made M x) action
    (subst (λ who. AllByRecursion (PutsAs who) (actions_at n.made M x)) (own-same n.made M x of.wordless s.vmac) (names-itself n.made M x s.knit.settled of.may)) among)
    (all-at (λ (x : Node). Stays x.made x.log) w.nodes k n known.1.stays here)

heard-same : (w : World) (l k : ℕ) (way : Way) (x : Link) → IsHeardBy w l way k → link_at w l ≡ Some x → putter (other_way way) x ≡ ToNode k
heard-same w l k way x heard here = putter-other way x ∙ some_same (receiver way x) (ToNode k) (sym (ap (option_map (receiver way)) here) ∙ heard)

named-puts_by : (cast : Cast) (w : World) (k : ℕ) (name : LinkName) (content : Content) → HoldsFit w → IsFresh (identity_in cast (ToNode k)) content → Named cast w
    → Named cast (puts_by k name content w)
named-puts_by cast w k name content fit fresh s = at_node (node_at w k) refl
  where
    at_hold : (n : Node) → node_at w k ≡ Some n → (o : Option Hold) → hold_of name n ≡ o → Named cast (with_found o (puts_on content) w)
    at_hold n here None is = s
    at_hold n here (Some h) is =
        named-puts cast w h.link w.steps (other_way h.hears) content
        (λ x at. subst (λ t. IsFresh (identity_in cast t) content) (sym (heard-same w h.link k h.hears x
        (all-found (EndOf w k) (λ h. same_link h.name name) _ h (all-reversed (EndOf w k) n.holds (fit k n here)) is) at)) fresh) s

    at_node : (o : Option Node) → node_at w k ≡ o → Named cast (with_found o (λ n. with_found (hold_of name n) (puts_on content)) w)
    at_node None is = s
    at_node (Some n) is = at_hold n is (hold_of name n) refl

-- ---- the moves of a step

new_names : (cast : Cast) (w : World) (k : ℕ) (t : Target) → NamesWhoPuts cast (new_link w k t)
new_names cast w k (ToHub j) = record { up = tt; down = tt }
new_names cast w k (ToNode j) = record { up = tt; down = tt }

each_act : (cast : Cast) (T place : ℕ) (D : WorldStep) (k : ℕ) (w : World) (n : Node) (by : Option Arrival) (e : NodeEvent) → identity_in cast (ToNode k) ≡ Some n.made.own → Comes D w k n by e
    → EachAct k by (PutsAs n.made.own) (KeepsGiven (AmidAll w cast T place) (Named cast))
each_act cast T place D k w n by e who come = record {
  puts = λ u name o known a. named-puts_by cast u k name (Message o) a.0.knows.holds (λ names. (n.made.own, who, known names));
  closes = λ u name a. named-puts_by cast u k name Closed a.0.knows.holds tt;
  takes = λ u name b is known a. named-same cast u _ refl refl;
  dials_as = λ u name uri t known leads a s. record { links = all-one_more (NamesWhoPuts cast) u.links (new_link u k t) s.links (new_names cast u k t); outboxes = s.outboxes };
  fails_as = λ u name a. named-same cast u _ refl refl;
  refuses_it = λ u b is a. named-puts cast u b.link u.steps (other_way b.way) Closed (λ x here. tt);
  delivers_one = λ u d b is known a. named-same cast u _ refl refl;
}

named-takes : (cast : Cast) (w : World) (l j : ℕ) (h : Hub) (k : Link) (c i : ℕ) (f : Frame) → IsSide w l j h k → slice_get (frames h c) i ≡ Some f → Named cast w
    → Named cast (puts_at l Down f.sent_at (Message f.octets) (with_side l (λ s. record s { taken = s.taken + 1 }) w))
named-takes cast w l j h k c i f side is s =
    let nobody = all-at (λ (g : Frame). is_connect g.octets ≡ false) (frames h c) i f (all-at OutboxesNameNobody w.hubs j h s.outboxes side.hub c) is in
    named-puts cast (with_side l (λ x. record x { taken = x.taken + 1 }) w) l f.sent_at Down (Message f.octets) (λ x here names. absurd (not_true (is_connect f.octets) nobody names))
    (side-same cast w l _ s)
  where
    not_true : (b : Bool) → b ≡ false → b ≡ true → ⊥
    not_true b p q = cc

named-hub_puts : (cast : Cast) (w : World) (l j : ℕ) (h : Hub) (k : Link) (o : List ℕ) → IsSide w l j h k → Casts cast w → (is_connect o ≡ true → IsConnectOf h.about.hub o) → Named cast w
    → Named cast (puts_at l Down w.steps (Message o) w)
named-hub_puts cast w l j h k o side c right =
    named-puts cast w l w.steps Down (Message o) (λ x here names.
    (h.about.hub, ap (identity_in cast) (ap (λ (y : Link). y.to) (some_same x k (sym here ∙ side.link)) ∙ side.leads) ∙ hub-identity cast w j h c side.hub, right names))

forwards-plain : (cast : Cast) (w : World) (l j place : ℕ) (h : Hub) (k : Link) (m : List ℕ) → IsSide w l j h k → HasArrived w l Up (record { content = Message m; sent_at = place })
    → IsSaid h k m GoesUp → Named cast w → is_connect m ≡ false
forwards-plain cast w l j place h k m side arrival said s = by (is_connect m) refl
  where
    by : (b : Bool) → is_connect m ≡ b → is_connect m ≡ false
    by false is = is
    by true is = let right = arrived-up cast w l place k m side.link arrival s is in carried_names_nobody h k m right.0 said (λ names. right.2)

-- Who names itself stays who puts it.
pub named_stays : (cast : Cast) (T place : ℕ) (D : WorldStep) → Each D (KeepsGiven (KnowsAll cast T place) (Named cast))
named_stays cast T place D = record {
  over = λ w l m. side-same cast w l _;
  tells = λ w l j h k e other side m. side-same cast w l _;
  empty = λ w l m. side-same cast w l _;
  closes_down = λ w l m. named-puts cast w l w.steps Down Closed (λ x here. tt);
  hub_puts = λ w l j h k st o side wanted is m. named-hub_puts cast w l j h k o side m.1 (own_names h.about st wanted o is);
  leaves = λ w l j h k c side conn m. named-called cast w j l w.steps _ tt;
  stops = λ w j h here is m. named-called cast w j _ w.steps _ tt;
  asks = λ w l j p h k o who side arrival said is m. named-called cast w j l p (Connect who) tt;
  joins = λ w l j p h k o who c replaced side arrival said is m s. side-same cast (with_side l (λ x. record x { conn = Some c }) (called j l p (Connect who) w)) l _
      (side-same cast (called j l p (Connect who) w) l _ (named-called cast w j l p (Connect who) tt s));
  forwards = λ w l j p h k o c side conn arrival said m s. named-called cast w j l p (Forward c o) (forwards-plain cast w l j p h k o side arrival said s) s;
  takes = λ w l j h k c f side conn is m. named-takes cast w l j h k c k.side.taken f side is;
  hears = λ w k n by e here come fit m.
      hears-all cast T place D k w n by e (PutsAs n.made.own) (Named cast) here come fit (each_act cast T place D k w n by e (node-identity cast w k n m.1 here) come) m (named-same cast w _ refl refl)
      (node-names cast T place D w k n by e here come fit m);
  forgets = λ w later m. named-same cast w _ refl refl;
  arrives = λ w l way k x here is m. arrives-same cast w l way;
  loses = λ w l m. link-same cast w l (λ link. record link { is_lost = true }) (λ x names. record { up = names.up; down = names.down });
}
