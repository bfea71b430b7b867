-- After each step, each NPDU that a node put on a link to another node is that of a Send of its own to that other, with whom it had the
-- link as an established slot.
-- It serves clauses of functions of `laws`.
use Rattle.std.proofs.Common.{◌≡◌, ◌<◌, ◌⊎◌, inl, inr, ℕ, suc, Bool, true, false, cond, List, [], ◌∷◌, ◌++◌, length, Option, Some, None, refl, ap, sym, subst, ◌∙◌}
use Rattle.std.specs.Prelude.{◌+◌, ◌^◌, filter_map, slice_get, ⊤}
use Rattle.std.specs.Option.{option_map}
use Rattle.std.specs.List.{AllByRecursion}
use Rattle.bsc_direct.proofs.OneMore.{both_ways}
use Rattle.bsc_octets.specs.declared.identity.Identity.{Identity}
use Rattle.bsc_octets.specs.declared.vmac.Vmac.{Vmac}
use Rattle.bsc_octets.specs.Functions.{is_npdu}
use Rattle.bsc_connector.specs.Back.{newest}
use Rattle.bsc_frame.specs.declared.body.Body.TheVariants.{Npdu}
use Rattle.bsc_history.specs.declared.call.Call.TheVariants.{Connect}
use Rattle.bsc_node.specs.declared.link_name.LinkName.{LinkName}
use Rattle.bsc_node.specs.declared.link_name.LinkName.TheVariants.{Hub as HubName, Direct}
use Rattle.bsc_node.specs.declared.node_event.NodeEvent.{NodeEvent}
use Rattle.bsc_node.specs.declared.node_event.NodeEvent.TheVariants.{Send}
use Rattle.bsc_node.specs.declared.action.Action.{Action}
use Rattle.bsc_node.specs.declared.action.Action.TheVariants.{Put, Take, Dial}
use Rattle.bsc_node.specs.Messages.{message_octets}
use Rattle.bsc_node.specs.Conditions.{fits, brings_word}
use Rattle.bsc_node.specs.Logs.{Made, Line, came, Log}
use Rattle.bsc_node.specs.Links.{same_link}
use Rattle.bsc_node.specs.Ways.{established_peer}
use Rattle.bsc_node_identity.specs.Carried.{LeadsTo}
use Rattle.bsc_node_identity.proofs.Reasons.{is_beginning}
use Rattle.bsc_node_identity.proofs.Timely.{Timely}
use Rattle.bsc_network.specs.declared.world_step.WorldStep.{WorldStep}
use Rattle.bsc_network.specs.declared.way.Way.{Way}
use Rattle.bsc_network.specs.declared.way.Way.TheVariants.{Up, Down}
use Rattle.bsc_network.specs.declared.target.Target.{Target}
use Rattle.bsc_network.specs.declared.target.Target.TheVariants.{Hub as ToHub, Node as ToNode}
use Rattle.bsc_network.specs.declared.hold.Hold.{Hold}
use Rattle.bsc_network.specs.declared.arrival.Arrival.{Arrival}
use Rattle.bsc_network.specs.declared.parcel.Content.TheVariants.{Message, Closed}
use Rattle.bsc_network.specs.Worlds.{World, Node, Link, node_at, link_at}
use Rattle.bsc_network.specs.Changes.{with_found, with_side, puts_at}
use Rattle.bsc_network.specs.Outboxes.{Frame}
use Rattle.bsc_network.specs.HubCalls.{called}
use Rattle.bsc_network.specs.NodeSides.{other_way, hold_of, puts_on, puts_by, holds}
use Rattle.bsc_network.specs.Dialling.{new_link}
use Rattle.bsc_network.specs.NodeEvents.{brings_about, hears}
use Rattle.bsc_network.proofs.Places.{got-changed, get-changed, all-mapped, all-found, all-reversed}
use Rattle.bsc_network_laws.specs.Ends.{receiver, putter, message_of}
use Rattle.bsc_network_laws.specs.Carrying.{Sendings, npdus}
use Rattle.bsc_network_laws.specs.Deliveries.{IsAmong}
use Rattle.bsc_network_laws.specs.Naming.{Cast}
use Rattle.bsc_network_laws.specs.Peers.{other_end, who_is}
use Rattle.bsc_network_laws.proofs.Moves.{IsHeardBy, Comes, Each, Lets}
use Rattle.bsc_network_laws.proofs.Acting.{goes_on_in, EachAct, LetsActs}
use Rattle.bsc_network_laws.proofs.Sides.{side-side}
use Rattle.bsc_network_laws.proofs.Timing.{no_word_comes}
use Rattle.bsc_network_laws.proofs.Beside.{KeepsGiven}
use Rattle.bsc_network_laws.proofs.Holding.{EndOf, HoldsFit}
use Rattle.bsc_network_laws.proofs.Casting.{Stays, AmidAll}
use Rattle.bsc_network_laws.proofs.PutBySends.{sent_is_own}
use Rattle.bsc_network_laws.proofs.SentOnLinks.{IsCounted}
use Rattle.bsc_network_laws.proofs.Lasting.{NodeGrows, Lasts, lasts-none, lasts-then, lasts-log, lasts-longer, lasts-puts}
use Rattle.bsc_network_laws.proofs.Lasting as Lasting
use Rattle.bsc_network_laws.proofs.Brought.{at_once, begins-with, IsDue, each-due, IsSentOver, IsPutOver, each-over}
use Rattle.bsc_network_laws.proofs.MadeWell.{IsSet, MadeWell}
use Rattle.bsc_network_laws.proofs.OtherEnds.{LeadsToHub, HubsLead, hubs-same, hubs-holds, hubs-log, leads-taken, leads-dialled, who-lasts, puts-nodes, held-other, found-passes}
use Rattle.bsc_network_laws.proofs.OtherEnds.{acts-after, set-of, KnowsEnds}
use Rattle.bsc_network_laws.proofs.DirectLinks.{IsSentDirectly, AllDirect, log-grows, sent-lasts, direct-same, direct-link, spares-lost, spares-front, direct-side, direct-puts}
use Rattle.bsc_network_laws.proofs.DirectLinks.{direct-hub, direct-longer}
use Rattle.bsc_lemmas.proofs.Lists.{all-at}
use Rattle.bsc_network.proofs.Common.{same_node}
use Rattle.bsc_network_laws.proofs.Common.{puts-other}
use Rattle.bsc_node.proofs.Common.{same_link-is as same_link-true}
use Rattle.std.proofs.lemmas.Option.{same_Some as some_same}

-- ---- a node puts something

other-other : (way : Way) → other_way (other_way way) ≡ way
other-other Up = refl
other-other Down = refl

hears-other : (way : Way) (x : Link) → receiver (other_way way) x ≡ putter way x
hears-other Up x = refl
hears-other Down x = refl

pub each-among : {A : Type 0} (xs : List A) → AllByRecursion (IsAmong xs) xs
each-among [] = tt
each-among (x ∷ xs) = ((0, refl), all-mapped (IsAmong xs) (IsAmong (x ∷ xs)) (λ y a. (suc a.0, a.1)) xs (each-among xs))

pub newest-among : {A : Type 0} (test : A → Bool) (xs : List A) (x : A) → newest test xs ≡ Some x → IsAmong xs x
newest-among test xs x h = all-found (IsAmong xs) test _ x (all-reversed (IsAmong xs) xs (each-among xs)) h

-- the name of what a node has under a name
pub held-name : (name : LinkName) (m : Node) (h : Hold) → hold_of name m ≡ Some h → h.name ≡ name
held-name name m h is = same_link-true h.name name (found-passes (λ (g : Hold). same_link g.name name) _ h is)

-- what is known of the event, while its actions are carried out
record Within (S : Sendings) (cast : Cast) (w : World) (k : ℕ) (n : Node) (e : NodeEvent) (u : World) : Type 0 where
  grown : Lasts (goes_on_in k (at_once w.now e) w) u
  hubs : HubsLead u
  same : is_beginning e ≡ false → (s : ℕ) (m : Node) → node_at u k ≡ Some m → hold_of (Direct s) m ≡ hold_of (Direct s) n
  direct : AllDirect S cast u

-- what is known at its beginning
record Before (S : Sendings) (cast : Cast) (place : ℕ) (w : World) (k : ℕ) (n : Node) (e : NodeEvent) : Type 0 where
  here : node_at w k ≡ Some n
  counts : (dest : Vmac) (npdu : List ℕ) → e ≡ Send dest npdu → S place k dest npdu
  peers : (s : ℕ) (who : Identity) → established_peer s n.log ≡ Some who → who_is cast (other_end w (hold_of (Direct s) n)) ≡ Some who

-- what a Send puts over a direct connection
put-directly : (S : Sendings) (cast : Cast) (place : ℕ) (w u : World) (k : ℕ) (n m : Node) (e : NodeEvent) (name : LinkName) (o : List ℕ) (h : Hold) (x : Link) (j : ℕ)
    → Before S cast place w k n e → Within S cast w k n e u
    → node_at u k ≡ Some m → hold_of name m ≡ Some h → link_at u h.link ≡ Some x → receiver (other_way h.hears) x ≡ ToNode j → IsSentOver e n.log name o
    → IsSentDirectly S cast u h.link (other_way h.hears) k j (record { octets = o; sent_at = place })
put-directly S cast place w u k n m e name o h x j b i here held found hears s = by name refl s.leads
  where
    end : other_end u (Some h) ≡ Some (ToNode j)
    end = ap (option_map (putter h.hears)) found ∙ ap Some (sym (hears-other h.hears x) ∙ hears)

    is_hub : (t : Option Target) (a : ℕ) → t ≡ Some (ToNode j) → t ≡ Some (ToHub a) → ⊥
    is_hub t a p q = cc

    longer : Node → Node
    longer x = record x { log = x.log ++ brings_about x.made (at_once w.now e) x.log }

    grown : (y : Node) × (node_at u k ≡ Some y) × NodeGrows (longer n) y
    grown = i.grown.nodes.at k (longer n) (get-changed k longer w.nodes ∙ ap (option_map longer) b.here)

    since : NodeGrows (longer n) m
    since = subst (NodeGrows (longer n)) (some_same grown.0 m (sym grown.1 ∙ here)) grown.2

    lines : (later : List Line) × (brings_about n.made (at_once w.now e) n.log ≡ came (at_once w.now e) ∷ later)
    lines = begins-with n.made n.log (at_once w.now e)

    by : (link : LinkName) → name ≡ link → LeadsTo n.log s.dest link s.to → IsSentDirectly S cast u h.link (other_way h.hears) k j (record { octets = o; sent_at = place })
    by (HubName side) is leads =
        let l = all-found (LeadsToHub u) (λ (g : Hold). same_link g.name name) _ h (all-reversed (LeadsToHub u) m.holds (i.hubs k m here)) held side (held-name name m h held ∙ is) in
        absurd (is_hub (other_end u (Some h)) l.0 end l.1)
    by (Direct slot) is (none, who, established, at) =
        let now : hold_of (Direct slot) m ≡ Some h = ap (λ (link : LinkName). hold_of link m) (sym is) ∙ held in
        let before : hold_of (Direct slot) n ≡ Some h = sym (i.same (ap is_beginning s.event) slot m here) ∙ now in
        let there : who_is cast (other_end w (Some h)) ≡ Some who = ap (λ (g : Option Hold). who_is cast (other_end w g)) (sym before) ∙ b.peers slot who established in
        let one : h ≡ record { name = Direct slot; link = h.link; hears = other_way (other_way h.hears) } =
        ap (λ (link : LinkName). let g : Hold = record { name = link; link = h.link; hears = h.hears } in g) (held-name name m h held ∙ is)
        ∙ ap (λ (way : Way). let g : Hold = record { name = Direct slot; link = h.link; hears = way } in g) (sym (other-other h.hears)) in
        record {
          dest = s.dest;
          npdu = s.npdu;
          id = s.id;
          who = who;
          from = m;
          sends = b.counts s.dest s.npdu s.event;
          octets = s.octets ∙ ap (λ (to : Option Vmac). message_octets s.id to (Npdu s.npdu)) none;
          small = s.small;
          at_sender = here;
          sent = record {
            slot = slot;
            held = subst (IsAmong m.holds) one (newest-among (λ (g : Hold). same_link g.name name) m.holds h held);
            before = n.log;
            now = w.now;
            later = lines.0 ++ since.log.more;
            log = log-grows (longer n) m n.log (at_once w.now (Send s.dest s.npdu)) lines.0 since
                (ap (λ (x : List Line). n.log ++ x) lines.1 ∙ ap (λ (x : NodeEvent). n.log ++ came (at_once w.now x) ∷ lines.0) s.event);
            established = established;
          };
          is = sym (ap (who_is cast) end) ∙ who-lasts cast w u (lasts-then w (goes_on_in k (at_once w.now e) w) u (lasts-log w k (at_once w.now e)) i.grown) (Some h) who there;
          destination = sym at;
        }

fresh-one : (P : Frame → Type 0) (place : ℕ) (o : List ℕ) → (is_npdu o ≡ true → P (record { octets = o; sent_at = place }))
    → AllByRecursion P (npdus (filter_map message_of (record { content = Message o; sent_at = place } ∷ [])))
fresh-one P place o fresh = by (is_npdu o) fresh
  where
    by : (b : Bool) → (b ≡ true → P (record { octets = o; sent_at = place })) → AllByRecursion P (cond b (record { octets = o; sent_at = place } ∷ []) [])
    by true f = (f refl, tt)
    by false f = tt

direct-puts_by : (S : Sendings) (cast : Cast) (place : ℕ) (w u : World) (k : ℕ) (n : Node) (e : NodeEvent) (name : LinkName) (o : List ℕ) → Before S cast place w k n e → HoldsFit u
    → u.steps ≡ place → IsPutOver e n.log (Put name o)
    → Within S cast w k n e u → AllDirect S cast (puts_by k name (Message o) u)
direct-puts_by S cast place w u k n e name o b fit now over i = at_node (node_at u k) refl
  where
    at_hold : (m : Node) → node_at u k ≡ Some m → (q : Option Hold) → hold_of name m ≡ q → AllDirect S cast (with_found q (puts_on (Message o)) u)
    at_hold m here None is = i.direct
    at_hold m here (Some h) is =
        direct-puts S cast u h.link u.steps (other_way h.hears) (Message o)
        (λ x from j d. fresh-one _ u.steps o (λ npdu.
        let end : IsHeardBy u h.link h.hears k = all-found (EndOf u k) (λ (g : Hold). same_link g.name name) _ h (all-reversed (EndOf u k) m.holds (fit k m here)) is in
        let same : k ≡ from = same_node k from (sym (some_same (receiver h.hears x) (ToNode k) (sym (ap (option_map (receiver h.hears)) d.link) ∙ end)) ∙ sym (puts-other h.hears x) ∙ d.puts) in
        sent-lasts S cast u (puts_at h.link (other_way h.hears) u.steps (Message o) u) (lasts-puts u h.link (other_way h.hears) u.steps (Message o)) h.link (other_way h.hears) from j
        (record { octets = o; sent_at = u.steps })
        (subst (λ (a : ℕ). IsSentDirectly S cast u h.link (other_way h.hears) a j (record { octets = o; sent_at = u.steps })) same
        (subst (λ (p : ℕ). IsSentDirectly S cast u h.link (other_way h.hears) k j (record { octets = o; sent_at = p })) (sym now)
        (put-directly S cast place w u k n m e name o h x j b i here is d.link d.hears (over npdu)))))) i.direct

    at_node : (q : Option Node) → node_at u k ≡ q → AllDirect S cast (with_found q (λ m. with_found (hold_of name m) (puts_on (Message o))) u)
    at_node None is = i.direct
    at_node (Some m) is = at_hold m is (hold_of name m) refl

direct-closes : (S : Sendings) (cast : Cast) (u : World) (k : ℕ) (name : LinkName) → AllDirect S cast u → AllDirect S cast (puts_by k name Closed u)
direct-closes S cast u k name all = at_node (node_at u k)
  where
    at_hold : (q : Option Hold) → AllDirect S cast (with_found q (puts_on Closed) u)
    at_hold None = all
    at_hold (Some h) = direct-puts S cast u h.link u.steps (other_way h.hears) Closed (λ x from j d. tt) all

    at_node : (q : Option Node) → AllDirect S cast (with_found q (λ m. with_found (hold_of name m) (puts_on Closed)) u)
    at_node None = all
    at_node (Some m) = at_hold (hold_of name m)

-- ---- the moves of a step

within-same : (S : Sendings) (cast : Cast) (w : World) (k : ℕ) (n : Node) (e : NodeEvent) (u v : World) → Lasts u v → v.nodes ≡ u.nodes → AllDirect S cast v → Within S cast w k n e u
    → Within S cast w k n e v
within-same S cast w k n e u v g same direct i = record {
  grown = lasts-then (goes_on_in k (at_once w.now e) w) u v i.grown g;
  hubs = hubs-same u v g same i.hubs;
  same = λ quiet s m here. i.same quiet s m (ap (λ (ns : List Node). slice_get ns k) (sym same) ∙ here);
  direct = direct;
}

within-holds : (S : Sendings) (cast : Cast) (w : World) (k : ℕ) (n : Node) (e : NodeEvent) (u : World) (h : Hold) → LeadsToHub u h
    → (is_beginning e ≡ false → (s : ℕ) → same_link h.name (Direct s) ≡ false) → Within S cast w k n e u → Within S cast w k n e (holds k h u)
within-holds S cast w k n e u h leads other i = record {
  grown = lasts-then (goes_on_in k (at_once w.now e) w) u (holds k h u) i.grown (Lasting.lasts-holds u k h);
  hubs = hubs-holds u k h leads i.hubs;
  same = λ quiet s m here. by quiet s m (got-changed k (λ (x : Node). record x { holds = x.holds ++ h ∷ [] }) u.nodes k m here);
  direct = direct-same S cast u (holds k h u) (Lasting.lasts-holds u k h) refl i.direct;
}
  where
    by : is_beginning e ≡ false → (s : ℕ) (m : Node) → (slice_get u.nodes k ≡ Some m) ⊎ ((x : Node) × (k ≡ k) × (slice_get u.nodes k ≡ Some x) × (m ≡ record x { holds = x.holds ++ h ∷ [] }))
        → hold_of (Direct s) m ≡ hold_of (Direct s) n
    by quiet s m (inl at) = i.same quiet s m at
    by quiet s m (inr (x, same, at, is)) = ap (hold_of (Direct s)) is ∙ held-other (Direct s) x h (other quiet s) ∙ i.same quiet s x at

taken_other : (a : Made) (e : NodeEvent) (name : LinkName) → IsDue a e (Take name) → is_beginning e ≡ false → (s : ℕ) → same_link name (Direct s) ≡ false
taken_other a e (HubName side) due quiet s = refl
taken_other a e (Direct j) due quiet s = both_ways (is_beginning e) due quiet

dialled_other : (a : Made) (e : NodeEvent) (name : LinkName) (uri : List ℕ) → IsDue a e (Dial name uri) → is_beginning e ≡ false → (s : ℕ) → same_link name (Direct s) ≡ false
dialled_other a e (HubName side) uri due quiet s = refl
dialled_other a e (Direct j) uri due quiet s = both_ways (is_beginning e) due quiet

-- what is known of an action
abbrev Known : Made → NodeEvent → Log → Action → Type 0
Known a e L action = IsDue a e action × IsPutOver e L action

each_act : (S : Sendings) (cast : Cast) (T place k : ℕ) (w : World) (n : Node) (by : Option Arrival) (e : NodeEvent) → MadeWell cast → IsSet (length cast.hubs) n.made → Before S cast place w k n e
    → EachAct k by (Known n.made e n.log) (KeepsGiven (AmidAll w cast T place) (Within S cast w k n e))
each_act S cast T place k w n by e made set b = record {
  puts = λ u name o known m i. within-same S cast w k n e u _ (G.each.puts u name o tt) (puts-nodes u k name (Message o))
      (direct-puts_by S cast place w u k n e name o b m.0.knows.holds m.0.knows.at.steps known.1 i) i;
  closes = λ u name m i. within-same S cast w k n e u _ (G.each.closes u name) (puts-nodes u k name Closed) (direct-closes S cast u k name i.direct) i;
  takes = λ u name a is known m. within-holds S cast w k n e u _ (leads-taken n.made e u name a.link a.way known.0) (taken_other n.made e name known.0);
  dials_as = λ u name uri t known leads m i.
      let v : World = record u { links = u.links ++ new_link u k t ∷ [] } in
      within-holds S cast w k n e v _ (leads-dialled cast k n.made e u name uri t made m.1 set known.0 leads) (dialled_other n.made e name uri known.0)
      (within-same S cast w k n e u v (lasts-longer u (new_link u k t)) refl (direct-longer S cast u k t i.direct) i);
  fails_as = λ u name m i. within-same S cast w k n e u _ (G.each.fails_as u name) refl (direct-same S cast u _ (G.each.fails_as u name) refl i.direct) i;
  refuses_it = λ u a is m i. within-same S cast w k n e u _ (G.each.refuses_it u a is) refl (direct-puts S cast u a.link u.steps (other_way a.way) Closed (λ x from j d. tt) i.direct) i;
  delivers_one = λ u d a is known m i. within-same S cast w k n e u _ (G.each.delivers_one u d a is tt) refl (direct-same S cast u _ (G.each.delivers_one u d a is tt) refl i.direct) i;
}
  where
    G : LetsActs k by (λ action. ⊤) Lasts
    G = Lasting.lets_acts k by

direct-hears : (S : Sendings) (cast : Cast) → MadeWell cast → (T place : ℕ) (D : WorldStep) → IsCounted S place D → (w : World) (k : ℕ) (n : Node) (by : Option Arrival) (e : NodeEvent)
    → node_at w k ≡ Some n → Comes D w k n by e → fits n.log e ≡ true
    → KeepsGiven (KnowsEnds cast T place) (AllDirect S cast) w (hears k by (at_once w.now e) n w)
direct-hears S cast made T place D sends w k n by e here come fit m i =
    (acts-after cast T place D k w n by e (Known n.made e n.log) (Within S cast w k n e) here come fit (each_act S cast T place k w n by e made (set-of cast w k n made m.0.0.1 here) before) m.0.0
    (λ action among. (each-due w.now n.made n.log e below timely word fit action among, each-over w.now n.made n.log e below timely word fit action among))
    (record {
      grown = lasts-none (goes_on_in k (at_once w.now e) w);
      hubs = hubs-log w k w.now e m.1.hubs;
      same = λ quiet s x at. ap (hold_of (Direct s)) (some_same x (longer n) (sym at ∙ get-changed k longer w.nodes ∙ ap (option_map longer) here));
      direct = direct-same S cast w (goes_on_in k (at_once w.now e) w) (lasts-log w k (at_once w.now e)) refl i;
    })).direct
  where
    longer : Node → Node
    longer x = record x { log = x.log ++ brings_about x.made (at_once w.now e) x.log }

    below : w.now < 2 ^ 62
    below = subst (λ t. t < 2 ^ 62) (sym m.0.0.0.at.now) m.0.0.0.at.below

    timely : Timely w.now n.log
    timely = subst (λ t. Timely t n.log) (sym m.0.0.0.at.now) (all-at (λ (x : Node). Timely T x.log) w.nodes k n m.0.0.0.at.timely here)

    word : brings_word e ≡ false
    word = no_word_comes D w k n by e come

    stays : Stays n.made n.log
    stays = all-at (λ (x : Node). Stays x.made x.log) w.nodes k n m.0.0.1.stays here

    before : Before S cast place w k n e
    before = record {
      here = here;
      counts = λ dest npdu is. sends k dest npdu (sent_is_own D w k n by e dest npdu come is);
      peers = λ s who established. m.1.peers k n s who here (stays.knit.peers s who established);
    }

-- Each NPDU that goes from a node to a node stays that of a Send to the other, with whom there was a slot.
pub direct_stays : (S : Sendings) (cast : Cast) → MadeWell cast → (T place : ℕ) (D : WorldStep) → IsCounted S place D → Each D (KeepsGiven (KnowsEnds cast T place) (AllDirect S cast))
direct_stays S cast made T place D sends = record {
  over = λ w l m. direct-side S cast w l _;
  tells = λ w l j h k e other side m. direct-side S cast w l _;
  empty = λ w l m. direct-side S cast w l _;
  closes_down = λ w l m. direct-puts S cast w l w.steps Down Closed (λ x from j d. tt);
  hub_puts = λ w l j h k st o side wanted is m. direct-hub S cast w l j w.steps h k (Message o) side;
  leaves = λ w l j h k c side conn m. direct-same S cast w _ (G.each.leaves w l j h k c side conn) refl;
  stops = λ w j h here is m. direct-same S cast w _ (G.each.stops w j h here is) refl;
  asks = λ w l j p h k o who side came said is m. direct-same S cast w _ (G.each.asks w l j p h k o who side came said is) refl;
  joins = λ w l j p h k o who c replaced side came said is m i.
      let v = called j l p (Connect who) w in
      direct-side S cast (with_side l (λ x. record x { conn = Some c }) v) l _ (direct-side S cast v l _ (direct-same S cast w v (Lasting.lasts-called w j l p (Connect who)) refl i));
  forwards = λ w l j p h k o c side conn came said m. direct-same S cast w _ (G.each.forwards w l j p h k o c side conn came said) refl;
  takes = λ w l j h k c f side conn is m i.
      let v = with_side l (λ x. record x { taken = x.taken + 1 }) w in
      direct-hub S cast v l j f.sent_at h _ (Message f.octets) (side-side w l j h k (λ x. record x { taken = x.taken + 1 }) refl side) (direct-side S cast w l _ i);
  hears = λ w k n by e here come fit. direct-hears S cast made T place D sends w k n by e here come fit;
  forgets = λ w later m. direct-same S cast w _ (G.each.forgets w later) refl;
  arrives = λ w l way k x here is m. direct-link S cast w l _ (spares-front way) (G.each.arrives w l way k x here is);
  loses = λ w l m. direct-link S cast w l _ spares-lost (G.each.loses w l);
}
  where
    G : Lets D Lasts
    G = Lasting.lets D
