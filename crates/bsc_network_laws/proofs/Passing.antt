-- After each step, each NPDU in an outbox was passed on to its connection: it is that of a Send of the node that dialled the
-- sender's link, and meant for a connection that was live then.
-- It serves clauses of functions of `laws`.
use Rattle.std.proofs.Common.{◌≡◌, ◌<◌, ◌⊎◌, inl, inr, ℕ, ◌==◌, nat_le, Bool, true, false, not, cond, ◌&&◌, ◌||◌, List, [], ◌∷◌, ◌++◌, filter, length, map, Option, Some, None}
use Rattle.std.proofs.Common.{refl, ap, sym, subst, ◌∙◌, append_assoc}
use Rattle.std.specs.Prelude.{◌^◌, slice_get, ⊤}
use Rattle.std.specs.Option.{option_map}
use Rattle.std.specs.List.{AllByRecursion, list_any}
use Rattle.std.proofs.lemmas.Bool.{and_parts, both_ways, eqb-true}
use Rattle.std.proofs.lemmas.List.Elements.{filter-append}
use Rattle.bsc_octets.specs.declared.vmac.Vmac.{Vmac}
use Rattle.bsc_octets.specs.Envelopes.{announces_dest, announces_origin, flags_in}
use Rattle.bsc_octets.specs.Forwarding.{has_route, out}
use Rattle.bsc_octets.specs.Functions.{is_npdu}
use Rattle.bsc_frame.specs.declared.body.Body.TheVariants.{Npdu}
use Rattle.bsc_history.specs.declared.limits.About.{About}
use Rattle.bsc_history.specs.declared.call.Call.{Call}
use Rattle.bsc_history.specs.declared.call.Call.TheVariants.{Connect, Forward, Leave, Stop as StopCall, Count}
use Rattle.bsc_history.specs.declared.connection.Connection.{Connection}
use Rattle.bsc_history.specs.declared.entry.Entry.{Entry}
use Rattle.bsc_history.specs.declared.looks.Look.{Look}
use Rattle.bsc_history.specs.Ends.{joined, live, numbered, is_live}
use Rattle.bsc_history.specs.Legality.{Legal}
use Rattle.bsc_history.specs.Outboxes.{added_by, means, meant, out_of, sent, takes, vmac_in, vmac_of, is_too_long, is_found_full}
use Rattle.bsc_history.proofs.Lists.{In, In-filter, any_gives, same_one}
use Rattle.bsc_history.proofs.Numbers.{live_numbers}
use Rattle.bsc_history.proofs.Connections.{found_in, joined_apart, joined_in, numbered_so}
use Rattle.bsc_checks.specs.Outcomes.{outcome_of}
use Rattle.bsc_checks.specs.declared.place.Place.TheVariants.{HubPort}
use Rattle.bsc_accept.specs.Past.{phase, standing}
use Rattle.bsc_accept.specs.declared.step.Step.TheVariants.{Up as GoesUp}
use Rattle.bsc_script_laws.proofs.Judged.{routes}
use Rattle.bsc_node.specs.Messages.{message_octets}
use Rattle.bsc_node.specs.declared.node_event.NodeEvent.{NodeEvent}
use Rattle.bsc_node.specs.declared.link_name.LinkName.{LinkName}
use Rattle.bsc_network.specs.declared.world_step.WorldStep.{WorldStep}
use Rattle.bsc_network.specs.declared.way.Way.TheVariants.{Up}
use Rattle.bsc_network.specs.declared.arrival.Arrival.{Arrival}
use Rattle.bsc_network.specs.declared.parcel.Content.TheVariants.{Message, Closed}
use Rattle.bsc_network.specs.declared.parcel.Content.{Content}
use Rattle.bsc_network.specs.declared.hold.Hold.{Hold}
use Rattle.bsc_network.specs.Worlds.{World, Hub, Node, Link, Posted, entries, history, traffic, hub_at, node_at, link_at}
use Rattle.bsc_network.specs.Changes.{with_found, with_side}
use Rattle.bsc_network.specs.HubCalls.{called, entry_in}
use Rattle.bsc_network.specs.NodeSides.{hold_of, puts_on, puts_by}
use Rattle.bsc_network.specs.NodeEvents.{hears}
use Rattle.bsc_network.specs.Outboxes.{Frame, at_place, frames, frames_by}
use Rattle.bsc_network.proofs.Frames.{frames-more}
use Rattle.bsc_network.proofs.Places.{all-mapped, got-changed}
use Rattle.bsc_network_laws.specs.Ends.{messages}
use Rattle.bsc_network_laws.specs.Carrying.{Sendings, npdus, IsSentBy}
use Rattle.bsc_network_laws.specs.Naming.{Cast}
use Rattle.bsc_network_laws.specs.Connecting.{is_conn, HasJoinedBy}
use Rattle.bsc_network_laws.specs.Passing.{IsPassedOn, IsPassedTo, PassesOn}
use Rattle.bsc_network_laws.proofs.Moves.{IsSide, HasArrived, IsSaid, Lets, EachWhole}
use Rattle.bsc_network_laws.proofs.Acting.{LetsActs, lets-hears}
use Rattle.bsc_network_laws.proofs.Sides.{side_of, with_call}
use Rattle.bsc_network_laws.proofs.Beside.{Keeps, KeepsGiven}
use Rattle.bsc_network_laws.proofs.Holding.{Keep}
use Rattle.bsc_network_laws.proofs.Holding as Holding
use Rattle.bsc_network_laws.proofs.Diallers.{dialled-on}
use Rattle.bsc_network_laws.proofs.Named.{all-messages}
use Rattle.bsc_network_laws.proofs.SentOnLinks.{LinkSent, AllSent}
use Rattle.bsc_network_laws.proofs.Legally.{KnowsSides, Legally}
use Rattle.bsc_accept.proofs.Common.{carries_by}
use Rattle.bsc_lemmas.proofs.Lists.{all-at, all_append as all-joined}
use Rattle.bsc_lemmas.proofs.Options.{found_some}
use Rattle.bsc_node_identity.proofs.Npdus.{out-npdu as npdu-out}
use Rattle.std.proofs.lemmas.Option.{same_Some as some_same}

-- ---- some of the frames

abbrev holds_npdu : Frame → Bool
holds_npdu f = is_npdu f.octets

cons_if : {A : Type 0} (P : A → Type 0) (b : Bool) (x : A) (xs : List A) → (b ≡ true → P x) → AllByRecursion P xs → AllByRecursion P (cond b (x ∷ xs) xs)
cons_if P true x xs here rest = (here refl, rest)
cons_if P false x xs here rest = rest

pub all_filtered : {A : Type 0} (P : A → Type 0) (q : A → Bool) (xs : List A) → AllByRecursion (λ x. q x ≡ true → P x) xs → AllByRecursion P (filter q xs)
all_filtered P q [] all = tt
all_filtered P q (x ∷ xs) all = cons_if P (q x) x (filter q xs) all.0 (all_filtered P q xs all.1)

if_cons : {A : Type 0} (P : A → Type 0) (b : Bool) (x : A) (xs : List A) → AllByRecursion P (cond b (x ∷ xs) xs) → (b ≡ true → P x) × AllByRecursion P xs
if_cons P true x xs all = (λ is. all.0, all.1)
if_cons P false x xs all = (λ is. cc, all)

pub all_unfiltered : {A : Type 0} (P : A → Type 0) (q : A → Bool) (xs : List A) → AllByRecursion P (filter q xs) → AllByRecursion (λ x. q x ≡ true → P x) xs
all_unfiltered P q [] all = tt
all_unfiltered P q (x ∷ xs) all = (let two = if_cons P (q x) x (filter q xs) all in (two.0, all_unfiltered P q xs two.1))

-- ---- what was passed on stays so

-- the dialler of each link stays
abbrev DiallersStay : World → World → Type 0
DiallersStay u v = (l k : ℕ) → option_map (λ (x : Link). x.from) (link_at u l) ≡ Some k → option_map (λ (x : Link). x.from) (link_at v l) ≡ Some k

passed_later : (S : Sendings) (u v : World) → DiallersStay u v → (posted grown later : List Posted) (to : Connection) (f : Frame) (p : IsPassedOn S u posted to f)
    → grown ≡ p.before ++ p.forward ∷ later → IsPassedOn S v grown to f
passed_later S u v dialled posted grown later to f p split = record {
  before = p.before;
  forward = p.forward;
  later = later;
  split = split;
  from = p.from;
  frame = p.frame;
  call = p.call;
  place = p.place;
  sender_live = p.sender_live;
  receiver_live = p.receiver_live;
  meant = p.meant;
  octets = p.octets;
  sender = p.sender;
  dialled = dialled p.from.caller p.sender p.dialled;
  dest = p.dest;
  npdu = p.npdu;
  id = p.id;
  small = p.small;
  sends = p.sends;
  carried = p.carried;
}

passed-on : (S : Sendings) (w : World) (posted more : List Posted) (c : ℕ) (f : Frame) → IsPassedTo S w posted c f → IsPassedTo S w (posted ++ more) c f
passed-on S w posted more c f (to, number, p) =
    (to, number, passed_later S w w (λ l k is. is) posted (posted ++ more) (p.later ++ more) to f p (ap (λ (ps : List Posted). ps ++ more) p.split ∙ append_assoc p.before (p.forward ∷ p.later) more))

passed-same : (S : Sendings) (u v : World) → Keep u v → (posted : List Posted) (c : ℕ) (f : Frame) → IsPassedTo S u posted c f → IsPassedTo S v posted c f
passed-same S u v kept posted c f (to, number, p) = (to, number, passed_later S u v (dialled-on u v kept) posted posted p.later to f p p.split)

-- a change that no hub has part in
passes-same : (S : Sendings) (u v : World) → Keep u v → v.hubs ≡ u.hubs → Keeps (PassesOn S) u v
passes-same S u v kept hubs s j h c at =
    all-mapped (IsPassedTo S u h.posted c) (IsPassedTo S v h.posted c) (passed-same S u v kept h.posted c) (npdus (frames h c)) (s j h c (ap (λ (hs : List Hub). slice_get hs j) (sym hubs) ∙ at))

pub passes-still : (S : Sendings) (u v : World) → v.nodes ≡ u.nodes → v.links ≡ u.links → v.hubs ≡ u.hubs → PassesOn S u → PassesOn S v
passes-still S u v nodes links hubs = passes-same S u v (Holding.keep-others u v (sym nodes) (sym links)) hubs

-- ---- a call

-- A call is made, by which what enters outboxes was passed on.
passes-called : (S : Sendings) (w : World) (j caller place : ℕ) (call : Call)
    → ((h : Hub) (c : ℕ) → hub_at w j ≡ Some h → AllByRecursion (IsPassedTo S w (with_call w caller place call h).posted c)
    (npdus (frames_by h.about (entries h.posted) c (record { entry = entry_in w h caller call; sent_at = place }))))
    → Keeps (PassesOn S) w (called j caller place call w)
passes-called S w j caller place call new s i g c at = all-mapped (IsPassedTo S w g.posted c) (IsPassedTo S v g.posted c) (passed-same S w v (Holding.keep-others w v refl refl) g.posted c)
    (npdus (frames g c)) (by (got-changed j (with_call w caller place call) w.hubs i g at))
  where
    v : World
    v = called j caller place call w

    by : (hub_at w i ≡ Some g) ⊎ ((x : Hub) × (j ≡ i) × (hub_at w i ≡ Some x) × (g ≡ with_call w caller place call x)) → AllByRecursion (IsPassedTo S w g.posted c) (npdus (frames g c))
    by (inl here) = s i g c here
    by (inr (x, same, here, changed)) =
        let p : Posted = record { entry = entry_in w x caller call; sent_at = place } in
        let more = frames_by x.about (entries x.posted) c p in
        let P = IsPassedTo S w (with_call w caller place call x).posted c in
        subst (λ (y : Hub). AllByRecursion (IsPassedTo S w y.posted c) (npdus (frames y c))) (sym changed)
        (subst (AllByRecursion P) (sym (ap npdus (frames-more x.about x.posted p c) ∙ filter-append holds_npdu (frames x c) more))
        (all-joined P (npdus (frames x c)) (npdus more) (all-mapped (IsPassedTo S w x.posted c) P (passed-on S w x.posted (p ∷ []) c) (npdus (frames x c)) (s i x c here))
        (new x c (ap (slice_get w.hubs) same ∙ here))))

abbrev is_forward : Call → Bool
is_forward (Forward sender m) = true
is_forward call = false

-- a call that adds nothing
adds_none : (a : About) (G : List Entry) (entered : List (List ℕ)) (c : ℕ) (call : Call) (looks : List Look) → is_forward call ≡ false → added_by a G entered c call looks ≡ []
unfolding added_by
adds_none a G entered c (Forward sender m) looks h = cc
adds_none a G entered c (Connect who) looks h = refl
adds_none a G entered c (Leave conn taken empties) looks h = refl
adds_none a G entered c StopCall looks h = refl
adds_none a G entered c Count looks h = refl

passes-quiet : (S : Sendings) (w : World) (j caller place : ℕ) (call : Call) → is_forward call ≡ false → Keeps (PassesOn S) w (called j caller place call w)
passes-quiet S w j caller place call quiet =
    passes-called S w j caller place call (λ h c at.
    subst (λ (os : List (List ℕ)). AllByRecursion (IsPassedTo S w (with_call w caller place call h).posted c) (npdus (map (at_place place) os)))
    (sym (adds_none h.about (history h) (sent h.about (history h) c) c call (entry_in w h caller call).looks quiet)) tt)

-- ---- a forward

if_so : {A : Type 0} (P : A → Type 0) (b : Bool) (x : A) → (b ≡ true → P x) → AllByRecursion P (cond b (x ∷ []) [])
if_so P true x h = (h refl, tt)
if_so P false x h = tt

all_added : (P : List ℕ → Type 0) (a : About) (G : List Entry) (entered : List (List ℕ)) (c sender : ℕ) (m : List ℕ) (looks : List Look)
    → ((is_live G sender && list_any (takes a (out_of G sender m) entered looks c) (meant G sender m)) ≡ true → P (out_of G sender m))
    → AllByRecursion P (added_by a G entered c (Forward sender m) looks)
unfolding added_by
all_added P a G entered c sender m looks so = if_so P (is_live G sender && list_any (takes a (out_of G sender m) entered looks c) (meant G sender m)) (out_of G sender m) so

all_placed : (P : Frame → Type 0) (place : ℕ) (os : List (List ℕ)) → AllByRecursion (λ o. P (at_place place o)) os → AllByRecursion P (map (at_place place) os)
all_placed P place [] all = tt
all_placed P place (o ∷ os) all = (all.0, all_placed P place os all.1)

-- an NPDU that came up to a hub is that of a Send of who dialled
sent-up : (S : Sendings) (w : World) (l place : ℕ) (k : Link) (m : List ℕ) → link_at w l ≡ Some k → HasArrived w l Up (record { content = Message m; sent_at = place }) → AllSent S w → is_npdu m ≡ true
    → IsSentBy S k.from (record { octets = m; sent_at = place })
sent-up S w l place k m here arrival all is =
    let same : k.up ≡ arrival.on = some_same k.up arrival.on (sym (ap (option_map (traffic Up)) here) ∙ arrival.found) in
    let sent = all-at (LinkSent S) w.links l k all here in
    all-messages (λ f. holds_npdu f ≡ true → IsSentBy S k.from f) k.up.put arrival.place m place (all_unfiltered (IsSentBy S k.from) holds_npdu (messages k.up) sent.up)
    (ap (λ t. slice_get t.put arrival.place) same ∙ arrival.here) is

-- what is to be carried has the destination
with_dest : (S : Sendings) (k place : ℕ) (m : List ℕ) → has_route m ≡ true → IsSentBy S k (record { octets = m; sent_at = place })
    → (dest : Vmac) × (npdu : List ℕ) × (id : ℕ) × S place k dest npdu × (m ≡ message_octets id (Some dest) (Npdu npdu)) × (id < 2 ^ 16)
with_dest S k place m route (dest, npdu, id, to, sends, octets, inl is, small) = (dest, npdu, id, sends, octets ∙ ap (λ o. message_octets id o (Npdu npdu)) is, small)
with_dest S k place m route (dest, npdu, id, to, sends, octets, inr is, small) = absurd (none (ap has_route (sym (octets ∙ ap (λ o. message_octets id o (Npdu npdu)) is)) ∙ route))
  where
    none : has_route (message_octets id None (Npdu npdu)) ≡ true → ⊥
    none h = absurd (both_ways (announces_dest (flags_in (message_octets id None (Npdu npdu)))) refl (announced (message_octets id None (Npdu npdu)) h))
      where
        announced : (o : List ℕ) → has_route o ≡ true → announces_dest (flags_in o) ≡ true
        announced o h =
            let first = and_parts (nat_le 10 (length o) && announces_dest (flags_in o)) (not (announces_origin (flags_in o))) h in
            (and_parts (nat_le 10 (length o)) (announces_dest (flags_in o)) first.0).1

-- Who joined by a link's call, and by which number, is one connection.
pub joined_by : (h : Hub) (l c : ℕ) (x : Connection) → Legal h.about (history h) → HasJoinedBy h l c → In x (joined (history h)) → x.number ≡ c → x.caller ≡ l
joined_by h l c x legal has m number =
    let one = any_gives (is_conn l c) (joined (history h)) has in
    let two = and_parts (one.0.number == c) (one.0.caller == l) one.2 in
    let same : x ≡ one.0 = same_one (λ (y : Connection). y.number) x one.0 (joined (history h)) (joined_apart h.about (history h) legal) m one.1 (number ∙ sym (eqb-true one.0.number c two.0)) in
    ap (λ (y : Connection). y.caller) same ∙ eqb-true one.0.caller l two.1

-- what is known when something is passed on
pub record KnowsHistories (cast : Cast) (S : Sendings) (T place : ℕ) (w : World) : Type 0 where
  pub sides : KnowsSides cast T place w
  pub legally : Legally w
  pub sent : AllSent S w

passes-forwards : (cast : Cast) (S : Sendings) (T place : ℕ) (w : World) (l j p : ℕ) (h : Hub) (k : Link) (m : List ℕ) (d : ℕ) → IsSide w l j h k → k.side.conn ≡ Some d
    → HasArrived w l Up (record { content = Message m; sent_at = p })
    → IsSaid h k m GoesUp → KnowsHistories cast S T place w → (c : ℕ)
    → AllByRecursion (IsPassedTo S w (with_call w l p (Forward d m) h).posted c) (npdus (frames_by h.about (entries h.posted) c (record { entry = entry_in w h l (Forward d m); sent_at = p })))
passes-forwards cast S T place w l j p h k m d side conn arrival said known c =
    all_filtered P holds_npdu (frames_by h.about H c new)
    (all_placed (λ f. holds_npdu f ≡ true → P f) p (added_by h.about H (sent h.about H c) c (Forward d m) (entry_in w h l (Forward d m)).looks)
    (all_added (λ o. is_npdu o ≡ true → P (at_place p o)) h.about H (sent h.about H c) c d m (entry_in w h l (Forward d m)).looks passed))
  where
    H : List Entry
    H = history h

    looks : List Look
    looks = (entry_in w h l (Forward d m)).looks

    new : Posted
    new = record { entry = entry_in w h l (Forward d m); sent_at = p }

    P : Frame → Type 0
    P = IsPassedTo S w (h.posted ++ new ∷ []) c

    legal : Legal h.about H
    legal = all-at (λ (x : Hub). Legal x.about (history x)) w.hubs j h known.legally.legal side.hub

    route : has_route m ≡ true
    route =
        let carried = carries_by (standing said.events) (outcome_of m (HubPort (phase said.events)) h.about.hub.max_bvlc) said.is in
        routes m (phase said.events) h.about.hub.max_bvlc carried.0 carried.1

    passed : (is_live H d && list_any (takes h.about (out_of H d m) (sent h.about H c) looks c) (meant H d m)) ≡ true → is_npdu (out_of H d m) ≡ true → P (at_place p (out_of H d m))
    passed enters is =
        let both = and_parts (is_live H d) (list_any (takes h.about (out_of H d m) (sent h.about H c) looks c) (meant H d m)) enters in
        let sender = found_some (numbered d (live H)) both.0 in
        let from = found_in d (live H) sender.0 sender.1 in
        let from_joined : In sender.0 (joined H) = joined_in _ H sender.0 from.0 in
        let taker = any_gives (takes h.about (out_of H d m) (sent h.about H c) looks c) (meant H d m) both.1 in
        let to = In-filter (means m d) taker.0 (live H) taker.1 in
        let number : taker.0.number ≡ c = eqb-true taker.0.number c (and_parts (taker.0.number == c)
        (not (is_too_long (out_of H d m) taker.0 || is_found_full h.about (sent h.about H c) looks c)) taker.2).0 in
        let caller : sender.0.caller ≡ l = joined_by h l d sender.0 legal (known.sides.joined l j h k d (side_of w l j h k side) conn) from_joined from.1 in
        let up = with_dest S k.from p m route (sent-up S w l p k m side.link arrival known.sent (sym (npdu-out m (vmac_of H d)) ∙ is)) in (
          taker.0,
          number,
          record {
            before = h.posted;
            forward = new;
            later = [];
            split = refl;
            from = sender.0;
            frame = m;
            call = ap (λ n. Forward n m) (sym from.1);
            place = refl;
            sender_live = numbered_so sender.0 (live H) (live_numbers h.about H legal) from.0;
            receiver_live = numbered_so taker.0 (live H) (live_numbers h.about H legal) to.0;
            meant = ap (λ n. means m n taker.0) from.1 ∙ to.1;
            octets = ap (λ o. out m (vmac_in o)) (ap (λ n. numbered n (joined H)) (sym from.1) ∙ numbered_so sender.0 (joined H) (joined_apart h.about H legal) from_joined);
            sender = k.from;
            dialled = ap (λ n. option_map (λ (x : Link). x.from) (link_at w n)) caller ∙ ap (option_map (λ (x : Link). x.from)) side.link;
            dest = up.0;
            npdu = up.1;
            id = up.2;
            small = up.5;
            sends = up.3;
            carried = up.4;
          },
        )

-- ---- the moves

puts-hubs : (w : World) (k : ℕ) (name : LinkName) (content : Content) → (puts_by k name content w).hubs ≡ w.hubs
puts-hubs w k name content = at_node (node_at w k)
  where
    at_hold : (o : Option Hold) → (with_found o (puts_on content) w).hubs ≡ w.hubs
    at_hold None = refl
    at_hold (Some h) = refl

    at_node : (o : Option Node) → (with_found o (λ m. with_found (hold_of name m) (puts_on content)) w).hubs ≡ w.hubs
    at_node None = refl
    at_node (Some m) = at_hold (hold_of name m)

-- an event at a node changes no hub
abbrev SameHubs : World → World → Type 0
SameHubs u v = v.hubs ≡ u.hubs

hubs_acts : (k : ℕ) (by : Option Arrival) → LetsActs k by (λ action. ⊤) SameHubs
hubs_acts k by = record {
  none = λ w. refl;
  then = λ u v w f g. g ∙ f;
  each = record {
    puts = λ w name o known. puts-hubs w k name (Message o);
    closes = λ w name. puts-hubs w k name Closed;
    takes = λ w name a is known. refl;
    dials_as = λ w name uri t known leads. refl;
    fails_as = λ w name. refl;
    refuses_it = λ w a is. refl;
    delivers_one = λ w d a is known. refl;
  };
}

hears-hubs : (w : World) (k : ℕ) (n : Node) (by : Option Arrival) (e : NodeEvent) → (hears k by (record { now = w.now; event = e }) n w).hubs ≡ w.hubs
hears-hubs w k n by e = lets-hears k by (λ action. ⊤) SameHubs (hubs_acts k by) (record { now = w.now; event = e }) n w refl (λ action among. tt)

-- What is in outboxes stays what was passed on.
pub passes : (cast : Cast) (S : Sendings) (T place : ℕ) (D : WorldStep) → EachWhole D (KeepsGiven (KnowsHistories cast S T place) (PassesOn S))
passes cast S T place D = record {
  over = λ w l j h k side none m. passes-same S w _ (A.each.over w l) refl;
  tells = λ w l j h k e other side m. passes-same S w _ (A.each.tells w l j h k e other side) refl;
  empty = λ w l m. passes-same S w _ (A.each.empty w l) refl;
  closes_down = λ w l m. passes-same S w _ (A.each.closes_down w l) refl;
  hub_puts = λ w l j h k st o side wanted is m. passes-same S w _ (A.each.hub_puts w l j h k st o side wanted is) refl;
  leaves = λ w l j h k c side conn m s.
      let v = called j l w.steps (Leave c k.side.taken k.side.empties) w in
      passes-same S v _ (A.each.over v l) refl (passes-quiet S w j l w.steps (Leave c k.side.taken k.side.empties) refl s);
  stops = λ w j h here is m. passes-quiet S w j _ w.steps StopCall refl;
  asks = λ w l j p h k o who side arrival said is m. passes-quiet S w j l p (Connect who) refl;
  joins = λ w l j p h k o who c replaced side arrival said is m s.
      let v = called j l p (Connect who) w in
      let u = with_side l (λ x. record x { conn = Some c }) v in
      passes-same S v _ (Holding.keep-then v u _ (Holding.keep-side v l _) (Holding.keep-side u l _)) refl (passes-quiet S w j l p (Connect who) refl s);
  forwards = λ w l j p h k o c side conn arrival said m.
      passes-called S w j l p (Forward c o) (λ g d at.
      subst (λ (x : Hub). AllByRecursion (IsPassedTo S w (with_call w l p (Forward c o) x).posted d)
      (npdus (frames_by x.about (entries x.posted) d (record { entry = entry_in w x l (Forward c o); sent_at = p }))))
      (some_same h g (sym side.hub ∙ at)) (passes-forwards cast S T place w l j p h k o c side conn arrival said m d));
  takes = λ w l j h k c f side conn is m. passes-same S w _ (A.each.takes w l j h k c f side conn is) refl;
  hears = λ w k n by e here come fit m. passes-same S w _ (A.each.hears w k n by e here come fit) (hears-hubs w k n by e);
  forgets = λ w later m. passes-same S w _ (A.each.forgets w later) refl;
  arrives = λ w l way k x here is m. passes-same S w _ (A.each.arrives w l way k x here is) refl;
  loses = λ w l m. passes-same S w _ (A.each.loses w l) refl;
}
  where
    A : Lets D Keep
    A = Holding.lets D
