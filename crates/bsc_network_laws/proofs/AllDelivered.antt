-- After each step the deliveries of each node are all that it has delivered by its log.
-- It serves clauses of functions of `laws`.
use Rattle.std.proofs.Common.{◌≡◌, ◌≢◌, ◌⊎◌, inl, inr, ℕ, true, false, Bool, List, [], ◌∷◌, ◌++◌, map, Option, Some, None, refl, ap, sym, subst, ◌∙◌, append_assoc, append-nil, if◌then◌else◌}
use Rattle.std.specs.Prelude.{◌==◌, filter, filter_map, slice_get}
use Rattle.std.specs.List.{cons_option}
use Rattle.std.specs.Option.{option_map}
use Rattle.std.proofs.lemmas.Bool.Decides.{eqb_tells}
use Rattle.std.proofs.lemmas.List.Elements.{filter_map-append}
use Rattle.std.proofs.lemmas.Option.{slice_get-map}
use Rattle.bsc_node.specs.declared.action.Action.{Action}
use Rattle.bsc_node.specs.declared.action.Action.TheVariants.{Deliver}
use Rattle.bsc_node.specs.declared.delivered.Delivered.{Delivered}
use Rattle.bsc_node.specs.declared.link_name.LinkName.{LinkName}
use Rattle.bsc_node.specs.declared.node_event.NodeEvent.{NodeEvent}
use Rattle.bsc_node.specs.declared.timed_event.TimedEvent.{TimedEvent}
use Rattle.bsc_node.specs.Conditions.{fits}
use Rattle.bsc_node.specs.Laws.{delivers_npdu}
use Rattle.bsc_node.specs.Logs.{Made, Log, Line, action_of}
use Rattle.bsc_network.specs.declared.arrival.Arrival.{Arrival}
use Rattle.bsc_network.specs.declared.hold.Hold.{Hold}
use Rattle.bsc_network.specs.declared.parcel.Content.{Content}
use Rattle.bsc_network.specs.declared.parcel.Content.TheVariants.{Message, Closed}
use Rattle.bsc_network.specs.declared.world_delivery.WorldDelivery.{WorldDelivery}
use Rattle.bsc_network.specs.declared.world_step.WorldStep.{WorldStep}
use Rattle.bsc_network.specs.Settings.{Added, nodes}
use Rattle.bsc_network.specs.Worlds.{World, Node, new_node, new_world, node_at}
use Rattle.bsc_network.specs.Changes.{changed_at, in_order, with_found}
use Rattle.bsc_network.specs.NodeSides.{hold_of, puts_by, puts_on}
use Rattle.bsc_network.specs.NodeEvents.{brings_about, carries_out, hears}
use Rattle.bsc_network.proofs.Places.{get-changed, get-other}
use Rattle.bsc_network_laws.specs.Delivering.{deliver_in, delivered_in, of_node, of_one}
use Rattle.bsc_network_laws.proofs.Moves.{Comes, Each}
use Rattle.bsc_network_laws.proofs.Acting.{LetsActs, acts_one, goes_on_in}
use Rattle.bsc_network_laws.proofs.AtMost.{AtMostOne, Fails, acts-none}
use Rattle.bsc_network_laws.proofs.Beside.{KeepsGiven}
use Rattle.bsc_network_laws.proofs.Knowing.{Knows}
use Rattle.bsc_network_laws.proofs.Receipts.{IsOfCame, delivers-at_most, not_came}

-- ---- logs

abbrev pub logged : Option Node → Log
logged None = []
logged (Some n) = n.log

abbrev pub log_at : World → ℕ → Log
log_at w j = logged (node_at w j)

-- Of each node what is delivered is what its log has.
abbrev Each_has : World → Type 0
Each_has w = (j : ℕ) → of_node j w.delivered ≡ delivered_in (log_at w j)

pub record AllDelivered (w : World) : Type 0 where
  pub each : (j : ℕ) → of_node j w.delivered ≡ delivered_in (log_at w j)

pub all-same : (u v : World) → v.nodes ≡ u.nodes → v.delivered ≡ u.delivered → AllDelivered u → AllDelivered v
all-same u v nodes delivered all = record {
  each = λ j. ap (λ (ds : List WorldDelivery). of_node j ds) delivered ∙ (all.each j ∙ sym (ap (λ (ns : List Node). delivered_in (logged (slice_get ns j))) nodes));
}

-- what two parts of a log deliver
delivered-append : (L M : Log) → delivered_in (L ++ M) ≡ delivered_in L ++ delivered_in M
delivered-append L M =
    ap (λ (xs : List Action). filter_map deliver_in xs) (filter_map-append action_of L M)
    ∙ filter_map-append deliver_in (filter_map action_of L) (filter_map action_of M)

-- ---- actions that deliver nothing

-- Nothing is delivered, and each log stays.
abbrev Still : World → World → Type 0
Still u v = (v.delivered ≡ u.delivered) × ((j : ℕ) → log_at v j ≡ log_at u j)

same_log : (f : Node → Node) → ((n : Node) → (f n).log ≡ n.log) → (o : Option Node) → logged (option_map f o) ≡ logged o
same_log f same None = refl
same_log f same (Some n) = same n

-- a node is changed in something else than its log
logs-changed : (k : ℕ) (f : Node → Node) → ((n : Node) → (f n).log ≡ n.log) → (ns : List Node) (j : ℕ) → logged (slice_get (changed_at k f ns) j) ≡ logged (slice_get ns j)
logs-changed k f same ns j = by (eqb_tells k j)
  where
    by : (((k == j) ≡ true) × (k ≡ j)) ⊎ (((k == j) ≡ false) × (k ≢ j)) → logged (slice_get (changed_at k f ns) j) ≡ logged (slice_get ns j)
    by (inl is) =
        subst (λ (i : ℕ). logged (slice_get (changed_at k f ns) i) ≡ logged (slice_get ns i)) is.1
        (ap logged (get-changed k f ns) ∙ same_log f same (slice_get ns k))
    by (inr is) = ap logged (get-other k f ns j is.1)

puts-still : (k : ℕ) (u : World) (name : LinkName) (content : Content) → Still u (puts_by k name content u)
puts-still k u name content = at_node (node_at u k)
  where
    at_hold : (o : Option Hold) → Still u (with_found o (puts_on content) u)
    at_hold None = (refl, λ j. refl)
    at_hold (Some h) = (refl, λ j. refl)

    at_node : (o : Option Node) → Still u (with_found o (λ m. with_found (hold_of name m) (puts_on content)) u)
    at_node None = (refl, λ j. refl)
    at_node (Some m) = at_hold (hold_of name m)

still_acts : (k : ℕ) (by : Option Arrival) → LetsActs k by (Fails delivers_npdu) Still
still_acts k by = record {
  none = λ w. (refl, λ j. refl);
  then = λ u v w f g. (g.0 ∙ f.0, λ j. g.1 j ∙ f.1 j);
  each = record {
    puts = λ w name o known. puts-still k w name (Message o);
    closes = λ w name. puts-still k w name Closed;
    takes = λ w name a is known. (refl, logs-changed k _ (λ n. refl) w.nodes);
    dials_as = λ w name uri t known leads. (refl, logs-changed k _ (λ n. refl) w.nodes);
    fails_as = λ w name. (refl, λ j. refl);
    refuses_it = λ w a is. (refl, λ j. refl);
    delivers_one = λ w d a is known. absurd (no known);
  };
}
  where
    no : true ≡ false → ⊥
    no h = cc

-- ---- the actions of an event that something brought

abbrev one_of : ℕ → Arrival → Delivered → WorldDelivery
one_of k a d = record { sent_at = a.sent_at; node = k; delivered = d }

-- This is delivered, and each log stays.
abbrev Gives : List WorldDelivery → World → World → Type 0
Gives ds u v = (v.delivered ≡ u.delivered ++ ds) × ((j : ℕ) → log_at v j ≡ log_at u j)

gives-behind : (ds : List WorldDelivery) (u v w : World) → Still u v → Gives ds v w → Gives ds u w
gives-behind ds u v w s g = (g.0 ∙ ap (λ (xs : List WorldDelivery). xs ++ ds) s.0, λ j. g.1 j ∙ s.1 j)

all_give : (k : ℕ) (a : Arrival) (actions : List Action) (u : World) → Gives (map (one_of k a) (filter_map deliver_in actions)) u (in_order (map (carries_out k (Some a)) actions) u)
all_give k a [] u = (sym (append-nil u.delivered), λ j. refl)
all_give k a (Deliver d ∷ actions) u =
    let v : World = carries_out k (Some a) (Deliver d) u in
    let g = all_give k a actions v in
    (g.0 ∙ append_assoc u.delivered (one_of k a d ∷ []) (map (one_of k a) (filter_map deliver_in actions)), λ j. g.1 j)
all_give k a (action ∷ actions) u =
    let v : World = carries_out k (Some a) action u in
    gives-behind (map (one_of k a) (filter_map deliver_in actions)) u v (in_order (map (carries_out k (Some a)) actions) v)
    (acts_one k (Some a) (Fails delivers_npdu) Still (still_acts k (Some a)) u action refl) (all_give k a actions v)

-- ---- whose these are

itself : (k : ℕ) → (k == k) ≡ true
itself k = by (eqb_tells k k)
  where
    by : (((k == k) ≡ true) × (k ≡ k)) ⊎ (((k == k) ≡ false) × (k ≢ k)) → (k == k) ≡ true
    by (inl is) = is.0
    by (inr is) = absurd (is.1 refl)

of_itself : (k : ℕ) (a : Arrival) (ds : List Delivered) → of_node k (map (one_of k a) ds) ≡ ds
of_itself k a [] = refl
of_itself k a (d ∷ ds) =
    ap (λ (b : Bool). cons_option (if b then Some d else None) (of_node k (map (one_of k a) ds))) (itself k) ∙ ap (λ (xs : List Delivered). d ∷ xs) (of_itself k a ds)

of_another : (k j : ℕ) (a : Arrival) (ds : List Delivered) → (k == j) ≡ false → of_node j (map (one_of k a) ds) ≡ []
of_another k j a [] apart = refl
of_another k j a (d ∷ ds) apart =
    ap (λ (b : Bool). cons_option (if b then Some d else None) (of_node j (map (one_of k a) ds))) apart ∙ of_another k j a ds apart

-- actions of which none delivers
none_in : (actions : List Action) → filter delivers_npdu actions ≡ [] → filter_map deliver_in actions ≡ []
none_in [] none = refl
none_in (Deliver d ∷ actions) none = cc
none_in (action ∷ actions) none = none_in actions none

-- ---- an event comes to a node

hears-all : (T place : ℕ) (D : WorldStep) (w : World) (k : ℕ) (n : Node) (by : Option Arrival) (e : NodeEvent) → node_at w k ≡ Some n → Comes D w k n by e → fits n.log e ≡ true
    → KeepsGiven (Knows T place) AllDelivered w (hears k by (record { now = w.now; event = e }) n w)
hears-all T place D w k n by e here come fit known all = record { each = whose by come }
  where
    event : TimedEvent
    event = record { now = w.now; event = e }

    lines : List Line
    lines = brings_about n.made event n.log

    actions : List Action
    actions = filter_map action_of lines

    later : World
    later = goes_on_in k event w

    grows : Node → Node
    grows m = record m { log = m.log ++ brings_about m.made event m.log }

    -- the node's log has grown
    own_log : log_at later k ≡ n.log ++ lines
    own_log = ap logged (get-changed k grows w.nodes) ∙ ap (λ (o : Option Node). logged (option_map grows o)) here

    own_before : log_at w k ≡ n.log
    own_before = ap logged here

    -- with what its lines deliver, and no other's has
    by_lines : (v : World) (ds : List WorldDelivery) → Gives ds later v → of_node k ds ≡ delivered_in lines → ((j : ℕ) → (k == j) ≡ false → of_node j ds ≡ []) → Each_has v
    by_lines v ds g own others j = at (eqb_tells k j)
      where
        more : of_node j v.delivered ≡ of_node j w.delivered ++ of_node j ds
        more = ap (λ (xs : List WorldDelivery). of_node j xs) g.0 ∙ filter_map-append (of_one j) w.delivered ds

        at : (((k == j) ≡ true) × (k ≡ j)) ⊎ (((k == j) ≡ false) × (k ≢ j)) → of_node j v.delivered ≡ delivered_in (log_at v j)
        at (inl is) =
            let owns : of_node j ds ≡ delivered_in lines = ap (λ (i : ℕ). of_node i ds) (sym is.1) ∙ own in
            let before : of_node j w.delivered ≡ delivered_in n.log = all.each j ∙ (ap (λ (i : ℕ). delivered_in (log_at w i)) (sym is.1) ∙ ap delivered_in own_before) in
            let after : log_at v j ≡ n.log ++ lines = g.1 j ∙ (ap (λ (i : ℕ). log_at later i) (sym is.1) ∙ own_log) in
            more ∙ (ap (λ (xs : List Delivered). xs ++ of_node j ds) before ∙ (ap (λ (xs : List Delivered). delivered_in n.log ++ xs) owns
            ∙ (sym (delivered-append n.log lines) ∙ sym (ap delivered_in after))))
        at (inr is) =
            let stays : log_at v j ≡ log_at w j = g.1 j ∙ ap logged (get-other k grows w.nodes j is.1) in
            more ∙ (ap (λ (xs : List Delivered). of_node j w.delivered ++ xs) (others j is.0) ∙ (append-nil (of_node j w.delivered) ∙ (all.each j ∙ sym (ap delivered_in stays))))

    -- at an event that nothing brought, nothing is delivered
    nobody : (x : Option Arrival) → AtMostOne delivers_npdu (IsOfCame n.made n.log event) actions → Comes D w k n x e → x ≡ None → filter delivers_npdu actions ≡ []
    nobody x (inl none) c is = none
    nobody x (inr (action, one, of)) c is = absurd (not_came D w k n e of.name of.octets (subst (λ (y : Option Arrival). Comes D w k n y e) is c) of.event)

    whose : (x : Option Arrival) → Comes D w k n x e → Each_has (hears k x event n w)
    whose (Some a) c =
        by_lines (hears k (Some a) event n w) (map (one_of k a) (filter_map deliver_in actions)) (all_give k a actions later)
        (of_itself k a (filter_map deliver_in actions)) (λ j apart. of_another k j a (filter_map deliver_in actions) apart)
    whose None c =
        let none : filter delivers_npdu actions ≡ [] = nobody None (delivers-at_most T place D w k n None e here c fit known) c refl in
        let s : Still later (hears k None event n w) = acts-none k None delivers_npdu Still (still_acts k None) actions later none in
        by_lines (hears k None event n w) [] (s.0 ∙ sym (append-nil later.delivered), s.1) (sym (none_in actions none)) (λ j apart. refl)

-- ---- the moves of a step

pub all_stay : (T place : ℕ) (D : WorldStep) → Each D (KeepsGiven (Knows T place) AllDelivered)
all_stay T place D = record {
  over = λ w l m. all-same w _ refl refl;
  tells = λ w l j h k e other side m. all-same w _ refl refl;
  empty = λ w l m. all-same w _ refl refl;
  closes_down = λ w l m. all-same w _ refl refl;
  hub_puts = λ w l j h k st o side wanted is m. all-same w _ refl refl;
  leaves = λ w l j h k c side conn m. all-same w _ refl refl;
  stops = λ w j h here is m. all-same w _ refl refl;
  asks = λ w l j p h k o who side came said is m. all-same w _ refl refl;
  joins = λ w l j p h k o who c replaced side came said is m. all-same w _ refl refl;
  forwards = λ w l j p h k o c side conn came said m. all-same w _ refl refl;
  takes = λ w l j h k c f side conn is m. all-same w _ refl refl;
  hears = λ w k n by e here come fit. hears-all T place D w k n by e here come fit;
  forgets = λ w later m. all-same w _ refl refl;
  arrives = λ w l way k x here is m. all-same w _ refl refl;
  loses = λ w l m. all-same w _ refl refl;
}

-- at first no node has a log, and nothing is delivered
pub all-new : (added : List Added) → AllDelivered (new_world added)
all-new added = record { each = λ j. sym (ap delivered_in (ap logged (slice_get-map new_node (nodes added) j) ∙ at (slice_get (nodes added) j))) }
  where
    at : (o : Option Made) → logged (option_map new_node o) ≡ []
    at None = refl
    at (Some a) = refl
