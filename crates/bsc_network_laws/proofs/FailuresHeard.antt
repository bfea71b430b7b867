-- A node is told of each dial that fails: once `most_failures` of them were told, none is left.
-- It serves the clauses of `failures_are_all_heard`.
use Rattle.std.proofs.Common.{◌≡◌, ◌≤◌, ◌⊎◌, inl, inr, ℕ, zero, suc, Bool, true, false, List, [], ◌∷◌, ◌++◌, length, Option, Some, None, refl, ap, sym, subst, ◌∙◌, append_assoc, append-nil, arith}
use Rattle.std.specs.Prelude.{◌+◌, if◌then◌else◌, filter_map, map, slice_get}
use Rattle.std.specs.List.{list_all}
use Rattle.std.specs.Option.{option_map}
use Rattle.std.proofs.lemmas.List.{length-append}
use Rattle.std.proofs.lemmas.List.Elements.{filter_map-append}
use Rattle.std.proofs.lemmas.List.Folds.{list_all-append}
use Rattle.bsc_connector.specs.declared.side.Side.TheVariants.{Failover}
use Rattle.bsc_connector.specs.Sides.{is_tried}
use Rattle.bsc_node.specs.declared.link_name.LinkName.{LinkName}
use Rattle.bsc_node.specs.declared.link_name.LinkName.TheVariants.{Hub, Direct}
use Rattle.bsc_node.specs.declared.node_event.NodeEvent.{NodeEvent}
use Rattle.bsc_node.specs.declared.node_event.NodeEvent.TheVariants.{DialFailed, DirectTo}
use Rattle.bsc_node.specs.declared.timed_event.TimedEvent.{TimedEvent}
use Rattle.bsc_node.specs.declared.action.Action.{Action}
use Rattle.bsc_node.specs.declared.action.Action.TheVariants.{Dial, Take, Refuse, Put, Close, Deliver, Tell, Draw}
use Rattle.bsc_node.specs.Conditions.{fits}
use Rattle.bsc_node.specs.Hubs.{waits, hub_events}
use Rattle.bsc_node.specs.Links.{place}
use Rattle.bsc_node.specs.Logs.{Made, Line, Log, action_of}
use Rattle.bsc_node.specs.Laws.{with_event}
use Rattle.bsc_node.specs.Meeting.{is_hub}
use Rattle.bsc_node.specs.Ways.{learnt}
use Rattle.bsc_node_identity.proofs.Events.{learns_what_was_answered}
use Rattle.bsc_network.specs.declared.way.Way.TheVariants.{Down}
use Rattle.bsc_network.specs.declared.arrival.Arrival.{Arrival}
use Rattle.bsc_network.specs.declared.hold.Hold.{Hold}
use Rattle.bsc_network.specs.declared.parcel.Content.{Content}
use Rattle.bsc_network.specs.declared.parcel.Content.TheVariants.{Message, Closed}
use Rattle.bsc_network.specs.declared.target.Target.{Target}
use Rattle.bsc_network.specs.Worlds.{World, Node, node_at}
use Rattle.bsc_network.specs.Changes.{Change, unchanged, in_order, with_found}
use Rattle.bsc_network.specs.NodeSides.{hold_of, holds, puts_on, puts_by}
use Rattle.bsc_network.specs.Dialling.{leads_to, dials_to}
use Rattle.bsc_network.specs.NodeEvents.{takes_as, refuses, delivers, carries_out, brings_about, hears, comes_once, forgets_failure, hears_failures, most_failures, hears_all_failures, comes}
use Rattle.bsc_network.proofs.Places.{kept-at, get-changed, found-in}
use Rattle.bsc_network_laws.specs.Telling.{comes_telling}
use Rattle.bsc_network_laws.proofs.Acting.{goes_on_in}
use Rattle.bsc_network_laws.proofs.Reached.{IsReached}
use Rattle.bsc_network_laws.proofs.Undialled.{dial_in, dialled_in}
use Rattle.bsc_network_laws.proofs.Spending.{of_not, spare, Spent}
use Rattle.bsc_network_laws.proofs.Costing.{dials_slot, cost, spent-brought}
use Rattle.bsc_network_laws.proofs.SlotDials.{LearnsShort, left, said-short, DialsOnce, slot-fails, slot-begins, few_left}
use Rattle.bsc_lemmas.proofs.Booleans.{and_left, and_right}
use Rattle.std.proofs.lemmas.Bool.{and_from as both}

-- ---- some dials of those that were made

-- Some of these fail, in order.
abbrev Failing : List LinkName → List LinkName → Type 0
Failing [] xs = xs ≡ []
Failing (d ∷ ds) xs = Failing ds xs ⊎ ((ys : List LinkName) × (xs ≡ d ∷ ys) × Failing ds ys)

failing_none : (ds : List LinkName) → Failing ds []
failing_none [] = refl
failing_none (d ∷ ds) = inl (failing_none ds)

failing-append : (ds es xs ys : List LinkName) → Failing ds xs → Failing es ys → Failing (ds ++ es) (xs ++ ys)
failing-append [] es xs ys p q = subst (λ (zs : List LinkName). Failing es (zs ++ ys)) (sym p) q
failing-append (d ∷ ds) es xs ys (inl p) q = inl (failing-append ds es xs ys p q)
failing-append (d ∷ ds) es xs ys (inr (zs, is, p)) q = inr (zs ++ ys, ap (λ (vs : List LinkName). vs ++ ys) is, failing-append ds es zs ys p q)

few_fail : (ds xs : List LinkName) → Failing ds xs → length xs ≤ length ds
few_fail [] xs p = let n = ap length p in omega (arith, n)
few_fail (d ∷ ds) xs (inl p) = let q = few_fail ds xs p in omega (arith, q)
few_fail (d ∷ ds) xs (inr (ys, is, p)) = let q = few_fail ds ys p in let n = ap length is in omega (arith, q, n)

all_fail : (test : LinkName → Bool) (ds xs : List LinkName) → Failing ds xs → list_all test ds ≡ true → list_all test xs ≡ true
all_fail test [] xs p h = ap (list_all test) p
all_fail test (d ∷ ds) xs (inl p) h = all_fail test ds xs p (and_right (test d) (list_all test ds) h)
all_fail test (d ∷ ds) xs (inr (ys, is, p)) h =
    ap (list_all test) is ∙ both (test d) (list_all test ys) (and_left (test d) (list_all test ds) h) (all_fail test ds ys p (and_right (test d) (list_all test ds) h))

one_fails : (d : LinkName) (xs : List LinkName) → Failing (d ∷ []) xs → (xs ≡ []) ⊎ (xs ≡ d ∷ [])
one_fails d xs (inl p) = inl p
one_fails d xs (inr (ys, is, p)) = inr (is ∙ ap (λ (zs : List LinkName). d ∷ zs) p)

-- ---- what actions leave

-- what a node was made with, and its log
abbrev core : Node → Made × Log
core n = (n.made, n.log)

-- From u on node k stays as it was but for its ends, and of these dials some failed and wait to be told.
record Leaves (k : ℕ) (ds : List LinkName) (u v : World) : Type 0 where
  same : option_map core (node_at v k) ≡ option_map core (node_at u k)
  later : List LinkName
  failed : v.failed ≡ u.failed ++ later
  some : Failing ds later

leaves_same : (k : ℕ) (ds : List LinkName) (u v : World) → v.nodes ≡ u.nodes → v.failed ≡ u.failed → Leaves k ds u v
leaves_same k ds u v nodes failed = record {
  same = ap (λ (ns : List Node). option_map core (slice_get ns k)) nodes;
  later = [];
  failed = failed ∙ sym (append-nil u.failed);
  some = failing_none ds;
}

leaves_holds : (k : ℕ) (ds : List LinkName) (h : Hold) (u : World) → Leaves k ds u (holds k h u)
leaves_holds k ds h u = record {
  same = kept-at core k (λ (n : Node). record n { holds = n.holds ++ h ∷ [] }) (λ n. refl) u.nodes k;
  later = [];
  failed = sym (append-nil u.failed);
  some = failing_none ds;
}

leaves_then : (k : ℕ) (ds es : List LinkName) (u v w : World) → Leaves k ds u v → Leaves k es v w → Leaves k (ds ++ es) u w
leaves_then k ds es u v w p q = record {
  same = q.same ∙ p.same;
  later = p.later ++ q.later;
  failed = q.failed ∙ ap (λ (xs : List LinkName). xs ++ q.later) p.failed ∙ append_assoc u.failed p.later q.later;
  some = failing-append ds es p.later q.later p.some q.some;
}

leaves_dials : (k : ℕ) (name : LinkName) (t : Option Target) (u : World) → Leaves k (name ∷ []) u (dials_to k name t u)
leaves_dials k name (Some target) u = record {
  same = kept-at core k (λ (n : Node). record n { holds = n.holds ++ record { name = name; link = length u.links; hears = Down } ∷ [] }) (λ n. refl) u.nodes k;
  later = [];
  failed = sym (append-nil u.failed);
  some = failing_none (name ∷ []);
}
leaves_dials k name None u = record { same = refl; later = name ∷ []; failed = refl; some = inr ([], refl, refl) }

leaves_puts : (k : ℕ) (name : LinkName) (content : Content) (u : World) → Leaves k [] u (puts_by k name content u)
leaves_puts k name content u = at_node (node_at u k)
  where
    at_hold : (o : Option Hold) → Leaves k [] u (with_found o (puts_on content) u)
    at_hold None = leaves_same k [] u u refl refl
    at_hold (Some h) = leaves_same k [] u _ refl refl

    at_node : (o : Option Node) → Leaves k [] u (with_found o (λ n. with_found (hold_of name n) (puts_on content)) u)
    at_node None = leaves_same k [] u u refl refl
    at_node (Some n) = at_hold (hold_of name n)

leaves_found : (k : ℕ) (o : Option Arrival) (change : Arrival → Change) (u : World) → ((a : Arrival) → Leaves k [] u (change a u)) → Leaves k [] u (with_found o change u)
leaves_found k None change u f = leaves_same k [] u u refl refl
leaves_found k (Some a) change u f = f a

leaves_one : (k : ℕ) (by : Option Arrival) (action : Action) (u : World) → Leaves k (filter_map dial_in (action ∷ [])) u (carries_out k by action u)
leaves_one k by (Dial name uri) u = leaves_dials k name (leads_to u uri) u
leaves_one k by (Take name) u = leaves_found k by (takes_as k name) u (λ a. leaves_holds k [] _ u)
leaves_one k by (Refuse closing) u = leaves_found k by refuses u (λ a. leaves_same k [] u _ refl refl)
leaves_one k by (Put name octets) u = leaves_puts k name (Message octets) u
leaves_one k by (Close name closing) u = leaves_puts k name Closed u
leaves_one k by (Deliver delivered) u = leaves_found k by (delivers k delivered) u (λ a. leaves_same k [] u _ refl refl)
leaves_one k by (Tell note) u = leaves_same k [] u u refl refl
leaves_one k by Draw u = leaves_same k [] u u refl refl

leaves_all : (k : ℕ) (by : Option Arrival) (actions : List Action) (u : World) → Leaves k (filter_map dial_in actions) u (in_order (map (carries_out k by) actions) u)
leaves_all k by [] u = leaves_same k [] u u refl refl
leaves_all k by (action ∷ actions) u =
    subst (λ (ds : List LinkName). Leaves k ds u (in_order (map (carries_out k by) actions) (carries_out k by action u))) (sym (filter_map-append dial_in (action ∷ []) actions))
    (leaves_then k (filter_map dial_in (action ∷ [])) (filter_map dial_in actions) u (carries_out k by action u) (in_order (map (carries_out k by) actions) (carries_out k by action u))
    (leaves_one k by action u) (leaves_all k by actions (carries_out k by action u)))

-- ---- a node hears an event

-- Node k is now one that was made so and has this log; of these dials some failed, behind those that failed before.
record Next (k : ℕ) (a : Made) (L : Log) (ds names : List LinkName) (v : World) : Type 0 where
  node : Node
  at : node_at v k ≡ Some node
  made : node.made ≡ a
  log : node.log ≡ L
  later : List LinkName
  failed : v.failed ≡ names ++ later
  some : Failing ds later

next-hears : (k : ℕ) (by : Option Arrival) (e : TimedEvent) (n : Node) (w : World) → node_at w k ≡ Some n
    → Next k n.made (n.log ++ brings_about n.made e n.log) (dialled_in (brings_about n.made e n.log)) w.failed (hears k by e n w)
next-hears k by e n w here = record {
  node = there.0;
  at = there.1;
  made = ap (λ (c : Made × Log). c.0) there.2;
  log = ap (λ (c : Made × Log). c.1) there.2;
  later = acts.later;
  failed = acts.failed;
  some = acts.some;
}
  where
    on : Node → Node
    on m = record m { log = m.log ++ brings_about m.made e m.log }

    acts : Leaves k (dialled_in (brings_about n.made e n.log)) (goes_on_in k e w) (hears k by e n w)
    acts = leaves_all k by (filter_map action_of (brings_about n.made e n.log)) (goes_on_in k e w)

    there : (x : Node) × (node_at (hears k by e n w) k ≡ Some x) × (core x ≡ (n.made, n.log ++ brings_about n.made e n.log))
    there = found-in core (node_at (hears k by e n w) k) (n.made, n.log ++ brings_about n.made e n.log)
        (acts.same ∙ ap (option_map core) (get-changed k on w.nodes ∙ ap (option_map on) here))

-- an event comes once, by whether it fits
once-is : (k : ℕ) (by : Option Arrival) (e : NodeEvent) (n : Node) (w : World) (b : Bool) → node_at w k ≡ Some n → fits n.log e ≡ b
    → comes_once k by e w ≡ (if b then hears k by (record { now = w.now; event = e }) n else unchanged) w
once-is k by e n w b here fit =
    ap (λ (o : Option Node). with_found o (λ m v. (if fits m.log e then hears k by (record { now = v.now; event = e }) m else unchanged) v) w) here
    ∙ ap (λ (c : Bool). (if c then hears k by (record { now = w.now; event = e }) n else unchanged) w) fit

-- ---- what is owed to a node

-- Of these dials that failed, no more than m are told with those that fail then: all are of hubs, or one is of a slot.
record OwesHubs (a : Made) (L : Log) (names : List LinkName) (m : ℕ) : Type 0 where
  hubs : list_all is_hub names ≡ true
  within : length names + spare a L ≤ m

abbrev Owes : Made → Log → List LinkName → ℕ → Type 0
Owes a L names m = (names ≡ []) ⊎ (OwesHubs a L names m ⊎ ((k : ℕ) × (names ≡ Direct k ∷ []) × (1 + left k L ≤ m)))

record Told (k m : ℕ) (v : World) : Type 0 where
  node : Node
  at : node_at v k ≡ Some node
  owes : Owes node.made node.log v.failed m

told_next : (k m : ℕ) (a : Made) (L : Log) (ds names : List LinkName) (v : World) (x : Next k a L ds names v) → Owes a L (names ++ x.later) m → Told k m v
told_next k m a L ds names v x owes = record {
  node = x.node;
  at = x.at;
  owes = subst (λ (b : Made). Owes b x.node.log v.failed m) (sym x.made) (subst (λ (M : Log). Owes a M v.failed m) (sym x.log)
      (subst (λ (xs : List LinkName). Owes a L xs m) (sym x.failed) owes));
}

-- hubs that were dialled are owed, behind other hubs
owes_hubs : (a : Made) (L : Log) (lines : List Line) (names later : List LinkName) (n m : ℕ) → Spent a n L lines → list_all is_hub names ≡ true → Failing (dialled_in lines) later
    → length names + (n + spare a L) ≤ m → Owes a (L ++ lines) (names ++ later) m
owes_hubs a L lines names later n m spent hubs some fit = inr (inl (record {
  hubs = list_all-append is_hub names later ∙ both (list_all is_hub names) (list_all is_hub later) hubs (all_fail is_hub (dialled_in lines) later some spent.hubs);
  within =
      let sum = length-append names later in
      let few = few_fail (dialled_in lines) later some in
      let within = spent.within in
      omega (arith, sum, few, within, fit);
}))

-- one dial of a slot is owed, where it failed
owes_slot : (a : Made) (L : Log) (lines : List Line) (later : List LinkName) (n m : ℕ) → DialsOnce L lines n → Failing (dialled_in lines) later → n ≤ m → Owes a (L ++ lines) later m
owes_slot a L lines later n m (inl none) some fit = inl (subst (λ (ds : List LinkName). Failing ds later) none some)
owes_slot a L lines later n m (inr (k, is, within)) some fit = by (one_fails (Direct k) later (subst (λ (ds : List LinkName). Failing ds later) is some))
  where
    by : (later ≡ []) ⊎ (later ≡ Direct k ∷ []) → Owes a (L ++ lines) later m
    by (inl none) = inl none
    by (inr one) = inr (inr (k, one, omega (arith, within, fit)))

-- ---- a failure is told

-- the world once the first of these failures is told
abbrev told_of : ℕ → List LinkName → World → World
told_of k [] w = w
told_of k (name ∷ names) w = comes_once k None (DialFailed name) (forgets_failure names w)

no_slot : (name : LinkName) → is_hub name ≡ true → dials_slot (DialFailed name) ≡ false
no_slot (Hub s) h = refl
no_slot (Direct k) h = cc

tell_hub : (k : ℕ) (name : LinkName) (names : List LinkName) (n : Node) (w : World) (m : ℕ) → node_at w k ≡ Some n → OwesHubs n.made n.log (name ∷ names) (suc m)
    → Told k m (told_of k (name ∷ names) w)
tell_hub k name names n w m here owes = by (fits n.log (DialFailed name)) refl
  where
    v : World
    v = forgets_failure names w

    e : TimedEvent
    e = record { now = w.now; event = DialFailed name }

    rest : list_all is_hub names ≡ true
    rest = and_right (is_hub name) (list_all is_hub names) owes.hubs

    by : (b : Bool) → fits n.log (DialFailed name) ≡ b → Told k m (told_of k (name ∷ names) w)
    by false fit = subst (Told k m) (sym (once-is k None (DialFailed name) n v false here fit))
        (record { node = n; at = here; owes = inr (inl (record { hubs = rest; within = let within = owes.within in omega (arith, within) })) })
    by true fit = subst (Told k m) (sym (once-is k None (DialFailed name) n v true here fit))
        (let x = next-hears k None e n v here in
        told_next k m n.made (n.log ++ brings_about n.made e n.log) (dialled_in (brings_about n.made e n.log)) names (hears k None e n v) x
        (owes_hubs n.made n.log (brings_about n.made e n.log) names x.later 0 m (spent-brought n.made n.log e (no_slot name (and_left (is_hub name) (list_all is_hub names) owes.hubs))) rest x.some
        (let within = owes.within in omega (arith, within))))

tell_slot : (k j : ℕ) (n : Node) (w : World) (m : ℕ) → node_at w k ≡ Some n → 1 + left j n.log ≤ suc m → Told k m (told_of k (Direct j ∷ []) w)
tell_slot k j n w m here owes = by (fits n.log (DialFailed (Direct j))) refl
  where
    v : World
    v = forgets_failure [] w

    e : TimedEvent
    e = record { now = w.now; event = DialFailed (Direct j) }

    by : (b : Bool) → fits n.log (DialFailed (Direct j)) ≡ b → Told k m (told_of k (Direct j ∷ []) w)
    by false fit = subst (Told k m) (sym (once-is k None (DialFailed (Direct j)) n v false here fit)) (record { node = n; at = here; owes = inl refl })
    by true fit = subst (Told k m) (sym (once-is k None (DialFailed (Direct j)) n v true here fit))
        (let x = next-hears k None e n v here in
        told_next k m n.made (n.log ++ brings_about n.made e n.log) (dialled_in (brings_about n.made e n.log)) [] (hears k None e n v) x
        (owes_slot n.made n.log (brings_about n.made e n.log) x.later (left j n.log) m (slot-fails n.made n.log w.now j) x.some (omega (arith, owes))))

tell : (k : ℕ) (name : LinkName) (names : List LinkName) (n : Node) (w : World) (m : ℕ) → node_at w k ≡ Some n → Owes n.made n.log (name ∷ names) (suc m) → Told k m (told_of k (name ∷ names) w)
tell k name names n w m here (inl none) = cc
tell k name names n w m here (inr (inl hubs)) = tell_hub k name names n w m here hubs
tell k name names n w m here (inr (inr (j, is, within))) = subst (λ (xs : List LinkName). Told k m (told_of k xs w)) (sym is) (tell_slot k j n w m here within)

owes_some : (a : Made) (L : Log) (name : LinkName) (names : List LinkName) → Owes a L (name ∷ names) 0 → ⊥
owes_some a L name names (inl none) = cc
owes_some a L name names (inr (inl hubs)) = let within = hubs.within in omega (arith, within)
owes_some a L name names (inr (inr (k, is, within))) = omega (arith, within)

-- More rounds than are owed change nothing.
rounds : (most more k : ℕ) (names : List LinkName) (w : World) (n : Node) → most ≤ more → node_at w k ≡ Some n → Owes n.made n.log names most
    → hears_failures more k names w ≡ hears_failures most k names w
rounds most more k [] w n fit here owes = refl
rounds zero more k (name ∷ names) w n fit here owes = absurd (owes_some n.made n.log name names owes)
rounds (suc most) zero k (name ∷ names) w n fit here owes = absurd (omega (arith, fit))
rounds (suc most) (suc more) k (name ∷ names) w n fit here owes =
    let t = tell k name names n w most here owes in
    rounds most more k (told_of k (name ∷ names) w).failed (told_of k (name ∷ names) w) t.node (omega (arith, fit)) t.at t.owes

-- ---- an event that comes to a node

not_two : (e : NodeEvent) → cost e ≤ 2
not_two (DialFailed name) = omega arith
not_two e = omega arith

small_spare : (b : Bool) → of_not b ≤ 1
small_spare true = omega arith
small_spare false = omega arith

slot_dials : (a : Made) (L : Log) (t : ℕ) (e : NodeEvent) → dials_slot e ≡ true → LearnsShort a L → DialsOnce L (brings_about a (record { now = t; event = e }) L) (1 + a.own.max_bvlc)
slot_dials a L t (DialFailed (Direct k)) h short = by (slot-fails a L t k)
  where
    lines : List Line
    lines = brings_about a (record { now = t; event = DialFailed (Direct k) }) L

    by : DialsOnce L lines (left k L) → DialsOnce L lines (1 + a.own.max_bvlc)
    by (inl none) = inl none
    by (inr (j, is, within)) = inr (j, is, (let few = few_left a L k short in omega (arith, within, few)))
slot_dials a L t (DirectTo v) h short = slot-begins a L t v short
slot_dials a L t e h short = cc

-- what is owed once an event came, where nothing was before
first : (k : ℕ) (by : Option Arrival) (e : NodeEvent) (n : Node) (w : World) → node_at w k ≡ Some n → w.failed ≡ [] → LearnsShort n.made n.log → Told k (most_failures n) (comes_once k by e w)
first k by e n w here untold short = at_fit (fits n.log e) refl
  where
    event : TimedEvent
    event = record { now = w.now; event = e }

    lines : List Line
    lines = brings_about n.made event n.log

    after : World
    after = hears k by event n w

    x : Next k n.made (n.log ++ lines) (dialled_in lines) w.failed after
    x = next-hears k by event n w here

    owed : (b : Bool) → dials_slot e ≡ b → Owes n.made (n.log ++ lines) ([] ++ x.later) (most_failures n)
    owed false other = owes_hubs n.made n.log lines [] x.later (cost e) (most_failures n) (spent-brought n.made n.log event other) refl x.some
        (let two = not_two e in let one = small_spare (is_tried (waits n.made) Failover (hub_events n.log)) in omega (arith, two, one))
    owed true slotted = owes_slot n.made n.log lines x.later (1 + n.made.own.max_bvlc) (most_failures n) (slot_dials n.made n.log w.now e slotted short) x.some (omega arith)

    at_fit : (b : Bool) → fits n.log e ≡ b → Told k (most_failures n) (comes_once k by e w)
    at_fit false fit = subst (Told k (most_failures n)) (sym (once-is k by e n w false here fit)) (record { node = n; at = here; owes = inl untold })
    at_fit true fit = subst (Told k (most_failures n)) (sym (once-is k by e n w true here fit))
        (told_next k (most_failures n) n.made (n.log ++ lines) (dialled_in lines) w.failed after x
        (subst (λ (xs : List LinkName). Owes n.made (n.log ++ lines) (xs ++ x.later) (most_failures n)) (sym untold) (owed (dials_slot e) refl)))

-- URIs that a node has learnt came in a message that it took.
learns_short : (a : Made) (L : Log) → IsReached a L → LearnsShort a L
learns_short a L r v text is =
    let w = learns_what_was_answered a r.events r.may v text (ap (learnt v) (sym r.is) ∙ is) in
    let said = w.answered in
    said-short said.1 (place a (with_event w.before w.e) said.0) a.own.max_bvlc said.2 text said.4 said.5

-- Told of more failures, a node whose log is that of events which might come hears no more.
pub same-comes : (more k : ℕ) (by : Option Arrival) (e : NodeEvent) (w : World) → ((n : Node) → node_at w k ≡ Some n → IsReached n.made n.log) → w.failed ≡ []
    → comes_telling more k by e w ≡ comes k by e w
same-comes more k by e w reached untold = at_node (node_at w k) refl
  where
    at_node : (o : Option Node) → node_at w k ≡ o
        → with_found o (λ n. in_order (comes_once k by e ∷ hears_all_failures (most_failures n + more) k ∷ [])) w
        ≡ with_found o (λ n. in_order (comes_once k by e ∷ hears_all_failures (most_failures n) k ∷ [])) w
    at_node None is = refl
    at_node (Some n) is =
        let t = first k by e n w is untold (learns_short n.made n.log (reached n is)) in
        rounds (most_failures n) (most_failures n + more) k (comes_once k by e w).failed (comes_once k by e w) t.node (omega arith) t.at t.owes

-- ---- once told, none is left

untold_failures : (most k : ℕ) (names : List LinkName) (w : World) → w.failed ≡ names → (hears_failures most k names w).failed ≡ []
untold_failures most k [] w is = is
untold_failures zero k (name ∷ names) w is = refl
untold_failures (suc most) k (name ∷ names) w is = untold_failures most k (told_of k (name ∷ names) w).failed (told_of k (name ∷ names) w) refl

pub untold-comes : (k : ℕ) (by : Option Arrival) (e : NodeEvent) (w : World) → w.failed ≡ [] → (comes k by e w).failed ≡ []
untold-comes k by e w untold = at_node (node_at w k)
  where
    at_node : (o : Option Node) → (with_found o (λ n. in_order (comes_once k by e ∷ hears_all_failures (most_failures n) k ∷ [])) w).failed ≡ []
    at_node None = untold
    at_node (Some n) = untold_failures (most_failures n) k (comes_once k by e w).failed (comes_once k by e w) refl
