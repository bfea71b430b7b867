-- After each step, no two NPDUs that nodes have put have one place.
-- It serves clauses of functions of `laws`.
use Rattle.std.proofs.Common.{◌≡◌, ◌<◌, ◌⊎◌, inl, inr, ℕ, true, List, [], Option, Some, None, refl, ap, sym, subst, ◌∙◌, arith}
use Rattle.std.specs.Prelude.{◌+◌, ◌^◌, IsTrue, length, slice_get, filter_map}
use Rattle.bsc_octets.specs.declared.vmac.Vmac.{Vmac}
use Rattle.bsc_frame.specs.declared.body.Body.TheVariants.{Npdu}
use Rattle.bsc_history.specs.declared.call.Call.TheVariants.{Connect}
use Rattle.bsc_node.specs.declared.link_name.LinkName.{LinkName}
use Rattle.bsc_node.specs.declared.node_event.NodeEvent.{NodeEvent}
use Rattle.bsc_node.specs.declared.node_event.NodeEvent.TheVariants.{Send, NoRandom}
use Rattle.bsc_node.specs.declared.timed_event.TimedEvent.{TimedEvent}
use Rattle.bsc_node.specs.declared.action.Action.{Action}
use Rattle.bsc_node.specs.declared.action.Action.TheVariants.{Put}
use Rattle.bsc_node.specs.Conditions.{fits, may_come}
use Rattle.bsc_node.specs.Laws.{with_event, puts_npdu, npdus_put, IsPutOnce}
use Rattle.bsc_node.specs.Logs.{Made, Log, action_of}
use Rattle.bsc_node.specs.Node.{actions_at}
use Rattle.bsc_node.specs.Requesting.{own_message}
use Rattle.bsc_node.proofs.Sending.{npdus_are_put_once}
use Rattle.bsc_node_identity.proofs.Timely.{Timely}
use Rattle.bsc_network.specs.declared.world_step.WorldStep.{WorldStep}
use Rattle.bsc_network.specs.declared.way.Way.{Way}
use Rattle.bsc_network.specs.declared.way.Way.TheVariants.{Down}
use Rattle.bsc_network.specs.declared.hold.Hold.{Hold}
use Rattle.bsc_network.specs.declared.arrival.Arrival.{Arrival}
use Rattle.bsc_network.specs.declared.parcel.Parcel.{Parcel}
use Rattle.bsc_network.specs.declared.parcel.Content.TheVariants.{Message, Closed}
use Rattle.bsc_network.specs.Traffic.{and_then}
use Rattle.bsc_network.specs.Worlds.{World, Node, Link, traffic, node_at, link_at}
use Rattle.bsc_network.specs.Changes.{with_found, with_link, with_side, with_traffic}
use Rattle.bsc_network.specs.Outboxes.{Frame}
use Rattle.bsc_network.specs.HubCalls.{called}
use Rattle.bsc_network.specs.NodeSides.{other_way, hold_of, puts_on, puts_by, name_of}
use Rattle.bsc_network.specs.NodeEvents.{brings_about, carries_out, hears}
use Rattle.bsc_network.specs.Refusals.{is_own}
use Rattle.bsc_network.proofs.Places.{got-changed}
use Rattle.bsc_network_laws.proofs.Moves.{Comes}
use Rattle.bsc_network_laws.proofs.Acting.{goes_on_in, LetsActs}
use Rattle.bsc_network_laws.proofs.Beside.{Keeps, KeepsGiven}
use Rattle.bsc_network_laws.proofs.Beginning.{ComesFirst, EachFrom}
use Rattle.bsc_network_laws.proofs.Sides.{side-side}
use Rattle.bsc_network_laws.proofs.Timing.{no_word_comes}
use Rattle.bsc_network_laws.proofs.OwnOctets.{own_is_none}
use Rattle.bsc_network_laws.proofs.PutBySends.{not_sent}
use Rattle.bsc_network_laws.proofs.Knowing.{Knows}
use Rattle.bsc_network_laws.proofs.AtMost.{Fails, AtMostOne, acts-none, acts-once, at_most-one}
use Rattle.bsc_network_laws.proofs.Placed.{IsPut, PutAt, IsLast, put-or_last, AddsNone, none-then, none-same, none-side, none-lost, none-arrives, none-puts, none-from_hub, none-acts}
use Rattle.bsc_lemmas.proofs.Lists.{all-at}
use Rattle.std.proofs.lemmas.Option.{same_Some as some_same}

-- ---- the places of NPDUs

-- Two indices of ways are one.
pub record IsOne (l : ℕ) (way : Way) (i m : ℕ) (on : Way) (j : ℕ) : Type 0 where
  pub link : l ≡ m
  pub way_is : way ≡ on
  pub index : i ≡ j

-- Two NPDUs that nodes have put and that have one place are one.
abbrev pub ArePutOnce : World → Type 0
ArePutOnce w = (l : ℕ) (way : Way) (i : ℕ) (f : Frame) (m : ℕ) (on : Way) (j : ℕ) (g : Frame) → PutAt w l way i f → PutAt w m on j g → f.sent_at ≡ g.sent_at → IsOne l way i m on j

-- Their places are those of steps before this one.
abbrev pub PutBefore : ℕ → World → Type 0
PutBefore place w = (l : ℕ) (way : Way) (i : ℕ) (f : Frame) → PutAt w l way i f → f.sent_at < place

-- No NPDU was put in this step so far.
pub record NonePut (place : ℕ) (w : World) : Type 0 where
  pub steps : w.steps ≡ place
  pub before : PutBefore place w
  pub once : ArePutOnce w

-- At most one was.
pub record OnePut (place : ℕ) (w : World) : Type 0 where
  pub before : PutBefore (place + 1) w
  pub once : ArePutOnce w

pub once-kept : (u v : World) → AddsNone u v → ArePutOnce u → ArePutOnce v
once-kept u v none once l way i f m on j g p q = once l way i f m on j g (none.before l way i f p) (none.before m on j g q)

none-kept : (place : ℕ) (u v : World) → AddsNone u v → NonePut place u → NonePut place v
none-kept place u v none n = record { steps = none.steps ∙ n.steps; before = λ l way i f p. n.before l way i f (none.before l way i f p); once = once-kept u v none n.once }

one-kept : (place : ℕ) (u v : World) → AddsNone u v → OnePut place u → OnePut place v
one-kept place u v none n = record { before = λ l way i f p. n.before l way i f (none.before l way i f p); once = once-kept u v none n.once }

pub one_of-none : (place : ℕ) (w : World) → PutBefore place w → ArePutOnce w → OnePut place w
one_of-none place w before once = record { before = λ l way i f p. let h = before l way i f p in omega arith; once = once }

-- ---- an NPDU is put

-- What is put is put at this index of this way, as the last.
pub record IsLastOn (w : World) (l : ℕ) (way : Way) (p : Parcel) (m : ℕ) (on : Way) (i : ℕ) (f : Frame) : Type 0 where
  pub at : Link
  pub here : link_at w l ≡ Some at
  pub link : m ≡ l
  pub last : IsLast at way p on i f

put-split : (w : World) (l : ℕ) (way : Way) (p : Parcel) (m : ℕ) (on : Way) (i : ℕ) (f : Frame) → PutAt (with_link l (with_traffic way (and_then p)) w) m on i f → PutAt w m on i f
    ⊎ IsLastOn w l way p m on i f
put-split w l way p m on i f (y, at, put) = by (got-changed l (with_traffic way (and_then p)) w.links m y at)
  where
    by : (slice_get w.links m ≡ Some y) ⊎ ((x : Link) × (l ≡ m) × (slice_get w.links m ≡ Some x) × (y ≡ with_traffic way (and_then p) x)) → PutAt w m on i f ⊎ IsLastOn w l way p m on i f
    by (inl here) = inl (y, here, put)
    by (inr (x, same, here, is)) =
        elim (put-or_last x way p on i f (subst (λ (z : Link). IsPut z on i f) is put))
        [ inl h ↦ inl (x, here, h) | inr h ↦ inr (record { at = x; here = ap (slice_get w.links) same ∙ here; link = sym same; last = h }) ]

last_place : (x : Link) (way : Way) (p : Parcel) (on : Way) (i : ℕ) (f : Frame) → IsLast x way p on i f → f.sent_at ≡ p.sent_at
last_place x way p on i f last = ap (λ (y : Parcel). y.sent_at) last.parcel

both_last : (w : World) (l : ℕ) (way : Way) (p : Parcel) (m : ℕ) (on : Way) (i : ℕ) (f : Frame) (n : ℕ) (by : Way) (j : ℕ) (g : Frame) → IsLastOn w l way p m on i f
    → IsLastOn w l way p n by j g → IsOne m on i n by j
both_last w l way p m on i f n by j g a b =
    let same : a.at ≡ b.at = some_same a.at b.at (sym a.here ∙ b.here) in
    record { link = a.link ∙ sym b.link; way_is = a.last.way_is ∙ sym b.last.way_is; index = a.last.last ∙ ap (λ (x : Link). length (traffic way x).put) same ∙ sym b.last.last }

-- One NPDU is put, with the place of this step, where none was.
put-one : (place : ℕ) (w : World) (l : ℕ) (way : Way) (p : Parcel) → p.sent_at ≡ place → NonePut place w → OnePut place (with_link l (with_traffic way (and_then p)) w)
put-one place w l way p at n = record {
  before = λ m on i f put. earlier m on i f (put-split w l way p m on i f put);
  once = λ m on i f o by j g a b same. apart m on i f o by j g (put-split w l way p m on i f a) (put-split w l way p o by j g b) same;
}
  where
    earlier : (m : ℕ) (on : Way) (i : ℕ) (f : Frame) → PutAt w m on i f ⊎ IsLastOn w l way p m on i f → f.sent_at < place + 1
    earlier m on i f (inl put) = let h = n.before m on i f put in omega arith
    earlier m on i f (inr last) = let h : f.sent_at ≡ p.sent_at = last_place last.at way p on i f last.last in omega arith

    not_new : (f g : Frame) → f.sent_at < place → g.sent_at ≡ p.sent_at → f.sent_at ≡ g.sent_at → ⊥
    not_new f g less is same = omega arith

    apart : (m : ℕ) (on : Way) (i : ℕ) (f : Frame) (o : ℕ) (by : Way) (j : ℕ) (g : Frame) → PutAt w m on i f ⊎ IsLastOn w l way p m on i f → PutAt w o by j g ⊎ IsLastOn w l way p o by j g
        → f.sent_at ≡ g.sent_at → IsOne m on i o by j
    apart m on i f o by j g (inl a) (inl b) same = n.once m on i f o by j g a b same
    apart m on i f o by j g (inl a) (inr b) same = absurd (not_new f g (n.before m on i f a) (last_place b.at way p by j g b.last) same)
    apart m on i f o by j g (inr a) (inl b) same = absurd (not_new g f (n.before o by j g b) (last_place a.at way p on i f a.last) (sym same))
    apart m on i f o by j g (inr a) (inr b) same = both_last w l way p m on i f o by j g a b

puts_by-one : (place : ℕ) (w : World) (k : ℕ) (name : LinkName) (o : List ℕ) → NonePut place w → OnePut place (puts_by k name (Message o) w)
puts_by-one place w k name o n = at_node (node_at w k)
  where
    at_hold : (h : Option Hold) → OnePut place (with_found h (puts_on (Message o)) w)
    at_hold None = one_of-none place w n.before n.once
    at_hold (Some h) = put-one place w h.link (other_way h.hears) (record { content = Message o; sent_at = w.steps }) n.steps n

    at_node : (m : Option Node) → OnePut place (with_found m (λ m. with_found (hold_of name m) (puts_on (Message o))) w)
    at_node None = one_of-none place w n.before n.once
    at_node (Some m) = at_hold (hold_of name m)

-- ---- an event comes to a node

-- It is the NPDU of a Send.
pub record IsSentThen (a : Made) (L : Log) (e : TimedEvent) (x : Action) : Type 0 where
  pub dest : Vmac
  pub npdu : List ℕ
  pub event : e.event ≡ Send dest npdu
  pub name : LinkName
  pub octets : List ℕ
  pub is : x ≡ Put name octets

put-law : (a : Made) (L : Log) (e : TimedEvent) → IsTrue (may_come L e) → AtMostOne puts_npdu (IsSentThen a L e) (actions_at a L e)
put-law a L e may = by (npdus_are_put_once a L e may)
  where
    by : (npdus_put a L e ≡ []) ⊎ IsPutOnce a L e → AtMostOne puts_npdu (IsSentThen a L e) (actions_at a L e)
    by (inl none) = inl none
    by (inr (dest, npdu, w, event, path, is)) = inr (_, is, record { dest = dest; npdu = npdu; event = event; name = w.link; octets = own_message w (Npdu npdu) (with_event L e); is = refl })

put-never : (a : Made) (M : Log) (x : TimedEvent) (action : Action) → x.event ≡ NoRandom → IsSentThen a M x action → ⊥
put-never a M x action is sent = no sent.dest sent.npdu (sym is ∙ sent.event)
  where
    no : (dest : Vmac) (npdu : List ℕ) → NoRandom ≡ Send dest npdu → ⊥
    no dest npdu h = cc

-- At an event of a step a node puts at most one NPDU, and that for a Send.
pub puts-at_most : (T place : ℕ) (D : WorldStep) (w : World) (k : ℕ) (n : Node) (by : Option Arrival) (e : NodeEvent) → node_at w k ≡ Some n → Comes D w k n by e → fits n.log e ≡ true
    → Knows T place w
    → AtMostOne puts_npdu (IsSentThen n.made n.log (record { now = w.now; event = e })) (filter_map action_of (brings_about n.made (record { now = w.now; event = e }) n.log))
puts-at_most T place D w k n by e here come fit known =
    at_most-one puts_npdu IsSentThen w.now n.made n.log e (subst (λ t. t < 2 ^ 62) (sym known.at.now) known.at.below)
    (subst (λ t. Timely t n.log) (sym known.at.now) (all-at (λ (x : Node). Timely T x.log) w.nodes k n known.at.timely here)) (no_word_comes D w k n by e come) fit
    (put-law n.made) (put-never n.made)

-- A Send comes first.
sent_first : (B : World) (D : WorldStep) (w : World) (k : ℕ) (n : Node) (by : Option Arrival) (e : NodeEvent) (dest : Vmac) (npdu : List ℕ) → Comes D w k n by e → ComesFirst B w by e
    → e ≡ Send dest npdu → w ≡ B
sent_first B D w k n None e dest npdu come first sent = first (ap is_own sent)
sent_first B D w k n (Some a) e dest npdu (content, heard, came, is) first sent = absurd (not_sent content (name_of a.link a.way n) dest npdu (is ∙ ap Some sent))

-- Of an event that comes, where nothing was put before the step began with this.
one-hears : (T place : ℕ) (B : World) (D : WorldStep) → B.steps ≡ place → PutBefore place B → ArePutOnce B → (w : World) (k : ℕ) (n : Node) (by : Option Arrival) (e : NodeEvent)
    → node_at w k ≡ Some n → Comes D w k n by e → fits n.log e ≡ true → ComesFirst B w by e
    → KeepsGiven (Knows T place) (OnePut place) w (hears k by (record { now = w.now; event = e }) n w)
one-hears T place B D steps before once w k n by e here come fit first known one = at (puts-at_most T place D w k n by e here come fit known)
  where
    event : TimedEvent
    event = record { now = w.now; event = e }

    logged : World
    logged = goes_on_in k event w

    acts : LetsActs k by (Fails puts_npdu) AddsNone
    acts = none-acts k by

    keeps : (P : World → Type 0) → ((u v : World) → AddsNone u v → P u → P v) → LetsActs k by (Fails puts_npdu) (Keeps P)
    keeps P kept = record {
      none = λ u p. p;
      then = λ u v x f g p. g (f p);
      each = record {
        puts = λ u name o known. kept u _ (acts.each.puts u name o known);
        closes = λ u name. kept u _ (acts.each.closes u name);
        takes = λ u name a is known. kept u _ (acts.each.takes u name a is known);
        dials_as = λ u name uri t known leads. kept u _ (acts.each.dials_as u name uri t known leads);
        fails_as = λ u name. kept u _ (acts.each.fails_as u name);
        refuses_it = λ u a is. kept u _ (acts.each.refuses_it u a is);
        delivers_one = λ u d a is known. kept u _ (acts.each.delivers_one u d a is known);
      };
    }

    at : AtMostOne puts_npdu (IsSentThen n.made n.log event) (filter_map action_of (brings_about n.made event n.log)) → OnePut place (hears k by event n w)
    at (inl none) =
        one-kept place w (hears k by event n w)
        (none-then w logged (hears k by event n w) (none-same w logged refl refl) (acts-none k by puts_npdu AddsNone acts (filter_map action_of (brings_about n.made event n.log)) logged none)) one
    at (inr (x, is, sent)) =
        let begins : w ≡ B = sent_first B D w k n by e sent.dest sent.npdu come first sent.event in
        let none : NonePut place w = subst (NonePut place) (sym begins) (record { steps = steps; before = before; once = once }) in
        acts-once k by puts_npdu (NonePut place) (OnePut place) (keeps (NonePut place) (none-kept place)) (keeps (OnePut place) (one-kept place)) x
        (λ u p. subst (λ (y : Action). OnePut place (carries_out k by y u)) (sym sent.is) (puts_by-one place u k sent.name sent.octets p))
        (filter_map action_of (brings_about n.made event n.log)) logged is (none-kept place w logged (none-same w logged refl refl) none)

-- In each step at most one NPDU is put, and that with a place which none had before.
pub one_stays : (T place : ℕ) (B : World) (D : WorldStep) → B.steps ≡ place → PutBefore place B → ArePutOnce B → EachFrom B D (KeepsGiven (Knows T place) (OnePut place))
one_stays T place B D steps before once = record {
  over = λ w l m. one-kept place w _ (none-side w l _);
  tells = λ w l j h k e other side m. one-kept place w _ (none-side w l _);
  empty = λ w l m. one-kept place w _ (none-side w l _);
  closes_down = λ w l m. one-kept place w _ (none-puts w l w.steps Down Closed tt);
  hub_puts = λ w l j h k st o side wanted is m. one-kept place w _ (none-puts w l w.steps Down (Message o) (own_is_none h.about st wanted o is));
  leaves = λ w l j h k c side conn m. one-kept place w _ (none-same w _ refl refl);
  stops = λ w j h here is m. one-kept place w _ (none-same w _ refl refl);
  asks = λ w l j p h k o who side came said is m. one-kept place w _ (none-same w _ refl refl);
  joins = λ w l j p h k o who c replaced side came said is m.
      let v = called j l p (Connect who) w in
      let u = with_side l (λ x. record x { conn = Some c }) v in
      one-kept place w _ (none-then w v _ (none-same w v refl refl) (none-then v u _ (none-side v l _) (none-side u l _)));
  forwards = λ w l j p h k o c side conn came said now m. one-kept place w _ (none-same w _ refl refl);
  takes = λ w l j h k c f side conn is m.
      let v = with_side l (λ x. record x { taken = x.taken + 1 }) w in
      let there = side-side w l j h k (λ x. record x { taken = x.taken + 1 }) refl side in
      one-kept place w _ (none-then w v _ (none-side w l _) (none-from_hub v l j _ (record { content = Message f.octets; sent_at = f.sent_at }) there.link there.leads));
  hears = λ w k n by e here come fit first. one-hears T place B D steps before once w k n by e here come fit first;
  forgets = λ w later m. one-kept place w _ (none-same w _ refl refl);
  arrives = λ w l way k x here is m. one-kept place w _ (none-arrives w l way);
  loses = λ w l m. one-kept place w _ (none-lost w l);
}
