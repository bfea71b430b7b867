-- Which NPDUs nodes have put, each at its link, way and index; and which moves add none.
-- It serves clauses of functions of `laws`.
use Rattle.std.proofs.Common.{◌≡◌, ◌⊎◌, inl, inr, ℕ, zero, suc, true, false, List, [], Option, Some, None, refl, ap, sym, subst, ◌∙◌}
use Rattle.std.specs.Prelude.{length, slice_get}
use Rattle.bsc_octets.specs.Functions.{is_npdu}
use Rattle.bsc_node.specs.declared.link_name.LinkName.{LinkName}
use Rattle.bsc_node.specs.Laws.{puts_npdu}
use Rattle.bsc_network.specs.declared.way.Way.{Way}
use Rattle.bsc_network.specs.declared.way.Way.TheVariants.{Up, Down}
use Rattle.bsc_network.specs.declared.target.Target.{Target}
use Rattle.bsc_network.specs.declared.target.Target.TheVariants.{Hub as ToHub, Node as ToNode}
use Rattle.bsc_network.specs.declared.hold.Hold.{Hold}
use Rattle.bsc_network.specs.declared.arrival.Arrival.{Arrival}
use Rattle.bsc_network.specs.declared.parcel.Parcel.{Parcel}
use Rattle.bsc_network.specs.declared.parcel.Content.{Content}
use Rattle.bsc_network.specs.declared.parcel.Content.TheVariants.{Opened, Arrived, Message, Closed}
use Rattle.bsc_network.specs.Traffic.{without_front, and_then}
use Rattle.bsc_network.specs.Worlds.{World, HubSide, Node, Link, traffic, node_at, link_at}
use Rattle.bsc_network.specs.Changes.{with_found, with_link, with_side, with_traffic}
use Rattle.bsc_network.specs.Outboxes.{Frame}
use Rattle.bsc_network.specs.NodeSides.{other_way, hold_of, puts_on, puts_by}
use Rattle.bsc_network.specs.Dialling.{new_link, dials}
use Rattle.bsc_network.proofs.Places.{got-changed, got-last_of}
use Rattle.bsc_network_laws.specs.Ends.{putter}
use Rattle.bsc_network_laws.proofs.Acting.{LetsActs}
use Rattle.bsc_network_laws.proofs.SideFits.{CarriesNone}
use Rattle.bsc_network.proofs.Common.{not_both}
use Rattle.std.proofs.lemmas.Option.{same_Some as some_same}

-- ---- where an NPDU stands

-- At this index of a way of the link stands a message, with its place.
abbrev pub StandsAt : Link → Way → ℕ → Frame → Type 0
StandsAt x way i f = slice_get (traffic way x).put i ≡ Some (record { content = Message f.octets; sent_at = f.sent_at })

-- There stands an NPDU, which a node put.
pub record IsPut (x : Link) (way : Way) (i : ℕ) (f : Frame) : Type 0 where
  pub stands : StandsAt x way i f
  pub npdu : is_npdu f.octets ≡ true
  pub node : ℕ
  pub putter_is : putter way x ≡ ToNode node

-- The same, of a link of a network.
abbrev pub PutAt : World → ℕ → Way → ℕ → Frame → Type 0
PutAt w l way i f = (x : Link) × (link_at w l ≡ Some x) × IsPut x way i f

-- ---- no NPDU is added

-- Each NPDU that a node has put was put before.
pub record AddsNone (u v : World) : Type 0 where
  pub steps : v.steps ≡ u.steps
  pub before : (l : ℕ) (way : Way) (i : ℕ) (f : Frame) → PutAt v l way i f → PutAt u l way i f

pub none-none : (w : World) → AddsNone w w
none-none w = record { steps = refl; before = λ l way i f p. p }

pub none-then : (u v w : World) → AddsNone u v → AddsNone v w → AddsNone u w
none-then u v w f g = record { steps = g.steps ∙ f.steps; before = λ l way i x p. f.before l way i x (g.before l way i x p) }

pub none-same : (u v : World) → v.steps ≡ u.steps → v.links ≡ u.links → AddsNone u v
none-same u v steps links = record { steps = steps; before = λ l way i f p. (p.0, ap (λ (ls : List Link). slice_get ls l) (sym links) ∙ p.1, p.2) }

-- what a change of a link doesn't add
abbrev pub LinkAddsNone : Link → Link → Type 0
LinkAddsNone x y = (way : Way) (i : ℕ) (f : Frame) → IsPut y way i f → IsPut x way i f

pub none-link : (w : World) (l : ℕ) (f : Link → Link) → ((x : Link) → link_at w l ≡ Some x → LinkAddsNone x (f x)) → AddsNone w (with_link l f w)
none-link w l f none = record { steps = refl; before = λ m way i g p. by m way i g p.0 p.2 (got-changed l f w.links m p.0 p.1) }
  where
    by : (m : ℕ) (way : Way) (i : ℕ) (g : Frame) (y : Link) → IsPut y way i g → (slice_get w.links m ≡ Some y) ⊎ ((x : Link) × (l ≡ m) × (slice_get w.links m ≡ Some x) × (y ≡ f x)) → PutAt w m way i g
    by m way i g y put (inl here) = (y, here, put)
    by m way i g y put (inr (x, same, here, is)) = (x, here, none x (ap (slice_get w.links) same ∙ here) way i g (subst (λ (z : Link). IsPut z way i g) is put))

side-none : (f : HubSide → HubSide) (x : Link) → LinkAddsNone x (record x { side = f x.side })
side-none f x Up i g put = record { stands = put.stands; npdu = put.npdu; node = put.node; putter_is = put.putter_is }
side-none f x Down i g put = record { stands = put.stands; npdu = put.npdu; node = put.node; putter_is = put.putter_is }

pub none-side : (w : World) (l : ℕ) (f : HubSide → HubSide) → AddsNone w (with_side l f w)
none-side w l f = none-link w l (λ link. record link { side = f link.side }) (λ x here. side-none f x)

lost-none : (x : Link) → LinkAddsNone x (record x { is_lost = true })
lost-none x Up i g put = record { stands = put.stands; npdu = put.npdu; node = put.node; putter_is = put.putter_is }
lost-none x Down i g put = record { stands = put.stands; npdu = put.npdu; node = put.node; putter_is = put.putter_is }

pub none-lost : (w : World) (l : ℕ) → AddsNone w (with_link l (λ link. record link { is_lost = true }) w)
none-lost w l = none-link w l _ (λ x here. lost-none x)

arrived-none : (on : Way) (x : Link) → LinkAddsNone x (with_traffic on without_front x)
arrived-none Up x Up i g put = record { stands = put.stands; npdu = put.npdu; node = put.node; putter_is = put.putter_is }
arrived-none Up x Down i g put = record { stands = put.stands; npdu = put.npdu; node = put.node; putter_is = put.putter_is }
arrived-none Down x Up i g put = record { stands = put.stands; npdu = put.npdu; node = put.node; putter_is = put.putter_is }
arrived-none Down x Down i g put = record { stands = put.stands; npdu = put.npdu; node = put.node; putter_is = put.putter_is }

pub none-arrives : (w : World) (l : ℕ) (way : Way) → AddsNone w (with_link l (with_traffic way without_front) w)
none-arrives w l way = none-link w l (with_traffic way without_front) (λ x here. arrived-none way x)

-- ---- something is put

-- It stands on this way, as the last.
pub record IsLast (x : Link) (on : Way) (p : Parcel) (way : Way) (i : ℕ) (f : Frame) : Type 0 where
  pub way_is : way ≡ on
  pub last : i ≡ length (traffic on x).put
  pub parcel : record { content = Message f.octets; sent_at = f.sent_at } ≡ p

-- What is put on a link once something was put on a way of it was put before, or is this.
pub put-or_last : (x : Link) (on : Way) (p : Parcel) (way : Way) (i : ℕ) (f : Frame) → IsPut (with_traffic on (and_then p) x) way i f → IsPut x way i f ⊎ IsLast x on p way i f
put-or_last x Up p Up i f put =
    elim (got-last_of x.up.put p i _ put.stands)
    [ inl h ↦ inl (record { stands = h; npdu = put.npdu; node = put.node; putter_is = put.putter_is }) | inr h ↦ inr (record { way_is = refl; last = h.0; parcel = h.1 }) ]
put-or_last x Up p Down i f put = inl (record { stands = put.stands; npdu = put.npdu; node = put.node; putter_is = put.putter_is })
put-or_last x Down p Up i f put = inl (record { stands = put.stands; npdu = put.npdu; node = put.node; putter_is = put.putter_is })
put-or_last x Down p Down i f put =
    elim (got-last_of x.down.put p i _ put.stands)
    [ inl h ↦ inl (record { stands = h; npdu = put.npdu; node = put.node; putter_is = put.putter_is }) | inr h ↦ inr (record { way_is = refl; last = h.0; parcel = h.1 }) ]

abbrev parcel_at : Content → ℕ → Parcel
parcel_at content place = record { content = content; sent_at = place }

no_message : (content : Content) (o : List ℕ) → CarriesNone content → is_npdu o ≡ true → Message o ≡ content → ⊥
no_message (Message p) o none npdu is = no (sym none ∙ ap is_npdu (sym (octets is)) ∙ npdu)
  where
    octets : Message o ≡ Message p → o ≡ p
    octets h = cc

    no : false ≡ true → ⊥
    no h = cc
no_message Opened o none npdu is = cc
no_message Arrived o none npdu is = cc
no_message Closed o none npdu is = cc

not_npdu : (content : Content) (place : ℕ) (f : Frame) → CarriesNone content → is_npdu f.octets ≡ true → parcel_at (Message f.octets) f.sent_at ≡ parcel_at content place → ⊥
not_npdu content place f none npdu is = no_message content f.octets none npdu (ap (λ (p : Parcel). p.content) is)

-- What is no NPDU adds none.
pub none-puts : (w : World) (l place : ℕ) (way : Way) (content : Content) → CarriesNone content
    → AddsNone w (with_link l (with_traffic way (and_then (record { content = content; sent_at = place }))) w)
none-puts w l place way content none = none-link w l _ (λ x here. by x)
  where
    by : (x : Link) → LinkAddsNone x (with_traffic way (and_then (record { content = content; sent_at = place })) x)
    by x on i f put =
        elim (put-or_last x way (record { content = content; sent_at = place }) on i f put)
        [ inl h ↦ h | inr last ↦ absurd (not_npdu content place f none put.npdu last.parcel) ]

-- What is put on the way down from a hub isn't put by a node.
pub none-from_hub : (w : World) (l j : ℕ) (x : Link) (p : Parcel) → link_at w l ≡ Some x → x.to ≡ ToHub j → AddsNone w (with_link l (with_traffic Down (and_then p)) w)
none-from_hub w l j x p at leads = none-link w l _ by
  where
    by : (y : Link) → link_at w l ≡ Some y → LinkAddsNone y (with_traffic Down (and_then p) y)
    by y here Up i f put = record { stands = put.stands; npdu = put.npdu; node = put.node; putter_is = put.putter_is }
    by y here Down i f put = absurd (not_both put.node j y.to put.putter_is (ap (λ (z : Link). z.to) (some_same y x (sym here ∙ at)) ∙ leads))

-- ---- the actions of a node

puts_by-none : (w : World) (k : ℕ) (name : LinkName) (content : Content) → CarriesNone content → AddsNone w (puts_by k name content w)
puts_by-none w k name content none = at_node (node_at w k)
  where
    at_hold : (o : Option Hold) → AddsNone w (with_found o (puts_on content) w)
    at_hold None = none-none w
    at_hold (Some h) = none-puts w h.link w.steps (other_way h.hears) content none

    at_node : (o : Option Node) → AddsNone w (with_found o (λ n. with_found (hold_of name n) (puts_on content)) w)
    at_node None = none-none w
    at_node (Some n) = at_hold (hold_of name n)

new-none : (w : World) (k : ℕ) (t : Target) (way : Way) (i : ℕ) (f : Frame) → IsPut (new_link w k t) way i f → ⊥
new-none w k (ToHub j) Up i f put = empty i put.stands
  where
    empty : (i : ℕ) → slice_get {X = Parcel} [] i ≡ Some (parcel_at (Message f.octets) f.sent_at) → ⊥
    empty i h = cc
new-none w k (ToNode j) Up zero f put = not_npdu Arrived w.steps f tt put.npdu (sym (some_same (parcel_at Arrived w.steps) (parcel_at (Message f.octets) f.sent_at) put.stands))
new-none w k (ToNode j) Up (suc i) f put = none (put.stands)
  where
    none : slice_get {X = Parcel} [] i ≡ Some (parcel_at (Message f.octets) f.sent_at) → ⊥
    none h = cc
new-none w k t Down zero f put = not_npdu Opened w.steps f tt put.npdu (sym (some_same (parcel_at Opened w.steps) (parcel_at (Message f.octets) f.sent_at) put.stands))
new-none w k t Down (suc i) f put = none (put.stands)
  where
    none : slice_get {X = Parcel} [] i ≡ Some (parcel_at (Message f.octets) f.sent_at) → ⊥
    none h = cc

none-dials : (w : World) (k : ℕ) (name : LinkName) (t : Target) → AddsNone w (dials k name t w)
none-dials w k name t = record { steps = refl; before = λ l way i f p. by l way i f p.0 p.2 (got-last_of w.links (new_link w k t) l p.0 p.1) }
  where
    by : (l : ℕ) (way : Way) (i : ℕ) (f : Frame) (x : Link) → IsPut x way i f → (slice_get w.links l ≡ Some x) ⊎ ((l ≡ length w.links) × (x ≡ new_link w k t)) → PutAt w l way i f
    by l way i f x put (inl here) = (x, here, put)
    by l way i f x put (inr (last, is)) = absurd (new-none w k t way i f (subst (λ (y : Link). IsPut y way i f) is put))

-- Each action that puts no NPDU adds none.
pub none-acts : (k : ℕ) (by : Option Arrival) → LetsActs k by (λ action. puts_npdu action ≡ false) AddsNone
none-acts k by = record {
  none = none-none;
  then = none-then;
  each = record {
    puts = λ w name o known. puts_by-none w k name (Message o) known;
    closes = λ w name. puts_by-none w k name Closed tt;
    takes = λ w name a is known. none-same w _ refl refl;
    dials_as = λ w name uri t known leads. none-dials w k name t;
    fails_as = λ w name. none-same w _ refl refl;
    refuses_it = λ w a is. none-puts w a.link w.steps (other_way a.way) Closed tt;
    delivers_one = λ w d a is known. none-same w _ refl refl;
  };
}
