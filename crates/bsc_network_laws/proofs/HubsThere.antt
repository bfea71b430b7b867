-- After each step, the hub to which a link leads is there.
-- It serves clauses of functions of `laws`.
use Rattle.std.proofs.Common.{◌≡◌, ◌⊎◌, inl, inr, ℕ, zero, suc, ◌<◌, Bool, true, false, cond, List, [], ◌∷◌, Option, Some, None, refl, ap, sym, ◌∙◌, arith}
use Rattle.std.specs.Prelude.{◌+◌, length, map, nat_lt, position, slice_get, ⊤}
use Rattle.std.specs.List.{range_with_len, position_or_len}
use Rattle.std.proofs.lemmas.Bool.{ltb-true}
use Rattle.std.specs.Option.{option_map, option_or}
use Rattle.bsc_history.specs.declared.call.Call.{Call}
use Rattle.bsc_history.specs.declared.call.Call.TheVariants.{Connect}
use Rattle.bsc_node.specs.declared.link_name.LinkName.{LinkName}
use Rattle.bsc_network.specs.declared.world_step.WorldStep.{WorldStep}
use Rattle.bsc_network.specs.declared.timed_step.TimedStep.{TimedStep}
use Rattle.bsc_network.specs.declared.way.Way.{Way}
use Rattle.bsc_network.specs.declared.way.Way.TheVariants.{Up, Down}
use Rattle.bsc_network.specs.declared.target.Target.{Target}
use Rattle.bsc_network.specs.declared.target.Target.TheVariants.{Hub as ToHub, Node as ToNode}
use Rattle.bsc_network.specs.declared.hold.Hold.{Hold}
use Rattle.bsc_network.specs.declared.arrival.Arrival.{Arrival}
use Rattle.bsc_network.specs.declared.parcel.Content.{Content}
use Rattle.bsc_network.specs.declared.parcel.Content.TheVariants.{Message, Closed}
use Rattle.bsc_network.specs.Traffic.{Traffic}
use Rattle.bsc_network.specs.Settings.{hub_uri}
use Rattle.bsc_network.specs.Worlds.{World, Hub, HubSide, Node, Link, node_at, link_at}
use Rattle.bsc_network.specs.Changes.{with_found, with_link, with_side, with_traffic}
use Rattle.bsc_network.specs.HubCalls.{called, most_links}
use Rattle.bsc_network.specs.NodeSides.{other_way, hold_of, puts_on, puts_by}
use Rattle.bsc_network.specs.Dialling.{same_uri, hub_with, node_with, target_of, if_room, leads_to, dials, new_link}
use Rattle.bsc_network.specs.Networks.{makes}
use Rattle.bsc_network.proofs.Places.{got-changed, got-last_of, length-changed}
use Rattle.bsc_network_laws.proofs.Moves.{Lets}
use Rattle.bsc_network_laws.proofs.Acting.{LetsActs, lets-hears}
use Rattle.bsc_network_laws.proofs.Sides.{with_call}
use Rattle.bsc_network_laws.proofs.Stepping.{begun, lets-makes}
use Rattle.bsc_network.proofs.Common.{same_hub}
use Rattle.std.proofs.lemmas.Option.{same_Some as some_same}

-- The hub to which a link leads is one of the network's.
pub record HubsThere (w : World) : Type 0 where
  pub within : (l j : ℕ) (x : Link) → link_at w l ≡ Some x → x.to ≡ ToHub j → j < length w.hubs

abbrev Keep : World → World → Type 0
Keep u v = HubsThere u → HubsThere v

there-same : (u v : World) → v.links ≡ u.links → length v.hubs ≡ length u.hubs → Keep u v
there-same u v links hubs there = record { within = λ l j x here leads. let h = there.within l j x (ap (λ (ls : List Link). slice_get ls l) (sym links) ∙ here) leads in omega arith }

there-link : (w : World) (i : ℕ) (f : Link → Link) → ((x : Link) → (f x).to ≡ x.to) → Keep w (with_link i f w)
there-link w i f to there = record { within = λ l j x here leads. by l j x leads (got-changed i f w.links l x here) }
  where
    by : (l j : ℕ) (x : Link) → x.to ≡ ToHub j → (slice_get w.links l ≡ Some x) ⊎ ((y : Link) × (i ≡ l) × (slice_get w.links l ≡ Some y) × (x ≡ f y)) → j < length w.hubs
    by l j x leads (inl at) = there.within l j x at leads
    by l j x leads (inr (y, same, at, is)) = there.within l j y at (sym (to y) ∙ ap (λ (z : Link). z.to) (sym is) ∙ leads)

there-way : (w : World) (l : ℕ) (way : Way) (f : Traffic → Traffic) → Keep w (with_link l (with_traffic way f) w)
there-way w l Up f = there-link w l (with_traffic Up f) (λ x. refl)
there-way w l Down f = there-link w l (with_traffic Down f) (λ x. refl)

there-side : (w : World) (l : ℕ) (f : HubSide → HubSide) → Keep w (with_side l f w)
there-side w l f = there-link w l (λ link. record link { side = f link.side }) (λ x. refl)

there-called : (w : World) (j caller place : ℕ) (call : Call) → Keep w (called j caller place call w)
there-called w j caller place call = there-same w (called j caller place call w) refl (length-changed j (with_call w caller place call) w.hubs)

there-puts_by : (w : World) (k : ℕ) (name : LinkName) (content : Content) → Keep w (puts_by k name content w)
there-puts_by w k name content = at_node (node_at w k)
  where
    at_hold : (o : Option Hold) → Keep w (with_found o (puts_on content) w)
    at_hold None there = there
    at_hold (Some h) there = there-way w h.link (other_way h.hears) _ there

    at_node : (o : Option Node) → Keep w (with_found o (λ n. with_found (hold_of name n) (puts_on content)) w)
    at_node None there = there
    at_node (Some n) there = at_hold (hold_of name n) there

-- ---- a dial

place-within : (test : List ℕ → Bool) (xs : List (List ℕ)) (j : ℕ) → position test xs ≡ Some j → j < length xs
place-within test xs j h = by (nat_lt (position_or_len test xs) (length xs)) refl h
  where
    by : (b : Bool) → nat_lt (position_or_len test xs) (length xs) ≡ b → cond b (Some (position_or_len test xs)) None ≡ Some j → j < length xs
    by true less at =
        let same : position_or_len test xs ≡ j = some_same (position_or_len test xs) j at in
        let below : position_or_len test xs < length xs = ltb-true (position_or_len test xs) (length xs) less in
        omega arith
    by false less at = cc

uris-length : (n s : ℕ) → length (map hub_uri (range_with_len s n)) ≡ n
uris-length zero s = refl
uris-length (suc n) s = ap suc (uris-length n (s + 1))

leads-within : (w : World) (uri : List ℕ) (j : ℕ) → leads_to w uri ≡ Some (ToHub j) → j < length w.hubs
leads-within w uri j is = with_room (nat_lt (length w.links) most_links) is
  where
    no_node : (o : Option ℕ) → option_map (λ k. ToNode k) o ≡ Some (ToHub j) → ⊥
    no_node None h = cc
    no_node (Some k) h = cc

    by : (o : Option ℕ) → hub_with w uri ≡ o → option_or (option_map (λ j. ToHub j) o) (option_map (λ k. ToNode k) (node_with w uri)) ≡ Some (ToHub j) → j < length w.hubs
    by None found h = absurd (no_node (node_with w uri) h)
    by (Some i) found h =
        let same : i ≡ j = same_hub i j (some_same (ToHub i) (ToHub j) h) in
        let within = place-within (same_uri uri) (map hub_uri (range_with_len 0 (length w.hubs))) i found in
        let long = uris-length (length w.hubs) 0 in
        omega arith

    with_room : (b : Bool) → if_room b (target_of w uri) ≡ Some (ToHub j) → j < length w.hubs
    with_room true h = by (hub_with w uri) refl h
    with_room false h = cc

there-dials : (w : World) (k : ℕ) (name : LinkName) (uri : List ℕ) (t : Target) → leads_to w uri ≡ Some t → Keep w (dials k name t w)
there-dials w k name uri t leads there = record { within = λ l j x here to. by l j x to (got-last_of w.links (new_link w k t) l x here) }
  where
    by : (l j : ℕ) (x : Link) → x.to ≡ ToHub j → (slice_get w.links l ≡ Some x) ⊎ ((l ≡ length w.links) × (x ≡ new_link w k t)) → j < length w.hubs
    by l j x to (inl at) = there.within l j x at to
    by l j x to (inr (last, is)) = leads-within w uri j (leads ∙ ap Some (ap (λ (y : Link). y.to) (sym is) ∙ to))

-- ---- the moves

lets_acts : (k : ℕ) (by : Option Arrival) → LetsActs k by (λ action. ⊤) Keep
lets_acts k by = record {
  none = λ w there. there;
  then = λ u v w f g there. g (f there);
  each = record {
    puts = λ w name o known. there-puts_by w k name (Message o);
    closes = λ w name. there-puts_by w k name Closed;
    takes = λ w name a is known. there-same w _ refl refl;
    dials_as = λ w name uri t known leads. there-dials w k name uri t leads;
    fails_as = λ w name. there-same w _ refl refl;
    refuses_it = λ w a is. there-way w a.link (other_way a.way) _;
    delivers_one = λ w d a is known. there-same w _ refl refl;
  };
}

-- Hubs that are there stay there.
pub lets : (D : WorldStep) → Lets D Keep
lets D = record {
  none = λ w there. there;
  then = λ u v w f g there. g (f there);
  each = record {
    over = λ w l. there-side w l _;
    tells = λ w l j h k e other side. there-side w l _;
    empty = λ w l. there-side w l _;
    closes_down = λ w l. there-way w l Down _;
    hub_puts = λ w l j h k st o side wanted is. there-way w l Down _;
    leaves = λ w l j h k c side conn. there-called w j l w.steps _;
    stops = λ w j h here is. there-called w j _ w.steps _;
    asks = λ w l j p h k o who side arrival said is. there-called w j l p (Connect who);
    joins = λ w l j p h k o who c replaced side arrival said is there.
        let v = called j l p (Connect who) w in
        there-side (with_side l (λ x. record x { conn = Some c }) v) l _ (there-side v l (λ x. record x { conn = Some c }) (there-called w j l p (Connect who) there));
    forwards = λ w l j p h k o c side conn arrival said. there-called w j l p _;
    takes = λ w l j h k c f side conn is there. there-way (with_side l (λ x. record x { taken = x.taken + 1 }) w) l Down _ (there-side w l (λ x. record x { taken = x.taken + 1 }) there);
    hears = λ w k n by e here come fit. lets-hears k by (λ action. ⊤) Keep (lets_acts k by) _ n w (there-same w _ refl refl) (λ action among. tt);
    forgets = λ w later. there-same w _ refl refl;
    arrives = λ w l way k x here is. there-way w l way _;
    loses = λ w l. there-link w l (λ link. record link { is_lost = true }) (λ x. refl);
  };
}

pub hubs_there : (w : World) (t : TimedStep) → HubsThere w → HubsThere (makes w t)
hubs_there w t there = lets-makes Keep t (lets t.step) (λ u. there-same u _ refl refl) w (there-same w (begun w t) refl refl there)

-- What is within a list is found in it.
pub hub-found : (hs : List Hub) (j : ℕ) → j < length hs → (h : Hub) × (slice_get hs j ≡ Some h)
hub-found [] j h = absurd (none h)
  where
    none : j < 0 → ⊥
    none h = omega arith
hub-found (h ∷ hs) zero less = (h, refl)
hub-found (h ∷ hs) (suc j) less = hub-found hs j (omega arith)
