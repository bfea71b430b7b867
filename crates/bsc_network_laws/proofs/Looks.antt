-- After each step, no look at a connection found more taken from its outbox than was taken until now.
-- It serves clauses of functions of `laws`.
use Rattle.std.proofs.Common.{◌≡◌, ◌≤◌, ◌⊎◌, inl, inr, ℕ, zero, suc, ◌==◌, Bool, true, false, cond, List, [], ◌∷◌, ◌++◌, find, fold, map, Option, Some, None, option_to_list, refl}
use Rattle.std.proofs.Common.{ap, sym, subst, ◌∙◌, arith}
use Rattle.std.specs.Prelude.{◌+◌, slice_get, ⊤}
use Rattle.std.proofs.lemmas.Bool.{eqb-true}
use Rattle.bsc_history.specs.declared.call.Call.{Call}
use Rattle.bsc_history.specs.declared.call.Call.TheVariants.{Connect}
use Rattle.bsc_history.specs.declared.connection.Connection.{Connection}
use Rattle.bsc_history.specs.Ends.{joined, numbered}
use Rattle.bsc_history.specs.Entries.{connection_of}
use Rattle.bsc_history.specs.Legality.{looks_at}
use Rattle.bsc_history.specs.Outboxes.{newer, looked}
use Rattle.bsc_history.proofs.More.{looked-more}
use Rattle.bsc_node.specs.declared.link_name.LinkName.{LinkName}
use Rattle.bsc_network.specs.declared.world_step.WorldStep.{WorldStep}
use Rattle.bsc_network.specs.declared.way.Way.{Way}
use Rattle.bsc_network.specs.declared.way.Way.TheVariants.{Up, Down}
use Rattle.bsc_network.specs.declared.hold.Hold.{Hold}
use Rattle.bsc_network.specs.declared.arrival.Arrival.{Arrival}
use Rattle.bsc_network.specs.declared.parcel.Content.{Content}
use Rattle.bsc_network.specs.declared.parcel.Content.TheVariants.{Message, Closed}
use Rattle.bsc_network.specs.Traffic.{Traffic}
use Rattle.bsc_network.specs.Worlds.{World, Hub, HubSide, Node, Link, history, hub_at, node_at}
use Rattle.bsc_network.specs.Changes.{changed_at, with_found, with_link, with_side, with_traffic}
use Rattle.bsc_network.specs.HubCalls.{taken_over, taken_by, taken_from, called, entry_in}
use Rattle.bsc_network.specs.NodeSides.{other_way, hold_of, puts_on, puts_by}
use Rattle.bsc_network.specs.Dialling.{dials, fails, new_link}
use Rattle.bsc_network.specs.NodeEvents.{takes_as, delivers, forgets_failure}
use Rattle.bsc_network.proofs.Places.{got-changed}
use Rattle.bsc_network_laws.proofs.Moves.{Lets}
use Rattle.bsc_network_laws.proofs.Acting.{goes_on_in, LetsActs, lets-hears}
use Rattle.bsc_network_laws.proofs.Sides.{with_call}
use Rattle.bsc_network_laws.proofs.Beside.{Keeps}
use Rattle.bsc_network_laws.proofs.Callers.{history-called, joined-called}

-- The newest look at each connection found no more than was taken until now.
abbrev pub LooksFit : World → Type 0
LooksFit w = (j : ℕ) (h : Hub) (c : ℕ) → hub_at w j ≡ Some h → looked (history h) c ≤ taken_from w h c

at_most : (a b c : ℕ) → a ≤ b → b ≤ c → a ≤ c
at_most a b c p q = omega arith

-- ---- no side gives back what it took

-- from no side was less taken
abbrev TakesMore : List Link → List Link → Type 0
TakesMore xs ys = (l : ℕ) → taken_over (slice_get xs l) ≤ taken_over (slice_get ys l)

more-none : (xs : List Link) → TakesMore xs xs
more-none xs l = omega arith

more-changed : (i : ℕ) (f : Link → Link) → ((x : Link) → x.side.taken ≤ (f x).side.taken) → (xs : List Link) → TakesMore xs (changed_at i f xs)
more-changed i f more [] l = omega arith
more-changed zero f more (x ∷ xs) zero = more x
more-changed zero f more (x ∷ xs) (suc l) = omega arith
more-changed (suc i) f more (x ∷ xs) zero = omega arith
more-changed (suc i) f more (x ∷ xs) (suc l) = more-changed i f more xs l

more-longer : (xs ys : List Link) → TakesMore xs (xs ++ ys)
more-longer [] ys l = omega arith
more-longer (x ∷ xs) ys zero = omega arith
more-longer (x ∷ xs) ys (suc l) = more-longer xs ys l

more-by : (u v : World) → TakesMore u.links v.links → (o : Option Connection) → taken_by u o ≤ taken_by v o
more-by u v more None = omega arith
more-by u v more (Some c) = more c.caller

looks-links : (u v : World) → v.hubs ≡ u.hubs → TakesMore u.links v.links → LooksFit u → LooksFit v
looks-links u v hubs more fit j h c at =
    at_most (looked (history h) c) (taken_from u h c) (taken_from v h c) (fit j h c (ap (λ (hs : List Hub). slice_get hs j) (sym hubs) ∙ at)) (more-by u v more (numbered c (joined (history h))))

-- a change of neither hubs nor links
pub looks-same : (u v : World) → v.hubs ≡ u.hubs → v.links ≡ u.links → Keeps LooksFit u v
looks-same u v hubs links = looks-links u v hubs (subst (TakesMore u.links) (sym links) (more-none u.links))

looks-link : (w : World) (l : ℕ) (f : Link → Link) → ((x : Link) → x.side.taken ≤ (f x).side.taken) → Keeps LooksFit w (with_link l f w)
looks-link w l f more = looks-links w (with_link l f w) refl (more-changed l f more w.links)

looks-way : (w : World) (l : ℕ) (way : Way) (f : Traffic → Traffic) → Keeps LooksFit w (with_link l (with_traffic way f) w)
looks-way w l Up f = looks-link w l (with_traffic Up f) (λ x. as_many x.side.taken)
  where
    as_many : (n : ℕ) → n ≤ n
    as_many n = omega arith
looks-way w l Down f = looks-link w l (with_traffic Down f) (λ x. as_many x.side.taken)
  where
    as_many : (n : ℕ) → n ≤ n
    as_many n = omega arith

looks-side : (w : World) (l : ℕ) (f : HubSide → HubSide) → ((s : HubSide) → s.taken ≤ (f s).taken) → Keeps LooksFit w (with_side l f w)
looks-side w l f more = looks-link w l (λ link. record link { side = f link.side }) (λ x. more x.side)

-- by a change that keeps what was taken
looks-quiet : (w : World) (l : ℕ) (f : HubSide → HubSide) → ((s : HubSide) → (f s).taken ≡ s.taken) → Keeps LooksFit w (with_side l f w)
looks-quiet w l f same = looks-side w l f (λ s. let e = same s in omega arith)

-- ---- a call

-- the newest look among looks each of which finds what was taken
newest : (c n m : ℕ) (t : ℕ → ℕ) (cs : List ℕ) → n ≤ m → t c ≤ m → fold (newer c) n (map (λ d. record { conn = d; taken = t d }) cs) ≤ m
newest c n m t [] low here = low
newest c n m t (d ∷ cs) low here = newest c (newer c n (record { conn = d; taken = t d })) m t cs (by (d == c) refl) here
  where
    by : (b : Bool) → (d == c) ≡ b → cond b (t d) n ≤ m
    by true is = subst (λ k. t k ≤ m) (sym (eqb-true d c is)) here
    by false is = low

-- the one that is found stays the one, when others come behind it
first-or : (w : World) (b : Bool) (x : Connection) (o p : Option Connection) → taken_by w o ≤ taken_by w p → taken_by w (cond b (Some x) o) ≤ taken_by w (cond b (Some x) p)
first-or w true x o p later = omega arith
first-or w false x o p later = later

found-first : (w : World) (test : Connection → Bool) (xs ys : List Connection) → taken_by w (find test xs) ≤ taken_by w (find test (xs ++ ys))
found-first w test [] ys = omega arith
found-first w test (x ∷ xs) ys = first-or w (test x) x (find test xs) (find test (xs ++ ys)) (found-first w test xs ys)

looks-called : (w : World) (j caller place : ℕ) (call : Call) → Keeps LooksFit w (called j caller place call w)
looks-called w j caller place call fit i g c at =
    at_most (looked (history g) c) (taken_from w g c) (taken_from (called j caller place call w) g c) (by (got-changed j (with_call w caller place call) w.hubs i g at))
    (more-by w (called j caller place call w) (more-none w.links) (numbered c (joined (history g))))
  where
    by : (hub_at w i ≡ Some g) ⊎ ((x : Hub) × (j ≡ i) × (hub_at w i ≡ Some x) × (g ≡ with_call w caller place call x)) → looked (history g) c ≤ taken_from w g c
    by (inl here) = fit i g c here
    by (inr (x, same, here, changed)) =
        let e = entry_in w x caller call in
        let H = history x in
        let low : fold (newer c) (looked H c) e.looks ≤ taken_from w x c = newest c (looked H c) (taken_from w x c) (taken_from w x) (looks_at H call) (fit i x c here) (as_many (taken_from w x c)) in
        let is : looked (history (with_call w caller place call x)) c ≡ fold (newer c) (looked H c) e.looks = ap (λ G. looked G c) (history-called w caller place call x) ∙ looked-more H e c in
        let grows : taken_from w x c ≤ taken_from w (with_call w caller place call x) c =
        subst (λ J. taken_from w x c ≤ taken_by w (numbered c J)) (sym (joined-called w caller place call x)) (found-first w (λ y. y.number == c) (joined H) (option_to_list (connection_of e))) in
        subst (λ (y : Hub). looked (history y) c ≤ taken_from w y c) (sym changed) (as_few _ _ _ _ is low grows)
      where
        as_many : (n : ℕ) → n ≤ n
        as_many n = omega arith

        as_few : (a b c d : ℕ) → a ≡ b → b ≤ c → c ≤ d → a ≤ d
        as_few a b c d e p q = omega arith

-- ---- the moves

looks-puts_by : (w : World) (k : ℕ) (name : LinkName) (content : Content) → Keeps LooksFit w (puts_by k name content w)
looks-puts_by w k name content = at_node (node_at w k)
  where
    at_hold : (o : Option Hold) → Keeps LooksFit w (with_found o (puts_on content) w)
    at_hold None fit = fit
    at_hold (Some h) fit = looks-way w h.link (other_way h.hears) _ fit

    at_node : (o : Option Node) → Keeps LooksFit w (with_found o (λ n. with_found (hold_of name n) (puts_on content)) w)
    at_node None fit = fit
    at_node (Some n) fit = at_hold (hold_of name n) fit

lets_acts : (k : ℕ) (by : Option Arrival) → LetsActs k by (λ action. ⊤) (Keeps LooksFit)
lets_acts k by = record {
  none = λ w fit. fit;
  then = λ u v w f g fit. g (f fit);
  each = record {
    puts = λ w name o known. looks-puts_by w k name (Message o);
    closes = λ w name. looks-puts_by w k name Closed;
    takes = λ w name a is known. looks-same w (takes_as k name a w) refl refl;
    dials_as = λ w name uri t known leads. looks-links w (dials k name t w) refl (more-longer w.links (new_link w k t ∷ []));
    fails_as = λ w name. looks-same w (fails name w) refl refl;
    refuses_it = λ w a is. looks-way w a.link (other_way a.way) _;
    delivers_one = λ w d a is known. looks-same w (delivers k d a w) refl refl;
  };
}

-- No look finds more than was taken.
pub looks : (D : WorldStep) → Lets D (Keeps LooksFit)
looks D = record {
  none = λ w fit. fit;
  then = λ u v w f g fit. g (f fit);
  each = record {
    over = λ w l. looks-quiet w l _ (λ s. refl);
    tells = λ w l j h k e other side. looks-quiet w l _ (λ s. refl);
    empty = λ w l. looks-quiet w l _ (λ s. refl);
    closes_down = λ w l. looks-way w l Down _;
    hub_puts = λ w l j h k st o side wanted is. looks-way w l Down _;
    leaves = λ w l j h k c side conn. looks-called w j l w.steps _;
    stops = λ w j h here is. looks-called w j _ w.steps _;
    asks = λ w l j p h k o who side arrival said is. looks-called w j l p (Connect who);
    joins = λ w l j p h k o who c replaced side arrival said is fit.
        let v = called j l p (Connect who) w in
        looks-quiet (with_side l (λ x. record x { conn = Some c }) v) l _ (λ s. refl) (looks-quiet v l (λ x. record x { conn = Some c }) (λ s. refl) (looks-called w j l p (Connect who) fit));
    forwards = λ w l j p h k o c side conn arrival said. looks-called w j l p _;
    takes = λ w l j h k c f side conn is fit. looks-way (with_side l (λ x. record x { taken = x.taken + 1 }) w) l Down _
        (looks-side w l (λ x. record x { taken = x.taken + 1 }) (λ s. omega arith) fit);
    hears = λ w k n by e here come fits. lets-hears k by (λ action. ⊤) (Keeps LooksFit) (lets_acts k by) (record { now = w.now; event = e }) n w
        (looks-same w (goes_on_in k (record { now = w.now; event = e }) w) refl refl) (λ action among. tt);
    forgets = λ w later. looks-same w (forgets_failure later w) refl refl;
    arrives = λ w l way k x here is. looks-way w l way _;
    loses = λ w l. looks-link w l (λ link. record link { is_lost = true }) (λ x. omega arith);
  };
}
