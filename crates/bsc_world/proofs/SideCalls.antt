-- What the sessions at a hub's sides hear and do leaves of a world.
-- It serves clauses of functions of `laws` and `world`.
use Rattle.std.proofs.Common.{◌≡◌, ◌≤◌, ◌⊎◌, inl, inr, ℕ, zero, suc, Bool, true, false, cond, List, [], ◌∷◌, ◌++◌, length, set, slice_get, Option, Some, None, true≢false, refl, ap, sym, ◌∙◌, subst}
use Rattle.std.specs.Option.{option_map}
use Rattle.bsc_history.specs.declared.ending.End.{End}
use Rattle.bsc_hub_core.specs.declared.hub_core.HubCore.{HubCore}
use Rattle.bsc_accept.specs.declared.accepting.Accepting.{Accepting}
use Rattle.bsc_accept.specs.declared.start.Start.{Start}
use Rattle.bsc_accept.specs.declared.event.Event.{Event}
use Rattle.bsc_accept.specs.declared.event.Event.TheVariants.{Ended}
use Rattle.bsc_accept.specs.declared.step.Step.{Step}
use Rattle.bsc_accept.specs.declared.step.Step.TheVariants.{Ask, Put, PutClose, Up, Close, Nothing}
use Rattle.bsc_accept.specs.Standing.{AcceptingStands}
use Rattle.bsc_port.specs.declared.event.PortEvent.{PortEvent}
use Rattle.bsc_port.specs.declared.output.Output.{Output}
use Rattle.bsc_port.specs.Actions.{machine_event, output_of}
use Rattle.bsc_node.specs.declared.link_name.LinkName.{LinkName}
use Rattle.bsc_network.specs.declared.target.Target.{Target}
use Rattle.bsc_network.specs.declared.target.Target.TheVariants.{Hub as ToHub, Node as ToNode}
use Rattle.bsc_network.specs.declared.way.Way.TheVariants.{Down}
use Rattle.bsc_network.specs.declared.parcel.Content.{Content}
use Rattle.bsc_network.specs.declared.parcel.Content.TheVariants.{Message, Closed}
use Rattle.bsc_world.specs.declared.kept_link.KeptLink.{KeptLink}
use Rattle.bsc_world.specs.KeptSides.{KeptSide}
use Rattle.bsc_world.specs.declared.world.World.{World as KeptWorld}
use Rattle.bsc_network.specs.Traffic.{and_then}
use Rattle.bsc_network.specs.Worlds.{World, Hub, HubSide, Link, hub_at, link_at}
use Rattle.bsc_network.specs.Changes.{Change, by_target, in_order, of_hub, puts_at, puts_now, unchanged, with_found, with_link, with_traffic}
use Rattle.bsc_network.specs.HubSides.{carries_out, closes, leaves, of_side, start, step_at, tells, told, unless_over}
use Rattle.bsc_port.specs.Standing.{Handles, HasPast, IsReady}
use Rattle.bsc_world.specs.Kept.{IsConnKeptIf, IsLinkKept, IsSideKept, IsSideKeptIf}
use Rattle.bsc_world.specs.Standing.{AreReadyBut, WorldKeptAs}
use Rattle.bsc_world.specs.Becoming.{Became, BecomesBusy, HasSide, Keeps, Stands, ends}
use Rattle.bsc_world.specs.Sides.{IsSideOf, KeepsSides}
use Rattle.bsc_world.specs.Ports.{puts_out}
use Rattle.bsc_world.specs.SideCalls.{Finds, HasNoSession, HasPort, HasSession, PortGoes, port_then}
use Rattle.bsc_network.proofs.Places.{get-changed, get-set_other}
use Rattle.bsc_world.proofs.Spots.{LinkChange, link_changed}
use Rattle.bsc_world.proofs.Goings.{at_clock, became_as, became_both, became_same, busy_more, goes_both, settles}
use Rattle.bsc_world.proofs.LinkWays.{link_there, map-changed}
use Rattle.bsc_world.proofs.OfSides.{no_link_at, of_side_is, of_side_node, of_side_none, side_at, unless_over_gone, unless_over_is}
use Rattle.bsc_world.proofs.LeaveCalls.{OnLink}
use Rattle.bsc_lemmas.proofs.Lists.{get-set as get-set_here}
use Rattle.bsc_network.proofs.Common.{unless_nothing as unless_unchanged}
use Rattle.std.proofs.lemmas.Option.{same_Some as some_same}

-- ---- sessions

of_side_no_hub : (w : World) (l j : ℕ) (link : Link) (change : ℕ → Hub → Link → Change) → link_at w l ≡ Some link → link.to ≡ ToHub j → hub_at w j ≡ None → of_side l change w ≡ w
of_side_no_hub w l j link change there to hub =
    let at_hub = λ (x : Link) (i : ℕ). of_hub i (λ y. change i y x) in
    ap (λ (o : Option Link). with_found o (λ (x : Link). by_target x.to (at_hub x) (λ n. unchanged)) w) there
    ∙ ap (λ (t : Target). by_target t (at_hub link) (λ n. unchanged) w) to
    ∙ ap (λ (o : Option Hub). with_found o (λ (y : Hub). change j y link) w) hub

abbrev NothingDone : World → ℕ → Type 0
NothingDone w l = (change : Change) → unless_over l change w ≡ w

-- a session lasts, or none of its changes changes anything
pub session_or_none : (w : World) (l : ℕ) → HasSession w l ⊎ ((change : Change) → unless_over l change w ≡ w)
session_or_none w l = by (link_at w l) refl
  where
    over : (j : ℕ) (h : Hub) (x : Link) → link_at w l ≡ Some x → x.to ≡ ToHub j → hub_at w j ≡ Some h → (b : Bool) → x.side.is_over ≡ b → HasSession w l ⊎ NothingDone w l
    over j h x at to hub true is = inr (λ change. unless_over_gone w l j h x change at to hub is)
    over j h x at to hub false is = inl (j, h, x, record { there = at; to = to; hub = hub; lasts = is })

    at_hub : (j : ℕ) (x : Link) → link_at w l ≡ Some x → x.to ≡ ToHub j → (o : Option Hub) → hub_at w j ≡ o → HasSession w l ⊎ NothingDone w l
    at_hub j x at to None none = inr (λ change. of_side_no_hub w l j x (λ i y z. cond z.side.is_over unchanged change) at to none)
    at_hub j x at to (Some h) hub = over j h x at to hub x.side.is_over refl

    leads : (x : Link) → link_at w l ≡ Some x → (y : Target) → x.to ≡ y → HasSession w l ⊎ NothingDone w l
    leads x at (ToNode k) to = inr (λ change. of_side_node w l k x (λ i y z. cond z.side.is_over unchanged change) at to)
    leads x at (ToHub j) to = at_hub j x at to (hub_at w j) refl

    by : (o : Option Link) → link_at w l ≡ o → HasSession w l ⊎ NothingDone w l
    by None at = inr (λ change. of_side_none w l (λ i y z. cond z.side.is_over unchanged change) at)
    by (Some x) at = leads x at x.to refl

pub unless_none : (w : World) (l : ℕ) (change : Change) → HasNoSession w l → unless_over l change w ≡ w
unless_none w l change none =
    elim (session_or_none w l) [
      | inl x ↦ absurd (none x.0 x.1 x.2 x.3)
      | inr same ↦ same change
    ]

-- two changes of a session are one, where the first leaves it lasting
pub unless_then : (l : ℕ) (f g : Change) (w : World) → ((j : ℕ) (h : Hub) (x : Link) → IsSideOf w l j h x → HasSession (f w) l) → unless_over l g (unless_over l f w) ≡ unless_over l (λ v. g (f v)) w
unless_then l f g w keeps =
    elim (session_or_none w l) [
      | inl x ↦ (let y = keeps x.0 x.1 x.2 x.3 in
          ap (unless_over l g) (unless_over_is w l x.0 x.1 x.2 f x.3)
          ∙ unless_over_is (f w) l y.0 y.1 y.2 g y.3
          ∙ sym (unless_over_is w l x.0 x.1 x.2 (λ v. g (f v)) x.3))
      | inr same ↦ ap (unless_over l g) (same f) ∙ same g ∙ sym (same (λ v. g (f v)))
    ]

-- a session lasts on where its link is another
pub side_with : (w : World) (l j : ℕ) (h : Hub) (x : Link) (f : Link → Link) → IsSideOf w l j h x → (f x).to ≡ x.to → (f x).side.is_over ≡ x.side.is_over → IsSideOf (with_link l f w) l j h (f x)
side_with w l j h x f p to over = record {
  there = get-changed l f w.links ∙ ap (option_map f) p.there;
  to = to ∙ p.to;
  hub = p.hub;
  lasts = over ∙ p.lasts;
}

pub put_session : (w : World) (l j : ℕ) (h : Hub) (x : Link) (place : ℕ) (content : Content) → IsSideOf w l j h x → HasSession (puts_at l Down place content w) l
put_session w l j h x place content p = (let f = with_traffic Down (and_then (record { content = content; sent_at = place })) in (j, h, f x, side_with w l j h x f p refl refl))

-- there is none where no link is kept
pub past_session : (t : KeptWorld) (l : ℕ) → length t.links.items ≤ l → (F : List LinkName) (b : Option ℕ) (w : World) → WorldKeptAs t F b w → HasNoSession w l
past_session t l past F b w s j h x p = (let bad : None ≡ Some x = sym (no_link_at t F b w l s past) ∙ p.there in cc)

-- nor where no side of a hub is kept
pub alone_session : (t : KeptWorld) (l : ℕ) (kept : KeptLink) → slice_get t.links.items l ≡ Some kept → ((j : ℕ) → kept.to ≡ ToHub j → kept.side ≡ None)
    → (F : List LinkName) (b : Option ℕ) (w : World) → WorldKeptAs t F b w → HasNoSession w l
alone_session t l kept was none F b w s j h x p =
    let y = link_there t F b w l kept s was in
    let same : y.0 ≡ x = some_same y.0 x (sym y.1 ∙ p.there) in
    let to : kept.to ≡ ToHub j = y.2.to ∙ ap (λ (z : Link). z.to) same ∙ p.to in
    let a = s.hubs j h p.hub in
    let over : x.side.is_over ≡ true = subst (IsSideKeptIf l h a.kept.core x) (none j to) (a.sides l x kept p.there p.to was) in
    true≢false (sym over ∙ p.lasts)

pub kept_session : (t : KeptWorld) (l j : ℕ) (kept : KeptLink) (side : KeptSide) → slice_get t.links.items l ≡ Some kept → kept.to ≡ ToHub j → kept.side ≡ Some side
    → (F : List LinkName) (b : Option ℕ) (w : World) → WorldKeptAs t F b w → HasSession w l
kept_session t l j kept side was to is F b w s =
    let x = side_at t F b w l j kept s was to in
    let k : IsSideKept l x.hub x.at.kept.core x.link side = subst (IsSideKeptIf l x.hub x.at.kept.core x.link) is x.side in
    (j, x.hub, x.link, record { there = x.there; to = x.to; hub = x.hub_there; lasts = k.lasts })

-- ---- what is put

pub put_goes_on : (t u : KeptWorld) (l : ℕ) (f : Change) → Finds true t l → Keeps f t u → Keeps (unless_over l f) t u
put_goes_on t u l f finds p b F w at s = (let x = finds F b w s in became_as t u F b w (f w) (unless_over l f w) (sym (unless_over_is w l x.0 x.1 x.2 f x.3)) (p b F w at s))

pub put_nothing : (t : KeptWorld) (l : ℕ) (f : Change) → Finds false t l → Keeps (unless_over l f) t t
put_nothing t l f finds b F w at s = became_as t t F b w w (unless_over l f w) (sym (unless_none w l f (finds F b w s))) (became_same t t F b w refl refl refl refl refl refl s)

then_closes : (t u v : KeptWorld) (l : ℕ) (content : Content) (g : Change) → Keeps (unless_over l (puts_now l Down content)) t u → BecomesBusy (Some l) None (unless_over l g) u v
    → BecomesBusy (Some l) None (unless_over l (λ w. g (puts_now l Down content w))) t v
then_closes t u v l content g p q F w at s =
    became_as t v F None w (unless_over l g (unless_over l (puts_now l Down content) w)) (unless_over l (λ y. g (puts_now l Down content y)) w)
    (unless_then l (puts_now l Down content) g w (λ j h x i. put_session w l j h x w.steps content i))
    (goes_both (Some l) (Some l) None (unless_over l (puts_now l Down content)) (unless_over l g) t u v (p (Some l)) q F w at s)

pub close_goes : (t u v : KeptWorld) (l : ℕ) → Keeps (unless_over l (puts_now l Down Closed)) t u → BecomesBusy (Some l) None (unless_over l (leaves l)) u v
    → BecomesBusy (Some l) None (unless_over l (closes l)) t v
close_goes t u v l p q = then_closes t u v l Closed (leaves l) p q

pub put_close_goes : (t u v : KeptWorld) (l : ℕ) (octets : List ℕ) → Keeps (unless_over l (puts_now l Down (Message octets))) t u → BecomesBusy (Some l) None (unless_over l (closes l)) u v
    → BecomesBusy (Some l) None (unless_over l (in_order (puts_now l Down (Message octets) ∷ closes l ∷ []))) t v
put_close_goes t u v l octets p q = then_closes t u v l (Message octets) (closes l) p q

-- ---- ready sides

-- of a side that is kept as before holds what held
pub kept_side : (P : KeptSide → Type 0) (t u : KeptWorld) (l : ℕ) → HasSide t l P → KeepsSides t u → HasSide u l P
kept_side P t u l held keeps kept side got is = (let b = keeps l kept got in held b.0 side b.1 (sym b.2 ∙ is))

became_settled : (t u : KeptWorld) (F : List LinkName) (l : ℕ) (w v : World) → Became t u F (Some l) w v → HasSide u l IsReady → Became t u F None w v
became_settled t u F l w v p ready = record { clock = p.clock; spent = p.spent; now = p.now; steps = p.steps; links = p.links; delivered = p.delivered; stands = settles u F l v p.stands ready }

pub put_step_goes : (t u : KeptWorld) (l : ℕ) (f : Change) → Keeps (unless_over l f) t u → HasSide u l IsReady → BecomesBusy (Some l) None (unless_over l f) t u
put_step_goes t u l f p ready F w at s = became_settled t u F l w (unless_over l f w) (p (Some l) F w at s) ready

pub idle_goes : (t : KeptWorld) (l : ℕ) → HasSide t l IsReady → BecomesBusy (Some l) None (unless_over l unchanged) t t
idle_goes t l ready F w at s =
    became_settled t t F l w (unless_over l unchanged w)
    (became_as t t F (Some l) w w (unless_over l unchanged w) (sym (unless_unchanged l w)) (became_same t t F (Some l) w refl refl refl refl refl refl s)) ready

-- ---- what a machine is told

abbrev hears : Event → Link → Link
hears e link = record link { side = record link.side { events = link.side.events ++ e ∷ [] } }

conn_told : (l : ℕ) (h : Hub) (core : HubCore) (s : HubSide) (events : List Event) (o : Option ℕ) → IsConnKeptIf l h core s o → IsConnKeptIf l h core (record s { events = events }) o
conn_told l h core s events None k = k
conn_told l h core s events (Some c) k = record {
  conn = k.conn;
  joiner = k.joiner;
  outbox = k.outbox;
  there = k.there;
  taken = k.taken;
  empties = k.empties;
  places = k.places;
}

side_told : (l : ℕ) (h : Hub) (core : HubCore) (link : Link) (e : Event) (old new : KeptLink) (p : PortGoes old new) (i : Start) → AcceptingStands p.was.machine i link.side.events
    → AcceptingStands p.machine i (link.side.events ++ e ∷ [])
    → IsSideKeptIf l h core link old.side → IsSideKeptIf l h core (hears e link) new.side
side_told l h core link e old new p i before after k =
    let was : IsSideKept l h core link p.was = subst (IsSideKeptIf l h core link) p.there k in
    let same : i ≡ start h link = sym before.start ∙ was.machine.start in
    let made : IsSideKept l h core (hears e link) (port_then p) = record {
      lasts = was.lasts;
      machine = subst (λ z. AcceptingStands p.machine z (link.side.events ++ e ∷ [])) same after;
      joined = conn_told l h core link.side (link.side.events ++ e ∷ []) p.was.joined was.joined;
    } in
    let held : IsSideKeptIf l h core (hears e link) (Some (port_then p)) = made in
    subst (λ (y : KeptLink). IsSideKeptIf l h core (hears e link) y.side) (sym p.becomes) held

told_kept : (link : Link) (e : Event) (old new : KeptLink) → PortGoes old new → IsLinkKept link old → IsLinkKept (hears e link) new
told_kept link e old new p k =
    let made : IsLinkKept (hears e link) (record old { side = Some (port_then p) }) = record {
      from = k.from;
      to = k.to;
      lost = k.lost;
      ways = λ z. record { up = (k.ways z).up; down = (k.ways z).down };
    } in
    subst (IsLinkKept (hears e link)) (sym p.becomes) made

others_ready : (t u : KeptWorld) (l : ℕ) (after : KeptLink) → u.links.items ≡ set t.links.items l after → AreReadyBut (Some l) t → AreReadyBut (Some l) u
others_ready t u l after links ready m k side other got is =
    ready m k side other (sym (ap (λ xs. slice_get xs m) links ∙ get-set_other t.links.items l m after (λ e. other (ap Some e))) ∙ got) is

-- The port of a link's side, whose machine stood for what it was told, was told one event more, by what that was.
pub record IsTold (t u : KeptWorld) (F : List LinkName) (w : World) (l j : ℕ) (e : Start → List Event → Event) (m : Accepting) : Type 0 where
  pub h : Hub
  pub link : Link
  pub side : IsSideOf w l j h link
  pub machine : AcceptingStands m (start h link) link.side.events
  pub became : Became t u F (Some l) w (told l (e (start h link) link.side.events) w)

pub is_told : (t u : KeptWorld) (F : List LinkName) (w : World) (l : ℕ) (kept after : KeptLink) (p : PortGoes kept after) (e : Start → List Event → Event)
    → slice_get t.links.items l ≡ Some kept → OnLink t u l after → u.hubs.items ≡ t.hubs.items
    → ((h : Hub) (link : Link) → hub_at w p.hub ≡ Some h → AcceptingStands p.was.machine (start h link) link.side.events
    → AcceptingStands p.machine (start h link) (link.side.events ++ e (start h link) link.side.events ∷ []))
    → WorldKeptAs t F (Some l) w → IsTold t u F w l p.hub e p.was.machine
is_told t u F w l kept after p e was o hubs goes st =
    let x = side_at t F (Some l) w l p.hub kept st was p.to in
    let k : IsSideKept l x.hub x.at.kept.core x.link p.was = subst (IsSideKeptIf l x.hub x.at.kept.core x.link) p.there x.side in
    let i = start x.hub x.link in
    let it = e i x.link.side.events in
    let stands = goes x.hub x.link x.hub_there k.machine in
    let f = hears it in
    let change : LinkChange t u w l f x.link kept after = record {
      here = x.there;
      was = was;
      made = o.made;
      hubs = hubs;
      nodes = o.nodes;
      links = o.links;
      to = refl;
      link_kept = told_kept x.link it kept after p x.link_kept;
      side = λ j h core to q. side_told l h core x.link it kept after p i k.machine stands q;
      owner = λ c q r. (q, r);
    } in
    record {
      h = x.hub;
      link = x.link;
      side = record { there = x.there; to = x.to; hub = x.hub_there; lasts = k.lasts };
      machine = k.machine;
      became = record {
        clock = o.clock;
        spent = o.spent;
        now = refl;
        steps = refl;
        links = map-changed ends f (λ y. refl) l w.links;
        delivered = refl;
        stands = link_changed t u F (Some l) (Some l) w l f x.link kept after change st (others_ready t u l after o.links st.ready);
      };
    }

pub told_side : (P : KeptSide → Type 0) (t : KeptWorld) (l : ℕ) (kept after : KeptLink) (p : PortGoes kept after) → slice_get t.links.items l ≡ Some kept → P (port_then p)
    → (k : KeptLink) (side : KeptSide) → slice_get (set t.links.items l after) l ≡ Some k → k.side ≡ Some side → P side
told_side P t l kept after p was holds k side got is =
    let new : KeptSide = port_then p in
    let k_is : k ≡ after = some_same k after (sym got ∙ get-set_here t.links.items l kept after was) in
    let side_is : side ≡ new = some_same side new (sym is ∙ ap (λ (y : KeptLink). y.side) (k_is ∙ p.becomes)) in
    subst P (sym side_is) holds

-- a port of a side that is kept stands for something
pub port_some : (t : KeptWorld) (l : ℕ) (kept : KeptLink) → slice_get t.links.items l ≡ Some kept → Stands (Some l) t → HasPort (λ p. HasPast p) kept
port_some t l kept was (F, w, at, st) j side to is =
    let x = side_at t F (Some l) w l j kept st was to in
    let k : IsSideKept l x.hub x.at.kept.core x.link side = subst (IsSideKeptIf l x.hub x.at.kept.core x.link) is x.side in
    (start x.hub x.link, x.link.side.events, k.machine)

-- what is known of a port at an event
handled_so : (w : World) (kept after : KeptLink) (p : PortGoes kept after) (o : Output) (e : PortEvent) → Handles p.was.machine p.machine e o → (h : Hub) (link : Link) → hub_at w p.hub ≡ Some h
    → AcceptingStands p.was.machine (start h link) link.side.events → AcceptingStands p.machine (start h link) (link.side.events ++ machine_event e ∷ [])
handled_so w kept after p o e does h link at st = (does (start h link) link.side.events st).1

pub told_stands : (t u : KeptWorld) (l : ℕ) (kept after : KeptLink) (p : PortGoes kept after) (o : Output) (e : PortEvent) → slice_get t.links.items l ≡ Some kept → OnLink t u l after
    → u.hubs.items ≡ t.hubs.items → Handles p.was.machine p.machine e o → Stands (Some l) t → Stands (Some l) u
told_stands t u l kept after p o e was on hubs does (F, w, at, st) =
    let i = is_told t u F w l kept after p (λ s E. machine_event e) was on hubs (handled_so w kept after p o e does) st in
    let v = told l (machine_event e) w in
    (F, v, at_clock t u F (Some l) w v at i.became, i.became.stands)

-- what a step does with the link is what the definition does
pub out_is : (l : ℕ) (s : Step) → puts_out l (output_of s) ≡ carries_out l s
out_is l (Ask who) = refl
out_is l (Put octets) = refl
out_is l (PutClose octets c) = refl
out_is l Up = refl
out_is l (Close c) = refl
out_is l Nothing = refl

-- What the port does is carried out.
pub tells_goes : (t u v : KeptWorld) (l : ℕ) (kept after : KeptLink) (p : PortGoes kept after) (o : Output) (e : PortEvent) → slice_get t.links.items l ≡ Some kept → OnLink t u l after
    → u.hubs.items ≡ t.hubs.items → Handles p.was.machine p.machine e o
    → BecomesBusy (Some l) None (unless_over l (puts_out l o)) u v → BecomesBusy (Some l) None (unless_over l (tells l (machine_event e))) t v
tells_goes t u v l kept after p o e was on hubs does q F w at st =
    let it = machine_event e in
    let i = is_told t u F w l kept after p (λ s E. it) was on hubs (handled_so w kept after p o e does) st in
    let next : IsSideOf (told l it w) l p.hub i.h (hears it i.link) = side_with w l p.hub i.h i.link (hears it) i.side refl refl in
    let out : o ≡ output_of (step_at i.h i.link it) = (does (start i.h i.link) i.link.side.events i.machine).0 in
    became_as t v F None w (unless_over l (puts_out l o) (told l it w)) (unless_over l (tells l it) w)
    (unless_over_is (told l it w) l p.hub i.h (hears it i.link) (puts_out l o) next
    ∙ ap (λ (y : Output). puts_out l y (told l it w)) out
    ∙ ap (λ (f : Change). f (told l it w)) (out_is l (step_at i.h i.link it))
    ∙ sym (of_side_is w l p.hub i.h i.link (λ j h x. in_order (told l it ∷ carries_out l (step_at h x it) ∷ [])) i.side.there i.side.to i.side.hub)
    ∙ sym (unless_over_is w l p.hub i.h i.link (tells l it) i.side))
    (became_both t u v F (Some l) None w (told l it w) (unless_over l (puts_out l o) (told l it w)) i.became (q F (told l it w) (at_clock t u F (Some l) w (told l it w) at i.became) i.became.stands))

-- ---- nobody hears

set-same : {A : Type 0} (xs : List A) (i : ℕ) (x : A) → slice_get xs i ≡ Some x → set xs i x ≡ xs
set-same [] i x h = cc
set-same (y ∷ xs) zero x h = ap (λ z. z ∷ xs) (sym (some_same y x h))
set-same (y ∷ xs) (suc i) x h = ap (λ ys. y ∷ ys) (set-same xs i x h)

pub same_after : (t u : KeptWorld) (l : ℕ) (kept after : KeptLink) → slice_get t.links.items l ≡ Some kept → OnLink t u l after → u.hubs.items ≡ t.hubs.items → after ≡ kept
    → (F : List LinkName) (b : Option ℕ) (w : World) → WorldKeptAs t F b w → Became t u F b w w
same_after t u l kept after was o hubs same F b w s = became_same t u F b w o.clock o.spent o.made hubs o.nodes (o.links ∙ ap (set t.links.items l) same ∙ set-same t.links.items l kept was) s

pub same_stands : (t u : KeptWorld) (l : ℕ) (kept after : KeptLink) → slice_get t.links.items l ≡ Some kept → OnLink t u l after → u.hubs.items ≡ t.hubs.items → after ≡ kept → (b : Option ℕ)
    → Stands b t → Stands b u
same_stands t u l kept after was o hubs same b (F, w, at, s) = (let p = same_after t u l kept after was o hubs same F b w s in (F, w, at ∙ sym o.clock, p.stands))

-- the session isn't there, and is let go
pub left_goes : (t u : KeptWorld) (l : ℕ) (change : Change) → ((F : List LinkName) (b : Option ℕ) (w : World) → WorldKeptAs t F b w → HasNoSession w l)
    → BecomesBusy (Some l) None (unless_over l (leaves l)) t u → BecomesBusy (Some l) None (unless_over l change) t u
left_goes t u l change none p F w at s =
    let n = none F (Some l) w s in
    became_as t u F None w (unless_over l (leaves l) w) (unless_over l change w) (unless_none w l (leaves l) n ∙ sym (unless_none w l change n)) (p F w at s)

pub same_left_goes : (t u v : KeptWorld) (l : ℕ) (change : Change) (kept after : KeptLink) → slice_get t.links.items l ≡ Some kept → OnLink t u l after → u.hubs.items ≡ t.hubs.items
    → after ≡ kept → ((j : ℕ) → kept.to ≡ ToHub j → kept.side ≡ None)
    → BecomesBusy (Some l) None (unless_over l (leaves l)) u v → BecomesBusy (Some l) None (unless_over l change) t v
same_left_goes t u v l change kept after was o hubs same none p F w at s =
    let n = alone_session t l kept was none F (Some l) w s in
    let first = same_after t u l kept after was o hubs same F (Some l) w s in
    became_as t v F None w (unless_over l (leaves l) w) (unless_over l change w) (unless_none w l (leaves l) n ∙ sym (unless_none w l change n))
    (became_both t u v F (Some l) None w w (unless_over l (leaves l) w) first (p F w (at ∙ sym o.clock) first.stands))

-- ---- the end of a connection

pub busy_stands : (t : KeptWorld) (l : ℕ) → Stands None t → Stands (Some l) t
busy_stands t l (F, w, at, s) = (F, w, at, busy_more t F l w s)

pub ended_goes : (t v : KeptWorld) (l : ℕ) (ending : End) → BecomesBusy (Some l) None (unless_over l (tells l (Ended t.clock ending))) t v → (F : List LinkName) (w : World) → w.now ≡ t.clock
    → WorldKeptAs t F None w → Became t v F None w (unless_over l (tells l (Ended w.now ending)) w)
ended_goes t v l ending p F w at s = subst (λ (n : ℕ). Became t v F None w (unless_over l (tells l (Ended n ending)) w)) (sym at) (p F w at (busy_more t F l w s))
