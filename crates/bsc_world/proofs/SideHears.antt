-- What a message that comes to a hub's side leaves of a world.
-- It serves clauses of functions of `laws` and `world`.
use Rattle.std.proofs.Common.{◌≡◌, ℕ, List, [], ◌∷◌, ◌++◌, set, slice_get, Option, Some, None, IfSome, refl, ap, sym, ◌∙◌, subst}
use Rattle.bsc_history.specs.declared.limits.About.{About}
use Rattle.bsc_checks.specs.declared.verdict.Verdict.{Verdict}
use Rattle.bsc_checks.specs.declared.verdict.Verdict.TheVariants.{Pass, Carry, Silent, Nak}
use Rattle.bsc_accept.specs.declared.event.Event.TheVariants.{Message as Came}
use Rattle.bsc_accept.specs.declared.step.Step.{Step}
use Rattle.bsc_accept.specs.declared.step.Step.TheVariants.{Ask, Put, PutClose, Up, Close, Nothing}
use Rattle.bsc_port.specs.declared.action.PortAction.{PortAction}
use Rattle.bsc_port.specs.Actions.{action, action_by, heard}
use Rattle.bsc_port.specs.Standing.{Hears, IsReady, LeavesBy}
use Rattle.bsc_node.specs.declared.link_name.LinkName.{LinkName}
use Rattle.bsc_network.specs.declared.target.Target.TheVariants.{Hub as ToHub}
use Rattle.bsc_world.specs.declared.kept_hub.KeptHub.{KeptHub}
use Rattle.bsc_world.specs.declared.kept_link.KeptLink.{KeptLink}
use Rattle.bsc_world.specs.KeptSides.{KeptSide}
use Rattle.bsc_world.specs.declared.world.World.{World as KeptWorld}
use Rattle.bsc_network.specs.Worlds.{World, Hub, Link, hub_at}
use Rattle.bsc_network.specs.Changes.{Change, in_order}
use Rattle.bsc_network.specs.HubSides.{acts_on, hears as hears_at, receives, start, step_at, told, unless_over, verdict_on}
use Rattle.bsc_world.specs.Standing.{WorldKeptAs}
use Rattle.bsc_world.specs.Becoming.{Became, Becomes, BecomesBusy, HasSide, Stands}
use Rattle.bsc_world.specs.HubEntries.{LeadsNowhere}
use Rattle.bsc_world.specs.Sides.{Heard, IsSideOf}
use Rattle.bsc_world.specs.Ports.{acts}
use Rattle.bsc_world.specs.SideCalls.{HasPort, PortGoes, PortHears}
use Rattle.bsc_world.proofs.Goings.{at_clock, became_as, became_both, became_same, busy_more, settles}
use Rattle.bsc_world.proofs.OfSides.{of_side_is, unless_over_is}
use Rattle.bsc_world.proofs.LeaveCalls.{OnLink}
use Rattle.bsc_world.proofs.SideCalls.{alone_session, is_told, same_after, side_with, told_side, unless_none}
use Rattle.std.proofs.lemmas.Option.{same_Some as some_same}

-- what is known of a message that came to a side
abbrev pub Listens : KeptWorld → KeptWorld → ℕ → List ℕ → Option PortAction → Type 0
Listens t u l m o = (F : List LinkName) (w : World) → w.now ≡ t.clock → WorldKeptAs t F None w → Heard o l m t u F w

-- ---- where it is judged

-- What a hub takes at most is what its definition says.
most_at : (t : KeptWorld) (F : List LinkName) (w : World) (j : ℕ) (hub : KeptHub) → slice_get t.hubs.items j ≡ Some hub → WorldKeptAs t F None w → (h : Hub) → hub_at w j ≡ Some h
    → hub.about.hub.max_bvlc ≡ h.about.hub.max_bvlc
most_at t F w j hub there s h at =
    let a = s.hubs j h at in
    let same : hub ≡ a.kept = some_same hub a.kept (sym there ∙ a.there) in
    ap (λ (y : KeptHub). y.about.hub.max_bvlc) same ∙ ap (λ (x : About). x.hub.max_bvlc) a.hub.own

-- ---- what is heard

hub_same : (a b : ℕ) → ToHub a ≡ ToHub b → a ≡ b
hub_same a b e = cc

heard_some : (t u : KeptWorld) (F : List LinkName) (w : World) (l : ℕ) (kept after : KeptLink) (p : PortGoes kept after) (a : PortAction) (m : List ℕ) (max : ℕ)
    → slice_get t.links.items l ≡ Some kept → OnLink t u l after → u.hubs.items ≡ t.hubs.items
    → Hears p.was.machine p.machine None None t.clock max m a → w.now ≡ t.clock → WorldKeptAs t F None w → ((h : Hub) → hub_at w p.hub ≡ Some h → max ≡ h.about.hub.max_bvlc)
    → Heard (Some a) l m t u F w
heard_some t u F w l kept after p a m max was o hubs hears at st most =
    let i = is_told t u F w l kept after p (λ s E. heard s E t.clock m) was o hubs (λ h link there stands. (hears (start h link) link.side.events stands (most h there)).1) (busy_more t F l w st) in
    let does = hears (start i.h i.link) i.link.side.events i.machine (most i.h i.side.hub) in (
      p.hub,
      i.h,
      i.link,
      i.side,
      subst (λ n. a ≡ action None None (start i.h i.link) i.link.side.events n m) (sym at) does.0,
      subst (λ n. Became t u F (Some l) w (told l (heard (start i.h i.link) i.link.side.events n m) w)) (sym at) i.became,
    )

pub listened : (t u : KeptWorld) (l j : ℕ) (kept after : KeptLink) (hub : KeptHub) (o : Option PortAction) (m : List ℕ) → slice_get t.links.items l ≡ Some kept → kept.to ≡ ToHub j
    → slice_get t.hubs.items j ≡ Some hub → OnLink t u l after → u.hubs.items ≡ t.hubs.items
    → PortHears o t.clock hub.about.hub.max_bvlc m kept after → Listens t u l m o
listened t u l j kept after hub None m was to there on hubs y F w at st = (alone_session t l kept was y.0 F None w st, same_after t u l kept after was on hubs y.1 F None w st)
listened t u l j kept after hub (Some a) m was to there on hubs y F w at st =
    let q = most_at t F w j hub there st in
    let same : j ≡ y.0.hub = hub_same j y.0.hub (sym to ∙ y.0.to) in
    heard_some t u F w l kept after y.0 a m hub.about.hub.max_bvlc was on hubs y.1 at st (λ h is. q h (ap (hub_at w) same ∙ is))

pub heard_left : (t : KeptWorld) (l : ℕ) (kept after : KeptLink) (o : Option PortAction) (now max : ℕ) (m : List ℕ) → slice_get t.links.items l ≡ Some kept → PortHears o now max m kept after
    → IfSome o (λ a. (k : KeptLink) (side : KeptSide) → slice_get (set t.links.items l after) l ≡ Some k → k.side ≡ Some side → LeavesBy a side)
heard_left t l kept after None now max m was y = tt
heard_left t l kept after (Some a) now max m was y = told_side (λ side. LeavesBy a side) t l kept after y.0 was y.3

pub heard_nowhere : (t : KeptWorld) (l : ℕ) (m : List ℕ) → LeadsNowhere t l → Listens t t l m None
heard_nowhere t l m none F w at st = (none F None w st, became_same t t F None w refl refl refl refl refl refl st)

-- the port of a side hears messages
pub ready_port : (t : KeptWorld) (l : ℕ) (kept : KeptLink) → slice_get t.links.items l ≡ Some kept → Stands None t → HasPort (λ p. IsReady p) kept
ready_port t l kept was (F, w, at, st) j side to is = st.ready l kept side (λ q. cc) was is

-- ---- what is done about it

pub settled_goes : (t u : KeptWorld) (l : ℕ) (f : Change) → HasSide t l (λ side. IsReady side) → Becomes f t u → BecomesBusy (Some l) None f t u
settled_goes t u l f ready p F w at s = p F w at (settles t F l w s ready)

pub settled_stands : (t : KeptWorld) (l : ℕ) → HasSide t l (λ side. IsReady side) → Stands (Some l) t → Stands None t
settled_stands t l ready (F, w, at, s) = (F, w, at, settles t F l w s ready)

-- What a port does at a message, by its verdict and its machine's step, is what the definition does.
pub acts_so : (l place : ℕ) (m : List ℕ) (v : Verdict) (st : Step) → acts l place m (action_by None None m v st) ≡ acts_on l place m st
acts_so l place m v (Ask who) = refl
acts_so l place m v Up = refl
acts_so l place m v (Put octets) = refl
acts_so l place m v (PutClose octets c) = refl
acts_so l place m v (Close c) = refl
acts_so l place m (Pass msg) Nothing = refl
acts_so l place m (Carry e) Nothing = refl
acts_so l place m (Silent check) Nothing = refl
acts_so l place m (Nak check octets) Nothing = refl

pub heard_stands : (t u : KeptWorld) (l : ℕ) (m : List ℕ) (a : PortAction) → Listens t u l m (Some a) → Stands None t → Stands (Some l) u
heard_stands t u l m a hears (F, w, at, st) =
    let x = hears F w at st in
    let v = told l (heard (start x.1 x.2) x.2.side.events w.now m) w in
    (F, v, at_clock t u F (Some l) w v at x.5, x.5.stands)

pub receives_goes : (t u v : KeptWorld) (l place : ℕ) (m : List ℕ) (a : PortAction) → Listens t u l m (Some a) → BecomesBusy (Some l) None (unless_over l (acts l place m a)) u v
    → Becomes (unless_over l (receives l place m)) t v
receives_goes t u v l place m a hears q F w at st =
    let x = hears F w at st in
    let e = Came w.now (verdict_on x.1 x.2 m) in
    let f = λ (y : Link). record y { side = record y.side { events = y.side.events ++ e ∷ [] } } in
    let next : IsSideOf (told l e w) l x.0 x.1 (f x.2) = side_with w l x.0 x.1 x.2 f x.3 refl refl in
    became_as t v F None w (unless_over l (acts l place m a) (told l e w)) (unless_over l (receives l place m) w)
    (unless_over_is (told l e w) l x.0 x.1 (f x.2) (acts l place m a) next
    ∙ ap (λ (y : PortAction). acts l place m y (told l e w)) x.4
    ∙ ap (λ (g : Change). g (told l e w)) (acts_so l place m (verdict_on x.1 x.2 m) (step_at x.1 x.2 e))
    ∙ sym (of_side_is w l x.0 x.1 x.2 (λ j h y. in_order (told l e ∷ acts_on l place m (step_at h y e) ∷ [])) x.3.there x.3.to x.3.hub)
    ∙ sym (of_side_is w l x.0 x.1 x.2 (λ j h y z. hears_at l place m (Came z.now (verdict_on h y m)) z) x.3.there x.3.to x.3.hub)
    ∙ sym (unless_over_is w l x.0 x.1 x.2 (receives l place m) x.3))
    (became_both t u v F (Some l) None w (told l e w) (unless_over l (acts l place m a) (told l e w)) x.5 (q F (told l e w) (at_clock t u F (Some l) w (told l e w) at x.5) x.5.stands))

pub receives_nothing : (t u : KeptWorld) (l place : ℕ) (m : List ℕ) → Listens t u l m None → Becomes (unless_over l (receives l place m)) t u
receives_nothing t u l place m hears F w at st = (let x = hears F w at st in became_as t u F None w w (unless_over l (receives l place m) w) (sym (unless_none w l (receives l place m) x.0)) x.1)
