-- Where a link leads to a hub, what its side does is what it does with that hub and that link.
-- It serves clauses of functions of `laws`.
use Rattle.std.proofs.Common.{◌≡◌, ℕ, false, [], ◌∷◌, ◌++◌, Option, Some, None, refl, ap, sym, subst, ◌∙◌}
use Rattle.std.specs.Option.{option_map}
use Rattle.bsc_history.specs.declared.call.Call.{Call}
use Rattle.bsc_network.specs.declared.target.Target.{Target}
use Rattle.bsc_network.specs.declared.target.Target.TheVariants.{Hub as ToHub, Node as ToNode}
use Rattle.bsc_network.specs.declared.way.Way.TheVariants.{Down}
use Rattle.bsc_network.specs.declared.parcel.Content.{Content}
use Rattle.bsc_network.specs.Traffic.{and_then}
use Rattle.bsc_network.specs.Worlds.{World, Hub, HubSide, Link, hub_at, link_at}
use Rattle.bsc_network.specs.Changes.{Change, unchanged, with_found, of_hub, by_target, with_link, with_side, with_traffic, puts_at}
use Rattle.bsc_network.specs.HubCalls.{called, entry_in}
use Rattle.bsc_network.specs.HubSides.{of_side}
use Rattle.bsc_network.proofs.Places.{get-changed}
use Rattle.bsc_network_laws.proofs.Moves.{HasSide, IsSide}

abbrev pub HubChange : Type 0
HubChange = ℕ → Hub → Link → Change

abbrev at_target : HubChange → Link → Target → Change
at_target change k t = by_target t (λ j. of_hub j (λ h. change j h k)) (λ n. unchanged)

-- the side, and whether its session is over
pub side_of : (w : World) (l j : ℕ) (h : Hub) (k : Link) → IsSide w l j h k → HasSide w l j h k
side_of w l j h k side = record { hub = side.hub; link = side.link; leads = side.leads }

pub going_on : (w : World) (l j : ℕ) (h : Hub) (k : Link) → HasSide w l j h k → k.side.is_over ≡ false → IsSide w l j h k
going_on w l j h k side going = record { hub = side.hub; link = side.link; leads = side.leads; going = going }

-- the change that is made
pub of_side-found : (w : World) (l j : ℕ) (h : Hub) (k : Link) (change : HubChange) → HasSide w l j h k → change j h k w ≡ of_side l change w
of_side-found w l j h k change side =
    ap (λ o. with_found o (λ g. change j g k) w) (sym side.hub)
    ∙ ap (λ t. at_target change k t w) (sym side.leads)
    ∙ ap (λ o. with_found o (λ link. at_target change link link.to) w) (sym side.link)

-- What holds of the change at the hub and the link holds of what the side does.
pub lets-at : (R : World → World → Type 0) (u w : World) (l j : ℕ) (h : Hub) (k : Link) (change : HubChange) → IsSide w l j h k → R u (change j h k w) → R u (of_side l change w)
lets-at R u w l j h k change side holds = subst (R u) (of_side-found w l j h k change (side_of w l j h k side)) holds

by_hub : (R : World → World → Type 0) (w : World) (l j : ℕ) (k : Link) (change : HubChange) (o : Option Hub) → link_at w l ≡ Some k → k.to ≡ ToHub j → hub_at w j ≡ o → R w w
    → ((h : Hub) → HasSide w l j h k → R w (change j h k w)) → R w (with_found o (λ h. change j h k) w)
by_hub R w l j k change None at_link leads at_hub none f = none
by_hub R w l j k change (Some h) at_link leads at_hub none f = f h (record { hub = at_hub; link = at_link; leads = leads })

by_link : (R : World → World → Type 0) (w : World) (l : ℕ) (k : Link) (change : HubChange) (t : Target) → link_at w l ≡ Some k → k.to ≡ t → R w w
    → ((j : ℕ) (h : Hub) → HasSide w l j h k → R w (change j h k w)) → R w (at_target change k t w)
by_link R w l k change (ToHub j) at_link leads none f = by_hub R w l j k change (hub_at w j) at_link leads refl none (f j)
by_link R w l k change (ToNode n) at_link leads none f = none

by_number : (R : World → World → Type 0) (w : World) (l : ℕ) (change : HubChange) (o : Option Link) → link_at w l ≡ o → R w w
    → ((j : ℕ) (h : Hub) (k : Link) → HasSide w l j h k → R w (change j h k w)) → R w (with_found o (λ link. at_target change link link.to) w)
by_number R w l change None at_link none f = none
by_number R w l change (Some k) at_link none f = by_link R w l k change k.to at_link refl none (λ j h side. f j h k side)

-- What holds where nothing changes, and of the change wherever the side is there, holds of what the side does.
pub lets-of_side : (R : World → World → Type 0) (w : World) (l : ℕ) (change : HubChange) → R w w → ((j : ℕ) (h : Hub) (k : Link) → HasSide w l j h k → R w (change j h k w)) → R w (of_side l change w)
lets-of_side R w l change none f = by_number R w l change (link_at w l) refl none f

-- ---- the side is there still

pub side-link : (w : World) (l j : ℕ) (h : Hub) (k : Link) (f : Link → Link) → (f k).to ≡ k.to → (f k).side.is_over ≡ k.side.is_over → IsSide w l j h k → IsSide (with_link l f w) l j h (f k)
side-link w l j h k f keeps goes side = record { hub = side.hub; link = get-changed l f w.links ∙ ap (option_map f) side.link; leads = keeps ∙ side.leads; going = goes ∙ side.going }

pub side-side : (w : World) (l j : ℕ) (h : Hub) (k : Link) (f : HubSide → HubSide) → (f k.side).is_over ≡ k.side.is_over → IsSide w l j h k
    → IsSide (with_side l f w) l j h (record k { side = f k.side })
side-side w l j h k f goes side = side-link w l j h k (λ link. record link { side = f link.side }) refl goes side

pub side-puts : (w : World) (l j place : ℕ) (h : Hub) (k : Link) (content : Content) → IsSide w l j h k
    → IsSide (puts_at l Down place content w) l j h (with_traffic Down (and_then (record { content = content; sent_at = place })) k)
side-puts w l j place h k content side = side-link w l j h k (with_traffic Down (and_then (record { content = content; sent_at = place }))) refl refl side

-- a hub on which a call was made
abbrev pub with_call : World → ℕ → ℕ → Call → Hub → Hub
with_call w caller place call h = record h { posted = h.posted ++ record { entry = entry_in w h caller call; sent_at = place } ∷ [] }

pub side-called : (w : World) (l j place : ℕ) (h : Hub) (k : Link) (call : Call) → IsSide w l j h k → IsSide (called j l place call w) l j (with_call w l place call h) k
side-called w l j place h k call side = record {
  hub = get-changed j (with_call w l place call) w.hubs ∙ ap (option_map (with_call w l place call)) side.hub;
  link = side.link;
  leads = side.leads;
  going = side.going;
}
