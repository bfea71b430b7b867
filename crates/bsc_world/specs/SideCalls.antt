-- What the sessions at a hub's sides hear and do, as a world keeps them: words of inner functions.
use Rattle.std.specs.Prelude.{◌≡◌, ℕ, Bool, true, false, List, Option, Some, None}
use Rattle.bsc_accept.specs.declared.accepting.Accepting.{Accepting}
use Rattle.bsc_port.specs.declared.action.PortAction.{PortAction}
use Rattle.bsc_port.specs.declared.event.PortEvent.{PortEvent}
use Rattle.bsc_port.specs.declared.output.Output.{Output}
use Rattle.bsc_port.specs.Standing.{Fits, Handles, Hears, LeavesBy, LeavesPort}
use Rattle.bsc_node.specs.declared.link_name.LinkName.{LinkName}
use Rattle.bsc_network.specs.declared.target.Target.TheVariants.{Hub as ToHub}
use Rattle.bsc_world.specs.declared.kept_link.KeptLink.{KeptLink}
use Rattle.bsc_world.specs.KeptSides.{KeptSide}
use Rattle.bsc_world.specs.declared.world.World.{World as KeptWorld}
use Rattle.bsc_network.specs.Worlds.{World, Hub, Link}
use Rattle.bsc_world.specs.Standing.{WorldKeptAs}
use Rattle.bsc_world.specs.Sides.{IsSideOf}

-- ---- sessions

-- Link l leads to a hub, and its session lasts.
abbrev pub HasSession : World → ℕ → Type 0
HasSession w l = (j : ℕ) × (h : Hub) × (link : Link) × IsSideOf w l j h link

-- It doesn't lead to a hub, or its session is over.
abbrev pub HasNoSession : World → ℕ → Type 0
HasNoSession w l = (j : ℕ) (h : Hub) (link : Link) → IsSideOf w l j h link → ⊥

-- Whether the session of link l lasts, for whatever network the world is kept at.
abbrev pub Finds : Bool → KeptWorld → ℕ → Type 0
Finds true t l = (F : List LinkName) (b : Option ℕ) (w : World) → WorldKeptAs t F b w → HasSession w l
Finds false t l = (F : List LinkName) (b : Option ℕ) (w : World) → WorldKeptAs t F b w → HasNoSession w l

-- ---- ports

-- Of the port of a link's side, where it leads to a hub and there is one, this holds.
abbrev pub HasPort : (KeptSide → Type 0) → KeptLink → Type 0
HasPort P kept = (j : ℕ) (side : KeptSide) → kept.to ≡ ToHub j → kept.side ≡ Some side → P side

-- The port of a link's side was told something: its machine is another, and all else of the link is as it was.
pub record PortGoes (old new : KeptLink) : Type 0 where
  pub hub : ℕ
  pub to : old.to ≡ ToHub hub
  pub was : KeptSide
  pub there : old.side ≡ Some was
  pub machine : Accepting
  pub becomes : new ≡ record old { side = Some (record was { machine = machine }) }

abbrev pub port_then : {old new : KeptLink} → PortGoes old new → KeptSide
port_then p = record p.was { machine = p.machine }

-- There is no such port.
abbrev pub HasNoPort : KeptLink → Type 0
HasNoPort kept = (j : ℕ) → kept.to ≡ ToHub j → kept.side ≡ None

-- What the port does at an event, where there is one.
abbrev pub PortHandles : Option Output → PortEvent → KeptLink → KeptLink → Type 0
PortHandles None e old new = HasNoPort old × (new ≡ old)
PortHandles (Some o) e old new = (p : PortGoes old new) × Handles p.was.machine p.machine e o × LeavesPort o (port_then p)

-- What it does at a message.
abbrev pub PortHears : Option PortAction → ℕ → ℕ → List ℕ → KeptLink → KeptLink → Type 0
PortHears None now max m old new = HasNoPort old × (new ≡ old)
PortHears (Some a) now max m old new =
    (p : PortGoes old new) × Hears p.was.machine p.machine None None now max m a × Fits None m a × LeavesBy a (port_then p)
