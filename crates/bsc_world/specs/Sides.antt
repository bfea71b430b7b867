-- What the calls of a hub and the steps of its sides say: words of inner functions.
use Rattle.std.specs.Prelude.{◌≡◌, ℕ, true, false, List, slice_get, Option, Some, None}
use Rattle.bsc_octets.specs.declared.identity.Identity.{Identity}
use Rattle.bsc_history.specs.declared.call.Call.TheVariants.{Connect, Forward}
use Rattle.bsc_history.specs.declared.reply.Reply.TheVariants.{Joined as JoinedReply, Refused as RefusedReply}
use Rattle.bsc_hub_core.specs.declared.forwarded.Forwarded.{Forwarded}
use Rattle.bsc_hub_core.specs.declared.forwarded.Forwarded.TheVariants.{Worn as ForwardWorn, One, All}
use Rattle.bsc_port.specs.declared.action.PortAction.{PortAction}
use Rattle.bsc_port.specs.Actions.{action, heard}
use Rattle.bsc_node.specs.declared.link_name.LinkName.{LinkName}
use Rattle.bsc_network.specs.declared.target.Target.TheVariants.{Hub as ToHub}
use Rattle.bsc_world.specs.declared.asked.Asked.{Asked}
use Rattle.bsc_world.specs.declared.asked.Asked.TheVariants.{Worn as AskedWorn, Joined as AskedJoined, Refused as AskedRefused}
use Rattle.bsc_world.specs.declared.passed.Passed.{Passed}
use Rattle.bsc_world.specs.declared.passed.Passed.TheVariants.{Alone, Worn as PassedWorn, Made}
use Rattle.bsc_world.specs.declared.kept_link.KeptLink.{KeptLink}
use Rattle.bsc_world.specs.KeptSides.{KeptSide}
use Rattle.bsc_world.specs.declared.world.World.{World as KeptWorld}
use Rattle.bsc_network.specs.Worlds.{World, Hub, Link, hub_at, link_at}
use Rattle.bsc_network.specs.Changes.{with_side}
use Rattle.bsc_network.specs.HubCalls.{called, is_worn, reply_in}
use Rattle.bsc_network.specs.HubSides.{start, told}
use Rattle.bsc_world.specs.Becoming.{Became}

-- Link l leads to hub j, and its session lasts.
pub record IsSideOf (w : World) (l j : ℕ) (h : Hub) (link : Link) : Type 0 where
  pub there : link_at w l ≡ Some link
  pub to : link.to ≡ ToHub j
  pub hub : hub_at w j ≡ Some h
  pub lasts : link.side.is_over ≡ false

-- ---- calls

-- A call of a hub that the side of a link makes, and the network in which it is made.
pub record CallAt : Type 0 where
  -- the dials that failed whose node wasn't told yet
  pub failed : List LinkName
  -- the network before the call
  pub world : World
  -- the number of the hub
  pub number : ℕ
  -- the hub
  pub hub : Hub
  -- the number of the link
  pub link : ℕ
  -- the place at which its entry is to stand
  pub place : ℕ

abbrev pub call_at : List LinkName → World → ℕ → Hub → ℕ → ℕ → CallAt
call_at failed world number hub link place = record { failed = failed; world = world; number = number; hub = hub; link = link; place = place }

-- What a connect comes to: it was worn and nothing changed, or its entry was made, and where who asked joined its side has
-- the connection.
abbrev pub WasAsked : Asked → KeptWorld → KeptWorld → CallAt → Identity → Type 0
WasAsked AskedWorn old new x who = (is_worn x.hub ≡ true) × (new ≡ old)
WasAsked AskedJoined old new x who =
    (is_worn x.hub ≡ false) × ((conn : ℕ) × (replaced : Option ℕ) × (reply_in x.world x.hub (Connect who) ≡ JoinedReply conn replaced)
    × Became old new x.failed (Some x.link) x.world
    (with_side x.link (λ s. record s { conn = Some conn }) (called x.number x.link x.place (Connect who) x.world)))
WasAsked (AskedRefused refusal) old new x who =
    (is_worn x.hub ≡ false) × (reply_in x.world x.hub (Connect who) ≡ RefusedReply refusal)
    × Became old new x.failed (Some x.link) x.world (called x.number x.link x.place (Connect who) x.world)

-- What a forward comes to: the side hasn't joined, or it was worn, and nothing changed; or its entry was made.
abbrev pub WasPassed : Passed → KeptWorld → KeptWorld → CallAt → Link → List ℕ → Type 0
WasPassed Alone old new x link m = (link.side.conn ≡ None) × (new ≡ old)
WasPassed PassedWorn old new x link m = ((c : ℕ) × (link.side.conn ≡ Some c)) × (is_worn x.hub ≡ true) × (new ≡ old)
WasPassed Made old new x link m =
    (c : ℕ) × (link.side.conn ≡ Some c) × (is_worn x.hub ≡ false)
    × Became old new x.failed None x.world (called x.number x.link x.place (Forward c m) x.world)

-- what a forward comes to, by what the hub answers
abbrev pub passed_by : Forwarded → Passed
passed_by ForwardWorn = PassedWorn
passed_by (One reply) = Made
passed_by (All reply) = Made

-- ---- messages

-- What a message comes to at a side: nothing where there is none, or the action of its port, whose machine was told it.
abbrev pub Heard : Option PortAction → ℕ → List ℕ → KeptWorld → KeptWorld → List LinkName → World → Type 0
Heard None l m old new failed w = ((j : ℕ) (h : Hub) (link : Link) → IsSideOf w l j h link → ⊥) × Became old new failed None w w
Heard (Some a) l m old new failed w =
    (j : ℕ) × (h : Hub) × (link : Link) × IsSideOf w l j h link
    × (a ≡ action None None (start h link) link.side.events w.now m)
    × Became old new failed (Some l) w (told l (heard (start h link) link.side.events w.now m) w)

-- ---- what stays

-- The sides of all links keep their machines and what they have once they joined: those that are there after were there before.
abbrev pub KeepsSides : KeptWorld → KeptWorld → Type 0
KeepsSides old new = (l : ℕ) (kept : KeptLink) → slice_get new.links.items l ≡ Some kept
    → (before : KeptLink) × (slice_get old.links.items l ≡ Some before) × (kept.side ≡ before.side)

-- The side of link l keeps its machine.
abbrev pub KeepsMachine : ℕ → KeptWorld → KeptWorld → Type 0
KeepsMachine l old new = (kept : KeptLink) (side : KeptSide) → slice_get new.links.items l ≡ Some kept → kept.side ≡ Some side
    → (before : KeptLink) × (was : KeptSide) × (slice_get old.links.items l ≡ Some before) × (before.side ≡ Some was)
    × (side.machine ≡ was.machine)
