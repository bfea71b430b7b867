-- What is kept of the links, by their names.
use Rattle.std.specs.Prelude.{◌≡◌, ℕ, ◌+◌, ◌&&◌, nat_lt, if◌then◌else◌, min, Bool, true, false, Option, Some, None, slice_get}
use Rattle.std.specs.Option.{option_map}
use Rattle.bsc_octets.specs.declared.identity.Identity.{Identity}
use Rattle.bsc_octets.specs.declared.vmac.Vmac.{Vmac}
use Rattle.bsc_checks.specs.declared.place.Place.{Place}
use Rattle.bsc_checks.specs.declared.place.Place.TheVariants.{NodeHub, NodeDirect}
use Rattle.bsc_connector.specs.declared.side.Side.TheVariants.{Primary, Failover}
use Rattle.bsc_direct.specs.declared.bounds.TheConstants.{SLOTS}
use Rattle.bsc_node.specs.declared.link_name.LinkName.{LinkName}
use Rattle.bsc_node.specs.declared.link_name.LinkName.TheVariants.{Hub, Direct}
use Rattle.bsc_node.specs.Links.{same_link}
use Rattle.bsc_node_core.specs.declared.machine.Machine.{Machine}
use Rattle.bsc_node_core.specs.declared.machine.Machine.TheVariants.{Gone}
use Rattle.bsc_node_core.specs.Machines.{phase_kept}
use Rattle.bsc_node_core.specs.declared.link.Link.{Link}
use Rattle.bsc_node_core.specs.declared.links.Links.{Links}
use Rattle.bsc_node_core.specs.declared.touched.Touched.{Touched}
use Rattle.bsc_node_core.specs.declared.touched.Touched.TheVariants.{Nothing, One, Many}

-- What is kept of one link: its machine, its peer, and how often it began since its slot was claimed.
pub record Kept : Type 0 where
  pub machine : Machine
  pub peer : Option Identity
  pub tries : ℕ

abbrev pub kept_of : Link → Kept
kept_of l = record { machine = l.machine; peer = l.peer; tries = l.tries }

-- a link that never began
abbrev pub nothing_kept : Kept
nothing_kept = record { machine = Gone; peer = None; tries = 0 }

abbrev pub kept_in : Option Link → Kept
kept_in None = nothing_kept
kept_in (Some l) = kept_of l

-- What is kept of the link of a name.
abbrev pub link_at : Links → LinkName → Kept
link_at ls (Hub Primary) = kept_of ls.primary
link_at ls (Hub Failover) = kept_of ls.failover
link_at ls (Direct k) = kept_in (slice_get ls.slots.items k)

-- Whether it is the name of a link: a hub's, or that of one of the slots.
abbrev pub is_name : LinkName → Bool
is_name (Hub s) = true
is_name (Direct k) = nat_lt k SLOTS

-- This is kept of the link of a name, and of all others what was.
abbrev pub Sets : Links → Links → LinkName → Kept → Type 0
Sets old new name kept = (other : LinkName) → link_at new other ≡ (if same_link name other && is_name name then kept else link_at old other)

-- ---- which links were touched

-- Whether the link of a name is among those that were touched.
abbrev pub is_touched : Touched → LinkName → Bool
is_touched Nothing name = false
is_touched (One touched) name = same_link touched name
is_touched Many name = true

-- The link of a name is touched, beside those that were.
abbrev pub Touches : Links → Links → LinkName → Type 0
Touches old new name = (other : LinkName) → is_touched new.touched other ≡ false → (same_link name other ≡ false) × (is_touched old.touched other ≡ false)

-- A link that wasn't touched is as it is among these.
abbrev pub AgreeUntouched : Links → Links → Type 0
AgreeUntouched spare links = (name : LinkName) → is_name name ≡ true → is_touched links.touched name ≡ false → link_at links name ≡ link_at spare name

-- ---- how a link goes on

abbrev pub with_machine : Machine → Kept → Kept
with_machine machine l = record l { machine = machine }

abbrev pub with_peer : Identity → Kept → Kept
with_peer who l = record l { peer = Some who }

abbrev pub with_machine_and_peer : Machine → Option Identity → Kept → Kept
with_machine_and_peer machine peer l = record l { machine = machine; peer = peer }

abbrev pub begun : Machine → Kept → Kept
begun machine l = record { machine = machine; peer = None; tries = min 18446744073709551615 (l.tries + 1) }

abbrev pub claimed : Kept → Kept
claimed l = record l { tries = 0 }

-- the place of a message that comes over the link of a name
abbrev pub place_kept : Vmac → LinkName → Kept → Place
place_kept own (Hub s) l = NodeHub own (phase_kept l.machine)
place_kept own (Direct k) l = NodeDirect own (option_map (λ (who : Identity). who.vmac) l.peer) (phase_kept l.machine)
