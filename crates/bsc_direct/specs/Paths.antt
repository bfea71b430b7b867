-- The path of a message to a VMAC (Annex AB, "Hub Connector" and "Direct Connections").
use Rattle.std.specs.Prelude.{ℕ, List, Option, Some, None}
use Rattle.bsc_octets.specs.declared.vmac.Vmac.{Vmac}
use Rattle.bsc_connector.specs.declared.hub_use.HubUse.{HubUse}
use Rattle.bsc_connector.specs.declared.hub_use.HubUse.TheVariants.{NoHub, Primary, Failover}
use Rattle.bsc_direct.specs.declared.call.SlotCall.{SlotCall}
use Rattle.bsc_direct.specs.Slots.{established}
use Rattle.bsc_direct.specs.declared.routes.Route.{Route}
use Rattle.bsc_direct.specs.declared.routes.Route.TheVariants.{Direct, Hub, NoPath}

-- over the hub in use, where there is one
abbrev pub hub_path : HubUse → Route
hub_path NoHub = NoPath
hub_path Primary = Hub
hub_path Failover = Hub

-- over a slot, where there is one
abbrev pub slot_or : Option ℕ → Route → Route
slot_or (Some slot) otherwise = Direct slot
slot_or None otherwise = otherwise

-- The path to v: the slot that is established for it, else the hub in use, else none.
abbrev pub path : List SlotCall → HubUse → Vmac → Route
path calls hub_use v = slot_or (established calls v) (hub_path hub_use)
