-- The way of a message leads to its destination.
-- It serves the clauses of `direct_puts_are_there` and `ways_lead_there`.
use Rattle.std.proofs.Common.{◌≡◌, ℕ, true, Option, Some, None, refl, sym, subst}
use Rattle.std.specs.Option.{option_map}
use Rattle.bsc_octets.specs.declared.vmac.Vmac.{Vmac}
use Rattle.bsc_octets.specs.declared.identity.Identity.{Identity}
use Rattle.bsc_octets.specs.Addresses.{same_vmac}
use Rattle.bsc_connector.specs.declared.side.Side.TheVariants.{Primary, Failover}
use Rattle.bsc_connector.specs.declared.hub_use.HubUse.{HubUse}
use Rattle.bsc_connector.specs.declared.hub_use.HubUse.TheVariants.{NoHub, Primary as UsesPrimary, Failover as UsesFailover}
use Rattle.bsc_direct.specs.Slots.{slots, is_peer}
use Rattle.bsc_direct.specs.Paths.{hub_path, slot_or}
use Rattle.bsc_node.specs.declared.link_name.LinkName.{LinkName}
use Rattle.bsc_node.specs.declared.link_name.LinkName.TheVariants.{Hub, Direct}
use Rattle.bsc_node.specs.Logs.{Log}
use Rattle.bsc_node.specs.Hubs.{hub_use, link_in_use}
use Rattle.bsc_node.specs.Ways.{Way, way_by, established, established_peer}
use Rattle.bsc_node_identity.specs.Carried.{LeadsTo, WaysLeadThere}
use Rattle.bsc_lemmas.proofs.Options.{some_none_any as some_none}
use Rattle.bsc_octets.proofs.Common.{vmac_same}
use Rattle.std.proofs.lemmas.Option.{same_Some as some_same}
use Rattle.bsc_node_laws.proofs.Tying.{found_passes}

peer_at : (v : Vmac) (o : Option Identity) → is_peer (λ (peer : Identity). same_vmac peer.vmac v) o ≡ true → (who : Identity) × (o ≡ Some who) × (who.vmac ≡ v)
peer_at v None h = cc
peer_at v (Some who) h = (who, refl, vmac_same who.vmac v h)

this_way : (L : Log) (v : Vmac) (link : LinkName) (dest : Option Vmac) (w : Way) → Some (record { link = link; dest = dest }) ≡ Some w → LeadsTo L v link dest → LeadsTo L v w.link w.dest
this_way L v link dest w h leads = subst (λ (x : Way). LeadsTo L v x.link x.dest) (some_same (record { link = link; dest = dest }) w h) leads

over_hub : (L : Log) (v : Vmac) (w : Way) (o : Option LinkName) → ((link : LinkName) → o ≡ Some link → LeadsTo L v link (Some v))
    → option_map (λ (link : LinkName). record { link = link; dest = Some v }) o ≡ Some w → LeadsTo L v w.link w.dest
over_hub L v w None leads h = some_none w (sym h)
over_hub L v w (Some link) leads h = this_way L v link (Some v) w h (leads link refl)

hub_leads : (L : Log) (v : Vmac) (u : HubUse) (link : LinkName) → link_in_use u ≡ Some link → LeadsTo L v link (Some v)
hub_leads L v NoHub link h = some_none link (sym h)
hub_leads L v UsesPrimary link h = subst (λ (x : LinkName). LeadsTo L v x (Some v)) (some_same (Hub Primary) link h) refl
hub_leads L v UsesFailover link h = subst (λ (x : LinkName). LeadsTo L v x (Some v)) (some_same (Hub Failover) link h) refl

pub ways_lead_there : WaysLeadThere
ways_lead_there L v w h = by (established v L) refl h
  where
    by_hub : (u : HubUse) → way_by L v (hub_path u) ≡ Some w → LeadsTo L v w.link w.dest
    by_hub NoHub g = some_none w (sym g)
    by_hub UsesPrimary g = over_hub L v w (link_in_use (hub_use L)) (hub_leads L v (hub_use L)) g
    by_hub UsesFailover g = over_hub L v w (link_in_use (hub_use L)) (hub_leads L v (hub_use L)) g

    by : (o : Option ℕ) → established v L ≡ o → way_by L v (slot_or o (hub_path (hub_use L))) ≡ Some w → LeadsTo L v w.link w.dest
    by None is g = by_hub (hub_use L) g
    by (Some k) is g =
        let p = peer_at v (established_peer k L) (found_passes (λ i. is_peer (λ (peer : Identity). same_vmac peer.vmac v) (established_peer i L)) slots k is) in
        this_way L v (Direct k) None w g (refl, p.0, p.1, p.2)
