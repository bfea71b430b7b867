-- No two established slots have one VMAC or one device, and no broadcast goes over a slot.
-- It serves the clauses of `broadcasts_keep_off_slots` and `slots_keep_apart`.
use Rattle.std.proofs.Common.{◌≡◌, ℕ, false, List, Option, Some, None, refl, ap, sym, ◌∙◌}
use Rattle.bsc_octets.specs.declared.identity.Identity.{Identity}
use Rattle.bsc_octets.specs.Addresses.{same_vmac, broadcast}
use Rattle.bsc_connector.specs.declared.hub_use.HubUse.{HubUse}
use Rattle.bsc_connector.specs.declared.hub_use.HubUse.TheVariants.{NoHub, Primary, Failover}
use Rattle.bsc_direct.specs.declared.call.SlotCall.{SlotCall}
use Rattle.bsc_direct.specs.Slots.{slots, established_peer, is_peer, established}
use Rattle.bsc_direct.specs.Standing.{PeersAreUnicast}
use Rattle.bsc_direct.proofs.Finding.{none_found}
use Rattle.bsc_direct.specs.declared.routes.Route.TheVariants.{Direct as ByDirect}
use Rattle.bsc_direct.specs.Paths.{hub_path, slot_or}
use Rattle.bsc_node.specs.Logs.{Made}
use Rattle.bsc_node.specs.Hubs.{hub_use}
use Rattle.bsc_node.specs.Ways.{slot_calls}
use Rattle.bsc_node.specs.Node.{log}
use Rattle.bsc_node.specs.Laws.{BroadcastsKeepOffSlots, SlotsKeepApart}
use Rattle.bsc_node.proofs.Lasting.{fine-log}

pub slots_keep_apart : (a : Made) → SlotsKeepApart a
slots_keep_apart a events h = (fine-log a events h).slots.apart

-- no slot is established for the broadcast address
not_broadcast : (calls : List SlotCall) → PeersAreUnicast calls → (k : ℕ) → is_peer (λ (peer : Identity). same_vmac peer.vmac broadcast) (established_peer calls k) ≡ false
not_broadcast calls u k = by (established_peer calls k) refl
  where
    by : (o : Option Identity) → established_peer calls k ≡ o → is_peer (λ (peer : Identity). same_vmac peer.vmac broadcast) o ≡ false
    by None e = refl
    by (Some who) e = u k who e

none_established : (calls : List SlotCall) → PeersAreUnicast calls → established calls broadcast ≡ None
none_established calls u = none_found (λ k. is_peer (λ (peer : Identity). same_vmac peer.vmac broadcast) (established_peer calls k)) slots (not_broadcast calls u)

off_slots : (u : HubUse) (k : ℕ) → hub_path u ≡ ByDirect k → ⊥
off_slots NoHub k h = cc
off_slots Primary k h = cc
off_slots Failover k h = cc

pub broadcasts_keep_off_slots : (a : Made) → BroadcastsKeepOffSlots a
broadcasts_keep_off_slots a events h k is =
    off_slots (hub_use (log a events)) k
    (ap (λ (o : Option ℕ). slot_or o (hub_path (hub_use (log a events)))) (sym (none_established (slot_calls (log a events)) (fine-log a events h).slots.unicast)) ∙ is)
