-- What is delivered of an NPDU that came down from a hub came by this hub, as the theorem says it.
-- It serves clauses of functions of `laws`.
use Rattle.std.proofs.Common.{◌≡◌, ℕ, List, length, Some, ap, sym, subst, ◌∙◌}
use Rattle.bsc_octets.specs.Forwarding.{out}
use Rattle.bsc_frame.specs.declared.body.Body.TheVariants.{Npdu}
use Rattle.bsc_node.specs.Messages.{message_octets}
use Rattle.bsc_node_identity.specs.Npdus.{IsFor}
use Rattle.bsc_node_identity.proofs.PassedOn.{IsDeliveredSo, is_for}
use Rattle.bsc_network.specs.declared.target.Target.TheVariants.{Hub as ToHub}
use Rattle.bsc_network.specs.declared.world_delivery.WorldDelivery.{WorldDelivery}
use Rattle.bsc_network.specs.Worlds.{World, Hub, Link, hub_at, link_at}
use Rattle.bsc_network.specs.Outboxes.{Frame}
use Rattle.bsc_network.proofs.Places.{found-in}
use Rattle.bsc_network_laws.specs.Carrying.{Sendings}
use Rattle.bsc_network_laws.specs.Deliveries.{CameByHub, IsAmong}
use Rattle.bsc_network_laws.specs.Ends.{messages}
use Rattle.bsc_network_laws.specs.Passing.{IsPassedBy}

-- What is delivered so of what came down a link came by the hub that the link leads to.
pub came_by_hub : (S : Sendings) (w : World) (l j : ℕ) (h : Hub) (link : Link) (f : Frame) (p : IsPassedBy S w h.posted l f) (d : WorldDelivery) → link_at w l ≡ Some link
    → hub_at w j ≡ Some h → link.to ≡ ToHub j → IsAmong (messages link.down) f → link.from ≡ d.node
    → f.sent_at ≡ d.sent_at → length p.2.dest.0 ≡ 6 → IsDeliveredSo p.2.from.who.vmac p.2.dest p.2.npdu d.delivered → CameByHub w p.2.sender p.2.dest d
came_by_hub S w l j h link f (to, caller, p) d here at leads stands node place whole so =
    let octets : List ℕ = out p.frame p.from.who.vmac in
    let passed : Frame = record { octets = octets; sent_at = d.sent_at } in
    let is : f ≡ passed =
    ap (λ (o : List ℕ). let g : Frame = record { octets = o; sent_at = f.sent_at } in g) p.octets
    ∙ ap (λ (n : ℕ). let g : Frame = record { octets = octets; sent_at = n } in g) place in
    let dialler = found-in (λ (x : Link). x.from) (link_at w p.from.caller) p.sender p.dialled in
    record {
      number = j;
      at_hub = h;
      found = at;
      before = p.before;
      forward = p.forward;
      later = p.later;
      posted = p.split;
      from = p.from;
      to = to;
      frame = p.frame;
      id = p.id;
      small = p.small;
      carried = p.carried ∙ ap (λ (x : List ℕ). message_octets p.id (Some p.dest) (Npdu x)) (sym so.npdu_is);
      call = p.call;
      place = p.place ∙ place;
      sender_live = p.sender_live;
      receiver_live = p.receiver_live;
      sender_link = dialler;
      receiver_link = record { link = link; found = ap (link_at w) caller ∙ here; leads = leads; dialled = node; stands = subst (IsAmong (messages link.down)) is stands };
      address = sym so.from_is;
      destination = subst (λ b. IsFor b p.dest to.who.vmac) (sym so.for_all) (is_for p.frame p.from.number p.id p.dest p.npdu to p.carried whole p.meant);
    }
