-- What is delivered of an NPDU that a hub passed on, and to whom it went.
-- It serves bsc_network_laws and bsc_network_of_runs.
use Rattle.std.proofs.Common.{◌≡◌, ◌<◌, ℕ, Bool, true, false, not, cond, List, length, Option, Some, None, refl, ap, sym, subst, ◌∙◌}
use Rattle.std.specs.Prelude.{◌==◌, ◌^◌}
use Rattle.std.specs.Option.{option_map, option_or}
use Rattle.std.proofs.lemmas.Option.{same_Some}
use Rattle.bsc_octets.specs.declared.vmac.Vmac.{Vmac}
use Rattle.bsc_octets.specs.declared.identity.Identity.{Identity}
use Rattle.bsc_octets.specs.Addresses.{broadcast, same_vmac}
use Rattle.bsc_octets.specs.Forwarding.{destination, out}
use Rattle.bsc_octets.proofs.Common.{vmac_same}
use Rattle.bsc_frame.specs.declared.message.Message.{Message}
use Rattle.bsc_frame.specs.declared.body.Body.TheVariants.{Npdu}
use Rattle.bsc_frame.proofs.Common.{same_npdu}
use Rattle.bsc_checks.specs.declared.place.Place.{Place}
use Rattle.bsc_checks.specs.declared.verdict.Verdict.TheVariants.{Pass}
use Rattle.bsc_checks.specs.Outcomes.{outcome_of}
use Rattle.bsc_history.specs.declared.connection.Connection.{Connection}
use Rattle.bsc_history.specs.Outboxes.{means}
use Rattle.bsc_history.proofs.Uniqueness.{vmac_refl}
use Rattle.bsc_node.specs.declared.delivered.Delivered.{Delivered}
use Rattle.bsc_node.specs.declared.link_name.LinkName.{LinkName}
use Rattle.bsc_node.specs.declared.link_name.LinkName.TheVariants.{Hub, Direct}
use Rattle.bsc_node.specs.Laws.{delivery}
use Rattle.bsc_node.specs.Links.{peer}
use Rattle.bsc_node.specs.Logs.{Log}
use Rattle.bsc_node.specs.Messages.{message_octets}
use Rattle.bsc_node.specs.Receiving.{is_broadcast_address, is_for_all, sender}
use Rattle.bsc_node_identity.specs.Carried.{dest_out, passed_on}
use Rattle.bsc_node_identity.proofs.Carried.{Six, npdus_on, six, six_of}
use Rattle.bsc_node_identity.specs.Npdus.{IsFor}

-- ---- the destination

dest_said : (id : ℕ) (dest npdu : List ℕ) → Six dest → destination (message_octets id (Some (record { 0 = dest })) (Npdu npdu)) ≡ record { 0 = dest }
dest_said id dest npdu (six a b c d e f) = refl

-- what is meant for a connection is for all, or for its address
pub is_for : (frame : List ℕ) (sender id : ℕ) (dest : Vmac) (npdu : List ℕ) (to : Connection) → frame ≡ message_octets id (Some dest) (Npdu npdu) → length dest.0 ≡ 6
    → means frame sender to ≡ true → IsFor (same_vmac dest broadcast) dest to.who.vmac
is_for frame sender id dest npdu to is whole meant = by (same_vmac dest broadcast) refl
    (subst (λ (v : Vmac). cond (same_vmac v broadcast) (not (to.number == sender)) (same_vmac to.who.vmac v) ≡ true) said meant)
  where
    said : destination frame ≡ dest
    said = ap destination is ∙ dest_said id dest.0 npdu (six_of dest.0 whole)

    by : (b : Bool) → same_vmac dest broadcast ≡ b → cond b (not (to.number == sender)) (same_vmac to.who.vmac dest) ≡ true → IsFor b dest to.who.vmac
    by true all h = vmac_same dest broadcast all
    by false one h = sym (vmac_same to.who.vmac dest h)

-- ---- the delivery

-- What is delivered of such a frame, by whoever hears it: the NPDU that was sent, from the sender's address, for all or for one.
pub record IsDeliveredSo (from dest : Vmac) (npdu : List ℕ) (d : Delivered) : Type 0 where
  pub from_is : d.from ≡ from
  pub npdu_is : d.npdu ≡ npdu
  pub for_all : d.broadcast ≡ same_vmac dest broadcast

or_origin : (o p : Option Vmac) (v from : Vmac) → o ≡ Some v → option_or o p ≡ Some from → from ≡ v
or_origin None p v from origin is = cc
or_origin (Some u) p v from origin is = same_Some from v (sym is ∙ origin)

from_origin : (name : LinkName) (msg : Message) (L : Log) (v from : Vmac) → msg.origin ≡ Some v → sender name msg L ≡ Some from → from ≡ v
from_origin (Hub s) msg L v from origin is = same_Some from v (sym is ∙ origin)
from_origin (Direct k) msg L v from origin is = or_origin msg.origin (option_map (λ (who : Identity). who.vmac) (peer L (Direct k))) v from origin is

for_all_out : (dest : Vmac) → is_broadcast_address (dest_out dest) ≡ same_vmac dest broadcast
for_all_out dest = by (same_vmac dest broadcast)
  where
    by : (b : Bool) → is_broadcast_address (cond b (Some broadcast) None) ≡ b
    by true = vmac_refl broadcast broadcast refl
    by false = refl

-- What passed of a frame that a hub passed on is delivered so.
pub passed_so : (name : LinkName) (msg : Message) (L : Log) (at : Place) (max id : ℕ) (v dest : Vmac) (npdu content : List ℕ) (from : Vmac) → id < 2 ^ 16 → length v.0 ≡ 6 → length dest.0 ≡ 6
    → outcome_of (out (message_octets id (Some dest) (Npdu npdu)) v) at max ≡ Pass msg → msg.body ≡ Npdu content → sender name msg L ≡ Some from → IsDeliveredSo v dest npdu (delivery msg content from)
passed_so name msg L at max id v dest npdu content from small whole six_dest passes body sent_by =
    let said : msg ≡ passed_on id v dest (Npdu npdu) = npdus_on npdu id v dest at max msg small whole six_dest passes in
    record {
      from_is = from_origin name msg L v from (ap (λ (m : Message). m.origin) said) sent_by;
      npdu_is = same_npdu content npdu (sym body ∙ ap (λ (m : Message). m.body) said);
      for_all = ap is_for_all said ∙ for_all_out dest;
    }
