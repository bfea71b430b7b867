-- What follows where a message comes for the node, line by line.
-- It serves clauses of functions of `state`.
use Rattle.std.proofs.Common.{◌≡◌, ℕ, Bool, true, false, not, cond, List, [], ◌∷◌, ◌++◌, Option, Some, None, ap, sym, ◌∙◌, subst}
use Rattle.std.specs.Prelude.{is_some}
use Rattle.std.proofs.lemmas.List.{append-nil}
use Rattle.bsc_octets.specs.declared.vmac.Vmac.{Vmac}
use Rattle.bsc_octets.specs.declared.identity.Identity.{Identity}
use Rattle.bsc_frame.specs.declared.advert.Advert.{Advert}
use Rattle.bsc_frame.specs.declared.message.Message.{Message}
use Rattle.bsc_frame.specs.declared.body.Body.TheVariants.{AddressResolutionAck, Advertisement}
use Rattle.bsc_connector.specs.declared.hub_use.HubUse.{HubUse}
use Rattle.bsc_node.specs.Messages.{message_octets, nak}
use Rattle.bsc_node.specs.declared.link_name.LinkName.{LinkName}
use Rattle.bsc_node.specs.declared.node_limits.NodeLimits.{NodeLimits}
use Rattle.bsc_node.specs.declared.action.Action.{Action}
use Rattle.bsc_node.specs.declared.action.Action.TheVariants.{Put}
use Rattle.bsc_node.specs.Logs.{did, Log, nothing, if_so}
use Rattle.bsc_node.specs.Hubs.{hub_use, hub_status}
use Rattle.bsc_node.specs.Receiving.{advert, advertises, answer_dest, answers, answers_by, is_for_all}
use Rattle.bsc_node_core.specs.declared.state.State.{State}
use Rattle.bsc_node_core.specs.Standing.{Base, Stands}

abbrev pub adverts : ℕ → ℕ → ℕ → ℕ → Advert
adverts status accepts bvlc npdu = record { status = status; accepts = accepts; max_bvlc = bvlc; max_npdu = npdu }

pub advert-is : (b : Base) (out : List Action) (s : State) (L : Log) (limits : NodeLimits) (used : HubUse) (status accepts : ℕ) → b.made.limits ≡ limits → used ≡ hub_use L → status ≡ hub_status used
    → accepts ≡ cond (is_some limits.uris) 1 0 → Stands b out s L → adverts status accepts s.own.max_bvlc s.own.max_npdu ≡ advert b.made L
advert-is b out s L limits used status accepts l u st ac h =
    ap (λ x. adverts x accepts s.own.max_bvlc s.own.max_npdu) (st ∙ ap hub_status u)
    ∙ ap (λ x. adverts (hub_status (hub_use L)) x s.own.max_bvlc s.own.max_npdu) (ac ∙ ap (λ (m : NodeLimits). cond (is_some m.uris) 1 0) (sym l))
    ∙ ap (λ (i : Identity). adverts (hub_status (hub_use L)) (cond (is_some b.made.limits.uris) 1 0) i.max_bvlc i.max_npdu) (sym h.own)

pub advertised-lines : (b : Base) (out : List Action) (s : State) (L : Log) (name : LinkName) (msg : Message) (dest : Option Vmac) (o : List ℕ) (ad : Advert) → answer_dest name msg ≡ dest
    → ad ≡ advert b.made L
    → o ≡ message_octets s.next dest (Advertisement ad) → Stands b out s L → advertises b.made name msg L ≡ did (Put name o) ∷ []
advertised-lines b out s L name msg dest o ad d a oe h =
    ap (λ x. did (Put name x) ∷ [])
    (ap (λ n. message_octets n (answer_dest name msg) (Advertisement (advert b.made L))) h.next
    ∙ ap (λ x. message_octets s.next x (Advertisement (advert b.made L))) d
    ∙ ap (λ x. message_octets s.next dest (Advertisement x)) (sym a)
    ∙ sym oe)

pub uris-lines : (L : Log) (name : LinkName) (msg : Message) (dest : Option Vmac) (id : ℕ) (uris o : List ℕ) → msg.id ≡ id → answer_dest name msg ≡ dest
    → o ≡ message_octets id dest (AddressResolutionAck uris)
    → answers_by name msg (Some uris) L ≡ did (Put name o) ∷ []
uris-lines L name msg dest id uris o i d oe =
    ap (λ x. did (Put name x) ∷ [])
    (ap (λ n. message_octets n (answer_dest name msg) (AddressResolutionAck uris)) i ∙ ap (λ x. message_octets id x (AddressResolutionAck uris)) d ∙ sym oe)

pub nak-lines : (L : Log) (name : LinkName) (msg : Message) (dest : Option Vmac) (id : ℕ) (o : List ℕ) → msg.id ≡ id → answer_dest name msg ≡ dest → is_for_all msg ≡ false
    → o ≡ message_octets id dest (nak 0x02 45)
    → answers_by name msg None L ≡ did (Put name o) ∷ []
nak-lines L name msg dest id o i d f oe =
    ap (λ (b : Bool). if_so (not b) (answers name msg msg.id (nak 0x02 45)) nothing L) f
    ∙ ap (λ x. did (Put name x) ∷ [])
    (ap (λ n. message_octets n (answer_dest name msg) (nak 0x02 45)) i ∙ ap (λ x. message_octets id x (nak 0x02 45)) d ∙ sym oe)

pub no-nak : (b : Base) (out : List Action) (s : State) (L : Log) (name : LinkName) (msg : Message) → is_for_all msg ≡ true → Stands b out s L → Stands b out s (L ++ answers_by name msg None L)
no-nak b out s L name msg f h =
    subst (λ ms. Stands b out s (L ++ ms)) (sym (ap (λ (c : Bool). if_so (not c) (answers name msg msg.id (nak 0x02 45)) nothing L) f)) (subst (λ M. Stands b out s M) (sym (append-nil L)) h)
