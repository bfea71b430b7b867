-- Logs written out in which the premises of the laws hold, and what the laws speak of comes about, by computation.
-- No clause needs it: worked examples.
use Rattle.std.proofs.Common.{◌≡◌, ℕ, true, List, [], ◌∷◌, ◌++◌, Some, None, replicate, refl}
use Rattle.std.specs.Prelude.{codes}
use Rattle.std.specs.List.{list_any}
use Rattle.bsc_octets.specs.declared.vmac.Vmac.{Vmac}
use Rattle.bsc_octets.specs.declared.identity.Identity.{Identity}
use Rattle.bsc_octets.specs.Addresses.{broadcast, random48_of}
use Rattle.bsc_octets.specs.Forwarding.{out}
use Rattle.bsc_frame.specs.declared.body.Body.{Body}
use Rattle.bsc_frame.specs.declared.body.Body.TheVariants.{Npdu, AddressResolution, AddressResolutionAck, ConnectRequest, ConnectAccept}
use Rattle.bsc_frame.specs.Spelling.{spelling}
use Rattle.bsc_connector.specs.declared.side.Side.TheVariants.{Primary}
use Rattle.bsc_checks.specs.declared.phase.Phase.TheVariants.{AwaitingRequest, Connected}
use Rattle.bsc_checks.specs.declared.place.Place.TheVariants.{NodeHub, NodeDirect}
use Rattle.bsc_checks.specs.declared.verdict.Verdict.TheVariants.{Pass}
use Rattle.bsc_checks.specs.Outcomes.{outcome_of}
use Rattle.bsc_accept.specs.Messages.{connect_accept}
use Rattle.bsc_initiate.specs.Messages.{connect_request}
use Rattle.bsc_node.specs.Messages.{message, message_octets, nak}
use Rattle.bsc_node.specs.declared.link_name.LinkName.{LinkName}
use Rattle.bsc_node.specs.declared.link_name.LinkName.TheVariants.{Hub, Direct}
use Rattle.bsc_node.specs.declared.node_event.NodeEvent.{NodeEvent}
use Rattle.bsc_node.specs.declared.node_event.NodeEvent.TheVariants.{Start, Opened, Arrived, Came, Tick, Resolve, DirectTo, Random}
use Rattle.bsc_node.specs.declared.timed_event.TimedEvent.{TimedEvent}
use Rattle.bsc_node.specs.declared.note.Note.TheVariants.{DirectUp}
use Rattle.bsc_node.specs.declared.action.Action.TheVariants.{Dial, Put, Tell}
use Rattle.bsc_node.specs.Logs.{Made}
use Rattle.bsc_node.specs.Links.{begins, peer}
use Rattle.bsc_node.specs.Ways.{way, established_peer, learnt}
use Rattle.bsc_node.specs.Node.{goes_on, log, actions}
use Rattle.bsc_node.specs.Conditions.{may_all_come}
use Rattle.bsc_node.proofs.OnLiterals.{node_on_literals}
use Rattle.bsc_node_identity.specs.Carried.{passed_on}

-- ---- a node with URIs of its own, and another

abbrev address : ℕ → Vmac
address n = record { 0 = 2 ∷ 0 ∷ 0 ∷ 0 ∷ 0 ∷ n ∷ [] }

abbrev peer_at : ℕ → ℕ → Identity
peer_at n u = record { vmac = address n; device = record { 0 = replicate 16 u }; max_bvlc = 1600; max_npdu = 1497 }

abbrev hub_itself : Identity
hub_itself = peer_at 0xFF 0x11

abbrev other : Identity
other = peer_at 0x0A 0xAA

abbrev itself : Identity
itself = peer_at 0x0B 0xBB

abbrev own_uris : List ℕ
own_uris = codes "ws://b/"

abbrev the_node : Made
the_node = record {
  own = itself;
  limits = record {
    times = record { connect_wait = 10000; disconnect_wait = 10000; heartbeat = 300000 };
    primary = codes "ws://p/";
    failover = None;
    uris = Some own_uris;
    least_wait = 2000;
    greatest_wait = 30000;
  };
}

abbrev at : ℕ → NodeEvent → TimedEvent
at now event = record { now = now; event = event }

abbrev hears : ℕ → LinkName → ℕ → Body → TimedEvent
hears now name id body = at now (Came name (spelling (message id None body)))

-- what the hub passes on from the other
abbrev hears_from : ℕ → ℕ → Body → TimedEvent
hears_from now id body = at now (Came (Hub Primary) (spelling (record (message id None body) { origin = Some (address 0x0A) })))

-- The node starts, and its primary hub accepts it.
abbrev connects : List TimedEvent
connects = at 0 Start ∷ at 5 (Opened (Hub Primary)) ∷ hears 10 (Hub Primary) 1 (ConnectAccept hub_itself) ∷ []

-- ---- it names itself

asks_its_hub : actions the_node (at 0 Start ∷ at 5 (Opened (Hub Primary)) ∷ []) ≡ Put (Hub Primary) (spelling (connect_request 1 itself)) ∷ []
unfolding node_on_literals
asks_its_hub = refl

-- Its hub refuses its VMAC, and it asks again under the one that it has then.
abbrev renewed : List TimedEvent
renewed = at 0 Start ∷ at 5 (Opened (Hub Primary)) ∷ hears 10 (Hub Primary) 1 (nak 0x06 151) ∷ at 10 (Random 7) ∷ at 2010 Tick ∷ []

renewed_may_come : may_all_come the_node (renewed ++ at 2015 (Opened (Hub Primary)) ∷ []) ≡ true
unfolding node_on_literals
renewed_may_come = refl

asks_anew : actions the_node (renewed ++ at 2015 (Opened (Hub Primary)) ∷ []) ≡ Put (Hub Primary) (spelling (connect_request 2 (record itself { vmac = random48_of 7 }))) ∷ []
unfolding node_on_literals
asks_anew = refl

-- ---- a slot comes up where the other named itself

abbrev arrived : List TimedEvent
arrived = connects ++ at 20 Arrived ∷ []

abbrev asked : TimedEvent
asked = hears 21 (Direct 0) 7 (ConnectRequest other)

asked_may_come : may_all_come the_node (arrived ++ asked ∷ []) ≡ true
unfolding node_on_literals
asked_may_come = refl

accepts : actions the_node (arrived ++ asked ∷ []) ≡ Put (Direct 0) (spelling (connect_accept 7 itself)) ∷ Tell (DirectUp (address 0x0A)) ∷ []
unfolding node_on_literals
accepts = refl

is_established : established_peer 0 (log the_node (arrived ++ asked ∷ [])) ≡ Some other
unfolding node_on_literals
is_established = refl

has_its_peer : peer (log the_node (arrived ++ asked ∷ [])) (Direct 0) ≡ Some other
unfolding node_on_literals
has_its_peer = refl

begins_anew : list_any (begins (Direct 0)) (goes_on the_node (at 20 Arrived) (log the_node connects)) ≡ true
unfolding node_on_literals
begins_anew = refl

-- ---- URIs

abbrev learns : List TimedEvent
learns = connects ++ at 20 (Resolve (address 0x0A)) ∷ hears_from 21 2 (AddressResolutionAck (codes "ws://a/")) ∷ []

learns_may_come : may_all_come the_node learns ≡ true
unfolding node_on_literals
learns_may_come = refl

has_learnt : learnt (address 0x0A) (log the_node learns) ≡ Some (codes "ws://a/")
unfolding node_on_literals
has_learnt = refl

tells_its_uris : actions the_node (connects ++ hears_from 20 9 AddressResolution ∷ []) ≡ Put (Hub Primary) (message_octets 9 (Some (address 0x0A)) (AddressResolutionAck own_uris)) ∷ []
unfolding node_on_literals
tells_its_uris = refl

dials_its_hub : actions the_node (at 0 Start ∷ []) ≡ Dial (Hub Primary) (codes "ws://p/") ∷ []
unfolding node_on_literals
dials_its_hub = refl

dials_what_it_learnt : actions the_node (learns ++ at 30 (DirectTo (address 0x0A)) ∷ []) ≡ Dial (Direct 0) (codes "ws://a/") ∷ []
unfolding node_on_literals
dials_what_it_learnt = refl

-- The slot that dials by them has the peer that accepts.
abbrev dialled : List TimedEvent
dialled = learns ++ at 30 (DirectTo (address 0x0A)) ∷ at 31 (Opened (Direct 0)) ∷ hears 32 (Direct 0) 3 (ConnectAccept other) ∷ []

dialled_may_come : may_all_come the_node dialled ≡ true
unfolding node_on_literals
dialled_may_come = refl

dialled_is_established : established_peer 0 (log the_node dialled) ≡ Some other
unfolding node_on_literals
dialled_is_established = refl

dialled_has_its_peer : peer (log the_node dialled) (Direct 0) ≡ Some other
unfolding node_on_literals
dialled_has_its_peer = refl

-- ---- NPDUs

-- One to the other goes over the slot, and one for all over the hub.
way_to_it : way (address 0x0A) (log the_node dialled) ≡ Some (record { link = Direct 0; dest = None })
unfolding node_on_literals
way_to_it = refl

way_to_all : way broadcast (log the_node dialled) ≡ Some (record { link = Hub Primary; dest = Some broadcast })
unfolding node_on_literals
way_to_all = refl

for_one : outcome_of (out (message_octets 5 (Some (address 0x0B)) (Npdu (1 ∷ 2 ∷ []))) (address 0x0A)) (NodeHub (address 0x0B) Connected) 1600
    ≡ Pass (passed_on 5 (address 0x0A) (address 0x0B) (Npdu (1 ∷ 2 ∷ [])))
unfolding node_on_literals out
for_one = refl

for_all : outcome_of (out (message_octets 5 (Some broadcast) (Npdu (1 ∷ 2 ∷ []))) (address 0x0A)) (NodeHub (address 0x0B) Connected) 1600
    ≡ Pass (passed_on 5 (address 0x0A) broadcast (Npdu (1 ∷ 2 ∷ [])))
unfolding node_on_literals out
for_all = refl

plainly : outcome_of (message_octets 5 None (Npdu (1 ∷ 2 ∷ []))) (NodeDirect (address 0x0B) (Some (address 0x0A)) Connected) 1600 ≡ Pass (message 5 None (Npdu (1 ∷ 2 ∷ [])))
unfolding node_on_literals
plainly = refl

-- ---- and other messages

uris_on_their_way : outcome_of (out (message_octets 5 (Some (address 0x0B)) (AddressResolutionAck own_uris)) (address 0x0A)) (NodeHub (address 0x0B) Connected) 1600
    ≡ Pass (passed_on 5 (address 0x0A) (address 0x0B) (AddressResolutionAck own_uris))
unfolding node_on_literals out
uris_on_their_way = refl

a_request : outcome_of (spelling (connect_request 5 other)) (NodeDirect (address 0x0B) None AwaitingRequest) 1600 ≡ Pass (connect_request 5 other)
unfolding node_on_literals
a_request = refl
