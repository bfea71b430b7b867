-- What the networks that are written out share: hubs and nodes, steps, and what is looked at afterwards.
-- It serves bsc_network_laws.
use Rattle.std.proofs.Common.{ℕ, Bool, true, false, List, [], ◌∷◌, replicate}
use Rattle.std.specs.Prelude.{map, filter_map, length, Option}
use Rattle.bsc_octets.specs.declared.vmac.Vmac.{Vmac}
use Rattle.bsc_octets.specs.declared.identity.Identity.{Identity}
use Rattle.bsc_node.specs.declared.node_event.NodeEvent.TheVariants.{Start, Tick, Send}
use Rattle.bsc_node.specs.Logs.{event_of}
use Rattle.bsc_network.specs.declared.way.Way.TheVariants.{Up, Down}
use Rattle.bsc_network.specs.declared.target.Target.{Target}
use Rattle.bsc_network.specs.declared.dialled.Dialled.{Dialled}
use Rattle.bsc_network.specs.declared.world_step.WorldStep.{WorldStep}
use Rattle.bsc_network.specs.declared.world_step.WorldStep.TheVariants.{Node as OfNode, Arrive, Take}
use Rattle.bsc_network.specs.declared.timed_step.TimedStep.{TimedStep}
use Rattle.bsc_network.specs.declared.step_refusal.StepRefusal.{StepRefusal}
use Rattle.bsc_network.specs.declared.world_delivery.WorldDelivery.{WorldDelivery}
use Rattle.bsc_network.specs.Settings.{Added, hub, node}
use Rattle.bsc_network.specs.Worlds.{Hub, Link, Node}
use Rattle.bsc_network.specs.Refusals.{refusal}
use Rattle.bsc_network.specs.Networks.{world, dialled_from}

-- ---- hubs and nodes

abbrev pub address : ℕ → Vmac
address n = record { 0 = 2 ∷ 0 ∷ 0 ∷ 0 ∷ 0 ∷ n ∷ [] }

-- a peer that takes messages of 1,600 octets and NPDUs of 1,497
abbrev pub peer : ℕ → ℕ → Identity
peer n device = record { vmac = address n; device = record { 0 = replicate 16 device }; max_bvlc = 1600; max_npdu = 1497 }

-- a hub whose outboxes hold so many frames
abbrev pub hub_with : ℕ → ℕ → Added
hub_with n outbox = hub (record { hub = peer n n; limits = record { rows = 256; outbox = outbox; calls = 1099511627776; callers = 4096 } })

abbrev pub primary : Added
primary = hub_with 0xF0 64

abbrev pub failover : Added
failover = hub_with 0xF1 64

abbrev pub a : Added
a = node (peer 0x0A 0xAA) false

abbrev pub b : Added
b = node (peer 0x0B 0xBB) false

abbrev pub c : Added
c = node (peer 0x0C 0xCC) false

-- B, where it accepts direct connections
abbrev pub b_direct : Added
b_direct = node (peer 0x0B 0xBB) true

-- another device under B's address
abbrev pub b_again : Added
b_again = node (peer 0x0B 0xDD) false

-- ---- steps

-- at this time
abbrev pub at : ℕ → List WorldStep → List TimedStep
at now steps = map (λ s. record { now = now; step = s }) steps

abbrev pub start : ℕ → WorldStep
start k = OfNode k Start

abbrev pub tick : ℕ → WorldStep
tick k = OfNode k Tick

-- a node sends an NPDU of two octets, the first of them this
abbrev pub send : ℕ → Vmac → ℕ → WorldStep
send k dest first = OfNode k (Send dest (first ∷ 0 ∷ []))

abbrev pub up : ℕ → WorldStep
up l = Arrive l Up

abbrev pub down : ℕ → WorldStep
down l = Arrive l Down

abbrev pub take : ℕ → WorldStep
take l = Take l

-- a node dials its hub by this link, and joins
abbrev pub joins : ℕ → ℕ → List WorldStep
joins k l = start k ∷ down l ∷ up l ∷ down l ∷ []

-- ---- what is looked at

-- what a node got of another: an NPDU of two octets without data options
abbrev pub got : ℕ → ℕ → ℕ → ℕ → WorldDelivery
got place k from first =
    record { sent_at = place; node = k; delivered = record { from = address from; broadcast = false; data_options = []; npdu = first ∷ 0 ∷ [] } }

abbrev pub got_by_all : ℕ → ℕ → ℕ → ℕ → WorldDelivery
got_by_all place k from first =
    record { sent_at = place; node = k; delivered = record { from = address from; broadcast = true; data_options = []; npdu = first ∷ 0 ∷ [] } }

abbrev pub link : ℕ → ℕ → Target → Dialled
link l from to = record { link = l; from = from; to = to }

-- all links that were dialled
abbrev pub dialled : List Added → List TimedStep → List Dialled
dialled added steps = dialled_from 0 (world added steps).links

-- the numbers of the connections that the hubs' sides of the links have, and which of their sessions are over
abbrev pub conns : List Added → List TimedStep → List (Option ℕ)
conns added steps = map (λ (k : Link). k.side.conn) (world added steps).links

abbrev pub over : List Added → List TimedStep → List Bool
over added steps = map (λ (k : Link). k.side.is_over) (world added steps).links

-- how many entries the histories of the hubs have, and how many events came to the nodes
abbrev pub entered : List Added → List TimedStep → List ℕ
entered added steps = map (λ (h : Hub). length h.posted) (world added steps).hubs

abbrev pub heard : List Added → List TimedStep → List ℕ
heard added steps = map (λ (n : Node). length (filter_map event_of n.log)) (world added steps).nodes

-- why some steps would be refused then
abbrev pub refused : List Added → List TimedStep → List WorldStep → List (Option StepRefusal)
refused added steps next = map (refusal (world added steps)) next
