-- Direct connections, by computation.
-- No clause needs it: worked examples.
use Rattle.std.proofs.Common.{◌≡◌, List, [], ◌∷◌, ◌++◌, Some, refl}
use Rattle.bsc_node.specs.declared.node_event.NodeEvent.TheVariants.{Resolve, DirectTo}
use Rattle.bsc_network.specs.declared.target.Target.TheVariants.{Hub as ToHub, Node as ToNode}
use Rattle.bsc_network.specs.declared.world_step.WorldStep.{WorldStep}
use Rattle.bsc_network.specs.declared.world_step.WorldStep.TheVariants.{Node as OfNode, Lose}
use Rattle.bsc_network.specs.declared.step_refusal.StepRefusal.TheVariants.{NothingThere}
use Rattle.bsc_network.specs.Networks.{deliveries}
use Rattle.bsc_network.specs.Settings.{Added}
use Rattle.bsc_network.proofs.OnLiterals.{world_on_literals}
use Rattle.bsc_network.proofs.Scenes.{primary, a, b, b_direct, address, at, joins, send, up, down, take, got, link, dialled, refused}

abbrev pub reachable : List Added
reachable = primary ∷ a ∷ b_direct ∷ []

-- A asks for B's URIs over the hub, gets them, and wants a direct connection.
abbrev pub asked : List WorldStep
asked =
    joins 0 0 ++ joins 1 1
    ++ OfNode 0 (Resolve (address 0x0B)) ∷ up 0 ∷ take 1 ∷ down 1 ∷ up 1 ∷ take 0 ∷ down 0 ∷ OfNode 0 (DirectTo (address 0x0B)) ∷ []

dials : dialled reachable (at 0 asked) ≡ link 0 0 (ToHub 0) ∷ link 1 1 (ToHub 0) ∷ link 2 0 (ToNode 1) ∷ []
unfolding world_on_literals
dials = refl

-- A node that accepts none has no URIs, and so none is dialled.
dials_nobody : dialled (primary ∷ a ∷ b ∷ []) (at 0 asked) ≡ link 0 0 (ToHub 0) ∷ link 1 1 (ToHub 0) ∷ []
unfolding world_on_literals
dials_nobody = refl

-- B takes the link, both ends name themselves, and what each sends to the other goes over it.
abbrev pub connected : List WorldStep
connected = asked ++ up 2 ∷ down 2 ∷ up 2 ∷ down 2 ∷ []

direct : deliveries reachable (at 0 (connected ++ send 0 (address 0x0B) 1 ∷ up 2 ∷ send 1 (address 0x0A) 2 ∷ down 2 ∷ []))
    ≡ got 20 1 0x0A 1 ∷ got 22 0 0x0B 2 ∷ []
unfolding world_on_literals
direct = refl

-- There is no outbox to take from at a link between nodes.
no_outbox : refused reachable (at 0 connected) (take 2 ∷ up 2 ∷ []) ≡ Some NothingThere ∷ Some NothingThere ∷ []
unfolding world_on_literals
no_outbox = refl

-- The link is lost with what it carries. Both ends are told; what is sent from then on goes over the hub.
back_to_hub :
    deliveries reachable
    (at 0 (connected ++ send 0 (address 0x0B) 1 ∷ Lose 2 ∷ send 0 (address 0x0B) 2 ∷ up 0 ∷ take 1 ∷ down 1 ∷ send 1 (address 0x0A) 3 ∷ up 1 ∷ take 0
    ∷ down 0 ∷ []))
    ≡ got 22 1 0x0A 2 ∷ got 26 0 0x0B 3 ∷ []
unfolding world_on_literals
back_to_hub = refl
