-- Why a step may be made only where what is sent goes to an address of six octets: what is sent to one of none has the octets of another
-- message, and would be delivered so.
-- No clause needs it: worked examples.
use Rattle.std.proofs.Common.{◌≡◌, List, [], ◌∷◌, ◌++◌, Some, refl}
use Rattle.std.specs.Prelude.{slice_get}
use Rattle.bsc_octets.specs.declared.vmac.Vmac.{Vmac}
use Rattle.bsc_node.specs.declared.node_event.NodeEvent.TheVariants.{Send}
use Rattle.bsc_network.specs.declared.world_step.WorldStep.{WorldStep}
use Rattle.bsc_network.specs.declared.world_step.WorldStep.TheVariants.{Node as OfNode}
use Rattle.bsc_network.specs.Networks.{deliveries}
use Rattle.bsc_network.proofs.OnLiterals.{world_on_literals}
use Rattle.bsc_network.proofs.Scenes.{primary, a, b, address, at, joins, up, down, take, got}

-- an address of no octets
abbrev short : Vmac
short = record { 0 = [] }

-- A sends to it the octets of B's address, and two more.
abbrev sends : WorldStep
sends = OfNode 0 (Send short ((address 0x0B).0 ++ 1 ∷ 0 ∷ []))

abbrev steps : List WorldStep
steps = joins 0 0 ++ joins 1 1 ++ sends ∷ up 0 ∷ take 1 ∷ down 1 ∷ []

its_send : slice_get steps 8 ≡ Some sends
its_send = refl

-- B gets the two octets, as if they had been sent to it.
delivers_another : deliveries (primary ∷ a ∷ b ∷ []) (at 0 steps) ≡ got 8 1 0x0A 1 ∷ []
unfolding world_on_literals
delivers_another = refl
