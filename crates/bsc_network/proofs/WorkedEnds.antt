-- How links and sessions end, by computation: a loss, a stop, and a node that ends.
-- No clause needs it: worked examples.
use Rattle.std.proofs.Common.{◌≡◌, true, false, List, [], ◌∷◌, ◌++◌, Some, None, refl}
use Rattle.bsc_node.specs.declared.node_event.NodeEvent.TheVariants.{Finish}
use Rattle.bsc_network.specs.declared.target.Target.TheVariants.{Hub as ToHub}
use Rattle.bsc_network.specs.declared.world_step.WorldStep.{WorldStep}
use Rattle.bsc_network.specs.declared.world_step.WorldStep.TheVariants.{Node as OfNode, Lose, Stop}
use Rattle.bsc_network.specs.declared.step_refusal.StepRefusal.TheVariants.{NothingThere}
use Rattle.bsc_network.specs.Networks.{deliveries}
use Rattle.bsc_network.specs.Settings.{Added}
use Rattle.bsc_network.proofs.OnLiterals.{world_on_literals}
use Rattle.bsc_network.proofs.Scenes.{primary, a, b, address, at, joins, tick, send, up, down, take, got, link, dialled, over, refused, entered}

abbrev pub network : List Added
network = primary ∷ a ∷ b ∷ []

abbrev pub sends : List WorldStep
sends = joins 0 0 ++ joins 1 1 ++ send 0 (address 0x0B) 1 ∷ []

-- ---- a loss

-- What a link carries is lost with it: on the way up, and on the way down.
lost_up : deliveries network (at 0 (sends ++ Lose 0 ∷ up 0 ∷ take 1 ∷ down 1 ∷ [])) ≡ []
unfolding world_on_literals
lost_up = refl

lost_down : deliveries network (at 0 (sends ++ up 0 ∷ take 1 ∷ Lose 1 ∷ down 1 ∷ [])) ≡ []
unfolding world_on_literals
lost_down = refl

-- Its session is over, and the node dials again when its wait is over.
loss : over network (at 0 (sends ++ Lose 0 ∷ [])) ≡ true ∷ false ∷ []
unfolding world_on_literals
loss = refl

redials : dialled network (at 0 (sends ++ Lose 0 ∷ tick 0 ∷ []) ++ at 2000 (tick 0 ∷ []))
    ≡ link 0 0 (ToHub 0) ∷ link 1 1 (ToHub 0) ∷ link 2 0 (ToHub 0) ∷ []
unfolding world_on_literals
redials = refl

-- ---- a stop

-- What had entered an outbox when the hub stopped is taken still; then the session asks to disconnect, and takes no more.
-- The node answers and closes.
abbrev pub stopped : List WorldStep
stopped = sends ++ up 0 ∷ Stop 0 ∷ take 1 ∷ take 1 ∷ down 1 ∷ []

stop : deliveries network (at 0 stopped) ≡ got 8 1 0x0A 1 ∷ []
unfolding world_on_literals
stop = refl

stop_ends : refused network (at 0 stopped) (take 1 ∷ take 0 ∷ []) ≡ Some NothingThere ∷ None ∷ []
unfolding world_on_literals
stop_ends = refl

stop_closes : over network (at 0 (stopped ++ down 1 ∷ up 1 ∷ [])) ≡ false ∷ true ∷ []
unfolding world_on_literals
stop_closes = refl

-- The connection leaves once: that the node's closing arrives then changes nothing. The entries are two joins, a forward, the
-- stop and a leave.
stop_leaves : entered network (at 0 (stopped ++ down 1 ∷ up 1 ∷ up 1 ∷ [])) ≡ 5 ∷ []
unfolding world_on_literals
stop_leaves = refl

-- Nothing is passed on by a hub that has stopped.
stop_drops : deliveries network (at 0 (sends ++ Stop 0 ∷ up 0 ∷ take 1 ∷ down 1 ∷ [])) ≡ []
unfolding world_on_literals
stop_drops = refl

-- ---- a node that ends

-- It asks its hub to disconnect. The hub answers and closes, and so the session is over. What it sends to a node that has
-- closed is dropped.
finish : over network (at 0 (sends ++ OfNode 0 Finish ∷ up 0 ∷ up 0 ∷ [])) ≡ true ∷ false ∷ []
unfolding world_on_literals
finish = refl
