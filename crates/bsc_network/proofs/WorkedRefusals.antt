-- Why steps are refused, by computation.
-- No clause needs it: worked examples.
use Rattle.std.proofs.Common.{◌≡◌, List, [], ◌∷◌, ◌++◌, Some, None, refl}
use Rattle.bsc_node.specs.declared.node_event.NodeEvent.TheVariants.{Arrived, NoRandom, Resolve, DirectTo, Solicit, Finish}
use Rattle.bsc_network.specs.declared.world_step.WorldStep.TheVariants.{Node as OfNode, Lose, Stop}
use Rattle.bsc_network.specs.declared.step_refusal.StepRefusal.TheVariants.{NoNode, NotNow, NoLink, NothingThere, NoHub, AlreadyStopped}
use Rattle.bsc_network.specs.Networks.{deliveries}
use Rattle.bsc_network.specs.Settings.{Added}
use Rattle.bsc_network.proofs.OnLiterals.{world_on_literals}
use Rattle.bsc_network.proofs.Scenes.{primary, a, b, address, at, joins, start, tick, send, up, down, take, got, refused}

abbrev pub network : List Added
network = primary ∷ a ∷ b ∷ []

-- A node that wasn't added; an event that isn't a node's own; a second start; and before the start each other event.
of_events : refused network (at 0 (start 0 ∷ []))
    (start 2 ∷ OfNode 2 Arrived ∷ OfNode 0 Arrived ∷ OfNode 0 NoRandom ∷ start 0 ∷ tick 0 ∷ tick 1 ∷ send 1 (address 0x0A) 1
    ∷ OfNode 1 (Resolve (address 0x0A)) ∷ OfNode 1 (DirectTo (address 0x0A)) ∷ OfNode 1 (Solicit (address 0x0A)) ∷ OfNode 1 Finish ∷ start 1 ∷ [])
    ≡ Some NoNode ∷ Some NoNode ∷ Some NotNow ∷ Some NotNow ∷ Some NotNow ∷ None ∷ Some NotNow ∷ Some NotNow ∷ Some NotNow
    ∷ Some NotNow ∷ Some NotNow ∷ Some NotNow ∷ None ∷ []
unfolding world_on_literals
of_events = refl

-- A link that wasn't made; one that was lost; an empty way; and a hub's side that hasn't joined.
of_links : refused network (at 0 (start 0 ∷ start 1 ∷ Lose 1 ∷ []))
    (up 2 ∷ down 2 ∷ take 2 ∷ Lose 2 ∷ up 1 ∷ down 1 ∷ take 1 ∷ Lose 1 ∷ up 0 ∷ take 0 ∷ down 0 ∷ Lose 0 ∷ [])
    ≡ Some NoLink ∷ Some NoLink ∷ Some NoLink ∷ Some NoLink ∷ Some NoLink ∷ Some NoLink ∷ Some NoLink ∷ Some NoLink
    ∷ Some NothingThere ∷ Some NothingThere ∷ None ∷ None ∷ []
unfolding world_on_literals
of_links = refl

-- From a hub's side that has joined may be taken, also where nothing is there; and a hub stops once.
of_hubs : refused network (at 0 (joins 0 0 ++ Stop 0 ∷ [])) (take 0 ∷ Stop 0 ∷ Stop 1 ∷ []) ≡ None ∷ Some AlreadyStopped ∷ Some NoHub ∷ []
unfolding world_on_literals
of_hubs = refl

-- A step that is refused does nothing, and has a place: so that of the Send is one more for each.
places : deliveries network (at 0 (start 7 ∷ joins 0 0 ++ start 0 ∷ joins 1 1 ++ take 9 ∷ send 0 (address 0x0B) 1 ∷ up 0 ∷ take 1 ∷ down 1 ∷ []))
    ≡ got 11 1 0x0A 1 ∷ []
unfolding world_on_literals
places = refl
