-- What follows where a hub connection is over, case by case, and where a link is told to finish.
-- It serves the clauses of `end_hub`.
use Rattle.std.proofs.Common.{◌≡◌, true, false, List, ◌++◌}
use Rattle.bsc_connector.specs.declared.side.Side.{Side}
use Rattle.bsc_connector.specs.declared.event.ConnectorEvent.TheVariants.{Failed, Lost}
use Rattle.bsc_node.specs.declared.action.Action.{Action}
use Rattle.bsc_node.specs.Logs.{Log, Rule, nothing, either, when}
use Rattle.bsc_node.specs.Hubs.{is_up, is_under_way, is_dropped}
use Rattle.bsc_node.specs.Ending.{tells_connector, ends_hub}
use Rattle.bsc_node_core.specs.declared.state.State.{State}
use Rattle.bsc_node_core.specs.Standing.{Base, Stands}
use Rattle.bsc_node_core.proofs.Branching.{still, when-so, when-not, either-so, either-not}

module _ (b : Base) (out : List Action) (s : State) (L : Log) (side : Side) where
  abbrev failed : Rule
  failed = when (is_under_way b.made side) (tells_connector b.made (Failed side))

  abbrev lost : Rule
  lost = either (is_up side) (tells_connector b.made (Lost side)) failed

  abbrev P : Log → Type 0
  P M = Stands b out s M

  pub hub-dropped : is_dropped side L ≡ true → Stands b out s L → Stands b out s (L ++ ends_hub b.made side L)
  hub-dropped d h = either-so P L (is_dropped side) nothing lost d (still P L h)

  pub hub-lost : is_dropped side L ≡ false → is_up side L ≡ true → Stands b out s (L ++ tells_connector b.made (Lost side) L) → Stands b out s (L ++ ends_hub b.made side L)
  hub-lost d u h = either-not P L (is_dropped side) nothing lost d (either-so P L (is_up side) (tells_connector b.made (Lost side)) failed u h)

  pub hub-failed : is_dropped side L ≡ false → is_up side L ≡ false → is_under_way b.made side L ≡ true → Stands b out s (L ++ tells_connector b.made (Failed side) L)
      → Stands b out s (L ++ ends_hub b.made side L)
  hub-failed d u t h =
      either-not P L (is_dropped side) nothing lost d
      (either-not P L (is_up side) (tells_connector b.made (Lost side)) failed u (when-so P L (is_under_way b.made side) (tells_connector b.made (Failed side)) t h))

  pub hub-idle : is_dropped side L ≡ false → is_up side L ≡ false → is_under_way b.made side L ≡ false → Stands b out s L → Stands b out s (L ++ ends_hub b.made side L)
  hub-idle d u t h =
      either-not P L (is_dropped side) nothing lost d
      (either-not P L (is_up side) (tells_connector b.made (Lost side)) failed u (when-not P L (is_under_way b.made side) (tells_connector b.made (Failed side)) t h))
