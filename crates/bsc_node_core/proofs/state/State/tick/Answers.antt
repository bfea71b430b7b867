use Rattle.std.proofs.Common.{map, [], ◌∷◌, ◌++◌, refl}
use Rattle.std.proofs.lemmas.Result.{on_ok_weaker}
use Rattle.bsc_connector.specs.declared.side.Side.TheVariants.{Primary, Failover}
use Rattle.bsc_connector.specs.declared.event.ConnectorEvent.TheVariants.{Tick}
use Rattle.bsc_node.specs.declared.link_name.LinkName.TheVariants.{Hub}
use Rattle.bsc_node.specs.Logs.{in_order}
use Rattle.bsc_node.specs.Links.{names}
use Rattle.bsc_node.specs.Ending.{tells_connector}
use Rattle.bsc_node.specs.Events.{ticks_link}
use Rattle.bsc_node_core.specs.Standing.{Stands}
use Rattle.bsc_node_core.proofs.EachSlot.{names-then, some-then}
use Rattle.bsc_node_core.proofs.Together.{first-then, none-left}
use Rattle.bsc_node_core.proofs.state.State.tick.Goals as goal

pub returns : goal.returns
returns c = on_ok_weaker c.tell_connector.result
    (λ g b L r h.
    let f = ticks_link b.made in
    let tells = tells_connector b.made Tick in
    let primary = c.in_ok-tick_link.ensures b L r refl h in
    let M = L ++ f (Hub Primary) L in
    let failover = c.in_ok-tick_link-2.ensures b M r refl primary in
    let N = M ++ f (Hub Failover) M in
    let O = L ++ in_order (map f names) L in
    let all = names-then (Stands b _ _) f L (c.in_ok-tick_slots.ensures b N r failover) in
    some-then (Stands b _ _) L (map f names) (tells ∷ []) (first-then b _ _ O tells [] (none-left b _ _ (O ++ tells O) (g b O r all))))
    c.tell_connector.ensures
