use Rattle.std.proofs.Common.{map, ◌++◌, refl}
use Rattle.std.proofs.lemmas.Result.{on_ok_weaker}
use Rattle.bsc_connector.specs.declared.side.Side.TheVariants.{Primary, Failover}
use Rattle.bsc_node.specs.declared.link_name.LinkName.TheVariants.{Hub}
use Rattle.bsc_node.specs.Links.{names}
use Rattle.bsc_node.specs.Ending.{finishes_link, tells_finished}
use Rattle.bsc_node_core.specs.Standing.{Stands}
use Rattle.bsc_node_core.proofs.EachSlot.{one-then, names-then}
use Rattle.bsc_node_core.proofs.state.State.finish.Goals as goal

pub returns : goal.returns
returns c = on_ok_weaker c.finish_slots.result
    (λ g b L r h.
    let f = finishes_link b.made in
    let M = L ++ tells_finished L in
    let N = M ++ f (Hub Primary) M in
    let primary = c.in_ok-finish_link.ensures b M r refl (c.in_ok-tell_finished.ensures b L h) in
    let failover = c.in_ok-finish_link-2.ensures b N r refl primary in
    one-then (Stands b _ _) L tells_finished (map f names)
    (names-then (Stands b _ _) f M (g b (N ++ f (Hub Failover) N) r failover)))
    c.finish_slots.ensures
