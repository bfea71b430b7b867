use Rattle.std.proofs.Common.{refl, ◌++◌}
use Rattle.std.proofs.lemmas.Result.{on_ok_weaker}
use Rattle.bsc_connector.specs.declared.side.Side.TheVariants.{Failover}
use Rattle.bsc_node.specs.declared.link_name.LinkName.TheVariants.{Hub}
use Rattle.bsc_node_core.proofs.Dialling.{closes_there, failover-dialled}
use Rattle.bsc_node_core.proofs.state.State.dial_failover.Goals as goal

pub returns : goal.returns
returns c = on_ok_weaker c.dial.result
    (λ g b L t n h. failover-dialled b _ _ L _ _ c.in_ok-uri.ensures (g b (L ++ closes_there (Hub Failover) L) t n refl (c.in_ok-close_there.ensures b L refl h)))
    c.dial.ensures
