use Rattle.bsc_node_core.proofs.Starting.{made-stands}
use Rattle.bsc_node_core.proofs.node.Node.make.Goals as goal
use Rattle.std.proofs.Common.{refl}

pub returns : goal.returns
returns c = record {
  limits = refl;
  kept = made-stands (record {
    own = c.args.own;
    limits = c.args.limits;
  }) c.in_ok-resolve.resolve c.make-connector.result c.in_ok-make-2.field-0 c.in_ok-make.field-0 c.is_some.result c.is_some.ensures c.make-connector.ensures
      c.in_ok-make-2.ensures c.in_ok-make.ensures.primary c.in_ok-make.ensures.failover
      c.in_ok-make.ensures.slots
      c.in_ok-resolve.ensures c.in_ok-spare.spare c.in_ok-spare.ensures;
  begun = refl;
}
