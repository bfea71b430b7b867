use Rattle.std.proofs.Common.{refl}
use Rattle.bsc_node_core.proofs.Copying.{same-links}
use Rattle.bsc_node_core.proofs.state.State.copy.Goals as goal

pub returns : goal.returns
returns c = record {
  own = refl;
  next = refl;
  finishing = refl;
  renewals = refl;
  newest_hub = refl;
  dropped = refl;
  connector = refl;
  links = λ name n. same-links c.args.self.now.links c.in_ok-copy.field-0 c.in_ok-copy.ensures.primary c.in_ok-copy.ensures.failover c.in_ok-copy.ensures.slots name;
  direct = c.in_ok-copy-2.ensures;
}
