use Rattle.std.proofs.Common.{refl}
use Rattle.bsc_node_core.proofs.state.State.touch_all.Goals as goal

pub returns-clause-same : goal.returns-clause-same
returns-clause-same c = record {
  own = refl;
  next = refl;
  finishing = refl;
  renewals = refl;
  newest_hub = refl;
  dropped = refl;
  connector = refl;
  links = λ name n. refl;
  direct = refl;
}
