use Rattle.std.proofs.Common.{refl}
use Rattle.bsc_node_core.proofs.state.State.touch_nothing.Goals as goal

pub returns : goal.returns
returns c = record {
  own = refl;
  next = refl;
  finishing = refl;
  renewals = refl;
  newest_hub = refl;
  dropped = refl;
  connector = refl;
  links = λ name n. refl;
  direct = refl;
}
