use Rattle.std.proofs.Common.{rules}
use Rattle.bsc_direct.proofs.Following.{made}
use Rattle.bsc_direct.proofs.direct.Direct.make.Goals as goal

pub returns : goal.returns
returns c = made _ (c.in_ok-vec.ensures.items_if_clones_equal (λ y h. search rules))
