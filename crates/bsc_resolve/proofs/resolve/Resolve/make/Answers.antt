use Rattle.std.proofs.Common.{refl}
use Rattle.bsc_resolve.proofs.Following.{made}
use Rattle.bsc_resolve.proofs.resolve.Resolve.make.Goals as goal

pub returns : goal.returns
returns c = made _ c.args.wait refl c.in_ok-with_capacity.ensures.items
