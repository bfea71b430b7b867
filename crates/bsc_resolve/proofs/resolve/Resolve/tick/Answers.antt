use Rattle.std.proofs.Common.{refl}
use Rattle.bsc_resolve.proofs.Following.{time_passes}
use Rattle.bsc_resolve.proofs.resolve.Resolve.tick.Goals as goal

pub returns : goal.returns
returns c = time_passes c.args.self.now _ c.args.now refl c.tick.ensures.items
