use Rattle.std.proofs.Common.{rules}
use Rattle.bsc_ring.proofs.Keeping.{loads_end}
use Rattle.bsc_ring.proofs.steps.load_end.Goals as goal

pub load-found-requires : goal.load-found-requires
load-found-requires c = (search rules, search rules, loads_end _ _ c.args.seat.now.me (search rules))
