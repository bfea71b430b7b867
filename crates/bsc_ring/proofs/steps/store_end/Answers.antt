use Rattle.std.proofs.Common.{rules}
use Rattle.bsc_ring.proofs.Keeping.{stores_end}
use Rattle.bsc_ring.proofs.steps.store_end.Goals as goal

pub store-requires : goal.store-requires
store-requires c = (search rules, search rules, stores_end _ _ c.args.seat.now.me _ c.args.ending (search rules) (search rules) (search rules) (search rules))
