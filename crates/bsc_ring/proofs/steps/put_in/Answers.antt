use Rattle.std.proofs.Common.{rules}
use Rattle.bsc_ring.proofs.Keeping.{loads_head, stores_tail}
use Rattle.bsc_ring.proofs.steps.put_in.Goals as goal

pub load-head-requires : goal.load-head-requires
load-head-requires c = (search rules, search rules, loads_head _ _ c.args.seat.now.me (search rules) (search rules) (search rules))

pub store-requires : goal.store-requires
store-requires c = (
  search rules,
  search rules,
  stores_tail _ _ c.exchange.new.seat.me c.args.sent 0 c.args.capacity c.args.frame (search rules) (search rules) (search rules) (search rules)
      (search rules) (search rules),
)
