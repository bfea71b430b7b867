use Rattle.std.proofs.Common.{rules}
use Rattle.bsc_ring.proofs.Notes.{confirms}
use Rattle.bsc_ring.proofs.steps.load_head.Goals as goal

pub load-requires : goal.load-requires
load-requires c = (search rules, search rules, confirms _ _ c.args.seat.now.me)
