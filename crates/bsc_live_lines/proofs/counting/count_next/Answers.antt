use Rattle.std.proofs.Common.{[], ◌∷◌}
use Rattle.bsc_live_lines.proofs.counting.count_next.Goals as goal

pub returns : goal.returns
returns g c first h = (c.take-taken.result ∷ [], c.take-taken.ensures.told, c.count_taken.ensures first h)
