use Rattle.std.proofs.Common.{◌≡◌, map, take}
use Rattle.bsc_policy.specs.Filing.{row_of}
use Rattle.bsc_policy.proofs.numbers.rows_of.Given as goal

abbrev pub invariant-loop-from : goal.invariant-loop-from
invariant-loop-from l = map (λ r. r.items) l.rows.items ≡ map (λ from. row_of l.rules l.tos from) (take l.from-index l.froms)
