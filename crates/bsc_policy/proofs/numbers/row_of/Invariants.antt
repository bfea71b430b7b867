use Rattle.std.proofs.Common.{◌≡◌, map, take}
use Rattle.bsc_policy.specs.Decisions.{number_of}
use Rattle.bsc_policy.proofs.numbers.row_of.Given as goal

abbrev pub invariant-loop-to : goal.invariant-loop-to
invariant-loop-to l = l.row.items ≡ map (λ to. number_of l.rules l.from to) (take l.to-index l.tos)
