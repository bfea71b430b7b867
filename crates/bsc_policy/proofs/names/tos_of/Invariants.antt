use Rattle.std.proofs.Common.{◌≡◌, map, take}
use Rattle.bsc_policy.specs.Classes.{names_of}
use Rattle.bsc_policy.proofs.names.tos_of.Given as goal

abbrev pub invariant-loop-rule : goal.invariant-loop-rule
invariant-loop-rule l = l.names.items ≡ names_of (map (λ r. r.to) (take l.rule-index l.rules))
