use Rattle.std.proofs.Common.{◌≤◌, length, ap, arith}
use Rattle.bsc_policy.specs.declared.bounds.TheConstants.{NAMES}
use Rattle.bsc_policy.proofs.Named.{few}
use Rattle.bsc_policy.proofs.names.Names.make.Goals as goal

pub invariant_of-result : goal.invariant_of-result
invariant_of-result c =
    let froms : length c.in_ok-froms.froms.items ≤ NAMES = omega (arith, ap length c.in_ok-froms.ensures, few (λ r. r.from) c.args.rules.now, c.requires) in
    let tos : length c.in_ok-tos.tos.items ≤ NAMES = omega (arith, ap length c.in_ok-tos.ensures, few (λ r. r.to) c.args.rules.now, c.requires) in
    record { few = (froms, tos) }
