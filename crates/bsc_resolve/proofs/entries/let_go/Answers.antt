use Rattle.std.proofs.Common.{rules, tests}
use Rattle.std.proofs.lemmas.Fn.{filter_same}
use Rattle.bsc_resolve.specs.Kept.{holds_something}
use Rattle.bsc_resolve.proofs.entries.let_go.Goals as goal

pub returns-clause-items : goal.returns-clause-items
returns-clause-items c = filter_same _ holds_something _ (λ x b q k. search (rules, tests)) _ _ c.retain.ensures.filtered
