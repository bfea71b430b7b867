use Rattle.std.proofs.Common.{ap, is_some, ◌∙◌}
use Rattle.bsc_resolve.proofs.Following.{awaits_kept}
use Rattle.bsc_resolve.proofs.resolve.Resolve.awaits.Goals as goal

pub returns : goal.returns
returns c = λ wait calls s. c.is_some.ensures ∙ ap is_some c.awaiting.ensures ∙ awaits_kept c.args.self.now c.args.id c.args.v wait calls s
