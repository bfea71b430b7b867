-- `ends_is` says when a list ends with another.
use Rattle.std.proofs.Common.{[], ◌∷◌}
use Rattle.bsc_text.proofs.pieces.before_last.Goals as goal
use Rattle.bsc_lemmas.proofs.Lists.{before-end}

pub returns : goal.returns
returns c = before-end c.strip_suffix.result c.args.octets.now (c.args.last ∷ []) c.strip_suffix.ensures.cases
