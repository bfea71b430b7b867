use Rattle.bsc_history.proofs.Named.{adds_as_named}
use Rattle.bsc_history.proofs.laws.naming.Goals as goal

pub returns : goal.returns
returns c = adds_as_named
