use Rattle.bsc_legality.proofs.Breaches.{names_each}
use Rattle.bsc_legality.proofs.laws.names_each.Goals as goal

pub returns : goal.returns
returns c = λ a H e. names_each a H e
