use Rattle.bsc_connector.proofs.SideLemmas.{wait-doubled}
use Rattle.bsc_connector.proofs.laws.waits_double.Goals as goal

pub returns-clause-doubled : goal.returns-clause-doubled
returns-clause-doubled c = λ w n. wait-doubled w n
