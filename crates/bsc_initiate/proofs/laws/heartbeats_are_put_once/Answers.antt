use Rattle.bsc_initiate.proofs.Beating.{beats_apart}
use Rattle.bsc_initiate.proofs.laws.heartbeats_are_put_once.Goals as goal

pub returns-clause-apart : goal.returns-clause-apart
returns-clause-apart c = λ s E later now id next other first quiet. beats_apart s E later now id next other _ _ first quiet
