use Rattle.bsc_frame.specs.Checks.{MessageFails, order}
use Rattle.bsc_frame.proofs.First.{first_or_none, one_first}
use Rattle.bsc_frame.proofs.Exact.{spelled_passes}
use Rattle.bsc_frame.proofs.laws.one_check.Goals as goal

pub returns : goal.returns
returns c =
    record {
      spelled = (λ msg m check spells first. first_or_none (MessageFails m) order check (spelled_passes msg m spells) first);
      first = (λ check other m first also. one_first (MessageFails m) order check other first also);
    }
