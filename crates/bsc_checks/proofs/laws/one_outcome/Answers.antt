use Rattle.bsc_checks.proofs.Existence.{outcome_judged}
use Rattle.bsc_checks.proofs.Outcomes.{outcome_is}
use Rattle.bsc_checks.proofs.laws.one_outcome.Goals as goal

pub returns : goal.returns
returns c =
    record {
      has = (λ m place max octets. outcome_judged m place max octets);
      only = (λ m place max verdict octets judged. outcome_is m place max verdict octets judged);
    }
