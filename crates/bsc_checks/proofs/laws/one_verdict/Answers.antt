use Rattle.bsc_checks.proofs.Unique.{one_verdict}
use Rattle.bsc_checks.proofs.laws.one_verdict.Goals as goal

pub returns : goal.returns
returns c = λ m place max verdict other judged also. one_verdict m place max verdict other judged also
