use Rattle.bsc_session_laws.proofs.Guarding.{policy_is_followed}
use Rattle.bsc_session_laws.proofs.laws.policy_is_followed.Goals as goal

pub returns : goal.returns
returns c = λ v T R E frames ended x. policy_is_followed v T R E frames ended x
