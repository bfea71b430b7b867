use Rattle.bsc_session_laws.proofs.Putting.{are_taken}
use Rattle.bsc_session_laws.proofs.laws.npdus_are_taken.Goals as goal

pub returns : goal.returns
returns c = λ v T R E frames ended x. are_taken c.policy_is_followed.ensures v T R E frames ended x
