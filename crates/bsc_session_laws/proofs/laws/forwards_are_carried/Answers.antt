use Rattle.bsc_session_laws.proofs.Owning.{forwards_are_carried}
use Rattle.bsc_session_laws.proofs.laws.forwards_are_carried.Goals as goal

pub returns : goal.returns
returns c = λ v T R E frames ended x. forwards_are_carried v T R E frames ended x
