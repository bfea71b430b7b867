use Rattle.bsc_session_laws.proofs.Connecting.{connects_are_asked}
use Rattle.bsc_session_laws.proofs.laws.connects_are_asked.Goals as goal

pub returns : goal.returns
returns c = λ v T R E frames ended x. connects_are_asked v T R E frames ended x
