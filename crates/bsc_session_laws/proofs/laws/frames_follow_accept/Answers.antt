use Rattle.bsc_session_laws.proofs.Accepting.{frames_follow_accept}
use Rattle.bsc_session_laws.proofs.laws.frames_follow_accept.Goals as goal

pub returns : goal.returns
returns c = λ v T R E frames ended x. frames_follow_accept v T R E frames ended x
