use Rattle.bsc_session_laws.proofs.Forwarding.{messages_are_given}
use Rattle.bsc_session_laws.proofs.laws.messages_are_given.Goals as goal

pub returns : goal.returns
returns c = λ v T R E frames ended x. messages_are_given v T R E frames ended x
