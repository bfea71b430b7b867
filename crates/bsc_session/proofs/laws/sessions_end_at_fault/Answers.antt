use Rattle.bsc_session.proofs.EndingAtFault.{sessions_end_at_fault}
use Rattle.bsc_session.proofs.laws.sessions_end_at_fault.Goals as goal

pub returns : goal.returns
returns c = sessions_end_at_fault
