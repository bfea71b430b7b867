use Rattle.bsc_audit.proofs.OneHistory.{one_history}
use Rattle.bsc_audit_laws.proofs.laws.one_history.Goals as goal

pub returns : goal.returns
returns c = one_history
