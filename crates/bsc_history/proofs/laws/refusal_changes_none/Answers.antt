use Rattle.bsc_history.proofs.Refusing.{refusal_changes_none}
use Rattle.bsc_history.proofs.laws.refusal_changes_none.Goals as goal

pub returns : goal.returns
returns c = refusal_changes_none
