use Rattle.bsc_journal.proofs.SaidOnce.{says_one}
use Rattle.bsc_audit_laws.proofs.laws.one_saying.Goals as goal

pub returns : goal.returns
returns c = says_one
