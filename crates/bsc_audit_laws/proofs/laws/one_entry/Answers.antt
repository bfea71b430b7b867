use Rattle.bsc_journal.proofs.ReadBack.{one_entry}
use Rattle.bsc_audit_laws.proofs.laws.one_entry.Goals as goal

pub returns : goal.returns
returns c = one_entry
