-- A hub, an entry or something denied is summed up behind what was said.
use Rattle.std.proofs.Common.{refl}
use Rattle.bsc_audit.proofs.FileFacts.Summed.{by_denial, by_entry, by_hub}
use Rattle.bsc_audit.proofs.files.sums.sum_up.Goals as goal

pub returns-in-Hub : goal.returns-in-Hub
returns-in-Hub c = λ said so. by_hub c.args.sums.now _ said _ c.in-Hub.about c.in-Hub.is c.saturating_add-sums.ensures refl refl so

pub returns-in-Entry : goal.returns-in-Entry
returns-in-Entry c = λ said so. by_entry c.args.sums.now _ said _ _ _ c.in-Entry.is refl refl c.saturating_add-sums-in-Entry.ensures so

pub returns-in-Denial : goal.returns-in-Denial
returns-in-Denial c = λ said so. by_denial c.args.sums.now _ said _ c.in-Denial.is refl so
