-- Nothing was said yet.
use Rattle.std.proofs.Common.{refl}
use Rattle.bsc_audit.proofs.FileFacts.Summed.{sums_nothing}
use Rattle.bsc_audit.proofs.files.sums.no_sums.Goals as goal

pub returns : goal.returns
returns c = sums_nothing _ refl refl refl
