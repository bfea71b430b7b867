use Rattle.bsc_load.proofs.Appended.{appended_is_sent}
use Rattle.bsc_load.proofs.laws.appended_is_sent.Goals as goal

pub returns : goal.returns
returns c = appended_is_sent
