use Rattle.bsc_serve.proofs.Looking.{needs_asker}
use Rattle.bsc_serve.proofs.laws.requests_need_askers.Goals as goal

pub returns : goal.returns
returns c = needs_asker
