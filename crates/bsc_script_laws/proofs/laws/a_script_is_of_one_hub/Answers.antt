use Rattle.bsc_script_laws.proofs.OneHub.{one_hub}
use Rattle.bsc_script_laws.proofs.laws.a_script_is_of_one_hub.Goals as goal

pub returns : goal.returns
returns c = λ about lines s e. one_hub about lines s e
