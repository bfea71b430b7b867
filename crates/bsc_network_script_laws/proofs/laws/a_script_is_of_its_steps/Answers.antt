use Rattle.bsc_network_script_laws.proofs.Stepping.{is_of_its_steps}
use Rattle.bsc_network_script_laws.proofs.laws.a_script_is_of_its_steps.Goals as goal

pub returns : goal.returns
returns c = is_of_its_steps
