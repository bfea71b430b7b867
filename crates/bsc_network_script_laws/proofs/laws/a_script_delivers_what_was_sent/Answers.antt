use Rattle.bsc_network_script_laws.proofs.Lawful.{delivers_its_sends}
use Rattle.bsc_network_script_laws.proofs.laws.a_script_delivers_what_was_sent.Goals as goal

pub returns : goal.returns
returns c = delivers_its_sends
