use Rattle.bsc_network_laws.proofs.Delivered.{delivers_by}
use Rattle.bsc_network_laws.proofs.laws.networks_deliver_what_was_sent.Goals as goal

pub returns : goal.returns
returns c = delivers_by c.npdus_pass_where_up.ensures
