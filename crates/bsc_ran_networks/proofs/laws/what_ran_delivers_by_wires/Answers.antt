use Rattle.bsc_ran_networks.proofs.Wires.{what_ran_delivers_by_wires}
use Rattle.bsc_ran_networks.proofs.laws.what_ran_delivers_by_wires.Goals as goal

pub returns : goal.returns
returns g c = what_ran_delivers_by_wires _ _ _ _ _ _ _ _ _ c.hubs_that_ran_deliver.ensures c.runs_are_of_nodes.ensures c.stopped_runs_are_of_nodes.ensures c.ran_nodes_use_links.ensures
    c.stopped_nodes_use_links.ensures c.wires_are_links.ensures
