use Rattle.bsc_ran_networks.proofs.Networks.{hubs_and_nodes_that_ran_deliver}
use Rattle.bsc_ran_networks.proofs.laws.hubs_and_nodes_that_ran_deliver.Goals as goal

pub returns : goal.returns
returns g c = hubs_and_nodes_that_ran_deliver _ _ _ _ _ _ _ _ _ c.hubs_that_ran_deliver.ensures c.runs_are_of_nodes.ensures c.stopped_runs_are_of_nodes.ensures c.ran_nodes_use_links.ensures
    c.stopped_nodes_use_links.ensures
