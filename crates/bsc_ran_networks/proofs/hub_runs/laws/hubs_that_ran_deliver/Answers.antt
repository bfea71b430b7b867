use Rattle.bsc_ran_networks.proofs.HubRuns.Networks.{hubs_that_ran_deliver}
use Rattle.bsc_ran_networks.proofs.hub_runs.laws.hubs_that_ran_deliver.Goals as goal

pub returns : goal.returns
returns g c = hubs_that_ran_deliver _ _ _ _ _ _ _ c.hubs_ran.ensures c.runs_deliver_what_was_sent.ensures
