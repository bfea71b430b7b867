use Rattle.bsc_ran_networks.proofs.HubRuns.Ran.{hubs_ran}
use Rattle.bsc_ran_networks.proofs.hub_runs.laws.hubs_ran.Goals as goal

pub returns : goal.returns
returns g c = hubs_ran _ _ _ _ _ _ _ c.hub_runs_are.ensures
