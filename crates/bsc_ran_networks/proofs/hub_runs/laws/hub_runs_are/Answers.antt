use Rattle.bsc_ran_networks.proofs.HubRuns.Runs.{hub_runs_are}
use Rattle.bsc_ran_networks.proofs.hub_runs.laws.hub_runs_are.Goals as goal

pub returns : goal.returns
returns g c = hub_runs_are _ _ _ _ _ _ _ c.serving_gives_sessions.ensures c.all_but_stop_are_of_jobs.ensures c.jobs_end_at_last.ensures c.jobs_are_apart.ensures
