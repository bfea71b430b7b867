use Rattle.bsc_serve.proofs.Alone.{entries_are_of_jobs, works_alone}
use Rattle.bsc_serve.proofs.laws.entries_are_of_jobs.Goals as goal

pub returns : goal.returns
returns g c = entries_are_of_jobs _ _ _ (works_alone _ _ _ _ _ _)
