use Rattle.bsc_serve.proofs.Alone.{all_but_stop_are_of_jobs, works_alone}
use Rattle.bsc_serve.proofs.laws.all_but_stop_are_of_jobs.Goals as goal

pub returns : goal.returns
returns g c = all_but_stop_are_of_jobs _ _ _ (works_alone _ _ _ _ _ _)
