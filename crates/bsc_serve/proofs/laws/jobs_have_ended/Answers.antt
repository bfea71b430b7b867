use Rattle.bsc_serve.proofs.Alone.{jobs_have_ended, works_alone}
use Rattle.bsc_serve.proofs.laws.jobs_have_ended.Goals as goal

pub returns : goal.returns
returns g c = jobs_have_ended _ _ _ (works_alone _ _ _ _ _ _)
