use Rattle.bsc_serve.proofs.Alone.{jobs_end_at_last, works_alone}
use Rattle.bsc_serve.proofs.laws.jobs_end_at_last.Goals as goal

pub returns : goal.returns
returns g c = jobs_end_at_last _ _ _ (works_alone _ _ _ _ _ _)
