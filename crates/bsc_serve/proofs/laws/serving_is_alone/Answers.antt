use Rattle.bsc_serve.proofs.Alone.{serving_is_alone, works_alone}
use Rattle.bsc_serve.proofs.laws.serving_is_alone.Goals as goal

pub returns : goal.returns
returns g c = serving_is_alone _ _ _ (works_alone _ _ _ _ _ _)
