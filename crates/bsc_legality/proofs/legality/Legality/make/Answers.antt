use Rattle.std.proofs.Common.{refl}
use Rattle.bsc_legality.proofs.Advances.{stands_none}
use Rattle.bsc_legality.proofs.legality.Legality.make.Goals as goal

pub returns-clause-stands : goal.returns-clause-stands
returns-clause-stands c = stands_none _ c.args.about.now refl refl refl refl c.in_ok-with_capacity.ensures.items
