use Rattle.std.proofs.Common.{refl}
use Rattle.bsc_desk.proofs.Standings.{stands_none}
use Rattle.bsc_desk.proofs.desk.Desk.make.Goals as goal

pub returns-clause-stands : goal.returns-clause-stands
returns-clause-stands c = stands_none _ refl c.new.ensures.made c.new.ensures.counts c.in_ok-with_capacity.ensures.items
