use Rattle.std.proofs.Common.{refl}
use Rattle.bsc_desk.proofs.Leaves.{stands_counted}
use Rattle.bsc_desk.proofs.desk.Desk.count_now.Goals as goal

pub returns-clause-stands : goal.returns-clause-stands
returns-clause-stands c S p = stands_counted c.args.self.now _ S c.args.caller p c.requires.calls refl refl c.add.ensures.made c.add.ensures.counts refl
