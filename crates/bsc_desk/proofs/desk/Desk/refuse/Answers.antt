use Rattle.std.proofs.Common.{refl}
use Rattle.bsc_desk.proofs.Connects.{stands_refused}
use Rattle.bsc_desk.proofs.desk.Desk.refuse.Goals as goal

pub returns-clause-stands : goal.returns-clause-stands
returns-clause-stands c S m p l = stands_refused c.args.self.now _ S c.args.caller c.args.who m c.args.refusal p l refl refl c.add.ensures.made c.add.ensures.counts refl
