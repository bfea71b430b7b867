use Rattle.std.proofs.Common.{refl}
use Rattle.bsc_resolve.proofs.Following.{asked_again, asked_twice}
use Rattle.bsc_resolve.proofs.resolve.Resolve.ask_again.Goals as goal

pub returns-in-Some-clause-refused : goal.returns-in-Some-clause-refused
returns-in-Some-clause-refused c = asked_twice c.args.self.now c.args.v c.args.place c.index.result.now c.in-Some.under_way c.requires c.index.ensures c.in-Some.is

pub returns-in-None-clause-asked : goal.returns-in-None-clause-asked
returns-in-None-clause-asked c =
    asked_again c.args.self.now _ c.args.v c.args.place c.index.result.now c.args.question.asked c.args.question.id c.requires c.index.ensures c.in-None.is refl c.ask_at.ensures.items
