use Rattle.std.proofs.Common.{refl, sym}
use Rattle.bsc_resolve.proofs.Following.{answer_counts, answer_is_lost}
use Rattle.bsc_resolve.proofs.resolve.Resolve.answered.Goals as goal

pub returns-in-Some-clause-counts : goal.returns-in-Some-clause-counts
returns-in-Some-clause-counts c = answer_counts c.args.self.now _ c.args.id c.args.v c.args.uris c.in-Some.place (sym c.in-Some.ensures) refl c.learn_at.ensures.items

pub returns-in-None-clause-counts : goal.returns-in-None-clause-counts
returns-in-None-clause-counts c = answer_is_lost c.args.self.now c.args.id c.args.v c.args.uris (sym c.in-None.ensures)
