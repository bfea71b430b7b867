use Rattle.std.proofs.Common.{refl, sym, ap, filter, ◌∙◌}
use Rattle.bsc_resolve.specs.Kept.{holds_something}
use Rattle.bsc_resolve.proofs.Following.{nak_counts, nak_is_lost}
use Rattle.bsc_resolve.proofs.resolve.Resolve.refused.Goals as goal

pub returns-in-Some-clause-counts : goal.returns-in-Some-clause-counts
returns-in-Some-clause-counts c = nak_counts c.args.self.now _ c.args.id c.args.v c.in-Some.place (sym c.in-Some.ensures) refl
    (c.let_go.ensures.items ∙ ap (filter holds_something) c.drop_at.ensures.items)

pub returns-in-None-clause-counts : goal.returns-in-None-clause-counts
returns-in-None-clause-counts c = nak_is_lost c.args.self.now c.args.id c.args.v (sym c.in-None.ensures)
