use Rattle.std.proofs.Common.{◌∙◌, ◌++◌, ◌∷◌, [], sym}
use Rattle.bsc_legality.proofs.Advances.{follows}
use Rattle.bsc_legality.proofs.Decides.{decides}
use Rattle.bsc_legality.proofs.Ordered.{alone, ordered}
use Rattle.bsc_legality.proofs.legality.Legality.entry.Goals as goal

pub accepts-requires-clause-rising : goal.accepts-requires-clause-rising
accepts-requires-clause-rising c = ordered c.args.self.now c.requires.some.0 c.requires.some.1 c.requires.some.2

pub accepts-requires-clause-alone : goal.accepts-requires-clause-alone
accepts-requires-clause-alone c = alone c.args.self.now c.requires.some.0 c.requires.some.1 c.requires.some.2

pub follow-requires-clause-rising : goal.follow-requires-clause-rising
follow-requires-clause-rising c = ordered c.args.self.now c.requires.some.0 c.requires.some.1 c.requires.some.2

pub returns-then-accepts-clause-legal : goal.returns-then-accepts-clause-legal
returns-then-accepts-clause-legal c a H s = decides c.args.self.now a H c.args.entry.now _ s (sym c.if-accepts.true ∙ c.accepts.ensures)

pub returns-then-accepts-clause-stands : goal.returns-then-accepts-clause-stands
returns-then-accepts-clause-stands c a H s h = follows c.args.self.now c.follow.new.self a H c.args.entry.now s (sym c.accepts.ensures ∙ c.if-accepts.true) c.follow.ensures

pub returns-then-accepts-clause-goes_on : goal.returns-then-accepts-clause-goes_on
returns-then-accepts-clause-goes_on c =
    let some = c.requires.some in
    (some.0, some.1 ++ c.args.entry.now ∷ [], follows c.args.self.now c.follow.new.self some.0 some.1 c.args.entry.now some.2 (sym c.accepts.ensures ∙ c.if-accepts.true) c.follow.ensures)

pub returns-else-accepts-clause-legal : goal.returns-else-accepts-clause-legal
returns-else-accepts-clause-legal c a H s = decides c.args.self.now a H c.args.entry.now _ s (sym c.if-accepts.false ∙ c.accepts.ensures)
