use Rattle.bsc_legality.proofs.Matches.{begins_at}
use Rattle.bsc_legality.proofs.matching.is_look_at.Goals as goal

pub returns-then-at-looks : goal.returns-then-at-looks
returns-then-at-looks c = begins_at (λ k. k.conn) c.args.conn c.args.at c.args.looks.now _ c.if-at-looks.true
