use Rattle.std.specs.Prelude.{true}
use Rattle.bsc_desk.specs.Changes.{FinishesIf}
use Rattle.bsc_desk.proofs.Finishing.{DoneTo}
use Rattle.bsc_desk.proofs.rows.finish_each.Given as goal

abbrev pub invariant-loop-row : goal.invariant-loop-row
invariant-loop-row l = DoneTo (FinishesIf true l.ending) l.row-index l.initial.rows l.rows
