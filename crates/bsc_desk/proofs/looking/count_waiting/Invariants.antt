use Rattle.bsc_desk.specs.Changes.{Rests}
use Rattle.bsc_desk.proofs.Finishing.{DoneTo}
use Rattle.bsc_desk.proofs.looking.count_waiting.Given as goal

abbrev pub invariant-loop-row : goal.invariant-loop-row
invariant-loop-row l = DoneTo Rests l.row-index l.initial.rows l.rows
