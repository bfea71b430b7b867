use Rattle.bsc_legality.specs.Deciding.{is_long_at, is_meant_with}
use Rattle.bsc_legality.specs.Rows.{number}
use Rattle.bsc_legality.proofs.Matches.{Matches}
use Rattle.bsc_legality.proofs.matching.are_skipped.Given as goal

abbrev pub invariant-loop-row : goal.invariant-loop-row
invariant-loop-row l = Matches number (is_meant_with l.sender (is_long_at l.size)) l.numbers l.at l.rows l.row-index
