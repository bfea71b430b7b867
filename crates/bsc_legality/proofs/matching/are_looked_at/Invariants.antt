use Rattle.std.proofs.Common.{not}
use Rattle.bsc_legality.specs.Deciding.{conns, is_long_at, is_meant_with}
use Rattle.bsc_legality.specs.Rows.{number}
use Rattle.bsc_legality.proofs.Matches.{Matches}
use Rattle.bsc_legality.proofs.matching.are_looked_at.Given as goal

abbrev pub invariant-loop-row : goal.invariant-loop-row
invariant-loop-row l = Matches number (is_meant_with l.sender (λ r. not (is_long_at l.size r))) (conns l.looks) l.at l.rows l.row-index
