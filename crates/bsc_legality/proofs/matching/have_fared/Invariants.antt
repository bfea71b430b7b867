use Rattle.bsc_history.specs.declared.looks.Look.{Look}
use Rattle.bsc_legality.specs.Deciding.{fares_so}
use Rattle.bsc_legality.proofs.Matches.{Matches}
use Rattle.bsc_legality.proofs.matching.have_fared.Given as goal

abbrev pub invariant-loop-look : goal.invariant-loop-look
invariant-loop-look l = Matches (λ (k : Look). k.conn) (fares_so l.full l.outbox l.rows) l.numbers l.at l.looks l.look-index
