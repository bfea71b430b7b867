-- What was heard so far; a line that is heard leaves less.
use Rattle.std.proofs.Common.{◌-◌, length}
use Rattle.bsc_audit.specs.Hearing.{HasHeard}
use Rattle.bsc_audit.proofs.hearing.hear_whole.Given as goal

abbrev pub invariant-loop-n : goal.invariant-loop-n
invariant-loop-n l = HasHeard l.octets l.heard

abbrev pub decreases-loop-n : goal.decreases-loop-n
decreases-loop-n l = length l.octets - l.heard.at
