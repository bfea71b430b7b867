use Rattle.bsc_load.specs.Storm.Inner.{Stayed}
use Rattle.bsc_load.proofs.storm.staying.stay_often.Given as goal

abbrev pub invariant-loop-k : goal.invariant-loop-k
invariant-loop-k g l = Stayed l.hub l.k l.fn.pass l.pass l.taken
