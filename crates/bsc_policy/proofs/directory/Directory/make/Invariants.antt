use Rattle.bsc_policy.proofs.Filed.{FiledTo}
use Rattle.bsc_policy.proofs.directory.Directory.make.Given as goal

abbrev pub invariant-loop-member : goal.invariant-loop-member
invariant-loop-member l = FiledTo l.member-index l.members l.names l.filed
