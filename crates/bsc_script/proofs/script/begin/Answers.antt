-- What stands after the first line that does something.
use Rattle.std.proofs.Common.{None, sym, append-nil}
use Rattle.bsc_script.specs.declared.line.Line.TheVariants.{Nothing}
use Rattle.bsc_script.proofs.Spoken.{begins_by}
use Rattle.bsc_script.proofs.script.begin.Goals as goal

pub returns-in-Nothing-clause-begun : goal.returns-in-Nothing-clause-begun
returns-in-Nothing-clause-begun c = λ b. begins_by None b c.args.line Nothing c.in-Nothing.is (tt {0}, sym (append-nil b))
