use Rattle.bsc_checks.proofs.Verdicts.{memory_of}
use Rattle.bsc_checks.proofs.judging.passed.Goals as goal

pub returns-in-Err-clause-memory : goal.returns-in-Err-clause-memory
returns-in-Err-clause-memory c = memory_of c.args.m.now c.read.result c.in-Err.field-0 c.read.ensures.memory (λ k is. (c.read.ensures.fails k).0 is) c.in-Err.is c.requires
