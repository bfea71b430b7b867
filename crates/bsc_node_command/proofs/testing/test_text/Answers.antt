use Rattle.std.proofs.Common.{inl, inr, rules}
use Rattle.bsc_node_command.proofs.testing.test_text.Goals as goal

pub returns-in-Ok-clause-tested : goal.returns-in-Ok-clause-tested
returns-in-Ok-clause-tested g c f f' = inr (inl (c.in-Ok._script.lines.items, c.in-Ok.ensures.read, c.tell.ensures.says))

pub returns-in-Err-BadLine-clause-tested : goal.returns-in-Err-BadLine-clause-tested
returns-in-Err-BadLine-clause-tested g c f f' =
    inl (c.in-Err-BadLine.line, c.read_script.ensures.refused c.in-Err-BadLine.line (search rules), c.end_play.ensures.ends)

pub returns-in-Err-NoMemory-clause-tested : goal.returns-in-Err-NoMemory-clause-tested
returns-in-Err-NoMemory-clause-tested g c f f' = inr (inr (c.out_of_memory.ensures.status, c.out_of_memory.ensures.tried))
