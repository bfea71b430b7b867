use Rattle.std.proofs.Common.{◌≡◌, ◌++◌, List, take, flat_map}
use Rattle.bsc_log.specs.declared.line.Line.{Line}
use Rattle.bsc_log.specs.Batches.{AllSay, ended_text}
use Rattle.bsc_log.proofs.batch.put_told.Given as goal

abbrev pub invariant-loop-one : goal.invariant-loop-one
invariant-loop-one l = (lines : List Line) × AllSay (take l.one-index l.told) lines × (l.text.items ≡ l.fn.text.items ++ flat_map ended_text lines)
