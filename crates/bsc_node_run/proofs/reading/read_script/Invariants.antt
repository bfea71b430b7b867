use Rattle.std.proofs.Common.{◌+◌, ◌≤◌, length, map}
use Rattle.bsc_text.specs.declared.bounds.TheConstants.{MAX_INPUT_LEN}
use Rattle.bsc_node_run.specs.Scripts.{wish_of}
use Rattle.bsc_node_run.proofs.Behind.{ReadSoFar}
use Rattle.bsc_node_run.proofs.reading.read_script.Given as goal

abbrev pub invariant-loop-left : goal.invariant-loop-left
invariant-loop-left l = record {
  so_far : ReadSoFar l.octets l.left l.before l.line l.reading.at l.reading.ended (map wish_of l.reading.lines.items);
  within : l.before ≤ MAX_INPUT_LEN;
  number : l.line ≤ l.before + 1;
}

abbrev pub decreases-loop-left : goal.decreases-loop-left
decreases-loop-left l = length l.left
