use Rattle.std.proofs.Common.{◌≡◌, ◌++◌, codes, take, flat_map}
use Rattle.bsc_lines.specs.Lines.{look_text}
use Rattle.bsc_lines.proofs.calls.put_more_looks.Given as goal

abbrev pub invariant-loop-look : goal.invariant-loop-look
invariant-loop-look l = l.text.items ≡ l.fn.text.items ++ flat_map (λ k. codes "," ++ look_text k) (take l.look-index l.looks)
