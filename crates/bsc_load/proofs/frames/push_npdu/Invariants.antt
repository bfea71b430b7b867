use Rattle.std.proofs.Common.{◌≡◌, ◌+◌, ◌%◌, ◌++◌, map}
use Rattle.std.specs.List.{range_with_len}
use Rattle.bsc_load.proofs.frames.push_npdu.Given as goal

abbrev pub invariant-loop-j : goal.invariant-loop-j
invariant-loop-j l = l.message.items ≡ l.fn.message.items ++ map (λ j. (l.fn.i + l.fn.k + j) % 256) (range_with_len 0 l.j)
