use Rattle.std.proofs.Common.{◌≡◌, ◌++◌, codes, decimal, take, flat_map}
use Rattle.bsc_lines.proofs.replies.put_more.Given as goal

abbrev pub invariant-loop-n : goal.invariant-loop-n
invariant-loop-n l = l.text.items ≡ l.fn.text.items ++ flat_map (λ k. codes "," ++ decimal k) (take l.n-index l.numbers)
