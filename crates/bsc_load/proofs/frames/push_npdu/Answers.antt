use Rattle.std.proofs.Common.{◌∙◌, ◌++◌, ◌∷◌, [], ap, List, ℕ, ◌+◌, ◌%◌, map}
use Rattle.std.specs.List.{range_with_len}
use Rattle.bsc_load.proofs.Lists.{npdu_more}
use Rattle.bsc_load.proofs.frames.push_npdu.Goals as goal

pub loop-j-preserved : goal.loop-j-preserved
loop-j-preserved c =
    let so_far : List ℕ = c.args.message.now.items ++ map (λ j. (c.args.i + c.args.k + j) % 256) (range_with_len 0 c.loop-j.j) in
    c.in_ok-push.ensures.items ∙ ap (λ (l : List ℕ). l ++ c.npdu_octet.result ∷ []) c.loop-j.invariant ∙ ap (λ (x : ℕ). so_far ++ x ∷ []) c.npdu_octet.ensures
    ∙ npdu_more c.args.message.now.items c.args.i c.args.k c.loop-j.j
