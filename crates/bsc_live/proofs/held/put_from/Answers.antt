use Rattle.std.proofs.Common.{arith}
use Rattle.std.proofs.KnownBytes.{Keeps-trans}
use Rattle.bsc_live.proofs.Written.{moved, stayed, untaken}
use Rattle.bsc_live.proofs.held.put_from.Goals as goal

pub loop-at-preserved : goal.loop-at-preserved
loop-at-preserved g c =
    let left = rw (c.in-Ok.ensures.some.0, c.split_at.ensures.back) at c.put.ensures.left in
    let bound = rw c.in-Ok.ensures.some.0 at c.put.ensures.bound in (
      omega (arith, bound, c.split_at.ensures.back_len),
      Keeps-trans _ _ _ c.loop-at.invariant.1 (moved _ _ c.args.octets.now c.loop-at.at c.in-Ok.n left),
    )

pub returns-in-Err-clause-written : goal.returns-in-Err-clause-written
returns-in-Err-clause-written g c =
    Keeps-trans _ _ _ c.loop-at.invariant.1 (stayed _ _ c.args.octets.now c.loop-at.at (untaken _ _ _ _ (c.taken.ensures.none (search)) c.put.ensures.left))
