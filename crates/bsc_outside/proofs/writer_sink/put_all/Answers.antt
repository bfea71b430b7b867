use Rattle.std.proofs.Common.{arith}
use Rattle.bsc_outside.proofs.Puts.{appends_more}
use Rattle.bsc_outside.proofs.writer_sink.put_all.Goals as goal

pub loop-at-preserved : goal.loop-at-preserved
loop-at-preserved g c =
    let h = rw c.in-Some.ensures.some.0 at c.write.ensures in
    let bytes = rw c.split_at.ensures.back at h.bytes in
    (omega (arith, h.bound, c.split_at.ensures.back_len), appends_more _ _ _ c.args.from.now c.loop-at.at c.in-Some.n c.loop-at.invariant.1 bytes)
