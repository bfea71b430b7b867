use Rattle.std.proofs.Common.{◌≡◌, true, length, arith}
use Rattle.bsc_desk.specs.Changes.{FinishesIf}
use Rattle.bsc_desk.proofs.Finishing.{done_all, done_next}
use Rattle.bsc_desk.proofs.rows.finish_each.Goals as goal

pub loop-row-preserved : goal.loop-row-preserved
loop-row-preserved c = done_next (FinishesIf true c.args.ending) c.loop-row.row-index c.args.rows.now c.loop-row.rows c.row-item.result c.finish.new.self c.loop-row-test.true c.loop-row.invariant c.finish.ensures

pub returns : goal.returns
returns c =
    let past = c.loop-row-test.false in
    let end = c.loop-row.auto.row-index-end in
    let all : c.loop-row.row-index ≡ length c.args.rows.now = omega arith in
    done_all (FinishesIf true c.args.ending) c.loop-row.row-index c.args.rows.now c.loop-row.rows all c.loop-row.invariant
