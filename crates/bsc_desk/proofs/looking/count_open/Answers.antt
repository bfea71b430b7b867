use Rattle.std.proofs.Common.{◌≡◌, length, arith}
use Rattle.bsc_desk.proofs.Resting.{live_none}
use Rattle.bsc_desk.proofs.looking.count_open.Goals as goal

pub returns : goal.returns
returns c =
    let past = c.loop-row-test.false in
    let end = c.loop-row.auto.row-index-end in
    let all : c.loop-row.row-index ≡ length c.args.rows.now = omega arith in
    let none = live_none c.args.rows.now c.loop-row.row-index all in
    let so = c.loop-row.invariant.0 in
    omega arith
