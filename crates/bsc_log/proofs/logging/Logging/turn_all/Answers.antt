use Rattle.std.proofs.Common.{◌≡◌, ◌≤◌, length, sym, arith, append-nil, rules}
use Rattle.bsc_log.proofs.Turnings.{given_all, given_more}
use Rattle.bsc_log.proofs.logging.Logging.turn_all.Goals as goal

pub loop-one-init : goal.loop-one-init
loop-one-init g c = sym (append-nil _)

pub loop-one-preserved : goal.loop-one-preserved
loop-one-preserved g c =
    given_more _ _ _ _ c.args.counts.now c.loop-one.one-index _ c.loop-one-test.true (search rules) c.loop-one.invariant c.turn_each.ensures

pub returns : goal.returns
returns g c =
    let past = c.loop-one-test.false in
    let end = c.loop-one.auto.one-index-end in
    let all : length c.args.counts.now ≤ c.loop-one.one-index = omega arith in
    (c.unwrap_or-since.result, given_all _ _ _ c.args.counts.now c.loop-one.one-index all c.loop-one.invariant)
