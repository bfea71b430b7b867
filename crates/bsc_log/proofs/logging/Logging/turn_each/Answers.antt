use Rattle.std.proofs.Common.{◌≡◌, ℕ, sym, arith, append-nil}
use Rattle.bsc_log.specs.Turnings.{turned_at}
use Rattle.bsc_log.proofs.Turnings.{one_more, so_many}
use Rattle.bsc_log.proofs.logging.Logging.turn_each.Goals as goal

pub loop-at-init : goal.loop-at-init
loop-at-init g c = sym (append-nil _)

pub loop-at-preserved : goal.loop-at-preserved
loop-at-preserved g c = one_more _ _ _ (turned_at c.args.since c.args.count.now.0) c.loop-at.at c.loop-at.invariant c.turn.ensures

pub returns : goal.returns
returns g c =
    let all : c.loop-at.at ≡ c.args.count.now.1 = omega (arith, c.loop-at-test.false, c.loop-at.auto.at-end) in
    so_many _ _ (turned_at c.args.since c.args.count.now.0) c.loop-at.at c.args.count.now.1 all c.loop-at.invariant
