use Rattle.std.proofs.Common.{arith}
use Rattle.bsc_edge.proofs.Common.{stays_same, stays_then}
use Rattle.bsc_serve.proofs.Earlier.{gave_next, gave_none}
use Rattle.bsc_serve.proofs.taking_in.await_all.Goals as goal

pub loop-init : goal.loop-init
loop-init g c =
    let P = g.P.Spawner in (
      (λ can. can),
      stays_same (P.jobs c.args.spawner.now),
      gave_none (P.out c.args.spawner.now) (P.ends c.args.spawner.now),
      omega arith,
      (tt, tt),
    )

pub loop-preserved : goal.loop-preserved
loop-preserved g c =
    let P = g.P.Spawner in
    let k = c.next_end.ensures in (
      (λ can. k.again (c.loop.invariant.0 can)),
      stays_then (P.jobs c.args.spawner.now) (P.jobs c.loop.spawner) (P.jobs c.next_end.new.self) c.loop.invariant.1 k.jobs,
      gave_next g.J.Job.works (P.out c.args.spawner.now) (P.out c.loop.spawner) (P.out c.next_end.new.self)
          (P.ends c.args.spawner.now) (P.ends c.loop.spawner) (P.ends c.next_end.new.self) c.next_end.result c.loop.invariant.2 k.out k.ends,
      omega (arith, c.loop.invariant.3, k.later),
      (tt, tt),
    )

pub returns-then-is_none-clause-gave : goal.returns-then-is_none-clause-gave
returns-then-is_none-clause-gave g c =
    let P = g.P.Spawner in
    let k = c.next_end.ensures in
    gave_next g.J.Job.works (P.out c.args.spawner.now) (P.out c.loop.spawner) (P.out c.next_end.new.self)
    (P.ends c.args.spawner.now) (P.ends c.loop.spawner) (P.ends c.next_end.new.self) c.next_end.result c.loop.invariant.2 k.out k.ends
