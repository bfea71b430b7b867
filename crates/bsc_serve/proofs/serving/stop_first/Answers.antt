use Rattle.std.proofs.Common.{ℕ, subst}
use Rattle.std.specs.Arc.{arc_value}
use Rattle.bsc_hub.specs.declared.hub.Hub.{Hub}
use Rattle.bsc_session.specs.Jobs.{Worked}
use Rattle.bsc_serve.specs.Inner.{Stopped, TakesIn}
use Rattle.bsc_serve.specs.Waking.{LastIs, stop_place}
use Rattle.bsc_serve.specs.Worlds.{Stock}
use Rattle.bsc_serve.proofs.Waking.{last_told, stands_at}
use Rattle.bsc_serve.proofs.serving.stop_first.Goals as goal

pub returns-clause-stops : goal.returns-clause-stops
returns-clause-stops g c =
    let P = g.P.Spawner in
    let W = Worked g.L.Link.talk g.L.Link.faults g.L.Link.notices g.C.Clock.readings g.N.Sink.held g.N.Sink.faults in
    let h = arc_value c.args.served.hub.now in
    let s : Stock g.row.L.Denot g.row.C.Denot g.row.N.Denot = record {
      jobs = P.jobs c.args.parts.now.spawner;
      given_back = P.ends c.args.parts.now.spawner;
      out = P.out c.args.parts.now.spawner;
      unstarted = P.faults c.args.parts.now.spawner;
    } in
    let t : Stock g.row.L.Denot g.row.C.Denot g.row.N.Denot = record {
      jobs = P.jobs c.take_ended.new.spawner;
      given_back = P.ends c.take_ended.new.spawner;
      out = P.out c.take_ended.new.spawner;
      unstarted = P.faults c.take_ended.new.spawner;
    } in
    record {
      at_stop = c.finish-told.new.pass;
      stopped = subst (λ (y : Hub). Stopped y c.args.pass.now c.finish-told.new.pass c.finish-told.result.answer) c.deref-hub.ensures c.finish-told.ensures.stopped;
      ended = subst (λ (y : Hub). TakesIn W y c.finish-told.new.pass s c.take_ended.new.pass t) c.deref-hub.ensures c.take_ended.ensures.takes_in;
    }

pub returns-clause-woken : goal.returns-clause-woken
returns-clause-woken g c =
    let A = g.A.Acceptor in
    let answer = c.finish-told.result.answer in (
      stop_place answer,
      stands_at _ _ c.finish-told.new.pass c.take_ended.new.pass answer c.finish-told.ensures.stopped c.take_ended.ensures.takes_in.went.grows,
      subst (λ (n : ℕ). LastIs (A.stops c.wake_all.new.self) n) c.place_of.ensures
          (last_told (A.stops c.args.parts.now.acceptor) (A.stops c.wake_all.new.self) c.place_of.result c.wake_all.ensures.woken),
    )
