use Rattle.std.proofs.Common.{List, ◌∷◌, [], ◌++◌, map, Some, refl}
use Rattle.bsc_edge.specs.Told.{Grows}
use Rattle.bsc_node.specs.declared.node_event.NodeEvent.{NodeEvent}
use Rattle.bsc_node_run.proofs.Stops.{at_err}
use Rattle.bsc_application.specs.Asking.{requests}
use Rattle.bsc_application.proofs.Asking.{asked_kept, gave_kept, gave_lost, given_asked, one_longer}
use Rattle.bsc_application.proofs.taking.take_requests.Goals as goal

pub returns-in_err-add-in-Some-clause-lost : goal.returns-in_err-add-in-Some-clause-lost
returns-in_err-add-in-Some-clause-lost g c =
    let lost : (taken : List NodeEvent) × Grows (g.P.Application.answers c.args.application.now) (g.P.Application.answers c.next.new.self) (map Some taken) = (
      requests c.loop-taken.batch.items ++ c.in-Some.event ∷ [],
      gave_lost (g.P.Application.answers c.args.application.now) (g.P.Application.answers c.loop-taken.application) (g.P.Application.answers c.next.new.self)
          c.loop-taken.batch.items c.in-Some.event c.in_ok-event.field-0 c.in-Some.is c.loop-taken.invariant.gave c.in_ok-event.ensures.told,
    )
    in
    at_err _ lost

pub loop-taken-preserved : goal.loop-taken-preserved
loop-taken-preserved g c = record {
  asked = asked_kept c.loop-taken.batch.items c.add.new.batch.items _ c.in_ok-add-in-Some.ensures c.loop-taken.invariant.asked refl
      (given_asked c.in_ok-event.field-0 c.in-Some.event c.in-Some.is c.in_ok-event.ensures.asks);
  count = one_longer c.loop-taken.batch.items c.add.new.batch.items _ c.loop-taken.taken c.in_ok-add-in-Some.ensures c.loop-taken.invariant.count;
  gave = gave_kept (g.P.Application.answers c.args.application.now) (g.P.Application.answers c.loop-taken.application) (g.P.Application.answers c.next.new.self)
      c.loop-taken.batch.items c.in-Some.event c.in_ok-event.field-0 c.in-Some.is c.loop-taken.invariant.gave c.in_ok-event.ensures.told c.add.new.batch.items _ c.in_ok-add-in-Some.ensures refl;
}
