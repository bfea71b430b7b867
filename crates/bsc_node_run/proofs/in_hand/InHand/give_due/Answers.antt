use Rattle.std.proofs.Common.{inl, inr, refl, arith, ◌∷◌, []}
use Rattle.bsc_node_run.specs.Handling.{node_in, world_in}
use Rattle.bsc_node_run.specs.Worlds.{dialling}
use Rattle.bsc_node_run.proofs.Turns.{cut_first, none_due, not_due}
use Rattle.bsc_node_run.proofs.Worlds.{same}
use Rattle.bsc_node_run.proofs.Handling.{hand_then}
use Rattle.bsc_node_run.proofs.Stops.{at_err}
use Rattle.bsc_node_run.proofs.in_hand.InHand.give_due.Goals as goal

pub returns-then-at-due-clause-gives : goal.returns-then-at-due-clause-gives
returns-then-at-due-clause-gives g c =
    let w = world_in (dialling g.D.Dialer.calls g.D.Dialer.left g.D.Dialer.came g.D.Dialer.faults) g.K.Sink.held c.loop-left.self in
    let k = c.loop-left.invariant.gives [] c.loop-left.left.now (node_in c.loop-left.self) w refl tt (refl, same w) in
    (k.0, k.1, k.2, not_due c.args.at.passed c.loop-left.left.now c.due-item.result _ c.due-item.is c.if-at-due.true, k.3)

pub loop-left-preserved : goal.loop-left-preserved
loop-left-preserved g c = record {
  gives = λ lines rest m v parts due k. c.loop-left.invariant.gives (c.due-item.result ∷ lines) rest m v
      (cut_first c.loop-left.left.now _ c.due-item.result _ c.in-len1-up.len_at_least c.due-item.is parts)
      (omega (arith, c.if-at-due.false), due)
      ((node_in c.dispatch.new.self), (world_in (dialling g.D.Dialer.calls g.D.Dialer.left g.D.Dialer.came g.D.Dialer.faults) g.K.Sink.held c.dispatch.new.self), c.in_ok-dispatch.ensures.gives, k);
  stops = λ lines rest v parts due k. c.loop-left.invariant.stops (c.due-item.result ∷ lines) rest v
      (cut_first c.loop-left.left.now _ c.due-item.result _ c.in-len1-up.len_at_least c.due-item.is parts)
      (omega (arith, c.if-at-due.false), due)
      (inr (
        (node_in c.dispatch.new.self),
        (world_in (dialling g.D.Dialer.calls g.D.Dialer.left g.D.Dialer.came g.D.Dialer.faults) g.K.Sink.held c.dispatch.new.self),
        c.in_ok-dispatch.ensures.gives,
        k,
      ));
  later = omega (arith, c.loop-left.invariant.later, c.dispatch.ensures.counts.0.1);
  same = hand_then c.args.self.now c.loop-left.self c.dispatch.new.self c.loop-left.invariant.same c.dispatch.ensures.same;
}

pub returns-clause-gives : goal.returns-clause-gives
returns-clause-gives g c =
    let w = world_in (dialling g.D.Dialer.calls g.D.Dialer.left g.D.Dialer.came g.D.Dialer.faults) g.K.Sink.held c.loop-left.self in
    let k = c.loop-left.invariant.gives [] c.loop-left.left.now (node_in c.loop-left.self) w refl tt (refl, same w) in
    (k.0, k.1, k.2, none_due c.args.at.passed c.loop-left.left.now c.in_default.len_below, k.3)

pub returns-in_err-dispatch-clause-stops : goal.returns-in_err-dispatch-clause-stops
returns-in_err-dispatch-clause-stops g c =
    at_err _ (c.loop-left.invariant.stops (c.due-item.result ∷ []) _ (world_in (dialling g.D.Dialer.calls g.D.Dialer.left g.D.Dialer.came g.D.Dialer.faults) g.K.Sink.held c.dispatch.new.self)
    (cut_first c.loop-left.left.now _ c.due-item.result _ c.in-len1-up.len_at_least c.due-item.is refl)
    (omega (arith, c.if-at-due.false), tt) (inl c.in_err-dispatch.ensures.stops))
