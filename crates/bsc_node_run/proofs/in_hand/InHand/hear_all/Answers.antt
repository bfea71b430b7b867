use Rattle.std.proofs.Common.{inl, inr}
use Rattle.bsc_node_run.specs.Handling.{node_in, world_in}
use Rattle.bsc_node_run.specs.Worlds.{dialling}
use Rattle.bsc_node_run.proofs.Stops.{at_err}
use Rattle.bsc_node_run.proofs.in_hand.InHand.hear_all.Goals as goal
use Rattle.std.proofs.lemmas.Result.{on_err_weaker as on_err, on_ok_weaker as on_ok}

pub returns-clause-hears : goal.returns-clause-hears
returns-clause-hears g c = on_ok c.hear_slots.result
    (λ k. (
      node_in c.hear.new.self,
      (world_in (dialling g.D.Dialer.calls g.D.Dialer.left g.D.Dialer.came g.D.Dialer.faults) g.K.Sink.held c.hear.new.self),
      c.in_ok-hear.ensures.hears,
      (
        node_in c.hear-2.new.self,
        (world_in (dialling g.D.Dialer.calls g.D.Dialer.left g.D.Dialer.came g.D.Dialer.faults) g.K.Sink.held c.hear-2.new.self),
        c.in_ok-hear-2.ensures.hears,
        k,
      ),
    ))
    c.hear_slots.ensures.hears

pub returns-in_err-hear-clause-stops : goal.returns-in_err-hear-clause-stops
returns-in_err-hear-clause-stops g c =
    at_err _ (inl c.in_err-hear.ensures.stops)

pub returns-in_err-hear-2-clause-stops : goal.returns-in_err-hear-2-clause-stops
returns-in_err-hear-2-clause-stops g c =
    at_err _ (inr (
      node_in c.hear.new.self,
      (world_in (dialling g.D.Dialer.calls g.D.Dialer.left g.D.Dialer.came g.D.Dialer.faults) g.K.Sink.held c.hear.new.self),
      c.in_ok-hear.ensures.hears,
      inl c.in_err-hear-2.ensures.stops,
    ))

pub returns-clause-stops : goal.returns-clause-stops
returns-clause-stops g c = on_err c.hear_slots.result
    (λ k. inr (
      node_in c.hear.new.self,
      (world_in (dialling g.D.Dialer.calls g.D.Dialer.left g.D.Dialer.came g.D.Dialer.faults) g.K.Sink.held c.hear.new.self),
      c.in_ok-hear.ensures.hears,
      inr (node_in c.hear-2.new.self, (world_in (dialling g.D.Dialer.calls g.D.Dialer.left g.D.Dialer.came g.D.Dialer.faults) g.K.Sink.held c.hear-2.new.self), c.in_ok-hear-2.ensures.hears, k),
    ))
    c.hear_slots.ensures.stops
