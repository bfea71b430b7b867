use Rattle.std.proofs.Common.{inl, inr}
use Rattle.bsc_node_run.specs.Worlds.{dialling, world_of}
use Rattle.bsc_node_run.proofs.Worlds.{same}
use Rattle.bsc_node_run.proofs.Stops.{at_err}
use Rattle.bsc_node_run.proofs.telling.tell.Goals as goal

pub returns-in_err-actions-clause-stops : goal.returns-in_err-actions-clause-stops
returns-in_err-actions-clause-stops g c =
    at_err _ (inl (same (world_of c.args.set.now (dialling g.D.Dialer.calls g.D.Dialer.left g.D.Dialer.came g.D.Dialer.faults c.args.dialer.now) (g.K.Sink.held c.args.sink.now))))

pub returns-in_err-perform-clause-stops : goal.returns-in_err-perform-clause-stops
returns-in_err-perform-clause-stops g c =
    at_err _ (inr (c.in_ok-actions.actions.items, c.event.new.self, c.in_ok-actions.ensures, rw c.as_slice.ensures.value at c.in_err-perform.ensures.breaks))
