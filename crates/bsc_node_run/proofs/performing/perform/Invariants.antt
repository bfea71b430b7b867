use Rattle.std.proofs.Common.{◌≤◌, length}
use Rattle.bsc_node_run.specs.Performing.{Carries}
use Rattle.bsc_node_run.specs.Stopping.{Breaks}
use Rattle.bsc_node_run.specs.Worlds.{World, dialling, world_of}
use Rattle.bsc_node_run.proofs.performing.perform.Given as goal

-- What is left carries on to where all of it does.
abbrev pub invariant-loop-left : goal.invariant-loop-left
invariant-loop-left g l = record {
  carries : (v : World _) → Carries g.L.Link.talk l.left (world_of l.set (dialling g.D.Dialer.calls g.D.Dialer.left g.D.Dialer.came g.D.Dialer.faults l.dialer) (g.K.Sink.held l.sink)) v
      → Carries g.L.Link.talk l.initial.left (world_of l.initial.set (dialling g.D.Dialer.calls g.D.Dialer.left g.D.Dialer.came g.D.Dialer.faults l.initial.dialer) (g.K.Sink.held l.initial.sink)) v;
  breaks : (v : World _) → Breaks g.L.Link.talk l.left (world_of l.set (dialling g.D.Dialer.calls g.D.Dialer.left g.D.Dialer.came g.D.Dialer.faults l.dialer) (g.K.Sink.held l.sink)) v
      → Breaks g.L.Link.talk l.initial.left (world_of l.initial.set (dialling g.D.Dialer.calls g.D.Dialer.left g.D.Dialer.came g.D.Dialer.faults l.initial.dialer) (g.K.Sink.held l.initial.sink)) v;
  later : g.K.Sink.faults l.initial.sink ≤ g.K.Sink.faults l.sink;
}

abbrev pub decreases-loop-left : goal.decreases-loop-left
decreases-loop-left g l = length l.left
