use Rattle.bsc_node_run.specs.Handling.{world_in}
use Rattle.bsc_node_run.specs.Worlds.{dialling, world_of}
use Rattle.bsc_node_run.proofs.Stops.{stops_drawn}
use Rattle.bsc_node_run.proofs.in_hand.InHand.tell_word.Goals as goal

pub returns-clause-stops : goal.returns-clause-stops
returns-clause-stops g c = (
  c.draw-word.result,
  c.draw-word.ensures.word,
  stops_drawn g.N.Core.goes g.W.Words.gives g.W.Words.faults g.L.Link.talk c.args.at.time c.draw-word.result c.args.self.now.node.now c.args.self.now.random.now c.draw-word.new.random
      (world_in (dialling g.D.Dialer.calls g.D.Dialer.left g.D.Dialer.came g.D.Dialer.faults) g.K.Sink.held c.args.self.now)
      (world_of c.tell.new.set (dialling g.D.Dialer.calls g.D.Dialer.left g.D.Dialer.came g.D.Dialer.faults c.tell.new.dialer) (g.K.Sink.held c.tell.new.sink))
      c.draw-word.ensures.drawn c.in-Err.ensures.stops,
)
