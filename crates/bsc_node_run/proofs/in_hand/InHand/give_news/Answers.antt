use Rattle.std.proofs.Common.{arith, inl, inr, refl, ◌∙◌, ◌∷◌, []}
use Rattle.bsc_node_run.specs.Drawing.{Draws, GoesDrawing}
use Rattle.bsc_node_run.specs.Handling.{node_in, world_in}
use Rattle.bsc_node_run.specs.Worlds.{dialling, world_of}
use Rattle.bsc_node_run.proofs.Fewer.{gives_fewer, one_more}
use Rattle.bsc_node_run.proofs.Turns.{emptied, none_left}
use Rattle.bsc_node_run.proofs.Handling.{hand_then}
use Rattle.bsc_node_run.proofs.Stops.{at_err}
use Rattle.bsc_node_run.proofs.in_hand.InHand.give_news.Goals as goal

pub loop-news-smaller : goal.loop-news-smaller
loop-news-smaller g c =
    let k = gives_fewer (GoesDrawing g.N.Core.goes (Draws g.W.Words.gives g.W.Words.faults)) g.L.Link.talk c.args.at.time c.event_of.result (node_in c.loop-news.self) (node_in c.dispatch.new.self)
    (world_of (record c.loop-news.self.set.now { due = c.pop_front.new.self }) (dialling g.D.Dialer.calls g.D.Dialer.left g.D.Dialer.came g.D.Dialer.faults c.loop-news.self.dialer.now)
    (g.K.Sink.held c.loop-news.self.sink.now))
    (world_in (dialling g.D.Dialer.calls g.D.Dialer.left g.D.Dialer.came g.D.Dialer.faults) g.K.Sink.held c.dispatch.new.self)
    c.in_ok-dispatch.ensures.gives in
    let j = one_more c.loop-news.self.set.now.due.items c.pop_front.new.self.items c.in-Some.news c.in-Some.ensures.items in
    omega (arith, k, j)

pub loop-news-preserved : goal.loop-news-preserved
loop-news-preserved g c = record {
  gives = λ more m v k. (let t = c.loop-news.invariant.gives (c.in-Some.news ∷ more) m v (
    c.pop_front.new.self.items,
    node_in c.dispatch.new.self,
    world_in (dialling g.D.Dialer.calls g.D.Dialer.left g.D.Dialer.came g.D.Dialer.faults) g.K.Sink.held c.dispatch.new.self,
    c.in-Some.ensures.items,
    rw c.event_of.ensures.is at c.in_ok-dispatch.ensures.gives,
    k,
  ) in t);
  stops = λ more v k. (let t = c.loop-news.invariant.stops (c.in-Some.news ∷ more) v (
    c.pop_front.new.self.items,
    c.in-Some.ensures.items,
    inr (
      node_in c.dispatch.new.self,
      world_in (dialling g.D.Dialer.calls g.D.Dialer.left g.D.Dialer.came g.D.Dialer.faults) g.K.Sink.held c.dispatch.new.self,
      rw c.event_of.ensures.is at c.in_ok-dispatch.ensures.gives,
      k,
    ),
  ) in t);
  later = omega (arith, c.loop-news.invariant.later, c.dispatch.ensures.counts.0.1);
  same = hand_then c.args.self.now c.loop-news.self c.dispatch.new.self c.loop-news.invariant.same c.dispatch.ensures.same;
}

pub returns-clause-gives : goal.returns-clause-gives
returns-clause-gives g c =
    let after = world_of (record c.loop-news.self.set.now { due = c.pop_front.new.self })
    (dialling g.D.Dialer.calls g.D.Dialer.left g.D.Dialer.came g.D.Dialer.faults c.loop-news.self.dialer.now) (g.K.Sink.held c.loop-news.self.sink.now) in
    c.loop-news.invariant.gives [] (node_in c.loop-news.self) after (
      none_left c.loop-news.self.set.now.due.items (c.in_default.ensures.items ∙ c.in_default.ensures.rest),
      refl,
      emptied (world_in (dialling g.D.Dialer.calls g.D.Dialer.left g.D.Dialer.came g.D.Dialer.faults) g.K.Sink.held c.loop-news.self) c.pop_front.new.self.items c.in_default.ensures.items,
    )

pub returns-in_err-dispatch-clause-stops : goal.returns-in_err-dispatch-clause-stops
returns-in_err-dispatch-clause-stops g c =
    at_err _ (c.loop-news.invariant.stops (c.in-Some.news ∷ []) (world_in (dialling g.D.Dialer.calls g.D.Dialer.left g.D.Dialer.came g.D.Dialer.faults) g.K.Sink.held c.dispatch.new.self)
    (c.pop_front.new.self.items, c.in-Some.ensures.items, inl (rw c.event_of.ensures.is at c.in_err-dispatch.ensures.stops)))
