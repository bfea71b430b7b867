-- What holds of each move holds where the end of a session is one move; and what is kept there, where another thing holds.
-- It serves clauses of functions of `laws`.
use Rattle.std.proofs.Common.{true}
use Rattle.bsc_history.specs.declared.call.Call.TheVariants.{Leave}
use Rattle.bsc_network.specs.declared.world_step.WorldStep.{WorldStep}
use Rattle.bsc_network.specs.Worlds.{World, HubSide}
use Rattle.bsc_network.specs.Changes.{with_side}
use Rattle.bsc_network.specs.HubCalls.{called}
use Rattle.bsc_network_laws.proofs.Moves.{Lets, EachWhole, LetsWhole}
use Rattle.bsc_network_laws.proofs.Beside.{Keeps, KeepsGiven, KeepsBoth}

-- What holds of each move holds of the end of a session.
pub as_whole : (D : WorldStep) (R : World → World → Type 0) → Lets D R → LetsWhole D R
as_whole D R M = record {
  none = M.none;
  then = M.then;
  each = record {
    over = λ w l j h k side none. M.each.over w l;
    tells = M.each.tells;
    empty = M.each.empty;
    closes_down = M.each.closes_down;
    hub_puts = M.each.hub_puts;
    leaves = λ w l j h k c side conn.
        let v = called j l w.steps (Leave c k.side.taken k.side.empties) w in
        M.then w v (with_side l (λ (s : HubSide). record s { is_over = true }) v) (M.each.leaves w l j h k c side conn) (M.each.over v l);
    stops = M.each.stops;
    asks = M.each.asks;
    joins = M.each.joins;
    forwards = M.each.forwards;
    takes = M.each.takes;
    hears = M.each.hears;
    forgets = M.each.forgets;
    arrives = M.each.arrives;
    loses = M.each.loses;
  };
}

-- Of each move something else holds as well, where it follows.
pub whole_each : (D : WorldStep) (R Q : World → World → Type 0) → ((u v : World) → R u v → Q u v) → EachWhole D R → EachWhole D Q
whole_each D R Q gives M = record {
  over = λ w l j h k side none. gives w _ (M.over w l j h k side none);
  tells = λ w l j h k e other side. gives w _ (M.tells w l j h k e other side);
  empty = λ w l. gives w _ (M.empty w l);
  closes_down = λ w l. gives w _ (M.closes_down w l);
  hub_puts = λ w l j h k st o side wanted is. gives w _ (M.hub_puts w l j h k st o side wanted is);
  leaves = λ w l j h k c side conn. gives w _ (M.leaves w l j h k c side conn);
  stops = λ w j h here is. gives w _ (M.stops w j h here is);
  asks = λ w l j place h k m who side came said is. gives w _ (M.asks w l j place h k m who side came said is);
  joins = λ w l j place h k m who c replaced side came said is. gives w _ (M.joins w l j place h k m who c replaced side came said is);
  forwards = λ w l j place h k m c side conn came said. gives w _ (M.forwards w l j place h k m c side conn came said);
  takes = λ w l j h k c f side conn is. gives w _ (M.takes w l j h k c f side conn is);
  hears = λ w k n by e here come fit. gives w _ (M.hears w k n by e here come fit);
  forgets = λ w later. gives w _ (M.forgets w later);
  arrives = λ w l way k x here is. gives w _ (M.arrives w l way k x here is);
  loses = λ w l. gives w _ (M.loses w l);
}

-- What each move keeps, and what it keeps where that holds.
pub beside_whole : (D : WorldStep) (P Inv : World → Type 0) → LetsWhole D (Keeps P) → EachWhole D (KeepsGiven P Inv) → LetsWhole D (KeepsBoth P Inv)
beside_whole D P Inv M N = record {
  none = λ w p. (p, λ i. i);
  then = λ u v w f g p. let a = f p in let b = g a.0 in (b.0, λ i. b.1 (a.1 i));
  each = record {
    over = λ w l j h k side none p. (M.each.over w l j h k side none p, N.over w l j h k side none p);
    tells = λ w l j h k e other side p. (M.each.tells w l j h k e other side p, N.tells w l j h k e other side p);
    empty = λ w l p. (M.each.empty w l p, N.empty w l p);
    closes_down = λ w l p. (M.each.closes_down w l p, N.closes_down w l p);
    hub_puts = λ w l j h k st o side wanted is p. (M.each.hub_puts w l j h k st o side wanted is p, N.hub_puts w l j h k st o side wanted is p);
    leaves = λ w l j h k c side conn p. (M.each.leaves w l j h k c side conn p, N.leaves w l j h k c side conn p);
    stops = λ w j h here is p. (M.each.stops w j h here is p, N.stops w j h here is p);
    asks = λ w l j place h k m who side came said is p. (M.each.asks w l j place h k m who side came said is p, N.asks w l j place h k m who side came said is p);
    joins = λ w l j place h k m who c replaced side came said is p. (M.each.joins w l j place h k m who c replaced side came said is p, N.joins w l j place h k m who c replaced side came said is p);
    forwards = λ w l j place h k m c side conn came said p. (M.each.forwards w l j place h k m c side conn came said p, N.forwards w l j place h k m c side conn came said p);
    takes = λ w l j h k c f side conn is p. (M.each.takes w l j h k c f side conn is p, N.takes w l j h k c f side conn is p);
    hears = λ w k n by e here come fit p. (M.each.hears w k n by e here come fit p, N.hears w k n by e here come fit p);
    forgets = λ w later p. (M.each.forgets w later p, N.forgets w later p);
    arrives = λ w l way k x here is p. (M.each.arrives w l way k x here is p, N.arrives w l way k x here is p);
    loses = λ w l p. (M.each.loses w l p, N.loses w l p);
  };
}

-- What each move keeps, together with what it keeps where that holds.
pub together_whole : (D : WorldStep) (P Inv : World → Type 0) → LetsWhole D (Keeps P) → EachWhole D (KeepsGiven P Inv) → LetsWhole D (Keeps (λ u. P u × Inv u))
together_whole D P Inv M N = record {
  none = λ w p. p;
  then = λ u v w f g p. g (f p);
  each = record {
    over = λ w l j h k side none p. (M.each.over w l j h k side none p.0, N.over w l j h k side none p.0 p.1);
    tells = λ w l j h k e other side p. (M.each.tells w l j h k e other side p.0, N.tells w l j h k e other side p.0 p.1);
    empty = λ w l p. (M.each.empty w l p.0, N.empty w l p.0 p.1);
    closes_down = λ w l p. (M.each.closes_down w l p.0, N.closes_down w l p.0 p.1);
    hub_puts = λ w l j h k st o side wanted is p. (M.each.hub_puts w l j h k st o side wanted is p.0, N.hub_puts w l j h k st o side wanted is p.0 p.1);
    leaves = λ w l j h k c side conn p. (M.each.leaves w l j h k c side conn p.0, N.leaves w l j h k c side conn p.0 p.1);
    stops = λ w j h here is p. (M.each.stops w j h here is p.0, N.stops w j h here is p.0 p.1);
    asks = λ w l j place h k m who side came said is p. (M.each.asks w l j place h k m who side came said is p.0, N.asks w l j place h k m who side came said is p.0 p.1);
    joins = λ w l j place h k m who c replaced side came said is p. (
      M.each.joins w l j place h k m who c replaced side came said is p.0,
      N.joins w l j place h k m who c replaced side came said is p.0 p.1,
    );
    forwards = λ w l j place h k m c side conn came said p. (M.each.forwards w l j place h k m c side conn came said p.0, N.forwards w l j place h k m c side conn came said p.0 p.1);
    takes = λ w l j h k c f side conn is p. (M.each.takes w l j h k c f side conn is p.0, N.takes w l j h k c f side conn is p.0 p.1);
    hears = λ w k n by e here come fit p. (M.each.hears w k n by e here come fit p.0, N.hears w k n by e here come fit p.0 p.1);
    forgets = λ w later p. (M.each.forgets w later p.0, N.forgets w later p.0 p.1);
    arrives = λ w l way k x here is p. (M.each.arrives w l way k x here is p.0, N.arrives w l way k x here is p.0 p.1);
    loses = λ w l p. (M.each.loses w l p.0, N.loses w l p.0 p.1);
  };
}
