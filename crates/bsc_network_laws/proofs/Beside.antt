-- How what is kept by moves is put together: two things that each move keeps, and one that it keeps where another holds.
-- It serves clauses of functions of `laws`.
use Rattle.std.proofs.Common.{ℕ, Option}
use Rattle.std.specs.Prelude.{filter_map, ⊤}
use Rattle.bsc_node.specs.declared.timed_event.TimedEvent.{TimedEvent}
use Rattle.bsc_node.specs.declared.action.Action.{Action}
use Rattle.bsc_node.specs.Logs.{action_of}
use Rattle.bsc_network.specs.declared.world_step.WorldStep.{WorldStep}
use Rattle.bsc_network.specs.declared.arrival.Arrival.{Arrival}
use Rattle.bsc_network.specs.Worlds.{World, Node}
use Rattle.bsc_network.specs.NodeEvents.{brings_about, hears}
use Rattle.bsc_network_laws.proofs.Moves.{Each, Lets}
use Rattle.bsc_network_laws.proofs.Acting.{Among, goes_on_in, EachAct, LetsActs, lets-hears}

-- ---- moves

-- what is kept
abbrev pub Keeps : (World → Type 0) → World → World → Type 0
Keeps P u v = P u → P v

-- what is kept where another thing holds
abbrev pub KeepsGiven : (World → Type 0) → (World → Type 0) → World → World → Type 0
KeepsGiven P Inv u v = P u → Inv u → Inv v

-- both together
abbrev pub KeepsBoth : (World → Type 0) → (World → Type 0) → World → World → Type 0
KeepsBoth P Inv u v = P u → P v × (Inv u → Inv v)

-- Of each move something else holds as well, where it follows.
pub each-as : (D : WorldStep) (R Q : World → World → Type 0) → ((u v : World) → R u v → Q u v) → Each D R → Each D Q
each-as D R Q gives M = record {
  over = λ w l. gives w _ (M.over w l);
  tells = λ w l j h k e other side. gives w _ (M.tells w l j h k e other side);
  empty = λ w l. gives w _ (M.empty w l);
  closes_down = λ w l. gives w _ (M.closes_down w l);
  hub_puts = λ w l j h k st o side wanted is. gives w _ (M.hub_puts w l j h k st o side wanted is);
  leaves = λ w l j h k c side conn. gives w _ (M.leaves w l j h k c side conn);
  stops = λ w j h here is. gives w _ (M.stops w j h here is);
  asks = λ w l j place h k m who side came said is. gives w _ (M.asks w l j place h k m who side came said is);
  joins = λ w l j place h k m who c replaced side came said is. gives w _ (M.joins w l j place h k m who c replaced side came said is);
  forwards = λ w l j place h k m c side conn came said. gives w _ (M.forwards w l j place h k m c side conn came said);
  takes = λ w l j h k c f side conn is. gives w _ (M.takes w l j h k c f side conn is);
  hears = λ w k n by e here come fit. gives w _ (M.hears w k n by e here come fit);
  forgets = λ w later. gives w _ (M.forgets w later);
  arrives = λ w l way k x here is. gives w _ (M.arrives w l way k x here is);
  loses = λ w l. gives w _ (M.loses w l);
}

-- Two things hold of each move.
pub both : (D : WorldStep) (R Q : World → World → Type 0) → Lets D R → Lets D Q → Lets D (λ u v. R u v × Q u v)
both D R Q M N = record {
  none = λ w. (M.none w, N.none w);
  then = λ u v w f g. (M.then u v w f.0 g.0, N.then u v w f.1 g.1);
  each = record {
    over = λ w l. (M.each.over w l, N.each.over w l);
    tells = λ w l j h k e other side. (M.each.tells w l j h k e other side, N.each.tells w l j h k e other side);
    empty = λ w l. (M.each.empty w l, N.each.empty w l);
    closes_down = λ w l. (M.each.closes_down w l, N.each.closes_down w l);
    hub_puts = λ w l j h k st o side wanted is. (M.each.hub_puts w l j h k st o side wanted is, N.each.hub_puts w l j h k st o side wanted is);
    leaves = λ w l j h k c side conn. (M.each.leaves w l j h k c side conn, N.each.leaves w l j h k c side conn);
    stops = λ w j h here is. (M.each.stops w j h here is, N.each.stops w j h here is);
    asks = λ w l j place h k m who side came said is. (M.each.asks w l j place h k m who side came said is, N.each.asks w l j place h k m who side came said is);
    joins = λ w l j place h k m who c replaced side came said is. (M.each.joins w l j place h k m who c replaced side came said is, N.each.joins w l j place h k m who c replaced side came said is);
    forwards = λ w l j place h k m c side conn came said. (M.each.forwards w l j place h k m c side conn came said, N.each.forwards w l j place h k m c side conn came said);
    takes = λ w l j h k c f side conn is. (M.each.takes w l j h k c f side conn is, N.each.takes w l j h k c f side conn is);
    hears = λ w k n by e here come fit. (M.each.hears w k n by e here come fit, N.each.hears w k n by e here come fit);
    forgets = λ w later. (M.each.forgets w later, N.each.forgets w later);
    arrives = λ w l way k x here is. (M.each.arrives w l way k x here is, N.each.arrives w l way k x here is);
    loses = λ w l. (M.each.loses w l, N.each.loses w l);
  };
}

-- What each move keeps, and what it keeps where that holds.
pub beside : (D : WorldStep) (P Inv : World → Type 0) → Lets D (Keeps P) → Each D (KeepsGiven P Inv) → Lets D (KeepsBoth P Inv)
beside D P Inv M N = record {
  none = λ w p. (p, λ i. i);
  then = λ u v w f g p. let a = f p in let b = g a.0 in (b.0, λ i. b.1 (a.1 i));
  each = record {
    over = λ w l p. (M.each.over w l p, N.over w l p);
    tells = λ w l j h k e other side p. (M.each.tells w l j h k e other side p, N.tells w l j h k e other side p);
    empty = λ w l p. (M.each.empty w l p, N.empty w l p);
    closes_down = λ w l p. (M.each.closes_down w l p, N.closes_down w l p);
    hub_puts = λ w l j h k st o side wanted is p. (M.each.hub_puts w l j h k st o side wanted is p, N.hub_puts w l j h k st o side wanted is p);
    leaves = λ w l j h k c side conn p. (M.each.leaves w l j h k c side conn p, N.leaves w l j h k c side conn p);
    stops = λ w j h here is p. (M.each.stops w j h here is p, N.stops w j h here is p);
    asks = λ w l j place h k m who side came said is p. (M.each.asks w l j place h k m who side came said is p, N.asks w l j place h k m who side came said is p);
    joins = λ w l j place h k m who c replaced side came said is p. (M.each.joins w l j place h k m who c replaced side came said is p, N.joins w l j place h k m who c replaced side came said is p);
    forwards = λ w l j place h k m c side conn came said p. (M.each.forwards w l j place h k m c side conn came said p, N.forwards w l j place h k m c side conn came said p);
    takes = λ w l j h k c f side conn is p. (M.each.takes w l j h k c f side conn is p, N.takes w l j h k c f side conn is p);
    hears = λ w k n by e here come fit p. (M.each.hears w k n by e here come fit p, N.hears w k n by e here come fit p);
    forgets = λ w later p. (M.each.forgets w later p, N.forgets w later p);
    arrives = λ w l way k x here is p. (M.each.arrives w l way k x here is p, N.arrives w l way k x here is p);
    loses = λ w l p. (M.each.loses w l p, N.loses w l p);
  };
}

-- What each move keeps, together with what it keeps where that holds.
pub together : (D : WorldStep) (P Inv : World → Type 0) → Lets D (Keeps P) → Each D (KeepsGiven P Inv) → Lets D (Keeps (λ u. P u × Inv u))
together D P Inv M N = record {
  none = λ w p. p;
  then = λ u v w f g p. g (f p);
  each = record {
    over = λ w l p. (M.each.over w l p.0, N.over w l p.0 p.1);
    tells = λ w l j h k e other side p. (M.each.tells w l j h k e other side p.0, N.tells w l j h k e other side p.0 p.1);
    empty = λ w l p. (M.each.empty w l p.0, N.empty w l p.0 p.1);
    closes_down = λ w l p. (M.each.closes_down w l p.0, N.closes_down w l p.0 p.1);
    hub_puts = λ w l j h k st o side wanted is p. (M.each.hub_puts w l j h k st o side wanted is p.0, N.hub_puts w l j h k st o side wanted is p.0 p.1);
    leaves = λ w l j h k c side conn p. (M.each.leaves w l j h k c side conn p.0, N.leaves w l j h k c side conn p.0 p.1);
    stops = λ w j h here is p. (M.each.stops w j h here is p.0, N.stops w j h here is p.0 p.1);
    asks = λ w l j place h k m who side came said is p. (M.each.asks w l j place h k m who side came said is p.0, N.asks w l j place h k m who side came said is p.0 p.1);
    joins = λ w l j place h k m who c replaced side came said is p. (
      M.each.joins w l j place h k m who c replaced side came said is p.0,
      N.joins w l j place h k m who c replaced side came said is p.0 p.1,
    );
    forwards = λ w l j place h k m c side conn came said p. (M.each.forwards w l j place h k m c side conn came said p.0, N.forwards w l j place h k m c side conn came said p.0 p.1);
    takes = λ w l j h k c f side conn is p. (M.each.takes w l j h k c f side conn is p.0, N.takes w l j h k c f side conn is p.0 p.1);
    hears = λ w k n by e here come fit p. (M.each.hears w k n by e here come fit p.0, N.hears w k n by e here come fit p.0 p.1);
    forgets = λ w later p. (M.each.forgets w later p.0, N.forgets w later p.0 p.1);
    arrives = λ w l way k x here is p. (M.each.arrives w l way k x here is p.0, N.arrives w l way k x here is p.0 p.1);
    loses = λ w l p. (M.each.loses w l p.0, N.loses w l p.0 p.1);
  };
}

-- ---- actions

pub acts-both : (k : ℕ) (by : Option Arrival) (Known : Action → Type 0) (R Q : World → World → Type 0) → LetsActs k by Known R → LetsActs k by Known Q → LetsActs k by Known (λ u v. R u v × Q u v)
acts-both k by Known R Q M N = record {
  none = λ w. (M.none w, N.none w);
  then = λ u v w f g. (M.then u v w f.0 g.0, N.then u v w f.1 g.1);
  each = record {
    puts = λ w name o known. (M.each.puts w name o known, N.each.puts w name o known);
    closes = λ w name. (M.each.closes w name, N.each.closes w name);
    takes = λ w name a is known. (M.each.takes w name a is known, N.each.takes w name a is known);
    dials_as = λ w name uri t known leads. (M.each.dials_as w name uri t known leads, N.each.dials_as w name uri t known leads);
    fails_as = λ w name. (M.each.fails_as w name, N.each.fails_as w name);
    refuses_it = λ w a is. (M.each.refuses_it w a is, N.each.refuses_it w a is);
    delivers_one = λ w d a is known. (M.each.delivers_one w d a is known, N.each.delivers_one w d a is known);
  };
}

pub acts-beside : (k : ℕ) (by : Option Arrival) (Known : Action → Type 0) (P Inv : World → Type 0) → LetsActs k by (λ action. ⊤) (Keeps P) → EachAct k by Known (KeepsGiven P Inv)
    → LetsActs k by Known (KeepsBoth P Inv)
acts-beside k by Known P Inv M N = record {
  none = λ w p. (p, λ i. i);
  then = λ u v w f g p. let a = f p in let b = g a.0 in (b.0, λ i. b.1 (a.1 i));
  each = record {
    puts = λ w name o known p. (M.each.puts w name o tt p, N.puts w name o known p);
    closes = λ w name p. (M.each.closes w name p, N.closes w name p);
    takes = λ w name a is known p. (M.each.takes w name a is tt p, N.takes w name a is known p);
    dials_as = λ w name uri t known leads p. (M.each.dials_as w name uri t tt leads p, N.dials_as w name uri t known leads p);
    fails_as = λ w name p. (M.each.fails_as w name p, N.fails_as w name p);
    refuses_it = λ w a is p. (M.each.refuses_it w a is p, N.refuses_it w a is p);
    delivers_one = λ w d a is known p. (M.each.delivers_one w d a is tt p, N.delivers_one w d a is known p);
  };
}

pub acts-together : (k : ℕ) (by : Option Arrival) (Known : Action → Type 0) (P Inv : World → Type 0) → LetsActs k by Known (Keeps P) → EachAct k by Known (KeepsGiven P Inv)
    → LetsActs k by Known (Keeps (λ u. P u × Inv u))
acts-together k by Known P Inv M N = record {
  none = λ w p. p;
  then = λ u v w f g p. g (f p);
  each = record {
    puts = λ w name o known p. (M.each.puts w name o known p.0, N.puts w name o known p.0 p.1);
    closes = λ w name p. (M.each.closes w name p.0, N.closes w name p.0 p.1);
    takes = λ w name a is known p. (M.each.takes w name a is known p.0, N.takes w name a is known p.0 p.1);
    dials_as = λ w name uri t known leads p. (M.each.dials_as w name uri t known leads p.0, N.dials_as w name uri t known leads p.0 p.1);
    fails_as = λ w name p. (M.each.fails_as w name p.0, N.fails_as w name p.0 p.1);
    refuses_it = λ w a is p. (M.each.refuses_it w a is p.0, N.refuses_it w a is p.0 p.1);
    delivers_one = λ w d a is known p. (M.each.delivers_one w d a is known p.0, N.delivers_one w d a is known p.0 p.1);
  };
}

-- An event that comes to a node keeps what its actions keep where another thing holds, which they keep too.
pub hears-beside : (k : ℕ) (by : Option Arrival) (Known : Action → Type 0) (P Inv : World → Type 0) → LetsActs k by (λ action. ⊤) (Keeps P) → EachAct k by Known (KeepsGiven P Inv)
    → (e : TimedEvent) (n : Node) (w : World) → P w → P (goes_on_in k e w) → (Inv w → Inv (goes_on_in k e w))
    → ((action : Action) → Among action (filter_map action_of (brings_about n.made e n.log)) → Known action) → Inv w → Inv (hears k by e n w)
hears-beside k by Known P Inv M N e n w here there goes known = (lets-hears k by Known (KeepsBoth P Inv) (acts-beside k by Known P Inv M N) e n w (λ p. (there, goes)) known here).1
