-- What there is at a moment of a turn, and before and after a run.
use Rattle.std.specs.Prelude.{ℕ, List, Option}
use Rattle.bsc_node_run.specs.Worlds.{Admitting, Dialling, World}

-- What a turn has in its hands beside the node: the links, what was told to the outside, and the acceptor.
pub record Hands (L : Type 0) : Type 0 where
  pub world : World L
  pub door : Admitting L

abbrev pub in_hands : {L : Type 0} → World L → Admitting L → Hands L
in_hands world door = record { world = world; door = door }

-- A node, and what a turn has in its hands beside it.
pub record Moment (N L : Type 0) : Type 0 where
  pub node : N
  pub hands : Hands L

abbrev pub moment : {N L : Type 0} → N → World L → Admitting L → Moment N L
moment node world door = record { node = node; hands = in_hands world door }

-- What there is outside a node that is run: the dialer, what was written, the acceptor, and the readings of the clock, each as
-- far as it is told.
pub record Outside (L : Type 0) : Type 0 where
  pub dialled : Dialling L
  pub written : Option (List ℕ)
  pub door : Admitting L
  pub readings : Option (List ℕ)

abbrev pub outside : {L : Type 0} → Dialling L → Option (List ℕ) → Admitting L → Option (List ℕ) → Outside L
outside dialled written door readings = record { dialled = dialled; written = written; door = door; readings = readings }

-- A node that is run, and what there is outside it.
pub record RunMoment (N L : Type 0) : Type 0 where
  pub node : N
  pub out : Outside L

abbrev pub run_moment : {N L : Type 0} → N → Dialling L → Option (List ℕ) → Admitting L → Option (List ℕ) → RunMoment N L
run_moment node dialled written door readings = record { node = node; out = outside dialled written door readings }
