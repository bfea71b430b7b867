-- What there is beside the code of a session, at a moment.
use Rattle.std.specs.Prelude.{ℕ, List, Option}
use Rattle.bsc_turn.specs.declared.pass.Pass.{Pass}
use Rattle.bsc_hub.specs.declared.hub.Hub.{Hub}
use Rattle.bsc_edge.specs.declared.said.Said.{Said}

-- The hub, the session's pass, and what the link, the clock and the journal tell.
pub record SessionWorld : Type 0 where
  -- the hub, of which its identity and its limits are fixed
  pub hub : Hub
  -- the session's pass: the number of its caller, the entries that this caller made, and what it has seen of the history
  pub pass : Pass
  -- what was said on the link, in order, as far as that is told
  pub talk : Option (List Said)
  -- what the clock was read at, in order, as far as that is told
  pub readings : Option (List ℕ)
  -- the octets that the journal holds, as far as that is told: where there is no journal, nothing is
  pub held : Option (List ℕ)

abbrev pub world : Hub → Pass → Option (List Said) → Option (List ℕ) → Option (List ℕ) → SessionWorld
world hub pass talk readings held = record { hub = hub; pass = pass; talk = talk; readings = readings; held = held }
