-- What the parts of a turn say of a moment. No public clause cites it.
use Rattle.std.specs.Prelude.{ℕ, List, Option}
use Rattle.bsc_turn.specs.declared.pass.Pass.{Pass}
use Rattle.bsc_edge.specs.declared.said.Said.{Said}
use Rattle.bsc_session.specs.declared.session_state.SessionState.{SessionState}

-- What is outside at a moment.
pub record Traces : Type 0 where
  -- what was said on the link, in order, as far as that is told
  pub talk : Option (List Said)
  -- the octets that the journal holds, as far as that is told
  pub held : Option (List ℕ)

abbrev pub traces : Option (List Said) → Option (List ℕ) → Traces
traces talk held = record { talk = talk; held = held }

-- What a turn, or the hearing of a thing given in it, may change.
pub record Moment : Type 0 where
  -- the session's pass
  pub pass : Pass
  -- where the code of the session stands
  pub at : SessionState
  -- what was said on the link, in order, as far as that is told
  pub talk : Option (List Said)
  -- the octets that the journal holds, as far as that is told
  pub held : Option (List ℕ)

abbrev pub moment : Pass → SessionState → Option (List Said) → Option (List ℕ) → Moment
moment pass at talk held = record { pass = pass; at = at; talk = talk; held = held }

-- What the leaving may change.
pub record Leaving : Type 0 where
  -- the session's pass
  pub pass : Pass
  -- the octets that the journal holds, as far as that is told
  pub held : Option (List ℕ)
  -- the journal's count of faults
  pub faults : ℕ

abbrev pub leaves : Pass → Option (List ℕ) → ℕ → Leaving
leaves pass held faults = record { pass = pass; held = held; faults = faults }
