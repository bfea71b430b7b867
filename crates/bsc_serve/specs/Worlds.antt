-- A hub that is served, and what there is beside it, at a moment.
use Rattle.std.specs.Prelude.{ℕ, List, Option}
use Rattle.bsc_turn.specs.declared.pass.Pass.{Pass}
use Rattle.bsc_hub.specs.declared.hub.Hub.{Hub}
use Rattle.bsc_edge.specs.declared.begun.Begun.{Begun}
use Rattle.bsc_session.specs.declared.job.SessionJob.{SessionJob}
use Rattle.bsc_session.specs.declared.session_end.SessionEnd.{SessionEnd}

-- The hub's own pass; the links that the acceptor has left, those that came so far, the waits that it was asked for, and its
-- count of those in which none came; the calls that began a journal; the jobs that the spawner has taken, what is left of those
-- that it gave back, those of them that are out, and its count of jobs that weren't started. The links, the waits, the calls, the
-- jobs that were taken and what was given back are as far as they are told.
pub record ServeWorld (L C N : Type 0) : Type 0 where
  pub pass : Pass
  pub links : Option (List L)
  pub came : Option (List L)
  pub waits : Option (List ℕ)
  pub quiets : ℕ
  pub begun : Option (List Begun)
  pub jobs : Option (List (SessionJob L C N))
  pub given_back : Option (List (SessionEnd L C N))
  pub out : List (SessionJob L C N)
  pub unstarted : ℕ

-- What is seen of a spawner: the jobs that it has taken and what is left of those that it gave back, as far as they are told,
-- the jobs that are out, and its count of jobs that weren't started.
pub record Stock (L C N : Type 0) : Type 0 where
  pub jobs : Option (List (SessionJob L C N))
  pub given_back : Option (List (SessionEnd L C N))
  pub out : List (SessionJob L C N)
  pub unstarted : ℕ

-- A hub that is served, and what there is beside it.
pub record ServedWorld (L C N : Type 0) : Type 0 where
  -- the hub, of which its identity and its limits are fixed
  pub hub : Hub
  -- the octets that its own journal holds, as far as that is told
  pub held : Option (List ℕ)
  -- its own pass, and what there is beside it
  pub beside : ServeWorld L C N

module _ {L C N : Type 0} where
  abbrev pub served_world : Hub → Option (List ℕ) → ServeWorld L C N → ServedWorld L C N
  served_world hub held beside = record { hub = hub; held = held; beside = beside }
