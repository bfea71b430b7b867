-- What serving a hub is asked for.
use Rattle.std.specs.Prelude.{ℕ, List, Option}
use Rattle.bsc_policy.specs.declared.policy.Policy.{Policy}
use Rattle.bsc_session.specs.declared.limits.SessionLimits.{SessionLimits}
use Rattle.bsc_serve.specs.declared.terms.ServeTerms.{ServeTerms}

-- The waits of each session, and how many turns it makes at most; how many links are awaited, if not for ever; the prefix of
-- the journals, if there are journals; and the policy by which each session is guarded, if there is one.
pub record Terms : Type 0 where
  pub limits : SessionLimits
  pub turns : ℕ
  pub sessions : Option ℕ
  pub prefix : Option (List ℕ)
  pub policy : Option Policy

abbrev pub all_terms : ServeTerms → Option (List ℕ) → Option Policy → Terms
all_terms t prefix policy = record { limits = t.limits; turns = t.turns; sessions = t.sessions; prefix = prefix; policy = policy }
