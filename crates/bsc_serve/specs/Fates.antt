-- What becomes of the links that leave an acceptor.
use Rattle.std.specs.Prelude.{◌≡◌, ℕ, ◌<◌, List, [], ◌∷◌, Option, is_some}
use Rattle.std.specs.Arc.{arc_value}
use Rattle.bsc_turn.specs.declared.pass.Pass.{Pass}
use Rattle.bsc_turn.specs.declared.view.EndedCaller.{EndedCaller}
use Rattle.bsc_turn.specs.Histories.{StartsWith}
use Rattle.bsc_turn.specs.Passes.{ended_callers, loads_made, newest_number, number_of, own_list, seen}
use Rattle.bsc_hub.specs.declared.hub.Hub.{Hub}
use Rattle.bsc_hub.specs.Passing.{IsCaller, about_of}
use Rattle.bsc_edge.specs.declared.said.Said.{Said}
use Rattle.bsc_edge.specs.declared.said.Said.TheVariants.{Closed}
use Rattle.bsc_edge.specs.Told.{Grows}
use Rattle.bsc_session.specs.declared.job.SessionJob.{SessionJob}
use Rattle.bsc_session.specs.Jobs.{policy_of}
use Rattle.bsc_serve.specs.Terms.{Terms}

-- What became of a link: its job was taken; or its job came back, and the caller of its pass ended; or there was no number
-- left for a pass.
pub data Fate (J : Type 0) : Type 0 where
  started : J → Fate J
  returned : EndedCaller → Fate J
  spent : Fate J

-- A caller that made no entry and asked for no number.
abbrev pub IsUnused : EndedCaller → Type 0
IsUnused e = (e.own ≡ []) × (e.loads ≡ 0)

abbrev pub job_in : {J : Type 0} → Fate J → List J
job_in (started j) = j ∷ []
job_in (returned e) = []
job_in spent = []

abbrev pub caller_in : {J : Type 0} → Fate J → List EndedCaller
caller_in (started j) = []
caller_in (returned e) = e ∷ []
caller_in spent = []

-- one where there is no job
abbrev pub unstarted_in : {J : Type 0} → Fate J → ℕ
unstarted_in (started j) = 0
unstarted_in (returned e) = 1
unstarted_in spent = 1

-- The pass x was split in a call that had the hub's own pass as p and left it as q: its caller is new, has no entries and
-- asked for no number, its own is one that was drawn in this call, and below the number of callers that there may be; and what
-- it has seen lies between what p and q had.
pub record IsSplitIn (h : Hub) (p q x : Pass) : Type 0 where
  pub caller : IsCaller h x
  pub new : (own_list x ≡ []) × (ended_callers x ≡ []) × (loads_made x ≡ 0)
  pub number : number_of p < number_of x
  pub drawn : newest_number p < number_of x
  pub room : number_of x < (about_of h).limits.callers
  pub since : StartsWith (seen x) (seen p)
  pub by : StartsWith (seen q) (seen x)

-- Where `begins` says whether a sink is the journal of a prefix and a number.
module _ {L C N : Type 0} (begins : Option (List ℕ) → ℕ → N → Type 0) where
  -- The job of a link: it has this link, this hub, a pass that was split in this call, and the limits and turns that were asked
  -- for; a journal that was begun under their prefix, for the number of its own pass, where its lines go if there is a prefix;
  -- and their policy.
  pub record IsJobOf (h : Hub) (terms : Terms) (p q : Pass) (l : L) (j : SessionJob L C N) : Type 0 where
    pub link : j.link ≡ l
    pub hub : arc_value j.hub ≡ h
    pub pass : IsSplitIn h p q j.pass
    pub limits : j.limits ≡ terms.limits
    pub turns : j.turns ≡ terms.turns
    pub journal : begins terms.prefix (number_of j.pass) j.journal
    pub is_recorded : j.is_recorded ≡ is_some terms.prefix
    pub policy : policy_of j.policy ≡ terms.policy

-- A link that gets no job was closed with 1001, with no reason, and nothing else was said on it, as far as it tells.
pub record IsTurnedAway {L : Type 0} (talk : L → Option (List Said)) (l : L) : Type 0 where
  pub left : L
  pub closed : Grows (talk l) (talk left) (Closed 1001 [] ∷ [])

-- Where `talk` says what was said on a link.
module _ {L C N : Type 0} (begins : Option (List ℕ) → ℕ → N → Type 0) (talk : L → Option (List Said)) where
  -- What became of a link as it may be: its job is one of this call; or the caller whose pass came back was unused; or all
  -- numbers are drawn. In the last two cases it was turned away.
  abbrev pub IsFate : Hub → Terms → Pass → Pass → L → Fate (SessionJob L C N) → Type 0
  IsFate h terms p q l (started j) = IsJobOf begins h terms p q l j
  IsFate h terms p q l (returned e) = IsUnused e × IsTurnedAway talk l
  IsFate h terms p q l spent = (newest_number q ≡ (about_of h).limits.callers) × IsTurnedAway talk l
