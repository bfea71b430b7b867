-- The waits of a run for an application, from its turns.
-- It serves the clauses of `run_application`.
use Rattle.std.proofs.Common.{◌≡◌, inl, inr, ℕ, Bool, true, false, not, ◌==◌, ◌||◌, if◌then◌else◌, List, [], ◌∷◌, ◌++◌, Option, Some, None, refl, ap, ◌∙◌, subst, append-nil, unwrap_or, length, arith}
use Rattle.std.proofs.lemmas.Bool.Decides.{nat_tests}
use Rattle.bsc_edge.specs.declared.said.Said.{Said}
use Rattle.bsc_node.specs.declared.node_event.NodeEvent.{NodeEvent}
use Rattle.bsc_node.specs.declared.action.Action.{Action}
use Rattle.bsc_node_run.specs.declared.due.Due.{Due}
use Rattle.bsc_node_run.specs.declared.news.News.{News}
use Rattle.bsc_node_run.specs.Moments.{Moment, moment}
use Rattle.bsc_node_run.specs.Resting.{longest_rest}
use Rattle.bsc_node_run.specs.Turning.{Turn}
use Rattle.bsc_node_run.specs.Worlds.{Admitting, World}
use Rattle.bsc_application.specs.Asking.{IsBatch, is_full}
use Rattle.bsc_application.specs.Pausing.{Paused, pause_after, pause_before}
use Rattle.bsc_application.proofs.Lives.{both, ends_here}

-- whether something is left
abbrev pub is_some_news : List News → Bool
is_some_news waiting = not (length waiting == 0)

or_no : (b : Bool) → (b || false) ≡ b
or_no true = refl
or_no false = refl

or_yes : (b : Bool) → (b || true) ≡ true
or_yes true = refl
or_yes false = refl

some_news : (one : News) (more : List News) → is_some_news (one ∷ more) ≡ true
some_news one more = grind (arith, nat_tests)

-- What is waited before the next turn, by the slice in which the requests of this one stand.
pub pause_so : (slice batch : List Due) (has_news : Bool) (waiting : List News) (wait begun : ℕ) → slice ≡ batch → has_news ≡ is_some_news waiting
    → wait ≡ (if is_full slice || has_news then 0 else longest_rest) → wait ≡ pause_before (Some begun) batch waiting
pause_so slice batch has_news waiting wait begun told news so =
    so ∙ ap (λ (b : Bool). if is_full slice || b then 0 else longest_rest) news ∙ ap (λ (ds : List Due). if is_full ds || is_some_news waiting then 0 else longest_rest) told ∙ by waiting
  where
    by : (left : List News) → (if is_full batch || is_some_news left then 0 else longest_rest) ≡ pause_after batch left
    by [] = ap (λ (b : Bool). if b then 0 else longest_rest) (or_no (is_full batch))
    by (one ∷ more) = ap (λ (b : Bool). if is_full batch || b then 0 else longest_rest) (some_news one more) ∙ ap (λ (b : Bool). if b then 0 else longest_rest) (or_yes (is_full batch))

module _ {N L : Type 0} (goes : N → ℕ → NodeEvent → List Action → N → Type 0) (talk : L → Option (List Said)) (listens : Bool) (first : Moment N L) where
  -- Waits and turns from here on go on with those that were made.
  abbrev pub PauseOn : List ℕ → List ℕ → Option ℕ → List Due → Moment N L → Type 0
  PauseOn times waits start last here = (more others : List ℕ) → Paused goes talk listens more others start last here
      → Paused goes talk listens (times ++ more) (waits ++ others) None [] first

  -- One wait and one turn more.
  pub pauses_more : (times waits : List ℕ) (start : Option ℕ) (now begun wait : ℕ) (last batch : List Due) (p q : N) (x y : World L) (mid mid' : Admitting L)
      → PauseOn times waits start last (moment p x mid) → wait ≡ pause_before start last x.waiting → IsBatch batch → begun ≡ unwrap_or start now
      → Turn goes talk now start batch [] listens (moment p x mid) (moment q y mid')
      → PauseOn (times ++ now ∷ []) (waits ++ wait ∷ []) (Some begun) batch (moment q y mid')
  pauses_more times waits start now begun wait last batch p q x y mid mid' made so fits is t more others k =
      both (λ ts ws. Paused goes talk listens ts ws None [] first) times more waits others now wait
      (made (now ∷ more) (wait ∷ others)
      (so, inr (batch, q, y, mid', fits, t, subst (λ (s : ℕ). Paused goes talk listens more others (Some s) batch (moment q y mid')) is k)))

  -- The wait of the turn that was the last.
  pub pauses_now : (times waits : List ℕ) (start : Option ℕ) (now wait : ℕ) (last : List Due) (p : N) (x : World L) (mid : Admitting L)
      → PauseOn times waits start last (moment p x mid) → wait ≡ pause_before start last x.waiting
      → Paused goes talk listens (times ++ now ∷ []) (waits ++ wait ∷ []) None [] first
  pauses_now times waits start now wait last p x mid made so = made (now ∷ []) (wait ∷ []) (so, inl (refl, refl))

  -- The wait before a turn that wasn't begun.
  pub pauses_before : (times waits : List ℕ) (start : Option ℕ) (wait : ℕ) (last : List Due) (p : N) (x : World L) (mid : Admitting L)
      → PauseOn times waits start last (moment p x mid) → wait ≡ pause_before start last x.waiting
      → Paused goes talk listens times (waits ++ wait ∷ []) None [] first
  pauses_before times waits start wait last p x mid made so =
      subst (λ (ts : List ℕ). Paused goes talk listens ts (waits ++ wait ∷ []) None [] first) (append-nil times) (made [] (wait ∷ []) so)

  -- Those that were made, and no more.
  pub pauses_all : (times waits : List ℕ) (start : Option ℕ) (last : List Due) (here : Moment N L) → PauseOn times waits start last here
      → Paused goes talk listens times waits None [] first
  pauses_all times waits start last here made = ends_here (λ ts ws. Paused goes talk listens ts ws None [] first) times waits (made [] [] tt)
