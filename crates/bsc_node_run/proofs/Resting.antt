-- The waits of a run, from its turns.
-- It serves the clauses of `run_core`.
use Rattle.std.proofs.Common.{◌≡◌, inl, inr, ℕ, ◌-◌, ◌==◌, Bool, true, false, List, [], ◌∷◌, ◌++◌, length, Option, Some, None, refl, ap, sym, ◌∙◌, subst, append_assoc, append-nil, arith, unwrap_or}
use Rattle.std.proofs.lemmas.Bool.{eqb-true, false≢true}
use Rattle.bsc_edge.specs.declared.said.Said.{Said}
use Rattle.bsc_node.specs.declared.node_event.NodeEvent.{NodeEvent}
use Rattle.bsc_node.specs.declared.action.Action.{Action}
use Rattle.bsc_node_run.specs.declared.due.Due.{Due}
use Rattle.bsc_node_run.specs.declared.news.News.{News}
use Rattle.bsc_node_run.specs.Moments.{Moment, moment}
use Rattle.bsc_node_run.specs.Resting.{Rested, rest_after, rest_before, until_next}
use Rattle.bsc_node_run.specs.Running.{IsEmpty}
use Rattle.bsc_node_run.specs.Turning.{Turn}
use Rattle.bsc_node_run.specs.Worlds.{Admitting, Dialling, World}

-- ---- one wait

-- something is left to be told of a link
pub rest_told : (passed count : ℕ) (left : List Due) (waiting : List News) → count ≡ length waiting → (count == 0) ≡ false → 0 ≡ rest_after passed left waiting
rest_told passed count left [] is some = absurd (false≢true (sym some ∙ ap (λ n. n == 0) is))
rest_told passed count left (news ∷ more) is some = refl

-- nothing is
pub rest_untold : (passed count : ℕ) (left : List Due) (waiting : List News) → count ≡ length waiting → (count == 0) ≡ true → until_next passed left ≡ rest_after passed left waiting
rest_untold passed count left [] is none = refl
rest_untold passed count left (news ∷ more) is none = absurd (omega (arith, is, eqb-true count 0 none))

-- What is waited before the next turn.
pub rest_so : (now first passed wait : ℕ) (left : List Due) (waiting : List News) → passed ≡ now - first → wait ≡ rest_after passed left waiting
    → wait ≡ rest_before (Some first) now left waiting
rest_so now first passed wait left waiting is so = so ∙ ap (λ p. rest_after p left waiting) is

-- ---- a run of no turns

-- There are no links before the first turn, and nothing is new.
abbrev pub nothing_yet : {L : Type 0} → Dialling L → Option (List ℕ) → World L
nothing_yet dialled held = record { link = λ name. None; arrived = None; over = []; due = []; waiting = []; finished = false; dialled = dialled; held = held }

pub empty_yet : {L : Type 0} (dialled : Dialling L) (held : Option (List ℕ)) → IsEmpty dialled held (nothing_yet dialled held)
empty_yet dialled held = record { link = λ name. refl; arrived = refl; due = refl; waiting = refl; finished = refl; dialled = refl; held = refl }

-- ---- the waits of a run

module _ {N L : Type 0} (goes : N → ℕ → NodeEvent → List Action → N → Type 0) (talk : L → Option (List Said)) (listens : Bool) (script : List Due) (first : Moment N L) where
  -- Turns from here on go on with those that were made.
  abbrev pub GoOn : List ℕ → List ℕ → Option ℕ → ℕ → List Due → Moment N L → Type 0
  GoOn times waits start newest rest here = (more others : List ℕ) → Rested goes talk listens more others start newest rest here
      → Rested goes talk listens (times ++ more) (waits ++ others) None 0 script first

  -- One wait and one turn more behind those that were made.
  pub rested_more : (times waits : List ℕ) (start : Option ℕ) (newest now begun wait : ℕ) (rest rest' : List Due) (p q : N) (x y : World L) (mid mid' : Admitting L)
      → GoOn times waits start newest rest (moment p x mid) → wait ≡ rest_before start newest rest x.waiting → begun ≡ unwrap_or start now
      → Turn goes talk now start rest rest' listens (moment p x mid) (moment q y mid')
      → GoOn (times ++ now ∷ []) (waits ++ wait ∷ []) (Some begun) now rest' (moment q y mid')
  rested_more times waits start newest now begun wait rest rest' p q x y mid mid' made so is t more others k =
      subst (λ (ts : List ℕ). Rested goes talk listens ts ((waits ++ wait ∷ []) ++ others) None 0 script first) (sym (append_assoc times (now ∷ []) more))
      (subst (λ (ws : List ℕ). Rested goes talk listens (times ++ now ∷ more) ws None 0 script first) (sym (append_assoc waits (wait ∷ []) others))
      (made (now ∷ more) (wait ∷ others) (so, inr (rest', q, y, mid', t, subst (λ (s : ℕ). Rested goes talk listens more others (Some s) now rest' (moment q y mid')) is k))))

  -- The wait of the turn that was the last.
  pub rested_now : (times waits : List ℕ) (start : Option ℕ) (newest now wait : ℕ) (rest : List Due) (p : N) (x : World L) (mid : Admitting L)
      → GoOn times waits start newest rest (moment p x mid) → wait ≡ rest_before start newest rest x.waiting
      → Rested goes talk listens (times ++ now ∷ []) (waits ++ wait ∷ []) None 0 script first
  rested_now times waits start newest now wait rest p x mid made so = made (now ∷ []) (wait ∷ []) (so, inl (refl, refl))

  -- Those that were made, and no more.
  pub rested_all : (times waits : List ℕ) (start : Option ℕ) (newest : ℕ) (rest : List Due) (here : Moment N L) → GoOn times waits start newest rest here
      → Rested goes talk listens times waits None 0 script first
  rested_all times waits start newest rest here made =
      subst (λ (ts : List ℕ). Rested goes talk listens ts waits None 0 script first) (append-nil times)
      (subst (λ (ws : List ℕ). Rested goes talk listens (times ++ []) ws None 0 script first) (append-nil waits) (made [] [] tt))
