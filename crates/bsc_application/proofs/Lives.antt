-- Runs for an application, from their turns.
-- It serves the clauses of `run_application`.
use Rattle.std.proofs.Common.{◌≡◌, inl, inr, ℕ, Bool, false, List, [], ◌∷◌, ◌++◌, Option, Some, None, refl, sym, subst, append_assoc, append-nil, unwrap_or}
use Rattle.bsc_edge.specs.declared.said.Said.{Said}
use Rattle.bsc_node.specs.declared.node_event.NodeEvent.{NodeEvent}
use Rattle.bsc_node.specs.declared.action.Action.{Action}
use Rattle.bsc_node_run.specs.declared.due.Due.{Due}
use Rattle.bsc_node_run.specs.Moments.{Moment, in_hands, moment}
use Rattle.bsc_node_run.specs.Stopping.{TurnStops}
use Rattle.bsc_node_run.specs.Turning.{Turn}
use Rattle.bsc_node_run.specs.Worlds.{Admitting, World}
use Rattle.bsc_node_run.proofs.Worlds.{same}
use Rattle.bsc_application.specs.Asking.{IsBatch}
use Rattle.bsc_application.specs.Breaking.{LiveStop}
use Rattle.bsc_application.specs.Living.{LiveTurns}

-- ---- turns

-- what is so of two lists behind two others is so of the whole
pub both : {A B : Type 0} (P : List A → List B → Type 0) (xs more : List A) (ys others : List B) (x : A) (y : B)
    → P (xs ++ x ∷ more) (ys ++ y ∷ others) → P ((xs ++ x ∷ []) ++ more) ((ys ++ y ∷ []) ++ others)
both {A = A} {B = B} P xs more ys others x y p =
    subst (λ (ts : List A). P ts ((ys ++ y ∷ []) ++ others)) (sym (append_assoc xs (x ∷ []) more))
    (subst (λ (bs : List B). P (xs ++ x ∷ more) bs) (sym (append_assoc ys (y ∷ []) others)) p)

pub ends_here : {A B : Type 0} (P : List A → List B → Type 0) (xs : List A) (ys : List B) → P (xs ++ []) (ys ++ []) → P xs ys
ends_here {A = A} {B = B} P xs ys p =
    subst (λ (ts : List A). P ts ys) (append-nil xs) (subst (λ (bs : List B). P (xs ++ []) bs) (append-nil ys) p)

module _ {N L : Type 0} (goes : N → ℕ → NodeEvent → List Action → N → Type 0) (talk : L → Option (List Said)) (listens : Bool) (first : Moment N L) where
  -- Turns from here on go on with those that were made.
  abbrev pub LiveOn : List ℕ → List (List Due) → Option ℕ → Moment N L → Type 0
  LiveOn times batches start here = (more : List ℕ) (others : List (List Due)) (last : Moment N L) → LiveTurns goes talk listens more others start here last
      → LiveTurns goes talk listens (times ++ more) (batches ++ others) None first last

  -- One turn more behind those that were made.
  pub lives_more : (times : List ℕ) (batches : List (List Due)) (start : Option ℕ) (now begun : ℕ) (batch : List Due) (p q : N) (x y : World L) (mid mid' : Admitting L)
      → LiveOn times batches start (moment p x mid) → x.finished ≡ false → IsBatch batch → begun ≡ unwrap_or start now
      → Turn goes talk now start batch [] listens (moment p x mid) (moment q y mid')
      → LiveOn (times ++ now ∷ []) (batches ++ batch ∷ []) (Some begun) (moment q y mid')
  lives_more times batches start now begun batch p q x y mid mid' made going fits is t more others last k =
      both (λ ts bs. LiveTurns goes talk listens ts bs None first last) times more batches others now batch
      (made (now ∷ more) (batch ∷ others) last
      (q, y, mid', going, fits, t, subst (λ (s : ℕ). LiveTurns goes talk listens more others (Some s) (moment q y mid') last) is k))

  -- Those that were made, and no more.
  pub lives_all : (times : List ℕ) (batches : List (List Due)) (start : Option ℕ) (p : N) (x : World L) (mid : Admitting L)
      → LiveOn times batches start (moment p x mid) → LiveTurns goes talk listens times batches None first (moment p x mid)
  lives_all times batches start p x mid made = ends_here (λ ts bs. LiveTurns goes talk listens ts bs None first (moment p x mid)) times batches
      (made [] [] (moment p x mid) (refl, same x, refl))

  -- The same of turns of which the last stopped.
  abbrev pub BreakOn : List ℕ → List (List Due) → Option ℕ → Moment N L → Type 0
  BreakOn times batches start here = (more : List ℕ) (others : List (List Due)) (taken : List NodeEvent) (v : World L) (door : Admitting L)
      → LiveStop goes talk listens more others taken start here (in_hands v door)
      → LiveStop goes talk listens (times ++ more) (batches ++ others) taken None first (in_hands v door)

  pub breaks_more : (times : List ℕ) (batches : List (List Due)) (start : Option ℕ) (now begun : ℕ) (batch : List Due) (p q : N) (x y : World L) (mid mid' : Admitting L)
      → BreakOn times batches start (moment p x mid) → x.finished ≡ false → IsBatch batch → begun ≡ unwrap_or start now
      → Turn goes talk now start batch [] listens (moment p x mid) (moment q y mid')
      → BreakOn (times ++ now ∷ []) (batches ++ batch ∷ []) (Some begun) (moment q y mid')
  breaks_more times batches start now begun batch p q x y mid mid' made going fits is t more others taken v door k =
      both (λ ts bs. LiveStop goes talk listens ts bs taken None first (in_hands v door)) times more batches others now batch
      (made (now ∷ more) (batch ∷ others) taken v door
      (going, fits, inr (q, y, mid', t, subst (λ (s : ℕ). LiveStop goes talk listens more others taken (Some s) (moment q y mid') (in_hands v door)) is k)))

  -- The turn that stopped.
  pub breaks_now : (times : List ℕ) (batches : List (List Due)) (start : Option ℕ) (now : ℕ) (batch : List Due) (p : N) (x v : World L) (mid door : Admitting L)
      → BreakOn times batches start (moment p x mid) → x.finished ≡ false → IsBatch batch
      → TurnStops goes talk now start batch listens (moment p x mid) (in_hands v door)
      → LiveStop goes talk listens (times ++ now ∷ []) (batches ++ batch ∷ []) [] None first (in_hands v door)
  breaks_now times batches start now batch p x v mid door made going fits s =
      made (now ∷ []) (batch ∷ []) [] v door (going, fits, inl (refl, refl, refl, s))

  -- The turn that wasn't begun.
  pub breaks_before : (times : List ℕ) (batches : List (List Due)) (start : Option ℕ) (taken : List NodeEvent) (p : N) (x : World L) (mid : Admitting L)
      → BreakOn times batches start (moment p x mid) → x.finished ≡ false
      → LiveStop goes talk listens times batches taken None first (in_hands x mid)
  breaks_before times batches start taken p x mid made going = ends_here (λ ts bs. LiveStop goes talk listens ts bs taken None first (in_hands x mid)) times batches
      (made [] [] taken x mid (going, same x, refl))
