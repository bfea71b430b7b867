-- Whole runs, from their turns.
-- It serves the clauses of `run_core`.
use Rattle.std.proofs.Common.{◌≡◌, ◌≤◌, ◌<◌, ◌^◌, ℕ, ◌+◌, Bool, false, List, [], ◌∷◌, ◌++◌, length, Option, Some, refl, ap, sym, ◌∙◌, subst, append_assoc, append-nil, arith, unwrap_or}
use Rattle.std.proofs.lemmas.List.{length-append}
use Rattle.bsc_edge.specs.declared.said.Said.{Said}
use Rattle.bsc_edge.specs.Told.{Grows}
use Rattle.bsc_node.specs.declared.node_event.NodeEvent.{NodeEvent}
use Rattle.bsc_node.specs.declared.action.Action.{Action}
use Rattle.bsc_node_run.specs.declared.due.Due.{Due}
use Rattle.bsc_node_run.specs.Running.{DontFall, Turns}
use Rattle.bsc_node_run.specs.Turning.{Turn}
use Rattle.bsc_node_run.specs.Worlds.{Admitting, World}
use Rattle.bsc_node_run.specs.Moments.{moment}
use Rattle.bsc_node_run.proofs.Worlds.{same}

-- What was told grew by these, and a later call told nothing more.
pub grows_still : {A : Type 0} (old mid new : Option (List A)) (xs : List A) → new ≡ mid → Grows old mid xs → Grows old new xs
grows_still {A = A} old mid new xs e a = subst (λ (t : Option (List A)). Grows old t xs) (sym e) a

pub one_longer : (times : List ℕ) (now made : ℕ) → length times ≡ made → length (times ++ now ∷ []) ≡ made + 1
one_longer times now made e = length-append times (now ∷ []) ∙ ap (λ n. n + 1) e

-- ---- readings that don't fall

-- They don't fall from an earlier time either.
pub rise_before : (a b : ℕ) (times : List ℕ) → a ≤ b → DontFall b times → DontFall a times
rise_before a b [] le r = tt
rise_before a b (t ∷ times) le (from, below, more) = (omega (arith, le, from), below, more)

-- Those from here on go on with these and one reading more.
pub rise_more : (from : ℕ) (times : List ℕ) (old now new : ℕ) → ((more : List ℕ) → DontFall old more → DontFall from (times ++ more))
    → old ≤ now → now < 2 ^ 62 → new ≡ now → (more : List ℕ) → DontFall new more → DontFall from ((times ++ now ∷ []) ++ more)
rise_more from times old now new made le below is more r =
    subst (λ ts. DontFall from ts) (sym (append_assoc times (now ∷ []) more)) (made (now ∷ more) (le, below, subst (λ t. DontFall t more) is r))

-- Those that were made, and no more.
pub rise_all : (from : ℕ) (times : List ℕ) (old : ℕ) → ((more : List ℕ) → DontFall old more → DontFall from (times ++ more)) → DontFall from times
rise_all from times old made = subst (λ ts. DontFall from ts) (append-nil times) (made [] tt)

-- ---- turns

module _ {N L : Type 0} (goes : N → ℕ → NodeEvent → List Action → N → Type 0) (talk : L → Option (List Said)) (listens : Bool) where
  -- One turn more behind those that were made.
  pub turns_more : (first : Option ℕ) (script : List Due) (n : N) (w : World L) (door : Admitting L) (times : List ℕ) (now : ℕ) (start : Option ℕ) (rest rest' : List Due) (p q : N) (x y : World L)
      (mid mid' : Admitting L)
      → ((more : List ℕ) (m : N) (v : World L) (last : Admitting L) → Turns goes talk listens more start rest (moment p x mid) (moment m v last)
      → Turns goes talk listens (times ++ more) first script (moment n w door) (moment m v last))
      → x.finished ≡ false → Turn goes talk now start rest rest' listens (moment p x mid) (moment q y mid')
      → (more : List ℕ) (m : N) (v : World L) (last : Admitting L) → Turns goes talk listens more (Some (unwrap_or start now)) rest' (moment q y mid') (moment m v last)
      → Turns goes talk listens ((times ++ now ∷ []) ++ more) first script (moment n w door) (moment m v last)
  turns_more first script n w door times now start rest rest' p q x y mid mid' made going t more m v last k =
      subst (λ ts. Turns goes talk listens ts first script (moment n w door) (moment m v last)) (sym (append_assoc times (now ∷ []) more))
      (made (now ∷ more) m v last (rest', q, y, mid', going, t, k))

  -- The turns that were made, and no more.
  pub turns_all : (first : Option ℕ) (script : List Due) (n : N) (w : World L) (door : Admitting L) (times : List ℕ) (start : Option ℕ) (rest : List Due) (p : N) (x : World L) (mid : Admitting L)
      → ((more : List ℕ) (m : N) (v : World L) (last : Admitting L) → Turns goes talk listens more start rest (moment p x mid) (moment m v last)
      → Turns goes talk listens (times ++ more) first script (moment n w door) (moment m v last))
      → Turns goes talk listens times first script (moment n w door) (moment p x mid)
  turns_all first script n w door times start rest p x mid made =
      subst (λ ts. Turns goes talk listens ts first script (moment n w door) (moment p x mid)) (append-nil times) (made [] p x mid (refl, same x, refl))
