-- A pass that gets its view back.
-- It serves clauses of functions of `entering`, `laws` and `turn`.
use Rattle.std.proofs.Common.{◌≡◌, ◌≢◌, ◌⊎◌, inl, inr, ⊎_elim, ℕ, true, List, [], ◌∷◌, length, refl, sym, subst}
use Rattle.bsc_history.specs.declared.limits.About.{About}
use Rattle.bsc_history.specs.declared.mark.Stamped.{Stamped}
use Rattle.bsc_turn.specs.declared.phase.SeatPhase.TheVariants.{Outside}
use Rattle.bsc_turn.specs.declared.view.View.{View}
use Rattle.bsc_turn.specs.Histories.{IsLonger, StartsWith}
use Rattle.bsc_turn.specs.Effects.{IsConsistent, in_phase, ended_of, after_join}
use Rattle.bsc_turn.specs.Passes.{IsSound, view_in}
use Rattle.bsc_turn.proofs.Beginnings.{longer_first, longer_one}
use Rattle.bsc_turn.proofs.Uniting.{at_middle}

-- what holds of a view holds of the one that a badge with it has
pub held_in : (P : View → Type 0) (vs : List View) (v : View) → vs ≡ v ∷ [] → P v → (vs ≡ view_in vs ∷ []) × P (view_in vs)
held_in P vs v e p = subst (λ (us : List View). (us ≡ view_in us ∷ []) × P (view_in us)) (sym e) (refl, p)

-- the view v, once it is outside, in a badge
pub sound_outside : (n : ℕ) (a : About) (limit : ℕ) (vs : List View) (v w : View) → vs ≡ w ∷ [] → w ≡ in_phase Outside v → v.live ≡ true → v.number ≡ n → v.about ≡ a → v.callers ≡ limit
    → IsConsistent v
    → (vs ≡ view_in vs ∷ []) × IsSound n a limit (view_in vs)
sound_outside n a limit vs v w has e live number about callers consistent =
    held_in (IsSound n a limit) vs w has (subst (IsSound n a limit) (sym e) (live, refl, number, about, callers, consistent))

-- a view in a badge, and what it was computed as
pub sound_as : (n : ℕ) (a : About) (limit : ℕ) (vs : List View) (w u : View) → vs ≡ w ∷ [] → w ≡ u → IsSound n a limit u → (vs ≡ view_in vs ∷ []) × IsSound n a limit (view_in vs)
sound_as n a limit vs w u has e sound = held_in (IsSound n a limit) vs w has (subst (IsSound n a limit) (sym e) sound)

-- what a pass has seen in which another ended
pub joined_longer : (v w : View) → IsConsistent (after_join v w) → IsLonger v.seen w.seen (after_join v w).seen
joined_longer v w t =
    let second = (t.1 (length v.ended) (ended_of w) (at_middle v.ended (ended_of w) w.ended)).2 in
    (longer_one v.seen w.seen second, longer_first v.seen w.seen, second)

-- where one history is the longer of two, one of these begins with the other
pub one_begins : (F G H : List Stamped) → IsLonger F G H → StartsWith F G ⊎ StartsWith G F
one_begins F G H h = ⊎_elim (λ (e : H ≡ F). inl (subst (λ (l : List Stamped). StartsWith l G) e h.2)) (λ (e : H ≡ G). inr (subst (λ (l : List Stamped). StartsWith l F) e h.1)) h.0

-- a pass that ends in another has another number
pub joined_apart : (v w : View) → IsConsistent (after_join v w) → v.number ≢ w.number
joined_apart v w t = (t.1 (length v.ended) (ended_of w) (at_middle v.ended (ended_of w) w.ended)).0

-- what is so of two views joined, where they are written in another way
pub joined_consistent : (v w v' w' : View) → v' ≡ v → w' ≡ w → IsConsistent (after_join v' w') → IsConsistent (after_join v w)
joined_consistent v w v' w' a b t = subst (λ (x : View). IsConsistent (after_join x w)) a (subst (λ (x : View). IsConsistent (after_join v' x)) b t)
