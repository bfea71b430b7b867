-- What a slot taken or given back does to the slots.
-- It serves clauses of functions of `steps`.
use Rattle.std.proofs.Common.{◌≡◌, ◌≢◌, ℕ, zero, suc, ◌+◌, ◌%◌, ◌<◌, ◌≤◌, Bool, true, false, List, [], ◌∷◌, ◌++◌, length, set, Option, Some, None, ◌⊎◌, inl, inr, ⊎_elim, refl, sym}
use Rattle.std.proofs.Common.{◌∙◌, ap, subst, arith, length-append, length-set, mod-lt}
use Rattle.std.proofs.Math.Nat.{add-mod_right}
use Rattle.std.proofs.lemmas.Bool.{true≢false}
use mathlib.Core.Option.{some, none, some-injective}
use mathlib.Core.Logic.{dite}
use native.Mathlib.Decide.{ℕ_discrete}
use lib.ListN.{get_elem?}
use Rattle.atomic_table.proofs.Lists.{set_here, set_else, at_snoc, one_turn}
use Rattle.bsc_ring.specs.Lists.{Item}
use Rattle.bsc_ring.specs.Rule.{Homes, Stored}
use Rattle.bsc_lemmas.proofs.Lists.{get_elem_below as at_below}

-- two places less than a turn apart have two slots
pub apart : (p q cap : ℕ) → p < q → q < p + cap → (q % cap) ≢ (p % cap)
apart p q cap lt near e = let same : p ≡ q = one_turn p q cap (omega arith) near (sym e) in absurd (omega arith)

pub apart_back : (p q cap : ℕ) → p < q → q < p + cap → (p % cap) ≢ (q % cap)
apart_back p q cap lt near e = apart p q cap lt near (sym e)

pub there : {A : Type 0} (l : List A) (i : ℕ) → i < length l → (a : A) × (get_elem? l i ≡ some a)
there [] i h = absurd (omega arith)
there (x ∷ xs) zero h = (x, refl)
there (x ∷ xs) (suc i) h = there xs i (omega arith)

pub at_or_below : (p n : ℕ) → p ≤ n → (p ≡ n) ⊎ (p < n)
at_or_below p n le = dite (ℕ_discrete p n) (λ e. inl e) (λ (ne : p ≢ n). inr (omega (arith, le, ne)))

module _ (cap head : ℕ) (pushed : List Item) (writing reading : Bool) (homes : Homes) (s : Stored cap head pushed writing reading homes) where
  slot_there : (p : ℕ) → p % cap < length homes
  slot_there p = let m : p % cap < cap = mod-lt p s.some_slot in subst (λ (n : ℕ). p % cap < n) (sym s.size) m

  set_size : (i : ℕ) (y : mathlib.Core.Option.Option (Option Item)) → length (set homes i y) ≡ cap
  set_size i y = length-set homes i y ∙ s.size

  -- the slot at the tail goes out
  pub tail_home : writing ≡ false → length pushed < head + cap → get_elem? homes (length pushed % cap) ≡ some (some None)
  tail_home idle room = s.free (length pushed) (omega arith) room (λ w. absurd (true≢false (sym w ∙ idle)))

  pub tail_out : length pushed < head + cap → Stored cap head pushed true reading (set homes (length pushed % cap) none)
  tail_out room =
      record {
        size = set_size (length pushed % cap) none;
        some_slot = s.some_slot;
        behind = s.behind;
        within = s.within;
        writes = λ _. room;
        full = λ p x low out at.
            let below = at_below pushed p x at in
            set_else homes (length pushed % cap) (p % cap) none (apart_back p (length pushed) cap below (omega (arith, room, low))) ∙ s.full p x low out at;
        free = λ p low high out.
            let more : p ≢ length pushed = out refl in
            let above : length pushed < p = omega (arith, low, more) in
            set_else homes (length pushed % cap) (p % cap) none (apart (length pushed) p cap above (let b = s.behind in omega (arith, b, high))) ∙ s.free p low high (λ _. more);
      }

  -- it comes back with an item
  pub tail_back : (x : Item) → writing ≡ true → Stored cap head (pushed ++ x ∷ []) false reading (set homes (length pushed % cap) (some (Some x)))
  tail_back x out =
      let room = s.writes out in
      let n : ℕ = length pushed in
      let long : length (pushed ++ x ∷ []) ≡ n + 1 = length-append pushed (x ∷ []) in
      record {
        size = set_size (n % cap) (some (Some x));
        some_slot = s.some_slot;
        behind = let b = s.behind in omega (arith, long, b);
        within = omega (arith, long, room);
        writes = λ bad. absurd (true≢false (sym bad));
        full = λ p y low hand at.
            ⊎_elim
            (λ (old : get_elem? pushed p ≡ some y).
            let below = at_below pushed p y old in
            set_else homes (n % cap) (p % cap) (some (Some x)) (apart_back p n cap below (omega (arith, room, low))) ∙ s.full p y low hand old)
            (λ (new : x ≡ y).
            let last = at_below (pushed ++ x ∷ []) p y at in
            ⊎_elim
            (λ (here : p ≡ n). subst (λ (q : ℕ). get_elem? (set homes (n % cap) (some (Some x))) (q % cap) ≡ some (some (Some y))) (sym here)
            (set_here homes (n % cap) (some (Some x)) (slot_there n) ∙ ap (λ (z : Item). some (some (Some z))) new))
            (λ (low' : p < n).
            let old = there pushed p low' in
            let same : old.0 ≡ y = some-injective old.0 y (sym (Rattle.atomic_table.proofs.Lists.at_longer pushed (x ∷ []) p old.0 old.1) ∙ at) in
            set_else homes (n % cap) (p % cap) (some (Some x)) (apart_back p n cap low' (omega (arith, room, low))) ∙ s.full p y low hand (old.1 ∙ ap some same))
            (at_or_below p n (omega (arith, last, long))))
            (at_snoc pushed x y p at);
        free = λ p low high _.
            let above : n < p = omega (arith, low, long) in
            set_else homes (n % cap) (p % cap) (some (Some x)) (apart n p cap above (let b = s.behind in omega (arith, b, high)))
            ∙ s.free p (omega (arith, above)) high (λ _ e. absurd (omega (arith, e, above)));
      }

  -- the slot at the head goes out
  pub head_home : (x : Item) → reading ≡ false → get_elem? pushed head ≡ some x → get_elem? homes (head % cap) ≡ some (some (Some x))
  head_home x idle at = s.full head x (omega arith) (λ r. absurd (true≢false (sym r ∙ idle))) at

  pub head_out : head < length pushed → Stored cap head pushed writing true (set homes (head % cap) none)
  head_out more =
      record {
        size = set_size (head % cap) none;
        some_slot = s.some_slot;
        behind = s.behind;
        within = s.within;
        writes = s.writes;
        full = λ p x low out at.
            let below = at_below pushed p x at in
            let not_head : p ≢ head = out refl in
            let above : head < p = omega (arith, low, not_head) in
            set_else homes (head % cap) (p % cap) none (apart head p cap above (let w = s.within in omega (arith, w, below))) ∙ s.full p x low (λ _. not_head) at;
        free = λ p low high out.
            set_else homes (head % cap) (p % cap) none (apart head p cap (omega (arith, low, more)) high) ∙ s.free p low high out;
      }

  -- it comes back empty
  pub head_back : head < length pushed → Stored cap (suc head) pushed writing false (set homes (head % cap) (some None))
  head_back more =
      record {
        size = set_size (head % cap) (some None);
        some_slot = s.some_slot;
        behind = omega (arith, more);
        within = let w = s.within in omega (arith, w);
        writes = λ out. let w = s.writes out in omega (arith, w);
        full = λ p x low _ at.
            let below = at_below pushed p x at in
            let above : head < p = omega (arith, low) in
            set_else homes (head % cap) (p % cap) (some None) (apart head p cap above (let w = s.within in omega (arith, w, below)))
            ∙ s.full p x (omega (arith, above)) (λ _ e. absurd (omega (arith, e, above))) at;
        free = λ p low high out.
            ⊎_elim
            (λ (here : p ≡ head + cap).
            subst (λ (q : ℕ). get_elem? (set homes (head % cap) (some None)) q ≡ some (some None)) (sym (ap (λ (z : ℕ). z % cap) here ∙ add-mod_right head cap))
            (set_here homes (head % cap) (some None) (slot_there head)))
            (λ (below : p < head + cap).
            set_else homes (head % cap) (p % cap) (some None) (apart head p cap (omega (arith, low, more)) below) ∙ s.free p low below out)
            (at_or_below p (head + cap) (omega (arith, high)));
      }
