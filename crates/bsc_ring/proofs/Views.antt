-- What every view knows after one view changed, was cut in two or took in another.
-- It serves clauses of functions of `steps`.
use Rattle.std.proofs.Common.{◌≡◌, ◌≢◌, ℕ, suc, ◌+◌, ◌≤◌, Bool, true, false, List, [], ◌∷◌, ◌++◌, length, set, ⊎_elim, sym, ◌∙◌, ap, subst, arith, length-append, append_assoc, append-nil}
use Rattle.std.proofs.lemmas.Bool.{true≢false}
use mathlib.Core.Option.{some, some-injective, some-ne-none}
use lib.ListN.{get_elem?}
use Rattle.atomic_table.proofs.Lists.{at_set}
use Rattle.bsc_ring.specs.declared.view.View.{View}
use Rattle.bsc_ring.specs.Lists.{Item, StartsWith}
use Rattle.bsc_ring.specs.Rule.{AtMostOne}
use Rattle.bsc_lemmas.proofs.Lists.{get_of_pushed as at_end}

pub longer_starts : (whole front more : List Item) → StartsWith whole front → StartsWith (whole ++ more) front
longer_starts whole front more h = (h.0 ++ more, ap (λ (l : List Item). l ++ more) h.1 ∙ append_assoc front h.0 more)

pub starts_trans : (a b c : List Item) → StartsWith a b → StartsWith b c → StartsWith a c
starts_trans a b c h k = (k.0 ++ h.0, h.1 ∙ (ap (λ (l : List Item). l ++ h.0) k.1 ∙ append_assoc c k.0 h.0))

pub starts_length : (whole front : List Item) → StartsWith whole front → length front ≤ length whole
starts_length whole front h = let e : length whole ≡ length front + length h.0 = ap (λ (l : List Item). length l) h.1 ∙ length-append front h.0 in omega (arith, e)

pub starts_whole : (whole front : List Item) → StartsWith whole front → length whole ≡ length front → whole ≡ front
starts_whole whole front h e = none_over h.0 h.1
  where
    none_over : (r : List Item) → whole ≡ front ++ r → whole ≡ front
    none_over [] w = w ∙ append-nil front
    none_over (x ∷ xs) w = let l : length whole ≡ length front + suc (length xs) = ap (λ (l : List Item). length l) w ∙ length-append front (x ∷ xs) in absurd (omega (arith, l, e))

pub next_starts : (whole front : List Item) (x : Item) → StartsWith whole front → get_elem? whole (length front) ≡ some x → StartsWith whole (front ++ x ∷ [])
next_starts whole front x h at = next_of front h.0 (subst (λ (l : List Item). get_elem? l (length front) ≡ some x) h.1 at) h.1
  where
    first_of_rest : (f r : List Item) → get_elem? (f ++ r) (length f) ≡ some x → get_elem? r 0 ≡ some x
    first_of_rest [] r e = e
    first_of_rest (y ∷ ys) r e = first_of_rest ys r e

    next_of : (f r : List Item) → get_elem? (f ++ r) (length f) ≡ some x → whole ≡ f ++ r → StartsWith whole (f ++ x ∷ [])
    next_of f [] e w = absurd (some-ne-none x (sym (first_of_rest f [] e)))
    next_of f (y ∷ ys) e w = (ys, w ∙ (ap (λ (z : Item). f ++ z ∷ ys) (some-injective y x (first_of_rest f (y ∷ ys) e)) ∙ sym (append_assoc f (x ∷ []) ys)))

-- where one view changed
pub changed : (views : List View) (id : ℕ) (w : View) (P : View → Type 0) → P w → ((i : ℕ) (x : View) → i ≢ id → get_elem? views i ≡ some x → P x) → (i : ℕ) (x : View)
    → get_elem? (set views id w) i ≡ some x → P x
changed views id w P here there i x got = ⊎_elim (λ h. subst P h.1 here) (λ h. there i x h.0 h.1) (at_set views id i w x got)

-- where one view was cut in two
pub split_all : (views : List View) (id : ℕ) (left right : View) (P : View → Type 0) → P left → P right → ((i : ℕ) (x : View) → get_elem? views i ≡ some x → P x) → (i : ℕ) (x : View)
    → get_elem? (set views id left ++ right ∷ []) i ≡ some x → P x
split_all views id left right P a b all i x got =
    ⊎_elim (λ h. changed views id left P a (λ j y _ there. all j y there) i x h) (λ h. subst P h.1 b) (at_end (set views id left) right x i got)

module _ (part : View → Bool) (views : List View) (id : ℕ) (v : View) (at : get_elem? views id ≡ some v) (one : AtMostOne part views) where
  -- who has the part after the change had it before
  had : (w : View) → (part w ≡ true → part v ≡ true) → (i : ℕ) (x : View) → get_elem? (set views id w) i ≡ some x → part x ≡ true → (y : View) × (get_elem? views i ≡ some y) × (part y ≡ true)
  had w keeps i x got has =
      ⊎_elim
      (λ h. (v, subst (λ (j : ℕ). get_elem? views j ≡ some v) (sym h.0) at, keeps (ap part h.1 ∙ has)))
      (λ h. (x, h.1, has))
      (at_set views id i w x got)

  pub one_after : (w : View) → (part w ≡ true → part v ≡ true) → AtMostOne part (set views id w)
  one_after w keeps i j x y ai aj xi yj =
      let a = had w keeps i x ai xi in
      let b = had w keeps j y aj yj in
      one i j a.0 b.0 a.1 b.1 a.2 b.2

  pub one_split : (left right : View) → (part left ≡ true → part v ≡ true) → (part right ≡ true → (part v ≡ true) × (part left ≡ false)) → AtMostOne part (set views id left ++ right ∷ [])
  one_split left right keeps gets i j x y ai aj xi yj =
      let nobody : part right ≡ true → (k : ℕ) (z : View) → get_elem? (set views id left) k ≡ some z → part z ≡ true → ⊥ =
      λ r k z got has.
      let g = gets r in
      ⊎_elim
      (λ h. true≢false (sym has ∙ (ap part (sym h.1) ∙ g.1)))
      (λ h. h.0 (one k id z v h.1 at has g.0))
      (at_set views id k left z got) in
      ⊎_elim
      (λ hi. ⊎_elim
      (λ hj. one_after left keeps i j x y hi hj xi yj)
      (λ hj. absurd (nobody (ap part hj.1 ∙ yj) i x hi xi))
      (at_end (set views id left) right y j aj))
      (λ hi. ⊎_elim
      (λ hj. absurd (nobody (ap part hi.1 ∙ xi) j y hj yj))
      (λ hj. hi.0 ∙ sym hj.0)
      (at_end (set views id left) right y j aj))
      (at_end (set views id left) right x i ai)
