-- Histories that begin with others, and a caller's own entries in them.
-- It serves clauses of functions of `entering`, `laws`, `steps` and `turn`.
use Rattle.std.proofs.Common.{◌≡◌, ◌≢◌, ◌⊎◌, inl, inr, ℕ, suc, ◌+◌, ◌-◌, ◌≤◌, ◌==◌, cond, List, [], ◌∷◌, ◌++◌, length, drop, filter, refl, sym, ◌∙◌, ap, subst, arith}
use Rattle.std.proofs.Common.{length-append, length-drop, append_assoc, append-nil, ne_eqb, eq-eqb}
use Rattle.std.proofs.lemmas.List.{map-append, append_cancel_left}
use Rattle.std.proofs.lemmas.List.Elements.{filter-append}
use mathlib.Core.Logic.{dite}
use native.Mathlib.Decide.{ℕ_discrete}
use Rattle.bsc_history.specs.Marks.{entries}
use Rattle.bsc_history.specs.declared.entry.Entry.{Entry}
use Rattle.bsc_history.specs.declared.mark.Stamped.{Stamped}
use Rattle.bsc_turn.specs.Histories.{StartsWith, own_of, longer}

pub starts_self : (H : List Stamped) → StartsWith H H
starts_self H = ([], sym (append-nil H))

pub starts_more : (H front more : List Stamped) → StartsWith H front → StartsWith (H ++ more) front
starts_more H front more h = (h.0 ++ more, ap (λ (l : List Stamped). l ++ more) h.1 ∙ append_assoc front h.0 more)

pub starts_trans : (a b c : List Stamped) → StartsWith a b → StartsWith b c → StartsWith a c
starts_trans a b c h k = (k.0 ++ h.0, h.1 ∙ (ap (λ (l : List Stamped). l ++ h.0) k.1 ∙ append_assoc c k.0 h.0))

-- own entries of two histories, one behind the other
pub own_append : (G H : List Stamped) (n : ℕ) → own_of (G ++ H) n ≡ own_of G n ++ own_of H n
own_append G H n =
    ap (λ (l : List Entry). filter (λ (e : Entry). e.caller == n) l) (map-append (λ (s : Stamped). s.entry) G H) ∙ filter-append (λ (e : Entry). e.caller == n) (entries G) (entries H)

pub own_mine : (H : List Stamped) (s : Stamped) (n : ℕ) → s.entry.caller ≡ n → own_of (H ++ s ∷ []) n ≡ own_of H n ++ s.entry ∷ []
own_mine H s n e = own_append H (s ∷ []) n ∙ ap (λ b. own_of H n ++ cond b (s.entry ∷ []) []) (eq-eqb s.entry.caller n e)

pub own_else : (H : List Stamped) (s : Stamped) (n : ℕ) → s.entry.caller ≢ n → own_of (H ++ s ∷ []) n ≡ own_of H n
own_else H s n e = own_append H (s ∷ []) n ∙ (ap (λ b. own_of H n ++ cond b (s.entry ∷ []) []) (ne_eqb s.entry.caller n e) ∙ append-nil (own_of H n))

empty_front : (a b : List Entry) → a ++ b ≡ [] → a ≡ []
empty_front [] b e = refl
empty_front (x ∷ xs) b e = absurd (let bad : x ∷ (xs ++ b) ≡ [] = e in cc)

-- who has no entry has none in what was seen
pub own_none : (H front : List Stamped) (n : ℕ) → StartsWith H front → own_of H n ≡ [] → own_of front n ≡ []
own_none H front n h e = empty_front (own_of front n) (own_of h.0 n) (sym (own_append front h.0 n) ∙ (ap (λ (l : List Stamped). own_of l n) (sym h.1) ∙ e))

abbrev head_is : Stamped → List Stamped → Stamped
head_is d [] = d
head_is d (x ∷ xs) = x

-- of two histories that one history begins with, the longer is such a history too
pub starts_longer : (H a b : List Stamped) → StartsWith H a → StartsWith H b → StartsWith H (longer a b)
starts_longer H [] b h k = k
starts_longer H (x ∷ xs) [] h k = subst (StartsWith H) (sym (append-nil (x ∷ xs))) h
starts_longer H (x ∷ xs) (y ∷ ys) h k =
    let rests : xs ++ h.0 ≡ ys ++ k.0 = ap (λ (l : List Stamped). drop 1 l) (sym h.1 ∙ k.1) in
    let ih = starts_longer (xs ++ h.0) xs ys (h.0, refl) (k.0, rests) in
    (ih.0, h.1 ∙ ap (λ (l : List Stamped). x ∷ l) ih.1)

-- it begins with the first
pub longer_first : (a b : List Stamped) → StartsWith (longer a b) a
longer_first a b = (drop (length a) b, refl)

-- and with the second
pub longer_second : (H a b : List Stamped) → StartsWith H a → StartsWith H b → StartsWith (longer a b) b
longer_second H [] b h k = starts_self b
longer_second H (x ∷ xs) [] h k = (longer (x ∷ xs) [], refl)
longer_second H (x ∷ xs) (y ∷ ys) h k =
    let same : x ∷ (xs ++ h.0) ≡ y ∷ (ys ++ k.0) = sym h.1 ∙ k.1 in
    let rests : xs ++ h.0 ≡ ys ++ k.0 = ap (λ (l : List Stamped). drop 1 l) same in
    let heads : x ≡ y = ap (λ (l : List Stamped). head_is x l) same in
    let ih = longer_second (xs ++ h.0) xs ys (h.0, refl) (k.0, rests) in
    (ih.0, ap (λ (l : List Stamped). x ∷ l) ih.1 ∙ ap (λ (z : Stamped). z ∷ (ys ++ ih.0)) heads)

none_over : (whole front r : List Stamped) → whole ≡ front ++ r → length whole ≡ length front → whole ≡ front
none_over whole front [] w e = w ∙ append-nil front
none_over whole front (x ∷ xs) w e =
    let l : length whole ≡ length front + suc (length xs) = ap (λ (l : List Stamped). length l) w ∙ length-append front (x ∷ xs) in
    absurd (omega (arith, l, e))

-- it is one of the two
pub longer_one : (a b : List Stamped) → StartsWith (longer a b) b → (longer a b ≡ a) ⊎ (longer a b ≡ b)
longer_one a b h = by_rest (drop (length a) b) refl
  where
    by_rest : (r : List Stamped) → drop (length a) b ≡ r → (longer a b ≡ a) ⊎ (longer a b ≡ b)
    by_rest [] e = inl (ap (λ (l : List Stamped). a ++ l) e ∙ append-nil a)
    by_rest (x ∷ xs) e =
        let l : length (longer a b) ≡ length a + length (drop (length a) b) = length-append a (drop (length a) b) in
        let d : length (drop (length a) b) ≡ suc (length xs) = ap (λ (l : List Stamped). length l) e in
        let m : length (drop (length a) b) ≡ length b - length a = length-drop (length a) b in
        inr (none_over (longer a b) b h.0 h.1 (omega (arith, l, d, m)))

-- a caller's entries in a history between two that have the same of them
pub own_between : (H b a : List Stamped) (n : ℕ) (l : List Entry) → StartsWith H b → StartsWith b a → own_of H n ≡ l → own_of a n ≡ l → own_of b n ≡ l
own_between H b a n l h k all own =
    let outer : own_of b n ++ own_of h.0 n ≡ l = sym (own_append b h.0 n) ∙ (ap (λ (x : List Stamped). own_of x n) (sym h.1) ∙ all) in
    let inner : own_of b n ≡ own_of a n ++ own_of k.0 n = ap (λ (x : List Stamped). own_of x n) k.1 ∙ own_append a k.0 n in
    let more : own_of b n ≡ l ++ own_of k.0 n = inner ∙ ap (λ x. x ++ own_of k.0 n) own in
    let twice : (l ++ own_of k.0 n) ++ own_of h.0 n ≡ l ++ [] = ap (λ x. x ++ own_of h.0 n) (sym more) ∙ (outer ∙ sym (append-nil l)) in
    let none : own_of k.0 n ++ own_of h.0 n ≡ [] = append_cancel_left l (own_of k.0 n ++ own_of h.0 n) [] (sym (append_assoc l (own_of k.0 n) (own_of h.0 n)) ∙ twice) in
    more ∙ (ap (λ x. l ++ x) (empty_front (own_of k.0 n) (own_of h.0 n) none) ∙ append-nil l)

head_mine : (s : Stamped) (ss : List Stamped) (n : ℕ) → s.entry.caller ≡ n → length (own_of (s ∷ ss) n) ≡ suc (length (own_of ss n))
head_mine s ss n e = ap (λ b. length (cond b (s.entry ∷ own_of ss n) (own_of ss n))) (eq-eqb s.entry.caller n e)

head_else : (s : Stamped) (ss : List Stamped) (n : ℕ) → s.entry.caller ≢ n → length (own_of (s ∷ ss) n) ≡ length (own_of ss n)
head_else s ss n e = ap (λ b. length (cond b (s.entry ∷ own_of ss n) (own_of ss n))) (ne_eqb s.entry.caller n e)

-- the entries of two callers are no more than all
pub two_own : (H : List Stamped) (m n : ℕ) → m ≢ n → length (own_of H m) + length (own_of H n) ≤ length H
two_own [] m n other = omega arith
two_own (s ∷ ss) m n other =
    let tail = two_own ss m n other in
    dite (ℕ_discrete s.entry.caller m)
    (λ (e : s.entry.caller ≡ m). let a = head_mine s ss m e in let b = head_else s ss n (λ f. other (sym e ∙ f)) in omega (arith, a, b, tail))
    (λ (e : s.entry.caller ≢ m).
    let a = head_else s ss m e in
    dite (ℕ_discrete s.entry.caller n)
    (λ (f : s.entry.caller ≡ n). let b = head_mine s ss n f in omega (arith, a, b, tail))
    (λ (f : s.entry.caller ≢ n). let b = head_else s ss n f in omega (arith, a, b, tail)))
