-- The links of a node, and the log with more lines.
-- It serves clauses of functions of `laws`.
use Rattle.std.proofs.Common.{◌≡◌, ◌⊎◌, inl, inr, ℕ, zero, suc, ◌+◌, ◌<◌, Bool, true, false, ◌||◌, List, [], ◌∷◌, ◌++◌, length, drop, Some, refl, ap, sym, ◌∙◌, arith}
use Rattle.std.specs.Prelude.{slice_get}
use Rattle.std.specs.List.{list_any}
use Rattle.std.proofs.lemmas.Option.{same_Some}
use Rattle.bsc_node.specs.declared.link_name.LinkName.{LinkName}
use Rattle.bsc_node.specs.Links.{begins}
use Rattle.bsc_node.specs.Logs.{Line, Log}
use Rattle.bsc_node_links.specs.Lives.{HasBegun, LinkLife, lines_since}
use Rattle.bsc_network_of_runs.specs.Nodes.{HasNow}

-- an element is in the list, or behind it
pub got-either : {A : Type 0} (xs ys : List A) (i : ℕ) (x : A) → slice_get (xs ++ ys) i ≡ Some x
    → (slice_get xs i ≡ Some x) ⊎ ((j : ℕ) × (i ≡ length xs + j) × (slice_get ys j ≡ Some x))
got-either [] ys i x h = inr (i, omega arith, h)
got-either (a ∷ xs) ys zero x h = inl h
got-either {A} (a ∷ xs) ys (suc i) x h = by (got-either xs ys i x h)
  where
    by : (slice_get xs i ≡ Some x) ⊎ ((j : ℕ) × (i ≡ length xs + j) × (slice_get ys j ≡ Some x)) → (slice_get xs i ≡ Some x) ⊎ ((j : ℕ) × (suc i ≡ suc (length xs) + j) × (slice_get ys j ≡ Some x))
    by (inl k) = inl k
    by (inr (j, is, k)) = inr (j, omega arith, k)

-- ---- the newest beginning is one

pub none-later : (test : Line → Bool) (xs : List Line) (i : ℕ) (m : Line) → list_any test xs ≡ false → slice_get xs i ≡ Some m → test m ≡ true → ⊥
none-later test [] i m none at is = cc
none-later test (x ∷ xs) zero m none at is = by (test x) none (ap test (same_Some x m at) ∙ is)
  where
    by : (b : Bool) → (b || list_any test xs) ≡ false → b ≡ true → ⊥
    by true g e = cc
    by false g e = cc
none-later test (x ∷ xs) (suc i) m none at is = none-later test xs i m (by (test x) none) at is
  where
    by : (b : Bool) → (b || list_any test xs) ≡ false → list_any test xs ≡ false
    by true g = cc
    by false g = g

got-drop : {A : Type 0} (n : ℕ) (xs : List A) (k i : ℕ) (x : A) → slice_get xs k ≡ Some x → k ≡ n + i → slice_get (drop n xs) i ≡ Some x
got-drop zero xs k i x h is = (let same : k ≡ i = omega arith in ap (λ (j : ℕ). slice_get xs j) (sym same) ∙ h)
got-drop (suc n) [] k i x h is = cc
got-drop (suc n) (a ∷ xs) zero i x h is = absurd (omega arith)
got-drop (suc n) (a ∷ xs) (suc k) i x h is = got-drop n xs k i x h (omega arith)

-- it isn't that one of two began before the other
not_before : (L : Log) (x y : LinkLife) → x.name ≡ y.name → HasNow L x → HasBegun L y → x.began < y.began → ⊥
not_before L x y same now has less =
    let gap = lesser x.began y.began less in
    none-later (begins x.name) (lines_since L x) gap.0 has.line now.since (got-drop (x.began + 1) L y.began gap.0 has.line has.at gap.1)
    (ap (λ (name : LinkName). begins name has.line) same ∙ has.begins_it)
  where
    lesser : (i j : ℕ) → i < j → (k : ℕ) × (j ≡ (i + 1) + k)
    lesser zero zero h = absurd (omega arith)
    lesser zero (suc j) h = (j, omega arith)
    lesser (suc i) zero h = absurd (omega arith)
    lesser (suc i) (suc j) h = (let r = lesser i j (omega arith) in (r.0, omega (arith, r.1)))

pub either_way : (i j : ℕ) → (i < j) ⊎ ((j < i) ⊎ (i ≡ j))
either_way zero zero = inr (inr refl)
either_way zero (suc j) = inl (omega arith)
either_way (suc i) zero = inr (inl (omega arith))
either_way (suc i) (suc j) = by (either_way i j)
  where
    by : (i < j) ⊎ ((j < i) ⊎ (i ≡ j)) → (suc i < suc j) ⊎ ((suc j < suc i) ⊎ (suc i ≡ suc j))
    by (inl h) = inl (omega arith)
    by (inr (inl h)) = inr (inl (omega arith))
    by (inr (inr h)) = inr (inr (ap suc h))

pub one_beginning : (L : Log) (x y : LinkLife) → x.name ≡ y.name → HasNow L x → HasNow L y → x.began ≡ y.began
one_beginning L x y same now then_now = by (either_way x.began y.began)
  where
    by : (x.began < y.began) ⊎ ((y.began < x.began) ⊎ (x.began ≡ y.began)) → x.began ≡ y.began
    by (inl h) = absurd (not_before L x y same now then_now.begun h)
    by (inr (inl h)) = absurd (not_before L y x (sym same) then_now now.begun h)
    by (inr (inr h)) = h
