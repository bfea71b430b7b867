-- The pass of a broadcast over the rows.
-- It serves the clauses of `offer_each`.
use Rattle.std.proofs.Common.{◌≡◌, ℕ, zero, suc, ◌+◌, ◌<◌, ◌^◌, Bool, true, false, cond, List, [], ◌∷◌, ◌++◌, length, filter, drop, get_or, vec_len, Vec, None, refl, ap, sym, ◌∙◌, subst, arith}
use Rattle.std.proofs.Math.ListN.{set}
use Rattle.std.specs.List.{AllByRecursion}
use Rattle.std.specs.declared.alloc.Global.{Global}
use Rattle.bsc_history.specs.Counting.{one_if}
use Rattle.bsc_ring.specs.Ends.{pushed}
use Rattle.bsc_desk.specs.declared.fate.Fate.{Fate}
use Rattle.bsc_desk.specs.declared.row.Row.{Row}
use Rattle.bsc_desk.specs.Copying.{AreBatches}
use Rattle.bsc_desk.specs.Fates.{AllBefall, Befalls, FewPushed, is_meant}

pub all_push : (o : List ℕ) (xs : List (List ℕ)) (x : List ℕ) → AllByRecursion (λ y. y ≡ o) xs → x ≡ o → AllByRecursion (λ y. y ≡ o) (xs ++ x ∷ [])
all_push o [] x all same = (same, tt)
all_push o (y ∷ ys) x all same = (all.0, all_push o ys x all.1 same)

pub batch_push : (o : List ℕ) (bs : List (Vec (List ℕ) Global)) (b : Vec (List ℕ) Global) → AreBatches o bs → vec_len b ≡ 32 → AllByRecursion (λ x. x ≡ o) b.items → AreBatches o (bs ++ b ∷ [])
batch_push o [] b all long same = ((long, same), tt)
batch_push o (c ∷ bs) b all long same = (all.0, batch_push o bs b all.1 long same)

-- The first i rows were gone through, with these fates, and the others are as they were.
abbrev pub Reach : ℕ → List ℕ → ℕ → List Row → List Fate → List Row → Type 0
Reach conn o zero rows [] now = now ≡ rows
Reach conn o (suc i) (r ∷ rows) (x ∷ fates) (s ∷ now) = Befalls (is_meant conn) None o r x s × Reach conn o i rows fates now
Reach conn o i rows fates now = ⊥

-- the row at the place i is as it was
pub reach_at : (conn : ℕ) (o : List ℕ) (i : ℕ) (rows : List Row) (fates : List Fate) (now : List Row) (r : Row) → Reach conn o i rows fates now → get_or now i r ≡ get_or rows i r
reach_at conn o zero rows [] now r h = ap (λ (l : List Row). get_or l 0 r) h
reach_at conn o (suc i) (y ∷ rows) (x ∷ fates) (s ∷ now) r h = reach_at conn o i rows fates now r h.1
reach_at conn o i rows fates now r h = absurd h

reach_more : (conn : ℕ) (o : List ℕ) (i : ℕ) (rows : List Row) (fates : List Fate) (now : List Row) (r : Row) (x : Fate) (s : Row) → i < length rows → Reach conn o i rows fates now
    → Befalls (is_meant conn) None o (get_or now i r) x s → Reach conn o (suc i) rows (fates ++ x ∷ []) (set now i s)
reach_more conn o zero [] [] now r x s within h c = absurd (omega arith)
reach_more conn o zero (y ∷ rows) [] now r x s within h c =
    let c' : Befalls (is_meant conn) None o y x s = subst (λ (l : List Row). Befalls (is_meant conn) None o (get_or l 0 r) x s) h c in
    subst (λ (l : List Row). Reach conn o 1 (y ∷ rows) (x ∷ []) (set l 0 s)) (sym h) (c', refl)
reach_more conn o (suc i) (y ∷ rows) (z ∷ fates) (n ∷ now) r x s within h c = (h.0, reach_more conn o i rows fates now r x s (omega arith) h.1 c)
reach_more conn o i rows fates now r x s within h c = absurd h

-- one row more
pub reach_next : (conn : ℕ) (o : List ℕ) (i : ℕ) (rows : List Row) (fates : List Fate) (now : List Row) (r : Row) (x : Fate) (s : Row) → i < length rows → Reach conn o i rows fates now
    → Befalls (is_meant conn) None o (get_or now i r) x s → Reach conn o (i + 1) rows (fates ++ x ∷ []) (set now i s)
reach_next conn o i rows fates now r x s within h c =
    let more : suc i ≡ i + 1 = omega arith in
    subst (λ k. Reach conn o k rows (fates ++ x ∷ []) (set now i s)) more (reach_more conn o i rows fates now r x s within h c)

-- all rows
pub reach_end : (conn : ℕ) (o : List ℕ) (rows : List Row) (fates : List Fate) (now : List Row) → Reach conn o (length rows) rows fates now → AllBefall (is_meant conn) None o rows fates now
reach_end conn o [] [] [] h = tt
reach_end conn o [] [] (s ∷ now) h = cc
reach_end conn o (r ∷ rows) (x ∷ fates) (s ∷ now) h = (h.0, reach_end conn o rows fates now h.1)
reach_end conn o rows fates now h = absurd h

drop_next : (rows : List Row) (i : ℕ) (r : Row) → i < length rows → drop i rows ≡ get_or rows i r ∷ drop (suc i) rows
drop_next [] i r within = absurd (omega arith)
drop_next (x ∷ xs) zero r within = refl
drop_next (x ∷ xs) (suc i) r within = drop_next xs i r (omega arith)

rest_counted : (A : Row → Bool) (rows : List Row) (i : ℕ) (r : Row) → i < length rows → length (filter A (drop i rows)) ≡ one_if (A (get_or rows i r)) + length (filter A (drop (suc i) rows))
rest_counted A rows i r within =
    let x = get_or rows i r in
    let F = filter A (drop (suc i) rows) in
    ap (λ (l : List Row). length (filter A l)) (drop_next rows i r within)
    ∙ elim (A x) as (λ b. length (cond b (x ∷ F) F) ≡ one_if b + length F) [ true ↦ omega arith | false ↦ omega arith ]

-- of those that a test keeps among the rest, the next is one if it passes
pub rest_at : (A : Row → Bool) (conn : ℕ) (o : List ℕ) (i : ℕ) (rows : List Row) (fates : List Fate) (now : List Row) (r : Row) → Reach conn o i rows fates now → i < length rows
    → length (filter A (drop i rows)) ≡ one_if (A (get_or now i r)) + length (filter A (drop (i + 1) rows))
rest_at A conn o i rows fates now r h within =
    let more : suc i ≡ i + 1 = omega arith in
    rest_counted A rows i r within ∙ ap (λ (x : Row). one_if (A x) + length (filter A (drop (suc i) rows))) (sym (reach_at conn o i rows fates now r h))
    ∙ ap (λ k. one_if (A (get_or now i r)) + length (filter A (drop k rows))) more

pub few_at : (conn : ℕ) (o : List ℕ) (i : ℕ) (rows : List Row) (fates : List Fate) (now : List Row) (r : Row) → Reach conn o i rows fates now → i < length rows → FewPushed rows
    → length (pushed (get_or now i r).inlet) < 2 ^ 63
few_at conn o i rows fates now r h within few = subst (λ (x : Row). length (pushed x.inlet) < 2 ^ 63) (sym (reach_at conn o i rows fates now r h)) (here rows i within few)
  where
    here : (rows : List Row) (i : ℕ) → i < length rows → FewPushed rows → length (pushed (get_or rows i r).inlet) < 2 ^ 63
    here [] i within few = absurd (omega arith)
    here (x ∷ xs) zero within few = few.0
    here (x ∷ xs) (suc i) within few = here xs i (omega arith) few.1
