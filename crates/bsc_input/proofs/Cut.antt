-- An input that is cut into lines as it comes, one octet more.
-- It serves the clauses of `end_line`, `end` and `keep`.
use Rattle.std.proofs.Common.{◌≡◌, ◌≢◌, ℕ, ◌+◌, ◌<◌, ◌≤◌, suc, zero, Bool, true, false, if◌then◌else◌, List, [], ◌∷◌, ◌++◌, length, take, map, refl, sym, ap, ◌∙◌, append-nil}
use Rattle.std.proofs.Common.{append_assoc, subst, arith}
use Rattle.std.proofs.lemmas.Bool.Decides.{nat_tests}
use Rattle.bsc_text.specs.declared.bounds.TheConstants.{MAX_LINE_LEN}
use Rattle.bsc_text.specs.Lines.{has_no_lf, is_line_end, line_in}
use Rattle.bsc_text.proofs.Cutting.{has_no_lf-append, pieces_of-last, pieces_of-lf}
use Rattle.bsc_input.specs.declared.bounds.TheConstants.{MOST_KEPT}
use Rattle.bsc_input.specs.Lines.{handed, lines_of}
use Rattle.bsc_input.specs.Cutting.{IsCut, kept_of}

-- ---- the line of a long piece

no_end : (c d : ℕ) (rest : List ℕ) → is_line_end (c ∷ d ∷ rest ++ 10 ∷ []) ≡ false
no_end c d [] = grind (arith, nat_tests)
no_end c d (e ∷ rest) = grind (arith, nat_tests)

-- The front of a line is that of its piece's front.
line_front : (n : ℕ) (q : List ℕ) → take n (line_in (take (suc n) q ++ 10 ∷ [])) ≡ take n (line_in (q ++ 10 ∷ []))
line_front zero q = refl
line_front (suc n) [] = refl
line_front (suc n) (c ∷ []) = refl
line_front (suc n) (c ∷ d ∷ q) = rw (no_end c d (take n q), no_end c d q) (ap (λ (l : List ℕ). c ∷ l) (line_front n (d ∷ q)))

-- a line without an LF is all of its piece
line_whole : (q : List ℕ) → has_no_lf q ≡ true → line_in q ≡ q
line_whole [] h = refl
line_whole (c ∷ []) h = grind (arith, nat_tests)
line_whole (c ∷ d ∷ q) h = grind (arith, nat_tests, line_whole (d ∷ q))

take_twice : (n m : ℕ) (q : List ℕ) → n < m → take n (take m q) ≡ take n q
take_twice zero m q l = refl
take_twice (suc n) zero q l = elim l [ ]
take_twice (suc n) (suc m) [] l = refl
take_twice (suc n) (suc m) (c ∷ q) l = ap (λ (r : List ℕ). c ∷ r) (take_twice n m q (omega (arith, l)))

take_no_lf : (n : ℕ) (q : List ℕ) → has_no_lf q ≡ true → has_no_lf (take n q) ≡ true
take_no_lf zero q h = refl
take_no_lf (suc n) [] h = refl
take_no_lf (suc n) (c ∷ q) h = grind (arith, nat_tests, take_no_lf n q)

take_nil : (n : ℕ) → take {A = ℕ} n [] ≡ []
take_nil zero = refl
take_nil (suc n) = refl

take_one_more : (n : ℕ) (q : List ℕ) (c : ℕ) → length (take n q) < n → take n (q ++ c ∷ []) ≡ take n q ++ c ∷ []
take_one_more zero q c l = absurd (omega (arith, l))
take_one_more (suc n) [] c l = ap (λ (r : List ℕ). c ∷ r) (take_nil n)
take_one_more (suc n) (d ∷ q) c l = ap (λ (r : List ℕ). d ∷ r) (take_one_more n q c (omega (arith, l)))

take_full : (n : ℕ) (q : List ℕ) (c : ℕ) → (length (take n q) < n → ⊥) → take n (q ++ c ∷ []) ≡ take n q
take_full zero q c f = refl
take_full (suc n) [] c f = absurd (f (omega arith))
take_full (suc n) (d ∷ q) c f = ap (λ (r : List ℕ). d ∷ r) (take_full n q c (λ l. f (omega (arith, l))))

-- ---- one octet more

none_kept : [] ≡ kept_of []
unfolding kept_of
none_kept = refl

no_lf_one : (q : List ℕ) (c : ℕ) → has_no_lf q ≡ true → c ≢ 10 → has_no_lf (q ++ c ∷ []) ≡ true
no_lf_one q c h n = has_no_lf-append q (c ∷ []) h (grind (arith, nat_tests))

cut_on : (read : List ℕ) (lines : List (List ℕ)) (begun : List ℕ) (c : ℕ)
    → ((more : List ℕ) → lines_of (read ++ more) ≡ lines ++ lines_of (begun ++ more))
    → (more : List ℕ) → lines_of ((read ++ c ∷ []) ++ more) ≡ lines ++ lines_of ((begun ++ c ∷ []) ++ more)
cut_on read lines begun c cut more =
    ap lines_of (append_assoc read (c ∷ []) more) ∙ cut (c ∷ more)
    ∙ ap (λ (o : List ℕ). lines ++ lines_of o) (sym (append_assoc begun (c ∷ []) more))

-- An octet for which there is room is kept.
pub kept_more : (read : List ℕ) (lines : List (List ℕ)) (begun front : List ℕ) (c : ℕ) → IsCut read lines begun front → c ≢ 10 → length front < MOST_KEPT
    → IsCut (read ++ c ∷ []) lines (begun ++ c ∷ []) (front ++ c ∷ [])
unfolding kept_of
kept_more read lines begun front c k n l = record {
  no_lf = no_lf_one begun c k.no_lf n;
  kept = ap (λ (o : List ℕ). o ++ c ∷ []) k.kept ∙ sym (take_one_more MOST_KEPT begun c (subst (λ (o : List ℕ). length o < MOST_KEPT) k.kept l));
  cut = cut_on read lines begun c k.cut;
}

-- One for which there is none isn't.
pub kept_same : (read : List ℕ) (lines : List (List ℕ)) (begun front : List ℕ) (c : ℕ) → IsCut read lines begun front → c ≢ 10 → (length front < MOST_KEPT → ⊥)
    → IsCut (read ++ c ∷ []) lines (begun ++ c ∷ []) front
unfolding kept_of
kept_same read lines begun front c k n f = record {
  no_lf = no_lf_one begun c k.no_lf n;
  kept = k.kept ∙ sym (take_full MOST_KEPT begun c (λ l. f (subst (λ (o : List ℕ). length o < MOST_KEPT) (sym k.kept) l)));
  cut = cut_on read lines begun c k.cut;
}

-- the line of a piece, of which so much is kept
handed_front : (q front : List ℕ) → front ≡ kept_of q → handed (front ++ 10 ∷ []) ≡ handed (q ++ 10 ∷ [])
unfolding kept_of handed
handed_front q front e = ap (λ (o : List ℕ). take (MAX_LINE_LEN + 1) (line_in (o ++ 10 ∷ []))) e ∙ line_front (MAX_LINE_LEN + 1) q

-- An LF ends the line.
pub line_ends : (read : List ℕ) (lines : List (List ℕ)) (begun front : List ℕ) → IsCut read lines begun front
    → IsCut (read ++ 10 ∷ []) (lines ++ handed (front ++ 10 ∷ []) ∷ []) [] []
line_ends read lines begun front k = record {
  no_lf = refl;
  kept = none_kept;
  cut = λ more. ap lines_of (append_assoc read (10 ∷ []) more) ∙ k.cut (10 ∷ more)
      ∙ ap (λ (o : List ℕ). lines ++ lines_of o) (sym (append_assoc begun (10 ∷ []) more))
      ∙ ap (λ (ps : List (List ℕ)). lines ++ map handed ps) (pieces_of-lf begun more k.no_lf)
      ∙ ap (λ (line : List ℕ). lines ++ line ∷ lines_of more) (sym (handed_front begun front k.kept))
      ∙ sym (append_assoc lines (handed (front ++ 10 ∷ []) ∷ []) (lines_of more));
}

-- The same of octets that are said to be these.
pub kept_more_so : (read : List ℕ) (lines : List (List ℕ)) (begun front read' begun' front' : List ℕ) (c : ℕ) → IsCut read lines begun front → c ≢ 10
    → length front < MOST_KEPT → read' ≡ read ++ c ∷ [] → begun' ≡ begun ++ c ∷ [] → front' ≡ front ++ c ∷ [] → IsCut read' lines begun' front'
kept_more_so read lines begun front read' begun' front' c k n l e f g = rw (e, f, g) (kept_more read lines begun front c k n l)

pub kept_same_so : (read : List ℕ) (lines : List (List ℕ)) (begun front read' begun' : List ℕ) (c : ℕ) → IsCut read lines begun front → c ≢ 10
    → (length front < MOST_KEPT → ⊥) → read' ≡ read ++ c ∷ [] → begun' ≡ begun ++ c ∷ [] → IsCut read' lines begun' front
kept_same_so read lines begun front read' begun' c k n l e f = rw (e, f) (kept_same read lines begun front c k n l)

pub line_ends_so : (read : List ℕ) (lines : List (List ℕ)) (begun front read' : List ℕ) (lines' : List (List ℕ)) (begun' front' line : List ℕ) → IsCut read lines begun front
    → line ≡ handed (front ++ 10 ∷ []) → read' ≡ read ++ 10 ∷ [] → lines' ≡ lines ++ line ∷ [] → begun' ≡ [] → front' ≡ [] → IsCut read' lines' begun' front'
line_ends_so read lines begun front read' lines' begun' front' line k l e f g h =
    rw (e, f ∙ ap (λ (o : List ℕ). lines ++ o ∷ []) l, g, h) (line_ends read lines begun front k)

-- Nothing was read.
pub none_cut : IsCut [] [] [] []
none_cut = record { no_lf = refl; kept = none_kept; cut = λ more. refl }

last_of : (read : List ℕ) (lines : List (List ℕ)) (begun front : List ℕ) → IsCut read lines begun front → lines_of read ≡ lines ++ lines_of begun
last_of read lines begun front k = ap lines_of (sym (append-nil read)) ∙ k.cut [] ∙ ap (λ (o : List ℕ). lines ++ lines_of o) (append-nil begun)

-- a piece without an LF, of which so much is kept
handed_last : (q front : List ℕ) → has_no_lf q ≡ true → front ≡ kept_of q → handed q ≡ handed front
unfolding kept_of handed
handed_last q front h e =
    ap (take (MAX_LINE_LEN + 1)) (line_whole q h) ∙ sym (take_twice (MAX_LINE_LEN + 1) MOST_KEPT q (omega arith))
    ∙ ap (take (MAX_LINE_LEN + 1)) (sym (line_whole (take MOST_KEPT q) (take_no_lf MOST_KEPT q h)))
    ∙ ap (λ (o : List ℕ). take (MAX_LINE_LEN + 1) (line_in o)) (sym e)

take_none : (n : ℕ) (q : List ℕ) → [] ≡ take (suc n) q → q ≡ []
take_none n [] e = refl
take_none n (c ∷ q) e = absurd cc

nothing_kept : (q : List ℕ) → [] ≡ kept_of q → q ≡ []
unfolding kept_of
nothing_kept q e = take_none (MAX_LINE_LEN + 1) q e

-- Where the front has octets it is the last line.
pub last_cut : (read : List ℕ) (lines : List (List ℕ)) (begun front : List ℕ) → IsCut read lines begun front → (front ≡ [] → ⊥) → lines_of read ≡ lines ++ handed front ∷ []
last_cut read lines begun front k f = last_of read lines begun front k ∙ ap (λ (ls : List (List ℕ)). lines ++ ls) (by begun k.no_lf k.kept)
  where
    by : (q : List ℕ) → has_no_lf q ≡ true → front ≡ kept_of q → lines_of q ≡ handed front ∷ []
    by [] h e = absurd (f (e ∙ sym none_kept))
    by (c ∷ q) h e = ap (map handed) (pieces_of-last c q h) ∙ ap (λ (l : List ℕ). l ∷ []) (handed_last (c ∷ q) front h e)

-- Where it has none, all lines have ended.
pub no_more : (read : List ℕ) (lines : List (List ℕ)) (begun front : List ℕ) → IsCut read lines begun front → length front ≡ 0 → lines_of read ≡ lines ++ []
no_more read lines begun front k e =
    last_of read lines begun front k ∙ ap (λ (o : List ℕ). lines ++ lines_of o) (nothing_kept begun (sym (no_octets front e) ∙ k.kept))
  where
    no_octets : (o : List ℕ) → length o ≡ 0 → o ≡ []
    no_octets [] l = refl
    no_octets (c ∷ o) l = absurd (omega (arith, l))

-- ---- the front of a piece's line

-- what a piece's line is the front of
line_begins : (piece : List ℕ) → take (length (line_in piece)) piece ≡ line_in piece
line_begins [] = refl
line_begins (c ∷ o) = by (is_line_end (c ∷ o)) (line_begins o)
  where
    by : (b : Bool) → take (length (line_in o)) o ≡ line_in o → take (length (if b then [] else c ∷ line_in o)) (c ∷ o) ≡ (if b then [] else c ∷ line_in o)
    by true ih = refl
    by false ih = ap (λ (l : List ℕ). c ∷ l) ih

take_all : (n : ℕ) (q : List ℕ) → length q ≤ n → take n q ≡ q
take_all zero [] l = refl
take_all zero (c ∷ q) l = absurd (omega (arith, l))
take_all (suc n) [] l = refl
take_all (suc n) (c ∷ q) l = ap (λ (r : List ℕ). c ∷ r) (take_all n q (omega (arith, l)))

-- A line that isn't longer is all of it, and else its front is that of the piece.
pub line_take : (most : ℕ) (piece : List ℕ) → length (line_in piece) ≤ most → take most (line_in piece) ≡ take (length (line_in piece)) piece
line_take most piece l = take_all most (line_in piece) l ∙ sym (line_begins piece)

pub line_take_front : (most : ℕ) (piece : List ℕ) → most < length (line_in piece) → take most (line_in piece) ≡ take most piece
line_take_front most piece l = ap (take most) (sym (line_begins piece)) ∙ take_twice most (length (line_in piece)) piece l
