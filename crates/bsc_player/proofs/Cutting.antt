-- Whole lines, and what may follow them.
-- It serves the clauses of `play_lines`.
use Rattle.std.proofs.Common.{◌≡◌, ℕ, Bool, true, false, ◌==◌, ◌⊎◌, inl, inr, ⊎_elim, List, [], ◌∷◌, ◌++◌, refl, ap, sym, ◌∙◌}
use Rattle.std.specs.List.{concat}
use Rattle.bsc_text.specs.Lines.{pieces_of, has_no_lf}
use Rattle.bsc_player.specs.Ends.{whole_lines}

-- with no LF there is no whole line
pub whole_lines-none : (o : List ℕ) → has_no_lf o ≡ true → whole_lines o ≡ []
whole_lines-none [] h = refl
whole_lines-none (c ∷ o) h = rw h refl

-- A piece that ends with its one LF: what follows it begins a piece of its own.
pub record IsWhole (piece : List ℕ) : Type 0 where
  pub cuts : (more : List ℕ) → pieces_of (piece ++ more) ≡ piece ∷ pieces_of more
  pub whole : (more : List ℕ) → whole_lines (piece ++ more) ≡ piece ++ whole_lines more
  pub has_lf : (more : List ℕ) → has_no_lf (piece ++ more) ≡ false

whole-lf : (c : ℕ) → (c == 10) ≡ true → IsWhole (c ∷ [])
whole-lf c e = record {
  cuts = λ more. rw e refl;
  whole = λ more. rw e refl;
  has_lf = λ more. rw e refl;
}

whole-more : (c : ℕ) (piece : List ℕ) → (c == 10) ≡ false → IsWhole piece → IsWhole (c ∷ piece)
whole-more c piece e w = record {
  cuts = λ more. rw (e, w.cuts more) refl;
  whole = λ more. rw (e, w.has_lf more, w.whole more) refl;
  has_lf = λ more. rw (e, w.has_lf more) refl;
}

-- a last piece has no LF, and all that there is
pub record IsLast (o piece : List ℕ) (pieces : List (List ℕ)) : Type 0 where
  pub none_after : pieces ≡ []
  pub no_lf : has_no_lf piece ≡ true
  pub all : o ≡ piece

-- with no pieces there is nothing
pub pieces_of-none : (o : List ℕ) → pieces_of o ≡ [] → o ≡ []
pieces_of-none [] h = refl
pieces_of-none (c ∷ o) h = absurd (by (c == 10) refl (pieces_of o) refl)
  where
    by : (b : Bool) → (c == 10) ≡ b → (ps : List (List ℕ)) → pieces_of o ≡ ps → ⊥
    by true e ps k = let h' = rw e at h in cc
    by false e [] k = let h' = rw (e, k) at h in cc
    by false e (p ∷ ps) k = let h' = rw (e, k) at h in cc

-- the first piece ends with an LF, or is all that there is
pub first_piece : (o piece : List ℕ) (pieces : List (List ℕ)) → pieces_of o ≡ piece ∷ pieces → IsWhole piece ⊎ IsLast o piece pieces
first_piece [] piece pieces h = absurd cc
first_piece (c ∷ o) piece pieces h = by (first_piece o) (c == 10) refl (pieces_of o) refl
  where
    by : ((q : List ℕ) (qs : List (List ℕ)) → pieces_of o ≡ q ∷ qs → IsWhole q ⊎ IsLast o q qs) → (b : Bool) → (c == 10) ≡ b → (ps : List (List ℕ)) → pieces_of o ≡ ps → IsWhole piece
        ⊎ IsLast (c ∷ o) piece pieces
    by next true e ps k =
        let h' = rw e at h in
        let is : piece ≡ c ∷ [] = cc in
        inl (rw is (whole-lf c e))
    by next false e [] k =
        let h' = rw (e, k) at h in
        let is : piece ≡ c ∷ [] = cc in
        let none : o ≡ [] = pieces_of-none o k in
        inr (record { none_after = cc; no_lf = rw (is, e) refl; all = cc })
    by next false e (q ∷ qs) k =
        let h' = rw (e, k) at h in
        let is : piece ≡ c ∷ q = cc in
        let after : pieces ≡ qs = cc in
        ⊎_elim
        (λ (w : IsWhole q). inl (rw is (whole-more c q e w)))
        (λ (l : IsLast o q qs). inr (record { none_after = after ∙ l.none_after; no_lf = rw (is, e) l.no_lf; all = cc }))
        (next q qs k)

-- the pieces of some octets are all of them
pub concat-pieces_of : (o : List ℕ) → concat (pieces_of o) ≡ o
concat-pieces_of [] = refl
concat-pieces_of (c ∷ o) = by (concat-pieces_of o) (c == 10) refl (pieces_of o) refl
  where
    by : concat (pieces_of o) ≡ o → (b : Bool) → (c == 10) ≡ b → (ps : List (List ℕ)) → pieces_of o ≡ ps → concat (pieces_of (c ∷ o)) ≡ c ∷ o
    by next true e ps k = rw (e, next) refl
    by next false e [] k = let ih = rw k at next in rw (e, k) cc
    by next false e (p ∷ ps) k = let ih = rw k at next in rw (e, k) (ap (λ (x : List ℕ). c ∷ x) ih)

-- the first piece, and then what the other pieces are of
pub first_and_rest : (o piece rest : List ℕ) → pieces_of o ≡ piece ∷ pieces_of rest → o ≡ piece ++ rest
first_and_rest o piece rest h = sym (concat-pieces_of o) ∙ ap concat h ∙ ap (λ (x : List ℕ). piece ++ x) (concat-pieces_of rest)
