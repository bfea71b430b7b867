-- The oldest of the first places of a table.
-- It serves the clauses of `place`.
use Rattle.std.proofs.Common.{◌≡◌, ◌+◌, ◌≤◌, ◌<◌, ℕ, List, length, slice_get, Option, Some, None, IfSome, inr, refl, sym, ap, ◌∙◌, ⊎_elim, arith}
use Rattle.std.proofs.lemmas.Option.{none-some, same_Some as some-is}
use Rattle.std.proofs.lemmas.Bool.{cases_lt}
use Rattle.bsc_lemmas.proofs.Lists.{got-within}
use Rattle.bsc_gate.specs.Oldest.{MayTake}

module _ {R : Type 0} (until : R → ℕ) where
  -- none of the first i places is free, and this is the one whose time is over first
  pub record SoFar (rows : List (Option R)) (i : ℕ) (place : Option ℕ) (least : ℕ) : Type 0 where
    pub stand : (k : ℕ) → k < i → (r : R) × (slice_get rows k ≡ Some (Some r)) × (least ≤ until r)
    pub at : IfSome place (λ p. (r : R) × (slice_get rows p ≡ Some (Some r)) × (until r ≡ least))
    pub first : place ≡ None → (i ≡ 0) × (least ≡ 18446744073709551615)

  pub so_far-none : (rows : List (Option R)) → SoFar rows 0 None 18446744073709551615
  so_far-none rows = record { stand = λ k below. absurd (omega arith); at = tt; first = λ _. (refl, refl) }

  stand-more : (rows : List (Option R)) (i least : ℕ) (r : R) → slice_get rows i ≡ Some (Some r) → least ≤ until r
      → ((k : ℕ) → k < i → (s : R) × (slice_get rows k ≡ Some (Some s)) × (least ≤ until s))
      → (k : ℕ) → k < i + 1 → (s : R) × (slice_get rows k ≡ Some (Some s)) × (least ≤ until s)
  stand-more rows i least r is above before k below =
      ⊎_elim
      (λ (lt : k < i). before k lt)
      (λ (ge : i ≤ k). let same : k ≡ i = omega (arith, below, ge) in (r, ap (slice_get rows) same ∙ is, above))
      (cases_lt k i)

  -- one more place was looked at
  pub so_far-more : (rows : List (Option R)) (i least least' : ℕ) (place place' : Option ℕ) (r : R) → slice_get rows i ≡ Some (Some r) → until r ≤ 18446744073709551615
      → (until r ≤ least → (place' ≡ Some i) × (least' ≡ until r)) → (least < until r → (place' ≡ place) × (least' ≡ least))
      → SoFar rows i place least → SoFar rows (i + 1) place' least'
  so_far-more rows i least least' place place' r is small newer kept before =
      ⊎_elim
      (λ (later : least < until r).
      let same = kept later in
      rw (same.0, same.1) (record {
        stand = stand-more rows i least r is (omega (arith, later)) before.stand;
        at = before.at;
        first = λ none. absurd (omega (arith, later, small, (before.first none).1));
      }))
      (λ (earlier : until r ≤ least).
      let same = newer earlier in
      rw (same.0, same.1) (record {
        stand = stand-more rows i (until r) r is (omega arith) (λ k below. let b = before.stand k below in (b.0, b.1, omega (arith, earlier, b.2)));
        at = (r, is, refl);
        first = λ none. absurd (none-some i (sym none));
      }))
      (cases_lt least (until r))

  -- all places were looked at
  pub so_far-all : (rows : List (Option R)) (place : Option ℕ) (least : ℕ) → SoFar rows (length rows) place least → IfSome place (λ p. MayTake until rows p)
  so_far-all rows None least all = tt
  so_far-all rows (Some p) least all = inr (record {
    row = all.at.0;
    stands = all.at.1;
    least = λ i other is.
        let s = all.stand i (got-within rows i other is) in
        (s.0, some-is other (Some s.0) (sym is ∙ s.1), omega (arith, s.2, all.at.2));
  })

  -- the place stands in the table
  pub so_far-within : (rows : List (Option R)) (i : ℕ) (place : Option ℕ) (least : ℕ) → SoFar rows i place least → IfSome place (λ p. p < length rows)
  so_far-within rows i None least s = tt
  so_far-within rows i (Some p) least s = got-within rows p (Some s.at.0) s.at.1
