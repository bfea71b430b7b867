-- The order of octets is that of the numbers that they spell.
-- It serves the clauses of `is_at_most`.
use Rattle.std.proofs.Common.{◌≡◌, inl, inr, ℕ, ◌+◌, ◌*◌, ◌<◌, nat_le, Bool, true, false, List, [], ◌∷◌, length, refl, ap, sym, ◌∙◌, arith}
use Rattle.std.specs.List.{AllByRecursion}
use Rattle.std.specs.Cmp.{nat_cmp_is}
use Rattle.std.specs.Cmp.Lexicographic.{slice_cmp}
use Rattle.std.specs.declared.cmp.Ordering.{Ordering}
use Rattle.std.specs.declared.cmp.Ordering.TheVariants.{Less, Equal, Greater}
use Rattle.std.specs.Ordering.{is_le, nat_cmp, ordering_then}
use Rattle.std.proofs.lemmas.Bool.{cases_order, le-leb, lt-leb}
use Rattle.bsc_desk.specs.Orders.{at_most, spelled}

abbrev pub AreOctets : List ℕ → Type 0
AreOctets xs = AllByRecursion (λ x. x < 256) xs

-- behind a lower number no octets spell the higher one
stays_below : (m n : ℕ) (xs ys : List ℕ) → length xs ≡ length ys → AreOctets xs → AreOctets ys → m < n → spelled m xs < spelled n ys
stays_below m n [] [] same all every low = low
stays_below m n [] (y ∷ ys) same all every low = absurd (omega arith)
stays_below m n (x ∷ xs) [] same all every low = absurd (omega arith)
stays_below m n (x ∷ xs) (y ∷ ys) same all every low = let a = all.0 in stays_below (m * 256 + x) (n * 256 + y) xs ys (omega arith) all.1 every.1 (omega arith)

pub ordered : (n : ℕ) (xs ys : List ℕ) → length xs ≡ length ys → AreOctets xs → AreOctets ys → at_most xs ys ≡ nat_le (spelled n xs) (spelled n ys)
ordered n [] [] same all every = sym (le-leb n n (omega arith))
ordered n [] (y ∷ ys) same all every = absurd (omega arith)
ordered n (x ∷ xs) [] same all every = absurd (omega arith)
ordered n (x ∷ xs) (y ∷ ys) same all every =
    let first : (o : Ordering) → o ≡ nat_cmp x y → at_most (x ∷ xs) (y ∷ ys) ≡ is_le (ordering_then o (slice_cmp nat_cmp xs ys)) =
    λ o is. ap (λ z. is_le (ordering_then z (slice_cmp nat_cmp xs ys))) (sym is) in
    let long : length xs ≡ length ys = omega arith in
    elim (cases_order x y) [
      | inl e ↦ first Equal (nat_cmp_is x y Equal e) ∙ ordered (n * 256 + x) xs ys long all.1 every.1 ∙ ap (λ z. nat_le (spelled (n * 256 + x) xs) (spelled (n * 256 + z) ys)) e
      | inr (inl low) ↦ (let up = stays_below (n * 256 + x) (n * 256 + y) xs ys long all.1 every.1 (omega arith) in first Less (nat_cmp_is x y Less low)
          ∙ sym (le-leb (spelled (n * 256 + x) xs) (spelled (n * 256 + y) ys) (omega arith)))
      | inr (inr high) ↦ (let down = stays_below (n * 256 + y) (n * 256 + x) ys xs (sym long) every.1 all.1 (omega arith) in first Greater (nat_cmp_is x y Greater high)
          ∙ sym (lt-leb (spelled (n * 256 + x) xs) (spelled (n * 256 + y) ys) down))
    ]
