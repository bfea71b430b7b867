-- Lists that are made from an index.
-- It serves the clauses of `push_npdu`.
use Rattle.std.proofs.Common.{◌≡◌, ℕ, ◌+◌, ◌%◌, List, [], ◌∷◌, ◌++◌, map, arith, ap, ◌∙◌, sym, append_assoc}
use Rattle.std.specs.List.{range_with_len}
use Rattle.std.proofs.lemmas.List.FromFn.{map-range_with_len_more}

-- one octet more of an NPDU, behind other octets
pub npdu_more : (xs : List ℕ) (i k j : ℕ) → (xs ++ map (λ j. (i + k + j) % 256) (range_with_len 0 j)) ++ ((i + k + j) % 256) ∷ [] ≡ xs ++ map (λ j. (i + k + j) % 256) (range_with_len 0 (j + 1))
npdu_more xs i k j =
    append_assoc xs (map (λ j. (i + k + j) % 256) (range_with_len 0 j)) (((i + k + j) % 256) ∷ [])
    ∙ ap (λ (l : List ℕ). xs ++ l) (sym (map-range_with_len_more (λ j. (i + k + j) % 256) 0 j j (omega arith)))
