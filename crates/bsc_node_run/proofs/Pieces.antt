-- The first piece of a text.
-- It serves the clauses of `first_piece`.
use Rattle.std.proofs.Common.{◌≡◌, ◌≢◌, ℕ, ◌+◌, ◌≤◌, ◌<◌, true, List, [], ◌∷◌, ◌++◌, length, take, drop, get_or, sym, ap, ◌∙◌, arith}
use Rattle.std.proofs.lemmas.List.{take_all, take-append-drop}
use Rattle.bsc_text.specs.Lines.{pieces_of, has_no_lf}
use Rattle.bsc_text.proofs.Cutting.{has_no_lf-before, pieces_of-lf, pieces_of-last}
use Rattle.bsc_lemmas.proofs.Lists.{line_cut as cut}

-- it ends with the first LF
pub first_whole : (o : List ℕ) (n : ℕ) → n < length o → ((k : ℕ) → k < n → get_or o k 0 ≢ 10) → get_or o n 0 ≡ 10 → pieces_of o ≡ take (n + 1) o ∷ pieces_of (drop (n + 1) o)
first_whole o n h none found =
    let no_lf : has_no_lf (take n o) ≡ true = has_no_lf-before n o (omega arith) none in
    let front = cut o n h found in
    let all : o ≡ (take n o ++ 10 ∷ []) ++ drop (n + 1) o = sym (take-append-drop (n + 1) o) ∙ ap (λ (x : List ℕ). x ++ drop (n + 1) o) front in
    ap pieces_of all ∙ pieces_of-lf (take n o) (drop (n + 1) o) no_lf ∙ ap (λ (x : List ℕ). x ∷ pieces_of (drop (n + 1) o)) (sym front)

-- without an LF it is all that there is
pub first_last : (o : List ℕ) (n : ℕ) → n ≤ length o → length o ≤ n → ((k : ℕ) → k < n → get_or o k 0 ≢ 10) → 0 < length o → pieces_of o ≡ o ∷ []
first_last [] n within all none some = absurd (omega arith)
first_last (c ∷ q) n within all none some =
    pieces_of-last c q (ap has_no_lf (sym (take_all n (c ∷ q) all)) ∙ has_no_lf-before n (c ∷ q) within none)
