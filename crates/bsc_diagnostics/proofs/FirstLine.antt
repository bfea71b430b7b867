-- The first line of a text.
-- It serves the clauses of `next_line`.
use Rattle.std.proofs.Common.{◌≡◌, ℕ, ◌+◌, ◌==◌, true, false, List, [], ◌∷◌, ◌++◌, length, take, drop, map, sym, ap, ◌∙◌}
use Rattle.std.proofs.lemmas.List.{take-append-drop}
use Rattle.bsc_text.specs.Lines.{BeginsLine, has_no_lf, line_in, pieces_of}
use Rattle.bsc_text.proofs.Cutting.{pieces_of-lf, pieces_of-last}

-- the lines of a text
abbrev pub lines : List ℕ → List (List ℕ)
lines t = map line_in (pieces_of t)

-- it ends with the first LF
pub ended : (t piece rest : List ℕ) (n : ℕ) → BeginsLine n t → piece ≡ take (n + 1) t → rest ≡ drop (n + 1) t → lines t ≡ line_in piece ∷ lines rest
ended t piece rest n begins front back =
    let whole : t ≡ (take n t ++ 10 ∷ []) ++ drop (n + 1) t = sym (take-append-drop (n + 1) t) ∙ ap (λ (x : List ℕ). x ++ drop (n + 1) t) begins.cut in
    let cut : pieces_of t ≡ (take n t ++ 10 ∷ []) ∷ pieces_of (drop (n + 1) t) = ap pieces_of whole ∙ pieces_of-lf (take n t) (drop (n + 1) t) begins.no_lf in
    ap (map line_in) cut
    ∙ ap (λ (x : List ℕ). line_in x ∷ lines (drop (n + 1) t)) (sym (front ∙ begins.cut))
    ∙ ap (λ (x : List ℕ). line_in piece ∷ lines x) (sym back)

-- without an LF it is all that there is
pub alone : (t : List ℕ) → (length t == 0) ≡ false → has_no_lf t ≡ true → lines t ≡ line_in t ∷ []
alone [] some none = absurd (let no : true ≡ false = some in cc)
alone (c ∷ q) some none = ap (map line_in) (pieces_of-last c q none)
