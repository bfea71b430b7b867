-- Words, one after another.
-- It serves the clauses of `next_word`.
use Rattle.std.proofs.Common.{◌≡◌, ◌≢◌, ℕ, ◌≤◌, ◌<◌, not, ◌==◌, if◌then◌else◌, List, [], ◌∷◌, length, take, drop, get_or, zero, suc, ap, ◌∙◌, arith}
use Rattle.std.proofs.lemmas.Bool.Decides.{nat_tests}
use Rattle.bsc_text.specs.Lines.{in_front}
use Rattle.bsc_text.specs.Words.{words_of}

-- which of three is chosen
chosen : {X : Type 0} (c d : ℕ) (spaced alone ws : X) → c ≢ 32 → d ≢ 32 → (if c == 32 then spaced else if not (d == 32) then ws else alone) ≡ ws
chosen c d spaced alone ws m n = grind (arith, nat_tests)

-- a word goes up to a space or the end
pub words_of-cut : (n : ℕ) (line : List ℕ) → 0 < n → n ≤ length line → ((k : ℕ) → k < n → get_or line k 0 ≢ 32) → (n < length line → get_or line n 0 ≡ 32) →
    words_of line ≡ take n line ∷ words_of (drop n line)
words_of-cut zero line h k w e = absurd (omega arith)
words_of-cut (suc n) [] h k w e = absurd (omega arith)
words_of-cut (suc zero) (c ∷ []) h k w e = let n : c ≢ 32 = w 0 (omega arith) in grind (arith, nat_tests)
words_of-cut (suc zero) (c ∷ d ∷ line) h k w e =
    let n : c ≢ 32 = w 0 (omega arith) in
    let s : d ≡ 32 = e (omega arith) in
    grind (arith, nat_tests)
words_of-cut (suc (suc n)) (c ∷ []) h k w e = absurd (omega arith)
words_of-cut (suc (suc n)) (c ∷ d ∷ line) h k w e =
    let m : c ≢ 32 = w 0 (omega arith) in
    let s : d ≢ 32 = w 1 (omega arith) in
    let ih = words_of-cut (suc n) (d ∷ line) (omega arith) (omega arith) (λ j l. w (suc j) (omega arith)) (λ l. e (omega arith)) in
    chosen c d (words_of (d ∷ line)) ((c ∷ []) ∷ words_of (d ∷ line)) (in_front c (words_of (d ∷ line))) m s ∙ ap (in_front c) ih

-- what begins with no space has a word
pub has_word : (n : ℕ) (line : List ℕ) → (0 < length line → get_or line 0 0 ≢ 32) → (n < length line → get_or line n 0 ≡ 32) → 0 < length line → 0 < n
has_word zero line s e h = absurd (s h (e h))
has_word (suc n) line s e h = omega arith
