-- The line that a piece holds.
-- It serves the clauses of `line_in`.
use Rattle.std.proofs.Common.{◌≡◌, ◌≢◌, ℕ, Bool, true, false, if◌then◌else◌, List, [], ◌∷◌, ◌++◌, length, take, refl, ap, ◌∙◌, arith}
use Rattle.std.proofs.lemmas.Bool.Decides.{nat_tests}
use Rattle.bsc_text.specs.Lines.{line_in, is_line_end}

-- three octets or more aren't a line's end
line_in-long : (c d e : ℕ) (s : List ℕ) → line_in (c ∷ d ∷ e ∷ s) ≡ c ∷ line_in (d ∷ e ∷ s)
line_in-long c d e s =
    let long : is_line_end (c ∷ d ∷ e ∷ s) ≡ false = grind (arith, nat_tests) in
    rw long refl

-- a piece without an LF at its end is its own line
pub line_in-stays : (s : List ℕ) → ((front : List ℕ) → s ≢ front ++ 10 ∷ []) → line_in s ≡ s
line_in-stays [] none = refl
line_in-stays (c ∷ []) none = let n : c ≢ 10 = λ e. none [] (ap (λ (x : ℕ). x ∷ []) e) in grind (arith, nat_tests)
line_in-stays (c ∷ d ∷ []) none = let n : d ≢ 10 = λ e. none (c ∷ []) (ap (λ (x : ℕ). c ∷ x ∷ []) e) in grind (arith, nat_tests)
line_in-stays (c ∷ d ∷ e ∷ s) none =
    line_in-long c d e s ∙ ap (λ (x : List ℕ). c ∷ x) (line_in-stays (d ∷ e ∷ s) (λ front h. none (c ∷ front) (ap (λ (x : List ℕ). c ∷ x) h)))

-- an LF alone is taken away
pub line_in-lf : (s : List ℕ) → ((front : List ℕ) → s ≢ front ++ 13 ∷ []) → line_in (s ++ 10 ∷ []) ≡ s
line_in-lf [] none = refl
line_in-lf (c ∷ []) none = let n : c ≢ 13 = λ e. none [] (ap (λ (x : ℕ). x ∷ []) e) in grind (arith, nat_tests)
line_in-lf (c ∷ d ∷ []) none =
    line_in-long c d 10 [] ∙ ap (λ (x : List ℕ). c ∷ x) (line_in-lf (d ∷ []) (λ front h. none (c ∷ front) (ap (λ (x : List ℕ). c ∷ x) h)))
line_in-lf (c ∷ d ∷ e ∷ s) none =
    line_in-long c d e (s ++ 10 ∷ []) ∙ ap (λ (x : List ℕ). c ∷ x) (line_in-lf (d ∷ e ∷ s) (λ front h. none (c ∷ front) (ap (λ (x : List ℕ). c ∷ x) h)))

-- a CR and an LF are taken away
pub line_in-crlf : (s : List ℕ) → line_in ((s ++ 13 ∷ []) ++ 10 ∷ []) ≡ s
line_in-crlf [] = refl
line_in-crlf (c ∷ []) = line_in-long c 13 10 []
line_in-crlf (c ∷ d ∷ []) = line_in-long c d 13 (10 ∷ []) ∙ ap (λ (x : List ℕ). c ∷ x) (line_in-crlf (d ∷ []))
line_in-crlf (c ∷ d ∷ e ∷ s) = line_in-long c d e ((s ++ 13 ∷ []) ++ 10 ∷ []) ∙ ap (λ (x : List ℕ). c ∷ x) (line_in-crlf (d ∷ e ∷ s))

-- a line is the front of its piece
front : (b : Bool) (c : ℕ) (s line : List ℕ) → take (length line) s ≡ line → take (length (if b then [] else c ∷ line)) (c ∷ s) ≡ (if b then [] else c ∷ line)
front true c s line h = refl
front false c s line h = ap (λ (x : List ℕ). c ∷ x) h

pub take_line_in : (s : List ℕ) → take (length (line_in s)) s ≡ line_in s
take_line_in [] = refl
take_line_in (c ∷ s) = front (is_line_end (c ∷ s)) c s (line_in s) (take_line_in s)
