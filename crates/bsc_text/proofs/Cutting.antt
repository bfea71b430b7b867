-- Where a script is cut into pieces.
-- It serves clauses of functions of `feed` and `pieces`.
use Rattle.std.proofs.Common.{◌≡◌, ◌≢◌, ℕ, ◌+◌, ◌≤◌, ◌<◌, Bool, true, false, ◌==◌, if◌then◌else◌, List, [], ◌∷◌, ◌++◌, length, get_or, take, zero, suc, refl, ap, arith}
use Rattle.std.proofs.lemmas.Bool.Decides.{nat_tests}
use Rattle.bsc_text.specs.Lines.{pieces_of, in_front, line_in, has_no_lf}

-- octets without an LF, one run after another
pub has_no_lf-append : (a b : List ℕ) → has_no_lf a ≡ true → has_no_lf b ≡ true → has_no_lf (a ++ b) ≡ true
has_no_lf-append [] b h k = k
has_no_lf-append (c ∷ a) b h k = grind (arith, nat_tests, has_no_lf-append a b)

-- octets before which no LF was found
pub has_no_lf-before : (n : ℕ) (o : List ℕ) → n ≤ length o → ((k : ℕ) → k < n → get_or o k 0 ≢ 10) → has_no_lf (take n o) ≡ true
has_no_lf-before zero o w f = refl
has_no_lf-before (suc n) [] w f = refl
has_no_lf-before (suc n) (c ∷ o) w f =
    let h : c ≢ 10 = f 0 (omega arith) in
    let ih = has_no_lf-before n o (omega arith) (λ k l. f (suc k) (omega arith)) in
    grind (arith, nat_tests)

-- a piece ends with the first LF
pub pieces_of-lf : (q o : List ℕ) → has_no_lf q ≡ true → pieces_of ((q ++ 10 ∷ []) ++ o) ≡ (q ++ 10 ∷ []) ∷ pieces_of o
pieces_of-lf [] o h = refl
pieces_of-lf (c ∷ q) o h = grind (arith, nat_tests, pieces_of-lf q o)

-- the last piece has no LF
pub pieces_of-last : (c : ℕ) (q : List ℕ) → has_no_lf (c ∷ q) ≡ true → pieces_of (c ∷ q) ≡ (c ∷ q) ∷ []
pieces_of-last c [] h = grind (arith, nat_tests)
pieces_of-last c (d ∷ q) h = grind (arith, nat_tests, pieces_of-last d q)

-- some piece comes first, and begins with these octets
abbrev pub BeginsPiece : List (List ℕ) → List ℕ → Type 0
BeginsPiece pieces q = (r : List ℕ) × (ps : List (List ℕ)) × (pieces ≡ (q ++ r) ∷ ps)

fronted : (c : ℕ) (q : List ℕ) (pieces : List (List ℕ)) → BeginsPiece pieces q → BeginsPiece (in_front c pieces) (c ∷ q)
fronted c q pieces h = (h.0, h.1, ap (in_front c) h.2)

alone : (c : ℕ) (pieces : List (List ℕ)) → BeginsPiece (in_front c pieces) (c ∷ [])
alone c [] = ([], [], refl)
alone c (p ∷ ps) = (p, ps, refl)

-- what has no LF lies in one piece
pub pieces_of-begin : (c : ℕ) (q o : List ℕ) → has_no_lf (c ∷ q) ≡ true → BeginsPiece (pieces_of ((c ∷ q) ++ o)) (c ∷ q)
pieces_of-begin c [] o h =
    let e : (c == 10) ≡ false = grind (arith, nat_tests) in
    rw e (alone c (pieces_of o))
pieces_of-begin c (d ∷ q) o h =
    let e : (c == 10) ≡ false = grind (arith, nat_tests) in
    let k : has_no_lf (d ∷ q) ≡ true = grind (arith, nat_tests) in
    let ih = pieces_of-begin d q o k in
    rw e (fronted c (d ∷ q) (pieces_of ((d ∷ q) ++ o)) ih)

-- at most an LF and a CR are taken away of a piece
pub line_in-length : (q r : List ℕ) → has_no_lf q ≡ true → length q ≤ length (line_in (q ++ r)) + 1
line_in-length [] r h = omega arith
line_in-length (c ∷ []) r h = omega arith
line_in-length (c ∷ d ∷ q) r h = grind (arith, nat_tests, line_in-length (d ∷ q) r)

-- how many octets some pieces have
total : List (List ℕ) → ℕ
total [] = 0
total (p ∷ ps) = length p + total ps

total-in_front : (c : ℕ) (ps : List (List ℕ)) → total (in_front c ps) ≡ total ps + 1
unfolding total
total-in_front c [] = omega arith
total-in_front c (p ∷ ps) = omega arith

-- no octet is lost
total-pieces_of : (o : List ℕ) → total (pieces_of o) ≡ length o
unfolding total
total-pieces_of [] = refl
total-pieces_of (c ∷ o) = grind (arith, nat_tests, total-pieces_of o, total-in_front c (pieces_of o))

-- what comes after the first piece
pub length-pieces_of : (o p rest : List ℕ) → pieces_of o ≡ p ∷ pieces_of rest → length o ≡ length p + length rest
unfolding total
length-pieces_of o p rest e = omega (arith, total-pieces_of o, total-pieces_of rest, ap total e)

some : (c : ℕ) (ps : List (List ℕ)) (p : List ℕ) (more : List (List ℕ)) → in_front c ps ≡ p ∷ more → 0 < length p
some c [] p more e = let k : c ∷ [] ≡ p = cc in omega (arith, ap length k)
some c (q ∷ ps) p more e = let k : c ∷ q ≡ p = cc in omega (arith, ap length k)

picked : (b : Bool) (c : ℕ) (rest ps : List (List ℕ)) (p : List ℕ) (more : List (List ℕ)) → (if b then (c ∷ []) ∷ rest else in_front c ps) ≡ p ∷ more → 0 < length p
picked true c rest ps p more e = let k : c ∷ [] ≡ p = cc in omega (arith, ap length k)
picked false c rest ps p more e = some c ps p more e

-- a piece is not empty
pub length-piece : (o p : List ℕ) (more : List (List ℕ)) → pieces_of o ≡ p ∷ more → 0 < length p
length-piece [] p more e = absurd cc
length-piece (c ∷ o) p more e = picked (c == 10) c (pieces_of o) (pieces_of o) p more e
