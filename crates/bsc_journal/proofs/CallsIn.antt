-- Leaves, read a word at a time.
-- It serves the clauses of `read_leave` and `read_words`.
use Rattle.std.proofs.Common.{◌≡◌, ℕ, List, [], ◌∷◌, Option, Some, None, refl, ap, ◌∙◌}
use Rattle.std.specs.Option.{option_map}
use Rattle.bsc_history.specs.declared.call.Call.TheVariants.{Leave}
use Rattle.bsc_text.specs.Grammar.{number_of}
use Rattle.bsc_journal.specs.Reading.{Read, asked, leave_in, leave_of, number_in, read}

pub taken_apart : (o : Option ℕ) (ws : List (List ℕ)) (n : ℕ) (rest : List (List ℕ)) → option_map (λ m. read m ws) o ≡ Some (read n rest) → (o ≡ Some n) × (ws ≡ rest)
taken_apart None ws n rest e = absurd cc
taken_apart (Some m) ws n rest e =
    let same : read m ws ≡ read n rest = cc in
    (ap (λ (r : Read ℕ). Some r.value) same, ap (λ (r : Read ℕ). r.rest) same)

pub no_number : (o : Option ℕ) (ws : List (List ℕ)) → option_map (λ m. read m ws) o ≡ None → o ≡ None
no_number None ws e = refl
no_number (Some m) ws e = cc

-- ---- leaves

leave_missing : (ws : List (List ℕ)) (a b : Option ℕ) → leave_of ws a b None ≡ None
leave_missing ws None b = refl
leave_missing ws (Some a) None = refl
leave_missing ws (Some a) (Some b) = refl

leave_without : (ws : List (List ℕ)) (a c : Option ℕ) → leave_of ws a None c ≡ None
leave_without ws None c = refl
leave_without ws (Some a) c = refl

pub leave_second : (ws : List (List ℕ)) (conn : ℕ) (r : List (List ℕ)) → number_in ws ≡ Some (read conn r) → number_in r ≡ None → leave_in ws ≡ None
leave_second [] conn r e f = refl
leave_second (w ∷ []) conn r e f = refl
leave_second (w ∷ x ∷ []) conn r e f = refl
leave_second (w ∷ x ∷ y ∷ ws) conn r e f =
    let a = taken_apart (number_of w) (x ∷ y ∷ ws) conn r e in
    let none = no_number (number_of x) (y ∷ ws) (ap number_in a.1 ∙ f) in
    ap (λ (o : Option ℕ). leave_of ws (number_of w) o (number_of y)) none ∙ leave_without ws (number_of w) (number_of y)

pub leave_third : (ws : List (List ℕ)) (conn : ℕ) (r : List (List ℕ)) (taken : ℕ) (s : List (List ℕ)) → number_in ws ≡ Some (read conn r) → number_in r ≡ Some (read taken s)
    → number_in s ≡ None → leave_in ws ≡ None
leave_third [] conn r taken s e f g = refl
leave_third (w ∷ []) conn r taken s e f g = refl
leave_third (w ∷ x ∷ []) conn r taken s e f g = refl
leave_third (w ∷ x ∷ y ∷ ws) conn r taken s e f g =
    let a = taken_apart (number_of w) (x ∷ y ∷ ws) conn r e in
    let b = taken_apart (number_of x) (y ∷ ws) taken s (ap number_in a.1 ∙ f) in
    let none = no_number (number_of y) ws (ap number_in b.1 ∙ g) in
    ap (λ (o : Option ℕ). leave_of ws (number_of w) (number_of x) o) none ∙ leave_missing ws (number_of w) (number_of x)

pub leave_all : (ws : List (List ℕ)) (conn : ℕ) (r : List (List ℕ)) (taken : ℕ) (s : List (List ℕ)) (empties : ℕ) (t : List (List ℕ)) →
    number_in ws ≡ Some (read conn r) → number_in r ≡ Some (read taken s) → number_in s ≡ Some (read empties t) →
    leave_in ws ≡ Some (read (asked (Leave conn taken empties) []) t)
leave_all [] conn r taken s empties t e f g = cc
leave_all (w ∷ []) conn r taken s empties t e f g =
    let a = taken_apart (number_of w) [] conn r e in
    let no : None ≡ Some (read taken s) = ap number_in a.1 ∙ f in
    absurd cc
leave_all (w ∷ x ∷ []) conn r taken s empties t e f g =
    let a = taken_apart (number_of w) (x ∷ []) conn r e in
    let b = taken_apart (number_of x) [] taken s (ap number_in a.1 ∙ f) in
    let no : None ≡ Some (read empties t) = ap number_in b.1 ∙ g in
    absurd cc
leave_all (w ∷ x ∷ y ∷ ws) conn r taken s empties t e f g =
    let a = taken_apart (number_of w) (x ∷ y ∷ ws) conn r e in
    let b = taken_apart (number_of x) (y ∷ ws) taken s (ap number_in a.1 ∙ f) in
    let c = taken_apart (number_of y) ws empties t (ap number_in b.1 ∙ g) in
    λ i. leave_of (c.1 i) (a.0 i) (b.0 i) (c.0 i)
