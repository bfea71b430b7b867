-- Forwards, read a word at a time.
use Rattle.std.proofs.Common.{◌≡◌, ℕ, List, [], ◌∷◌, Option, Some, None, refl, ap, ◌∙◌}
use Rattle.hex.specs.Hex.{decode_of}
use Rattle.bsc_history.specs.declared.call.Call.TheVariants.{Forward}
use Rattle.bsc_text.specs.Grammar.{decoded, number_of}
use Rattle.bsc_journal.specs.Reading.{Read, after_one, asked, forward_in, forward_of, looks_of, number_in, numbers_in, read}
use Rattle.bsc_journal.proofs.CallsIn.{no_number, taken_apart}

cut : (looks : Read (List ℕ)) (a : Option ℕ) → forward_of looks a None ≡ None
cut looks None = refl
cut looks (Some conn) = refl

pub first : (ws : List (List ℕ)) → number_in ws ≡ None → forward_in ws ≡ None
first [] e = refl
first (w ∷ []) e = refl
first (w ∷ x ∷ ws) e =
    ap (λ (o : Option ℕ). forward_of (numbers_in (after_one ws)) o (decoded (decode_of x))) (no_number (number_of w) (x ∷ ws) e)

pub short : (ws : List (List ℕ)) (conn : ℕ) (r : List (List ℕ)) → number_in ws ≡ Some (read conn r) → r ≡ [] → forward_in ws ≡ None
short [] conn r e f = refl
short (w ∷ []) conn r e f = refl
short (w ∷ x ∷ ws) conn r e f =
    let a = taken_apart (number_of w) (x ∷ ws) conn r e in
    let no : x ∷ ws ≡ [] = a.1 ∙ f in
    absurd cc

abbrev frame_at : List (List ℕ) → Option (List ℕ)
frame_at [] = None
frame_at (w ∷ ws) = decoded (decode_of w)

pub bad : (ws : List (List ℕ)) (conn : ℕ) (r : List (List ℕ)) (w : List ℕ) (s : List (List ℕ)) → number_in ws ≡ Some (read conn r) → r ≡ w ∷ s → decoded (decode_of w) ≡ None → forward_in ws ≡ None
bad [] conn r w s e f g = refl
bad (v ∷ []) conn r w s e f g = refl
bad (v ∷ x ∷ ws) conn r w s e f g =
    let a = taken_apart (number_of v) (x ∷ ws) conn r e in
    let none : decoded (decode_of x) ≡ None = ap frame_at (a.1 ∙ f) ∙ g in
    ap (λ (o : Option (List ℕ)). forward_of (numbers_in (after_one ws)) (number_of v) o) none ∙ cut (numbers_in (after_one ws)) (number_of v)

abbrev after_two : List (List ℕ) → Read (List ℕ)
after_two ws = numbers_in (after_one (after_one ws))

pub all : (ws : List (List ℕ)) (conn : ℕ) (r : List (List ℕ)) (w : List ℕ) (s : List (List ℕ)) (frame ns : List ℕ) (t : List (List ℕ)) →
    number_in ws ≡ Some (read conn r) → r ≡ w ∷ s → decoded (decode_of w) ≡ Some frame → numbers_in (after_one s) ≡ read ns t →
    forward_in ws ≡ Some (read (asked (Forward conn frame) (looks_of ns)) t)
all [] conn r w s frame ns t e f g h = cc
all (v ∷ []) conn r w s frame ns t e f g h =
    let a = taken_apart (number_of v) [] conn r e in
    let no : [] ≡ w ∷ s = a.1 ∙ f in
    absurd cc
all (v ∷ x ∷ ws) conn r w s frame ns t e f g h =
    let a = taken_apart (number_of v) (x ∷ ws) conn r e in
    let some : decoded (decode_of x) ≡ Some frame = ap frame_at (a.1 ∙ f) ∙ g in
    let looks : numbers_in (after_one ws) ≡ read ns t = ap after_two (a.1 ∙ f) ∙ h in
    λ i. forward_of (looks i) (a.0 i) (some i)
