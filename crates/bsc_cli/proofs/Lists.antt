-- Lists of words, and words that begin with no hyphen.
-- It serves clauses of functions of `beside`, `laws` and `reading`.
use Rattle.std.proofs.Common.{[], ◌&&◌, ◌==◌, ◌∙◌, ◌∷◌, ◌≡◌, Bool, List, None, Option, Some, ap, codes, false, is_some, length, nat_le, not, option_map}
use Rattle.std.proofs.Common.{refl, sym, true, true≢false, ℕ}
use Rattle.std.proofs.lemmas.Bool.{and_parts, eqb-true, not-true}
use Rattle.std.specs.Prelude.{if◌then◌else◌}
use Rattle.std.specs.List.{list_all}
use Rattle.clap.specs.Words.{Text}
use Rattle.bsc_cli.specs.Words.{AskedOf, has_hyphen, has_plain_paths, have_no_hyphen, or_by, up_to}
use Rattle.bsc_text.specs.Grammar.{decimal_value, has_leading_zero, is_digit, number_of}
use Rattle.bsc_text.specs.Lines.{same_octets}
use Rattle.bsc_cli.proofs.Found.{by_first, by_second}

pub first_plain : (word : Text) (words : List Text) → have_no_hyphen (word ∷ words) ≡ true → has_hyphen word ≡ false
first_plain word words h = not-true (has_hyphen word) (and_parts (not (has_hyphen word)) (have_no_hyphen words) h).0

pub rest_plain : (word : Text) (words : List Text) → have_no_hyphen (word ∷ words) ≡ true → have_no_hyphen words ≡ true
rest_plain word words h = (and_parts (not (has_hyphen word)) (have_no_hyphen words) h).1

pub no_flag : (word : Text) → has_hyphen word ≡ false → same_octets word (codes "--test") ≡ false
no_flag [] h = refl
no_flag (c ∷ word) h = rw h refl

-- four tests of which the third fails choose nothing
no_choice : (a b d : Bool) (x : Option ℕ) → (if a && b && false && d then x else None) ≡ None
no_choice true true d x = refl
no_choice true false d x = refl
no_choice false b d x = refl

-- a number begins with no hyphen
pub number_plain : (word : Text) (most : ℕ) → is_some (up_to most (number_of word)) ≡ true → has_hyphen word ≡ false
number_plain [] most s = refl
number_plain (c ∷ word) most s = go (c == 45) refl
  where
    go : (b : Bool) → (c == 45) ≡ b → (c == 45) ≡ false
    go false e = e
    go true e =
        let is : c ≡ 45 = eqb-true c 45 e in
        let digits : list_all is_digit (c ∷ word) ≡ false = rw is refl in
        let none : number_of (c ∷ word) ≡ None =
        ap (λ t. if nat_le 1 (length (c ∷ word)) && nat_le (length (c ∷ word)) 19 && t && not (has_leading_zero (c ∷ word))
        then Some (decimal_value (c ∷ word)) else None) digits
        ∙ no_choice (nat_le 1 (length (c ∷ word))) (nat_le (length (c ∷ word)) 19) (not (has_leading_zero (c ∷ word))) (Some (decimal_value (c ∷ word))) in
        absurd (true≢false (sym s ∙ ap (λ o. is_some (up_to most o)) none))

pub some_mapped : (f : ℕ → AskedOf) (o : Option ℕ) → is_some (option_map f o) ≡ is_some o
some_mapped f None = refl
some_mapped f (Some n) = refl

-- whether what is asked for, if anything, has plain paths
abbrev pub plain_in : Option AskedOf → Bool
plain_in None = true
plain_in (Some asked) = has_plain_paths asked

-- what is asked for by a number that is good
pub mapped : (f : ℕ → AskedOf) (P : Type 0) (o : Option ℕ) → ((n : ℕ) → has_plain_paths (f n) ≡ true → P) → is_some (option_map f o) ≡ true → plain_in (option_map f o) ≡ true → P
mapped f P None is s h = absurd (true≢false (sym s))
mapped f P (Some n) is s h = is n h

-- Where the second of two is listed, the first asks for nothing, and the second for what is listed.
abbrev pub SecondAsks : Option AskedOf → Option AskedOf → Option AskedOf → Type 0
SecondAsks x y y' = is_some y' ≡ true → plain_in y' ≡ true → (x ≡ None) × (y ≡ y')

-- what is asked for by two of which each is good
pub either_good : (x x' y y' : Option AskedOf) → (is_some x' ≡ true → plain_in x' ≡ true → x ≡ x') → SecondAsks x y y'
    → is_some (or_by x' y') ≡ true → plain_in (or_by x' y') ≡ true → or_by x y ≡ or_by x' y'
either_good x None y y' p q s h = by_second x y y' (q s h).0 (q s h).1
either_good x (Some a) y y' p q s h = by_first x y a (p s h)

-- a word that begins with no hyphen is neither `-` nor `--`
pub no_hyphen_alone : (word : Text) → has_hyphen word ≡ false → same_octets word (codes "-") ≡ false
no_hyphen_alone [] h = refl
no_hyphen_alone (c ∷ word) h = rw h refl

pub no_two_hyphens : (word : Text) → has_hyphen word ≡ false → same_octets word (codes "--") ≡ false
no_two_hyphens [] h = refl
no_two_hyphens (c ∷ word) h = rw h refl
