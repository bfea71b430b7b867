-- The loose words of a line, one after another: a word, a number, octets, numbers with commas between.
-- It serves many crates above.
use Rattle.std.proofs.Common.{◌≡◌, ℕ, ◌/◌, ◌%◌, ◌<◌, ◌==◌, Bool, true, false, not, ◌||◌, cond, List, [], ◌∷◌, ◌++◌, length, map, flat_map, slice_index, codes, decimal, refl, ap}
use Rattle.std.proofs.Common.{sym, ◌∙◌, append_assoc, append-nil, arith, nat_lt}
use Rattle.std.specs.List.{list_all}
use Rattle.std.proofs.lemmas.Bool.{agree_below_at, and_from, and_parts, both_ways, ltb-true, ne_eqb, not-true, or_left}
use Rattle.hex.specs.Hex.{encode_upper, encode_with, upper_digits}
use Rattle.hex.proofs.HexLemmas.{length-encode_with}
use Rattle.bsc_text.specs.Grammar.{is_digit, is_letter}
use Rattle.bsc_text.specs.Lines.{in_front}
use Rattle.bsc_lines.specs.Replies.{list_words}
use Rattle.bsc_journal.specs.Reading.{loose_words, loosened}
use Rattle.bsc_journal.specs.Saying.{are_octets, are_short, is_short}
use Rattle.bsc_journal.proofs.Numbers.{digits, some_digits}

-- whether an octet stands in a word, and whether no word goes on
abbrev pub plain : ℕ → Bool
plain c = is_digit c || is_letter c

abbrev pub ends : List ℕ → Bool
ends [] = true
ends (c ∷ o) = not (plain c)

-- ---- one octet

pub no_space : (c : ℕ) → plain c ≡ true → (c == 32) ≡ false
no_space c h = ne_eqb c 32 (λ e. both_ways (plain c) (ap plain e) h)

stays : (c : ℕ) → plain c ≡ true → loosened c ≡ c
stays c h = ap (λ (b : Bool). cond b c 32) h

-- a word goes on
more_word : (x y c : ℕ) (ws : List (List ℕ)) → x ≡ c → (c == 32) ≡ false → (y == 32) ≡ false →
    cond (x == 32) ws (cond (not (y == 32)) (in_front x ws) ((x ∷ []) ∷ ws)) ≡ in_front c ws
more_word x y c ws e m n =
    (λ i. cond (e i == 32) ws (cond (not (n i)) (in_front (e i) ws) ((e i ∷ []) ∷ ws)))
    ∙ (λ i. cond (m i) ws (in_front c ws))

goes_on : (c d : ℕ) (o : List ℕ) → plain c ≡ true → plain d ≡ true → loose_words (c ∷ d ∷ o) ≡ in_front c (loose_words (d ∷ o))
goes_on c d o h k =
    more_word (loosened c) (loosened d) c (loose_words (d ∷ o)) (stays c h) (no_space c h)
    (ap (λ (x : ℕ). x == 32) (stays d k) ∙ no_space d k)

-- a word ends
last_octet : (x c : ℕ) (b : Bool) (ws : List (List ℕ)) → x ≡ c → (c == 32) ≡ false → b ≡ false →
    cond (x == 32) ws (cond b (in_front x ws) ((x ∷ []) ∷ ws)) ≡ (c ∷ []) ∷ ws
last_octet x c b ws e m g =
    (λ i. cond (e i == 32) ws (cond (g i) (in_front (e i) ws) ((e i ∷ []) ∷ ws)))
    ∙ (λ i. cond (m i) ws ((c ∷ []) ∷ ws))

stops : (c : ℕ) (o : List ℕ) → plain c ≡ true → ends o ≡ true → loose_words (c ∷ o) ≡ (c ∷ []) ∷ loose_words o
stops c [] h e = last_octet (loosened c) c false [] (stays c h) (no_space c h) refl
stops c (d ∷ o) h e =
    let spaced : loosened d ≡ 32 = ap (λ (b : Bool). cond b d 32) (not-true (plain d) e) in
    last_octet (loosened c) c (not (loosened d == 32)) (loose_words (d ∷ o)) (stays c h) (no_space c h)
    (ap (λ (x : ℕ). not (x == 32)) spaced)

-- ---- words

word : (c : ℕ) (w o : List ℕ) → list_all plain (c ∷ w) ≡ true → ends o ≡ true → loose_words ((c ∷ w) ++ o) ≡ (c ∷ w) ∷ loose_words o
word c [] o h e = stops c o (and_parts (plain c) true h).0 e
word c (d ∷ w) o h e =
    let p = and_parts (plain c) (list_all plain (d ∷ w)) h in
    let q = and_parts (plain d) (list_all plain w) p.1 in
    goes_on c d (w ++ o) p.0 q.0 ∙ ap (in_front c) (word d w o p.1 e)

pub word_front : (w o : List ℕ) → 0 < length w → list_all plain w ≡ true → ends o ≡ true → loose_words (w ++ o) ≡ w ∷ loose_words o
word_front [] o some h e = absurd (omega (arith, some))
word_front (c ∷ w) o some h e = word c w o h e

-- the same where more of the text stands behind the word
pub word_then : (w x o : List ℕ) → 0 < length w → list_all plain w ≡ true → ends (x ++ o) ≡ true → loose_words ((w ++ x) ++ o) ≡ w ∷ loose_words (x ++ o)
word_then w x o some h e = ap loose_words (append_assoc w x o) ∙ word_front w (x ++ o) some h e

-- ---- numbers

pub plain_digits : (w : List ℕ) → list_all is_digit w ≡ true → list_all plain w ≡ true
plain_digits [] h = refl
plain_digits (c ∷ w) h =
    let p = and_parts (is_digit c) (list_all is_digit w) h in
    and_from _ _ (or_left (is_digit c) (is_letter c) p.0) (plain_digits w p.1)

pub number_front : (n : ℕ) (o : List ℕ) → is_short n ≡ true → ends o ≡ true → loose_words (decimal n ++ o) ≡ decimal n ∷ loose_words o
number_front n o h e = word_front (decimal n) o (some_digits n h) (plain_digits (decimal n) (digits n h)) e

pub number_then : (n : ℕ) (x o : List ℕ) → is_short n ≡ true → ends (x ++ o) ≡ true → loose_words ((decimal n ++ x) ++ o) ≡ decimal n ∷ loose_words (x ++ o)
number_then n x o h e = ap loose_words (append_assoc (decimal n) x o) ∙ number_front n (x ++ o) h e

pub number_last : (n : ℕ) → is_short n ≡ true → loose_words (decimal n) ≡ decimal n ∷ []
number_last n h = ap loose_words (sym (append-nil (decimal n))) ∙ number_front n [] h refl

-- ---- octets

digit_plain : (d : ℕ) → d < 16 → plain (slice_index upper_digits d) ≡ true
digit_plain d h = agree_below_at (λ k. plain (slice_index upper_digits k)) (λ k. true) 16 d refl h

pub hex_plain : (o : List ℕ) → are_octets o ≡ true → list_all plain (encode_upper o) ≡ true
unfolding encode_with
hex_plain [] h = refl
hex_plain (b ∷ o) h =
    let p = and_parts (nat_lt b 256) (are_octets o) h in
    let small = ltb-true b 256 p.0 in
    and_from _ _ (digit_plain (b / 16) (omega (arith, small)))
    (and_from _ _ (digit_plain (b % 16) (omega (arith, small))) (hex_plain o p.1))

pub hex_some : (o : List ℕ) → 0 < length o → 0 < length (encode_upper o)
hex_some o h = let long = length-encode_with upper_digits o in omega (arith, long, h)

-- ---- numbers with commas between

-- commas, each with a number behind it
abbrev pub more_numbers : List ℕ → List ℕ
more_numbers ns = flat_map (λ k. codes "," ++ decimal k) ns

more_ends : (ns o : List ℕ) → ends o ≡ true → ends (more_numbers ns ++ o) ≡ true
more_ends [] o e = e
more_ends (n ∷ ns) o e = refl

more_front : (ns o : List ℕ) → are_short ns ≡ true → ends o ≡ true → loose_words (more_numbers ns ++ o) ≡ map decimal ns ++ loose_words o
more_front [] o h e = refl
more_front (n ∷ ns) o h e =
    let p = and_parts (is_short n) (are_short ns) h in
    number_then n (more_numbers ns) o p.0 (more_ends ns o e)
    ∙ ap (λ (ws : List (List ℕ)). decimal n ∷ ws) (more_front ns o p.1 e)

pub list_front : (ns o : List ℕ) → are_short ns ≡ true → ends o ≡ true → loose_words (list_words ns ++ o) ≡ map decimal ns ++ loose_words o
list_front [] o h e = refl
list_front (n ∷ ns) o h e =
    let p = and_parts (is_short n) (are_short ns) h in
    number_then n (more_numbers ns) o p.0 (more_ends ns o e)
    ∙ ap (λ (ws : List (List ℕ)). decimal n ∷ ws) (more_front ns o p.1 e)
