-- A number is read back from the digits that write it.
-- It serves many crates above.
use Rattle.std.proofs.Common.{◌≡◌, ℕ, zero, suc, ◌+◌, ◌-◌, ◌*◌, ◌^◌, ◌<◌, nat_le, Bool, true, false, not, ◌&&◌, cond, List, [], ◌∷◌, length, get_or, fold, decimal, Some, None}
use Rattle.std.proofs.Common.{refl, ap, ◌∙◌, arith, rules}
use Rattle.std.specs.List.{list_all}
use Rattle.std.proofs.lemmas.Bool.{and_from, le-leb, ltb-true, ne_eqb}
use Rattle.std.proofs.lemmas.Fmt.{decimal_digit, decimal_nonempty, digits_decimal, digits_value-decimal, first_decimal, length-decimal-le}
use Rattle.std.proofs.lemmas.Str.Parse.{IsNumeralModel, numerals_by_fold}
use Rattle.bsc_text.specs.Grammar.{decimal_value, has_leading_zero, is_digit, number_of}
use Rattle.bsc_journal.specs.Saying.{is_short}

-- a number of 1 to 19 digits fits
pub short_below : (n : ℕ) → is_short n ≡ true → n < 10 ^ 19
short_below n h = ltb-true n (10 ^ 19) h

pub short_fits : (n : ℕ) → is_short n ≡ true → n < 2 ^ 64
short_fits n h = let below = short_below n h in omega (arith, below)

-- digits as the program reads them
model : IsNumeralModel (λ ds. list_all is_digit ds ≡ true) decimal_value
model = numerals_by_fold (λ ds. list_all is_digit ds ≡ true) (search rules) (λ n ds. fold (λ m c. m * 10 + (c - 48)) n ds) (search rules)

pub digits : (n : ℕ) → is_short n ≡ true → list_all is_digit (decimal n) ≡ true
digits n h = digits_decimal model n (short_fits n h)

pub some_digits : (n : ℕ) → is_short n ≡ true → 0 < length (decimal n)
some_digits n h = decimal_nonempty n (short_fits n h)

-- what doesn't begin with a zero, or is one digit, has no leading zero
plain_front : (w : List ℕ) → 0 < length w → (get_or w 0 0 ≡ 48 → length w ≡ 1) → has_leading_zero w ≡ false
plain_front [] some one = absurd (omega (arith, some))
plain_front (c ∷ []) some one = refl
plain_front (c ∷ d ∷ w) some one = ne_eqb c 48 (λ e. let long : suc (suc (length w)) ≡ 1 = one e in let no : ⊥ = omega (arith, long) in no)

zero_alone : (n : ℕ) → n < 2 ^ 64 → get_or (decimal n) 0 0 ≡ 48 → length (decimal n) ≡ 1
zero_alone zero fits e = ap length (decimal_digit 0 (omega arith))
zero_alone (suc n) fits e = let above = first_decimal (suc n) (omega arith) fits in let no : ⊥ = omega (arith, above, e) in absurd no

pub number_back : (n : ℕ) → is_short n ≡ true → number_of (decimal n) ≡ Some n
number_back n h =
    let below = short_below n h in
    let fits = short_fits n h in
    let w = decimal n in
    let some = decimal_nonempty n fits in
    let one : nat_le 1 (length w) ≡ true = le-leb 1 (length w) (omega (arith, some)) in
    let few : nat_le (length w) 19 ≡ true = le-leb (length w) 19 (length-decimal-le 19 n (omega arith) below fits) in
    let plain : not (has_leading_zero w) ≡ true = ap not (plain_front w some (zero_alone n fits)) in
    let all : (nat_le 1 (length w) && nat_le (length w) 19 && list_all is_digit w && not (has_leading_zero w)) ≡ true =
    and_from _ _ (and_from _ _ (and_from _ _ one few) (digits n h)) plain in
    ap (λ (b : Bool). cond b (Some (decimal_value w)) None) all ∙ ap Some (digits_value-decimal model n fits)
