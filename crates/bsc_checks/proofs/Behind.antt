-- What stands behind the marker of an item, and the first item that is not understood.
-- It serves clauses of functions of `judging`, `laws`, `option_checks` and `understood`.
use Rattle.std.proofs.Common.{◌≡◌, ◌≢◌, ℕ, ◌+◌, ◌*◌, ◌/◌, ◌%◌, ◌<◌, Bool, true, false, not, ◌&&◌, eqb, cond, List, [], ◌∷◌, ◌++◌, length, drop, Option, Some, None, is_some, refl}
use Rattle.std.proofs.Common.{sym, ap, ◌∙◌, arith, length-append}
use Rattle.std.specs.List.{AllByRecursion}
use Rattle.std.proofs.lemmas.Bool.{eq-eqb, ne_eqb, eqb-false, and_parts, not-true}
use Rattle.std.proofs.lemmas.List.{drop_at}
use Rattle.bsc_options.specs.declared.item.OptionItem.{OptionItem}
use Rattle.bsc_options.specs.Spelling.{Fits, bit, data_octets, has_items, marker_of, spelling_of}
use Rattle.bsc_checks.specs.Table.{IsNotUnderstood}
use Rattle.bsc_checks.specs.Walk.{marker_refused}

-- ---- the bits of a marker

pub record Bits (marker : ℕ) (item : OptionItem) : Type 0 where
  must : eqb (marker / 64 % 2) 1 ≡ item.must
  kind : marker % 32 ≡ item.kind
  content : eqb (marker / 32 % 2) 1 ≡ is_some item.content

bits_by : (f m c : Bool) (k : ℕ) → k < 32
    → (eqb ((128 * bit f + 64 * bit m + 32 * bit c + k) / 64 % 2) 1 ≡ m) × ((128 * bit f + 64 * bit m + 32 * bit c + k) % 32 ≡ k) × (eqb ((128 * bit f + 64 * bit m + 32 * bit c + k) / 32 % 2) 1 ≡ c)
bits_by f m c k small = (must m, rest f m c, content c)
  where
    rest : (f m c : Bool) → (128 * bit f + 64 * bit m + 32 * bit c + k) % 32 ≡ k
    rest true true true = omega arith
    rest true true false = omega arith
    rest true false true = omega arith
    rest true false false = omega arith
    rest false true true = omega arith
    rest false true false = omega arith
    rest false false true = omega arith
    rest false false false = omega arith

    must : (m : Bool) → eqb ((128 * bit f + 64 * bit m + 32 * bit c + k) / 64 % 2) 1 ≡ m
    must true = eq-eqb _ 1 (by f c)
      where
        by : (f c : Bool) → (128 * bit f + 64 * bit true + 32 * bit c + k) / 64 % 2 ≡ 1
        by true true = omega arith
        by true false = omega arith
        by false true = omega arith
        by false false = omega arith
    must false = ne_eqb _ 1 (λ e. by f c e)
      where
        by : (f c : Bool) → (128 * bit f + 64 * bit false + 32 * bit c + k) / 64 % 2 ≢ 1
        by true true = λ e. omega arith
        by true false = λ e. omega arith
        by false true = λ e. omega arith
        by false false = λ e. omega arith

    content : (c : Bool) → eqb ((128 * bit f + 64 * bit m + 32 * bit c + k) / 32 % 2) 1 ≡ c
    content true = eq-eqb _ 1 (by f m)
      where
        by : (f m : Bool) → (128 * bit f + 64 * bit m + 32 * bit true + k) / 32 % 2 ≡ 1
        by true true = omega arith
        by true false = omega arith
        by false true = omega arith
        by false false = omega arith
    content false = ne_eqb _ 1 (λ e. by f m e)
      where
        by : (f m : Bool) → (128 * bit f + 64 * bit m + 32 * bit false + k) / 32 % 2 ≢ 1
        by true true = λ e. omega arith
        by true false = λ e. omega arith
        by false true = λ e. omega arith
        by false false = λ e. omega arith

pub bits_of : (follows : Bool) (item : OptionItem) → Fits item → Bits (marker_of follows item) item
bits_of follows item fits =
    let all = bits_by follows item.must (is_some item.content) item.kind fits.kind in
    record { must = all.0; kind = all.1; content = all.2 }

-- ---- the octets behind the data

pub behind : (rest next : List ℕ) (octets : List ℕ) (n : ℕ) → rest ≡ octets ++ next → n ≡ length octets → drop n rest ≡ next
behind rest next octets n is long = ap (drop n) is ∙ drop_at octets next n (sym long)

pub long_enough : (rest next octets : List ℕ) (n : ℕ) → rest ≡ octets ++ next → n ≡ length octets → length rest < n → ⊥
long_enough rest next octets n is long short = absurd (omega (arith, ap length is, length-append octets next))

-- ---- the walk

-- the first marker of the items that `list` spells that is refused is the first of those that `rest` does
abbrev pub RefusedLeft : List ℕ → List ℕ → Type 0
RefusedLeft list rest = (items : List OptionItem) → AllByRecursion Fits items → list ≡ spelling_of items
    → (tail : List OptionItem) × AllByRecursion Fits tail × (rest ≡ spelling_of tail) × (marker_refused items ≡ marker_refused tail)

-- what is looked at of a marker
abbrev pub refused_by : ℕ → Bool
refused_by marker = eqb (marker / 64 % 2) 1 && not (eqb (marker % 32) 1)

refused_by_item : (follows : Bool) (item : OptionItem) → Fits item → refused_by (marker_of follows item) ≡ (item.must && not (eqb item.kind 1))
refused_by_item follows item fits =
    let bits = bits_of follows item fits in
    ap (λ (b : Bool). b && not (eqb (marker_of follows item % 32) 1)) bits.must ∙ ap (λ (k : ℕ). item.must && not (eqb k 1)) bits.kind

-- the item that is looked at
pub record Next (tail : List OptionItem) (marker : ℕ) (octets : List ℕ) : Type 0 where
  item : OptionItem
  others : List OptionItem
  is : tail ≡ item ∷ others
  fits : Fits item
  fit : AllByRecursion Fits others
  marker_is : marker ≡ marker_of (has_items others) item
  data_is : octets ≡ data_octets item.content ++ spelling_of others

next_of : (tail : List OptionItem) (rest octets : List ℕ) (marker : ℕ) → AllByRecursion Fits tail → rest ≡ spelling_of tail → rest ≡ marker ∷ octets → Next tail marker octets
next_of [] rest octets marker fits is found = absurd (let none : marker ∷ octets ≡ [] = sym found ∙ is in cc)
next_of (x ∷ xs) rest octets marker fits is found =
    let both : marker ∷ octets ≡ marker_of (has_items xs) x ∷ (data_octets x.content ++ spelling_of xs) = sym found ∙ is in
    record { item = x; others = xs; is = refl; fits = fits.0; fit = fits.1; marker_is = cc; data_is = cc }

pub refused_on : (list rest octets next : List ℕ) (marker : ℕ) → RefusedLeft list rest → rest ≡ marker ∷ octets → refused_by marker ≡ false
    → ((item : OptionItem) (follows : Bool) (l : List ℕ) → Fits item → marker ≡ marker_of follows item → octets ≡ data_octets item.content ++ l → next ≡ l)
    → RefusedLeft list next
refused_on list rest octets next marker left found clear moved items fits is =
    let so_far = left items fits is in
    let here = next_of so_far.0 rest octets marker so_far.1 so_far.2 found in
    let not_refused : (here.item.must && not (eqb here.item.kind 1)) ≡ false = sym (refused_by_item (has_items here.others) here.item here.fits) ∙ ap refused_by (sym here.marker_is) ∙ clear in
    let passed : marker_refused (here.item ∷ here.others) ≡ marker_refused here.others = rw not_refused refl in
    (here.others, here.fit, moved here.item (has_items here.others) (spelling_of here.others) here.fits here.marker_is here.data_is, so_far.3 ∙ ap marker_refused here.is ∙ passed)

pub refused_here : (list rest octets : List ℕ) (marker : ℕ) → RefusedLeft list rest → rest ≡ marker ∷ octets → refused_by marker ≡ true
    → (items : List OptionItem) → AllByRecursion Fits items → list ≡ spelling_of items → Some marker ≡ marker_refused items
refused_here list rest octets marker left found set items fits is =
    let so_far = left items fits is in
    let here = next_of so_far.0 rest octets marker so_far.1 so_far.2 found in
    let refused : (here.item.must && not (eqb here.item.kind 1)) ≡ true = sym (refused_by_item (has_items here.others) here.item here.fits) ∙ ap refused_by (sym here.marker_is) ∙ set in
    let first : marker_refused (here.item ∷ here.others) ≡ Some (marker_of (has_items here.others) here.item) = rw refused refl in
    sym (so_far.3 ∙ ap marker_refused here.is ∙ first ∙ ap (λ (k : ℕ). Some k) (sym here.marker_is))

pub refused_nowhere : (list rest : List ℕ) → RefusedLeft list rest → rest ≡ []
    → (items : List OptionItem) → AllByRecursion Fits items → list ≡ spelling_of items → None ≡ marker_refused items
refused_nowhere list rest left none items fits is =
    let so_far = left items fits is in
    sym (so_far.3 ∙ empty so_far.0 (sym so_far.2 ∙ none))
  where
    empty : (tail : List OptionItem) → spelling_of tail ≡ [] → marker_refused tail ≡ None
    empty [] e = refl
    empty (x ∷ xs) e = absurd cc

-- ---- what the walk found

-- by the items alone
pub record RefusedAt (items : List OptionItem) (marker : ℕ) : Type 0 where
  pub before : List OptionItem
  pub item : OptionItem
  pub after : List OptionItem
  pub parts : items ≡ before ++ item ∷ after
  pub earlier : AllByRecursion (λ other. ¬ IsNotUnderstood other) before
  pub fault : IsNotUnderstood item
  pub marker_is : marker ≡ marker_of (has_items after) item

test_true : (item : OptionItem) → (item.must && not (eqb item.kind 1)) ≡ true → IsNotUnderstood item
test_true item e =
    let both = and_parts item.must (not (eqb item.kind 1)) e in
    (both.0, eqb-false item.kind 1 (not-true (eqb item.kind 1) both.1))

test_false : (item : OptionItem) → (item.must && not (eqb item.kind 1)) ≡ false → IsNotUnderstood item → ⊥
test_false item e fault =
    let other : eqb item.kind 1 ≡ false = ne_eqb item.kind 1 fault.1 in
    let set : (item.must && not (eqb item.kind 1)) ≡ true = rw (fault.0, other) refl in
    let both : true ≡ false = sym set ∙ e in
    absurd cc

refused_at_by : (x : OptionItem) (xs : List OptionItem) (marker : ℕ) (b : Bool) → (x.must && not (eqb x.kind 1)) ≡ b → cond b (Some (marker_of (has_items xs) x)) (marker_refused xs) ≡ Some marker
    → (marker_refused xs ≡ Some marker → RefusedAt xs marker) → RefusedAt (x ∷ xs) marker
refused_at_by x xs marker true is found later =
    record { before = []; item = x; after = xs; parts = refl; earlier = tt; fault = test_true x is; marker_is = cc }
refused_at_by x xs marker false is found later =
    let at = later found in
    record {
      before = x ∷ at.before;
      item = at.item;
      after = at.after;
      parts = ap (λ (l : List OptionItem). x ∷ l) at.parts;
      earlier = (test_false x is, at.earlier);
      fault = at.fault;
      marker_is = at.marker_is;
    }

pub refused_at : (items : List OptionItem) (marker : ℕ) → marker_refused items ≡ Some marker → RefusedAt items marker
refused_at [] marker e = absurd cc
refused_at (x ∷ xs) marker e = refused_at_by x xs marker (x.must && not (eqb x.kind 1)) refl e (λ later. refused_at xs marker later)

refused_none_by : (x : OptionItem) (k : ℕ) (rest : Option ℕ) (b : Bool) → (x.must && not (eqb x.kind 1)) ≡ b → cond b (Some k) rest ≡ None → (IsNotUnderstood x → ⊥) × (rest ≡ None)
refused_none_by x k rest true is none = absurd cc
refused_none_by x k rest false is none = (test_false x is, none)

pub refused_none : (before : List OptionItem) (item : OptionItem) (after : List OptionItem) → marker_refused (before ++ item ∷ after) ≡ None → IsNotUnderstood item → ⊥
refused_none [] item after e fault = (refused_none_by item (marker_of (has_items after) item) (marker_refused after) (item.must && not (eqb item.kind 1)) refl e).0 fault
refused_none (x ∷ before) item after e fault =
    refused_none before item after (refused_none_by x (marker_of (has_items (before ++ item ∷ after)) x) (marker_refused (before ++ item ∷ after)) (x.must && not (eqb x.kind 1)) refl e).1 fault

-- an item that is understood is passed over
passed_over : (x : OptionItem) (k : ℕ) (rest : Option ℕ) (b : Bool) → (IsNotUnderstood x → ⊥) → (x.must && not (eqb x.kind 1)) ≡ b → cond b (Some k) rest ≡ rest
passed_over x k rest true understood is = absurd (understood (test_true x is))
passed_over x k rest false understood is = refl

-- the marker of the first is what is computed
pub refused_is : (before : List OptionItem) (item : OptionItem) (after : List OptionItem) → AllByRecursion (λ other. ¬ IsNotUnderstood other) before → IsNotUnderstood item
    → marker_refused (before ++ item ∷ after) ≡ Some (marker_of (has_items after) item)
refused_is [] item after earlier fault =
    let other : eqb item.kind 1 ≡ false = ne_eqb item.kind 1 fault.1 in
    rw (fault.0, other) refl
refused_is (x ∷ before) item after earlier fault =
    passed_over x (marker_of (has_items (before ++ item ∷ after)) x) (marker_refused (before ++ item ∷ after)) (x.must && not (eqb x.kind 1)) earlier.0 refl
    ∙ refused_is before item after earlier.1 fault
