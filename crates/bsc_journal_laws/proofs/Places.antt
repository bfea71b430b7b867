-- Notes of all own entries of a caller are those entries with their places.
-- It serves clauses of functions of `laws`.
use Rattle.std.proofs.Common.{inl, inr, ⊎_elim, ◌≡◌, ◌⊎◌, ℕ, zero, suc, ◌+◌, ◌≤◌, ◌==◌, Bool, true, false, cond, List, [], ◌∷◌, ◌++◌, length, slice_get, Some, None, refl, ap, sym}
use Rattle.std.proofs.Common.{◌∙◌, subst, arith, append_assoc, append-nil}
use Rattle.std.specs.List.{AllByRecursion}
use Rattle.std.specs.Prelude.{⊤}
use Rattle.std.proofs.lemmas.List.{length-map, length_push}
use Rattle.bsc_history.specs.declared.entry.Entry.{Entry}
use Rattle.bsc_history.specs.Entries.{own}
use Rattle.bsc_session.specs.Notes.Notes.{Note, denied, made}
use Rattle.bsc_session.specs.Serving.{AllStand, RiseWithin}
use Rattle.bsc_journal_laws.specs.Placing.{PlacedEntry, entries_in, own_from, own_placed, placed, told_by}

-- Each stands at its place.
abbrev AllAt : List Entry → List PlacedEntry → Type 0
AllAt H [] = ⊤
AllAt H (a ∷ ats) = (slice_get H a.place ≡ Some a.entry) × AllAt H ats

-- The places rise, from k on.
abbrev RisesFrom : ℕ → List PlacedEntry → Type 0
RisesFrom k [] = ⊤
RisesFrom k (a ∷ ats) = (k ≤ a.place) × RisesFrom (a.place + 1) ats

-- Each is of caller n.
abbrev AllOf : ℕ → List PlacedEntry → Type 0
AllOf n ats = AllByRecursion (λ (a : PlacedEntry). (a.entry.caller == n) ≡ true) ats

told_stand : (H : List Entry) (ns : List Note) → AllStand H ns → AllAt H (told_by ns)
told_stand H [] h = tt
told_stand H (made at e ∷ ns) h = (h.0, told_stand H ns h.1)
told_stand H (denied d ∷ ns) h = told_stand H ns h.1

told_rise : (from to : ℕ) (ns : List Note) → RiseWithin from to ns → RisesFrom from (told_by ns)
told_rise from to [] h = tt
told_rise from to (made at e ∷ ns) h = (h.0, told_rise (at + 1) to ns h.1)
told_rise from to (denied d ∷ ns) h = told_rise from to ns h

from_none : (k : ℕ) (ats : List PlacedEntry) → RisesFrom k ats → RisesFrom 0 ats
from_none k [] h = tt
from_none k (a ∷ ats) h = (omega arith, h.1)

-- ---- where entries stand

here : (front : List Entry) (e : Entry) (rest : List Entry) → slice_get (front ++ e ∷ rest) (length front) ≡ Some e
here [] e rest = refl
here (x ∷ front) e rest = here front e rest

past : (H : List Entry) (i : ℕ) → length H ≤ i → slice_get H i ≡ None
past [] i h = refl
past (x ∷ H) zero h = absurd (let no : ⊥ = omega (arith, h) in no)
past (x ∷ H) (suc i) h = past H i (let k : length H ≤ i = omega (arith, h) in k)

at_or_after : (a b : ℕ) → a ≤ b → (a ≡ b) ⊎ (a + 1 ≤ b)
at_or_after zero zero h = inl refl
at_or_after zero (suc b) h = inr (omega arith)
at_or_after (suc a) zero h = absurd (let no : ⊥ = omega (arith, h) in no)
at_or_after (suc a) (suc b) h = ⊎_elim (λ e. inl (ap suc e)) (λ l. inr (omega (arith, l))) (at_or_after a b (omega (arith, h)))

same_some : (x y : Entry) → Some x ≡ Some y → x ≡ y
same_some x y h = cc

no_some : (x : Entry) → None ≡ Some x → ⊥
no_some x h = cc

-- ---- own entries

own_head : (n : ℕ) (e : Entry) (H : List Entry) (b : Bool) → (e.caller == n) ≡ b → own (e ∷ H) n ≡ cond b (e ∷ own H n) (own H n)
own_head n e H b h = ap (λ (x : Bool). cond x (e ∷ own H n) (own H n)) h

own_more : (e : Entry) (l : List Entry) (b : Bool) → length l ≤ length (cond b (e ∷ l) l)
own_more e l true = omega arith
own_more e l false = omega arith

pub all_own : (n : ℕ) (H : List Entry) → AllByRecursion (λ (e : Entry). (e.caller == n) ≡ true) (own H n)
all_own n [] = tt
all_own n (e ∷ H) = by (e.caller == n) refl (all_own n H)
  where
    by : (b : Bool) → (e.caller == n) ≡ b → AllByRecursion (λ (x : Entry). (x.caller == n) ≡ true) (own H n)
        → AllByRecursion (λ (x : Entry). (x.caller == n) ≡ true) (cond b (e ∷ own H n) (own H n))
    by true h rest = (h, rest)
    by false h rest = rest

unmapped : (n : ℕ) (ats : List PlacedEntry) → AllByRecursion (λ (e : Entry). (e.caller == n) ≡ true) (entries_in ats) → AllOf n ats
unmapped n [] h = tt
unmapped n (a ∷ ats) h = (h.0, unmapped n ats h.1)

all_of : (n : ℕ) (H : List Entry) (ats : List PlacedEntry) → entries_in ats ≡ own H n → AllOf n ats
all_of n H ats same = unmapped n ats (subst (λ (l : List Entry). AllByRecursion (λ (e : Entry). (e.caller == n) ≡ true) l) (sym same) (all_own n H))

-- ---- entries at rising places are no more than there are

few_step : (n : ℕ) (F : List Entry) (k : ℕ) (e : Entry) (H : List Entry) (a : PlacedEntry) (ats : List PlacedEntry) → slice_get F k ≡ Some e
    → AllAt F (a ∷ ats) → RisesFrom k (a ∷ ats) → AllOf n (a ∷ ats)
    → ((bs : List PlacedEntry) → AllAt F bs → RisesFrom (k + 1) bs → AllOf n bs → length bs ≤ length (own H n))
    → length (a ∷ ats) ≤ length (own (e ∷ H) n)
few_step n F k e H a ats at stand rise of more = ⊎_elim
    (λ same.
    let is : e ≡ a.entry = same_some e a.entry (sym at ∙ ap (slice_get F) same ∙ stand.0) in
    let mine : (e.caller == n) ≡ true = ap (λ (x : Entry). x.caller == n) is ∙ of.0 in
    let long : length (own (e ∷ H) n) ≡ length (e ∷ own H n) = ap length (own_head n e H true mine) in
    let rest = more ats stand.1 (subst (λ (m : ℕ). RisesFrom (m + 1) ats) (sym same) rise.1) of.1 in
    omega (arith, long, rest))
    (λ after.
    let rest = more (a ∷ ats) stand (after, rise.1) of in
    let grown : length (own H n) ≤ length (own (e ∷ H) n) = own_more e (own H n) (e.caller == n) in
    omega (arith, rest, grown))
    (at_or_after k a.place rise.0)

stands_at : (F front : List Entry) (k : ℕ) (e : Entry) (H : List Entry) → F ≡ front ++ e ∷ H → length front ≡ k → slice_get F k ≡ Some e
stands_at F front k e H parts long = ap (λ (l : List Entry). slice_get l k) parts ∙ ap (slice_get (front ++ e ∷ H)) (sym long) ∙ here front e H

longer : (front : List Entry) (e : Entry) (k : ℕ) → length front ≡ k → length (front ++ e ∷ []) ≡ k + 1
longer front e k long = (let m = length_push front e in omega (arith, m, long))

few : (n : ℕ) (F : List Entry) (k : ℕ) (front H : List Entry) → F ≡ front ++ H → length front ≡ k
    → (ats : List PlacedEntry) → AllAt F ats → RisesFrom k ats → AllOf n ats → length ats ≤ length (own H n)
few n F k front H parts long [] stand rise of = omega arith
few n F k front [] parts long (a ∷ ats) stand rise of =
    let whole : F ≡ front = parts ∙ append-nil front in
    let none : slice_get F a.place ≡ None = ap (λ (l : List Entry). slice_get l a.place) whole ∙ past front a.place (let first : k ≤ a.place = rise.0 in omega (arith, long, first)) in
    absurd (no_some a.entry (sym none ∙ stand.0))
few n F k front (e ∷ H) parts long (a ∷ ats) stand rise of =
    few_step n F k e H a ats (stands_at F front k e H parts long) stand rise of
    (few n F (k + 1) (front ++ e ∷ []) H (parts ∙ sym (append_assoc front (e ∷ []) H)) (longer front e k long))

-- ---- all own entries at rising places are at their places

step : (n : ℕ) (F : List Entry) (k : ℕ) (e : Entry) (H : List Entry) (b : Bool) (ats : List PlacedEntry) → (e.caller == n) ≡ b → slice_get F k ≡ Some e
    → AllAt F ats → RisesFrom k ats
    → ((bs : List PlacedEntry) → AllAt F bs → RisesFrom (k + 1) bs → AllOf n bs → length bs ≤ length (own H n))
    → ((bs : List PlacedEntry) → AllAt F bs → RisesFrom (k + 1) bs → entries_in bs ≡ own H n → bs ≡ own_from (k + 1) H n)
    → entries_in ats ≡ cond b (e ∷ own H n) (own H n) → ats ≡ cond b (placed k e ∷ own_from (k + 1) H n) (own_from (k + 1) H n)
step n F k e H false [] other at stand rise bound more same = more [] tt tt same
step n F k e H false (a ∷ ats) other at stand rise bound more same =
    let of = all_of n H (a ∷ ats) same in
    let after : k + 1 ≤ a.place = ⊎_elim
    (λ here_.
    let is : e ≡ a.entry = same_some e a.entry (sym at ∙ ap (slice_get F) here_ ∙ stand.0) in
    let bad : false ≡ true = sym other ∙ ap (λ (x : Entry). x.caller == n) is ∙ of.0 in
    cc)
    (λ l. l)
    (at_or_after k a.place rise.0) in
    more (a ∷ ats) stand (after, rise.1) same
step n F k e H true [] mine at stand rise bound more same = cc
step n F k e H true (a ∷ ats) mine at stand rise bound more same =
    let first : a.entry ≡ e = head_same a.entry e same in
    let rest : entries_in ats ≡ own H n = tail_same a.entry e (entries_in ats) (own H n) same in
    ⊎_elim
    (λ here_.
    let place : a.place ≡ k = sym here_ in
    let more_ : ats ≡ own_from (k + 1) H n = more ats stand.1 (subst (λ (m : ℕ). RisesFrom (m + 1) ats) place rise.1) rest in
    λ i. (record { place = place i; entry = first i }) ∷ more_ i)
    (λ after.
    let of : AllOf n (a ∷ ats) = (ap (λ (x : Entry). x.caller == n) first ∙ mine, all_of n H ats rest) in
    let most = bound (a ∷ ats) stand (after, rise.1) of in
    let long : length (entries_in ats) ≡ length (own H n) = ap length rest in
    let same_long = length-map ats (λ (x : PlacedEntry). x.entry) in
    absurd (let no : ⊥ = omega (arith, most, long, same_long) in no))
    (at_or_after k a.place rise.0)
  where
    head_same : (x y : Entry) → {xs ys : List Entry} → x ∷ xs ≡ y ∷ ys → x ≡ y
    head_same x y h = cc

    tail_same : (x y : Entry) (xs ys : List Entry) → x ∷ xs ≡ y ∷ ys → xs ≡ ys
    tail_same x y xs ys h = cc

are_own : (n : ℕ) (F : List Entry) (k : ℕ) (front H : List Entry) → F ≡ front ++ H → length front ≡ k
    → (ats : List PlacedEntry) → AllAt F ats → RisesFrom k ats → entries_in ats ≡ own H n → ats ≡ own_from k H n
are_own n F k front [] parts long [] stand rise same = refl
are_own n F k front [] parts long (a ∷ ats) stand rise same = cc
are_own n F k front (e ∷ H) parts long ats stand rise same =
    step n F k e H (e.caller == n) ats refl (stands_at F front k e H parts long) stand rise
    (few n F (k + 1) (front ++ e ∷ []) H (parts ∙ sym (append_assoc front (e ∷ []) H)) (longer front e k long))
    (are_own n F (k + 1) (front ++ e ∷ []) H (parts ∙ sym (append_assoc front (e ∷ []) H)) (longer front e k long))
    same

pub notes_are_placed : (H : List Entry) (n from to : ℕ) (notes : List Note) → AllStand H notes → RiseWithin from to notes
    → entries_in (told_by notes) ≡ own H n → told_by notes ≡ own_placed H n
notes_are_placed H n from to notes stand rise same =
    are_own n H 0 [] H refl refl (told_by notes) (told_stand H notes stand) (from_none from (told_by notes) (told_rise from to notes rise)) same
