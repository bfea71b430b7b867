-- The lines of what was said are hub lines, lines of entries, and what is passed over.
-- It serves clauses of functions of `auditing`, `files` and `judging`.
use Rattle.std.proofs.Common.{◌≡◌, ℕ, ◌+◌, Bool, true, false, not, cond, List, [], ◌∷◌, ◌++◌, length, drop, suc, filter, map, Some, None, refl, ap, sym, ◌∙◌, subst, arith}
use Rattle.std.specs.List.{AllByRecursion, count_by, last_or}
use Rattle.std.specs.List.Sorted.{IsPermutation}
use Rattle.std.proofs.lemmas.Bool.{false_from_ne_true}
use Rattle.std.proofs.lemmas.List.Sorted.{IsPermutation-cons, IsPermutation-middle, IsPermutation-refl, IsPermutation-sym, IsPermutation-trans}
use Rattle.std.proofs.lemmas.List.Sums.{sum_by-cons}
use Rattle.bsc_history.specs.declared.entry.Entry.{Entry}
use Rattle.bsc_history.specs.declared.limits.About.{About}
use Rattle.bsc_text.specs.Lines.{line_in}
use Rattle.bsc_audit.specs.declared.places.spot.Spot.{Spot}
use Rattle.bsc_journal.specs.declared.journal_record.JournalRecord.{JournalRecord}
use Rattle.bsc_journal.specs.declared.journal_record.JournalRecord.TheVariants.{Hub, Entry as AnEntry, Denial}
use Rattle.bsc_journal.specs.Saying.{IsHubLine, IsLineOf, is_denial}
use Rattle.bsc_journal.specs.Good.{SayAll}
use Rattle.bsc_journal.proofs.SaidOnce.{entry_no_denial, hub_no_denial}
use Rattle.bsc_audit.specs.Verdicts.{is_hub, places_of}
use Rattle.bsc_audit.specs.Hearing.{entry_lines, hub_lines, hubs_of, line_at}
use Rattle.bsc_audit.proofs.SoFar.{place_of}

-- whether a line is kept: nothing that was denied is
abbrev pub is_kept : List ℕ → Bool
is_kept l = not (is_denial l)

kept_hub : (l : List ℕ) (about : About) → IsHubLine l about → is_kept l ≡ true
kept_hub l about hub = ap not (false_from_ne_true (is_denial l) (hub_no_denial l about hub))

kept_entry : (l : List ℕ) (place : ℕ) (e : Entry) → IsLineOf l place e → is_kept l ≡ true
kept_entry l place e is = ap not (false_from_ne_true (is_denial l) (entry_no_denial l place e is))

keeps : (l : List ℕ) (ls : List (List ℕ)) (b : Bool) → is_kept l ≡ b → filter is_kept (l ∷ ls) ≡ cond b (l ∷ filter is_kept ls) (filter is_kept ls)
keeps l ls b e = ap (λ (x : Bool). cond x (l ∷ filter is_kept ls) (filter is_kept ls)) e

same_then : (xs ys zs : List (List ℕ)) → xs ≡ ys → IsPermutation ys zs → IsPermutation xs zs
same_then xs ys zs e p = subst (λ (x : List (List ℕ)). IsPermutation x zs) (sym e) p

-- The lines that are kept are the hub lines and then those of entries, in another order.
pub sorted_out : (before : ℕ) (pieces : List (List ℕ)) (said : List JournalRecord) → SayAll before pieces said →
    IsPermutation (filter is_kept (map line_in pieces)) (hub_lines pieces said ++ entry_lines pieces said)
sorted_out before [] [] all = IsPermutation-refl []
sorted_out before [] (s ∷ said) all = absurd all
sorted_out before (p ∷ pieces) [] all = absurd all
sorted_out before (p ∷ pieces) (Hub about ∷ said) all =
    let l = line_in p in
    let kept = filter is_kept (map line_in pieces) in
    same_then (filter is_kept (l ∷ map line_in pieces)) (l ∷ kept) (l ∷ (hub_lines pieces said ++ entry_lines pieces said)) (keeps l (map line_in pieces) true (kept_hub l about all.0.says))
    (IsPermutation-cons l kept (hub_lines pieces said ++ entry_lines pieces said) (sorted_out (before + length p) pieces said all.1))
sorted_out before (p ∷ pieces) (AnEntry place e ∷ said) all =
    let l = line_in p in
    let kept = filter is_kept (map line_in pieces) in
    let hubs = hub_lines pieces said in
    let entries = entry_lines pieces said in
    same_then (filter is_kept (l ∷ map line_in pieces)) (l ∷ kept) (hubs ++ l ∷ entries) (keeps l (map line_in pieces) true (kept_entry l place e all.0.says))
    (IsPermutation-trans (l ∷ kept) (l ∷ (hubs ++ entries)) (hubs ++ l ∷ entries)
    (IsPermutation-cons l kept (hubs ++ entries) (sorted_out (before + length p) pieces said all.1))
    (IsPermutation-sym (hubs ++ l ∷ entries) (l ∷ (hubs ++ entries)) (IsPermutation-middle hubs l entries)))
sorted_out before (p ∷ pieces) (Denial ∷ said) all =
    let l = line_in p in
    same_then (filter is_kept (l ∷ map line_in pieces)) (filter is_kept (map line_in pieces)) (hub_lines pieces said ++ entry_lines pieces said)
    (keeps l (map line_in pieces) false (ap not all.0.says))
    (sorted_out (before + length p) pieces said all.1)

-- ---- hubs

pub count_hubs : (said : List JournalRecord) → count_by is_hub said ≡ length (hubs_of said)
count_hubs [] = refl
count_hubs (Hub about ∷ said) = sum_by-cons (λ s. cond (is_hub s) 1 0) (Hub about) said
    ∙ (let more = count_hubs said in let same : 1 + count_by is_hub said ≡ suc (length (hubs_of said)) = omega (arith, more) in same)
count_hubs (AnEntry place e ∷ said) = sum_by-cons (λ s. cond (is_hub s) 1 0) (AnEntry place e) said
    ∙ (let more = count_hubs said in let same : 0 + count_by is_hub said ≡ length (hubs_of said) = omega (arith, more) in same)
count_hubs (Denial ∷ said) = sum_by-cons (λ s. cond (is_hub s) 1 0) Denial said
    ∙ (let more = count_hubs said in let same : 0 + count_by is_hub said ≡ length (hubs_of said) = omega (arith, more) in same)

-- where one hub is said, it is the last
pub one_hub : (hubs : List About) (about : About) → length hubs ≡ 1 → last_or None hubs ≡ Some about → hubs ≡ about ∷ []
one_hub [] about one last = absurd (let no : ⊥ = omega (arith, one) in no)
one_hub (a ∷ []) about one last = let same : Some a ≡ Some about = last in cc
one_hub (a ∷ b ∷ hubs) about one last = absurd (let no : ⊥ = omega (arith, one) in no)

pub last_some : {A : Type 0} (x : A) (xs : List A) → last_or (Some x) xs ≡ None → ⊥
last_some x [] e = let no : Some x ≡ None = e in cc
last_some x (y ∷ xs) e = last_some y xs e

pub no_hub : (hubs : List About) → last_or None hubs ≡ None → length hubs ≡ 0
no_hub [] e = refl
no_hub (a ∷ hubs) e = absurd (last_some a hubs e)

-- The hub lines of what was said are those of its hubs.
pub record AreHubLines (ls : List (List ℕ)) (about : About) : Type 0 where
  pub line : List ℕ
  pub alone : ls ≡ line ∷ []
  pub says : IsHubLine line about

none_left : (before : ℕ) (pieces : List (List ℕ)) (said : List JournalRecord) → SayAll before pieces said → hubs_of said ≡ [] → hub_lines pieces said ≡ []
none_left before [] [] all none = refl
none_left before [] (s ∷ said) all none = absurd all
none_left before (p ∷ pieces) [] all none = absurd all
none_left before (p ∷ pieces) (Hub about ∷ said) all none = absurd (let no : about ∷ hubs_of said ≡ [] = none in cc)
none_left before (p ∷ pieces) (AnEntry place e ∷ said) all none = none_left (before + length p) pieces said all.1 none
none_left before (p ∷ pieces) (Denial ∷ said) all none = none_left (before + length p) pieces said all.1 none

first_about : About → List About → About
first_about a [] = a
first_about a (b ∷ bs) = b

pub one_hub_line : (before : ℕ) (pieces : List (List ℕ)) (said : List JournalRecord) (about : About) → SayAll before pieces said → hubs_of said ≡ about ∷ [] → AreHubLines (hub_lines pieces said) about
unfolding first_about
one_hub_line before [] [] about all one = absurd (let no : [] ≡ about ∷ [] = one in cc)
one_hub_line before [] (s ∷ said) about all one = absurd all
one_hub_line before (p ∷ pieces) [] about all one = absurd all
one_hub_line before (p ∷ pieces) (Hub a ∷ said) about all one =
    let same : a ≡ about = ap (first_about about) one in
    let rest : hubs_of said ≡ [] = ap (drop 1) one in
    record {
      line = line_in p;
      alone = ap (λ (ls : List (List ℕ)). line_in p ∷ ls) (none_left (before + length p) pieces said all.1 rest);
      says = subst (λ (x : About). IsHubLine (line_in p) x) same all.0.says;
    }
one_hub_line before (p ∷ pieces) (AnEntry place e ∷ said) about all one = one_hub_line (before + length p) pieces said about all.1 one
one_hub_line before (p ∷ pieces) (Denial ∷ said) about all one = one_hub_line (before + length p) pieces said about all.1 one

-- ---- entries

-- The line at a spot is that of an entry at the spot's place.
pub record IsSpotOfOne (o : List ℕ) (s : Spot) : Type 0 where
  pub entry : Entry
  pub is : IsLineOf (line_at o s) s.place entry

first_number : ℕ → List ℕ → ℕ
first_number n [] = n
first_number n (m ∷ ms) = m

first_line : List ℕ → List (List ℕ) → List ℕ
first_line l [] = l
first_line l (m ∷ ms) = m

pub spots_of_entries : (o : List ℕ) (before : ℕ) (pieces : List (List ℕ)) (said : List JournalRecord) (spots : List Spot) → SayAll before pieces said →
    map place_of spots ≡ places_of said → map (line_at o) spots ≡ entry_lines pieces said → AllByRecursion (IsSpotOfOne o) spots
unfolding first_number first_line
spots_of_entries o before [] [] [] all places lines = tt
spots_of_entries o before [] [] (x ∷ spots) all places lines = absurd (let no : x.place ∷ map place_of spots ≡ [] = places in cc)
spots_of_entries o before [] (s ∷ said) spots all places lines = absurd all
spots_of_entries o before (p ∷ pieces) [] spots all places lines = absurd all
spots_of_entries o before (p ∷ pieces) (Hub about ∷ said) spots all places lines = spots_of_entries o (before + length p) pieces said spots all.1 places lines
spots_of_entries o before (p ∷ pieces) (Denial ∷ said) spots all places lines = spots_of_entries o (before + length p) pieces said spots all.1 places lines
spots_of_entries o before (p ∷ pieces) (AnEntry place e ∷ said) [] all places lines = absurd (let no : [] ≡ place ∷ places_of said = places in cc)
spots_of_entries o before (p ∷ pieces) (AnEntry place e ∷ said) (x ∷ spots) all places lines =
    let at : x.place ≡ place = ap (first_number place) places in
    let line : line_at o x ≡ line_in p = ap (first_line (line_in p)) lines in (
      record { entry = e; is = subst (λ (l : List ℕ). IsLineOf l x.place e) (sym line) (subst (λ (n : ℕ). IsLineOf (line_in p) n e) (sym at) all.0.says) },
      spots_of_entries o (before + length p) pieces said spots all.1 (ap (drop 1) places) (ap (drop 1) lines),
    )
