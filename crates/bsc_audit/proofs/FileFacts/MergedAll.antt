-- The entries of all files, taken one after another by their places.
-- It serves clauses of functions of `files`.
use Rattle.std.proofs.Common.{◌≡◌, ℕ, ◌+◌, ◌≤◌, ◌<◌, List, [], ◌∷◌, ◌++◌, length, take, drop, flat_map, map, option_to_list, Option, Some, None, IsPermutation, refl, ap, sym, ◌∙◌, subst, arith}
use Rattle.std.proofs.Common.{append_assoc, append-nil, length-append, take_all}
use Rattle.std.specs.List.{AllByRecursion}
use Rattle.std.specs.Prelude.{IfSome, OnOk, Result, Ok, Err, is_ok, true}
use Rattle.std.proofs.lemmas.List.Elements.{All-from_recursion, recursion_from_All}
use Rattle.std.proofs.lemmas.List.Sorted.{All-permutation, IsPermutation-append_right, IsPermutation-refl, IsPermutation-trans, length_permutation}
use Rattle.bsc_history.specs.declared.entry.Entry.{Entry}
use Rattle.bsc_history.specs.declared.limits.About.{About}
use Rattle.bsc_journal.specs.declared.journal_record.JournalRecord.TheVariants.{Entry as AnEntry}
use Rattle.bsc_journal.specs.Journals.{lines_of}
use Rattle.bsc_audit.specs.declared.files.head.Head.{Head}
use Rattle.bsc_audit.specs.declared.files.weighing.Weighing.{Weighing}
use Rattle.bsc_audit.specs.declared.files.files_end.FilesEnd.{FilesEnd}
use Rattle.bsc_audit.specs.Merging.{AreHeads, AreMerged, ComeTo, HeadIs, IsHeadOf, MergesOn, TakesEntry, TakesNext, WeighTo, Weighs, entries_from, left_of, place_of}
use Rattle.bsc_audit.specs.Pieces.{file_at}
use Rattle.bsc_audit.specs.Together.{AreRising, Placed, entries_of}
use Rattle.bsc_audit.specs.Verdicts.{places_of}
use Rattle.bsc_audit.proofs.FileFacts.Checked.{take_next}
use Rattle.bsc_audit.proofs.FileFacts.Rises.{all_both, all_of, all_snoc, rising_snoc}
use Rattle.bsc_audit.proofs.FileFacts.SaidLines.{lines_entries, places_are}
use Rattle.bsc_audit.proofs.FileFacts.Shuffled.{flat_permuted, front_swap}
use Rattle.bsc_audit.proofs.FileFacts.Weighed.{places_snoc}

pub all_permuted : {X : Type 0} (P : X → Type 0) (xs ys : List X) → IsPermutation xs ys → AllByRecursion P xs → AllByRecursion P ys
all_permuted P xs ys perm all = recursion_from_All P ys (All-permutation P xs ys perm (All-from_recursion P xs all))

flat_append : {X A : Type 0} (f : X → List A) (xs ys : List X) → flat_map f (xs ++ ys) ≡ flat_map f xs ++ flat_map f ys
flat_append f [] ys = refl
flat_append f (x ∷ xs) ys = ap (λ (l : List _). f x ++ l) (flat_append f xs ys) ∙ sym (append_assoc (f x) (flat_map f xs) (flat_map f ys))

-- ---- heads

abbrev pub all_entries : List (List ℕ) → List Placed
all_entries fs = flat_map (λ f. entries_from f 0) fs

pub heads_none : (fs : List (List ℕ)) (heads : List Head) → heads ≡ [] → AreHeads fs 0 heads
heads_none fs heads none = subst (λ (hs : List Head). AreHeads fs 0 hs) (sym none) (record { left = IsPermutation-refl []; each = tt })

-- what is left of a file, by its head
found_left : (fs : List (List ℕ)) (file from : ℕ) (found : Option Head) → HeadIs fs file from found → flat_map (left_of fs) (option_to_list found) ≡ entries_from (file_at fs file) from
found_left fs file from None is = sym is
found_left fs file from (Some h) is = append-nil (left_of fs h) ∙ is.0

found_each : (fs : List (List ℕ)) (file from : ℕ) (found : Option Head) (others : List Head) → HeadIs fs file from found → AllByRecursion (IsHeadOf fs) others →
    AllByRecursion (IsHeadOf fs) (option_to_list found ++ others)
found_each fs file from None others is all = all
found_each fs file from (Some h) others is all = (is.1, all)

pub heads_next : (fs : List (List ℕ)) (k : ℕ) (found : Option Head) (old new : List Head) → k < length fs → AreHeads fs k old → HeadIs fs k 0 found →
    IsPermutation (option_to_list found ++ old) new → AreHeads fs (k + 1) new
heads_next fs k found old new within so is perm =
    let left = left_of fs in
    let front = all_entries (take k fs) in
    let here = entries_from (file_at fs k) 0 in
    let was = flat_map left old in
    let whole : all_entries (take (k + 1) fs) ≡ front ++ (here ++ []) = ap all_entries (take_next fs k within) ∙ flat_append (λ f. entries_from f 0) (take k fs) (file_at fs k ∷ []) in
    let joined : flat_map left (option_to_list found ++ old) ≡ here ++ was = flat_append left (option_to_list found) old ∙ ap (λ (l : List Placed). l ++ was) (found_left fs k 0 found is) in
    record {
      left = subst (λ (l : List Placed). IsPermutation l (flat_map left new)) (sym (whole ∙ ap (λ (l : List Placed). front ++ l) (append-nil here)))
          (IsPermutation-trans (front ++ here) (here ++ was) (flat_map left new)
          (behind_swap front here was so.left)
          (subst (λ (l : List Placed). IsPermutation l (flat_map left new)) joined (flat_permuted left (option_to_list found ++ old) new perm)));
      each = all_permuted (IsHeadOf fs) (option_to_list found ++ old) new perm (found_each fs k 0 found old is so.each);
    }
  where
    behind_swap : (xs ys zs : List Placed) → IsPermutation xs zs → IsPermutation (xs ++ ys) (ys ++ zs)
    behind_swap xs ys zs p =
        IsPermutation-trans (xs ++ ys) (ys ++ xs) (ys ++ zs)
        (subst (λ (l : List Placed). IsPermutation (xs ++ l) (ys ++ xs)) (append-nil ys) (subst (λ (l : List Placed). IsPermutation (xs ++ (ys ++ [])) (ys ++ l)) (append-nil xs)
        (front_swap xs ys [])))
        (IsPermutation-append_right ys xs zs p)

-- ---- entries

all_true : (heads : List Head) → AllByRecursion (λ h. AllByRecursion (λ p. p ≤ h.place) (map place_of [])) heads
all_true [] = tt
all_true (h ∷ heads) = (tt, all_true heads)

pub merged_none : (fs : List (List ℕ)) (n : ℕ) (heads : List Head) → length fs ≡ n → AreHeads fs n heads → AreMerged fs [] heads
merged_none fs n heads long so = record {
  parts = subst (λ (l : List (List ℕ)). IsPermutation (all_entries l) (flat_map (left_of fs) heads)) (take_all n fs (omega (arith, long))) so.left;
  each = so.each;
  rising = tt;
  behind = all_true heads;
}

pub takes_next : (fs : List (List ℕ)) (done : List Placed) (old : List Head) (h : Head) (new : List Head) → AreMerged fs done old → IsPermutation old (h ∷ new) →
    AllByRecursion (λ other. h.place ≤ other.place) new → TakesNext fs done h new
takes_next fs done old h new so perm least =
    let left = left_of fs in
    record {
      merged = record {
        parts = IsPermutation-trans (all_entries fs) (done ++ flat_map left old) (done ++ flat_map left (h ∷ new)) so.parts
            (IsPermutation-append_right done (flat_map left old) (flat_map left (h ∷ new)) (flat_permuted left old (h ∷ new) perm));
        each = all_permuted (IsHeadOf fs) old (h ∷ new) perm so.each;
        rising = so.rising;
        behind = all_permuted (λ x. AllByRecursion (λ p. p ≤ x.place) (map place_of done)) old (h ∷ new) perm so.behind;
      };
      least = least;
    }

-- the next entry of a file is of no lesser place
all_first : (least n : ℕ) (ps qs : List ℕ) → ps ≡ n ∷ qs → AllByRecursion (λ p. least ≤ p) ps → least ≤ n
all_first least n ps qs e all = (subst (λ (l : List ℕ). AllByRecursion (λ p. least ≤ p) l) e all).0

found_above : (fs : List (List ℕ)) (h g : Head) (e : Entry) (next : ℕ) → TakesEntry fs h e next → HeadIs fs h.file next (Some g) → h.place ≤ g.place
found_above fs h g e next t is =
    let i = is.1 in
    let f = file_at fs h.file in
    let here : left_of fs g ≡ record { place = g.place; entry = i.entry } ∷ entries_of i.said = lines_entries (lines_of (drop g.at (file_at fs g.file))) (AnEntry g.place i.entry ∷ i.said) i.lines in
    let there : entries_from f next ≡ entries_of t.said = lines_entries (lines_of (drop next f)) t.said t.says.lines in
    let places : places_of t.said ≡ g.place ∷ map place_of (entries_of i.said) = places_are t.said ∙ ap (map place_of) (sym there ∙ sym is.0 ∙ here) in
    all_first h.place g.place (places_of t.said) (map place_of (entries_of i.said)) places t.above

found_behind : (fs : List (List ℕ)) (h : Head) (e : Entry) (next : ℕ) (found : Option Head) (others : List Head) (P : Head → Type 0) → TakesEntry fs h e next → HeadIs fs h.file next found →
    ((g : Head) → h.place ≤ g.place → P g) → AllByRecursion P others → AllByRecursion P (option_to_list found ++ others)
found_behind fs h e next None others P t is so all = all
found_behind fs h e next (Some g) others P t is so all = (so g (found_above fs h g e next t is), all)

pub merges_on : (fs : List (List ℕ)) (about : About) (done : List Placed) (h : Head) (others : List Head) (e : Entry) (next : ℕ) (found : Option Head) (new : List Head) (w : Weighing) →
    TakesNext fs done h others → TakesEntry fs h e next → HeadIs fs h.file next found → IsPermutation (option_to_list found ++ others) new →
    Weighs w about (done ++ record { place = h.place; entry = e } ∷ []) → MergesOn fs about done new w
merges_on fs about done h others e next found new w so t is perm weighs =
    let left = left_of fs in
    let x : Placed = record { place = h.place; entry = e } in
    let rest = flat_map left others in
    let from = entries_from (file_at fs h.file) next in
    let m = so.merged in
    let now = done ++ x ∷ [] in
    let joined : flat_map left (option_to_list found ++ others) ≡ from ++ rest = flat_append left (option_to_list found) others
    ∙ ap (λ (l : List Placed). l ++ rest) (found_left fs h.file next found is) in
    let shifted : done ++ (left h ++ rest) ≡ now ++ (from ++ rest) = ap (λ (l : List Placed). done ++ (l ++ rest)) t.first ∙ sym (append_assoc done (x ∷ []) (from ++ rest)) in
    let parts : IsPermutation (all_entries fs) (now ++ flat_map left new) =
    IsPermutation-trans (all_entries fs) (now ++ (from ++ rest)) (now ++ flat_map left new) (subst (λ (l : List Placed). IsPermutation (all_entries fs) l) shifted m.parts)
    (IsPermutation-append_right now (from ++ rest) (flat_map left new) (subst (λ (l : List Placed). IsPermutation l (flat_map left new)) joined (flat_permuted left
    (option_to_list found ++ others) new perm))) in
    let places : map place_of now ≡ map place_of done ++ h.place ∷ [] = places_snoc done x in
    let below : AllByRecursion (λ p. p ≤ h.place) (map place_of done) = m.behind.0 in
    let snoc : (g : Head) → h.place ≤ g.place → AllByRecursion (λ p. p ≤ g.place) (map place_of done) → AllByRecursion (λ p. p ≤ g.place) (map place_of now) =
    λ g up all. subst (λ (l : List ℕ). AllByRecursion (λ p. p ≤ g.place) l) (sym places) (all_snoc (λ p. p ≤ g.place) (map place_of done) h.place all up) in
    record {
      entry = x;
      merged = record {
        parts = parts;
        each = all_permuted (IsHeadOf fs) (option_to_list found ++ others) new perm (found_each fs h.file next found others is m.each.1);
        rising = subst AreRising (sym places) (rising_snoc (map place_of done) h.place m.rising below);
        behind = all_permuted (λ g. AllByRecursion (λ p. p ≤ g.place) (map place_of now)) (option_to_list found ++ others) new perm
            (found_behind fs h e next found others (λ g. AllByRecursion (λ p. p ≤ g.place) (map place_of now)) t is
            (λ g up. snoc g up (all_of (λ p. p ≤ h.place) (λ p. p ≤ g.place) (map place_of done) (λ p le. (omega (arith, le, up))) below))
            (all_both (λ g. h.place ≤ g.place) (λ g. AllByRecursion (λ p. p ≤ g.place) (map place_of done)) (λ g. AllByRecursion (λ p. p ≤ g.place)
            (map place_of now)) others snoc so.least m.behind.1));
      };
      weighs = weighs;
    }

-- one more than those that were taken is left, where a head is
pub some_left : (fs : List (List ℕ)) (done : List Placed) (h : Head) (others : List Head) → TakesNext fs done h others → length done < length (all_entries fs)
some_left fs done h others so =
    let i = so.merged.each.0 in
    let long = length_permutation (all_entries fs) (done ++ flat_map (left_of fs) (h ∷ others)) so.merged.parts in
    let sum = length-append done (flat_map (left_of fs) (h ∷ others)) in
    let more = length-append (left_of fs h) (flat_map (left_of fs) others) in
    let here = ap length (lines_entries (lines_of (drop h.at (file_at fs h.file))) (AnEntry h.place i.entry ∷ i.said) i.lines) in
    omega (arith, long, sum, more, here)

pub all_taken : (fs : List (List ℕ)) (done : List Placed) (heads : List Head) → heads ≡ [] → AreMerged fs done heads → IsPermutation (all_entries fs) done
all_taken fs done heads none so =
    subst (λ (l : List Placed). IsPermutation (all_entries fs) l) (ap (λ (hs : List Head). done ++ flat_map (left_of fs) hs) none ∙ append-nil done) so.parts

-- Some entries were taken and weighed, in the order of their places.
pub record HasMerged (fs : List (List ℕ)) (about : About) (heads : List Head) (w : Weighing) : Type 0 where
  pub done : List Placed
  pub merged : AreMerged fs done heads
  pub weighs : Weighs w about done

-- all of them were
pub come_to : (fs : List (List ℕ)) (about : About) (heads : List Head) (w : Weighing) (r : FilesEnd) (n : ℕ) → heads ≡ [] → length fs ≡ n → HasMerged fs about heads w →
    ((about : About) (done : List Placed) → Weighs w about done → WeighTo about done n r) → ComeTo fs about r
come_to fs about heads w r n none long m end = record {
  done = m.done;
  all = all_taken fs m.done heads none m.merged;
  rising = m.merged.rising;
  weigh = subst (λ (k : ℕ). WeighTo about m.done k r) (sym long) (end about m.done m.weighs);
}

-- ---- heads that are put and taken

pub on_ok : {A E : Type 0} (r : Result A E) (P : Type 0) → is_ok r ≡ true → OnOk r P → P
on_ok (Ok a) P ok so = so
on_ok (Err e) P ok so = cc

pub found_within : (n k : ℕ) (found : Option Head) (old new : List Head) → IfSome found (λ h. (h.at ≤ n) × (h.file ≡ k)) → AllByRecursion (λ h. h.at ≤ n) old →
    IsPermutation (option_to_list found ++ old) new → AllByRecursion (λ h. h.at ≤ n) new
found_within n k None old new within all perm = all_permuted (λ h. h.at ≤ n) old new perm all
found_within n k (Some h) old new within all perm = all_permuted (λ h. h.at ≤ n) (h ∷ old) new perm (within.0, all)
