-- What the lines of files come to, whose entries were merged.
-- It serves the clauses of `judge_files`.
use Rattle.std.proofs.Common.{◌≡◌, ◌≢◌, ℕ, ◌<◌, ◌≤◌, nat_eq, min, List, [], ◌∷◌, length, map, MatchOption, Option, Some, None, IsPermutation, ap, sym, ◌∙◌, subst, arith}
use Rattle.std.specs.List.{IsDistinct, range_with_len}
use Rattle.std.proofs.lemmas.List.{length-map}
use Rattle.std.proofs.lemmas.List.Sorted.{IsPermutation-map, IsPermutation-sym, length_permutation}
use Rattle.bsc_history.specs.declared.limits.About.{About}
use Rattle.bsc_journal.specs.declared.journal_record.JournalRecord.{JournalRecord}
use Rattle.bsc_audit.specs.declared.files.bounds.TheConstants.{MOST_ENTRIES}
use Rattle.bsc_audit.specs.declared.files.files_end.FilesEnd.{FilesEnd}
use Rattle.bsc_audit.specs.declared.files.files_end.FilesEnd.TheVariants.{Legal, BadLine, Unsorted, Hubs, TooMany, Twice, Missing, Illegal, ReadFault, Changed, NoMemory}
use Rattle.bsc_audit.specs.declared.files.sums.Sums.{Sums}
use Rattle.bsc_audit.specs.Hearing.{hubs_of}
use Rattle.bsc_audit.specs.Merging.{AddsFiles, ComeTo, TellsNothing, entry_of, place_of}
use Rattle.bsc_audit.specs.Places.Places.{IsLeastMissing, IsLeastTwice}
use Rattle.bsc_audit.specs.Places.Walking.{repeated, skipped}
use Rattle.bsc_audit.specs.Together.{FilesAuditTo, FilesTell, HaveFew, HaveHubs, HaveOneHub, HaveTooMany, Placed, entries_of, together}
use Rattle.bsc_audit.specs.Verdicts.{places_of}
use Rattle.bsc_audit.proofs.FileFacts.MergedAll.{all_entries}
use Rattle.bsc_audit.proofs.FileFacts.Rises.{rise_of}
use Rattle.bsc_audit.proofs.FileFacts.SaidLines.{files_entries, places_are}
use Rattle.bsc_audit.proofs.FileFacts.Weighed.{are_placed}
use Rattle.bsc_audit.proofs.PlaceFacts.Missing.{missing_of}
use Rattle.bsc_audit.proofs.PlaceFacts.Reordering.{missing_reordered, twice_reordered}
use Rattle.bsc_audit.proofs.PlaceFacts.Twice.{Told, twice_of}
use Rattle.bsc_audit.proofs.SortedOut.{no_hub, one_hub}

-- ---- what was summed up

abbrev most : ℕ
most = 18446744073709551615

pub says_hubs : (fs : List (List ℕ)) (sums : Sums) → AddsFiles fs sums → sums.hubs ≢ 1 → HaveHubs sums.hubs fs
says_hubs fs sums so other = record {
  said = so.said;
  all = so.says;
  count = so.sum.hubs;
  other = λ one. other (so.sum.hubs ∙ ap (λ (n : ℕ). min n most) one);
}

pub no_about : (fs : List (List ℕ)) (sums : Sums) → AddsFiles fs sums → sums.about ≡ None → sums.hubs ≢ 1
no_about fs sums so none =
    let zero = no_hub (hubs_of (together so.said)) (sym so.sum.about ∙ none) in
    let hubs : sums.hubs ≡ 0 = so.sum.hubs ∙ ap (λ (n : ℕ). min n most) zero in
    λ one. (let no : ⊥ = omega (arith, hubs, one) in no)

min_one : (n : ℕ) → min n most ≡ 1 → n ≡ 1
min_one n e = omega (arith, e)

min_many : (n k : ℕ) → k ≡ min n most → MOST_ENTRIES < k → MOST_ENTRIES < n
min_many n k e many = omega (arith, e, many)

min_few : (n k : ℕ) → k ≡ min n most → k ≤ MOST_ENTRIES → n ≡ k
min_few n k e few = omega (arith, e, few)

pub says_one_hub : (fs : List (List ℕ)) (sums : Sums) (so : AddsFiles fs sums) → sums.hubs ≡ 1 → HaveOneHub fs so.said
says_one_hub fs sums so one = record { all = so.says; one = min_one (length (hubs_of (together so.said))) (sym so.sum.hubs ∙ one) }

pub says_too_many : (fs : List (List ℕ)) (sums : Sums) → AddsFiles fs sums → sums.hubs ≡ 1 → MOST_ENTRIES < sums.entries → HaveTooMany fs
says_too_many fs sums so one many = record {
  said = so.said;
  hub = says_one_hub fs sums so one;
  many = min_many (length (entries_of (together so.said))) sums.entries so.sum.entries many;
}

pub says_few : (fs : List (List ℕ)) (sums : Sums) (so : AddsFiles fs sums) → sums.hubs ≡ 1 → sums.entries ≤ MOST_ENTRIES → HaveFew fs so.said
says_few fs sums so one few = record {
  hub = says_one_hub fs sums so one;
  few = (let same = min_few (length (entries_of (together so.said))) sums.entries so.sum.entries few in omega (arith, same, few));
}

pub count_entries : (fs : List (List ℕ)) (sums : Sums) (so : AddsFiles fs sums) → sums.entries ≤ MOST_ENTRIES → length (all_entries fs) ≡ sums.entries
count_entries fs sums so few =
    ap length (files_entries fs so.said so.says) ∙ min_few (length (entries_of (together so.said))) sums.entries so.sum.entries few

-- ---- what was merged

places_all : (fs : List (List ℕ)) (said : List (List JournalRecord)) (about : About) (r : FilesEnd) → HaveFew fs said → (come : ComeTo fs about r) →
    IsPermutation (places_of (together said)) (map place_of come.done)
places_all fs said about r few come =
    subst (λ (l : List ℕ). IsPermutation l (map place_of come.done)) (sym (places_are (together said) ∙ ap (map place_of) (sym (files_entries fs said few.hub.all))))
    (IsPermutation-map place_of (all_entries fs) come.done come.all)

least_twice : (ps : List ℕ) (p : ℕ) → Told (repeated ps) ps → repeated ps ≡ Some p → IsLeastTwice p ps
least_twice ps p told e = subst (λ (o : Option ℕ). Told o ps) e told

none_twice : (ps : List ℕ) → Told (repeated ps) ps → repeated ps ≡ None → IsDistinct nat_eq ps
none_twice ps told e = subst (λ (o : Option ℕ). Told o ps) e told

abbrev Gone : List ℕ → Option ℕ → Type 0
Gone ps o = MatchOption o (ps ≡ range_with_len 0 (length ps)) (λ p. IsLeastMissing p ps)

least_missing : (ps : List ℕ) (p : ℕ) → Gone ps (skipped 0 ps) → skipped 0 ps ≡ Some p → IsLeastMissing p ps
least_missing ps p gone e = subst (λ (o : Option ℕ). Gone ps o) e gone

none_missing : (ps : List ℕ) → Gone ps (skipped 0 ps) → skipped 0 ps ≡ None → ps ≡ range_with_len 0 (length ps)
none_missing ps gone e = subst (λ (o : Option ℕ). Gone ps o) e gone

files_tell : (fs : List (List ℕ)) (said : List (List JournalRecord)) (about : About) (r : FilesEnd) → HaveFew fs said → hubs_of (together said) ≡ about ∷ [] → (come : ComeTo fs about r) →
    repeated (map place_of come.done) ≡ None → skipped 0 (map place_of come.done) ≡ None → FilesTell fs about (map entry_of come.done)
files_tell fs said about r few hub come once whole =
    let done = come.done in
    let ps = map place_of done in
    let rise = rise_of ps come.rising in
    let distinct = none_twice ps (twice_of ps rise) once in
    let places : ps ≡ range_with_len 0 (length done) = none_missing ps (missing_of ps rise distinct) whole ∙ ap (λ (n : ℕ). range_with_len 0 n) (length-map done place_of) in
    record {
      said = said;
      all = few.hub.all;
      hub = hub;
      entries = subst (λ (l : List Placed). IsPermutation (entries_of (together said)) l) (are_placed 0 done places)
          (subst (λ (l : List Placed). IsPermutation l done) (files_entries fs said few.hub.all) come.all);
    }

as_many : (fs : List (List ℕ)) (said : List (List JournalRecord)) (about : About) (r : FilesEnd) → HaveFew fs said → (come : ComeTo fs about r) → length (map entry_of come.done) ≤ MOST_ENTRIES
as_many fs said about r few come =
    let all = length_permutation (all_entries fs) come.done come.all in
    let same = ap length (files_entries fs said few.hub.all) in
    let long = length-map come.done entry_of in
    let most = few.few in
    omega (arith, all, same, long, most)

pub files_come : (fs : List (List ℕ)) (said : List (List JournalRecord)) (about : About) (r : FilesEnd) → HaveFew fs said → hubs_of (together said) ≡ about ∷ [] → ComeTo fs about r → FilesAuditTo fs r
files_come fs said about (Twice p) few hub come =
    let ps = map place_of come.done in
    (said, few, twice_reordered (places_of (together said)) ps (places_all fs said about (Twice p) few come) p (least_twice ps p (twice_of ps (rise_of ps come.rising)) come.weigh))
files_come fs said about (Missing p) few hub come =
    let ps = map place_of come.done in
    let all = places_of (together said) in
    let perm = places_all fs said about (Missing p) few come in
    let rise = rise_of ps come.rising in
    (said, few, missing_reordered all ps perm (IsPermutation-sym all ps perm) p (least_missing ps p (missing_of ps rise (none_twice ps (twice_of ps rise) come.weigh.0)) come.weigh.1))
files_come fs said about (Illegal p) few hub come = record {
  about = about;
  history = map entry_of come.done;
  tells = files_tell fs said about (Illegal p) few hub come come.weigh.0 come.weigh.1;
  few = as_many fs said about (Illegal p) few come;
  place = come.weigh.2.place;
  before = come.weigh.2.before;
  illegal = come.weigh.2.illegal;
}
files_come fs said about (Legal entries files) few hub come = (
  record {
    about = about;
    history = map entry_of come.done;
    tells = files_tell fs said about (Legal entries files) few hub come come.weigh.0 come.weigh.1;
    few = as_many fs said about (Legal entries files) few come;
    count = come.weigh.3 ∙ sym (length-map come.done entry_of);
    legal = come.weigh.2;
  },
  come.weigh.4,
)
files_come fs said about (BadLine file line) few hub come = absurd come.weigh
files_come fs said about (Unsorted file line) few hub come = absurd come.weigh
files_come fs said about (Hubs lines) few hub come = absurd come.weigh
files_come fs said about TooMany few hub come = absurd come.weigh
files_come fs said about (ReadFault file) few hub come = tt
files_come fs said about (Changed file) few hub come = absurd come.weigh
files_come fs said about NoMemory few hub come = tt

-- nothing is told
pub nothing_told : (fs : List (List ℕ)) (r : FilesEnd) → TellsNothing r → FilesAuditTo fs r
nothing_told fs (ReadFault file) none = tt
nothing_told fs NoMemory none = tt
nothing_told fs (BadLine file line) none = absurd none
nothing_told fs (Unsorted file line) none = absurd none
nothing_told fs (Legal entries files) none = absurd none
nothing_told fs (Hubs lines) none = absurd none
nothing_told fs TooMany none = absurd none
nothing_told fs (Twice place) none = absurd none
nothing_told fs (Missing place) none = absurd none
nothing_told fs (Illegal place) none = absurd none
nothing_told fs (Changed file) none = absurd none

pub one_about : (fs : List (List ℕ)) (sums : Sums) (so : AddsFiles fs sums) (about : About) → sums.hubs ≡ 1 → sums.about ≡ Some about → hubs_of (together so.said) ≡ about ∷ []
one_about fs sums so about one is =
    one_hub (hubs_of (together so.said)) about (says_one_hub fs sums so one).one (sym so.sum.about ∙ is)
