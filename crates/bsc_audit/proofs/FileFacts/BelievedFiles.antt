-- What is told of files that may be believed.
-- It serves the clauses of `audit_files`.
use Rattle.std.proofs.Common.{◌≡◌, ℕ, suc, ◌+◌, ◌≤◌, nat_lt, Bool, true, false, ◌||◌, List, [], ◌∷◌, ◌++◌, length, take, drop, map, IsPermutation, inl, inr, refl, ap, sym, ◌∙◌, subst, arith}
use Rattle.std.proofs.Common.{append_assoc}
use Rattle.std.specs.Prelude.{IsTrue}
use Rattle.std.specs.List.{AllByRecursion, list_any, range_with_len}
use Rattle.std.proofs.lemmas.Bool.{ltb-true}
use Rattle.std.proofs.lemmas.List.{drop_at, length_push, take-append-drop}
use Rattle.std.proofs.lemmas.List.Sorted.{IsPermutation-map, IsPermutation-sym, IsPermutation-trans, length_permutation}
use Rattle.bsc_history.specs.declared.entry.Entry.{Entry}
use Rattle.bsc_history.specs.declared.limits.About.{About}
use Rattle.bsc_history.specs.Legality.{Legal as IsLegalFor}
use Rattle.bsc_history.proofs.Parts.{Legal-first}
use Rattle.bsc_journal.specs.declared.journal_record.JournalRecord.{JournalRecord}
use Rattle.bsc_journal.specs.declared.journal_record.JournalRecord.TheVariants.{Hub, Entry as AnEntry, Denial}
use Rattle.bsc_journal.proofs.SaidOnce.{says_one}
use Rattle.bsc_audit.specs.declared.files.files_end.FilesEnd.{FilesEnd}
use Rattle.bsc_audit.specs.declared.files.files_end.FilesEnd.TheVariants.{Legal, BadLine, Unsorted, Hubs, TooMany, Twice, Missing, Illegal, ReadFault, Changed, NoMemory}
use Rattle.bsc_audit.specs.Hearing.{hubs_of}
use Rattle.bsc_audit.specs.Merging.{place_of}
use Rattle.bsc_audit.specs.Together.{AreRising, FileSays, FilesAuditTo, FilesAudited, FilesSay, FilesTell, IsBadIn, IsFirstFile, IsLegalOrFault, IsUnsortedIn, LinesSay}
use Rattle.bsc_audit.specs.Together.{Placed, entries_of, placed_from, together}
use Rattle.bsc_audit.specs.Verdicts.{places_of}
use Rattle.bsc_audit.proofs.FileFacts.MergedAll.{all_permuted}
use Rattle.bsc_audit.proofs.FileFacts.SaidLines.{file_among, files_one, lines_one, places_are, says_then}
use Rattle.bsc_audit.proofs.OneHistory.{StandsAt}
use Rattle.bsc_audit.proofs.PlaceFacts.Ranges.{AreAll, none_missing, none_twice}
use Rattle.bsc_audit.proofs.PlaceFacts.Reordering.{often_reordered}

-- ---- a file among files that may be believed is good

told_file : (fs : List (List ℕ)) (all : List (List JournalRecord)) (So : ℕ → List ℕ → Type 0) (k n : ℕ) → FilesSay fs all → (first : IsFirstFile So k n fs) →
    (said : List JournalRecord) × FileSays first.file said
told_file fs all So k n so first =
    file_among first.before first.file first.behind all (subst (λ (l : List (List ℕ)). FilesSay l all) first.parts so)

pub no_bad_line : (fs : List (List ℕ)) (all : List (List JournalRecord)) (k n : ℕ) → FilesSay fs all → IsFirstFile IsBadIn k n fs → ⊥
no_bad_line fs all k n so first =
    let f = told_file fs all IsBadIn k n so first in
    let b = first.so in
    let then = says_then b.first.good b.line b.first.rest f.0 (subst (λ (ls : List (List ℕ)). LinesSay ls f.0) b.first.lines f.1.lines) in
    b.bad then.s then.here

-- where places rise, none is less than one before it
none_less : (p : ℕ) (ps qs : List ℕ) → AreRising (ps ++ p ∷ qs) → IsTrue (list_any (λ q. nat_lt p q) ps) → ⊥
none_less p [] qs up less = cc
none_less p (r ∷ ps) qs up less = by_test (nat_lt p r) p r ps qs refl up less (none_less p ps qs up.1)
  where
    at_end : (r p : ℕ) (ps qs : List ℕ) → AllByRecursion (λ q. r ≤ q) (ps ++ p ∷ qs) → r ≤ p
    at_end r p [] qs all = all.0
    at_end r p (x ∷ ps) qs all = at_end r p ps qs all.1

    by_test : (b : Bool) (p r : ℕ) (ps qs : List ℕ) → nat_lt p r ≡ b → AreRising (r ∷ (ps ++ p ∷ qs)) → (b || list_any (λ q. nat_lt p q) ps) ≡ true → (list_any (λ q. nat_lt p q) ps ≡ true → ⊥) → ⊥
    by_test true p r ps qs e up h more = let less = ltb-true p r e in let le = at_end r p ps qs up.0 in let no : ⊥ = omega (arith, less, le) in no
    by_test false p r ps qs e up h more = more h

places_append : (a b : List JournalRecord) → places_of (a ++ b) ≡ places_of a ++ places_of b
places_append [] b = refl
places_append (Hub about ∷ a) b = places_append a b
places_append (AnEntry place e ∷ a) b = ap (λ (l : List ℕ). place ∷ l) (places_append a b)
places_append (Denial ∷ a) b = places_append a b

pub no_unsorted : (fs : List (List ℕ)) (all : List (List JournalRecord)) (k n : ℕ) → FilesSay fs all → IsFirstFile IsUnsortedIn k n fs → ⊥
no_unsorted fs all k n so first =
    let f = told_file fs all IsUnsortedIn k n so first in
    let u = first.so in
    let then = says_then u.first.good u.line u.first.rest f.0 (subst (λ (ls : List (List ℕ)). LinesSay ls f.0) u.first.lines f.1.lines) in
    let here : then.s ≡ AnEntry u.place u.entry = says_one u.line then.s (AnEntry u.place u.entry) then.here.says u.says.says in
    let before : then.before ≡ u.said = lines_one u.first.good then.before u.said then.says u.first.says in
    let is : f.0 ≡ u.said ++ AnEntry u.place u.entry ∷ then.behind = then.parts ∙ (λ i. before i ++ here i ∷ then.behind) in
    let places : places_of f.0 ≡ places_of u.said ++ u.place ∷ places_of then.behind = ap places_of is ∙ places_append u.said (AnEntry u.place u.entry ∷ then.behind) in
    none_less u.place (places_of u.said) (places_of then.behind) (subst AreRising places f.1.rising) u.less

-- ---- one history

length_placed : (n : ℕ) (H : List Entry) → length (placed_from n H) ≡ length H
length_placed n [] = refl
length_placed n (e ∷ H) = ap suc (length_placed (n + 1) H)

placed_places : (n : ℕ) (H : List Entry) → map place_of (placed_from n H) ≡ range_with_len n (length H)
placed_places n [] = refl
placed_places n (e ∷ H) = ap (λ (l : List ℕ). n ∷ l) (placed_places (n + 1) H)

abbrev StandsIn : List Entry → Placed → Type 0
StandsIn H x = StandsAt H x.place x.entry

all_stand : (H : List Entry) (n : ℕ) (front G : List Entry) → H ≡ front ++ G → length front ≡ n → AllByRecursion (StandsIn H) (placed_from n G)
all_stand H n front [] parts at = tt
all_stand H n front (e ∷ G) parts at = (
  record { front = front; rest = G; parts = parts; at = at },
  all_stand H (n + 1) (front ++ e ∷ []) G (parts ∙ sym (append_assoc front (e ∷ []) G)) (let more = length_push front e in omega (arith, more, at)),
)

same_rest : (n : ℕ) (a b x y : List Entry) → a ++ x ≡ b ++ y → length a ≡ n → length b ≡ n → x ≡ y
same_rest n a b x y e left right = sym (drop_at a x n left) ∙ ap (drop n) e ∙ drop_at b y n right

abbrev head_or : Entry → List Entry → Entry
head_or x [] = x
head_or x (y ∷ ys) = y

same_from : (H : List Entry) (n : ℕ) (front G F : List Entry) → H ≡ front ++ F → length front ≡ n → length G ≡ length F → AllByRecursion (StandsIn H) (placed_from n G) → G ≡ F
same_from H n front [] [] parts at long all = refl
same_from H n front [] (f ∷ F) parts at long all = absurd (let none : 0 ≡ suc (length F) = long in let no : ⊥ = omega (arith, none) in no)
same_from H n front (e ∷ G) [] parts at long all = absurd (let none : suc (length G) ≡ 0 = long in let no : ⊥ = omega (arith, none) in no)
same_from H n front (e ∷ G) (f ∷ F) parts at long all =
    let there = all.0 in
    let same : f ∷ F ≡ e ∷ there.rest = same_rest n front there.front (f ∷ F) (e ∷ there.rest) (sym parts ∙ there.parts) at there.at in
    let first : e ≡ f = ap (head_or e) (sym same) in
    let more = same_from H (n + 1) (front ++ f ∷ []) G F (parts ∙ sym (append_assoc front (f ∷ []) F)) (let m = length_push front f in omega (arith, m, at))
    (let l : suc (length G) ≡ suc (length F) = long in omega (arith, l)) all.1 in
    λ i. first i ∷ more i

placed_one : (G H : List Entry) → IsPermutation (placed_from 0 G) (placed_from 0 H) → G ≡ H
placed_one G H perm =
    let left = length_placed 0 G in
    let right = length_placed 0 H in
    let long = length_permutation (placed_from 0 G) (placed_from 0 H) perm in
    same_from H 0 [] G H refl refl (omega (arith, left, right, long))
    (all_permuted (StandsIn H) (placed_from 0 H) (placed_from 0 G) (IsPermutation-sym (placed_from 0 G) (placed_from 0 H) perm) (all_stand H 0 [] H refl refl))

-- Files tell one history of one hub, if any.
first_about : About → List About → About
first_about a [] = a
first_about a (b ∷ bs) = b

pub files_tell_one : (fs : List (List ℕ)) (a b : About) (G H : List Entry) → FilesTell fs a G → FilesTell fs b H → (a ≡ b) × (G ≡ H)
unfolding first_about
files_tell_one fs a b G H g h =
    let same : g.said ≡ h.said = files_one fs g.said h.said g.all h.all in
    let left : IsPermutation (entries_of (together h.said)) (placed_from 0 G) = subst (λ (s : List (List JournalRecord)). IsPermutation (entries_of (together s)) (placed_from 0 G)) same g.entries in (
      ap (first_about a) (sym g.hub ∙ ap (λ (s : List (List JournalRecord)). hubs_of (together s)) same ∙ h.hub),
      placed_one G H (IsPermutation-trans (placed_from 0 G) (entries_of (together h.said)) (placed_from 0 H) (IsPermutation-sym (entries_of (together h.said)) (placed_from 0 G) left) h.entries),
    )

-- ---- places

told_places : (fs : List (List ℕ)) (a : About) (H : List Entry) (said : List (List JournalRecord)) → FilesTell fs a H → FilesSay fs said → AreAll (places_of (together said)) (length H)
told_places fs a H said t all = λ k.
    let same : t.said ≡ said = files_one fs t.said said t.all all in
    let perm = IsPermutation-map place_of (entries_of (together t.said)) (placed_from 0 H) t.entries in
    let moved : IsPermutation (places_of (together said)) (range_with_len 0 (length H)) =
    subst (λ (s : List (List JournalRecord)). IsPermutation (places_of (together s)) (range_with_len 0 (length H))) same
    (subst (λ (l : List ℕ). IsPermutation l (range_with_len 0 (length H))) (sym (places_are (together t.said)))
    (subst (λ (l : List ℕ). IsPermutation (map place_of (entries_of (together t.said))) l) (placed_places 0 H) perm)) in
    sym (often_reordered (places_of (together said)) (range_with_len 0 (length H)) moved k)

-- ---- the verdict

no_illegal : (a : About) (H : List Entry) (p : ℕ) → IsLegalFor a H → (IsLegalFor a (take (p + 1) H) → ⊥) → ⊥
no_illegal a H p legal illegal = illegal (Legal-first a (take (p + 1) H) (drop (p + 1) H) (subst (λ (F : List Entry). IsLegalFor a F) (sym (take-append-drop (p + 1) H)) legal))

pub believed : (fs : List (List ℕ)) (n files : ℕ) (r : FilesEnd) → length fs ≡ files → FilesAuditTo fs r → FilesAudited fs n → IsLegalOrFault n files r
believed fs n files (Legal m k) long so a =
    let same = files_tell_one fs so.0.about a.about so.0.history a.history so.0.tells a.tells in
    inl (λ i. Legal ((so.0.count ∙ ap length same.1 ∙ sym a.count) i) ((so.1 ∙ long) i))
believed fs n files (BadLine file line) long so a = absurd (no_bad_line fs a.tells.said file line a.tells.all so)
believed fs n files (Unsorted file line) long so a = absurd (no_unsorted fs a.tells.said file line a.tells.all so)
believed fs n files (Hubs lines) long so a =
    absurd (so.other (ap (λ (s : List (List JournalRecord)). length (hubs_of (together s))) (files_one fs so.said a.tells.said so.all a.tells.all) ∙ ap length a.tells.hub))
believed fs n files TooMany long so a =
    let same = ap (λ (s : List (List JournalRecord)). length (entries_of (together s))) (files_one fs so.said a.tells.said so.hub.all a.tells.all) in
    let moved = length_permutation (entries_of (together a.tells.said)) (placed_from 0 a.history) a.tells.entries in
    let placed = length_placed 0 a.history in
    let many = so.many in
    let few = a.few in
    let no : ⊥ = omega (arith, same, moved, placed, many, few) in
    absurd no
believed fs n files (Twice p) long so a =
    absurd (none_twice (places_of (together so.0)) (length a.history) p (told_places fs a.about a.history so.0 a.tells so.1.hub.all) so.2)
believed fs n files (Missing p) long so a =
    absurd (none_missing (places_of (together so.0)) (length a.history) p (told_places fs a.about a.history so.0 a.tells so.1.hub.all) so.2)
believed fs n files (Illegal p) long so a =
    let same = files_tell_one fs so.about a.about so.history a.history so.tells a.tells in
    absurd (no_illegal so.about so.history p (subst (λ (x : About). IsLegalFor x so.history) (sym same.0) (subst (λ (F : List Entry). IsLegalFor a.about F) (sym same.1) a.legal)) so.illegal)
believed fs n files (ReadFault file) long so a = inr (inl (file, refl))
believed fs n files (Changed file) long so a = absurd so
believed fs n files NoMemory long so a = inr (inr refl)
