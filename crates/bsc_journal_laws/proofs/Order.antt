-- Journals may be read in any order.
-- It serves the clauses of `files_in_any_order`, `journals_audit` and `run_audits`.
use Rattle.std.proofs.Common.{◌≡◌, ◌≤◌, ℕ, Bool, true, nat_le, List, [], ◌∷◌, ◌++◌, length, filter, flat_map, map, refl, ap, sym, ◌∙◌, subst}
use Rattle.std.specs.List.{AllByRecursion, list_all}
use Rattle.std.specs.List.Sorted.{IsPermutation}
use Rattle.std.proofs.lemmas.Bool.{and_from, and_parts, le-leb}
use Rattle.std.proofs.lemmas.List.{map-append}
use Rattle.std.proofs.lemmas.List.Concat.{length-flat_map}
use Rattle.std.proofs.lemmas.List.Elements.{All-from_recursion, filter-append, recursion_from_All}
use Rattle.std.proofs.lemmas.List.Sorted.{All-permutation, IsPermutation-sym, IsPermutation-trans, sum_by-IsPermutation}
use Rattle.itertools.proofs.KMergeLemmas.{flat-permutation}
use Rattle.bsc_text.specs.Lines.{line_in, pieces_of}
use Rattle.bsc_journal.specs.Journals.{Audited, is_within, lines_from, lines_of, most_octets}
use Rattle.bsc_audit.proofs.SortedOut.{is_kept}
use Rattle.bsc_audit.proofs.Within.{is_short_line}
use Rattle.bsc_audit_laws.specs.Laws.{EndsWithLine}
use Rattle.bsc_audit_laws.proofs.AnyOrder.{pieces_append}
use Rattle.bsc_journal_laws.specs.Laws.{put_together}

pub lines_together : (fs : List (List ℕ)) → AllByRecursion EndsWithLine fs → lines_of (put_together fs) ≡ flat_map lines_of fs
lines_together [] all = refl
lines_together (o ∷ fs) all =
    ap (map line_in) (pieces_append o (put_together fs) all.0)
    ∙ map-append line_in (pieces_of o) (pieces_of (put_together fs))
    ∙ ap (λ (l : List (List ℕ)). lines_of o ++ l) (lines_together fs all.1)

-- the lines of a file that are kept
abbrev pub kept_of : List ℕ → List (List ℕ)
kept_of o = filter is_kept (lines_of o)

kept_flat : (fs : List (List ℕ)) → filter is_kept (flat_map lines_of fs) ≡ flat_map kept_of fs
kept_flat [] = refl
kept_flat (o ∷ fs) =
    filter-append is_kept (lines_of o) (flat_map lines_of fs)
    ∙ ap (λ (l : List (List ℕ)). kept_of o ++ l) (kept_flat fs)

pub kept_together : (fs : List (List ℕ)) → AllByRecursion EndsWithLine fs → kept_of (put_together fs) ≡ flat_map kept_of fs
kept_together fs all = ap (filter is_kept) (lines_together fs all) ∙ kept_flat fs

all_true : (p : List ℕ → Bool) (ls : List (List ℕ)) → list_all p ls ≡ true → AllByRecursion (λ (l : List ℕ). p l ≡ true) ls
all_true p [] h = tt
all_true p (l ∷ ls) h = (let two = and_parts (p l) (list_all p ls) h in (two.0, all_true p ls two.1))

true_all : (p : List ℕ → Bool) (ls : List (List ℕ)) → AllByRecursion (λ (l : List ℕ). p l ≡ true) ls → list_all p ls ≡ true
true_all p [] h = refl
true_all p (l ∷ ls) h = and_from (p l) (list_all p ls) h.0 (true_all p ls h.1)

pub moved : {A : Type 0} (P : A → Type 0) (xs ys : List A) → IsPermutation xs ys → AllByRecursion P xs → AllByRecursion P ys
moved P xs ys s all = recursion_from_All P ys (All-permutation P xs ys s (All-from_recursion P xs all))

-- octets of files are as many in any order
pub together_long : (fs gs : List (List ℕ)) → IsPermutation fs gs → length (put_together gs) ≡ length (put_together fs)
together_long fs gs s = length-flat_map (λ (o : List ℕ). o) gs ∙ sum_by-IsPermutation (λ (o : List ℕ). length o) fs gs s ∙ sym (length-flat_map (λ (o : List ℕ). o) fs)

pub within_moved : (fs gs : List (List ℕ)) → AllByRecursion EndsWithLine fs → AllByRecursion EndsWithLine gs → IsPermutation fs gs → is_within (put_together fs) ≡ true
    → is_within (put_together gs) ≡ true
within_moved fs gs ef eg s h =
    let parts = and_parts (nat_le (length (put_together fs)) most_octets) (list_all is_short_line (lines_of (put_together fs))) h in
    let long : length (put_together gs) ≡ length (put_together fs) =
    length-flat_map (λ (o : List ℕ). o) gs ∙ sum_by-IsPermutation (λ (o : List ℕ). length o) fs gs s ∙ sym (length-flat_map (λ (o : List ℕ). o) fs) in
    let shorts : AllByRecursion (λ (l : List ℕ). is_short_line l ≡ true) (flat_map lines_of fs) =
    all_true is_short_line (flat_map lines_of fs) (ap (list_all is_short_line) (sym (lines_together fs ef)) ∙ parts.1) in
    let turned = moved (λ (l : List ℕ). is_short_line l ≡ true) (flat_map lines_of fs) (flat_map lines_of gs) (flat-permutation lines_of fs gs s) shorts in
    and_from (nat_le (length (put_together gs)) most_octets) (list_all is_short_line (lines_of (put_together gs)))
    (ap (λ (n : ℕ). nat_le n most_octets) long ∙ parts.0)
    (ap (list_all is_short_line) (lines_together gs eg) ∙ true_all is_short_line (flat_map lines_of gs) turned)

pub files_in_any_order : (fs gs : List (List ℕ)) (n : ℕ) → AllByRecursion EndsWithLine fs → IsPermutation fs gs → Audited (put_together fs) n → Audited (put_together gs) n
files_in_any_order fs gs n ef s audited =
    let eg = moved EndsWithLine fs gs s ef in
    let t = audited.tells in
    let told = t.hub_line ∷ lines_from 0 audited.history in
    let turned : IsPermutation (flat_map kept_of gs) (flat_map kept_of fs) = IsPermutation-sym (flat_map kept_of fs) (flat_map kept_of gs) (flat-permutation kept_of fs gs s) in
    record {
      within = within_moved fs gs ef eg s audited.within;
      about = audited.about;
      history = audited.history;
      tells = record {
        hub_line = t.hub_line;
        hub = t.hub;
        entries = t.entries;
        lines = IsPermutation-trans (kept_of (put_together gs)) (kept_of (put_together fs)) told
            (subst (λ (l : List (List ℕ)). IsPermutation l (kept_of (put_together fs))) (sym (kept_together gs eg))
            (subst (λ (l : List (List ℕ)). IsPermutation (flat_map kept_of gs) l) (sym (kept_together fs ef)) turned))
            t.lines;
      };
      count = audited.count;
      legal = audited.legal;
    }

-- octets are within the limits, whatever their order, where they are few and the lines of the files are short
pub fits_moved : (fs gs : List (List ℕ)) → AllByRecursion EndsWithLine fs → IsPermutation fs gs → length (put_together gs) ≤ most_octets
    → list_all is_short_line (flat_map lines_of fs) ≡ true → is_within (put_together gs) ≡ true
fits_moved fs gs ef s few short =
    let eg = moved EndsWithLine fs gs s ef in
    let turned = moved (λ (l : List ℕ). is_short_line l ≡ true) (flat_map lines_of fs) (flat_map lines_of gs) (flat-permutation lines_of fs gs s)
    (all_true is_short_line (flat_map lines_of fs) short) in
    and_from (nat_le (length (put_together gs)) most_octets) (list_all is_short_line (lines_of (put_together gs)))
    (le-leb (length (put_together gs)) most_octets few)
    (ap (list_all is_short_line) (lines_together gs eg) ∙ true_all is_short_line (flat_map lines_of gs) turned)
