-- How many lines are hub lines, and which places entries have, whatever their order.
-- It serves clauses of functions of `auditing` and `files`.
use Rattle.std.proofs.Common.{◌≡◌, ℕ, ◌+◌, ◌==◌, Bool, true, false, not, cond, ◌&&◌, List, [], ◌∷◌, ◌++◌, length, filter, Option, refl, ap, sym, ◌∙◌, arith, zero-add}
use Rattle.std.specs.List.{count_by, range_with_len}
use Rattle.std.proofs.lemmas.Bool.{and_left, false_from_ne_true}
use Rattle.std.proofs.lemmas.List.Sorted.{sum_by-IsPermutation}
use Rattle.std.proofs.lemmas.List.Sums.{sum_by-append, sum_by-cons}
use Rattle.bsc_history.specs.declared.entry.Entry.{Entry}
use Rattle.bsc_history.specs.declared.limits.About.{About}
use Rattle.bsc_text.specs.Grammar.{is_digit}
use Rattle.bsc_text.specs.Lines.{line_in, pieces_of}
use Rattle.bsc_audit.proofs.PlaceFacts.Counting.{often}
use Rattle.bsc_audit.proofs.PlaceFacts.Ranges.{AreAll}
use Rattle.bsc_journal.specs.declared.journal_record.JournalRecord.{JournalRecord}
use Rattle.bsc_journal.specs.declared.journal_record.JournalRecord.TheVariants.{Hub, Entry as AnEntry, Denial}
use Rattle.bsc_lines.specs.Lines.{entry_line}
use Rattle.bsc_journal.specs.Reading.{read_of}
use Rattle.bsc_journal.specs.Saying.{IsHubLine, IsLineOf}
use Rattle.bsc_journal.specs.Journals.{HaveLines, Tells, lines_from, lines_of}
use Rattle.bsc_journal.specs.Good.{SayAll}
use Rattle.bsc_journal.proofs.HubLines.{hub_first}
use Rattle.bsc_journal.proofs.ReadBack.{read_is, place_in as place_read}
use Rattle.bsc_journal.proofs.SaidOnce.{entry_first, no_digit}
use Rattle.bsc_audit.specs.Verdicts.{is_hub, places_of}
use Rattle.bsc_audit.specs.Hearing.{entry_lines, hub_lines, hubs_of}
use Rattle.bsc_audit.proofs.SortedOut.{count_hubs, is_kept, sorted_out}

-- ---- lines of entries begin with a digit, and hub lines don't

abbrev pub starts_with_digit : List ℕ → Bool
starts_with_digit [] = false
starts_with_digit (c ∷ l) = is_digit c

pub hub_starts : (l : List ℕ) (about : About) → IsHubLine l about → starts_with_digit l ≡ false
hub_starts [] about hub = refl
hub_starts (c ∷ l) about hub = false_from_ne_true (is_digit c) (λ h. (let no = no_digit c h in no.0 (hub_first c l about no.2 hub.line)))

pub entry_starts : (l : List ℕ) (place : ℕ) (e : Entry) → IsLineOf l place e → starts_with_digit l ≡ true
entry_starts l place e is = let d = entry_first l place e is in ap starts_with_digit d.2 ∙ d.3

-- how many lines pass a test
abbrev count : (List ℕ → Bool) → List (List ℕ) → ℕ
count t ls = count_by t ls

count_cons : (t : List ℕ → Bool) (l : List ℕ) (ls : List (List ℕ)) (b : Bool) → t l ≡ b → count t (l ∷ ls) ≡ cond b 1 0 + count t ls
count_cons t l ls b e = sum_by-cons (λ x. cond (t x) 1 0) l ls ∙ ap (λ (x : Bool). cond x 1 0 + count t ls) e

count_yes : (t : List ℕ → Bool) (l : List ℕ) (ls : List (List ℕ)) → t l ≡ true → count t (l ∷ ls) ≡ 1 + count t ls
count_yes t l ls e = count_cons t l ls true e

count_no : (t : List ℕ → Bool) (l : List ℕ) (ls : List (List ℕ)) → t l ≡ false → count t (l ∷ ls) ≡ count t ls
count_no t l ls e = count_cons t l ls false e ∙ zero-add (count t ls)

-- ---- hub lines

abbrev is_other : List ℕ → Bool
is_other l = not (starts_with_digit l)

hubs_other : (before : ℕ) (pieces : List (List ℕ)) (said : List JournalRecord) → SayAll before pieces said → count is_other (hub_lines pieces said) ≡ length (hubs_of said)
hubs_other before [] [] all = refl
hubs_other before [] (s ∷ said) all = absurd all
hubs_other before (p ∷ pieces) [] all = absurd all
hubs_other before (p ∷ pieces) (Hub about ∷ said) all =
    let here = count_yes is_other (line_in p) (hub_lines pieces said) (ap not (hub_starts (line_in p) about all.0.says)) in
    let more = hubs_other (before + length p) pieces said all.1 in
    omega (arith, here, more)
hubs_other before (p ∷ pieces) (AnEntry place e ∷ said) all = hubs_other (before + length p) pieces said all.1
hubs_other before (p ∷ pieces) (Denial ∷ said) all = hubs_other (before + length p) pieces said all.1

entries_other : (before : ℕ) (pieces : List (List ℕ)) (said : List JournalRecord) → SayAll before pieces said → count is_other (entry_lines pieces said) ≡ 0
entries_other before [] [] all = refl
entries_other before [] (s ∷ said) all = absurd all
entries_other before (p ∷ pieces) [] all = absurd all
entries_other before (p ∷ pieces) (Hub about ∷ said) all = entries_other (before + length p) pieces said all.1
entries_other before (p ∷ pieces) (AnEntry place e ∷ said) all =
    let here = count_no is_other (line_in p) (entry_lines pieces said) (ap not (entry_starts (line_in p) place e all.0.says)) in
    let more = entries_other (before + length p) pieces said all.1 in
    omega (arith, here, more)
entries_other before (p ∷ pieces) (Denial ∷ said) all = entries_other (before + length p) pieces said all.1

lines_other : (n : ℕ) (H : List Entry) → HaveLines n H → count is_other (lines_from n H) ≡ 0
lines_other n [] have = refl
lines_other n (e ∷ H) have =
    let here = count_no is_other (entry_line n e) (lines_from (n + 1) H) (ap not (entry_starts (entry_line n e) n e (record { line = refl; has = have.0 }))) in
    let more = lines_other (n + 1) H have.1 in
    omega (arith, here, more)

pub one_hub_said : (o : List ℕ) (about : About) (H : List Entry) (said : List JournalRecord) → Tells o about H → SayAll 0 (pieces_of o) said → count_by is_hub said ≡ 1
one_hub_said o about H said t all =
    let pieces = pieces_of o in
    let kept = filter is_kept (lines_of o) in
    let told = sum_by-IsPermutation (λ l. cond (is_other l) 1 0) kept (t.hub_line ∷ lines_from 0 H) t.lines in
    let parted = sum_by-IsPermutation (λ l. cond (is_other l) 1 0) kept (hub_lines pieces said ++ entry_lines pieces said) (sorted_out 0 pieces said all) in
    let sum = sum_by-append (λ l. cond (is_other l) 1 0) (hub_lines pieces said) (entry_lines pieces said) in
    let hubs = hubs_other 0 pieces said all in
    let none = entries_other 0 pieces said all in
    let hub = count_yes is_other t.hub_line (lines_from 0 H) (ap not (hub_starts t.hub_line about t.hub)) in
    let rest = lines_other 0 H t.entries in
    let counted = count_hubs said in
    omega (arith, told, parted, sum, hubs, none, hub, rest, counted)

-- ---- places

-- whether a line is that of an entry at place p
abbrev is_at : ℕ → List ℕ → Bool
is_at p l = starts_with_digit l && (place_read (read_of l) == p)

hub_at : (p : ℕ) (l : List ℕ) (about : About) → IsHubLine l about → is_at p l ≡ false
hub_at p l about hub = and_left (starts_with_digit l) (place_read (read_of l) == p) (hub_starts l about hub)

entry_at : (p : ℕ) (l : List ℕ) (place : ℕ) (e : Entry) → IsLineOf l place e → is_at p l ≡ (place == p)
entry_at p l place e is =
    ap (λ (b : Bool). b && (place_read (read_of l) == p)) (entry_starts l place e is)
    ∙ ap (λ (r : Option (ℕ × Entry)). place_read r == p) (read_is l place e is)

hubs_at : (p before : ℕ) (pieces : List (List ℕ)) (said : List JournalRecord) → SayAll before pieces said → count (is_at p) (hub_lines pieces said) ≡ 0
hubs_at p before [] [] all = refl
hubs_at p before [] (s ∷ said) all = absurd all
hubs_at p before (q ∷ pieces) [] all = absurd all
hubs_at p before (q ∷ pieces) (Hub about ∷ said) all =
    let here = count_no (is_at p) (line_in q) (hub_lines pieces said) (hub_at p (line_in q) about all.0.says) in
    let more = hubs_at p (before + length q) pieces said all.1 in
    omega (arith, here, more)
hubs_at p before (q ∷ pieces) (AnEntry place e ∷ said) all = hubs_at p (before + length q) pieces said all.1
hubs_at p before (q ∷ pieces) (Denial ∷ said) all = hubs_at p (before + length q) pieces said all.1

entries_at : (p before : ℕ) (pieces : List (List ℕ)) (said : List JournalRecord) → SayAll before pieces said → count (is_at p) (entry_lines pieces said) ≡ often p (places_of said)
entries_at p before [] [] all = refl
entries_at p before [] (s ∷ said) all = absurd all
entries_at p before (q ∷ pieces) [] all = absurd all
entries_at p before (q ∷ pieces) (Hub about ∷ said) all = entries_at p (before + length q) pieces said all.1
entries_at p before (q ∷ pieces) (AnEntry place e ∷ said) all =
    count_cons (is_at p) (line_in q) (entry_lines pieces said) (place == p) (entry_at p (line_in q) place e all.0.says)
    ∙ ap (λ (n : ℕ). cond (place == p) 1 0 + n) (entries_at p (before + length q) pieces said all.1)
    ∙ sym (sum_by-cons (λ x. cond (x == p) 1 0) place (places_of said))
entries_at p before (q ∷ pieces) (Denial ∷ said) all = entries_at p (before + length q) pieces said all.1

lines_at : (p n : ℕ) (H : List Entry) → HaveLines n H → count (is_at p) (lines_from n H) ≡ often p (range_with_len n (length H))
lines_at p n [] have = refl
lines_at p n (e ∷ H) have =
    count_cons (is_at p) (entry_line n e) (lines_from (n + 1) H) (n == p) (entry_at p (entry_line n e) n e (record { line = refl; has = have.0 }))
    ∙ ap (λ (m : ℕ). cond (n == p) 1 0 + m) (lines_at p (n + 1) H have.1)
    ∙ sym (sum_by-cons (λ x. cond (x == p) 1 0) n (range_with_len (n + 1) (length H)))

pub places_all : (o : List ℕ) (about : About) (H : List Entry) (said : List JournalRecord) → Tells o about H → SayAll 0 (pieces_of o) said → AreAll (places_of said) (length H)
places_all o about H said t all = λ p.
    let pieces = pieces_of o in
    let kept = filter is_kept (lines_of o) in
    let told = sum_by-IsPermutation (λ l. cond (is_at p l) 1 0) kept (t.hub_line ∷ lines_from 0 H) t.lines in
    let parted = sum_by-IsPermutation (λ l. cond (is_at p l) 1 0) kept (hub_lines pieces said ++ entry_lines pieces said) (sorted_out 0 pieces said all) in
    let sum = sum_by-append (λ l. cond (is_at p l) 1 0) (hub_lines pieces said) (entry_lines pieces said) in
    let hubs = hubs_at p 0 pieces said all in
    let entries = entries_at p 0 pieces said all in
    let hub = count_no (is_at p) t.hub_line (lines_from 0 H) (hub_at p t.hub_line about t.hub) in
    let lines = lines_at p 0 H t.entries in
    omega (arith, told, parted, sum, hubs, entries, hub, lines)
