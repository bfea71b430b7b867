-- Octets that tell a history are good lines, and say what they tell.
-- It serves the clauses of `audit_explained`.
use Rattle.std.proofs.Common.{◌≡◌, ℕ, ◌+◌, ◌≤◌, ◌==◌, Bool, true, false, cond, nat_le, nat_lt, List, [], ◌∷◌, ◌++◌, length, filter, map, refl, ap, ◌∙◌, subst, arith, length-append}
use Rattle.std.specs.List.{AllByRecursion, list_all}
use Rattle.std.proofs.lemmas.Bool.{and_parts, le-ltb, leb-true, not-false, or_from}
use Rattle.std.proofs.lemmas.List.Elements.{All-from_recursion, recursion_from_All}
use Rattle.std.proofs.lemmas.List.Sorted.{All-permutation, IsPermutation-sym}
use Rattle.bsc_history.specs.declared.entry.Entry.{Entry}
use Rattle.bsc_history.specs.declared.limits.About.{About}
use Rattle.bsc_text.specs.Lines.{in_front, line_in, pieces_of}
use Rattle.bsc_journal.specs.declared.journal_record.JournalRecord.{JournalRecord}
use Rattle.bsc_journal.specs.declared.journal_record.JournalRecord.TheVariants.{Hub, Entry as AnEntry, Denial}
use Rattle.bsc_journal.specs.Saying.{Says, is_denial}
use Rattle.bsc_journal.specs.Journals.{HaveLines, Tells, is_within, lines_from, lines_of, most_in_line, most_octets}
use Rattle.bsc_journal.specs.Good.{IsGood, SayAll}
use Rattle.bsc_audit.proofs.Snoc.{flat}
use Rattle.bsc_audit.proofs.SortedOut.{is_kept}
use Rattle.bsc_audit.proofs.Within.{is_short_line}

-- no octet is lost where octets are cut into pieces
flat_in_front : (c : ℕ) (ps : List (List ℕ)) → flat (in_front c ps) ≡ c ∷ flat ps
flat_in_front c [] = refl
flat_in_front c (p ∷ ps) = refl

by_lf : (b : Bool) (c : ℕ) (o : List ℕ) → flat (pieces_of o) ≡ o → flat (cond b ((c ∷ []) ∷ pieces_of o) (in_front c (pieces_of o))) ≡ c ∷ o
by_lf true c o h = ap (λ (x : List ℕ). c ∷ x) h
by_lf false c o h = flat_in_front c (pieces_of o) ∙ ap (λ (x : List ℕ). c ∷ x) h

pub flat_pieces : (o : List ℕ) → flat (pieces_of o) ≡ o
flat_pieces [] = refl
flat_pieces (c ∷ o) = by_lf (c == 10) c o (flat_pieces o)

-- A line says something.
pub record SaysSome (l : List ℕ) : Type 0 where
  pub s : JournalRecord
  pub says : Says l s

entries_say : (n : ℕ) (H : List Entry) → HaveLines n H → AllByRecursion SaysSome (lines_from n H)
entries_say n [] have = tt
entries_say n (e ∷ H) have = (record { s = AnEntry n e; says = record { line = refl; has = have.0 } }, entries_say (n + 1) H have.1)

-- what is passed over says so
unkept : (b : Bool) (l : List ℕ) (ls : List (List ℕ)) → is_kept l ≡ b → AllByRecursion SaysSome (cond b (l ∷ filter is_kept ls) (filter is_kept ls)) →
    (AllByRecursion SaysSome (filter is_kept ls) → AllByRecursion SaysSome ls) → AllByRecursion SaysSome (l ∷ ls)
unkept true l ls e all more = (all.0, more all.1)
unkept false l ls e all more = (record { s = Denial; says = not-false (is_denial l) e }, more all)

all_say : (ls : List (List ℕ)) → AllByRecursion SaysSome (filter is_kept ls) → AllByRecursion SaysSome ls
all_say [] all = tt
all_say (l ∷ ls) all = unkept (is_kept l) l ls refl all (all_say ls)

lines_say : (o : List ℕ) (about : About) (H : List Entry) → Tells o about H → AllByRecursion SaysSome (lines_of o)
lines_say o about H t =
    let kept = filter is_kept (lines_of o) in
    let told = t.hub_line ∷ lines_from 0 H in
    let says : AllByRecursion SaysSome told = (record { s = Hub about; says = t.hub }, entries_say 0 H t.entries) in
    all_say (lines_of o) (recursion_from_All SaysSome kept (All-permutation SaysSome told kept (IsPermutation-sym kept told t.lines) (All-from_recursion SaysSome told says)))

-- Pieces say these things, and are good.
pub record SayThese (before : ℕ) (pieces : List (List ℕ)) : Type 0 where
  pub said : List JournalRecord
  pub all : SayAll before pieces said

say_these : (before : ℕ) (pieces : List (List ℕ)) → AllByRecursion SaysSome (map line_in pieces) → list_all is_short_line (map line_in pieces) ≡ true
    → before + length (flat pieces) ≤ most_octets → SayThese before pieces
say_these before [] says short few = record { said = []; all = tt }
say_these before (p ∷ pieces) says short few =
    let long = length-append p (flat pieces) in
    let parts = and_parts (is_short_line (line_in p)) (list_all is_short_line (map line_in pieces)) short in
    let more = say_these (before + length p) pieces says.1 parts.1 (omega (arith, few, long)) in
    let fits = or_from (nat_lt most_in_line (length (line_in p))) (nat_lt most_octets (before + length p))
    (le-ltb most_in_line (length (line_in p)) (leb-true (length (line_in p)) most_in_line parts.0))
    (le-ltb most_octets (before + length p) (omega (arith, few, long))) in
    record { said = says.0.s ∷ more.said; all = (record { says = says.0.says; fits = fits }, more.all) }

-- Octets within the limits that tell a history are good lines.
pub telling_says : (o : List ℕ) (about : About) (H : List Entry) → is_within o ≡ true → Tells o about H → SayThese 0 (pieces_of o)
telling_says o about H within t =
    let parts = and_parts (nat_le (length o) most_octets) (list_all is_short_line (lines_of o)) within in
    let few = leb-true (length o) most_octets parts.0 in
    let long : length (flat (pieces_of o)) ≡ length o = ap length (flat_pieces o) in
    say_these 0 (pieces_of o) (lines_say o about H t) parts.1 (omega (arith, few, long))

-- a piece among good ones is good
pub say_at : (before : ℕ) (good : List (List ℕ)) (bad : List ℕ) (rest : List (List ℕ)) (said : List JournalRecord) → SayAll before (good ++ bad ∷ rest) said → (s : JournalRecord)
    × IsGood (before + length (flat good)) bad s
say_at before [] bad rest [] all = absurd all
say_at before [] bad rest (s ∷ said) all = (s, subst (λ (n : ℕ). IsGood n bad s) (let same : before ≡ before + 0 = omega arith in same) all.0)
say_at before (p ∷ good) bad rest [] all = absurd all
say_at before (p ∷ good) bad rest (t ∷ said) all =
    let more = say_at (before + length p) good bad rest said all.1 in
    let long = length-append p (flat good) in
    (more.0, subst (λ (n : ℕ). IsGood n bad more.0) (let same : (before + length p) + length (flat good) ≡ before + length (p ++ flat good) = omega (arith, long) in same) more.1)
