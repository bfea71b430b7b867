-- What good lines say: one thing each, with one more line, and their entries.
-- It serves clauses of functions of `files`.
use Rattle.std.proofs.Common.{◌≡◌, ℕ, zero, suc, ◌<◌, ◌==◌, nat_eq, codes, take, Bool, true, false, if◌then◌else◌, List, [], ◌∷◌, ◌++◌, length, map, flat_map, refl, ap}
use Rattle.std.proofs.Common.{sym, ◌∙◌, arith, append_assoc}
use Rattle.std.specs.Cmp.Lexicographic.{pointwise}
use Rattle.std.proofs.lemmas.Bool.{and_parts, eqb-true}
use Rattle.bsc_history.specs.declared.entry.Entry.{Entry}
use Rattle.bsc_history.specs.declared.limits.About.{About}
use Rattle.bsc_journal.specs.declared.journal_record.JournalRecord.{JournalRecord}
use Rattle.bsc_journal.specs.declared.journal_record.JournalRecord.TheVariants.{Hub, Entry as AnEntry, Denial}
use Rattle.bsc_journal.specs.Journals.{lines_of}
use Rattle.bsc_journal.specs.Reading.{read_of}
use Rattle.bsc_journal.specs.Saying.{IsHubLine, IsLineOf, is_denial}
use Rattle.bsc_journal.proofs.ReadBack.{read_is}
use Rattle.bsc_journal.proofs.SaidOnce.{says_one}
use Rattle.bsc_audit.specs.Merging.{begins_with_digit, entries_from, entry_in, place_of, placed_if}
use Rattle.bsc_audit.specs.Pieces.{file_at}
use Rattle.bsc_audit.specs.Together.{FileSays, FilesSay, IsGoodLine, LinesSay, Placed, entries_of, together}
use Rattle.bsc_audit.specs.Verdicts.{places_of}
use Rattle.bsc_audit.proofs.Counts.{entry_starts, hub_starts}

-- ---- one thing each

pub lines_one : (ls : List (List ℕ)) (a b : List JournalRecord) → LinesSay ls a → LinesSay ls b → a ≡ b
lines_one [] [] [] left right = refl
lines_one [] [] (s ∷ b) left right = absurd right
lines_one [] (s ∷ a) b left right = absurd left
lines_one (l ∷ ls) [] b left right = absurd left
lines_one (l ∷ ls) (s ∷ a) [] left right = absurd right
lines_one (l ∷ ls) (s ∷ a) (t ∷ b) left right = λ i. says_one l s t left.0.says right.0.says i ∷ lines_one ls a b left.1 right.1 i

pub files_one : (fs : List (List ℕ)) (a b : List (List JournalRecord)) → FilesSay fs a → FilesSay fs b → a ≡ b
files_one [] [] [] left right = refl
files_one [] [] (s ∷ b) left right = absurd right
files_one [] (s ∷ a) b left right = absurd left
files_one (f ∷ fs) [] b left right = absurd left
files_one (f ∷ fs) (s ∷ a) [] left right = absurd right
files_one (f ∷ fs) (s ∷ a) (t ∷ b) left right = λ i. lines_one (lines_of f) s t left.0.lines right.0.lines i ∷ files_one fs a b left.1 right.1 i

-- ---- one more

pub say_snoc : (ls : List (List ℕ)) (said : List JournalRecord) (l : List ℕ) (s : JournalRecord) → LinesSay ls said → IsGoodLine l s → LinesSay (ls ++ l ∷ []) (said ++ s ∷ [])
say_snoc [] [] l s all good = (good, tt)
say_snoc [] (t ∷ said) l s all good = absurd all
say_snoc (k ∷ ls) [] l s all good = absurd all
say_snoc (k ∷ ls) (t ∷ said) l s all good = (all.0, say_snoc ls said l s all.1 good)

pub files_snoc : (fs : List (List ℕ)) (all : List (List JournalRecord)) (f : List ℕ) (said : List JournalRecord) → FilesSay fs all → FileSays f said → FilesSay (fs ++ f ∷ []) (all ++ said ∷ [])
files_snoc [] [] f said so one = (one, tt)
files_snoc [] (t ∷ all) f said so one = absurd so
files_snoc (g ∷ fs) [] f said so one = absurd so
files_snoc (g ∷ fs) (t ∷ all) f said so one = (so.0, files_snoc fs all f said so.1 one)

pub together_snoc : (all : List (List JournalRecord)) (said : List JournalRecord) → together (all ++ said ∷ []) ≡ together all ++ said
together_snoc [] [] = refl
together_snoc [] (s ∷ said) = ap (λ (l : List JournalRecord). s ∷ l) (together_snoc [] said)
together_snoc (t ∷ all) said = ap (λ (l : List JournalRecord). t ++ l) (together_snoc all said) ∙ sym (append_assoc t (together all) said)

pub entries_append : (a b : List JournalRecord) → entries_of (a ++ b) ≡ entries_of a ++ entries_of b
entries_append [] b = refl
entries_append (Hub about ∷ a) b = entries_append a b
entries_append (AnEntry place e ∷ a) b = ap (λ (l : List Placed). record { place = place; entry = e } ∷ l) (entries_append a b)
entries_append (Denial ∷ a) b = entries_append a b

pub places_are : (said : List JournalRecord) → places_of said ≡ map place_of (entries_of said)
places_are [] = refl
places_are (Hub about ∷ said) = places_are said
places_are (AnEntry place e ∷ said) = ap (λ (l : List ℕ). place ∷ l) (places_are said)
places_are (Denial ∷ said) = places_are said

-- ---- the entries of lines

-- a line that begins with no digit has no entry
none_in : (l : List ℕ) (b : Bool) → begins_with_digit l ≡ b → b ≡ false → entry_in l ≡ []
none_in l b is not_so = ap (λ (x : Bool). if x then placed_if (read_of l) else []) (is ∙ not_so)

some_in : (l : List ℕ) (place : ℕ) (e : Entry) → IsLineOf l place e → entry_in l ≡ record { place = place; entry = e } ∷ []
some_in l place e is =
    ap (λ (x : Bool). if x then placed_if (read_of l) else []) (starts l place e is) ∙ ap placed_if (read_is l place e is)
  where
    starts : (l : List ℕ) (place : ℕ) (e : Entry) → IsLineOf l place e → begins_with_digit l ≡ true
    starts [] place e is = entry_starts [] place e is
    starts (c ∷ l) place e is = entry_starts (c ∷ l) place e is

hub_in : (l : List ℕ) (about : About) → IsHubLine l about → entry_in l ≡ []
hub_in [] about hub = refl
hub_in (c ∷ l) about hub = none_in (c ∷ l) false (hub_starts (c ∷ l) about hub) refl

denial_first : (l : List ℕ) → is_denial l ≡ true → (o : List ℕ) × (l ≡ 100 ∷ o)
denial_first [] h = cc
denial_first (c ∷ o) h = (o, ap (λ (x : ℕ). x ∷ o) (sym (eqb-true 100 c (and_parts (100 == c) (pointwise nat_eq (codes "eny") (take 3 o)) h).0)))

denial_in : (l : List ℕ) → is_denial l ≡ true → entry_in l ≡ []
denial_in l denied =
    let d = denial_first l denied in
    ap entry_in d.1 ∙ none_in (100 ∷ d.0) false refl refl

-- what a line says that isn't an entry
pub said_in : (l : List ℕ) (s : JournalRecord) → IsGoodLine l s → entry_in l ≡ entries_of (s ∷ [])
said_in l (Hub about) good = hub_in l about good.says
said_in l (AnEntry place e) good = some_in l place e good.says
said_in l Denial good = denial_in l good.says

one_more : (s : JournalRecord) (said : List JournalRecord) → entries_of (s ∷ said) ≡ entries_of (s ∷ []) ++ entries_of said
one_more s said = entries_append (s ∷ []) said

pub lines_entries : (ls : List (List ℕ)) (said : List JournalRecord) → LinesSay ls said → flat_map entry_in ls ≡ entries_of said
lines_entries [] [] all = refl
lines_entries [] (s ∷ said) all = absurd all
lines_entries (l ∷ ls) [] all = absurd all
lines_entries (l ∷ ls) (s ∷ said) all = (λ i. said_in l s all.0 i ++ lines_entries ls said all.1 i) ∙ sym (one_more s said)

pub files_entries : (fs : List (List ℕ)) (all : List (List JournalRecord)) → FilesSay fs all → flat_map (λ f. entries_from f 0) fs ≡ entries_of (together all)
files_entries [] [] so = refl
files_entries [] (s ∷ all) so = absurd so
files_entries (f ∷ fs) [] so = absurd so
files_entries (f ∷ fs) (said ∷ all) so =
    (λ i. lines_entries (lines_of f) said so.0.lines i ++ files_entries fs all so.1 i) ∙ sym (entries_append said (together all))

-- a file among good ones is good
pub file_among : (before : List (List ℕ)) (f : List ℕ) (behind : List (List ℕ)) (all : List (List JournalRecord)) → FilesSay (before ++ f ∷ behind) all →
    (said : List JournalRecord) × FileSays f said
file_among [] f behind [] so = absurd so
file_among [] f behind (said ∷ all) so = (said, so.0)
file_among (g ∷ before) f behind [] so = absurd so
file_among (g ∷ before) f behind (t ∷ all) so = file_among before f behind all so.1

-- file k of good files is good
pub file_there : (fs : List (List ℕ)) (all : List (List JournalRecord)) (k : ℕ) → k < length fs → FilesSay fs all → (said : List JournalRecord) × FileSays (file_at fs k) said
file_there [] all k within so = let no : ⊥ = omega (arith, within) in absurd no
file_there (f ∷ fs) [] k within so = absurd so
file_there (f ∷ fs) (said ∷ all) zero within so = (said, so.0)
file_there (f ∷ fs) (said ∷ all) (suc k) within so = file_there fs all k (omega (arith, within)) so.1

-- What good lines up to some say, and what the one behind them says.
pub record SaysThen (good : List (List ℕ)) (l : List ℕ) (rest : List (List ℕ)) (said : List JournalRecord) : Type 0 where
  pub before : List JournalRecord
  pub s : JournalRecord
  pub behind : List JournalRecord
  pub parts : said ≡ before ++ s ∷ behind
  pub says : LinesSay good before
  pub here : IsGoodLine l s

pub says_then : (good : List (List ℕ)) (l : List ℕ) (rest : List (List ℕ)) (said : List JournalRecord) → LinesSay (good ++ l ∷ rest) said → SaysThen good l rest said
says_then [] l rest [] all = absurd all
says_then [] l rest (s ∷ said) all = record { before = []; s = s; behind = said; parts = refl; says = tt; here = all.0 }
says_then (k ∷ good) l rest [] all = absurd all
says_then (k ∷ good) l rest (t ∷ said) all =
    let more = says_then good l rest said all.1 in
    record {
      before = t ∷ more.before;
      s = more.s;
      behind = more.behind;
      parts = ap (λ (x : List JournalRecord). t ∷ x) more.parts;
      says = (all.0, more.says);
      here = more.here;
    }
