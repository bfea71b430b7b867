-- Where the next entry of a file stands, and what is left of the file.
-- It serves the clauses of `find_head` and `take_entry`.
use Rattle.std.proofs.Common.{◌≡◌, ℕ, List, [], ◌∷◌, ◌++◌, drop, flat_map, Some, refl, ap, sym, ◌∙◌, subst}
use Rattle.bsc_history.specs.declared.entry.Entry.{Entry}
use Rattle.bsc_journal.specs.declared.journal_record.JournalRecord.{JournalRecord}
use Rattle.bsc_journal.specs.declared.journal_record.JournalRecord.TheVariants.{Hub, Entry as AnEntry, Denial}
use Rattle.bsc_journal.specs.Journals.{lines_of}
use Rattle.bsc_journal.proofs.SaidOnce.{says_one}
use Rattle.bsc_audit.specs.declared.files.files_end.FilesEnd.TheVariants.{ReadFault}
use Rattle.bsc_audit.specs.declared.files.head.Head.{Head}
use Rattle.bsc_audit.specs.declared.files.piece_reading.Stop.{Stop}
use Rattle.bsc_audit.specs.declared.files.piece_reading.Stop.TheVariants.{Bad, Failed, NoMemory as StopNoMemory}
use Rattle.bsc_audit.specs.Merging.{HasEntry, HasNoPlace, HasPlace, HeadIs, IsHeadOf, TakesEntry, TellsNothing, end_in, entries_from, entry_in}
use Rattle.bsc_audit.specs.Pieces.{GivesBad, GivesLine, file_at}
use Rattle.bsc_audit.specs.Together.{AreRising, FileSays, IsGoodLine, LinesSay, Placed, entries_of}
use Rattle.bsc_audit.specs.Verdicts.{places_of}
use Rattle.bsc_audit.proofs.FileFacts.SaidLines.{said_in}

-- ---- errors

pub tells_nothing : (stop : Stop) (file : ℕ) → (stop ≡ Bad → ⊥) → TellsNothing (end_in stop file)
tells_nothing Bad file good = absurd (good refl)
tells_nothing Failed file good = tt
tells_nothing StopNoMemory file good = tt

pub fault_in : (stop : Stop) (file k : ℕ) (R : Type 0) → (stop ≡ Failed → R) → end_in stop file ≡ ReadFault k → R
fault_in Bad file k R rose e = cc
fault_in Failed file k R rose e = rose refl
fault_in StopNoMemory file k R rose e = cc

-- a good file has no bad line
pub no_bad : (f : List ℕ) (at : ℕ) (said : List JournalRecord) → FileSays (drop at f) said → GivesBad f at → ⊥
no_bad f at said says b = first (lines_of (drop at f)) b.line b.later said says.lines b.lines b.bad
  where
    first : (ls : List (List ℕ)) (l : List ℕ) (later : List (List ℕ)) (said : List JournalRecord) → LinesSay ls said → ls ≡ l ∷ later → ((s : JournalRecord) → IsGoodLine l s → ⊥) → ⊥
    first ls l later [] all e bad = subst (λ (x : List (List ℕ)). LinesSay x []) e all
    first ls l later (s ∷ said) all e bad = let now : LinesSay (l ∷ later) (s ∷ said) = subst (λ (x : List (List ℕ)). LinesSay x (s ∷ said)) e all in bad s now.0

-- ---- line by line

-- What is said of the lines behind the first.
pub record NextSays (f : List ℕ) (s : JournalRecord) (next : ℕ) (said : List JournalRecord) : Type 0 where
  pub rest : List JournalRecord
  pub parts : said ≡ s ∷ rest
  pub says : FileSays (drop next f) rest

rising_rest : (s : JournalRecord) (rest : List JournalRecord) → AreRising (places_of (s ∷ rest)) → AreRising (places_of rest)
rising_rest (Hub about) rest up = up
rising_rest (AnEntry place e) rest up = up.1
rising_rest Denial rest up = up

next_of : (f : List ℕ) (ls : List (List ℕ)) (l : List ℕ) (s : JournalRecord) (next : ℕ) (said : List JournalRecord) → LinesSay ls said → AreRising (places_of said) →
    ls ≡ l ∷ lines_of (drop next f) → IsGoodLine l s → NextSays f s next said
next_of f ls l s next [] all up e good = absurd (subst (λ (x : List (List ℕ)). LinesSay x []) e all)
next_of f ls l s next (t ∷ said) all up e good =
    let now : LinesSay (l ∷ lines_of (drop next f)) (t ∷ said) = subst (λ (x : List (List ℕ)). LinesSay x (t ∷ said)) e all in
    record {
      rest = said;
      parts = ap (λ (x : JournalRecord). x ∷ said) (says_one l t s now.0.says good.says);
      says = record { lines = now.1; rising = rising_rest t said up };
    }

pub next_says : (f : List ℕ) (at : ℕ) (s : JournalRecord) (next : ℕ) (said : List JournalRecord) → FileSays (drop at f) said → GivesLine f at s next → NextSays f s next said
next_says f at s next said says g = next_of f (lines_of (drop at f)) g.line s next said says.lines says.rising g.lines g.good

-- what is left of a file where its first line is read
pub left_then : (f : List ℕ) (at : ℕ) (s : JournalRecord) (next : ℕ) → GivesLine f at s next → entries_from f at ≡ entries_of (s ∷ []) ++ entries_from f next
left_then f at s next g = ap (λ (ls : List (List ℕ)). flat_map entry_in ls) g.lines ∙ ap (λ (l : List Placed). l ++ entries_from f next) (said_in g.line s g.good)

no_entries : (s : JournalRecord) → HasNoPlace s → entries_of (s ∷ []) ≡ []
no_entries (Hub about) none = refl
no_entries (AnEntry place e) none = absurd none
no_entries Denial none = refl

-- A file is read from an offset on, and has no entry up to another one.
pub record IsPassed (f : List ℕ) (from at : ℕ) : Type 0 where
  pub said : List JournalRecord
  pub says : FileSays (drop at f) said
  pub same : entries_from f at ≡ entries_from f from

pub passed_none : (f : List ℕ) (from : ℕ) (said : List JournalRecord) → FileSays (drop from f) said → IsPassed f from from
passed_none f from said says = record { said = said; says = says; same = refl }

pub passed_more : (f : List ℕ) (from at : ℕ) (s : JournalRecord) (next : ℕ) → IsPassed f from at → GivesLine f at s next → HasNoPlace s → IsPassed f from next
passed_more f from at s next p g none =
    let more = next_says f at s next p.said p.says g in
    record {
      said = more.rest;
      says = more.says;
      same = sym (left_then f at s next g ∙ ap (λ (l : List Placed). l ++ entries_from f next) (no_entries s none)) ∙ p.same;
    }

pub passed_all : (f : List ℕ) (from at : ℕ) → IsPassed f from at → drop at f ≡ [] → entries_from f from ≡ []
passed_all f from at p end = sym p.same ∙ ap (λ (x : List ℕ). flat_map entry_in (lines_of x)) end

head_at : (fs : List (List ℕ)) (h : Head) (s : JournalRecord) (next : ℕ) (said : List JournalRecord) → HasPlace h.place s → FileSays (drop h.at (file_at fs h.file)) said →
    GivesLine (file_at fs h.file) h.at s next → IsHeadOf fs h
head_at fs h (Hub about) next said has says g = absurd has
head_at fs h (AnEntry place e) next said has says g =
    let more = next_says (file_at fs h.file) h.at (AnEntry place e) next said says g in
    let is : said ≡ AnEntry h.place e ∷ more.rest = more.parts ∙ ap (λ (p : ℕ). AnEntry p e ∷ more.rest) (sym has) in
    record {
      entry = e;
      said = more.rest;
      lines = subst (λ (x : List JournalRecord). LinesSay (lines_of (drop h.at (file_at fs h.file))) x) is says.lines;
      rising = subst (λ (x : List JournalRecord). AreRising (places_of x)) is says.rising;
    }
head_at fs h Denial next said has says g = absurd has

pub found_head : (fs : List (List ℕ)) (h : Head) (file from : ℕ) (s : JournalRecord) (next : ℕ) → h.file ≡ file → HasPlace h.place s → IsPassed (file_at fs h.file) from h.at →
    GivesLine (file_at fs h.file) h.at s next → HeadIs fs file from (Some h)
found_head fs h file from s next is has p g =
    subst (λ (k : ℕ). HeadIs fs k from (Some h)) is (p.same, head_at fs h s next p.said has p.says g)

-- ---- the entry of a head

abbrev first_place : ℕ → List JournalRecord → ℕ
first_place p [] = p
first_place p (Hub about ∷ said) = p
first_place p (AnEntry place e ∷ said) = place
first_place p (Denial ∷ said) = p

abbrev behind_first : List JournalRecord → List JournalRecord → List JournalRecord
behind_first d [] = d
behind_first d (s ∷ said) = said

abbrev IsEntryFirst : List JournalRecord → Type 0
IsEntryFirst [] = ⊥
IsEntryFirst (Hub about ∷ said) = ⊥
IsEntryFirst (AnEntry place e ∷ said) = Unit {0}
IsEntryFirst (Denial ∷ said) = ⊥

pub takes_entry : (fs : List (List ℕ)) (h : Head) (s : JournalRecord) (e : Entry) (next : ℕ) → IsHeadOf fs h → GivesLine (file_at fs h.file) h.at s next → HasEntry e s → TakesEntry fs h e next
takes_entry fs h (Hub about) e next i g has = absurd has
takes_entry fs h (AnEntry place f) e next i g has =
    let file = file_at fs h.file in
    let more = next_says file h.at (AnEntry place f) next (AnEntry h.place i.entry ∷ i.said) (record { lines = i.lines; rising = i.rising }) g in
    let same : place ≡ h.place = sym (ap (first_place h.place) more.parts) in
    let rest : i.said ≡ more.rest = ap (behind_first i.said) more.parts in
    record {
      first = left_then file h.at (AnEntry place f) next g ∙ (λ k. record { place = same k; entry = sym has k } ∷ entries_from file next);
      said = i.said;
      says = subst (λ (x : List JournalRecord). FileSays (drop next file) x) (sym rest) more.says;
      above = i.rising.0;
    }
takes_entry fs h Denial e next i g has = absurd has

other : (s : JournalRecord) (all rest : List JournalRecord) → HasNoPlace s → all ≡ s ∷ rest → IsEntryFirst all → ⊥
other (Hub about) all rest none e so = subst IsEntryFirst e so
other (AnEntry place f) all rest none e so = none
other Denial all rest none e so = subst IsEntryFirst e so

-- where the file was at its end, or the line isn't an entry's, it is no head's
pub no_end : (fs : List (List ℕ)) (h : Head) → IsHeadOf fs h → drop h.at (file_at fs h.file) ≡ [] → ⊥
no_end fs h i end = subst (λ (x : List ℕ). LinesSay (lines_of x) (AnEntry h.place i.entry ∷ i.said)) end i.lines

pub no_other : (fs : List (List ℕ)) (h : Head) (s : JournalRecord) (next : ℕ) → IsHeadOf fs h → GivesLine (file_at fs h.file) h.at s next → HasNoPlace s → ⊥
no_other fs h s next i g none =
    let more = next_says (file_at fs h.file) h.at s next (AnEntry h.place i.entry ∷ i.said) (record { lines = i.lines; rising = i.rising }) g in
    other s (AnEntry h.place i.entry ∷ i.said) more.rest none more.parts tt
