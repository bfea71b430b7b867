-- What an audit of journals in files comes to: that of their lines taken together, where each file ends its last line. There is no
-- limit on octets.
use Rattle.std.specs.Prelude.{◌≡◌, ◌≢◌, ◌≤◌, ◌<◌, ◌+◌, ◌⊎◌, ℕ, nat_lt, min, List, [], ◌∷◌, ◌++◌, length, take, flat_map, IsTrue, IsPermutation, ⊤}
use Rattle.std.specs.List.{AllByRecursion, list_any}
use Rattle.bsc_history.specs.declared.entry.Entry.{Entry}
use Rattle.bsc_history.specs.declared.limits.About.{About}
use Rattle.bsc_history.specs.Legality.{Legal}
use Rattle.bsc_journal.specs.declared.journal_record.JournalRecord.{JournalRecord}
use Rattle.bsc_journal.specs.declared.journal_record.JournalRecord.TheVariants.{Hub, Entry as AnEntry, Denial}
use Rattle.bsc_journal.specs.Journals.{lines_of, most_in_line}
use Rattle.bsc_journal.specs.Saying.{Says}
use Rattle.bsc_audit.specs.Hearing.{hubs_of}
use Rattle.bsc_audit.specs.Places.Places.{IsLeastMissing, IsLeastTwice}
use Rattle.bsc_audit.specs.Verdicts.{places_of}
use Rattle.bsc_audit.specs.declared.files.bounds.TheConstants.{MOST_ENTRIES}
use Rattle.bsc_audit.specs.declared.files.files_end.FilesEnd.{FilesEnd}
use Rattle.bsc_audit.specs.declared.files.files_end.FilesEnd.TheVariants.{Legal as IsLegal, BadLine, Unsorted, Hubs, TooMany, Twice, Missing, Illegal, ReadFault, Changed, NoMemory}

-- ---- files whose lines are good

-- A line says this, and is no longer than a line may be.
pub record IsGoodLine (l : List ℕ) (s : JournalRecord) : Type 0 where
  pub says : Says l s
  pub short : length l ≤ most_in_line

-- Lines are good, and say these things, in order.
abbrev pub LinesSay : List (List ℕ) → List JournalRecord → Type 0
LinesSay [] [] = ⊤
LinesSay (l ∷ ls) (s ∷ said) = IsGoodLine l s × LinesSay ls said
LinesSay ls said = ⊥

-- None of these places is less than one before it.
abbrev pub AreRising : List ℕ → Type 0
AreRising [] = ⊤
AreRising (p ∷ ps) = AllByRecursion (λ q. p ≤ q) ps × AreRising ps

-- The lines of a file are good and say these things, and the places of its entries rise.
pub record FileSays (f : List ℕ) (said : List JournalRecord) : Type 0 where
  pub lines : LinesSay (lines_of f) said
  pub rising : AreRising (places_of said)

-- So it is with each of these files.
abbrev pub FilesSay : List (List ℕ) → List (List JournalRecord) → Type 0
FilesSay [] [] = ⊤
FilesSay (f ∷ fs) (said ∷ all) = FileSays f said × FilesSay fs all
FilesSay fs all = ⊥

-- what all files say
abbrev pub together : List (List JournalRecord) → List JournalRecord
together all = flat_map (λ said. said) all

-- ---- the history that files tell

-- an entry with its place
pub record Placed : Type 0 where
  pub place : ℕ
  pub entry : Entry

-- the entries among what lines say, each with its place
abbrev pub entries_of : List JournalRecord → List Placed
entries_of [] = []
entries_of (Hub about ∷ said) = entries_of said
entries_of (AnEntry place e ∷ said) = record { place = place; entry = e } ∷ entries_of said
entries_of (Denial ∷ said) = entries_of said

-- these entries, whose places go on from n
abbrev pub placed_from : ℕ → List Entry → List Placed
placed_from n [] = []
placed_from n (e ∷ H) = record { place = n; entry = e } ∷ placed_from (n + 1) H

-- the most entries that an audit of files takes
abbrev pub most_entries : ℕ
most_entries = MOST_ENTRIES

-- Files tell the history H of a hub: their lines say one hub, and each entry of H once, with its place in H, in any order.
pub record FilesTell (fs : List (List ℕ)) (about : About) (H : List Entry) : Type 0 where
  pub said : List (List JournalRecord)
  pub all : FilesSay fs said
  pub hub : hubs_of (together said) ≡ about ∷ []
  pub entries : IsPermutation (entries_of (together said)) (placed_from 0 H)

-- Files may be believed: they tell a legal history, of so many entries, and no more than an audit takes.
pub record FilesAudited (fs : List (List ℕ)) (entries : ℕ) : Type 0 where
  pub about : About
  pub history : List Entry
  pub tells : FilesTell fs about history
  pub few : length history ≤ most_entries
  pub count : entries ≡ length history
  pub legal : Legal about history

-- ---- a line that isn't taken

-- Line n of a file, counted from 1, is l: those before it are good and say these things, and the places among these rise.
pub record ComesTo (n : ℕ) (f l : List ℕ) (said : List JournalRecord) : Type 0 where
  pub good : List (List ℕ)
  pub rest : List (List ℕ)
  pub lines : lines_of f ≡ good ++ l ∷ rest
  pub number : n ≡ length good + 1
  pub says : LinesSay good said
  pub rising : AreRising (places_of said)

-- Line n of a file says nothing, or is too long; those before it are good.
pub record IsBadIn (n : ℕ) (f : List ℕ) : Type 0 where
  pub line : List ℕ
  pub said : List JournalRecord
  pub first : ComesTo n f line said
  pub bad : (s : JournalRecord) → IsGoodLine line s → ⊥

-- Line n of a file is that of an entry whose place is less than one before it in this file; those before it are good.
pub record IsUnsortedIn (n : ℕ) (f : List ℕ) : Type 0 where
  pub line : List ℕ
  pub said : List JournalRecord
  pub first : ComesTo n f line said
  pub place : ℕ
  pub entry : Entry
  pub says : IsGoodLine line (AnEntry place entry)
  pub less : IsTrue (list_any (λ p. nat_lt place p) (places_of said))

-- It is so with line n of file k, counted from 0, and the files before it are good.
pub record IsFirstFile (So : ℕ → List ℕ → Type 0) (k n : ℕ) (fs : List (List ℕ)) : Type 0 where
  pub before : List (List ℕ)
  pub file : List ℕ
  pub behind : List (List ℕ)
  pub said : List (List JournalRecord)
  pub parts : fs ≡ before ++ file ∷ behind
  pub number : k ≡ length before
  pub good : FilesSay before said
  pub so : So n file

-- ---- the verdict

-- All files are good, and there isn't one hub line but n. Numbers stop at the greatest u64.
pub record HaveHubs (n : ℕ) (fs : List (List ℕ)) : Type 0 where
  pub said : List (List JournalRecord)
  pub all : FilesSay fs said
  pub count : n ≡ min (length (hubs_of (together said))) 18446744073709551615
  pub other : length (hubs_of (together said)) ≢ 1

-- All files are good and say these things, with one hub among them.
pub record HaveOneHub (fs : List (List ℕ)) (said : List (List JournalRecord)) : Type 0 where
  pub all : FilesSay fs said
  pub one : length (hubs_of (together said)) ≡ 1

-- They have more entries than an audit takes.
pub record HaveTooMany (fs : List (List ℕ)) : Type 0 where
  pub said : List (List JournalRecord)
  pub hub : HaveOneHub fs said
  pub many : most_entries < length (entries_of (together said))

-- They have no more.
pub record HaveFew (fs : List (List ℕ)) (said : List (List JournalRecord)) : Type 0 where
  pub hub : HaveOneHub fs said
  pub few : length (entries_of (together said)) ≤ most_entries

-- Files tell a history of a hub: it is legal up to the entry before place p, and not with the one at p.
pub record IsLeastIllegalOf (p : ℕ) (fs : List (List ℕ)) : Type 0 where
  pub about : About
  pub history : List Entry
  pub tells : FilesTell fs about history
  pub few : length history ≤ most_entries
  pub place : p < length history
  pub before : Legal about (take p history)
  pub illegal : Legal about (take (p + 1) history) → ⊥

-- What an audit of these files comes to. Of several faults the first of this order is told: a line that is bad or stands out of
-- order in its file, whichever comes first; hub lines; too many entries; a place that stands twice, one that is missing, an entry
-- that isn't legal. A failed read and want of memory say nothing of the files. Files that have these octets, and keep them while
-- they are read, are never told to have changed.
abbrev pub FilesAuditTo : List (List ℕ) → FilesEnd → Type 0
FilesAuditTo fs (IsLegal entries files) = FilesAudited fs entries × (files ≡ length fs)
FilesAuditTo fs (BadLine file line) = IsFirstFile IsBadIn file line fs
FilesAuditTo fs (Unsorted file line) = IsFirstFile IsUnsortedIn file line fs
FilesAuditTo fs (Hubs lines) = HaveHubs lines fs
FilesAuditTo fs TooMany = HaveTooMany fs
FilesAuditTo fs (Twice place) = (said : List (List JournalRecord)) × HaveFew fs said × IsLeastTwice place (places_of (together said))
FilesAuditTo fs (Missing place) = (said : List (List JournalRecord)) × HaveFew fs said × IsLeastMissing place (places_of (together said))
FilesAuditTo fs (Illegal place) = IsLeastIllegalOf place fs
FilesAuditTo fs (ReadFault file) = ⊤
FilesAuditTo fs (Changed file) = ⊥
FilesAuditTo fs NoMemory = ⊤

-- ---- what is told of files that may be believed

-- An answer that says so, with so many entries and files, or one that says nothing of the files.
abbrev pub IsLegalOrFault : ℕ → ℕ → FilesEnd → Type 0
IsLegalOrFault entries files r = (r ≡ IsLegal entries files) ⊎ ((file : ℕ) × (r ≡ ReadFault file)) ⊎ (r ≡ NoMemory)
