-- How all lines of files are summed up, and how their entries are merged by place. The words are those of inner functions; a caller
-- needs none of them.
use Rattle.std.specs.Prelude.{◌≡◌, ◌≤◌, ◌<◌, ◌⊎◌, ◌==◌, ℕ, nat_lt, min, List, [], ◌∷◌, ◌++◌, length, take, drop, map, flat_map, if◌then◌else◌, Bool, false, Option, Some, None}
use Rattle.std.specs.Prelude.{IsPermutation, IsTrue, ⊤}
use Rattle.std.specs.List.{AllByRecursion, last_or, list_any}
use Rattle.std.specs.Ordering.{flip_args, nat_cmp, on, then_cmp}
use Rattle.std.specs.declared.cmp.Ordering.{Ordering}
use Rattle.bsc_history.specs.declared.entry.Entry.{Entry}
use Rattle.bsc_history.specs.declared.limits.About.{About}
use Rattle.bsc_history.specs.Legality.{Legal as IsLegalFor}
use Rattle.bsc_text.specs.Grammar.{is_digit}
use Rattle.bsc_legality.specs.declared.legality.Legality.{Legality}
use Rattle.bsc_legality.specs.Standing.{LegalityStands}
use Rattle.bsc_journal.specs.declared.journal_record.JournalRecord.{JournalRecord}
use Rattle.bsc_journal.specs.declared.journal_record.JournalRecord.TheVariants.{Hub, Entry as AnEntry, Denial}
use Rattle.bsc_journal.specs.Journals.{lines_of}
use Rattle.bsc_journal.specs.Reading.{read_of}
use Rattle.bsc_audit.specs.Hearing.{hubs_of}
use Rattle.bsc_audit.specs.Judging.{IsIllegalAt}
use Rattle.bsc_audit.specs.Pieces.{file_at}
use Rattle.bsc_audit.specs.Places.Walking.{repeated, skipped}
use Rattle.bsc_audit.specs.Together.{AreRising, FileSays, FilesSay, IsBadIn, IsUnsortedIn, LinesSay, Placed, entries_of, together}
use Rattle.bsc_audit.specs.Verdicts.{places_of}
use Rattle.bsc_audit.specs.declared.files.files_end.FilesEnd.{FilesEnd}
use Rattle.bsc_audit.specs.declared.files.files_end.FilesEnd.TheVariants.{Legal, BadLine, Unsorted, Hubs, TooMany, Twice, Missing, Illegal, ReadFault, Changed, NoMemory}
use Rattle.bsc_audit.specs.declared.files.head.Head.{Head}
use Rattle.bsc_audit.specs.declared.files.piece_reading.Stop.{Stop}
use Rattle.bsc_audit.specs.declared.files.piece_reading.Stop.TheVariants.{Bad, Failed, NoMemory as StopNoMemory}
use Rattle.bsc_audit.specs.declared.files.sums.Sums.{Sums}
use Rattle.bsc_audit.specs.declared.files.weighing.Weighing.{Weighing}

-- ---- what all lines say

-- What lines say is summed up so. Numbers stop at the greatest u64.
pub record SumsUp (sums : Sums) (said : List JournalRecord) : Type 0 where
  pub hubs : sums.hubs ≡ min (length (hubs_of said)) 18446744073709551615
  pub about : sums.about ≡ last_or None (hubs_of said)
  pub entries : sums.entries ≡ min (length (entries_of said)) 18446744073709551615

-- The lines of a file up to an offset are good: so many, which say these things. No place among these is past `last`, and each
-- number below `last` is less than one of them.
pub record HasChecked (f : List ℕ) (offset line last : ℕ) (said : List JournalRecord) : Type 0 where
  pub good : List (List ℕ)
  pub lines : lines_of f ≡ good ++ lines_of (drop offset f)
  pub count : line ≡ length good
  pub says : LinesSay good said
  pub rising : AreRising (places_of said)
  pub most : AllByRecursion (λ p. p ≤ last) (places_of said)
  pub least : (p : ℕ) → p < last → IsTrue (list_any (λ q. nat_lt p q) (places_of said))

-- Behind `last` the place of what a line says, where it says an entry, is no less, and comes last then.
abbrev pub GoesOn : ℕ → ℕ → JournalRecord → Type 0
GoesOn last next (Hub about) = next ≡ last
GoesOn last next (AnEntry place e) = (last ≤ place) × (next ≡ place)
GoesOn last next Denial = next ≡ last

-- What a line says is an entry of a place below `last`.
abbrev pub FallsBack : ℕ → JournalRecord → Type 0
FallsBack last (Hub about) = ⊥
FallsBack last (AnEntry place e) = place < last
FallsBack last Denial = ⊥

-- A file is good, and what it says is summed up behind what was said before.
pub record AddsFile (f : List ℕ) (before : List JournalRecord) (sums : Sums) : Type 0 where
  pub said : List JournalRecord
  pub says : FileSays f said
  pub sum : SumsUp sums (before ++ said)

-- Files are good, and what they say is summed up.
pub record AddsFiles (fs : List (List ℕ)) (sums : Sums) : Type 0 where
  pub said : List (List JournalRecord)
  pub says : FilesSay fs said
  pub sum : SumsUp sums (together said)

-- why an audit ends at a line of a file that isn't read
abbrev pub end_at : Stop → ℕ → ℕ → FilesEnd
end_at Bad file line = BadLine file line
end_at Failed file line = ReadFault file
end_at StopNoMemory file line = NoMemory

-- why it ends at one that was good before
abbrev pub end_in : Stop → ℕ → FilesEnd
end_in Bad file = Changed file
end_in Failed file = ReadFault file
end_in StopNoMemory file = NoMemory

-- An audit ends at a line of file k, whose octets are f.
abbrev pub StopsInFile : ℕ → List ℕ → FilesEnd → Type 0
StopsInFile k f (BadLine file line) = (file ≡ k) × IsBadIn line f
StopsInFile k f (Unsorted file line) = (file ≡ k) × IsUnsortedIn line f
StopsInFile k f (ReadFault file) = ⊤
StopsInFile k f NoMemory = ⊤
StopsInFile k f (Legal entries files) = ⊥
StopsInFile k f (Hubs lines) = ⊥
StopsInFile k f TooMany = ⊥
StopsInFile k f (Twice place) = ⊥
StopsInFile k f (Missing place) = ⊥
StopsInFile k f (Illegal place) = ⊥
StopsInFile k f (Changed file) = ⊥

-- An audit ends with nothing told of the files: a read failed, or memory ran out.
abbrev pub TellsNothing : FilesEnd → Type 0
TellsNothing (ReadFault file) = ⊤
TellsNothing NoMemory = ⊤
TellsNothing (BadLine file line) = ⊥
TellsNothing (Unsorted file line) = ⊥
TellsNothing (Legal entries files) = ⊥
TellsNothing (Hubs lines) = ⊥
TellsNothing TooMany = ⊥
TellsNothing (Twice place) = ⊥
TellsNothing (Missing place) = ⊥
TellsNothing (Illegal place) = ⊥
TellsNothing (Changed file) = ⊥

-- ---- the entries that are left

-- The order of heads: one of a lesser place is greater.
abbrev pub head_cmp : Head → Head → Ordering
head_cmp = then_cmp (flip_args (on (λ (h : Head). h.place) nat_cmp)) (then_cmp (on (λ (h : Head). h.file) nat_cmp) (on (λ (h : Head). h.at) nat_cmp))

-- whether a line begins with a digit
abbrev pub begins_with_digit : List ℕ → Bool
begins_with_digit [] = false
begins_with_digit (c ∷ l) = is_digit c

-- the entry that was read, where one was
abbrev pub placed_if : Option (ℕ × Entry) → List Placed
placed_if None = []
placed_if (Some x) = record { place = x.0; entry = x.1 } ∷ []

-- the entry of a line, where it has one
abbrev pub entry_in : List ℕ → List Placed
entry_in l = if begins_with_digit l then placed_if (read_of l) else []

-- the entries of a file from an offset on
abbrev pub entries_from : List ℕ → ℕ → List Placed
entries_from f offset = flat_map entry_in (lines_of (drop offset f))

-- the entries of a file that are left, where the next one is this
abbrev pub left_of : List (List ℕ) → Head → List Placed
left_of fs h = entries_from (file_at fs h.file) h.at

abbrev pub place_of : Placed → ℕ
place_of x = x.place

abbrev pub entry_of : Placed → Entry
entry_of x = x.entry

-- From where the next entry of a file stands, its lines are good, that entry's line comes first, and places rise.
pub record IsHeadOf (fs : List (List ℕ)) (h : Head) : Type 0 where
  pub entry : Entry
  pub said : List JournalRecord
  pub lines : LinesSay (lines_of (drop h.at (file_at fs h.file))) (AnEntry h.place entry ∷ said)
  pub rising : AreRising (places_of (AnEntry h.place entry ∷ said))

-- What is left of a file, where it is told whether an entry comes next.
abbrev pub HeadIs : List (List ℕ) → ℕ → ℕ → Option Head → Type 0
HeadIs fs file offset None = entries_from (file_at fs file) offset ≡ []
HeadIs fs file offset (Some h) = (left_of fs h ≡ entries_from (file_at fs file) offset) × IsHeadOf fs h

-- These are the heads of the first n files.
pub record AreHeads (fs : List (List ℕ)) (n : ℕ) (heads : List Head) : Type 0 where
  pub left : IsPermutation (flat_map (λ f. entries_from f 0) (take n fs)) (flat_map (left_of fs) heads)
  pub each : AllByRecursion (IsHeadOf fs) heads

-- What a line says has this place, or none.
abbrev pub HasPlace : ℕ → JournalRecord → Type 0
HasPlace p (Hub about) = ⊥
HasPlace p (AnEntry place e) = p ≡ place
HasPlace p Denial = ⊥

abbrev pub HasNoPlace : JournalRecord → Type 0
HasNoPlace (Hub about) = ⊤
HasNoPlace (AnEntry place e) = ⊥
HasNoPlace Denial = ⊤

-- What a line says is this entry, at some place.
abbrev pub HasEntry : Entry → JournalRecord → Type 0
HasEntry e (Hub about) = ⊥
HasEntry e (AnEntry place f) = e ≡ f
HasEntry e Denial = ⊥

-- Of what is left of a file the first is this entry, and the rest stands from an offset on.
pub record TakesEntry (fs : List (List ℕ)) (h : Head) (e : Entry) (next : ℕ) : Type 0 where
  pub first : left_of fs h ≡ record { place = h.place; entry = e } ∷ entries_from (file_at fs h.file) next
  pub said : List JournalRecord
  pub says : FileSays (drop next (file_at fs h.file)) said
  pub above : AllByRecursion (λ p. h.place ≤ p) (places_of said)

-- Of the entries of all files these were taken, in the order of their places, and those that are left stand behind them.
pub record AreMerged (fs : List (List ℕ)) (done : List Placed) (heads : List Head) : Type 0 where
  pub parts : IsPermutation (flat_map (λ f. entries_from f 0) fs) (done ++ flat_map (left_of fs) heads)
  pub each : AllByRecursion (IsHeadOf fs) heads
  pub rising : AreRising (map place_of done)
  pub behind : AllByRecursion (λ h. AllByRecursion (λ p. p ≤ h.place) (map place_of done)) heads

-- The same, where the head h is taken next, which is of no greater place than the others.
pub record TakesNext (fs : List (List ℕ)) (done : List Placed) (h : Head) (others : List Head) : Type 0 where
  pub merged : AreMerged fs done (h ∷ others)
  pub least : AllByRecursion (λ other. h.place ≤ other.place) others

-- ---- entries that are weighed

-- The entries H were judged: each is legal behind those before it, and a state stands for them; or the one at p is the first that isn't.
abbrev pub IsJudged : About → List Entry → Legality → Option ℕ → Type 0
IsJudged about H l None = LegalityStands l about H
IsJudged about H l (Some p) = IsIllegalAt p about H

-- What these entries come to, in this order.
pub record Weighs (w : Weighing) (about : About) (done : List Placed) : Type 0 where
  pub count : w.count ≡ length done
  pub last : w.last ≡ last_or None (map place_of done)
  pub twice : w.twice ≡ repeated (map place_of done)
  pub missing : w.missing ≡ skipped 0 (map place_of done)
  pub judged : w.missing ≡ None → IsJudged about (map entry_of done) w.legality w.illegal

-- One more entry was taken behind these, and all of them were weighed.
pub record MergesOn (fs : List (List ℕ)) (about : About) (done : List Placed) (heads : List Head) (w : Weighing) : Type 0 where
  pub entry : Placed
  pub merged : AreMerged fs (done ++ entry ∷ []) heads
  pub weighs : Weighs w about (done ++ entry ∷ [])

-- the first place that follows itself, with one more behind these
abbrev pub twice_then : Option ℕ → Option ℕ → ℕ → Option ℕ
twice_then (Some p) last place = Some p
twice_then None None place = None
twice_then None (Some p) place = if place == p then Some p else None

-- the first place that so many don't go on with, with one more behind these
abbrev pub missing_then : Option ℕ → ℕ → ℕ → Option ℕ
missing_then (Some p) count place = Some p
missing_then None count place = if place == count then None else Some count

-- What entries in the order of their places come to, which are all that so many files have.
abbrev pub WeighTo : About → List Placed → ℕ → FilesEnd → Type 0
WeighTo about done files (Twice p) = repeated (map place_of done) ≡ Some p
WeighTo about done files (Missing p) = (repeated (map place_of done) ≡ None) × (skipped 0 (map place_of done) ≡ Some p)
WeighTo about done files (Illegal p) =
    (repeated (map place_of done) ≡ None) × (skipped 0 (map place_of done) ≡ None) × IsIllegalAt p about (map entry_of done)
WeighTo about done files (Legal entries n) =
    (repeated (map place_of done) ≡ None) × (skipped 0 (map place_of done) ≡ None) × IsLegalFor about (map entry_of done)
    × (entries ≡ length done) × (n ≡ files)
WeighTo about done files (BadLine file line) = ⊥
WeighTo about done files (Unsorted file line) = ⊥
WeighTo about done files (Hubs lines) = ⊥
WeighTo about done files TooMany = ⊥
WeighTo about done files (ReadFault file) = ⊥
WeighTo about done files (Changed file) = ⊥
WeighTo about done files NoMemory = ⊥

-- The entries of all files come to this, in the order of their places.
pub record ComeTo (fs : List (List ℕ)) (about : About) (r : FilesEnd) : Type 0 where
  pub done : List Placed
  pub all : IsPermutation (flat_map (λ f. entries_from f 0) fs) done
  pub rising : AreRising (map place_of done)
  pub weigh : WeighTo about done (length fs) r

-- So they do, or nothing is told.
abbrev pub MergesTo : List (List ℕ) → About → FilesEnd → Type 0
MergesTo fs about r = TellsNothing r ⊎ ComeTo fs about r
