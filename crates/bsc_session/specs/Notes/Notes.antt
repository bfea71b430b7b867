-- What a caller of a hub notes, and what a journal holds of it.
use Rattle.std.specs.Prelude.{◌≤◌, ℕ, List, [], ◌∷◌, ◌++◌, take, length, Option, Some, None, ⊤}
use Rattle.std.specs.Io.KnownBytes.{Appends}
use Rattle.bsc_history.specs.declared.entry.Entry.{Entry}
use Rattle.bsc_lines.specs.declared.denial.Denial.{Denial}
use Rattle.bsc_lines.specs.Denials.{denial_line}
use Rattle.bsc_lines.specs.Lines.{entry_line}
use Rattle.bsc_edge.specs.declared.fault.LinkFault.{LinkFault}
use Rattle.bsc_session.specs.Notes.Octets.{CallHasOctets, DenialHasOctets}

-- A note: the entry that a call made, with its place in the history; or what a policy denied.
pub data Note : Type 0 where
  made : ℕ → Entry → Note
  denied : Denial → Note

-- the end of a line
abbrev pub line_feed : List ℕ
line_feed = 10 ∷ []

-- The line of a note, with its end.
abbrev pub line_of : Note → List ℕ
line_of (made at e) = entry_line at e ++ line_feed
line_of (denied d) = denial_line d ++ line_feed

-- The lines of notes, in order.
abbrev pub lines_of : List Note → List ℕ
lines_of [] = []
lines_of (n ∷ ns) = line_of n ++ lines_of ns

-- Where a line wasn't put, there is one: that of the last of these notes.
abbrev pub HasLine : List Note → Option LinkFault → Type 0
HasLine [] (Some fault) = ⊥
HasLine notes lost = ⊤

-- all but the last
abbrev pub all_but_last : List Note → List Note
all_but_last [] = []
all_but_last (n ∷ []) = []
all_but_last (n ∷ (m ∷ ns)) = n ∷ all_but_last (m ∷ ns)

-- What is held grew by a first part of the lines of these notes, which has the lines of all but the last.
abbrev pub RecordsPart : Option (List ℕ) → Option (List ℕ) → List Note → Type 0
RecordsPart old new notes =
    (n : ℕ) × (length (lines_of (all_but_last notes)) ≤ n) × (n ≤ length (lines_of notes)) × Appends old new (take n (lines_of notes))

-- The octets of a note are octets.
abbrev pub NoteHasOctets : Note → Type 0
NoteHasOctets (made at e) = CallHasOctets e.call
NoteHasOctets (denied d) = DenialHasOctets d

abbrev pub NotesHaveOctets : List Note → Type 0
NotesHaveOctets [] = ⊤
NotesHaveOctets (n ∷ ns) = NoteHasOctets n × NotesHaveOctets ns

-- What a journal holds grew by the lines of these notes, in order, where it is told; and where the last line wasn't put, by
-- a first part of them. And the octets of the notes are octets, so that their lines can be read back.
abbrev pub Records : Option (List ℕ) → Option (List ℕ) → List Note → Option LinkFault → Type 0
Records old new notes None = Appends old new (lines_of notes) × NotesHaveOctets notes
Records old new notes (Some fault) = RecordsPart old new notes × NotesHaveOctets notes
