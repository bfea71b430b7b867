-- The laws of notes, of their lines and of files.
use Rattle.std.specs.Prelude.{◌≡◌, ◌≤◌, ℕ, true, List, [], ◌∷◌, ◌++◌, flat_map, length, map, None, IsPermutation, IsTrue}
use Rattle.std.specs.List.{AllByRecursion}
use Rattle.bsc_history.specs.declared.entry.Entry.{Entry}
use Rattle.bsc_history.specs.declared.limits.About.{About}
use Rattle.bsc_history.specs.Entries.{own}
use Rattle.bsc_history.specs.Laws.{Apart}
use Rattle.bsc_history.specs.Legality.{Legal}
use Rattle.bsc_turn.specs.Callers.{has}
use Rattle.bsc_edge.specs.declared.said.Said.{Said}
use Rattle.bsc_lines.specs.Lines.{entry_line}
use Rattle.bsc_session.specs.Notes.Notes.{Note, lines_of as octets_of}
use Rattle.bsc_session.specs.declared.ended.Ended.{Ended}
use Rattle.bsc_session.specs.Serving.{AllStand, RiseWithin}
use Rattle.bsc_session.specs.Standings.{Terms}
use Rattle.bsc_session.specs.Talk.{Session, journal_of, lost_of}
use Rattle.bsc_journal.specs.Journals.{Audited, HaveLines, most_in_line, most_octets}
use Rattle.bsc_journal.specs.Saying.{HasLine, IsHubLine}
use Rattle.bsc_audit_laws.specs.Laws.{EndsWithLine}
use Rattle.bsc_journal_laws.specs.Lines.{CanBeSaid, FrameFits, IsSmall, NoteHasLine, is_clean}
use Rattle.bsc_journal_laws.specs.Placing.{entries_in, own_placed, placed_from, told_by}

-- ---- notes

-- What a session notes are its own entries, in order, where no line was lost.
abbrev pub NotesAreEntries : Type 0
NotesAreEntries = (v : Terms) (T : List Said) (R : List ℕ) (E : List Entry) (frames : List (List ℕ)) (ended : Ended)
    → (x : Session v T R E frames ended) → lost_of x ≡ None → entries_in (told_by (journal_of x)) ≡ E

-- Notes of all own entries of a caller, at places that rise, are those entries with their places in the history.
abbrev pub NotesArePlaced : Type 0
NotesArePlaced = (H : List Entry) (n from to : ℕ) (notes : List Note) → AllStand H notes → RiseWithin from to notes
    → entries_in (told_by notes) ≡ own H n → told_by notes ≡ own_placed H n

-- Callers that are apart, and of which each entry has one, have all entries of a history among them, each once and at its place.
abbrev pub PlacesAreShared : Type 0
PlacesAreShared = (H : List Entry) (callers : List ℕ) → Apart (λ (n : ℕ). n) callers → AllByRecursion (λ (e : Entry). has callers e.caller ≡ true) H
    → IsPermutation (flat_map (own_placed H) callers) (placed_from 0 H)

-- ---- lines

-- The line of an entry that has one is no longer than an audit takes.
abbrev pub LinesFit : Type 0
LinesFit = (place : ℕ) (e : Entry) → HasLine place e → IsSmall e → length (entry_line place e) ≤ most_in_line

-- Of a legal history of a hub with no more rows than there may be each entry is small, if its frame is.
abbrev pub LegalIsSmall : Type 0
LegalIsSmall = (a : About) (H : List Entry) → Legal a H → a.limits.rows ≤ 1024 → AllByRecursion FrameFits H → AllByRecursion IsSmall H

-- Each entry of a legal history of such a hub has a line, if it can be said and there are no more entries than octets in journals.
abbrev pub LegalHasLines : Type 0
LegalHasLines = (a : About) (H : List Entry) → Legal a H → a.limits.rows ≤ 1024 → length H ≤ most_octets → AllByRecursion CanBeSaid H → HaveLines 0 H

-- ---- files

-- Octets, one run after another.
abbrev pub put_together : List (List ℕ) → List ℕ
put_together fs = flat_map (λ (o : List ℕ). o) fs

-- Journals that are whole lines may be read in any order.
abbrev pub FilesInAnyOrder : Type 0
FilesInAnyOrder = (fs gs : List (List ℕ)) (n : ℕ) → AllByRecursion EndsWithLine fs → IsPermutation fs gs → Audited (put_together fs) n → Audited (put_together gs) n

-- What a caller noted.
pub record CallersNotes : Type 0 where
  pub caller : ℕ
  pub notes : List Note

-- These are the journals of callers of a hub with the history H: each tells the own entries of its caller, with their places, and each
-- of its notes has a line that an audit takes.
abbrev pub AreJournals : List Entry → List CallersNotes → Type 0
AreJournals H js = AllByRecursion (λ (j : CallersNotes). (told_by j.notes ≡ own_placed H j.caller) × AllByRecursion NoteHasLine j.notes) js

abbrev pub callers_in : List CallersNotes → List ℕ
callers_in js = map (λ (j : CallersNotes). j.caller) js

-- the octets of what a caller noted
abbrev pub octets_noted : CallersNotes → List ℕ
octets_noted j = octets_of j.notes

-- octets behind one line
abbrev pub begun_by : List ℕ → List ℕ → List ℕ
begun_by l o = (l ++ 10 ∷ []) ++ o

-- The files of a hub: that of its own caller, which has the hub line first, and those of the other callers.
abbrev pub files_of : List ℕ → List Note → List CallersNotes → List (List ℕ)
files_of l own js = begun_by l (octets_of own) ∷ map octets_noted js

-- The journals of all callers of a hub tell its history, whoever made which entry: callers that are apart, of which each entry has one.
-- Where they have no more octets than an audit takes, and the history is legal, they may be believed, in any order.
abbrev pub JournalsAudit : Type 0
JournalsAudit = (about : About) (H : List Entry) (l : List ℕ) (n : ℕ) (own : List Note) (js : List CallersNotes) (gs : List (List ℕ))
    → IsHubLine l about → IsTrue (is_clean l) → Legal about H → HaveLines 0 H
    → AreJournals H (record { caller = n; notes = own } ∷ js)
    → Apart (λ (m : ℕ). m) (n ∷ callers_in js) → AllByRecursion (λ (e : Entry). has (n ∷ callers_in js) e.caller ≡ true) H
    → IsPermutation (files_of l own js) gs → length l ≤ most_in_line → AllByRecursion IsSmall H → length (put_together gs) ≤ most_octets
    → Audited (put_together gs) (length H)
