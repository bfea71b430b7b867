-- What the lines of a journal came to that were heard so far. The words are those of inner functions; a caller needs
-- none of them.
use Rattle.std.specs.Prelude.{◌≡◌, ◌≤◌, ◌+◌, ℕ, List, [], ◌∷◌, ◌++◌, length, take, drop, map, flat_map, None}
use Rattle.std.specs.List.{last_or}
use Rattle.bsc_history.specs.declared.entry.Entry.{Entry}
use Rattle.bsc_history.specs.declared.limits.About.{About}
use Rattle.bsc_text.specs.Lines.{line_in, pieces_of}
use Rattle.bsc_audit.specs.declared.places.spot.Spot.{Spot}
use Rattle.bsc_journal.specs.declared.journal_record.JournalRecord.{JournalRecord}
use Rattle.bsc_journal.specs.declared.journal_record.JournalRecord.TheVariants.{Hub, Entry as AnEntry, Denial}
use Rattle.bsc_journal.specs.Journals.{HaveLines, lines_from}
use Rattle.bsc_journal.specs.Good.{IsGood, SayAll}
use Rattle.bsc_audit.specs.declared.heard.Heard.{Heard}
use Rattle.bsc_audit.specs.Verdicts.{IsFirstBad, places_of}

-- ---- what lines say

-- the hubs of these, in order
abbrev pub hubs_of : List JournalRecord → List About
hubs_of [] = []
hubs_of (Hub about ∷ said) = about ∷ hubs_of said
hubs_of (AnEntry place e ∷ said) = hubs_of said
hubs_of (Denial ∷ said) = hubs_of said

-- the lines of those pieces that say a hub
abbrev pub hub_lines : List (List ℕ) → List JournalRecord → List (List ℕ)
hub_lines [] said = []
hub_lines (piece ∷ pieces) [] = []
hub_lines (piece ∷ pieces) (Hub about ∷ said) = line_in piece ∷ hub_lines pieces said
hub_lines (piece ∷ pieces) (AnEntry place e ∷ said) = hub_lines pieces said
hub_lines (piece ∷ pieces) (Denial ∷ said) = hub_lines pieces said

-- the lines of those that say an entry
abbrev pub entry_lines : List (List ℕ) → List JournalRecord → List (List ℕ)
entry_lines [] said = []
entry_lines (piece ∷ pieces) [] = []
entry_lines (piece ∷ pieces) (Hub about ∷ said) = entry_lines pieces said
entry_lines (piece ∷ pieces) (AnEntry place e ∷ said) = line_in piece ∷ entry_lines pieces said
entry_lines (piece ∷ pieces) (Denial ∷ said) = entry_lines pieces said

-- ---- where lines stand

-- the line that stands at a spot of these octets
abbrev pub line_at : List ℕ → Spot → List ℕ
line_at o s = drop s.start (take s.end o)

-- the octets from one place to another
abbrev pub part : List ℕ → ℕ → ℕ → List ℕ
part o from to = drop from (take to o)

-- the spot of an entry's line that stands from one place to another
abbrev pub spots_of : ℕ → ℕ → JournalRecord → List Spot
spots_of from to (Hub about) = []
spots_of from to (AnEntry place e) = record { place = place; start = from; end = to } ∷ []
spots_of from to Denial = []

-- ---- what was heard

-- What the next line says is added, which ends at `end`; the one after it begins at `next`.
pub record Adds (old new : Heard) (s : JournalRecord) (end next : ℕ) : Type 0 where
  pub at : new.at ≡ next
  pub lines : new.lines ≡ old.lines + 1
  pub hubs : new.hubs ≡ old.hubs + length (hubs_of (s ∷ []))
  pub about : new.about ≡ last_or old.about (hubs_of (s ∷ []))
  pub spots : new.spots.items ≡ old.spots.items ++ spots_of old.at end s

-- The next piece of these octets, which ends at `next`, is good, and what it says is added.
pub record HearsPiece (o : List ℕ) (old new : Heard) (next : ℕ) : Type 0 where
  pub s : JournalRecord
  pub good : IsGood old.at (part o old.at next) s
  pub adds : Adds old new s (old.at + length (line_in (part o old.at next))) next

-- What pieces came to: all of them are good, and this is what they say.
pub record Heeds (o : List ℕ) (h : Heard) (pieces : List (List ℕ)) (said : List JournalRecord) : Type 0 where
  pub all : SayAll 0 pieces said
  pub long : length (flat_map (λ piece. piece) pieces) ≡ h.at
  pub lines : h.lines ≡ length pieces
  pub hubs : h.hubs ≡ length (hubs_of said)
  pub about : h.about ≡ last_or None (hubs_of said)
  pub places : map (λ s. s.place) h.spots.items ≡ places_of said
  pub told : (more : List ℕ) → map (line_at (o ++ more)) h.spots.items ≡ entry_lines pieces said

-- The first pieces of these octets were heard, and the rest begins a new piece, whatever follows.
pub record HasHeard (o : List ℕ) (h : Heard) : Type 0 where
  pub pieces : List (List ℕ)
  pub said : List JournalRecord
  pub heeds : Heeds o h pieces said
  pub within : h.at ≤ length o
  pub cut : (more : List ℕ) → pieces_of (o ++ more) ≡ pieces ++ pieces_of (drop h.at o ++ more)

-- All pieces of these octets were heard.
pub record HasHeardAll (o : List ℕ) (h : Heard) : Type 0 where
  pub said : List JournalRecord
  pub heeds : Heeds o h (pieces_of o) said
  pub whole : h.at ≡ length o

-- Whatever follows these octets, line n is the first that is bad.
abbrev pub IsBadAnyhow : ℕ → List ℕ → Type 0
IsBadAnyhow n o = (more : List ℕ) → IsFirstBad n (o ++ more)

-- ---- entries in order

-- The lines at these spots are those of the history H, in order.
pub record AreInOrder (o : List ℕ) (spots : List Spot) (H : List Entry) : Type 0 where
  pub lines : map (line_at o) spots ≡ lines_from 0 H
  pub have : HaveLines 0 H
