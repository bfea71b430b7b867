-- Which lines are good, and what they say.
use Rattle.std.specs.Prelude.{◌≡◌, ◌+◌, ℕ, Bool, false, List, [], ◌∷◌, length, ⊤}
use Rattle.bsc_text.specs.Lines.{is_past, line_in}
use Rattle.bsc_journal.specs.declared.journal_record.JournalRecord.{JournalRecord}
use Rattle.bsc_journal.specs.Saying.{Says}
use Rattle.bsc_journal.specs.Journals.{most_in_line, most_octets}

-- whether a piece of a journal that stands after so many octets is too big: it is past the limits of a journal
abbrev pub is_too_big : ℕ → List ℕ → Bool
is_too_big before piece = is_past most_in_line most_octets before piece

-- A piece that stands after so many octets is good, and says this.
pub record IsGood (before : ℕ) (piece : List ℕ) (s : JournalRecord) : Type 0 where
  pub says : Says (line_in piece) s
  pub fits : is_too_big before piece ≡ false

-- Pieces that stand after so many octets are good, and say these things, in order.
abbrev pub SayAll : ℕ → List (List ℕ) → List JournalRecord → Type 0
SayAll before [] [] = ⊤
SayAll before (piece ∷ pieces) (s ∷ said) = IsGood before piece s × SayAll (before + length piece) pieces said
SayAll before pieces said = ⊥
