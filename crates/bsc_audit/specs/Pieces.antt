-- What a read of a file gives, and where its lines begin: the words of who reads files in pieces.
use Rattle.std.specs.Prelude.{◌≡◌, ◌<◌, ◌+◌, ℕ, List, [], ◌∷◌, ◌++◌, take, drop, get_or}
use Rattle.bsc_text.specs.Lines.{pieces_of}
use Rattle.bsc_journal.specs.declared.journal_record.JournalRecord.{JournalRecord}
use Rattle.bsc_journal.specs.Journals.{lines_of}
use Rattle.bsc_audit.specs.Together.{IsGoodLine}

-- the octets of file k, counted from 0; none, where there is no such file
abbrev pub file_at : List (List ℕ) → ℕ → List ℕ
file_at fs k = get_or fs k []

-- A read from an offset on gave these octets of a file, and none only at its end.
pub record GivesAt (f : List ℕ) (offset : ℕ) (got : List ℕ) : Type 0 where
  pub rest : List ℕ
  pub parts : drop offset f ≡ got ++ rest
  pub end : got ≡ [] → rest ≡ []

-- From an offset on a file begins with these octets.
pub record StandsAt (f : List ℕ) (offset : ℕ) (o : List ℕ) : Type 0 where
  pub rest : List ℕ
  pub parts : drop offset f ≡ o ++ rest

-- From an offset on a file has a piece, which is the first n of these octets; where n is none, it has no more.
pub record BeginsWith (f : List ℕ) (offset n : ℕ) (o : List ℕ) : Type 0 where
  pub none : n ≡ 0 → drop offset f ≡ []
  pub some : 0 < n → pieces_of (drop offset f) ≡ take n o ∷ pieces_of (drop (offset + n) f)

-- From an offset on the first line of a file is good and says this, and the one after it begins at `next`.
pub record GivesLine (f : List ℕ) (offset : ℕ) (s : JournalRecord) (next : ℕ) : Type 0 where
  pub line : List ℕ
  pub lines : lines_of (drop offset f) ≡ line ∷ lines_of (drop next f)
  pub good : IsGoodLine line s

-- From an offset on the first line of a file is bad.
pub record GivesBad (f : List ℕ) (offset : ℕ) : Type 0 where
  pub line : List ℕ
  pub later : List (List ℕ)
  pub lines : lines_of (drop offset f) ≡ line ∷ later
  pub bad : (s : JournalRecord) → IsGoodLine line s → ⊥
