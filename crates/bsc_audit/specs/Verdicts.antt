-- What an audit of octets comes to.
use Rattle.std.specs.Prelude.{◌≡◌, ◌≢◌, ◌<◌, ◌+◌, ◌⊎◌, ℕ, Bool, true, false, List, [], ◌∷◌, ◌++◌, length, take, flat_map, count_by, Option, Some, IsTrue, ⊤}
use Rattle.bsc_history.specs.declared.entry.Entry.{Entry}
use Rattle.bsc_history.specs.declared.limits.About.{About}
use Rattle.bsc_history.specs.Legality.{Legal}
use Rattle.bsc_text.specs.Lines.{pieces_of}
use Rattle.bsc_player.specs.Ends.{Taken}
use Rattle.bsc_audit.specs.Places.Places.{IsLeastMissing, IsLeastTwice}
use Rattle.bsc_audit.specs.declared.audit_end.AuditEnd.{AuditEnd}
use Rattle.bsc_audit.specs.declared.audit_end.AuditEnd.TheVariants.{Legal as IsLegal, BadLine, Hubs, Twice, Missing, Illegal, ReadFault, NoMemory}
use Rattle.bsc_journal.specs.declared.journal_record.JournalRecord.{JournalRecord}
use Rattle.bsc_journal.specs.declared.journal_record.JournalRecord.TheVariants.{Hub, Entry as AnEntry, Denial}
use Rattle.bsc_journal.specs.Journals.{Audited, Tells, is_within}
use Rattle.bsc_journal.specs.Good.{IsGood, SayAll}

-- ---- lines that are bad

-- Line n, counted from 1, is the first that is bad: those before it are good, and it says nothing or is too big.
pub record IsFirstBad (n : ℕ) (o : List ℕ) : Type 0 where
  pub good : List (List ℕ)
  pub bad : List ℕ
  pub rest : List (List ℕ)
  pub pieces : pieces_of o ≡ good ++ bad ∷ rest
  pub number : n ≡ length good + 1
  pub said : List JournalRecord
  pub before : SayAll 0 good said
  pub refused : (s : JournalRecord) → IsGood (length (flat_map (λ piece. piece) good)) bad s → ⊥

-- ---- hub lines and places

-- whether this is a hub
abbrev pub is_hub : JournalRecord → Bool
is_hub (Hub about) = true
is_hub (AnEntry place e) = false
is_hub Denial = false

-- the places of the entries among these, in order
abbrev pub places_of : List JournalRecord → List ℕ
places_of [] = []
places_of (Hub about ∷ said) = places_of said
places_of (AnEntry place e ∷ said) = place ∷ places_of said
places_of (Denial ∷ said) = places_of said

-- The octets tell a history of a hub: it is legal up to the entry before place p, and not with the one at p.
pub record IsLeastIllegal (p : ℕ) (o : List ℕ) : Type 0 where
  pub about : About
  pub history : List Entry
  pub tells : Tells o about history
  pub place : p < length history
  pub before : Legal about (take p history)
  pub illegal : Legal about (take (p + 1) history) → ⊥

-- ---- the verdict

-- All lines of the octets are good, and say these things, with one hub among them.
pub record SayOneHub (o : List ℕ) (said : List JournalRecord) : Type 0 where
  pub all : SayAll 0 (pieces_of o) said
  pub one : count_by is_hub said ≡ 1

-- There isn't one hub line but n.
pub record HasHubs (n : ℕ) (o : List ℕ) : Type 0 where
  pub said : List JournalRecord
  pub all : SayAll 0 (pieces_of o) said
  pub count : n ≡ count_by is_hub said
  pub other : n ≢ 1

-- What an audit of the octets o comes to. Of several faults the first of this order is told: a bad line, hub lines, a
-- place that stands twice, one that is missing, an entry that isn't legal. Want of memory and a failed read say nothing
-- of the octets.
abbrev pub AuditsTo : List ℕ → AuditEnd → Type 0
AuditsTo o (IsLegal entries) = Audited o entries
AuditsTo o (BadLine line) = IsFirstBad line o
AuditsTo o (Hubs lines) = HasHubs lines o
AuditsTo o (Twice place) = (said : List JournalRecord) × SayOneHub o said × IsLeastTwice place (places_of said)
AuditsTo o (Missing place) = (said : List JournalRecord) × SayOneHub o said × IsLeastMissing place (places_of said)
AuditsTo o (Illegal place) = IsTrue (is_within o) × IsLeastIllegal place o
AuditsTo o ReadFault = ⊤
AuditsTo o NoMemory = ⊤

-- ---- what was read for it

-- Line n of the octets o that a source had is the first that is bad, and what was read of o decides it: nothing is left,
-- or it is so whatever might follow.
pub record StopsAt (n : ℕ) (o : List ℕ) (left : Option (List ℕ)) : Type 0 where
  pub bad : IsFirstBad n o
  pub taken : Taken o left
  pub decided : (taken.rest ≡ []) ⊎ ((more : List ℕ) → IsFirstBad n (taken.read ++ more))

-- The octets o were read to their end, and come to this.
pub record ReadsAll (r : AuditEnd) (o : List ℕ) (left : Option (List ℕ)) : Type 0 where
  pub comes : AuditsTo o r
  pub read : left ≡ Some []

-- What an answer says of the octets o that a source had, and of those that it has left.
abbrev pub AnswersOf : AuditEnd → List ℕ → Option (List ℕ) → Type 0
AnswersOf (BadLine line) o left = StopsAt line o left
AnswersOf ReadFault o left = ⊤
AnswersOf NoMemory o left = ⊤
AnswersOf r o left = ReadsAll r o left

-- ---- what is told of journals that may be believed

-- An answer that says so, with so many entries, or one that says nothing of the octets.
abbrev pub IsLegalOrNothing : ℕ → AuditEnd → Type 0
IsLegalOrNothing n r = (r ≡ IsLegal n) ⊎ (r ≡ ReadFault) ⊎ (r ≡ NoMemory)

-- What an answer says of the octets o that a source had holds, and where they may be believed, it says so.
pub record Answers (r : AuditEnd) (o : List ℕ) (left : Option (List ℕ)) : Type 0 where
  pub tells : AnswersOf r o left
  pub legal : (entries : ℕ) → Audited o entries → IsLegalOrNothing entries r
