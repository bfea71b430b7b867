-- The talk of a session, its readings, its own entries and what it received, as a whole.
use Rattle.std.specs.Prelude.{List, map, None, Option, Some, [], length, ℕ, ◌++◌, ◌∷◌, ◌≡◌}
use Rattle.bsc_history.specs.declared.call.Call.TheVariants.{Leave}
use Rattle.bsc_history.specs.declared.ending.End.{End}
use Rattle.bsc_history.specs.declared.entry.Entry.{Entry}
use Rattle.bsc_history.specs.declared.reply.Reply.TheVariants.{Gone}
use Rattle.bsc_edge.specs.declared.fault.LinkFault.{LinkFault as Fault}
use Rattle.bsc_edge.specs.declared.fault.LinkFault.TheVariants.{Failed, NoMemory as NoMemoryFault}
use Rattle.bsc_edge.specs.declared.said.Said.{Said}
use Rattle.bsc_session.specs.declared.ended.Ended.{Ended}
use Rattle.bsc_session.specs.declared.why.Why.{Why}
use Rattle.bsc_session.specs.declared.why.Why.TheVariants.{EndedBy, JournalFault, LinkFault, NoMemory, Spent}
use Rattle.bsc_session.specs.Course.{SessionCourse, empties_of, end_of, entries_of, frames_of, notes_of, readings_of, talk_of}
use Rattle.bsc_session.specs.Notes.Notes.{HasLine, Note, made}
use Rattle.bsc_session.specs.Standings.{Terms}

-- The Leave of a session that had joined.
abbrev pub leaving : ℕ → Option ℕ → ℕ → ℕ → End → List Entry
leaving caller None taken empties e = []
leaving caller (Some c) taken empties e = record { caller = caller; call = Leave c taken empties; looks = []; reply = Gone e taken } ∷ []

-- An End that was met names the end of the session, unless the journal, the link, memory or the count of receives ends it.
abbrev pub named : Option End → Why → Why
named None why = why
named (Some e) JournalFault = JournalFault
named (Some e) LinkFault = LinkFault
named (Some e) NoMemory = NoMemory
named (Some e) Spent = Spent
named (Some e) why = EndedBy e

-- What is noted of a Leave: its entry, unless a line was lost before.
abbrev pub noted_leaving : Option Fault → ℕ → List Entry → List Note
noted_leaving None at left = map (made at) left
noted_leaving (Some fault) at left = []

-- why a line wasn't put: the first of two, where there is one
abbrev pub first_lost : Option Fault → Option Fault → Option Fault
first_lost None later = later
first_lost (Some fault) later = Some fault

-- A line that wasn't put names the end of the session before all else.
abbrev pub named_lost : Option Fault → Why → Why
named_lost None why = why
named_lost (Some Failed) why = JournalFault
named_lost (Some NoMemoryFault) why = NoMemory

-- The talk T, the readings R, the own entries E, the frames received and the end of a session on these terms: there is a
-- course such that ..
pub record Session (v : Terms) (T : List Said) (R : List ℕ) (E : List Entry) (frames : List (List ℕ)) (ended : Ended) : Type 0 where
  pub course : SessionCourse v
  -- .. the talk is what its turns say, and then its closing;
  pub talk : T ≡ talk_of course
  -- each turn has one reading;
  pub readings : R ≡ readings_of course
  -- the own entries are those of its turns, and then the Leave of a session that had joined, whose reply has the End that
  -- was met;
  pub reply : End
  pub entries : E ≡ entries_of course ++ leaving v.caller ended.conn ended.taken ended.empties reply
  pub replied : (c : ℕ) (e : End) → ended.conn ≡ Some c → (end_of course).ended ≡ Some e → reply ≡ e
  -- the Leave has a place in the history, and its line is put into the journal unless a line was lost before; why it
  -- wasn't put, where it wasn't;
  pub left_at : ℕ
  pub left_lost : Option Fault
  pub line : HasLine (noted_leaving course.stop.lost left_at (leaving v.caller ended.conn ended.taken ended.empties reply)) left_lost
  -- the frames of all turns are what was received, in order;
  pub received : frames ≡ frames_of course
  -- and the end says its cause, its connection, and how many frames, empty outboxes and receives there were.
  pub why : ended.why ≡ named_lost left_lost (named (end_of course).ended course.stop.why)
  pub conn : ended.conn ≡ (end_of course).conn
  pub taken : ended.taken ≡ length frames
  pub empties : ended.empties ≡ empties_of course
  pub made : ended.turns ≡ (end_of course).receives

-- What a session notes in the journal: what its turns do, and then its Leave.
abbrev pub leave_of : {v : Terms} {T : List Said} {R : List ℕ} {E : List Entry} {frames : List (List ℕ)} {ended : Ended}
    → Session v T R E frames ended → List Entry
leave_of {v} {T} {R} {E} {frames} {ended} x = leaving v.caller ended.conn ended.taken ended.empties x.reply

abbrev pub journal_of : {v : Terms} {T : List Said} {R : List ℕ} {E : List Entry} {frames : List (List ℕ)} {ended : Ended}
    → Session v T R E frames ended → List Note
journal_of x = notes_of x.course ++ noted_leaving x.course.stop.lost x.left_at (leave_of x)

-- Why a line of a session wasn't put, where one wasn't.
abbrev pub lost_of : {v : Terms} {T : List Said} {R : List ℕ} {E : List Entry} {frames : List (List ℕ)} {ended : Ended}
    → Session v T R E frames ended → Option Fault
lost_of x = first_lost x.course.stop.lost x.left_lost
