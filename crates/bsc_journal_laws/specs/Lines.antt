-- Which notes have a line that an audit takes, and what the lines of notes are.
use Rattle.std.specs.Prelude.{◌≤◌, ◌+◌, ℕ, ◌==◌, Bool, not, ◌&&◌, List, length, IsTrue}
use Rattle.std.specs.List.{list_all}
use Rattle.bsc_history.specs.declared.call.Call.{Call}
use Rattle.bsc_history.specs.declared.call.Call.TheVariants.{Forward, Leave}
use Rattle.bsc_history.specs.declared.entry.Entry.{Entry}
use Rattle.bsc_history.specs.declared.reply.Reply.{Reply}
use Rattle.bsc_history.specs.declared.reply.Reply.TheVariants.{SentAll}
use Rattle.bsc_lines.specs.Denials.{denial_line}
use Rattle.bsc_lines.specs.Lines.{entry_line}
use Rattle.bsc_session.specs.Notes.Notes.{Note, denied, made}
use Rattle.bsc_session.specs.Notes.Octets.{CallHasOctets, DenialHasOctets}
use Rattle.bsc_journal.specs.Saying.{HasLine, is_short}

-- ---- lines

-- whether an octet isn't of the end of a line, and whether none of some is
abbrev pub is_inner : ℕ → Bool
is_inner c = not (c == 10) && not (c == 13)

abbrev pub is_clean : List ℕ → Bool
is_clean o = list_all is_inner o

-- A note has a line that an audit takes.
abbrev pub NoteHasLine : Note → Type 0
NoteHasLine (made at e) = HasLine at e
NoteHasLine (denied d) = DenialHasOctets d

-- The line of a note, without its end.
abbrev pub text_of : Note → List ℕ
text_of (made at e) = entry_line at e
text_of (denied d) = denial_line d

-- ---- entries

-- how often an outbox was found empty, by the Leave that says so
abbrev pub empties_in : Call → ℕ
empties_in (Leave conn taken empties) = empties
empties_in call = 0

-- What no history says of an entry can be said: the number of its caller and that of the empties have 1 to 19 digits, and the
-- octets of its call are octets. All else that a line needs is so of each entry of a legal history.
pub record CanBeSaid (e : Entry) : Type 0 where
  pub caller : IsTrue (is_short e.caller)
  pub empties : IsTrue (is_short (empties_in e.call))
  pub octets : CallHasOctets e.call

-- how many octets the frame of a call has, and how many connections a reply names
abbrev pub frame_size : Call → ℕ
frame_size (Forward conn frame) = length frame
frame_size call = 0

abbrev pub names_in : Reply → ℕ
names_in (SentAll to missed skipped) = length to + length missed + length skipped
names_in reply = 0

-- The frame of an entry has no more octets than a message may have.
abbrev pub FrameFits : Entry → Type 0
FrameFits e = frame_size e.call ≤ 65535

-- An entry is of a hub as it may be: its frame has no more octets than a message may have, it looks at no more outboxes than
-- a hub has rows, and each of the three lists of its reply names no more.
pub record IsSmall (e : Entry) : Type 0 where
  pub frame : frame_size e.call ≤ 65535
  pub looks : length e.looks ≤ 1024
  pub names : names_in e.reply ≤ 3072
