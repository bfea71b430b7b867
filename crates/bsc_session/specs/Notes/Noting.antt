-- The note of what is handed in.
use Rattle.std.specs.Prelude.{ℕ}
use Rattle.bsc_history.specs.declared.entry.Entry.{Entry}
use Rattle.bsc_history.specs.declared.reply.Reply.TheVariants.{Joined as JoinedReply, Refused as RefusedReply}
use Rattle.bsc_desk.specs.Entries.{all_looks, all_reply, connect_entry, forward_entry, leave_entry, one_looks, one_reply, stop_entry}
use Rattle.bsc_session.specs.declared.notes.noted.Made.{Made}
use Rattle.bsc_session.specs.declared.notes.noted.Made.TheVariants.{Joined, Refused, One, All, Left, Stopped}
use Rattle.bsc_session.specs.declared.notes.noted.Noted.{Noted}
use Rattle.bsc_session.specs.declared.notes.noted.Noted.TheVariants.{Entry as EntryNoted, Denied}
use Rattle.bsc_session.specs.Notes.Notes.{Note, made, denied}

-- the entry of caller n that a call made
abbrev pub entry_of : ℕ → Made → Entry
entry_of n (Joined who conn replaced) = connect_entry n who (JoinedReply conn replaced)
entry_of n (Refused who refusal) = connect_entry n who (RefusedReply refusal)
entry_of n (One conn message said) = forward_entry n conn message.now (one_looks said) (one_reply said)
entry_of n (All conn message said) = forward_entry n conn message.now (all_looks said.now) (all_reply said.now)
entry_of n (Left conn empties gone) = leave_entry n conn empties gone
entry_of n (Stopped counts) = stop_entry n counts

-- The note that this is.
abbrev pub note_of : Noted → Note
note_of (EntryNoted at n m) = made at (entry_of n m)
note_of (Denied d) = denied d
