-- The entry that a call of the desk adds, by its answer, with the mark that a history keeps.
use Rattle.std.specs.Prelude.{◌≡◌, ℕ, nat_le, Bool, true, false, if◌then◌else◌, List, [], ◌∷◌, length, Option, Some, None, Result, Ok, Err, ⊤}
use Rattle.bsc_octets.specs.declared.identity.Identity.{Identity}
use Rattle.bsc_history.specs.declared.limits.About.{About}
use Rattle.bsc_history.specs.declared.call.Call.TheVariants.{Connect, Forward, Leave, Stop, Count}
use Rattle.bsc_history.specs.declared.ending.End.{End}
use Rattle.bsc_history.specs.declared.entry.Entry.{Entry}
use Rattle.bsc_history.specs.declared.looks.Look.{Look}
use Rattle.bsc_history.specs.declared.mark.Mark.{Mark}
use Rattle.bsc_history.specs.declared.mark.Stamped.{Stamped}
use Rattle.bsc_history.specs.declared.reply.Reply.{Reply}
use Rattle.bsc_history.specs.declared.reply.Reply.TheVariants.{Joined, Refused, Appended, Closed, Skipped, NoHolder, NotCurrent, Stopped}
use Rattle.bsc_history.specs.declared.reply.Reply.TheVariants.{SentAll, Gone as GoneReply, Counted}
use Rattle.bsc_history.specs.declared.counts.Counts.{Counts}
use Rattle.bsc_history.specs.declared.told.Worn.{Worn}
use Rattle.bsc_history.specs.declared.told.AlreadyStopped.{AlreadyStopped}
use Rattle.bsc_history.specs.Replies.{connect_reply}
use Rattle.bsc_ring.specs.declared.ends.Inlet.{Inlet}
use Rattle.bsc_desk.specs.declared.connecting.NewRow.{NewRow}
use Rattle.bsc_desk.specs.declared.connecting.NoRow.{NoRow}
use Rattle.bsc_desk.specs.declared.connecting.NoRow.TheVariants.{Worn as NoRowWorn, Refused as NoRowRefused}
use Rattle.bsc_desk.specs.declared.forwarding.OneReply.{OneReply}
use Rattle.bsc_desk.specs.declared.forwarding.OneReply.TheVariants.{Appended as OneAppended, Closed as OneClosed, Skipped as OneSkipped}
use Rattle.bsc_desk.specs.declared.forwarding.OneReply.TheVariants.{NoHolder as OneNoHolder, NotCurrent as OneNotCurrent}
use Rattle.bsc_desk.specs.declared.forwarding.OneReply.TheVariants.{Stopped as OneStopped}
use Rattle.bsc_desk.specs.declared.broadcasting.AllReply.{AllReply}
use Rattle.bsc_desk.specs.declared.broadcasting.AllReply.TheVariants.{Sent as AllSent, NotCurrent as AllNotCurrent, Stopped as AllStopped}
use Rattle.bsc_desk.specs.declared.broadcasting.AllRefusal.{AllRefusal}
use Rattle.bsc_desk.specs.declared.broadcasting.AllRefusal.TheVariants.{Worn as AllWorn, NoMemory as AllNoMemory}
use Rattle.bsc_desk.specs.declared.leaving.Gone.{Gone}

-- an entry with no mark
abbrev pub plain : Entry → Stamped
plain e = record { entry = e; mark = None }

-- the entry of a connect, and of a forward
abbrev pub connect_entry : ℕ → Identity → Reply → Entry
connect_entry caller who reply = record { caller = caller; call = Connect who; looks = []; reply = reply }

abbrev pub forward_entry : ℕ → ℕ → List ℕ → List Look → Reply → Entry
forward_entry caller conn message looks reply = record { caller = caller; call = Forward conn message; looks = looks; reply = reply }

-- the reply that a connect's answer says, None where it was worn
abbrev pub said_by_no_row : NoRow → Option Reply
said_by_no_row (NoRowWorn worn) = None
said_by_no_row (NoRowRefused refusal) = Some (Refused refusal)

abbrev pub connect_said : Result NewRow (NoRow × Inlet) → Option Reply
connect_said (Ok row) = Some (Joined row.conn row.replaced)
connect_said (Err refused) = said_by_no_row refused.0

-- a connect that was worn says how many calls the hub may make
abbrev pub SaysLimit : NoRow → ℕ → Type 0
SaysLimit (NoRowWorn worn) calls = worn.calls ≡ calls
SaysLimit (NoRowRefused refusal) calls = ⊤

-- the reply that a connect is due after H, None where it is worn
abbrev pub connect_due : About → List Entry → Identity → Option Reply
connect_due a H who = if nat_le a.limits.calls (length H) then None else Some (connect_reply a H who)

-- the mark that is kept with a connect's entry: that of the inlet handed in, where it joined
abbrev pub mark_by : Mark → Reply → Option Mark
mark_by m (Joined conn replaced) = Some m
mark_by m reply = None

abbrev pub connect_stamped : ℕ → Identity → Mark → Reply → Stamped
connect_stamped caller who m reply = record { entry = connect_entry caller who reply; mark = mark_by m reply }

-- the entries that a connect adds, one or none
abbrev pub connect_adds : ℕ → Identity → Mark → Option Reply → List Stamped
connect_adds caller who m None = []
connect_adds caller who m (Some reply) = connect_stamped caller who m reply ∷ []

-- the reply that a unicast's answer says, and the looks that it made
abbrev pub one_reply : OneReply → Reply
one_reply (OneAppended look) = Appended look.conn
one_reply (OneClosed look) = Closed look.conn
one_reply (OneSkipped conn) = Skipped conn
one_reply OneNoHolder = NoHolder
one_reply (OneNotCurrent ending) = NotCurrent ending
one_reply OneStopped = Stopped

abbrev pub one_looks : OneReply → List Look
one_looks (OneAppended look) = look ∷ []
one_looks (OneClosed look) = look ∷ []
one_looks r = []

-- the entries that a unicast adds, one or none
abbrev pub one_adds : ℕ → ℕ → List ℕ → Result OneReply Worn → List Stamped
one_adds caller conn message (Ok r) = plain (forward_entry caller conn message (one_looks r) (one_reply r)) ∷ []
one_adds caller conn message (Err worn) = []

-- the reply of a leave's answer
abbrev pub gone_reply : Gone → Reply
gone_reply g = GoneReply g.ending g.taken

-- the entry of a leave, of a stop, and of a count
abbrev pub leave_entry : ℕ → ℕ → ℕ → Gone → Entry
leave_entry caller conn empties g = record { caller = caller; call = Leave conn g.taken empties; looks = []; reply = gone_reply g }

abbrev pub stop_entry : ℕ → Counts → Entry
stop_entry caller k = record { caller = caller; call = Stop; looks = []; reply = Counted k }

abbrev pub count_entry : ℕ → Counts → Entry
count_entry caller k = record { caller = caller; call = Count; looks = []; reply = Counted k }

-- the entries that a stop adds, and that a count adds: one or none
abbrev pub stop_adds : ℕ → Result Counts AlreadyStopped → List Stamped
stop_adds caller (Ok k) = plain (stop_entry caller k) ∷ []
stop_adds caller (Err already) = []

abbrev pub count_adds : ℕ → Result Counts Worn → List Stamped
count_adds caller (Ok k) = plain (count_entry caller k) ∷ []
count_adds caller (Err worn) = []

-- the reply that a broadcast's answer says, and the looks that it made
abbrev pub all_reply : AllReply → Reply
all_reply (AllSent to missed skipped looks) = SentAll to missed skipped
all_reply (AllNotCurrent ending) = NotCurrent ending
all_reply AllStopped = Stopped

abbrev pub all_looks : AllReply → List Look
all_looks (AllSent to missed skipped looks) = looks
all_looks r = []

-- the entries that a broadcast adds, one or none
abbrev pub all_adds : ℕ → ℕ → List ℕ → Result AllReply AllRefusal → List Stamped
all_adds caller conn message (Ok r) = plain (forward_entry caller conn message (all_looks r) (all_reply r)) ∷ []
all_adds caller conn message (Err refusal) = []

-- whether a broadcast was refused as worn, and whether for want of memory
abbrev pub is_all_worn : Result AllReply AllRefusal → Bool
is_all_worn (Ok r) = false
is_all_worn (Err (AllWorn worn)) = true
is_all_worn (Err AllNoMemory) = false

abbrev pub lacks_memory : Result AllReply AllRefusal → Bool
lacks_memory (Ok r) = false
lacks_memory (Err (AllWorn worn)) = false
lacks_memory (Err AllNoMemory) = true

-- a broadcast that was worn says how many calls the hub may make
abbrev pub AllSaysLimit : AllRefusal → ℕ → Type 0
AllSaysLimit (AllWorn worn) calls = worn.calls ≡ calls
AllSaysLimit AllNoMemory calls = ⊤

-- the reply that a forward gets without a look: the hub has stopped, or the sender has ended
abbrev pub unserved : Option End → Reply
unserved None = Stopped
unserved (Some ending) = NotCurrent ending

-- the answer to a unicast that is dropped unsent
abbrev pub one_unserved : Option End → OneReply
one_unserved None = OneStopped
one_unserved (Some ending) = OneNotCurrent ending

-- the answer to a broadcast that is dropped unsent
abbrev pub all_unserved : Option End → AllReply
all_unserved None = AllStopped
all_unserved (Some ending) = AllNotCurrent ending
