-- The entry that a call of a hub makes, by its arguments and its answer.
use Rattle.std.specs.Prelude.{◌≡◌, ℕ, List, Option, Some, None, Result, Ok, Err, ⊤}
use Rattle.bsc_octets.specs.declared.identity.Identity.{Identity}
use Rattle.bsc_history.specs.declared.counts.Counts.{Counts}
use Rattle.bsc_history.specs.declared.mark.Mark.{Mark}
use Rattle.bsc_history.specs.declared.mark.Stamped.{Stamped}
use Rattle.bsc_history.specs.declared.reply.Refusal.{Refusal}
use Rattle.bsc_history.specs.declared.reply.Reply.{Reply}
use Rattle.bsc_history.specs.declared.reply.Reply.TheVariants.{Joined as JoinedReply, Refused as RefusedReply}
use Rattle.bsc_history.specs.declared.told.AlreadyStopped.{AlreadyStopped}
use Rattle.bsc_history.specs.declared.told.Told.{Told}
use Rattle.bsc_history.specs.declared.told.Worn.{Worn}
use Rattle.bsc_ring.specs.Ends.{outlet_mark}
use Rattle.bsc_desk.specs.declared.broadcasting.AllRefusal.{AllRefusal}
use Rattle.bsc_desk.specs.declared.broadcasting.AllReply.{AllReply}
use Rattle.bsc_desk.specs.declared.connecting.NewRow.{NewRow}
use Rattle.bsc_desk.specs.declared.forwarding.OneReply.{OneReply}
use Rattle.bsc_desk.specs.declared.leaving.Gone.{Gone}
use Rattle.bsc_desk.specs.Entries.{all_looks, all_reply, connect_stamped, count_entry, connect_entry, forward_entry, leave_entry}
use Rattle.bsc_desk.specs.Entries.{one_looks, one_reply, plain, stop_entry}
use Rattle.bsc_hub.specs.declared.joined.ConnectRefusal.{ConnectRefusal}
use Rattle.bsc_hub.specs.declared.joined.ConnectRefusal.TheVariants.{NoMemory, Worn as WornRefusal, Refused}
use Rattle.bsc_hub.specs.declared.joined.Joined.{Joined}
use Rattle.bsc_hub.specs.Passing.{Placed}

-- the entry at this place
abbrev pub placed : ℕ → Stamped → Option Placed
placed at s = Some (record { at = at; stamped = s })

-- the entries of caller n, by what its call was asked and told: a connect that joined, with the mark of its outbox, and
-- one that was refused
abbrev pub joined_stamped : ℕ → Identity → NewRow → Mark → Stamped
joined_stamped n who row m = connect_stamped n who m (JoinedReply row.conn row.replaced)

abbrev pub refused_stamped : ℕ → Identity → Refusal → Stamped
refused_stamped n who refusal = plain (connect_entry n who (RefusedReply refusal))

-- a unicast, and a broadcast
abbrev pub one_stamped : ℕ → ℕ → List ℕ → OneReply → Stamped
one_stamped n conn message said = plain (forward_entry n conn message (one_looks said) (one_reply said))

abbrev pub all_stamped : ℕ → ℕ → List ℕ → AllReply → Stamped
all_stamped n conn message said = plain (forward_entry n conn message (all_looks said) (all_reply said))

-- a leave, a stop, and a count
abbrev pub leave_stamped : ℕ → ℕ → ℕ → Gone → Stamped
leave_stamped n conn empties gone = plain (leave_entry n conn empties gone)

abbrev pub stop_stamped : ℕ → Counts → Stamped
stop_stamped n said = plain (stop_entry n said)

abbrev pub count_stamped : ℕ → Counts → Stamped
count_stamped n said = plain (count_entry n said)

-- The entry that a connect of caller n made, with its place, or none where it was worn or found no memory.
abbrev pub connect_made : ℕ → Identity → Result Joined ConnectRefusal → Option Placed
connect_made n who (Ok j) = placed j.at (connect_stamped n who (outlet_mark j.outlet) (JoinedReply j.conn j.replaced))
connect_made n who (Err NoMemory) = None
connect_made n who (Err (WornRefusal worn)) = None
connect_made n who (Err (Refused at refusal)) = placed at (refused_stamped n who refusal)

-- The reply that a connect was told, None where it got none.
abbrev pub connect_told : Result Joined ConnectRefusal → Option Reply
connect_told (Ok j) = Some (JoinedReply j.conn j.replaced)
connect_told (Err NoMemory) = None
connect_told (Err (WornRefusal worn)) = None
connect_told (Err (Refused at refusal)) = Some (RefusedReply refusal)

-- A connect that was worn says how many calls the hub may make.
abbrev pub SaysLimit : ConnectRefusal → ℕ → Type 0
SaysLimit NoMemory calls = ⊤
SaysLimit (WornRefusal worn) calls = worn.calls ≡ calls
SaysLimit (Refused at refusal) calls = ⊤

-- The entry that a unicast of caller n made, or none where it was worn.
abbrev pub one_made : ℕ → ℕ → List ℕ → Result (Told OneReply) Worn → Option Placed
one_made n conn message (Ok t) = placed t.at (one_stamped n conn message t.said)
one_made n conn message (Err worn) = None

-- The entry that a broadcast of caller n made, or none where it was worn or found no memory.
abbrev pub all_made : ℕ → ℕ → List ℕ → Result (Told AllReply) AllRefusal → Option Placed
all_made n conn message (Ok t) = placed t.at (all_stamped n conn message t.said)
all_made n conn message (Err refusal) = None

-- What a broadcast was told, without the place of its entry.
abbrev pub all_told : Result (Told AllReply) AllRefusal → Result AllReply AllRefusal
all_told (Ok t) = Ok t.said
all_told (Err refusal) = Err refusal

-- The entry that a leave of caller n made.
abbrev pub leave_made : ℕ → ℕ → ℕ → Told Gone → Option Placed
leave_made n conn empties t = placed t.at (leave_stamped n conn empties t.said)

-- The entry that a stop of caller n made, or none where the hub had been stopped before.
abbrev pub stop_made : ℕ → Result (Told Counts) AlreadyStopped → Option Placed
stop_made n (Ok t) = placed t.at (stop_stamped n t.said)
stop_made n (Err already) = None

-- The entry that a count of caller n made, or none where it was worn.
abbrev pub count_made : ℕ → Result (Told Counts) Worn → Option Placed
count_made n (Ok t) = placed t.at (count_stamped n t.said)
count_made n (Err worn) = None
