-- The calls that the lines of a script make, all of them by caller 0.
use Rattle.std.specs.Prelude.{ℕ, nat_le, Bool, List, [], ◌∷◌, ◌++◌, length, map, Option, Some, None}
use Rattle.bsc_history.specs.declared.entry.Entry.{Entry}
use Rattle.bsc_history.specs.declared.looks.Look.{Look}
use Rattle.bsc_history.specs.declared.call.Call.{Call}
use Rattle.bsc_history.specs.declared.call.Call.TheVariants.{Leave}
use Rattle.bsc_history.specs.declared.reply.Reply.{Reply}
use Rattle.bsc_history.specs.Legality.{looks_at}
use Rattle.bsc_history.specs.Replies.{reply}
use Rattle.bsc_script.specs.States.{State, Peer, peer_on}

-- how many frames were written for a peer, none where there is no peer
abbrev pub written_in : Option Peer → ℕ
written_in None = 0
written_in (Some k) = length k.frames

-- How many frames were written for connection c.
abbrev pub written_for : State → ℕ → ℕ
written_for s c = written_in (peer_on s c)

-- Each look of a call finds the number of frames that were already written for its connection.
abbrev pub looks_in : State → Call → List Look
looks_in s call = map (λ c. record { conn = c; taken = written_for s c }) (looks_at s.history call)

-- The reply that a call is due, after the history and by its looks.
abbrev pub reply_in : State → Call → Reply
reply_in s call = reply s.about s.history call (looks_in s call)

-- The entry that a call makes.
abbrev pub entry_in : State → Call → Entry
entry_in s call = record { caller = 0; call = call; looks = looks_in s call; reply = reply_in s call }

-- the call was made: the history has its entry
abbrev pub called : State → Call → State
called s call = record s { history = s.history ++ entry_in s call ∷ [] }

-- The hub has made as many entries as it may, and each further call but Stop and Leave is worn.
abbrev pub is_worn : State → Bool
is_worn s = nat_le s.about.limits.calls (length s.history)

-- The Leave of connection c, which this peer has: so many frames were written for it, and its outbox was found empty so
-- often.
abbrev pub leave_of : ℕ → Peer → Call
leave_of c k = Leave c (length k.frames) k.empties
