-- What the calls of a hub's core answer, and what they leave: t, `old` and `new` are cores, H is the history before the call, and c
-- the number of a connection.
use Rattle.std.specs.Prelude.{◌≡◌, ◌≢◌, ℕ, nat_le, true, false, List, [], ◌∷◌, ◌++◌, length, map, slice_get, drop, not, ◌||◌, ◌==◌, Bool, is_some, Option, Some, None, Result, Ok, Err}
use Rattle.bsc_octets.specs.declared.identity.Identity.{Identity}
use Rattle.bsc_octets.specs.declared.vmac.Vmac.{Vmac}
use Rattle.bsc_history.specs.declared.call.Call.{Call}
use Rattle.bsc_history.specs.declared.call.Call.TheVariants.{Forward, Leave}
use Rattle.bsc_history.specs.declared.looks.Look.{Look}
use Rattle.bsc_history.specs.declared.counts.Counts.{Counts}
use Rattle.bsc_history.specs.declared.told.Worn.{Worn as WornOf}
use Rattle.bsc_history.specs.declared.told.AlreadyStopped.{AlreadyStopped}
use Rattle.bsc_desk.specs.declared.leaving.Gone.{Gone}
use Rattle.bsc_history.specs.declared.entry.Entry.{Entry}
use Rattle.bsc_history.specs.declared.ending.End.{End}
use Rattle.bsc_history.specs.declared.ending.End.TheVariants.{Left}
use Rattle.bsc_history.specs.declared.reply.Reply.{Reply}
use Rattle.bsc_history.specs.declared.reply.Reply.TheVariants.{Joined as JoinedReply, Refused as RefusedReply}
use Rattle.bsc_history.specs.Entries.{moment}
use Rattle.bsc_history.specs.Counting.{counts}
use Rattle.bsc_history.specs.Ends.{ended}
use Rattle.bsc_history.specs.Outboxes.{added, sent}
use Rattle.bsc_history.specs.Legality.{looks_at}
use Rattle.bsc_history.specs.Replies.{connect_reply, forward_reply, is_stopped, reply}
use Rattle.bsc_ring.specs.declared.ends.Outlet.{Outlet}
use Rattle.bsc_desk.specs.Entries.{all_reply, connect_entry, count_entry, forward_entry, gone_reply, leave_entry, one_reply, stop_entry}
use Rattle.bsc_hub_core.specs.declared.outbox.Outbox.{Outbox}
use Rattle.bsc_hub_core.specs.declared.hub_core.HubCore.{HubCore}
use Rattle.bsc_hub_core.specs.declared.took.Took.{Took}
use Rattle.bsc_hub_core.specs.declared.took.Took.TheVariants.{Frame, Empty, Closed}
use Rattle.bsc_hub_core.specs.declared.connected.Connected.{Connected}
use Rattle.bsc_hub_core.specs.declared.connected.Connected.TheVariants.{Worn, Joined, Refused}
use Rattle.bsc_hub_core.specs.declared.forwarded.Forwarded.{Forwarded}
use Rattle.bsc_hub_core.specs.declared.forwarded.Forwarded.TheVariants.{Worn as ForwardWorn, One, All}
use Rattle.bsc_hub_core.specs.Outboxes.{taken_by, empties_by, empties_then, tags_by}
use Rattle.bsc_hub_core.specs.Standing.{CoreStands, outbox_at}

-- ---- takes

-- A take: the core stands for the same history, the outbox of c was p and is q, and all others are as they were.
pub record Changes (H : List Entry) (c : ℕ) (old new : HubCore) (p q : Outbox) : Type 0 where
  pub stands : CoreStands new H
  pub about : new.about ≡ old.about
  pub was : outbox_at old c ≡ Some p
  pub now : outbox_at new c ≡ Some q
  pub others : (b : ℕ) → b ≢ c → outbox_at new b ≡ outbox_at old b

-- The next frame was taken, with its tag.
pub record TakesNext (H : List Entry) (c : ℕ) (frame : List ℕ) (tag : ℕ) (old new : HubCore) : Type 0 where
  pub before : Outbox
  pub after : Outbox
  pub changes : Changes H c old new before after
  pub next : slice_get (sent old.about H c) (length (taken_by before)) ≡ Some frame
  pub taken : taken_by after ≡ taken_by before ++ frame ∷ []
  pub tags : tags_by before ≡ tag ∷ tags_by after
  pub empties : empties_by after ≡ empties_by before

-- No frame was left to take, and the connection has ended so, or hasn't ended.
pub record TakesNone (H : List Entry) (c : ℕ) (ending : Option End) (old new : HubCore) : Type 0 where
  pub before : Outbox
  pub after : Outbox
  pub changes : Changes H c old new before after
  pub whole : taken_by before ≡ sent old.about H c
  pub ends : ended H c ≡ ending
  pub not_left : ending ≢ Some Left
  pub taken : taken_by after ≡ taken_by before
  pub tags : tags_by after ≡ tags_by before
  pub empties : empties_by after ≡ empties_then ending (empties_by before)

-- What a take from the outbox of c comes to, by its answer.
abbrev pub TakesAs : List Entry → ℕ → Took → HubCore → HubCore → Type 0
TakesAs H c (Frame frame tag) old new = TakesNext H c frame tag old new
TakesAs H c Empty old new = TakesNone H c None old new
TakesAs H c (Closed ending) old new = TakesNone H c (Some ending) old new

-- Something is due for connection c: a frame that wasn't taken, or its End.
abbrev pub has_due : HubCore → List Entry → ℕ → Outbox → Bool
has_due t H c p = not (length (drop (length (taken_by p)) (sent t.about H c)) == 0) || is_some (ended H c)

-- ---- connects

-- Connection c got this outbox; all else is as it was.
pub record Seats (c : ℕ) (v : Vmac) (o : Outlet) (old new : HubCore) : Type 0 where
  pub about : new.about ≡ old.about
  pub desk : new.desk ≡ old.desk
  pub after : Outbox
  pub now : outbox_at new c ≡ Some after
  pub others : (b : ℕ) → b ≢ c → outbox_at new b ≡ outbox_at old b
  pub vmac : after.vmac ≡ v
  pub outlet : after.outlet ≡ o
  pub tags : tags_by after ≡ []

-- The entry e was made: the hub wasn't worn, and the core stands for the history with it.
pub record Enters (H : List Entry) (e : Entry) (old new : HubCore) : Type 0 where
  pub fresh : nat_le old.about.limits.calls (length H) ≡ false
  pub stands : CoreStands new (H ++ e ∷ [])
  pub about : new.about ≡ old.about

-- Connection c has joined, with an outbox from which nothing was taken and into which nothing entered.
pub record Joins (H : List Entry) (c : ℕ) (e : Entry) (old new : HubCore) : Type 0 where
  pub enters : Enters H e old new
  pub absent : outbox_at old c ≡ None
  pub after : Outbox
  pub now : outbox_at new c ≡ Some after
  pub others : (b : ℕ) → b ≢ c → outbox_at new b ≡ outbox_at old b
  pub taken : taken_by after ≡ []
  pub tags : tags_by after ≡ []
  pub empties : empties_by after ≡ 0

-- What a connect comes to, by its answer: worn it changes nothing, and else its reply is the one that is due.
abbrev pub ConnectsAs : List Entry → ℕ → Identity → Connected → HubCore → HubCore → Type 0
ConnectsAs H caller who Worn old new = (nat_le old.about.limits.calls (length H) ≡ true) × (new ≡ old)
ConnectsAs H caller who (Refused refusal) old new =
    (connect_reply old.about H who ≡ RefusedReply refusal) × Enters H (connect_entry caller who (RefusedReply refusal)) old new
    × ((b : ℕ) → outbox_at new b ≡ outbox_at old b)
ConnectsAs H caller who (Joined row) old new =
    (connect_reply old.about H who ≡ JoinedReply row.conn row.replaced) × Joins H row.conn (connect_entry caller who (JoinedReply row.conn row.replaced)) old new

-- ---- forwards

-- How many frames were taken from an outbox, 0 where there is none.
abbrev pub taken_in : Option Outbox → ℕ
taken_in None = 0
taken_in (Some p) = length (taken_by p)

-- Each look of a call finds just what was taken.
abbrev pub looks_of : HubCore → List Entry → Call → List Look
looks_of t H call = map (λ c. record { conn = c; taken = taken_in (outbox_at t c) }) (looks_at H call)

-- Some frames entered an outbox, each with this tag.
pub record Gains (tag : ℕ) (more : List (List ℕ)) (p q : Outbox) : Type 0 where
  pub taken : taken_by q ≡ taken_by p
  pub empties : empties_by q ≡ empties_by p
  pub tags : tags_by q ≡ tags_by p ++ map (λ o. tag) more

-- An outbox gained these frames; where there was none there is none.
abbrev pub GainsIf : ℕ → List (List ℕ) → Option Outbox → Option Outbox → Type 0
GainsIf tag more None o = o ≡ None
GainsIf tag more (Some p) o = (q : Outbox) × (o ≡ Some q) × Gains tag more p q

-- The message m of connection c was passed on: the reply is the one that is due, by looks that find just what was taken, and each
-- outbox gained the frames that the rules say, with the tag.
pub record Forwards (H : List Entry) (caller c tag : ℕ) (m : List ℕ) (r : Reply) (old new : HubCore) : Type 0 where
  pub replied : r ≡ forward_reply old.about H c m (looks_of old H (Forward c m))
  pub enters : Enters H (forward_entry caller c m (looks_of old H (Forward c m)) r) old new
  pub gains : (b : ℕ) → GainsIf tag (added old.about (moment H (forward_entry caller c m (looks_of old H (Forward c m)) r)) (sent old.about H b) b) (outbox_at old b) (outbox_at new b)

-- What a forward comes to, by its answer: worn it changes nothing.
abbrev pub ForwardsAs : List Entry → ℕ → ℕ → ℕ → List ℕ → Forwarded → HubCore → HubCore → Type 0
ForwardsAs H caller c tag m ForwardWorn old new = (nat_le old.about.limits.calls (length H) ≡ true) × (new ≡ old)
ForwardsAs H caller c tag m (One r) old new = Forwards H caller c tag m (one_reply r) old new
ForwardsAs H caller c tag m (All r) old new = Forwards H caller c tag m (all_reply r) old new

-- ---- leaves

-- Connection c has left: so many frames had been taken from its outbox, and it had been found empty so often.
pub record LeavesAs (H : List Entry) (caller c : ℕ) (gone : Gone) (old new : HubCore) : Type 0 where
  pub before : Outbox
  pub was : outbox_at old c ≡ Some before
  pub stands : CoreStands new (H ++ leave_entry caller c (empties_by before) gone ∷ [])
  pub about : new.about ≡ old.about
  pub taken : gone.taken ≡ length (taken_by before)
  pub due : gone_reply gone ≡ reply old.about H (Leave c gone.taken (empties_by before)) []
  pub now : outbox_at new c ≡ None
  pub others : (b : ℕ) → b ≢ c → outbox_at new b ≡ outbox_at old b

-- ---- stops and counts

-- A call looked at no outbox, and gave nobody a frame.
pub record Plainly (H : List Entry) (e : Entry) (old new : HubCore) : Type 0 where
  pub stands : CoreStands new (H ++ e ∷ [])
  pub about : new.about ≡ old.about
  pub same : (b : ℕ) → outbox_at new b ≡ outbox_at old b

-- What a stop comes to, by its answer: the counts of before, or that the hub had stopped, and then nothing changes.
abbrev pub StopsAs : List Entry → ℕ → Result Counts AlreadyStopped → HubCore → HubCore → Type 0
StopsAs H caller (Ok k) old new = (is_stopped H ≡ false) × (k ≡ counts H) × Plainly H (stop_entry caller k) old new
StopsAs H caller (Err already) old new = (is_stopped H ≡ true) × (new ≡ old)

-- What a count comes to, by its answer: worn it changes nothing.
abbrev pub CountsAs : List Entry → ℕ → Result Counts WornOf → HubCore → HubCore → Type 0
CountsAs H caller (Ok k) old new = (nat_le old.about.limits.calls (length H) ≡ false) × (k ≡ counts H) × Plainly H (count_entry caller k) old new
CountsAs H caller (Err worn) old new = (nat_le old.about.limits.calls (length H) ≡ true) × (new ≡ old)
