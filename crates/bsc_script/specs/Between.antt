-- What stands between the steps of a line: words of inner functions.
use Rattle.std.specs.Prelude.{◌≡◌, ◌≢◌, ℕ, ◌==◌, ◌+◌, ◌++◌, true, if◌then◌else◌, List, drop, length, set, slice_get, is_some, Option, Some, None}
use Rattle.std.specs.Ordering.{nat_cmp}
use Rattle.std.specs.BTreeMap.{get}
use Rattle.bsc_history.specs.declared.entry.Entry.{Entry}
use Rattle.bsc_history.specs.declared.ending.End.{End}
use Rattle.bsc_history.specs.declared.ending.End.TheVariants.{Left}
use Rattle.bsc_history.specs.Ends.{ended}
use Rattle.bsc_history.specs.Laws.{is_among}
use Rattle.bsc_history.specs.Outboxes.{sent}
use Rattle.bsc_hub_core.specs.declared.hub_core.HubCore.{HubCore}
use Rattle.bsc_hub_core.specs.declared.outbox.Outbox.{Outbox}
use Rattle.bsc_hub_core.specs.Outboxes.{empties_by, taken_by}
use Rattle.bsc_hub_core.specs.Standing.{CoreStands, outbox_at}
use Rattle.bsc_script.specs.declared.peer.Peer.{Peer as KeptPeer}
use Rattle.bsc_script.specs.declared.script_hub.ScriptHub.{ScriptHub}
use Rattle.bsc_accept.specs.Standing.{is_open, stage}
use Rattle.bsc_script.specs.Written.{text_of}
use Rattle.bsc_script.specs.States.{State, Peer, start_at, with_peer}
use Rattle.bsc_script.specs.Emptying.{empties_after, found_empty, frame_lines, given_frames, unwritten}
use Rattle.bsc_script.specs.Settled.{ascends}
use Rattle.bsc_script.specs.Holding.{IsAt, ScriptStands, kept_in}

-- These are the connections that have a name, in the order of joining.
pub record AreConnections (t : ScriptHub) (cs : List ℕ) : Type 0 where
  pub all : (c : ℕ) → is_some (get nat_cmp t.names c) ≡ true → is_among c cs ≡ true
  pub order : ascends cs ≡ true

-- A peer that is kept at a place got the number of its connection, and its name stands with that; all else is
-- as before.
pub record Seats (t u : ScriptHub) (at c : ℕ) : Type 0 where
  pub same_core : u.core ≡ t.core
  pub same_about : u.about ≡ t.about
  pub same_clock : u.clock ≡ t.clock
  pub kept : (e : List ℕ × KeptPeer) → slice_get (kept_in t) at ≡ Some e → kept_in u ≡ set (kept_in t) at (e.0, record e.1 { joined = Some c })
  pub names : (e : List ℕ × KeptPeer) → slice_get (kept_in t) at ≡ Some e → (b : ℕ)
      → get nat_cmp u.names b ≡ (if c == b then Some e.0 else get nat_cmp t.names b)

-- ---- emptying

-- Some frames were taken from the outbox of c, and written under a name.
pub record Writes (H : List Entry) (c : ℕ) (K N : HubCore) (name before after : List ℕ) : Type 0 where
  pub stands : CoreStands N H
  pub about : N.about ≡ K.about
  pub others : (b : ℕ) → b ≢ c → outbox_at N b ≡ outbox_at K b
  pub old : Outbox
  pub was : outbox_at K c ≡ Some old
  pub new : Outbox
  pub now : outbox_at N c ≡ Some new
  pub more : List (List ℕ)
  pub taken : taken_by new ≡ taken_by old ++ more
  pub text : after ≡ before ++ text_of (frame_lines name more)

-- All that entered was taken; the ending is how the connection ended.
pub record IsEmptied (H : List Entry) (c : ℕ) (ending : Option End) (K : HubCore) (old new : Outbox) : Type 0 where
  pub whole : taken_by new ≡ sent K.about H c
  pub ends : ending ≡ ended H c
  pub not_left : ending ≢ Some Left
  pub empties : empties_by new ≡ empties_after ending (empties_by old)

-- One take: a frame was written, or the outbox is empty.
abbrev pub TakesOne : List Entry → ℕ → Option (Option End) → HubCore → HubCore → List ℕ → List ℕ → List ℕ → Type 0
TakesOne H c None K N name before after = (w : Writes H c K N name before after) × (length (taken_by w.new) ≡ length (taken_by w.old) + 1) × (empties_by w.new ≡ empties_by w.old)
TakesOne H c (Some ending) K N name before after = (w : Writes H c K N name before after) × (taken_by w.new ≡ taken_by w.old) × IsEmptied H c ending K w.old w.new × (after ≡ before)

-- All takes: what waited was written, and the outbox is empty.
pub record WritesAll (H : List Entry) (c : ℕ) (ending : Option End) (K N : HubCore) (name before after : List ℕ) : Type 0 where
  pub writes : Writes H c K N name before after
  pub emptied : IsEmptied H c ending K writes.old writes.new
  pub text : after ≡ before ++ text_of (frame_lines name (drop (length (taken_by writes.old)) (sent K.about H c)))

-- The peer at a place has joined as a connection.
pub record IsJoinedAt (t : ScriptHub) (at c : ℕ) (s : State) (k : Peer) : Type 0 where
  pub stands : ScriptStands t s
  pub here : IsAt at k s
  pub conn : k.conn ≡ Some c

-- a peer for whom these frames were written, and whose outbox was found empty then, if its connection is live
abbrev pub written_peer : Option End → List (List ℕ) → Peer → Peer
written_peer None frames k = found_empty (given_frames frames k)
written_peer (Some ending) frames k = given_frames frames k

-- What waited for the peer at a place was written, and its connection has ended so.
pub record IsWritten (n : ScriptHub) (at c : ℕ) (s : State) (k : Peer) (ending : Option End) (before after : List ℕ) : Type 0 where
  pub stands : ScriptStands n (with_peer (written_peer ending (unwritten s k c) k) s)
  pub ends : ending ≡ ended s.history c
  pub not_left : ending ≢ Some Left
  pub text : after ≡ before ++ text_of (frame_lines k.name (unwritten s k c))

-- A peer's machine may be told something.
abbrev pub IsOpenPeer : State → Peer → Type 0
IsOpenPeer s k = is_open (stage (start_at s.about k) k.events) ≡ true
