-- What may be told to the machine of a peer that is settled.
-- It serves the clauses of `act`, `receive` and `tick_one`.
use Rattle.std.proofs.Common.{◌≡◌, ℕ, List, [], slice_get, Some, Vec, Global, ap, ◌∙◌, subst}
use Rattle.bsc_accept.specs.Standing.{IsOpen, is_open, AcceptingStands}
use Rattle.bsc_script.specs.declared.peer.Peer.{Peer as KeptPeer}
use Rattle.bsc_script.specs.declared.script_hub.ScriptHub.{ScriptHub}
use Rattle.bsc_script.specs.States.{State, Peer, start_at}
use Rattle.bsc_script.specs.Settled.{IsSettledBut}
use Rattle.bsc_script.specs.Holding.{ScriptStands, ScriptHolds, HoldsSome, IsAt}
use Rattle.bsc_script.proofs.Changes.{kept_at, some_at, settled_one}

-- The machine that is kept at a place stands for what the peer was told.
pub machine_at : (t : ScriptHub) (s : State) (at : ℕ) (k : Peer) (x : Vec ℕ Global × KeptPeer) (h : ScriptStands t s) → IsAt at k s → slice_get t.peers.entries at ≡ Some x
    → AcceptingStands x.1.machine (start_at s.about k) k.events
machine_at t s at k x h here was = subst (λ a. AcceptingStands x.1.machine (start_at a k) k.events) h.about (kept_at t s at k x h here was).machine

-- It is open.
pub open_at : (t : ScriptHub) (s : State) (at : ℕ) (cs : List ℕ) (k : Peer) (x : Vec ℕ Global × KeptPeer) (h : ScriptStands t s) → IsAt at k s → slice_get t.peers.entries at ≡ Some x
    → IsSettledBut cs s.about s.history k → IsOpen x.1.machine
open_at t s at cs k x h here was own = ap is_open (machine_at t s at k x h here was).stage ∙ own.ready

pub open_some : (t : ScriptHub) (at : ℕ) (x : Vec ℕ Global × KeptPeer) → HoldsSome t → slice_get t.peers.entries at ≡ Some x → IsOpen x.1.machine
open_some t at x some was =
    let s = some.0 in
    let h : ScriptHolds t s = some.1 in
    let k = some_at t s at x h.0 was in
    open_at t s at [] k.0 x h.0 k.1 was (settled_one at [] s k.0 h.1 k.1)
