-- A peer is held, or freed.
-- It serves the clauses of `hold`.
use Rattle.std.proofs.Common.{◌≡◌, ℕ, suc, Bool, true, List, [], ◌∷◌, take, drop, slice_get, Some, None, Vec, Global, true≢false, refl, sym, ◌∙◌, subst}
use Rattle.std.specs.List.{AllByRecursion}
use Rattle.std.proofs.lemmas.Bool.{eq-eqb, or_left}
use Rattle.indexmap.specs.IndexMap.{with_value_at}
use Rattle.bsc_history.specs.declared.limits.About.{About}
use Rattle.bsc_history.specs.declared.entry.Entry.{Entry}
use Rattle.bsc_history.specs.Laws.{is_among}
use Rattle.bsc_script.specs.declared.peer.Peer.{Peer as KeptPeer}
use Rattle.bsc_script.specs.declared.script_hub.ScriptHub.{ScriptHub}
use Rattle.bsc_script.specs.States.{State, Peer, with_held, with_peer}
use Rattle.bsc_script.specs.Running.{holds}
use Rattle.bsc_script.specs.Settled.{IsSettledBut, ascends}
use Rattle.bsc_script.specs.Holding.{IsJoinedIf, ScriptStands, StandsAt, ScriptHolds, IsAt, CarriesOut}
use Rattle.bsc_script.proofs.Pairs.{get-map}
use Rattle.bsc_script.proofs.Changes.{kept, kept_at, kept_with, held_peer, stands_changed, at_changed, at_settled, settled_at, settled_one}
use Rattle.bsc_script.proofs.Carried.{quiet_carried}

-- Who is settled is settled but for any connections.
pub settled_more : (cs : List ℕ) (a : About) (H : List Entry) (k : Peer) → IsSettledBut [] a H k → IsSettledBut cs a H k
settled_more cs a H k h = record { ready = h.ready; fits = h.fits; emptied = λ c e w. absurd (true≢false (sym (h.emptied c e w))) }

pub all_settled_more : (cs : List ℕ) (a : About) (H : List Entry) (ks : List Peer) → AllByRecursion (IsSettledBut [] a H) ks → AllByRecursion (IsSettledBut cs a H) ks
all_settled_more cs a H [] h = tt
all_settled_more cs a H (k ∷ ks) h = (settled_more cs a H k h.0, all_settled_more cs a H ks h.1)

-- A peer whose outbox is not emptied any more, or is again, is settled but for its connection.
held_settled : (cs : List ℕ) (a : About) (H : List Entry) (k : Peer) (held : Bool) → ((c : ℕ) → k.conn ≡ Some c → is_among c cs ≡ true) → IsSettledBut [] a H k → IsSettledBut cs a H (with_held held k)
held_settled cs a H k held among h = record { ready = h.ready; fits = h.fits; emptied = λ c e w. among c e }

pub held_carried : (t n : ScriptHub) (s : State) (at : ℕ) (k : Peer) (x : Vec ℕ Global × KeptPeer) (held : Bool) (cs : List ℕ) → ScriptHolds t s → IsAt at k s → slice_get t.peers.entries at ≡ Some x
    → ascends cs ≡ true → ((c : ℕ) → k.conn ≡ Some c → is_among c cs ≡ true)
    → n.core ≡ t.core → n.about ≡ t.about → n.clock ≡ t.clock → n.names ≡ t.names → n.peers ≡ with_value_at t.peers at (record x.1 { held = held })
    → CarriesOut n [] [] cs (holds s k held)
held_carried t n s at k x held cs h here was order among core about clock names new =
    let j : Peer = with_held held k in
    let all : StandsAt t at cs s k = record {
      stands = h.0;
      here = here;
      before = all_settled_more cs s.about s.history (take at s.peers) (at_settled t at [] s k h.0 h.1 here).before;
      behind = all_settled_more cs s.about s.history (drop (suc at) s.peers) (at_settled t at [] s k h.0 h.1 here).behind;
      order = order;
    } in
    let stands : ScriptStands n (with_peer j s) = stands_changed t n s at k j (kept x) (x.0.items, record x.1 { held = held }) h.0 here refl refl core about clock names
    (get-map kept t.peers.entries at x was)
    (kept_with t n at x (record x.1 { held = held }) was new) (held_peer t.core s.history k (kept x) held) in
    quiet_carried n [] cs (with_peer j s) stands
    (settled_at n at cs (with_peer j s) j (at_changed t n s at cs k j all refl stands) (held_settled cs s.about s.history k held among (settled_one at [] s k h.1 here)))

-- The connection of a peer is the one of whom it is kept that it has joined.
pub conn_among : (t : ScriptHub) (s : State) (at : ℕ) (k : Peer) (x : Vec ℕ Global × KeptPeer) (j : ℕ) → ScriptStands t s → IsAt at k s → slice_get t.peers.entries at ≡ Some x → x.1.joined ≡ Some j
    → (c : ℕ) → k.conn ≡ Some c → is_among c (j ∷ []) ≡ true
conn_among t s at k x j h here was is c conn =
    let p = kept_at t s at k x h here was in
    let q : IsJoinedIf t.core s.history k (Some j) = subst (λ o. IsJoinedIf t.core s.history k o) is p.joined in
    or_left _ _ (eq-eqb j c (one j c (sym q.0 ∙ conn)))
  where
    one : (a b : ℕ) → Some a ≡ Some b → a ≡ b
    one a b e = cc

pub no_conn_among : (t : ScriptHub) (s : State) (at : ℕ) (k : Peer) (x : Vec ℕ Global × KeptPeer) → ScriptStands t s → IsAt at k s → slice_get t.peers.entries at ≡ Some x → x.1.joined ≡ None
    → (c : ℕ) → k.conn ≡ Some c → is_among c [] ≡ true
no_conn_among t s at k x h here was is c conn =
    let p = kept_at t s at k x h here was in
    let q : IsJoinedIf t.core s.history k None = subst (λ o. IsJoinedIf t.core s.history k o) is p.joined in
    absurd (none_some (sym q.0 ∙ conn))
  where
    none_some : None ≡ Some c → ⊥
    none_some e = cc
