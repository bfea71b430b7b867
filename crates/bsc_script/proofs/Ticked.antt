-- The machines of all open names are told the time, one after the other.
-- It serves the clauses of `tick_one` and `tick`.
use Rattle.std.proofs.Common.{◌≡◌, ℕ, zero, suc, ◌+◌, ◌-◌, ◌<◌, ◌≤◌, nat_le, Bool, true, false, cond, ◌&&◌, List, [], ◌∷◌, ◌++◌, fold, map, length, set, take, drop, remove}
use Rattle.std.proofs.Common.{slice_get, Option, Some, None, Result, Ok, Err, Vec, Global, refl, ap, sym, ◌∙◌, subst, append_assoc, append-nil, add-one, arith, drop_of_length-le}
use Rattle.std.proofs.Common.{length-drop}
use Rattle.std.proofs.lemmas.Bool.Decides.{nat_tests}
use Rattle.std.proofs.lemmas.List.Sums.{fold-append}
use Rattle.bsc_history.specs.Laws.{Apart}
use Rattle.bsc_accept.specs.declared.event.Event.{Event}
use Rattle.bsc_accept.specs.declared.event.Event.TheVariants.{Tick}
use Rattle.bsc_accept.specs.declared.step.Step.{Step}
use Rattle.bsc_accept.specs.Steps.{closes}
use Rattle.bsc_script.specs.declared.peer.Peer.{Peer as KeptPeer}
use Rattle.bsc_script.specs.declared.script_hub.ScriptHub.{ScriptHub}
use Rattle.bsc_script.specs.States.{State, Peer, told, with_peer}
use Rattle.bsc_script.specs.Carrying.{ScriptOutcome, quietly, and_then, does, tells, step_of}
use Rattle.bsc_script.specs.Running.{ticks, ticks_one, latest}
use Rattle.bsc_script.specs.Settled.{SettledBut}
use Rattle.bsc_script.specs.Holding.{ScriptStands, StandsAt, ScriptHolds, IsAt, CarriesOut, ArePeers, kept_in, name_of}
use Rattle.bsc_script.proofs.Pairs.{drop-set}
use Rattle.bsc_hub_core.specs.Standing.{CoreStands}
use Rattle.std.specs.Ordering.{nat_cmp}
use Rattle.std.specs.BTreeMap.{get}
use Rattle.bsc_script.proofs.Changes.{kept, indexed, peers_changed, some_at}
use Rattle.bsc_script.proofs.Names.{names_length}
use Rattle.bsc_script.proofs.Carried.{both_carried, quiet_carried, closing_peers, other_peers}

drop-remove : {A : Type 0} (xs : List A) (i : ℕ) (x : A) → slice_get xs i ≡ Some x → drop i (remove xs i) ≡ drop (suc i) xs
drop-remove [] i x h = cc
drop-remove (a ∷ xs) zero x h = refl
drop-remove (a ∷ xs) (suc i) x h = drop-remove xs i x h

pub drop-at : {A : Type 0} (xs : List A) (i : ℕ) (x : A) → slice_get xs i ≡ Some x → drop i xs ≡ x ∷ drop (suc i) xs
drop-at [] i x h = cc
drop-at {A} (a ∷ xs) zero x h = ap (λ (y : A). y ∷ xs) (one a x h)
  where
    one : (u v : A) → Some u ≡ Some v → u ≡ v
    one u v e = cc
drop-at (a ∷ xs) (suc i) x h = drop-at xs i x h

-- ---- one of them

-- Who stands behind a peer stands there still, once it is told something: one place before where it closes.
pub rest_told : (n : ScriptHub) (s : State) (at : ℕ) (cs : List ℕ) (k : Peer) (e : Event) (step : Step) → Apart name_of s.peers → (with_peer (told e k) s).peers ≡ set s.peers at (told e k)
    → StandsAt n at cs (with_peer (told e k) s) (told e k) → drop (cond (closes step) at (at + 1)) (does (with_peer (told e k) s) (told e k) step).state.peers ≡ drop (at + 1) s.peers
rest_told n s at cs k e step apart changed h = by (closes step) refl
  where
    ps : List Peer
    ps = (with_peer (told e k) s).peers

    behind : drop (suc at) ps ≡ drop (suc at) s.peers
    behind = ap (drop (suc at)) changed ∙ drop-set s.peers at (told e k)

    next : drop (suc at) s.peers ≡ drop (at + 1) s.peers
    next = ap (λ m. drop m s.peers) (sym (add-one at))

    by : (b : Bool) → closes step ≡ b → drop (cond b at (at + 1)) (does (with_peer (told e k) s) (told e k) step).state.peers ≡ drop (at + 1) s.peers
    by true c = ap (drop at) (closing_peers (with_peer (told e k) s) at (told e k) step h.stands.apart h.here c) ∙ drop-remove ps at (told e k) h.here ∙ behind ∙ next
    by false c = ap (drop (at + 1)) (other_peers (with_peer (told e k) s) (told e k) step c) ∙ ap (λ m. drop m ps) (add-one at) ∙ behind ∙ next

-- ---- all of them

-- what stands after these were told
abbrev pub after : State → ℕ → List Peer → ScriptOutcome
after s ms done = fold ticks_one (quietly (record s { clock = ms })) done

-- So far these were told, and these not yet, who stand from a place on.
pub record Ticks (before b : List ℕ) (ms : ℕ) (t : ScriptHub) (at : ℕ) (s : State) : Type 0 where
  pub done : List Peer
  pub todo : List Peer
  pub all : s.peers ≡ done ++ todo
  pub carried : CarriesOut t before b [] (after s ms done)
  pub rest : drop at (after s ms done).state.peers ≡ todo

-- The clock is set, and nobody was told.
pub ticks_begin : (t n : ScriptHub) (before : List ℕ) (ms : ℕ) (s : State) → ScriptHolds t s → n.core ≡ t.core → n.about ≡ t.about → n.clock ≡ ms → n.names ≡ t.names → n.peers ≡ t.peers
    → Ticks before before ms n 0 s
ticks_begin t n before ms s h core about clock names peers =
    let stands : ScriptStands n (record s { clock = ms }) = record {
      core = subst (λ d. CoreStands d s.history) (sym core) h.0.core;
      about = ap (λ d. d.about) core ∙ h.0.about;
      same_hub = about ∙ h.0.same_hub;
      clock = clock;
      peers = subst (λ d. ArePeers d s.history s.peers (kept_in n)) (sym core) (subst (λ m. ArePeers t.core s.history s.peers (map kept m.entries)) (sym peers) h.0.peers);
      apart = h.0.apart;
      conns = h.0.conns;
      names = λ c. ap (λ m. get nat_cmp m c) names ∙ h.0.names c;
      joined = h.0.joined;
    } in
    record {
      done = [];
      todo = s.peers;
      all = refl;
      carried = quiet_carried n before [] (record s { clock = ms }) stands (record { peers = h.1.peers; order = h.1.order });
      rest = refl;
    }

-- One more is told.
pub ticks_more : (t n : ScriptHub) (before b b2 : List ℕ) (ms at next : ℕ) (s : State) (x : Vec ℕ Global × KeptPeer) (i : Ticks before b ms t at s) → slice_get t.peers.entries at ≡ Some x
    → ((u : State) (k : Peer) → ScriptHolds t u → IsAt at k u → CarriesOut n b b2 [] (tells u k (Tick u.clock)) × (drop next (tells u k (Tick u.clock)).state.peers ≡ drop (at + 1) u.peers))
    → Ticks before b2 ms n next s
ticks_more t n before b b2 ms at next s x i was told_one =
    let o = after s ms i.done in
    let k = some_at t o.state at x i.carried.stands was in
    let r = told_one o.state k.0 (i.carried.stands, i.carried.settled) k.1 in
    let todo : i.todo ≡ k.0 ∷ drop (suc at) o.state.peers = sym i.rest ∙ drop-at o.state.peers at k.0 k.1 in
    let one : after s ms (i.done ++ k.0 ∷ []) ≡ ticks_one o k.0 = fold-append ticks_one (quietly (record s { clock = ms })) i.done (k.0 ∷ []) in
    record {
      done = i.done ++ k.0 ∷ [];
      todo = drop (suc at) o.state.peers;
      all = i.all ∙ ap (λ (l : List Peer). i.done ++ l) todo ∙ sym (append_assoc i.done (k.0 ∷ []) (drop (suc at) o.state.peers));
      carried = subst (CarriesOut n before b2 []) (sym one) (both_carried t n before b b2 [] [] o (λ u. tells u k.0 (Tick u.clock)) i.carried r.0);
      rest = ap (λ (u : ScriptOutcome). drop next u.state.peers) one ∙ r.1 ∙ ap (λ m. drop m o.state.peers) (add-one at);
    }

-- Nobody is left.
pub ticks_end : (t : ScriptHub) (before b : List ℕ) (ms at : ℕ) (s : State) (i : Ticks before b ms t at s) → length t.peers.entries ≤ at → CarriesOut t before b [] (after s ms s.peers)
ticks_end t before b ms at s i past =
    let o = after s ms i.done in
    let long : length o.state.peers ≤ at = subst (λ m. m ≤ at) (sym (names_length t o.state.peers (indexed t o.state i.carried.stands))) past in
    let none : i.todo ≡ [] = sym i.rest ∙ drop_of_length-le o.state.peers long in
    let all : s.peers ≡ i.done = i.all ∙ ap (λ (l : List Peer). i.done ++ l) none ∙ append-nil i.done in
    subst (λ l. CarriesOut t before b [] (after s ms l)) (sym all) i.carried

-- Fewer are left after one is told.
pub fewer : (t n : ScriptHub) (at next : ℕ) (u v : State) → ScriptStands t u → ScriptStands n v → at < length t.peers.entries → drop next v.peers ≡ drop (at + 1) u.peers
    → length n.peers.entries - next < length t.peers.entries - at
fewer t n at next u v h g within rest =
    let a : length u.peers ≡ length t.peers.entries = names_length t u.peers (indexed t u h) in
    let b : length v.peers ≡ length n.peers.entries = names_length n v.peers (indexed n v g) in
    let l : length v.peers - next ≡ length u.peers - (at + 1) = sym (length-drop next v.peers) ∙ ap length rest ∙ length-drop (at + 1) u.peers in
    omega arith

-- ---- whether the clock may be set

pub clock_set : (s : State) (ms : ℕ) → s.clock ≤ ms → ms ≤ latest → ticks s ms ≡ Some (after s ms s.peers)
clock_set s ms low high = ap (λ b. cond b (Some (after s ms s.peers)) None) (both s.clock ms latest low high)
  where
    both : (a b c : ℕ) → a ≤ b → b ≤ c → (nat_le a b && nat_le b c) ≡ true
    both a b c h g = grind (arith, nat_tests)
