-- An outbox is emptied, and who had it is settled; or it isn't to be.
-- It serves the clauses of `empty_at`, `empty_one` and `is_to_empty`.
use Rattle.std.proofs.Common.{◌≡◌, ◌≢◌, ℕ, zero, suc, ◌+◌, ◌-◌, ◌==◌, ◌<◌, nat_lt, Bool, true, false, not, cond, ◌&&◌, ◌||◌, List, [], ◌∷◌, ◌++◌, length, take, drop, slice_get}
use Rattle.std.proofs.Common.{Some, None, MatchOption, is_some, true≢false, refl, ap, sym, ◌∙◌, subst, arith, length-append, length-drop, drop_of_length-le}
use Rattle.std.specs.List.{AllByRecursion, list_all}
use Rattle.std.proofs.lemmas.Bool.{and_parts, false_from_ne_true, eqb-true}
use Rattle.bsc_history.specs.declared.limits.About.{About}
use Rattle.bsc_history.specs.declared.entry.Entry.{Entry}
use Rattle.bsc_history.specs.declared.ending.End.{End}
use Rattle.bsc_history.specs.declared.ending.End.TheVariants.{Left}
use Rattle.bsc_history.specs.Ends.{ended}
use Rattle.bsc_history.specs.Laws.{is_among}
use Rattle.bsc_history.specs.Outboxes.{sent}
use Rattle.bsc_hub_core.specs.declared.outbox.Outbox.{Outbox}
use Rattle.bsc_hub_core.specs.Calls.{has_due}
use Rattle.bsc_hub_core.specs.Standing.{CoreStands, HasOutbox, outbox_at}
use Rattle.bsc_checks.specs.declared.phase.Phase.{Phase}
use Rattle.bsc_accept.specs.declared.accepting.Accepting.{Accepting}
use Rattle.bsc_accept.specs.declared.event.Event.TheVariants.{Ended}
use Rattle.bsc_accept.specs.declared.stage.Stage.{Stage}
use Rattle.bsc_accept.specs.declared.stage.Stage.TheVariants.{AwaitingRequest, Asked, Connected, Disconnecting, Idle}
use Rattle.bsc_accept.specs.declared.start.Start.{Start}
use Rattle.bsc_accept.specs.declared.event.Event.{Event}
use Rattle.bsc_accept.specs.Past.{phase, phase_named}
use Rattle.bsc_accept.specs.Standing.{AcceptingStands, IsConnected, is_open, phase_at, phase_of}
use Rattle.bsc_accept.specs.Kept.{standing_at}
use Rattle.bsc_accept.proofs.Following.{standing_of_open}
use Rattle.bsc_script.specs.declared.peer.Peer.{Peer as KeptPeer}
use Rattle.bsc_script.specs.declared.script_hub.ScriptHub.{ScriptHub}
use Rattle.bsc_script.specs.States.{State, Peer, start_at, has_joined_as, peer_on, with_peer}
use Rattle.bsc_script.specs.Carrying.{quietly, tells}
use Rattle.bsc_script.specs.Emptying.{is_connected, unwritten, due_after, emptied_after, is_emptied, given_frames, found_empty, ends_as, empties, frame_lines, emptied_if, emptied_on}
use Rattle.bsc_script.specs.Settled.{IsSettledBut, SettledBut, ascends}
use Rattle.bsc_script.specs.Holding.{IsPeer, ScriptStands, StandsAt, IsAt, IsToEmpty, KeepsAt, CarriesOut, ConnsApart, conn_of, kept_in}
use Rattle.bsc_script.specs.Between.{IsJoinedAt, IsOpenPeer, IsWritten}
use Rattle.bsc_history.proofs.Lists.{In, all_from_In, In_from_all, find_says}
use Rattle.bsc_script.proofs.Pairs.{pair_at, partner_of, In-at}
use Rattle.bsc_script.proofs.Entered.{joined_peer}
use Rattle.bsc_script.proofs.Names.{names_length}
use Rattle.bsc_script.proofs.Peers.{conn_has}
use Rattle.bsc_script.proofs.Changes.{indexed, at_changed, settled_at, settled_one}
use Rattle.bsc_script.proofs.Carried.{lines_carried, quiet_carried}
use Rattle.bsc_script.proofs.Common.{connected_only}

-- ---- what is left of an outbox

nothing_left : (whole front : List (List ℕ)) → drop (length (front ++ drop (length front) whole)) whole ≡ []
nothing_left whole front =
    let all : length (front ++ drop (length front) whole) ≡ length front + (length whole - length front) = length-append front (drop (length front) whole)
    ∙ ap (λ (n : ℕ). length front + n) (length-drop (length front) whole) in
    drop_of_length-le whole (omega arith)

-- A live connection whose frames are all written has nothing due.
not_due : (a : About) (H : List Entry) (k : Peer) (c : ℕ) → ended H c ≡ None → due_after a H (found_empty (given_frames (drop (length k.frames) (sent a H c)) k)) c ≡ false
not_due a H k c live =
    ap (λ (l : List (List ℕ)). not (length l == 0) || is_some (ended H c)) (nothing_left (sent a H c) k.frames)
    ∙ ap is_some live

-- ---- one outbox is emptied

pub written_joined : (t : ScriptHub) (at c : ℕ) (ds : List ℕ) (s : State) (k : Peer) → IsToEmpty t at c ds s k → IsJoinedAt t at c s k
written_joined t at c ds s k w = record { stands = w.place.stands; here = w.place.here; conn = w.conn }

-- Its connection is live.
pub live_emptied : (t n : ScriptHub) (at c : ℕ) (ds : List ℕ) (s : State) (k : Peer) (before after : List ℕ) → IsToEmpty t at c ds s k → IsWritten n at c s k None before after
    → CarriesOut n before after ds (empties s k c)
live_emptied t n at c ds s k before after w r =
    let frames = unwritten s k c in
    let j : Peer = found_empty (given_frames frames k) in
    let live : ended s.history c ≡ None = sym r.ends in
    let place : StandsAt n at ds (with_peer j s) j = at_changed t n s at ds k j w.place refl r.stands in
    let own : IsSettledBut ds s.about s.history j = record {
      ready = w.own.ready;
      fits = w.own.fits;
      emptied = λ b e u. (
          let same : c ≡ b = one c b (sym w.conn ∙ e) in
          let due = (and_parts (is_connected (phase k.events) && not k.held) (due_after s.about s.history j b) u).1 in
          absurd (true≢false (sym due ∙ subst (λ d. due_after s.about s.history j d ≡ false) same (not_due s.about s.history k c live))));
    } in
    subst (λ o. CarriesOut n before after ds (record { state = (ends_as s (given_frames frames k) o).state; said = frame_lines k.name frames ++ (ends_as s (given_frames frames k) o).said }))
    (sym live)
    (lines_carried n before after after ds (frame_lines k.name frames) (quietly (with_peer j s)) r.text
    (quiet_carried n after ds (with_peer j s) r.stands (settled_at n at ds (with_peer j s) j place own)))
  where
    one : (a b : ℕ) → Some a ≡ Some b → a ≡ b
    one a b e = cc

-- Its connection has ended: the machine is told.
pub ended_place : (t n : ScriptHub) (at c : ℕ) (ds : List ℕ) (s : State) (k : Peer) (ending : End) (before after : List ℕ) → IsToEmpty t at c ds s k → IsWritten n at c s k (Some ending) before after
    → StandsAt n at ds (with_peer (given_frames (unwritten s k c) k) s) (given_frames (unwritten s k c) k)
ended_place t n at c ds s k ending before after w r = at_changed t n s at ds k (given_frames (unwritten s k c) k) w.place refl r.stands

pub ended_emptied : (n m : ScriptHub) (at c : ℕ) (ds : List ℕ) (s : State) (k : Peer) (ending : End) (before mid after : List ℕ) → IsWritten n at c s k (Some ending) before mid
    → CarriesOut m mid after ds (tells (with_peer (given_frames (unwritten s k c) k) s) (given_frames (unwritten s k c) k) (Ended s.clock ending)) → CarriesOut m before after ds (empties s k c)
ended_emptied n m at c ds s k ending before mid after r h =
    let frames = unwritten s k c in
    subst (λ o. CarriesOut m before after ds (record { state = (ends_as s (given_frames frames k) o).state; said = frame_lines k.name frames ++ (ends_as s (given_frames frames k) o).said })) r.ends
    (lines_carried m before mid after ds (frame_lines k.name frames) (tells (with_peer (given_frames frames k) s) (given_frames frames k) (Ended s.clock ending)) r.text h)

pub not_left : (ending : End) → Some ending ≢ Some Left → ending ≢ Left
not_left ending h e = h (ap Some e)

-- ---- the phase that the machine is in

by_stage : (waits : Stage) → is_open waits ≡ true → phase_at waits ≡ phase_named (standing_at waits)
by_stage AwaitingRequest o = refl
by_stage (Asked id) o = absurd (true≢false (sym o))
by_stage Connected o = refl
by_stage (Disconnecting f) o = refl
by_stage Idle o = absurd (true≢false (sym o))

pub open_phase : (m : Accepting) (i : Start) (E : List Event) → AcceptingStands m i E → is_open m.stage ≡ true → phase_of m ≡ phase E
open_phase m i E h o = by_stage m.stage o ∙ ap phase_named (sym (standing_of_open m i E h o))

-- The machine of a peer whose outbox is emptied is connected.
pub ended_connected : (n : ScriptHub) (at c : ℕ) (ds : List ℕ) (s : State) (k : Peer) (ending : End) (t : ScriptHub) (before after : List ℕ) → IsToEmpty t at c ds s k
    → IsWritten n at c s k (Some ending) before after → KeepsAt n at (λ p. IsConnected p.machine)
ended_connected n at c ds s k ending t before after w r = λ e is. (
    let j : Peer = given_frames (unwritten s k c) k in
    let place = ended_place t n at c ds s k ending before after w r in
    let p = pair_at (IsPeer n.core s.history) (with_peer j s).peers (kept_in n) at j e r.stands.peers place.here is in
    let m : AcceptingStands e.1.machine (start_at s.about k) k.events = subst (λ a. AcceptingStands e.1.machine (start_at a k) k.events) r.stands.about p.machine in
    let opened : is_open e.1.machine.stage ≡ true = ap is_open m.stage ∙ w.own.ready in
    let parts = and_parts (is_connected (phase k.events) && not k.held) (due_after s.about s.history k c) w.emptied in
    open_phase e.1.machine (start_at s.about k) k.events m opened ∙ connected_only (phase k.events) (and_parts (is_connected (phase k.events)) (not k.held) parts.0).0)

-- ---- whether it is to be

-- What is kept of a peer says whether its outbox is to be emptied, with what its core says is due.
pub emptied_by : (t : ScriptHub) (s : State) (at : ℕ) (k : Peer) (c : ℕ) (p : KeptPeer) (due b : Bool) → IsJoinedAt t at c s k → IsOpenPeer s k → KeepsAt t at (λ q. p ≡ q)
    → ((H : List Entry) (x : Outbox) → CoreStands t.core H → outbox_at t.core c ≡ Some x → due ≡ has_due t.core H c x) → b ≡ (is_connected (phase_of p.machine) && not p.held && due)
    → b ≡ is_emptied s k c
emptied_by t s at k c p due b w opened keeps says is =
    let h = w.stands in
    let e = partner_of (IsPeer t.core s.history) s.peers (kept_in t) at k h.peers w.here in
    let q = e.2 in
    let own = joined_peer t.core s.history k c e.0.1.joined q.joined w.conn in
    let m : AcceptingStands e.0.1.machine (start_at s.about k) k.events = subst (λ a. AcceptingStands e.0.1.machine (start_at a k) k.events) h.about q.machine in
    let in_phase : phase_of e.0.1.machine ≡ phase k.events = open_phase e.0.1.machine (start_at s.about k) k.events m (ap is_open m.stage ∙ opened) in
    let due_is : due ≡ due_after s.about s.history k c =
    says s.history own.outbox h.core own.there
    ∙ ap (λ (f : List (List ℕ)). not (length (drop (length f) (sent t.core.about s.history c)) == 0) || is_some (ended s.history c)) own.frames
    ∙ ap (λ (a : About). due_after a s.history k c) h.about in
    is ∙ ap (λ (x : KeptPeer). is_connected (phase_of x.machine) && not x.held && due) (keeps e.0 e.1)
    ∙ ap (λ (y : Phase). is_connected y && not e.0.1.held && due) in_phase
    ∙ ap (λ (y : Bool). is_connected (phase k.events) && not y && due) (sym q.held)
    ∙ ap (λ (y : Bool). is_connected (phase k.events) && not k.held && y) due_is

-- Who has joined has an outbox.
pub may_ask : (t : ScriptHub) (at c : ℕ) (s : State) (k : Peer) → IsJoinedAt t at c s k → HasOutbox t.core c × ((H : List Entry) × CoreStands t.core H)
may_ask t at c s k w =
    let e = partner_of (IsPeer t.core s.history) s.peers (kept_in t) at k w.stands.peers w.here in
    (ap is_some (joined_peer t.core s.history k c e.0.1.joined e.2.joined w.conn).there, (s.history, w.stands.core))

-- ---- who is settled beside

settled_beside : (c : ℕ) (ds : List ℕ) (a : About) (H : List Entry) (j : Peer) → j.conn ≢ Some c → IsSettledBut (c ∷ ds) a H j → IsSettledBut ds a H j
settled_beside c ds a H j other h = record {
  ready = h.ready;
  fits = h.fits;
  emptied = λ b e w. (
      let apart : (c == b) ≡ false = false_from_ne_true (c == b) (λ t. other (e ∙ ap Some (sym (eqb-true c b t)))) in
      sym (ap (λ (t : Bool). t || is_among b ds) apart) ∙ h.emptied b e w);
}

both_of : (P Q R : Peer → Type 0) (ks : List Peer) → ((j : Peer) → P j → Q j → R j) → AllByRecursion P ks → AllByRecursion Q ks → AllByRecursion R ks
both_of P Q R [] f p q = tt
both_of P Q R (k ∷ ks) f p q = (f k p.0 q.0, both_of P Q R ks f p.1 q.1)

beside_take : (P Q : Peer → Type 0) (ks : List Peer) (at : ℕ) (k : Peer) (c : ℕ) → ((j : Peer) → j.conn ≢ Some c → P j → Q j) → ConnsApart ks → slice_get ks at ≡ Some k
    → k.conn ≡ Some c → AllByRecursion P ks → AllByRecursion Q (take at ks)
beside_take P Q [] zero k c f h g e all = tt
beside_take P Q [] (suc at) k c f h g e all = tt
beside_take P Q (p ∷ ks) zero k c f h g e all = tt
beside_take P Q (p ∷ ks) (suc at) k c f h g e all =
    (f p (λ s. In_from_all (λ (j : Peer). (d : ℕ) → p.conn ≡ Some d → j.conn ≡ Some d → ⊥) k ks h.0 (In-at ks at k g) c s e) all.0, beside_take P Q ks at k c f h.1 g e all.1)

beside_drop : (P Q : Peer → Type 0) (ks : List Peer) (at : ℕ) (k : Peer) (c : ℕ) → ((j : Peer) → j.conn ≢ Some c → P j → Q j) → ConnsApart ks → slice_get ks at ≡ Some k
    → k.conn ≡ Some c → AllByRecursion P ks → AllByRecursion Q (drop (suc at) ks)
beside_drop P Q [] at k c f h g e all = tt
beside_drop P Q (p ∷ ks) zero k c f h g e all =
    both_of (λ (j : Peer). (d : ℕ) → p.conn ≡ Some d → j.conn ≡ Some d → ⊥) P Q ks (λ j a b. f j (λ s. a c (ap conn_of (one p k g) ∙ e) s) b) h.0 all.1
  where
    one : (u v : Peer) → Some u ≡ Some v → u ≡ v
    one u v x = cc
beside_drop P Q (p ∷ ks) (suc at) k c f h g e all = beside_drop P Q ks at k c f h.1 g e all.1

-- Beside who is on a connection all are settled but for the others.
pub beside_at : (t : ScriptHub) (s : State) (at c : ℕ) (ds : List ℕ) (k : Peer) → ScriptStands t s → SettledBut (c ∷ ds) s → IsAt at k s → k.conn ≡ Some c → StandsAt t at ds s k
beside_at t s at c ds k h g here conn =
    let P : Peer → Type 0 = IsSettledBut (c ∷ ds) s.about s.history in
    let Q : Peer → Type 0 = IsSettledBut ds s.about s.history in
    record {
      stands = h;
      here = here;
      before = beside_take P Q s.peers at k c (λ j other p. settled_beside c ds s.about s.history j other p) h.conns here conn g.peers;
      behind = beside_drop P Q s.peers at k c (λ j other p. settled_beside c ds s.about s.history j other p) h.conns here conn g.peers;
      order = (and_parts (list_all (nat_lt c) ds) (ascends ds) g.order).1;
    }

-- ---- where nothing is emptied

-- The name of the connection isn't open.
pub unopened : (t : ScriptHub) (s : State) (c : ℕ) (ds b : List ℕ) → ScriptStands t s → SettledBut (c ∷ ds) s → peer_on s c ≡ None → CarriesOut t b b ds (emptied_on s c)
unopened t s c ds b h g none =
    let says = subst (λ o. MatchOption o ((x : Peer) → In x s.peers → has_joined_as c x ≡ false) (λ x. In x s.peers × (has_joined_as c x ≡ true))) none (find_says (has_joined_as c) s.peers) in
    subst (λ o. CarriesOut t b b ds (emptied_if s c o)) (sym none)
    (quiet_carried t b ds s h (record {
      peers = all_from_In (IsSettledBut ds s.about s.history) s.peers (λ j m. settled_beside c ds s.about s.history j (λ e. true≢false (sym (conn_has c j e) ∙ says j m))
          (In_from_all (IsSettledBut (c ∷ ds) s.about s.history) j s.peers g.peers m));
      order = (and_parts (list_all (nat_lt c) ds) (ascends ds) g.order).1;
    }))

-- Its outbox isn't to be emptied.
pub unemptied : (t : ScriptHub) (s : State) (at c : ℕ) (ds b : List ℕ) (k : Peer) → ScriptStands t s → SettledBut (c ∷ ds) s → IsAt at k s → k.conn ≡ Some c → peer_on s c ≡ Some k
    → is_emptied s k c ≡ false → CarriesOut t b b ds (emptied_on s c)
unemptied t s at c ds b k h g here conn on off =
    let own : IsSettledBut (c ∷ ds) s.about s.history k = settled_one at (c ∷ ds) s k g here in
    let rest : IsSettledBut ds s.about s.history k = record {
      ready = own.ready;
      fits = own.fits;
      emptied = λ d e w. absurd (true≢false (sym w ∙ subst (λ n. emptied_after s.about s.history k n ≡ false) (one c d (sym conn ∙ e)) off));
    } in
    subst (λ o. CarriesOut t b b ds (emptied_if s c o)) (sym on)
    (subst (λ (u : Bool). CarriesOut t b b ds (cond u (empties s k c) (quietly s))) (sym off)
    (quiet_carried t b ds s h (settled_at t at ds s k (beside_at t s at c ds k h g here conn) rest)))
  where
    one : (a b : ℕ) → Some a ≡ Some b → a ≡ b
    one a b x = cc

-- What is asked where it is to be emptied, and what is carried out then.
pub to_empty : (t : ScriptHub) (s : State) (at c : ℕ) (ds : List ℕ) (k : Peer) → ScriptStands t s → SettledBut (c ∷ ds) s → IsAt at k s → k.conn ≡ Some c → is_emptied s k c ≡ true
    → IsToEmpty t at c ds s k
to_empty t s at c ds k h g here conn on = record { place = beside_at t s at c ds k h g here conn; conn = conn; own = settled_one at (c ∷ ds) s k g here; emptied = on }

pub emptied_there : (n : ScriptHub) (s : State) (c : ℕ) (ds b a : List ℕ) (k : Peer) → peer_on s c ≡ Some k → is_emptied s k c ≡ true → CarriesOut n b a ds (empties s k c)
    → CarriesOut n b a ds (emptied_on s c)
emptied_there n s c ds b a k on due h =
    subst (λ o. CarriesOut n b a ds (emptied_if s c o)) (sym on) (subst (λ (u : Bool). CarriesOut n b a ds (cond u (empties s k c) (quietly s))) (sym due) h)

get_within : (ks : List Peer) (at : ℕ) (k : Peer) → slice_get ks at ≡ Some k → at < length ks
get_within [] at k h = cc
get_within (p ∷ ks) zero k h = omega arith
get_within (p ∷ ks) (suc at) k h = (let r = get_within ks at k h in omega arith)

-- Where a peer stands is a place.
pub placed_within : (n : ScriptHub) (s : State) (at : ℕ) (k : Peer) → ScriptStands n s → IsAt at k s → at < length n.peers.entries
placed_within n s at k h here = subst (λ m. at < m) (names_length n s.peers (indexed n s h)) (get_within s.peers at k here)
