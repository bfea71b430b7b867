-- A hub of which one open name is changed.
-- It serves clauses of functions of `script_hub`.
use Rattle.std.proofs.Common.{◌≡◌, ℕ, zero, suc, ◌<◌, Bool, List, [], ◌∷◌, ◌++◌, map, set, take, drop, find, slice_get, Option, Some, None, is_some, Vec, Global, refl, ap, sym, ◌∙◌, subst}
use Rattle.std.specs.List.{AllByRecursion}
use Rattle.std.specs.Ordering.{nat_cmp}
use Rattle.std.specs.BTreeMap.{get}
use Rattle.indexmap.specs.IndexMap.{set_value_at, with_value_at, index_map_len}
use Rattle.indexmap.proofs.CallerLemmas.{index_map_len-with_value_at}
use Rattle.bsc_history.specs.Marks.{entries}
use Rattle.bsc_accept.specs.declared.accepting.Accepting.{Accepting}
use Rattle.bsc_accept.specs.declared.event.Event.{Event}
use Rattle.bsc_accept.specs.declared.step.Step.{Step}
use Rattle.bsc_accept.specs.Standing.{AcceptingAnswers, AcceptingStands}
use Rattle.bsc_history.specs.declared.entry.Entry.{Entry}
use Rattle.bsc_hub_core.specs.declared.hub_core.HubCore.{HubCore}
use Rattle.bsc_hub_core.specs.Standing.{CoreStands}
use Rattle.bsc_script.specs.declared.peer.Peer.{Peer as KeptPeer}
use Rattle.bsc_script.specs.declared.script_hub.ScriptHub.{ScriptHub}
use Rattle.bsc_script.specs.States.{State, Peer, start_at, has_joined_as, peer_on, told, with_held, with_peer}
use Rattle.bsc_script.specs.Carrying.{step_of}
use Rattle.bsc_script.specs.Settled.{IsSettledBut, SettledBut}
use Rattle.bsc_script.specs.Holding.{IsJoinedIf, IsPeer, ArePeers, name_of, conn_of, kept_in, kept_conn, IsIndexed, IsOfSome, ScriptStands, StandsAt, IsAt, KeepsAt}
use Rattle.bsc_script.proofs.Pairs.{pair_at, partner_of, partner_to, Pairs-set, Pairs-map, take-set, drop-set, map-set, get-map, all-take, all-drop, all-join}
use Rattle.bsc_script.proofs.Peers.{changed, ConnsApart-same, found_same, some_name}
use Rattle.bsc_script.proofs.Pairs.{Apart-same}
use Rattle.bsc_lemmas.proofs.Lists.{all-at, get-set}

-- ---- what is kept

-- a peer as it is kept, with its name as octets
abbrev pub kept : Vec ℕ Global × KeptPeer → List ℕ × KeptPeer
kept e = (e.0.items, e.1)

pub kept-set : (es : List (Vec ℕ Global × KeptPeer)) (i : ℕ) (v : Vec ℕ Global) (p w : KeptPeer) → slice_get es i ≡ Some (v, p) → map kept (set_value_at es i w) ≡ set (map kept es) i (v.items, w)
kept-set [] i v p w h = cc
kept-set (e ∷ es) zero v p w h = ap (λ (x : Vec ℕ Global × KeptPeer). (x.0.items, w) ∷ map kept es) (first e (v, p) h)
  where
    first : (a b : Vec ℕ Global × KeptPeer) → Some a ≡ Some b → a ≡ b
    first a b g = cc
kept-set (e ∷ es) (suc i) v p w h = ap (λ (l : List (List ℕ × KeptPeer)). kept e ∷ l) (kept-set es i v p w h)

-- the connection of a peer, by what is kept of it
pub conn_kept : (K : HubCore) (H : List Entry) (k : Peer) (o : Option ℕ) → IsJoinedIf K H k o → k.conn ≡ o
conn_kept K H k None p = p.0
conn_kept K H k (Some c) p = p.0

-- Of a hub that stands for a state the names and connections are kept of its peers.
pub indexed : (t : ScriptHub) (s : State) → ScriptStands t s → IsIndexed t s.peers
indexed t s h = record {
  apart = h.apart;
  names = Pairs-map (IsPeer t.core s.history) name_of (λ e. e.0) s.peers (kept_in t) (λ k e p. p.name) h.peers;
  conns = Pairs-map (IsPeer t.core s.history) conn_of kept_conn s.peers (kept_in t) (λ k e p. conn_kept t.core s.history k e.1.joined p.joined) h.peers;
  index = h.names;
}

-- ---- one peer

-- What a peer that has joined has is the same, where its connection, its frames and the count of empty takes are.
pub joined_kept : (K : HubCore) (H : List Entry) (k j : Peer) (o : Option ℕ) → j.conn ≡ k.conn → j.frames ≡ k.frames → j.empties ≡ k.empties → IsJoinedIf K H k o → IsJoinedIf K H j o
joined_kept K H k j None c f e p = (c ∙ p.0, f ∙ p.1, e ∙ p.2)
joined_kept K H k j (Some x) c f e p = (
  c ∙ p.0,
  record {
    joiner = p.1.joiner;
    outbox = p.1.outbox;
    there = p.1.there;
    frames = p.1.frames ∙ sym f;
    empties = p.1.empties ∙ sym e;
  },
)

-- The machine of a peer is told something, and goes on so.
pub told_peer : (K : HubCore) (H : List Entry) (k : Peer) (x : List ℕ × KeptPeer) (e : Event) (m : Accepting) → IsPeer K H k x
    → AcceptingStands m (start_at K.about k) (k.events ++ e ∷ []) → IsPeer K H (told e k) (x.0, record x.1 { machine = m })
told_peer K H k x e m p h = record {
  name = p.name;
  machine = h;
  held = p.held;
  joined = joined_kept K H k (told e k) x.1.joined refl refl refl p.joined;
}

-- A peer is held, or freed.
pub held_peer : (K : HubCore) (H : List Entry) (k : Peer) (x : List ℕ × KeptPeer) (held : Bool) → IsPeer K H k x → IsPeer K H (with_held held k) (x.0, record x.1 { held = held })
held_peer K H k x held p = record {
  name = p.name;
  machine = p.machine;
  held = refl;
  joined = joined_kept K H k (with_held held k) x.1.joined refl refl refl p.joined;
}

-- ---- the hub

-- the peers after one is changed, that stands at a place
pub peers_changed : (t : ScriptHub) (s : State) (at : ℕ) (k j : Peer) → ScriptStands t s → IsAt at k s → j.name ≡ k.name → (with_peer j s).peers ≡ set s.peers at j
peers_changed t s at k j h here name = changed s.peers at k j h.apart here name

-- One peer is changed, with its name and its connection kept: the hub stands for the state with that peer.
pub stands_changed : (t n : ScriptHub) (s : State) (at : ℕ) (k j : Peer) (x e : List ℕ × KeptPeer)
    → ScriptStands t s → IsAt at k s → j.name ≡ k.name → j.conn ≡ k.conn
    → n.core ≡ t.core → n.about ≡ t.about → n.clock ≡ t.clock → n.names ≡ t.names
    → slice_get (kept_in t) at ≡ Some x → kept_in n ≡ set (kept_in t) at e
    → (IsPeer t.core s.history k x → IsPeer t.core s.history j e)
    → ScriptStands n (with_peer j s)
stands_changed t n s at k j x e h here name conn core about clock names was kept_so new =
    let ps : List Peer = (with_peer j s).peers in
    let ks : ps ≡ set s.peers at j = peers_changed t s at k j h here name in
    let ns : map name_of ps ≡ map name_of s.peers = ap (map name_of) ks ∙ map-set name_of s.peers at k j here name in
    let cs : map conn_of ps ≡ map conn_of s.peers = ap (map conn_of) ks ∙ map-set conn_of s.peers at k j here conn in
    let own = partner_of (IsPeer t.core s.history) s.peers (kept_in t) at k h.peers here in
    let same : own.0 ≡ x = one own.0 x (sym own.1 ∙ was) in
    let pair : IsPeer t.core s.history j e = new (subst (IsPeer t.core s.history k) same own.2) in
    let all : ArePeers t.core s.history (set s.peers at j) (set (kept_in t) at e) = Pairs-set (IsPeer t.core s.history) s.peers (kept_in t) at j e h.peers pair in
    record {
      core = subst (λ d. CoreStands d s.history) (sym core) h.core;
      about = ap (λ d. d.about) core ∙ h.about;
      same_hub = about ∙ h.same_hub;
      clock = clock ∙ h.clock;
      peers = subst (λ d. ArePeers d s.history ps (kept_in n)) (sym core)
          (subst (λ l. ArePeers t.core s.history l (kept_in n)) (sym ks) (subst (λ es. ArePeers t.core s.history (set s.peers at j) es) (sym kept_so) all));
      apart = Apart-same name_of name_of s.peers ps (sym ns) h.apart;
      conns = ConnsApart-same s.peers ps (sym cs) h.conns;
      names = λ c. ap (λ m. get nat_cmp m c) names ∙ h.names c ∙ found_same c s.peers ps (sym ns) (sym cs);
      joined = λ c u. sym (some_name (find (has_joined_as c) ps)) ∙ ap is_some (found_same c ps s.peers ns cs) ∙ some_name (peer_on s c) ∙ h.joined c u;
    }
  where
    one : (a b : List ℕ × KeptPeer) → Some a ≡ Some b → a ≡ b
    one a b g = cc

-- and the changed peer stands at its place, the others being settled as before
pub at_changed : (t n : ScriptHub) (s : State) (at : ℕ) (cs : List ℕ) (k j : Peer) → StandsAt t at cs s k → j.name ≡ k.name → ScriptStands n (with_peer j s) → StandsAt n at cs (with_peer j s) j
at_changed t n s at cs k j h name new =
    let ps : List Peer = (with_peer j s).peers in
    let ks : ps ≡ set s.peers at j = peers_changed t s at k j h.stands h.here name in
    let P : Peer → Type 0 = IsSettledBut cs s.about s.history in
    record {
      stands = new;
      here = ap (λ l. slice_get l at) ks ∙ get-set s.peers at k j h.here;
      before = subst (λ l. AllByRecursion P (take at l)) (sym ks) (subst (AllByRecursion P) (sym (take-set s.peers at j)) h.before);
      behind = subst (λ l. AllByRecursion P (drop (suc at) l)) (sym ks) (subst (AllByRecursion P) (sym (drop-set s.peers at j)) h.behind);
      order = h.order;
    }

-- With the peer at the place settled all are.
pub settled_at : (t : ScriptHub) (at : ℕ) (cs : List ℕ) (s : State) (k : Peer) → StandsAt t at cs s k → IsSettledBut cs s.about s.history k → SettledBut cs s
settled_at t at cs s k h own = record { peers = all-join (IsSettledBut cs s.about s.history) s.peers at k h.here h.before h.behind own; order = h.order }

-- Where all are settled, those beside one are.
pub at_settled : (t : ScriptHub) (at : ℕ) (cs : List ℕ) (s : State) (k : Peer) → ScriptStands t s → SettledBut cs s → IsAt at k s → StandsAt t at cs s k
at_settled t at cs s k h all here = record {
  stands = h;
  here = here;
  before = all-take (IsSettledBut cs s.about s.history) s.peers at all.peers;
  behind = all-drop (IsSettledBut cs s.about s.history) s.peers (suc at) all.peers;
  order = all.order;
}

pub settled_one : (at : ℕ) (cs : List ℕ) (s : State) (k : Peer) → SettledBut cs s → IsAt at k s → IsSettledBut cs s.about s.history k
settled_one at cs s k all here = all-at (IsSettledBut cs s.about s.history) s.peers at k all.peers here

-- ---- what the machine is told

-- The machine of the peer at a place is told something: the hub stands for the state with that, and the step is the one
-- that the state says.
pub told_stands : (t n : ScriptHub) (s : State) (at : ℕ) (k : Peer) (x : List ℕ × KeptPeer) (e : Event) (m : Accepting) (answer : Step)
    → ScriptStands t s → IsAt at k s → slice_get (kept_in t) at ≡ Some x → AcceptingAnswers x.1.machine m e answer
    → n.core ≡ t.core → n.about ≡ t.about → n.clock ≡ t.clock → n.names ≡ t.names
    → kept_in n ≡ set (kept_in t) at (x.0, record x.1 { machine = m })
    → ScriptStands n (with_peer (told e k) s) × (answer ≡ step_of s k e) × AcceptingStands m (start_at s.about k) (k.events ++ e ∷ [])
told_stands t n s at k x e m answer h here was answers core about clock names kept_so =
    let own = partner_of (IsPeer t.core s.history) s.peers (kept_in t) at k h.peers here in
    let same : own.0 ≡ x = one own.0 x (sym own.1 ∙ was) in
    let pair : IsPeer t.core s.history k x = subst (IsPeer t.core s.history k) same own.2 in
    let machine : AcceptingStands x.1.machine (start_at s.about k) k.events = subst (λ a. AcceptingStands x.1.machine (start_at a k) k.events) h.about pair.machine in
    let next = answers (start_at s.about k) k.events machine in (
      stands_changed t n s at k (told e k) x (x.0, record x.1 { machine = m }) h here refl refl core about clock names was kept_so
          (λ p. told_peer t.core s.history k x e m p (answers (start_at t.core.about k) k.events p.machine).1),
      next.0,
      next.1,
    )
  where
    one : (a b : List ℕ × KeptPeer) → Some a ≡ Some b → a ≡ b
    one a b g = cc

pub kept_with : (t n : ScriptHub) (at : ℕ) (x : Vec ℕ Global × KeptPeer) (p : KeptPeer) → slice_get t.peers.entries at ≡ Some x → n.peers ≡ with_value_at t.peers at p
    → kept_in n ≡ set (kept_in t) at (x.0.items, p)
kept_with t n at x p was new = ap (λ m. map kept m.entries) new ∙ kept-set t.peers.entries at x.0 x.1 p was

-- A place is one still, once what stands there is changed.
pub within_still : (t : ScriptHub) (at : ℕ) (p : KeptPeer) → at < index_map_len t.peers → at < index_map_len (with_value_at t.peers at p)
within_still t at p h = subst (λ n. at < n) (sym (index_map_len-with_value_at t.peers at p)) h

-- The machine of the peer at a place is told something: as above, of the place.
pub told_at : (t n : ScriptHub) (s : State) (at : ℕ) (cs : List ℕ) (k : Peer) (x : Vec ℕ Global × KeptPeer) (e : Event) (m : Accepting) (answer : Step)
    → StandsAt t at cs s k → slice_get t.peers.entries at ≡ Some x → AcceptingAnswers x.1.machine m e answer
    → n.core ≡ t.core → n.about ≡ t.about → n.clock ≡ t.clock → n.names ≡ t.names → n.peers ≡ with_value_at t.peers at (record x.1 { machine = m })
    → StandsAt n at cs (with_peer (told e k) s) (told e k) × (answer ≡ step_of s k e) × AcceptingStands m (start_at s.about k) (k.events ++ e ∷ [])
told_at t n s at cs k x e m answer h was answers core about clock names new =
    let r = told_stands t n s at k (kept x) e m answer h.stands h.here (get-map kept t.peers.entries at x was) answers core about clock names
    (kept_with t n at x (record x.1 { machine = m }) was new) in
    (at_changed t n s at cs k (told e k) h refl r.0, r.1, r.2)

-- Some peer stands at each place that there is.
pub some_at : (t : ScriptHub) (s : State) (at : ℕ) (x : Vec ℕ Global × KeptPeer) (h : ScriptStands t s) → slice_get t.peers.entries at ≡ Some x
    → (k : Peer) × IsAt at k s × IsPeer t.core s.history k (kept x)
some_at t s at x h was = partner_to (IsPeer t.core s.history) s.peers (kept_in t) at (kept x) h.peers (get-map kept t.peers.entries at x was)

-- What is kept at a place is kept of the peer there.
pub kept_at : (t : ScriptHub) (s : State) (at : ℕ) (k : Peer) (x : Vec ℕ Global × KeptPeer) (h : ScriptStands t s) → IsAt at k s → slice_get t.peers.entries at ≡ Some x
    → IsPeer t.core s.history k (kept x)
kept_at t s at k x h here was = pair_at (IsPeer t.core s.history) s.peers (kept_in t) at k (kept x) h.peers here (get-map kept t.peers.entries at x was)

-- What is known of the peer that is kept at a place.
pub keeps_at : (t : ScriptHub) (at : ℕ) (x : Vec ℕ Global × KeptPeer) (p : KeptPeer → Type 0) → slice_get t.peers.entries at ≡ Some x → KeepsAt t at p → p x.1
keeps_at t at x p was keeps = keeps (kept x) (get-map kept t.peers.entries at x was)

-- The hub stands for some state with the machine told, where it stood for some.
pub told_some : (t n : ScriptHub) (at : ℕ) (x : Vec ℕ Global × KeptPeer) (e : Event) (m : Accepting) (answer : Step) → IsOfSome t → slice_get t.peers.entries at ≡ Some x
    → AcceptingAnswers x.1.machine m e answer
    → n.core ≡ t.core → n.about ≡ t.about → n.clock ≡ t.clock → n.names ≡ t.names → n.peers ≡ with_value_at t.peers at (record x.1 { machine = m }) → IsOfSome n
told_some t n at x e m answer some was answers core about clock names new =
    let s = some.0 in
    let h : ScriptStands t s = some.1 in
    let k = some_at t s at x h was in (
      with_peer (told e k.0) s,
      (told_stands t n s at k.0 (kept x) e m answer h k.1 (get-map kept t.peers.entries at x was) answers core about clock names
          (kept_with t n at x (record x.1 { machine = m }) was new)).0,
    )
