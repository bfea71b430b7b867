-- A name opens.
-- It serves the clauses of `may_open` and `open`.
use Rattle.std.proofs.Common.{◌≡◌, ℕ, nat_lt, Bool, true, false, not, cond, ◌&&◌, List, [], ◌∷◌, ◌++◌, length, map, find, position, Option, Some, None, Ok, MatchOption, is_some}
use Rattle.std.proofs.Common.{option_map, Vec, Global, true≢false, refl, ap, sym, ◌∙◌, subst}
use Rattle.std.specs.Ordering.{nat_cmp}
use Rattle.std.specs.BTreeMap.{get}
use Rattle.indexmap.specs.IndexMap.{insert_entry}
use Rattle.bsc_text.specs.Lines.{same_octets}
use Rattle.bsc_history.specs.declared.limits.About.{About}
use Rattle.bsc_history.specs.declared.entry.Entry.{Entry}
use Rattle.bsc_history.proofs.Lists.{In, Apart-push, find_says}
use Rattle.bsc_hub_core.specs.Standing.{CoreStands}
use Rattle.bsc_accept.specs.declared.accepting.Accepting.{Accepting}
use Rattle.bsc_accept.specs.Standing.{AcceptingStands}
use Rattle.bsc_script.specs.declared.peer.Peer.{Peer as KeptPeer}
use Rattle.bsc_script.specs.declared.script_hub.ScriptHub.{ScriptHub}
use Rattle.bsc_script.specs.States.{State, Peer, start_at, default_times, new_peer, is_named, has_joined_as, is_open, peer_on, with_opened}
use Rattle.bsc_script.specs.Carrying.{quietly}
use Rattle.bsc_script.specs.Running.{opens, most_names}
use Rattle.bsc_script.specs.Settled.{IsSettledBut}
use Rattle.bsc_script.specs.Holding.{IsPeer, ArePeers, ScriptStands, ScriptHolds, CarriesOut, RunsTo, ConnsApart, name_of, kept_in}
use Rattle.bsc_script.proofs.Pairs.{Pairs-push, map-push}
use Rattle.bsc_script.proofs.Peers.{name_same, find-push}
use Rattle.bsc_script.proofs.Changes.{kept, indexed}
use Rattle.bsc_script.proofs.Names.{placed, names_length, octets_sym}
use Rattle.bsc_script.proofs.Carried.{quiet_carried}
use Rattle.bsc_lemmas.proofs.Lists.{all_append as all-push}

-- ---- whether it may

pub may_where_closed : (t : ScriptHub) (s : State) (n : List ℕ) (o : Option ℕ) (len : ℕ) → ScriptStands t s → o ≡ position (is_named n) s.peers → is_some o ≡ false → len ≡ length t.peers.entries
    → nat_lt len most_names ≡ (not (is_open s n) && nat_lt (length s.peers) most_names)
may_where_closed t s n o len h place none size =
    let closed : is_open s n ≡ false = sym (placed (is_named n) s.peers) ∙ ap is_some (sym place) ∙ none in
    sym (ap (λ b. not b && nat_lt (length s.peers) most_names) closed ∙ ap (λ m. nat_lt m most_names) (names_length t s.peers (indexed t s h) ∙ sym size))

pub may_not_where_open : (s : State) (n : List ℕ) (o : Option ℕ) → o ≡ position (is_named n) s.peers → is_some o ≡ true → false ≡ (not (is_open s n) && nat_lt (length s.peers) most_names)
may_not_where_open s n o place some =
    let is : is_open s n ≡ true = sym (placed (is_named n) s.peers) ∙ ap is_some (sym place) ∙ some in
    sym (ap (λ b. not b && nat_lt (length s.peers) most_names) is)

-- ---- what is kept

rest_none : (p : Peer → Bool) (k : Peer) (ks : List Peer) → find p (k ∷ ks) ≡ None → (p k ≡ false) × (find p ks ≡ None)
rest_none p k ks h = by (p k) refl
  where
    by : (b : Bool) → p k ≡ b → (p k ≡ false) × (find p ks ≡ None)
    by true e = absurd (some_none k (sym (ap (λ (b : Bool). cond b (Some k) (find p ks)) e) ∙ h))
      where
        some_none : (x : Peer) → Some x ≡ None → ⊥
        some_none x g = cc
    by false e = (e, sym (ap (λ (b : Bool). cond b (Some k) (find p ks)) e) ∙ h)

-- A name that isn't open goes last.
insert_new : (ks : List Peer) (es : List (Vec ℕ Global × KeptPeer)) (v : Vec ℕ Global) (p : KeptPeer) → map name_of ks ≡ map (λ e. e.0) (map kept es) → find (is_named v.items) ks ≡ None
    → insert_entry (λ (a b : Vec ℕ Global). same_octets a.items b.items) es v p ≡ es ++ (v, p) ∷ []
insert_new [] [] v p h f = refl
insert_new [] (e ∷ es) v p h f = cc
insert_new (k ∷ ks) [] v p h f = cc
insert_new (k ∷ ks) (e ∷ es) v p h f =
    let r = rest_none (is_named v.items) k ks f in
    let here : k.name ≡ e.0.items = cc in
    let rest : map name_of ks ≡ map (λ x. x.0) (map kept es) = cc in
    let other : same_octets v.items e.0.items ≡ false = octets_sym v.items e.0.items ∙ ap (λ (m : List ℕ). same_octets m v.items) (sym here) ∙ r.0 in
    ap (λ (b : Bool). cond b ((e.0, p) ∷ es) (e ∷ insert_entry (λ (a c : Vec ℕ Global). same_octets a.items c.items) es v p)) other
    ∙ ap (λ (l : List (Vec ℕ Global × KeptPeer)). e ∷ l) (insert_new ks es v p rest r.1)

-- nobody more has a connection
ConnsApart-push : (ks : List Peer) (k : Peer) → k.conn ≡ None → ConnsApart ks → ConnsApart (ks ++ k ∷ [])
ConnsApart-push [] k none h = (tt, tt)
ConnsApart-push (p ∷ ks) k none h = (all-push (λ (j : Peer). (c : ℕ) → p.conn ≡ Some c → j.conn ≡ Some c → ⊥) ks (k ∷ []) h.0 ((λ c a b. no_conn c (sym none ∙ b)), tt), ConnsApart-push ks k none h.1)
  where
    no_conn : (c : ℕ) → None ≡ Some c → ⊥
    no_conn c e = cc

-- A new peer is settled.
new_settled : (a : About) (H : List Entry) (name : List ℕ) (now : ℕ) → IsSettledBut [] a H (new_peer name now)
new_settled a H name now = record {
  ready = refl;
  fits = ((λ e. refl), (λ e. refl));
  emptied = λ c e w. absurd (no_conn c e);
}
  where
    no_conn : (c : ℕ) → None ≡ Some c → ⊥
    no_conn c e = cc

-- ---- the hub

pub opened : (t n : ScriptHub) (s : State) (v : Vec ℕ Global) (m : Accepting) → ScriptHolds t s → is_open s v.items ≡ false
    → AcceptingStands m (record { own = t.about.hub; times = default_times; at = t.clock }) []
    → n.core ≡ t.core → n.about ≡ t.about → n.clock ≡ t.clock → n.names ≡ t.names
    → n.peers.entries ≡ insert_entry (λ (a b : Vec ℕ Global). same_octets a.items b.items) t.peers.entries v (record { machine = m; held = false; joined = None })
    → CarriesOut n [] [] [] (quietly (with_opened (new_peer v.items s.clock) s))
opened t n s v m h closed machine core about clock names entries_so =
    let k : Peer = new_peer v.items s.clock in
    let p : KeptPeer = record { machine = m; held = false; joined = None } in
    let none : find (is_named v.items) s.peers ≡ None = nobody (find (is_named v.items) s.peers) closed in
    let kept_so : kept_in n ≡ kept_in t ++ (v.items, p) ∷ [] = ap (map kept) (entries_so ∙ insert_new s.peers t.peers.entries v p (indexed t s h.0).names none)
    ∙ map-push kept t.peers.entries (v, p) in
    let stands_machine : AcceptingStands m (start_at t.core.about k) [] =
    subst (λ (a : About). AcceptingStands m (record { own = a.hub; times = default_times; at = s.clock }) []) (h.0.same_hub ∙ sym h.0.about)
    (subst (λ (c : ℕ). AcceptingStands m (record { own = t.about.hub; times = default_times; at = c }) []) h.0.clock machine) in
    let own : IsPeer t.core s.history k (v.items, p) = record { name = refl; machine = stands_machine; held = refl; joined = (refl, refl, refl) } in
    let all : ArePeers t.core s.history (s.peers ++ k ∷ []) (kept_in n) =
    subst (λ es. ArePeers t.core s.history (s.peers ++ k ∷ []) es) (sym kept_so) (Pairs-push (IsPeer t.core s.history) s.peers (kept_in t) k (v.items, p) h.0.peers own) in
    let says = subst (λ o. MatchOption o ((x : Peer) → In x s.peers → is_named v.items x ≡ false) (λ x. In x s.peers × (is_named v.items x ≡ true))) none (find_says (is_named v.items) s.peers) in
    let found : (c : ℕ) → find (has_joined_as c) (s.peers ++ k ∷ []) ≡ peer_on s c = λ c. find-push (has_joined_as c) s.peers k refl in
    quiet_carried n [] [] (with_opened k s)
    record {
      core = subst (λ d. CoreStands d s.history) (sym core) h.0.core;
      about = ap (λ d. d.about) core ∙ h.0.about;
      same_hub = about ∙ h.0.same_hub;
      clock = clock ∙ h.0.clock;
      peers = subst (λ d. ArePeers d s.history (s.peers ++ k ∷ []) (kept_in n)) (sym core) all;
      apart = Apart-push name_of s.peers (Some k) h.0.apart (λ x y among e same. true≢false (sym (name_same x.name v.items (same ∙ ap name_of (sym (one k y e)))) ∙ says x among));
      conns = ConnsApart-push s.peers k refl h.0.conns;
      names = λ c. ap (λ q. get nat_cmp q c) names ∙ h.0.names c ∙ ap (option_map name_of) (sym (found c));
      joined = λ c u. ap is_some (found c) ∙ h.0.joined c u;
    }
    (record { peers = all-push (IsSettledBut [] s.about s.history) s.peers (k ∷ []) h.1.peers (new_settled s.about s.history v.items s.clock, tt); order = refl })
  where
    nobody : (o : Option Peer) → is_some o ≡ false → o ≡ None
    nobody None e = refl
    nobody (Some x) e = absurd (true≢false e)

    one : (a b : Peer) → Some a ≡ Some b → a ≡ b
    one a b e = cc

-- What may open does, and what may not is refused.
pub may_open_so : (s : State) (n : List ℕ) → (not (is_open s n) && nat_lt (length s.peers) most_names) ≡ true → (is_open s n ≡ false)
    × (opens s n ≡ Some (quietly (with_opened (new_peer n s.clock) s)))
may_open_so s n h = (closed (is_open s n) (nat_lt (length s.peers) most_names) h, ap (λ b. cond b (Some (quietly (with_opened (new_peer n s.clock) s))) None) h)
  where
    closed : (a b : Bool) → (not a && b) ≡ true → a ≡ false
    closed true b e = absurd (true≢false (sym e))
    closed false b e = refl

-- A name that may open opens.
pub opens_to : (n : ScriptHub) (s : State) (given_name name : List ℕ) → given_name ≡ name → opens s name ≡ Some (quietly (with_opened (new_peer name s.clock) s))
    → CarriesOut n [] [] [] (quietly (with_opened (new_peer given_name s.clock) s)) → RunsTo (Ok tt) n [] [] (opens s name)
opens_to n s given_name name same may h = subst (λ o. RunsTo (Ok tt) n [] [] o) (sym may) (subst (λ (m : List ℕ). CarriesOut n [] [] [] (quietly (with_opened (new_peer m s.clock) s))) same h)
