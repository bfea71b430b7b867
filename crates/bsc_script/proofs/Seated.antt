-- A peer joins: what the hub of a script stands for then.
-- It serves the clauses of `connect` and `seat`.
use Rattle.std.proofs.Common.{◌≡◌, ◌⊎◌, inl, inr, ℕ, zero, suc, ◌<◌, ◌==◌, Bool, true, false, not, ◌||◌, cond, List, [], ◌∷◌, ◌++◌, length, map, set, find, filter, slice_get}
use Rattle.std.proofs.Common.{Option, Some, None, is_some, option_map, option_to_list, refl, ap, sym, ◌∙◌, subst, arith, append-nil}
use Rattle.std.specs.Global.{Vec}
use Rattle.std.specs.List.{AllByRecursion, list_any}
use Rattle.std.specs.Option.{option_or}
use Rattle.std.specs.Ordering.{nat_cmp, eq_by_cmp}
use Rattle.std.specs.BTreeMap.{get}
use Rattle.std.proofs.lemmas.Bool.{both_ways, eq-eqb, eqb-true, false_from_ne_true, or_cases}
use Rattle.std.proofs.lemmas.List.Folds.{list_any-append}
use Rattle.std.proofs.lemmas.Option.{same_Some as same_some}
use Rattle.bsc_accept.specs.Standing.{AcceptingStands}
use Rattle.indexmap.specs.IndexMap.{index_map_len, set_value_at}
use Rattle.bsc_octets.specs.declared.identity.Identity.{Identity}
use Rattle.bsc_history.specs.declared.limits.About.{About}
use Rattle.bsc_history.specs.declared.connection.Connection.{Connection}
use Rattle.bsc_history.specs.declared.ending.End.{End}
use Rattle.bsc_history.specs.declared.entry.Entry.{Entry}
use Rattle.bsc_history.specs.declared.reply.Reply.TheVariants.{Joined as JoinedReply}
use Rattle.bsc_history.specs.Entries.{connection_of, joins, moment}
use Rattle.bsc_history.specs.Ends.{end_by, ended, joined, leaves, unleft}
use Rattle.bsc_history.specs.Legality.{Lawful, Legal}
use Rattle.bsc_history.specs.Outboxes.{added_by, looked, sent}
use Rattle.bsc_history.proofs.Common.{any_filtered}
use Rattle.bsc_history.proofs.Fresh.{fresh_ended, fresh_joins, fresh_looked, fresh_sent}
use Rattle.bsc_history.proofs.Lifting.{join_owned, own_joined}
use Rattle.bsc_history.proofs.More.{ended-more, looked-more, sent-more, unleft-more}
use Rattle.bsc_history.proofs.Uniqueness.{comes}
use Rattle.bsc_desk.specs.Entries.{connect_entry}
use Rattle.bsc_hub_core.specs.declared.hub_core.HubCore.{HubCore}
use Rattle.bsc_hub_core.specs.Calls.{Joins}
use Rattle.bsc_hub_core.specs.Standing.{CoreStands, outbox_at}
use Rattle.bsc_hub_core.proofs.Outboxes.{eq_cmp}
use Rattle.bsc_script.specs.declared.peer.Peer.{Peer as KeptPeer}
use Rattle.bsc_script.specs.declared.script_hub.ScriptHub.{ScriptHub}
use Rattle.bsc_script.specs.States.{State, Peer, has_joined_as, joined_as, peer_on, start_at, with_peer}
use Rattle.bsc_script.specs.Holding.{ArePeers, ConnsApart, IsJoinedIf, IsPeer, ScriptStands, StandsAt, name_of, kept_in}
use Rattle.bsc_script.specs.Between.{Seats}
use Rattle.bsc_script.proofs.Changes.{conn_kept, kept, kept-set}
use Rattle.bsc_script.proofs.Entered.{KeepsElse, MakesEntry, Owns, lawful_at, legal_at, owners, peers_more}
use Rattle.bsc_script.proofs.Pairs.{Apart-same, Pairs-length, Pairs-set, get-map, map-set, partner_of}
use Rattle.bsc_script.proofs.Peers.{changed, has_conn}
use Rattle.bsc_lemmas.proofs.Lists.{got-within as get_within}

-- ---- one element in place of another

find-new : {A : Type 0} (p : A → Bool) (xs : List A) (i : ℕ) (x y : A) → slice_get xs i ≡ Some x → p y ≡ true → find p xs ≡ None → find p (set xs i y) ≡ Some y
find-new p [] i x y h t none = cc
find-new {A} p (a ∷ xs) zero x y h t none = ap (λ (b : Bool). cond b (Some y) (find p xs)) t
find-new {A} p (a ∷ xs) (suc i) x y h t none = by (p a) refl none (λ g. find-new p xs i x y h t g)
  where
    by : (b : Bool) → p a ≡ b → cond b (Some a) (find p xs) ≡ None → (find p xs ≡ None → find p (set xs i y) ≡ Some y) → cond (p a) (Some a) (find p (set xs i y)) ≡ Some y
    by true e g rec = cc
    by false e g rec = ap (λ (b : Bool). cond b (Some a) (find p (set xs i y))) e ∙ rec g

find-other : {A : Type 0} (p : A → Bool) (xs : List A) (i : ℕ) (x y : A) → slice_get xs i ≡ Some x → p x ≡ false → p y ≡ false → find p (set xs i y) ≡ find p xs
find-other p [] i x y h f g = refl
find-other {A} p (a ∷ xs) zero x y h f g =
    ap (λ (b : Bool). cond b (Some y) (find p xs)) g ∙ sym (ap (λ (b : Bool). cond b (Some a) (find p xs)) (ap p (same_some a x h) ∙ f))
find-other {A} p (a ∷ xs) (suc i) x y h f g = ap (λ (o : Option A). cond (p a) (Some a) o) (find-other p xs i x y h f g)

apart_set : (p : Peer) (ks : List Peer) (at : ℕ) (j : Peer) → AllByRecursion (λ (k : Peer). (c : ℕ) → p.conn ≡ Some c → k.conn ≡ Some c → ⊥) ks
    → ((c : ℕ) → p.conn ≡ Some c → j.conn ≡ Some c → ⊥) → AllByRecursion (λ (k : Peer). (c : ℕ) → p.conn ≡ Some c → k.conn ≡ Some c → ⊥) (set ks at j)
apart_set p [] at j h f = tt
apart_set p (k ∷ ks) zero j h f = (f, h.1)
apart_set p (k ∷ ks) (suc at) j h f = (h.0, apart_set p ks at j h.1 f)

-- nobody has the connection of the new one
abbrev Nobody : ℕ → List Peer → Type 0
Nobody c ks = AllByRecursion (λ (k : Peer). k.conn ≡ Some c → ⊥) ks

conns_set : (ks : List Peer) (at c : ℕ) (j : Peer) → ConnsApart ks → Nobody c ks → j.conn ≡ Some c → ConnsApart (set ks at j)
conns_set [] at c j h n e = tt
conns_set (k ∷ ks) zero c j h n e = (rest ks n.1, h.1)
  where
    rest : (ps : List Peer) → Nobody c ps → AllByRecursion (λ (q : Peer). (d : ℕ) → j.conn ≡ Some d → q.conn ≡ Some d → ⊥) ps
    rest [] f = tt
    rest (q ∷ ps) f = ((λ d a b. f.0 (b ∙ sym a ∙ e)), rest ps f.1)
conns_set (k ∷ ks) (suc at) c j h n e = (apart_set k ks at j h.0 (λ d a b. n.0 (a ∙ sym b ∙ e)), conns_set ks at c j h.1 n.1 e)

nobody_found : (c : ℕ) (ks : List Peer) → Nobody c ks → find (has_joined_as c) ks ≡ None
nobody_found c [] n = refl
nobody_found c (k ∷ ks) n =
    ap (λ (b : Bool). cond b (Some k) (find (has_joined_as c) ks)) (false_from_ne_true (has_joined_as c k) (λ t. n.0 (has_conn c k t))) ∙ nobody_found c ks n.1

owned_nobody : (H : List Entry) (c : ℕ) (ks : List Peer) → list_any (joins c) H ≡ false → AllByRecursion (Owns H) ks → Nobody c ks
owned_nobody H c [] fresh own = tt
owned_nobody H c (k ∷ ks) fresh own = ((λ is. both_ways (list_any (joins c) H) fresh (own_joined H 0 c (own.0 c is))), owned_nobody H c ks fresh own.1)

-- ---- the new connection

-- What is so of a connection that joins.
pub record Fresh (a : About) (H : List Entry) (e : Entry) (c : ℕ) : Type 0 where
  pub joins : list_any (joins c) H ≡ false
  pub sent : sent a (H ++ e ∷ []) c ≡ []
  pub ended : ended (H ++ e ∷ []) c ≡ None
  pub looked : looked (H ++ e ∷ []) c ≡ 0

pub fresh_of : (a : About) (H : List Entry) (who : Identity) (c : ℕ) (replaced : Option ℕ) → Legal a H → Lawful a (moment H (connect_entry 0 who (JoinedReply c replaced)))
    → Fresh a H (connect_entry 0 who (JoinedReply c replaced)) c
unfolding added_by
fresh_of a H who c replaced legal lawful =
    let e = connect_entry 0 who (JoinedReply c replaced) in
    let x : Connection = record { number = c; caller = 0; who = who } in
    let next = (comes a H e x lawful refl).0 in
    let far : length (joined H) < c = omega arith in
    let none = fresh_joins a H c legal far in
    record {
      joins = none;
      sent = sent-more a H e c ∙ append-nil (sent a H c) ∙ fresh_sent a H c legal far;
      ended = ended-more H e c ∙ ap (λ (o : Option End). option_or o (cond (list_any (joins c) H) (end_by c e) None)) (fresh_ended a H c legal far) ∙ ap (λ (b : Bool). cond b (end_by c e) None) none;
      looked = looked-more H e c ∙ fresh_looked a H c legal far;
    }

-- ---- the new peer

-- The core of t let somebody join as c, and is that of u.
pub makes_join : (t u : ScriptHub) (H : List Entry) (c : ℕ) (e : Entry) → KeepsElse t u → Joins H c e t.core u.core → MakesEntry t u H e
makes_join t u H c e rest j = record {
  rest = rest;
  about = j.enters.about;
  stands = j.enters.stands;
  keeps = λ b p at. (p, j.others b (λ same. (let bad : None ≡ Some p = sym j.absent ∙ ap (outbox_at t.core) (sym same) ∙ at in cc)) ∙ at, refl, refl);
}

-- nothing was written for who hasn't joined
pub unwritten_of : (K : HubCore) (H : List Entry) (k : Peer) (o : Option ℕ) → IsJoinedIf K H k o → k.conn ≡ None → (k.frames ≡ []) × (k.empties ≡ 0)
unwritten_of K H k o h free = (let q : IsJoinedIf K H k None = subst (IsJoinedIf K H k) (sym (conn_kept K H k o h) ∙ free) h in (q.1, q.2))

-- The peer that joined is kept with its connection, from whose outbox nothing was taken yet.
seated_peer : (t u : ScriptHub) (H : List Entry) (who : Identity) (c : ℕ) (replaced : Option ℕ) (k : Peer) (y : List ℕ × KeptPeer)
    → Joins H c (connect_entry 0 who (JoinedReply c replaced)) t.core u.core → IsPeer t.core H k y → k.conn ≡ None
    → IsPeer u.core (H ++ connect_entry 0 who (JoinedReply c replaced) ∷ []) (joined_as c k) (y.0, record y.1 { joined = Some c })
seated_peer t u H who c replaced k y j p free =
    let z : Connection = record { number = c; caller = 0; who = who } in
    let empty = unwritten_of t.core H k y.1.joined p.joined free in
    record {
      name = p.name;
      machine = subst (λ (a : About). AcceptingStands y.1.machine (start_at a k) k.events) (sym j.enters.about) p.machine;
      held = p.held;
      joined = (
        refl,
        record {
          joiner = join_owned H (connect_entry 0 who (JoinedReply c replaced)) z refl;
          outbox = j.after;
          there = j.now;
          frames = j.taken ∙ sym empty.0;
          empties = j.empties ∙ sym empty.1;
        },
      );
    }

-- ---- the hub

-- who hasn't left after a join hadn't left before, or is the one that joined
any_joined : (H : List Entry) (e : Entry) (x : Connection) (c : ℕ) → connection_of e ≡ Some x → ((b : ℕ) → leaves b e ≡ false)
    → list_any (λ y. y.number == c) (unleft (H ++ e ∷ [])) ≡ true → (list_any (λ y. y.number == c) (unleft H) ≡ true) ⊎ (x.number ≡ c)
any_joined H e x c is stay h =
    let p = λ (y : Connection). y.number == c in
    let left = filter (λ (y : Connection). not (leaves y.number e)) (unleft H) in
    let split : (list_any p left || list_any p (x ∷ [])) ≡ true = sym (ap (list_any p) (unleft-more H e ∙ ap (λ (o : Option Connection). left ++ option_to_list o) is)
    ∙ list_any-append p left (x ∷ [])) ∙ h in
    elim (or_cases (list_any p left) (list_any p (x ∷ [])) split) [
      | inl old ↦ inl (any_filtered p (λ (y : Connection). not (leaves y.number e)) (unleft H) old)
      | inr new ↦ elim (or_cases (x.number == c) false new) [ inl here ↦ inr (eqb-true x.number c here) | inr bad ↦ cc ]
    ]

-- the state after a join
abbrev pub state_joined : State → Peer → Identity → ℕ → Option ℕ → State
state_joined s k who c replaced = with_peer (joined_as c k) (record s { history = s.history ++ connect_entry 0 who (JoinedReply c replaced) ∷ [] })

-- After the call, and once the peer has its connection, the hub stands for that state.
pub joined_stands : (t u v : ScriptHub) (at : ℕ) (s : State) (k : Peer) (who : Identity) (c : ℕ) (replaced : Option ℕ) → StandsAt t at [] s k → k.conn ≡ None → KeepsElse t u
    → Joins s.history c (connect_entry 0 who (JoinedReply c replaced)) t.core u.core → Seats u v at c → ScriptStands v (state_joined s k who c replaced)
joined_stands t u v at s k who c replaced w free rest j seat =
    let h = w.stands in
    let e = connect_entry 0 who (JoinedReply c replaced) in
    let F : List Entry = s.history ++ e ∷ [] in
    let i = joined_as c k in
    let z : Connection = record { number = c; caller = 0; who = who } in
    let made : MakesEntry t u s.history e = makes_join t u s.history c e rest j in
    let fresh = fresh_of s.about s.history who c replaced (legal_at t s h) (lawful_at t u s e h made) in
    let ks : List Peer = (with_peer i s).peers in
    let is_set : ks ≡ set s.peers at i = changed s.peers at k i h.apart w.here refl in
    let same_kept : kept_in u ≡ kept_in t = ap (λ q. map (λ y. (y.0.items, y.1)) q.entries) rest.peers in
    let own = partner_of (IsPeer t.core s.history) s.peers (kept_in t) at k h.peers w.here in
    let y = own.0 in
    let there : slice_get (kept_in u) at ≡ Some y = ap (λ l. slice_get l at) same_kept ∙ own.1 in
    let all : ArePeers u.core F (set s.peers at i) (set (kept_in t) at (y.0, record y.1 { joined = Some c })) =
    Pairs-set (IsPeer u.core F) s.peers (kept_in t) at i (y.0, record y.1 { joined = Some c }) (peers_more t u s e h made (λ b. refl))
    (seated_peer t u s.history who c replaced k y j own.2 free) in
    let kept : kept_in v ≡ set (kept_in t) at (y.0, record y.1 { joined = Some c }) = seat.kept y there ∙ ap (λ l. set l at (y.0, record y.1 { joined = Some c })) same_kept in
    let nobody : Nobody c s.peers = owned_nobody s.history c s.peers fresh.joins (owners t.core s.history s.peers (kept_in t) h.peers) in
    let found : (b : ℕ) → find (has_joined_as b) (set s.peers at i) ≡ cond (c == b) (Some i) (peer_on s b) = λ b. (
    let by : (o : Bool) → (c == b) ≡ o → find (has_joined_as b) (set s.peers at i) ≡ cond o (Some i) (peer_on s b) =
    λ o. elim o as (λ o. (c == b) ≡ o → find (has_joined_as b) (set s.peers at i) ≡ cond o (Some i) (peer_on s b)) [
      | true ↦ λ q. find-new (has_joined_as b) s.peers at k i w.here q (subst (λ a. find (has_joined_as a) s.peers ≡ None) (eqb-true c b q) (nobody_found c s.peers nobody))
      | false ↦ λ q. find-other (has_joined_as b) s.peers at k i w.here (false_from_ne_true (has_joined_as b k) (λ f. (let bad : Some b ≡ None = sym (has_conn b k f) ∙ free in cc))) q
    ] in
    by (c == b) refl) in
    let named : y.0 ≡ i.name = sym own.2.name in
    record {
      core = subst (λ (q : HubCore). CoreStands q F) (sym seat.same_core) j.enters.stands;
      about = ap (λ (q : HubCore). q.about) seat.same_core ∙ j.enters.about ∙ h.about;
      same_hub = seat.same_about ∙ rest.about ∙ h.same_hub;
      clock = seat.same_clock ∙ rest.clock ∙ h.clock;
      peers = subst (λ (q : HubCore). ArePeers q F ks (kept_in v)) (sym seat.same_core)
          (subst (λ l. ArePeers u.core F l (kept_in v)) (sym is_set) (subst (ArePeers u.core F (set s.peers at i)) (sym kept) all));
      apart = Apart-same name_of name_of s.peers ks (sym (ap (map name_of) is_set ∙ map-set name_of s.peers at k i w.here refl)) h.apart;
      conns = subst ConnsApart (sym is_set) (conns_set s.peers at c i h.conns nobody refl);
      names = λ b. seat.names y there b
          ∙ ap (λ (o : Option (List ℕ)). cond (c == b) (Some y.0) o) (ap (λ q. get nat_cmp q b) rest.names ∙ h.names b)
          ∙ ap (λ (a : List ℕ). cond (c == b) (Some a) (option_map name_of (peer_on s b))) named
          ∙ pushed (c == b) i (peer_on s b) ∙ ap (option_map name_of) (sym (found b)) ∙ ap (λ l. option_map name_of (find (has_joined_as b) l)) (sym is_set);
      joined = λ b any. ap (λ l. is_some (find (has_joined_as b) l)) is_set ∙ ap is_some (found b) ∙ elim (any_joined s.history e z b refl (λ a. refl) any) [
        | inl old ↦ either (c == b) i (peer_on s b) (h.joined b old)
        | inr here ↦ ap (λ (o : Bool). is_some (cond o (Some i) (peer_on s b))) (eq-eqb c b here)
      ];
    }
  where
    pushed : (o : Bool) (i : Peer) (q : Option Peer) → cond o (Some (name_of i)) (option_map name_of q) ≡ option_map name_of (cond o (Some i) q)
    pushed true i q = refl
    pushed false i q = refl

    either : (o : Bool) (i : Peer) (q : Option Peer) → is_some q ≡ true → is_some (cond o (Some i) q) ≡ true
    either true i q h = refl
    either false i q h = h

-- The peer got its connection, as the maps say.
pub seats : (t u : ScriptHub) (at c : ℕ) (v : Vec ℕ) (p : KeptPeer) (name : List ℕ) → slice_get t.peers.entries at ≡ Some (v, p) → u.core ≡ t.core → u.about ≡ t.about
    → u.clock ≡ t.clock → u.peers.entries ≡ set_value_at t.peers.entries at (record p { joined = Some c })
    → ((b : ℕ) → get nat_cmp u.names b ≡ cond (eq_by_cmp nat_cmp c b) (Some name) (get nat_cmp t.names b)) → name ≡ v.items → Seats t u at c
seats t u at c v p name there core about clock written names is =
    let whole : (e : List ℕ × KeptPeer) → slice_get (kept_in t) at ≡ Some e → (v.items, p) ≡ e = λ e here. same_some (v.items, p) e (sym (get-map kept t.peers.entries at (v, p) there) ∙ here) in
    record {
      same_core = core;
      same_about = about;
      same_clock = clock;
      kept = λ e here. subst (λ (x : List ℕ × KeptPeer). kept_in u ≡ set (kept_in t) at (x.0, record x.1 { joined = Some c })) (whole e here)
          (ap (map kept) written ∙ kept-set t.peers.entries at v p (record p { joined = Some c }) there);
      names = λ e here b. names b ∙ ap (λ (o : Bool). cond o (Some name) (get nat_cmp t.names b)) (eq_cmp c b)
          ∙ ap (λ (n : List ℕ). cond (c == b) (Some n) (get nat_cmp t.names b)) (is ∙ ap (λ (x : List ℕ × KeptPeer). x.0) (whole e here));
    }

kept_length : (es : List (Vec ℕ × KeptPeer)) → length (map kept es) ≡ length es
kept_length [] = refl
kept_length (e ∷ es) = ap suc (kept_length es)

-- Where the state has a peer the hub keeps one.
pub within_at : (n : ScriptHub) (z : State) (at : ℕ) (i : Peer) → ScriptStands n z → slice_get z.peers at ≡ Some i → at < index_map_len n.peers
within_at n z at i h there =
    let low = get_within z.peers at i there in
    let same = Pairs-length (IsPeer n.core z.history) z.peers (kept_in n) h.peers in
    let long = kept_length n.peers.entries in
    omega arith
