-- A connection leaves, and its name is closed: what the others have stays as it was.
-- It serves the clauses of `end`.
use Rattle.std.proofs.Common.{true≢false, ◌≡◌, ◌≢◌, ℕ, ◌==◌, Bool, true, false, not, cond, ◌&&◌, ◌||◌, List, [], ◌∷◌, ◌++◌, length, map, drop, remove, filter, find, slice_get}
use Rattle.std.proofs.Common.{Option, Some, None, is_some, option_map, MatchOption, is_eq, Vec, Global, refl, ap, sym, ◌∙◌, subst, append-nil}
use Rattle.std.specs.List.{AllByRecursion, list_any}
use Rattle.std.specs.Option.{option_or}
use Rattle.std.specs.Ordering.{nat_cmp}
use Rattle.std.specs.BTreeMap.{get}
use Rattle.std.proofs.lemmas.Bool.{false_from_ne_true, and_parts, eqb-true, eq-eqb}
use Rattle.std.proofs.lemmas.Option.{same_Some}
use Rattle.bsc_history.specs.declared.limits.About.{About}
use Rattle.bsc_history.specs.declared.call.Call.TheVariants.{Leave}
use Rattle.bsc_history.specs.declared.connection.Connection.{Connection}
use Rattle.bsc_history.specs.declared.ending.End.TheVariants.{Left}
use Rattle.bsc_history.specs.declared.entry.Entry.{Entry}
use Rattle.bsc_history.specs.Ends.{ended, is_one, unleft}
use Rattle.bsc_history.specs.Legality.{is_of}
use Rattle.bsc_history.specs.Outboxes.{sent, added_by}
use Rattle.bsc_history.specs.Replies.{reply}
use Rattle.bsc_accept.specs.Past.{phase}
use Rattle.bsc_history.proofs.Lists.{In, any_gives, any_In, In_kept, In-filter, In_from_all, all_from_In, Apart-filter, find_says}
use Rattle.bsc_history.proofs.More.{sent-more, ended-same, unleft-more}
use Rattle.bsc_desk.specs.declared.leaving.Gone.{Gone}
use Rattle.bsc_desk.specs.Entries.{gone_reply, leave_entry}
use Rattle.bsc_hub_core.specs.declared.hub_core.HubCore.{HubCore}
use Rattle.bsc_hub_core.specs.declared.outbox.Outbox.{Outbox}
use Rattle.bsc_hub_core.specs.Calls.{LeavesAs}
use Rattle.bsc_hub_core.specs.Outboxes.{empties_by, taken_by}
use Rattle.bsc_hub_core.specs.Standing.{CoreStands, outbox_at}
use Rattle.bsc_hub_core.proofs.Outboxes.{away, eq_cmp}
use Rattle.bsc_accept.specs.Standing.{AcceptingStands}
use Rattle.bsc_script.specs.declared.peer.Peer.{Peer as KeptPeer}
use Rattle.bsc_script.specs.declared.script_hub.ScriptHub.{ScriptHub}
use Rattle.bsc_script.specs.States.{State, Peer, start_at, has_joined_as, is_named, peer_on, without_name}
use Rattle.bsc_script.specs.Calls.{called, entry_in, reply_in, leave_of}
use Rattle.bsc_script.specs.Written.{line_text, says}
use Rattle.bsc_lines.specs.Replies.{gone_words}
use Rattle.bsc_script.specs.Settled.{IsSettledBut, SettledBut}
use Rattle.bsc_script.specs.Emptying.{is_connected, due_after}
use Rattle.bsc_script.specs.Carrying.{ends, leaves_if, quietly}
use Rattle.bsc_script.specs.Holding.{IsJoinedPeer, IsJoinedIf, IsPeer, ArePeers, name_of, kept_in, ScriptStands, StandsAt, IsAt, IsOfSome, CarriesOut}
use Rattle.bsc_script.proofs.Pairs.{Pairs-remove, Pairs-weaker, all-remove, map-remove}
use Rattle.bsc_script.proofs.Changes.{kept, kept_at, some_at}
use Rattle.bsc_script.proofs.Carried.{quiet_carried, line_carried}
use Rattle.bsc_script.proofs.Peers.{taken_out, ConnsApart-filter, find-remove, gone_conn, conn_has}

-- ---- what is known of another connection

-- the entry of a leave
abbrev pub left : ℕ → ℕ → Gone → Entry
left c empties g = leave_entry 0 c empties g

left_ended : (H : List Entry) (c empties : ℕ) (g : Gone) (b : ℕ) → c ≢ b → ended (H ++ left c empties g ∷ []) b ≡ ended H b
left_ended H c empties g b other =
    let apart : (c == b) ≡ false = false_from_ne_true (c == b) (λ t. other (eqb-true c b t)) in
    ended-same H (left c empties g) b (ap (λ (t : Bool). option_or (cond t (Some Left) None) None) apart)

left_sent : (a : About) (H : List Entry) (c empties : ℕ) (g : Gone) (b : ℕ) → sent a (H ++ left c empties g ∷ []) b ≡ sent a H b
unfolding added_by
left_sent a H c empties g b = sent-more a H (left c empties g) b ∙ append-nil (sent a H b)

-- those that haven't left are those of before but the one that left
left_unleft : (H : List Entry) (c empties : ℕ) (g : Gone) → unleft (H ++ left c empties g ∷ []) ≡ filter (λ (x : Connection). not (c == x.number)) (unleft H)
left_unleft H c empties g = unleft-more H (left c empties g) ∙ append-nil (filter (λ (x : Connection). not (c == x.number)) (unleft H))

left_is_of : (H : List Entry) (c empties : ℕ) (g : Gone) (b : ℕ) → c ≢ b → is_of H 0 b ≡ true → is_of (H ++ left c empties g ∷ []) 0 b ≡ true
left_is_of H c empties g b other own =
    let p = λ (x : Connection). (x.number == b) && (x.caller == 0) in
    let K = λ (x : Connection). not (c == x.number) in
    let r = any_gives p (unleft H) own in
    let number : r.0.number ≡ b = eqb-true r.0.number b (and_parts (r.0.number == b) (r.0.caller == 0) r.2).0 in
    let stays : K r.0 ≡ true = ap not (false_from_ne_true (c == r.0.number) (λ t. other (eqb-true c r.0.number t ∙ number))) in
    ap (list_any p) (left_unleft H c empties g) ∙ any_In p r.0 (filter K (unleft H)) (In_kept K r.0 (unleft H) r.1 stays) r.2

-- ---- another peer

-- What another peer has that has joined.
left_joined : (K N : HubCore) (H : List Entry) (c empties : ℕ) (g : Gone) (k : Peer) (o : Option ℕ) → k.conn ≢ Some c → ((b : ℕ) → b ≢ c → outbox_at N b ≡ outbox_at K b)
    → IsJoinedIf K H k o → IsJoinedIf N (H ++ left c empties g ∷ []) k o
left_joined K N H c empties g k None other others p = p
left_joined K N H c empties g k (Some b) other others p =
    let apart : c ≢ b = λ e. other (p.0 ∙ ap Some (sym e)) in
    let q = p.1 in
    (p.0, record { joiner = left_is_of H c empties g b apart q.joiner; outbox = q.outbox; there = others b (λ e. apart (sym e)) ∙ q.there; frames = q.frames; empties = q.empties })

-- Another peer, that doesn't have the connection that left.
left_peer : (K N : HubCore) (H : List Entry) (c empties : ℕ) (g : Gone) (k : Peer) (x : List ℕ × KeptPeer) → k.conn ≢ Some c → N.about ≡ K.about
    → ((b : ℕ) → b ≢ c → outbox_at N b ≡ outbox_at K b) → IsPeer K H k x → IsPeer N (H ++ left c empties g ∷ []) k x
left_peer K N H c empties g k x other about others p = record {
  name = p.name;
  machine = subst (λ a. AcceptingStands x.1.machine (start_at a k) k.events) (sym about) p.machine;
  held = p.held;
  joined = left_joined K N H c empties g k x.1.joined other others p.joined;
}

-- ---- the history

-- what is kept of a peer that has joined
own_outbox : (K : HubCore) (H : List Entry) (k : Peer) (c : ℕ) (o : Option ℕ) → o ≡ Some c → IsJoinedIf K H k o → (k.conn ≡ Some c) × IsJoinedPeer K H k c
own_outbox K H k c o is p = subst (IsJoinedIf K H k) is p

-- The entry that the core adds is the one that the definition asks for.
left_entry : (t n : HubCore) (s : State) (k : Peer) (c : ℕ) (g : Gone) (l : LeavesAs s.history 0 c g t n) → t.about ≡ s.about → IsJoinedPeer t s.history k c
    → left c (empties_by l.before) g ≡ entry_in s (leave_of c k)
left_entry t n s k c g l about q =
    let same : l.before ≡ q.outbox = same_Some l.before q.outbox (sym l.was ∙ q.there) in
    let taken : g.taken ≡ length k.frames = l.taken ∙ ap (λ (p : Outbox). length (taken_by p)) same ∙ ap length q.frames in
    let empty : empties_by l.before ≡ k.empties = ap empties_by same ∙ q.empties in
    let answer : gone_reply g ≡ reply s.about s.history (Leave c (length k.frames) k.empties) [] =
    l.due
    ∙ ap (λ a. reply a s.history (Leave c g.taken (empties_by l.before)) []) about
    ∙ ap (λ m. reply s.about s.history (Leave c m (empties_by l.before)) []) taken
    ∙ ap (λ m. reply s.about s.history (Leave c (length k.frames) m) []) empty in
    λ i. record { caller = 0; call = Leave c (taken i) (empty i); looks = []; reply = answer i }

-- ---- the others are settled as before

-- Nobody among these has the connection.
none_has : (c : ℕ) (ks : List Peer) (k : Peer) → find (has_joined_as c) ks ≡ None → In k ks → k.conn ≢ Some c
none_has c ks k none m e =
    let says = subst (λ o. MatchOption o ((x : Peer) → In x ks → has_joined_as c x ≡ false) (λ x. In x ks × (has_joined_as c x ≡ true))) none (find_says (has_joined_as c) ks) in
    absurd (true≢false (sym (conn_has c k e) ∙ says k m))

-- Nothing more is due for a connection that stays.
left_settled : (cs : List ℕ) (a : About) (H : List Entry) (c empties : ℕ) (g : Gone) (k : Peer) → k.conn ≢ Some c → IsSettledBut cs a H k → IsSettledBut cs a (H ++ left c empties g ∷ []) k
left_settled cs a H c empties g k other h = record {
  ready = h.ready;
  fits = h.fits;
  emptied = λ b e w. (
      let apart : c ≢ b = λ s. other (e ∙ ap Some (sym s)) in
      let same : due_after a (H ++ left c empties g ∷ []) k b ≡ due_after a H k b =
      ap (λ l. not (length (drop (length k.frames) l) == 0) || is_some (ended (H ++ left c empties g ∷ []) b)) (left_sent a H c empties g b)
      ∙ ap (λ o. not (length (drop (length k.frames) (sent a H b)) == 0) || is_some o) (left_ended H c empties g b apart) in
      h.emptied b e (sym (ap (λ t. is_connected (phase k.events) && not k.held && t) same) ∙ w));
}

-- ---- a name is closed

-- Its peer hasn't joined.
pub closed_stands : (t n : ScriptHub) (s : State) (at : ℕ) (k : Peer) → ScriptStands t s → IsAt at k s → k.conn ≡ None
    → n.core ≡ t.core → n.about ≡ t.about → n.clock ≡ t.clock → n.names ≡ t.names → kept_in n ≡ remove (kept_in t) at → ScriptStands n (without_name k.name s)
closed_stands t n s at k h here none core about clock names kept_so =
    let ps : List Peer = (without_name k.name s).peers in
    let ks : ps ≡ remove s.peers at = taken_out s.peers at k h.apart here in
    let found : (c : ℕ) → find (has_joined_as c) ps ≡ peer_on s c = λ c. ap (find (has_joined_as c)) ks ∙ find-remove (has_joined_as c) s.peers at k here (ap (is_one c) none) in
    record {
      core = subst (λ d. CoreStands d s.history) (sym core) h.core;
      about = ap (λ d. d.about) core ∙ h.about;
      same_hub = about ∙ h.same_hub;
      clock = clock ∙ h.clock;
      peers = subst (λ d. ArePeers d s.history ps (kept_in n)) (sym core)
          (subst (λ l. ArePeers t.core s.history l (kept_in n)) (sym ks)
          (subst (λ es. ArePeers t.core s.history (remove s.peers at) es) (sym kept_so) (Pairs-remove (IsPeer t.core s.history) s.peers (kept_in t) at h.peers)));
      apart = Apart-filter name_of (λ p. not (is_named k.name p)) s.peers h.apart;
      conns = ConnsApart-filter (λ p. not (is_named k.name p)) s.peers h.conns;
      names = λ c. ap (λ m. get nat_cmp m c) names ∙ h.names c ∙ ap (option_map name_of) (sym (found c));
      joined = λ c u. ap is_some (found c) ∙ h.joined c u;
    }

-- Its peer has joined, and leaves.
left_stands : (t n : ScriptHub) (s : State) (at : ℕ) (k : Peer) (c : ℕ) (g : Gone) (h : ScriptStands t s) → IsAt at k s → k.conn ≡ Some c
    → (l : LeavesAs s.history 0 c g t.core n.core) → left c (empties_by l.before) g ≡ entry_in s (leave_of c k)
    → n.about ≡ t.about → n.clock ≡ t.clock
    → get nat_cmp n.names c ≡ None → ((b : ℕ) → c ≢ b → get nat_cmp n.names b ≡ get nat_cmp t.names b)
    → kept_in n ≡ remove (kept_in t) at → ScriptStands n (without_name k.name (called s (leave_of c k)))
left_stands t n s at k c g h here conn l entry about clock gone_name names kept_so =
    let ps : List Peer = (without_name k.name s).peers in
    let ks : ps ≡ remove s.peers at = taken_out s.peers at k h.apart here in
    let e = left c (empties_by l.before) g in
    let gone : find (has_joined_as c) ps ≡ None = ap (find (has_joined_as c)) ks ∙ gone_conn s.peers at k c h.conns here conn in
    let found : (b : ℕ) → c ≢ b → find (has_joined_as b) ps ≡ peer_on s b = λ b other. ap (find (has_joined_as b)) ks
    ∙ find-remove (has_joined_as b) s.peers at k here (ap (is_one b) conn ∙ false_from_ne_true (c == b) (λ u. other (eqb-true c b u))) in
    let removed : ArePeers t.core s.history ps (remove (kept_in t) at) = subst (λ l. ArePeers t.core s.history l (remove (kept_in t) at)) (sym ks)
    (Pairs-remove (IsPeer t.core s.history) s.peers (kept_in t) at h.peers) in
    let others : ArePeers n.core (s.history ++ e ∷ []) ps (remove (kept_in t) at) =
    Pairs-weaker (IsPeer t.core s.history) (IsPeer n.core (s.history ++ e ∷ [])) ps (remove (kept_in t) at)
    (λ j x m p. left_peer t.core n.core s.history c (empties_by l.before) g j x (none_has c ps j gone m) l.about l.others p) removed in
    let same : (b : ℕ) (u : Bool) → (c == b) ≡ u → get nat_cmp n.names b ≡ option_map name_of (find (has_joined_as b) ps) =
    λ b u. elim u as (λ u. (c == b) ≡ u → get nat_cmp n.names b ≡ option_map name_of (find (has_joined_as b) ps)) [
      | true ↦ λ f. (let is : c ≡ b = eqb-true c b f in subst (λ d. get nat_cmp n.names d ≡ option_map name_of (find (has_joined_as d) ps)) is (gone_name ∙ ap (option_map name_of) (sym gone)))
      | false ↦ λ f. (let other : c ≢ b = λ is. absurd (true≢false (sym (eq-eqb c b is) ∙ f)) in names b other ∙ h.names b ∙ ap (option_map name_of) (sym (found b other)))
    ] in
    record {
      core = subst (λ (x : Entry). CoreStands n.core (s.history ++ x ∷ [])) entry l.stands;
      about = l.about ∙ h.about;
      same_hub = about ∙ h.same_hub;
      clock = clock ∙ h.clock;
      peers = subst (λ (x : Entry). ArePeers n.core (s.history ++ x ∷ []) ps (kept_in n)) entry (subst (λ es. ArePeers n.core (s.history ++ e ∷ []) ps es) (sym kept_so) others);
      apart = Apart-filter name_of (λ p. not (is_named k.name p)) s.peers h.apart;
      conns = ConnsApart-filter (λ p. not (is_named k.name p)) s.peers h.conns;
      names = λ b. same b (c == b) refl;
      joined = λ b u. (
          let K = λ (x : Connection). not (c == x.number) in
          let r = any_gives (λ (x : Connection). x.number == b) (filter K (unleft s.history))
          (sym (ap (list_any (λ (x : Connection). x.number == b)) (ap (λ (x : Entry). unleft (s.history ++ x ∷ [])) (sym entry) ∙ left_unleft s.history c (empties_by l.before) g)) ∙ u) in
          let q = In-filter K r.0 (unleft s.history) r.1 in
          let other : c ≢ b = λ is. absurd (true≢false (sym (sym (ap not (eq-eqb c r.0.number (is ∙ sym (eqb-true r.0.number b r.2)))) ∙ q.1))) in
          ap is_some (found b other) ∙ h.joined b (any_In (λ (x : Connection). x.number == b) r.0 (unleft s.history) q.0 r.2));
    }

-- The others are settled still.
closed_settled : (t : ScriptHub) (at : ℕ) (cs : List ℕ) (s : State) (k : Peer) → StandsAt t at cs s k → SettledBut cs (without_name k.name s)
closed_settled t at cs s k h =
    let ks : (without_name k.name s).peers ≡ remove s.peers at = taken_out s.peers at k h.stands.apart h.here in
    record {
      peers = subst (AllByRecursion (IsSettledBut cs s.about s.history)) (sym ks) (all-remove (IsSettledBut cs s.about s.history) s.peers at h.before h.behind);
      order = h.order;
    }

left_settled_all : (t : ScriptHub) (at : ℕ) (cs : List ℕ) (s : State) (k : Peer) (c empties : ℕ) (g : Gone) → StandsAt t at cs s k → k.conn ≡ Some c
    → left c empties g ≡ entry_in s (leave_of c k) → SettledBut cs (without_name k.name (called s (leave_of c k)))
left_settled_all t at cs s k c empties g h conn entry =
    let ps : List Peer = (without_name k.name s).peers in
    let ks : ps ≡ remove s.peers at = taken_out s.peers at k h.stands.apart h.here in
    let gone : find (has_joined_as c) ps ≡ None = ap (find (has_joined_as c)) ks ∙ gone_conn s.peers at k c h.stands.conns h.here conn in
    let before : AllByRecursion (IsSettledBut cs s.about s.history) ps = (closed_settled t at cs s k h).peers in
    record {
      peers = subst (λ (e : Entry). AllByRecursion (IsSettledBut cs s.about (s.history ++ e ∷ [])) ps) entry
          (all_from_In (IsSettledBut cs s.about (s.history ++ left c empties g ∷ [])) ps
          (λ j m. left_settled cs s.about s.history c empties g j (none_has c ps j gone m) (In_from_all (IsSettledBut cs s.about s.history) j ps before m)));
      order = h.order;
    }

-- ---- what is carried out

-- A connection that a peer has joined may leave.
pub may_leave : (t : ScriptHub) (at : ℕ) (x : Vec ℕ Global × KeptPeer) (c : ℕ) → IsOfSome t → slice_get t.peers.entries at ≡ Some x → x.1.joined ≡ Some c
    → (H : List Entry) × CoreStands t.core H × (is_of H 0 c ≡ true)
may_leave t at x c some was is =
    let s = some.0 in
    let h : ScriptStands t s = some.1 in
    let k = some_at t s at x h was in
    (s.history, h.core, (own_outbox t.core s.history k.0 c x.1.joined is k.2.joined).1.joiner)

-- A peer that hasn't joined is closed.
pub closed_carried : (t n : ScriptHub) (s : State) (at : ℕ) (cs : List ℕ) (k : Peer) (x : Vec ℕ Global × KeptPeer) (before : List ℕ) → StandsAt t at cs s k
    → slice_get t.peers.entries at ≡ Some x → x.1.joined ≡ None
    → n.core ≡ t.core → n.about ≡ t.about → n.clock ≡ t.clock → n.names ≡ t.names → n.peers.entries ≡ remove t.peers.entries at
    → CarriesOut n before before cs (ends s k)
closed_carried t n s at cs k x before h was none core about clock names entries_so =
    let p = kept_at t s at k x h.stands h.here was in
    let conn : k.conn ≡ None = (subst (λ o. IsJoinedIf t.core s.history k o) none p.joined).0 in
    let kept_so : kept_in n ≡ remove (kept_in t) at = ap (map kept) entries_so ∙ map-remove kept t.peers.entries at in
    subst (λ o. CarriesOut n before before cs (leaves_if s k o)) (sym conn)
    (quiet_carried n before cs (without_name k.name s) (closed_stands t n s at k h.stands h.here conn core about clock names kept_so) (closed_settled t at cs s k h))

-- A peer that has joined is closed, and its connection leaves.
pub left_carried : (t n : ScriptHub) (s : State) (at : ℕ) (cs : List ℕ) (k : Peer) (x : Vec ℕ Global × KeptPeer) (c : ℕ) (g : Gone) (before after : List ℕ) → StandsAt t at cs s k
    → slice_get t.peers.entries at ≡ Some x → x.1.joined ≡ Some c
    → ((H : List Entry) → CoreStands t.core H → LeavesAs H 0 c g t.core n.core)
    → n.about ≡ t.about → n.clock ≡ t.clock
    → ((q : ℕ) → get nat_cmp n.names q ≡ cond (is_eq (nat_cmp c q)) None (get nat_cmp t.names q))
    → n.peers.entries ≡ remove t.peers.entries at
    → after ≡ before ++ line_text (says x.0.items (gone_words (gone_reply g)))
    → CarriesOut n before after cs (ends s k)
left_carried t n s at cs k x c g before after h was is leaves_so about clock names entries_so put =
    let p = kept_at t s at k x h.stands h.here was in
    let q = own_outbox t.core s.history k c x.1.joined is p.joined in
    let l = leaves_so s.history h.stands.core in
    let kept_so : kept_in n ≡ remove (kept_in t) at = ap (map kept) entries_so ∙ map-remove kept t.peers.entries at in
    let gone_name : get nat_cmp n.names c ≡ None = names c ∙ ap (λ u. cond u None (get nat_cmp t.names c)) (eq_cmp c c ∙ eq-eqb c c refl) in
    let others : (b : ℕ) → c ≢ b → get nat_cmp n.names b ≡ get nat_cmp t.names b = λ b other. names b ∙ ap (λ u. cond u None (get nat_cmp t.names b)) (away c b (λ e. other (sym e))) in
    let entry : left c (empties_by l.before) g ≡ entry_in s (leave_of c k) = left_entry t.core n.core s k c g l h.stands.about q.1 in
    let new : ScriptStands n (without_name k.name (called s (leave_of c k))) = left_stands t n s at k c g h.stands h.here q.0 l entry about clock gone_name others kept_so in
    let settled : SettledBut cs (without_name k.name (called s (leave_of c k))) = left_settled_all t at cs s k c (empties_by l.before) g h q.0 entry in
    let line : line_text (says x.0.items (gone_words (gone_reply g))) ≡ line_text (says k.name (gone_words (reply_in s (leave_of c k)))) =
    ap (λ w. line_text (says w (gone_words (gone_reply g)))) (sym p.name) ∙ ap (λ (e : Entry). line_text (says k.name (gone_words e.reply))) entry in
    subst (λ o. CarriesOut n before after cs (leaves_if s k o)) (sym q.0)
    (line_carried n before after after cs (says k.name (gone_words (reply_in s (leave_of c k)))) (quietly (without_name k.name (called s (leave_of c k)))) (put ∙ ap (λ (w : List ℕ). before ++ w) line)
    (quiet_carried n after cs (without_name k.name (called s (leave_of c k))) new settled))
