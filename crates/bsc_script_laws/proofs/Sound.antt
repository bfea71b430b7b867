-- What holds of each state that lines leave, by the definition alone, and what a call leaves of it.
-- It serves the clauses of `a_line_goes_on` and `a_script_is_of_one_hub`.
use Rattle.std.proofs.Common.{◌≡◌, ◌≢◌, ◌⊎◌, inl, inr, ℕ, ◌≤◌, ◌==◌, nat_le, Bool, true, false, not, ◌||◌, cond, List, [], ◌∷◌, ◌++◌, filter, find, fold, length, map, Option, Some}
use Rattle.std.proofs.Common.{None, MatchOption, is_none, true≢false, refl, ap, sym, ◌∙◌, subst, arith, append_assoc}
use Rattle.std.specs.List.{list_any, list_all}
use Rattle.std.proofs.lemmas.Bool.{and_from, eq-eqb, false_from_ne_true, le-leb}
use Rattle.bsc_history.specs.declared.limits.About.{About}
use Rattle.bsc_history.specs.declared.call.Call.{Call}
use Rattle.bsc_history.specs.declared.call.Call.TheVariants.{Connect, Forward, Leave, Stop, Count}
use Rattle.bsc_history.specs.declared.connection.Connection.{Connection}
use Rattle.bsc_history.specs.declared.entry.Entry.{Entry}
use Rattle.bsc_history.specs.declared.looks.Look.{Look}
use Rattle.bsc_history.specs.Entries.{moment}
use Rattle.bsc_history.specs.Ends.{ended, leaves, live, unleft}
use Rattle.bsc_history.specs.Laws.{Apart, is_among}
use Rattle.bsc_history.specs.Legality.{Lawful, Legal, can_find, is_of, looks_at, may_call}
use Rattle.bsc_history.specs.Outboxes.{added, is_too_long, looked, meant, means, newer, out_of, sent}
use Rattle.bsc_history.specs.Replies.{is_stopped, numbers}
use Rattle.bsc_history.proofs.Lists.{In, In-filter, In_from_all, any_In, find_says, same_one}
use Rattle.bsc_history.proofs.More.{looked-more, sent-more}
use Rattle.bsc_checks.specs.declared.phase.Phase.TheVariants.{AwaitingRequest}
use Rattle.bsc_accept.specs.Past.{phase}
use Rattle.bsc_ring.specs.Lists.{StartsWith}
use Rattle.bsc_history.proofs.Connections.{live_unended}
use Rattle.bsc_script.specs.States.{State, Peer, has_joined_as, is_named, peer_on}
use Rattle.bsc_script.specs.Calls.{entry_in, looks_in, written_for, written_in}
use Rattle.bsc_script.specs.Holding.{name_of, conn_of}
use Rattle.bsc_script.proofs.Peers.{conn_has, has_conn, same_name}
use Rattle.bsc_history.proofs.Capacity.{newest_of}
use Rattle.bsc_script.proofs.Touched.{is_of_same}
use Rattle.bsc_script_laws.proofs.Looking.{all_found}
use Rattle.bsc_ring.proofs.Common.{short_of}
use Rattle.bsc_script_laws.proofs.Placed.{in_map}

-- ---- what holds

-- Of a peer. Caller 0 joined its connection, which hasn't left; what was written for it is the first part of what entered
-- its outbox, and no look found more taken than that. One of which a Connect-Request is awaited has no connection, and for
-- one without a connection nothing was written.
pub record IsSoundPeer (a : About) (H : List Entry) (k : Peer) : Type 0 where
  pub own : (c : ℕ) → k.conn ≡ Some c → is_of H 0 c ≡ true
  pub begins : (c : ℕ) → k.conn ≡ Some c → StartsWith (sent a H c) k.frames
  pub behind : (c : ℕ) → k.conn ≡ Some c → looked H c ≤ length k.frames
  pub waits : phase k.events ≡ AwaitingRequest → k.conn ≡ None
  pub none : k.conn ≡ None → k.frames ≡ []

-- one of these has the connection
abbrev pub HasPeer : ℕ → List Peer → Type 0
HasPeer c ks = (k : Peer) × In k ks × (k.conn ≡ Some c)

-- Of a state. The calls are a legal history, no two names are the same, no two peers have one connection, and each
-- connection that hasn't left has a peer.
pub record IsSound (s : State) : Type 0 where
  pub legal : Legal s.about s.history
  pub apart : Apart name_of s.peers
  pub peers : (k : Peer) → In k s.peers → IsSoundPeer s.about s.history k
  pub conns : (k j : Peer) (c : ℕ) → In k s.peers → In j s.peers → k.conn ≡ Some c → j.conn ≡ Some c → k ≡ j
  pub joined : (c : ℕ) → list_any (λ (x : Connection). x.number == c) (unleft s.history) ≡ true → HasPeer c s.peers

-- ---- the peer of a connection

-- The peer of a connection is the one that is found.
pub found_alone : (s : State) → IsSound s → (k : Peer) (c : ℕ) → In k s.peers → k.conn ≡ Some c → peer_on s c ≡ Some k
found_alone s h k c m is = by (find (has_joined_as c) s.peers) (find_says (has_joined_as c) s.peers)
  where
    by : (o : Option Peer) → MatchOption o ((x : Peer) → In x s.peers → has_joined_as c x ≡ false) (λ x. In x s.peers × (has_joined_as c x ≡ true)) → o ≡ Some k
    by None f = absurd (true≢false (sym (conn_has c k is) ∙ f k m))
    by (Some x) r = ap Some (h.conns x k c r.0 m (has_conn c x r.1) is)

-- as many frames were written for the connection as for its peer
written_is : (s : State) → IsSound s → (k : Peer) (c : ℕ) → In k s.peers → k.conn ≡ Some c → written_for s c ≡ length k.frames
written_is s h k c m is = ap written_in (found_alone s h k c m is)

-- of one name, it is one peer
same_peer : (s : State) → IsSound s → (k q : Peer) → In k s.peers → In q s.peers → is_named k.name q ≡ true → q ≡ k
same_peer s h k q mk mq is = same_one name_of q k s.peers h.apart mq mk (same_name q.name k.name is)

-- who has another connection has another name
pub other_peer : (s : State) → IsSound s → (k q : Peer) (d : ℕ) → In k s.peers → In q s.peers → q.conn ≡ Some d → k.conn ≢ Some d → is_named k.name q ≡ false
other_peer s h k q d mk mq is isnt = false_from_ne_true (is_named k.name q) (λ t. isnt (ap conn_of (sym (same_peer s h k q mk mq t)) ∙ is))

-- ---- a call that may be made is lawful

pub can_find_so : (a : About) (H : List Entry) (c n : ℕ) → looked H c ≤ n → n ≤ length (sent a H c) → can_find a H c n ≡ true
can_find_so a H c n low high = and_from (nat_le (looked H c) n) (nat_le n (length (sent a H c))) (le-leb (looked H c) n low) (le-leb n (length (sent a H c)) high)

-- a look at who hasn't left can find as many taken as were written
findable : (s : State) → IsSound s → (c : ℕ) → list_any (λ (x : Connection). x.number == c) (unleft s.history) ≡ true → can_find s.about s.history c (written_for s c) ≡ true
findable s h c there =
    let w = h.joined c there in
    let p = h.peers w.0 w.1 in
    subst (λ (n : ℕ). can_find s.about s.history c n ≡ true) (sym (written_is s h w.0 c w.1 w.2))
    (can_find_so s.about s.history c (length w.0.frames) (p.behind c w.2) (short_of (sent s.about s.history c) w.0.frames (p.begins c w.2)))

all_findable : (s : State) → IsSound s → (cs : List ℕ) → ((c : ℕ) → In c cs → list_any (λ (x : Connection). x.number == c) (unleft s.history) ≡ true)
    → list_all (λ (l : Look). can_find s.about s.history l.conn l.taken) (map (λ c. record { conn = c; taken = written_for s c }) cs) ≡ true
all_findable s h [] f = refl
all_findable s h (c ∷ cs) f =
    and_from (can_find s.about s.history c (written_for s c)) (list_all (λ (l : Look). can_find s.about s.history l.conn l.taken) (map (λ c. record { conn = c; taken = written_for s c }) cs))
    (findable s h c (f c (inl refl))) (all_findable s h cs (λ d m. f d (inr m)))

looks_named : (s : State) (cs : List ℕ) → map (λ (l : Look). l.conn) (map (λ c. record { conn = c; taken = written_for s c }) cs) ≡ cs
looks_named s [] = refl
looks_named s (c ∷ cs) = ap (λ (l : List ℕ). c ∷ l) (looks_named s cs)

-- who is looked at hasn't left
unleft_here : (a : About) (H : List Entry) → Legal a H → (q : Connection → Bool) (sender : ℕ) (m : List ℕ) (c : ℕ) → In c (numbers (filter q (meant H sender m)))
    → list_any (λ (x : Connection). x.number == c) (unleft H) ≡ true
unleft_here a H legal q sender m c there =
    let r = in_map (λ (x : Connection). x.number) (filter q (meant H sender m)) c there in
    let one = In-filter q r.0 (meant H sender m) r.1 in
    let two = In-filter (means m sender) r.0 (live H) one.0 in
    let three = In-filter (λ (x : Connection). is_none (ended H x.number)) r.0 (unleft H) (subst (λ (l : List Connection). In r.0 l) (live_unended a H legal) two.0) in
    any_In (λ (x : Connection). x.number == c) r.0 (unleft H) three.0 (eq-eqb r.0.number c r.2)

looked_unleft : (a : About) (H : List Entry) → Legal a H → (call : Call) (c : ℕ) → In c (looks_at H call) → list_any (λ (x : Connection). x.number == c) (unleft H) ≡ true
looked_unleft a H legal (Forward sender m) c there = by (is_stopped H || not (is_none (ended H sender))) there
  where
    q : Connection → Bool
    q = λ x. not (is_too_long (out_of H sender m) x)

    by : (b : Bool) → In c (cond b [] (numbers (filter q (meant H sender m)))) → list_any (λ (x : Connection). x.number == c) (unleft H) ≡ true
    by true n = absurd n
    by false n = unleft_here a H legal q sender m c n
looked_unleft a H legal (Connect who) c there = absurd there
looked_unleft a H legal (Leave conn taken empties) c there = absurd there
looked_unleft a H legal Stop c there = absurd there
looked_unleft a H legal Count c there = absurd there

-- The entry of a call that caller 0 may make is lawful.
pub lawful_of : (s : State) → IsSound s → (call : Call) → may_call s.about s.history 0 call ≡ true → Lawful s.about (moment s.history (entry_in s call))
lawful_of s h call may = record {
  replied = refl;
  named = looks_named s (looks_at s.history call);
  found = all_findable s h (looks_at s.history call) (λ c m. looked_unleft s.about s.history h.legal call c m);
  called = may;
}

-- ---- a peer after a call

begins_on : (whole more grown front : List (List ℕ)) → grown ≡ whole ++ more → StartsWith whole front → StartsWith grown front
begins_on whole more grown front e w = (w.0 ++ more, e ∙ ap (λ (l : List (List ℕ)). l ++ more) w.1 ∙ append_assoc front w.0 more)

as_many : (a b : ℕ) → a ≡ b → a ≤ b
as_many a b e = omega arith

as_few : (a b c : ℕ) → a ≡ b → b ≤ c → a ≤ c
as_few a b c e l = omega arith

pub none_at_all : (a b : ℕ) → a ≡ 0 → a ≤ b
none_at_all a b e = omega arith

-- the looks of a call find no more than was written
looks_on : (s : State) → IsSound s → (call : Call) (k : Peer) (c : ℕ) → In k s.peers → k.conn ≡ Some c → looked (s.history ++ entry_in s call ∷ []) c ≤ length k.frames
looks_on s h call k c m is = by (newest_of c (looks_in s call) (looked s.history c))
  where
    more : looked (s.history ++ entry_in s call ∷ []) c ≡ fold (newer c) (looked s.history c) (looks_in s call)
    more = looked-more s.history (entry_in s call) c

    before : looked s.history c ≤ length k.frames
    before = (h.peers k m).behind c is

    by : ((l : Look) × In l (looks_in s call) × (l.conn ≡ c) × (fold (newer c) (looked s.history c) (looks_in s call) ≡ l.taken))
        ⊎ ((is_among c (map (λ l. l.conn) (looks_in s call)) ≡ false) × (fold (newer c) (looked s.history c) (looks_in s call) ≡ looked s.history c))
        → looked (s.history ++ entry_in s call ∷ []) c ≤ length k.frames
    by (inl r) =
        let found : r.0.taken ≡ written_for s r.0.conn = In_from_all (λ (l : Look). l.taken ≡ written_for s l.conn) r.0 (looks_in s call) (all_found s s (looks_at s.history call) (λ d. refl)) r.1 in
        as_many (looked (s.history ++ entry_in s call ∷ []) c) (length k.frames) (more ∙ r.3 ∙ found ∙ ap (written_for s) r.2 ∙ written_is s h k c m is)
    by (inr r) = as_few (looked (s.history ++ entry_in s call ∷ []) c) (looked s.history c) (length k.frames) (more ∙ r.1) before

-- A peer is sound after a lawful call by which its connection doesn't leave.
pub after_call : (s : State) → IsSound s → (call : Call) → Lawful s.about (moment s.history (entry_in s call)) → (k : Peer) → In k s.peers
    → ((c : ℕ) → k.conn ≡ Some c → leaves c (entry_in s call) ≡ false) → IsSoundPeer s.about (s.history ++ entry_in s call ∷ []) k
after_call s h call lawful k m stays =
    let a = s.about in
    let H = s.history in
    let e = entry_in s call in
    let p = h.peers k m in
    record {
      own = λ c is. is_of_same a H e 0 c h.legal lawful (stays c is) (p.own c is);
      begins = λ c is. begins_on (sent a H c) (added a (moment H e) (sent a H c) c) (sent a (H ++ e ∷ []) c) k.frames (sent-more a H e c) (p.begins c is);
      behind = λ c is. looks_on s h call k c m is;
      waits = p.waits;
      none = p.none;
    }
