-- What keeps a state sound: a call, a peer that is changed, closed, opened or told something, one that leaves or joins.
-- It serves the clauses of `a_line_goes_on` and `a_script_is_of_one_hub`.
use Rattle.std.proofs.Common.{◌≡◌, ◌≢◌, ◌⊎◌, inl, inr, ℕ, ◌≤◌, ◌==◌, Bool, true, false, not, List, [], ◌∷◌, ◌++◌, filter, length, Option, Some, None, option_to_list, true≢false}
use Rattle.std.proofs.Common.{refl, ap, sym, ◌∙◌, subst, append-nil}
use Rattle.std.specs.List.{list_any}
use Rattle.std.proofs.lemmas.Bool.{and_from, both_ways, eq-eqb, eqb-true, false_from_ne_true}
use Rattle.bsc_octets.specs.declared.identity.Identity.{Identity}
use Rattle.bsc_history.specs.declared.limits.About.{About}
use Rattle.bsc_history.specs.declared.call.Call.{Call}
use Rattle.bsc_history.specs.declared.call.Call.TheVariants.{Connect}
use Rattle.bsc_history.specs.declared.connection.Connection.{Connection}
use Rattle.bsc_history.specs.declared.entry.Entry.{Entry}
use Rattle.bsc_history.specs.declared.reply.Reply.{Reply}
use Rattle.bsc_history.specs.declared.reply.Reply.TheVariants.{Joined}
use Rattle.bsc_history.specs.Entries.{connection_of, joins, made_by, moment}
use Rattle.bsc_history.specs.Ends.{leaves, unleft}
use Rattle.bsc_history.specs.Legality.{Lawful, can_find, is_of, may_call}
use Rattle.bsc_history.specs.Outboxes.{looked, sent}
use Rattle.bsc_history.proofs.Lifting.{join_owned, own_joined}
use Rattle.bsc_history.proofs.Lists.{In, In-append, In-filter, In_from_all, In_kept, Apart-filter, Apart-push, any_gives, any_In, same_one, In-left}
use Rattle.bsc_history.proofs.More.{Legal-more, unleft-more, unleft-same}
use Rattle.bsc_checks.specs.declared.phase.Phase.TheVariants.{AwaitingRequest}
use Rattle.bsc_accept.specs.declared.event.Event.{Event}
use Rattle.bsc_accept.specs.declared.event.Event.TheVariants.{Joined as HasJoined}
use Rattle.bsc_accept.specs.declared.pending_disconnect.PendingDisconnect.{PendingDisconnect}
use Rattle.bsc_accept.specs.Kept.{moved}
use Rattle.bsc_accept.specs.Past.{Standing, awaiting_request, connected, disconnecting, farewell_at, phase, phase_named, standing, until_farewell}
use Rattle.bsc_accept.proofs.Looking.{standing-more}
use Rattle.bsc_ring.specs.Lists.{StartsWith}
use Rattle.bsc_desk.specs.Entries.{connect_entry}
use Rattle.bsc_script.specs.States.{State, Peer, is_named, is_open, joined_as, new_peer, told, with_opened, with_peer, without_name}
use Rattle.bsc_script.specs.Calls.{called, entry_in, leave_of, reply_in}
use Rattle.bsc_script.specs.Holding.{name_of, conn_of}
use Rattle.bsc_script.proofs.Pairs.{Apart-same}
use Rattle.bsc_script.proofs.Peers.{name_same, same_name}
use Rattle.bsc_script.proofs.Seated.{Fresh, fresh_of}
use Rattle.bsc_script_laws.proofs.Aside.{none_of}
use Rattle.bsc_accept.proofs.Common.{awaits_not as none_awaited}
use Rattle.bsc_lemmas.proofs.Booleans.{not_true as named_not}
use Rattle.bsc_lemmas.proofs.Options.{some_none as some_nothing}
use Rattle.bsc_ring.proofs.Common.{short_of}
use Rattle.std.proofs.lemmas.Option.{none-some as nothing_some, same_Some as same_some}
use Rattle.bsc_script_laws.proofs.Placed.{in_placed, names_placed, placed, placed_in, placed_other}
use Rattle.bsc_script_laws.proofs.Sound.{HasPeer, IsSound, IsSoundPeer, after_call, can_find_so, lawful_of, none_at_all, other_peer}

-- ---- what keeps a state sound

-- A call by which nobody leaves and nobody joins.
pub quiet_sound : (s : State) → IsSound s → (call : Call) → may_call s.about s.history 0 call ≡ true → connection_of (entry_in s call) ≡ None → ((c : ℕ) → leaves c (entry_in s call) ≡ false)
    → IsSound (called s call)
quiet_sound s h call may none stays =
    let lawful = lawful_of s h call may in
    record {
      legal = Legal-more s.about s.history (entry_in s call) h.legal lawful;
      apart = h.apart;
      peers = λ k m. after_call s h call lawful k m (λ c is. stays c);
      conns = h.conns;
      joined = λ c there. h.joined c (sym (ap (list_any (λ (x : Connection). x.number == c)) (unleft-same s.history (entry_in s call) none stays)) ∙ there);
    }

-- A peer is changed, whose name and connection stay.
pub changed_sound : (s : State) → IsSound s → (k j : Peer) → In k s.peers → j.name ≡ k.name → j.conn ≡ k.conn → IsSoundPeer s.about s.history j → IsSound (with_peer j s)
changed_sound s h k j m name conn own = record {
  legal = h.legal;
  apart = Apart-same name_of name_of s.peers (placed j s.peers) (sym (names_placed j s.peers)) h.apart;
  peers = λ q i. sound q (in_placed j q s.peers i);
  conns = λ p q c i l e f. both p q c (in_placed j p s.peers i) (in_placed j q s.peers l) e f;
  joined = λ c there. still c (h.joined c there);
}
  where
    Is : Peer → Type 0
    Is q = (q ≡ j) ⊎ (In q s.peers × (is_named j.name q ≡ false))

    sound : (q : Peer) → Is q → IsSoundPeer s.about s.history q
    sound q (inl e) = subst (IsSoundPeer s.about s.history) (sym e) own
    sound q (inr r) = h.peers q r.0

    other : (q : Peer) (c : ℕ) → j.conn ≡ Some c → In q s.peers → is_named j.name q ≡ false → q.conn ≡ Some c → ⊥
    other q c e i isnt f =
        let same : q ≡ k = h.conns q k c i m f (sym conn ∙ e) in
        true≢false (sym (name_same q.name j.name (ap name_of same ∙ sym name)) ∙ isnt)

    both : (p q : Peer) (c : ℕ) → Is p → Is q → p.conn ≡ Some c → q.conn ≡ Some c → p ≡ q
    both p q c (inl a) (inl b) e f = a ∙ sym b
    both p q c (inl a) (inr b) e f = absurd (other q c (ap conn_of (sym a) ∙ e) b.0 b.1 f)
    both p q c (inr a) (inl b) e f = absurd (other p c (ap conn_of (sym b) ∙ f) a.0 a.1 e)
    both p q c (inr a) (inr b) e f = h.conns p q c a.0 b.0 e f

    still : (c : ℕ) → HasPeer c s.peers → HasPeer c (placed j s.peers)
    still c w = by (is_named j.name w.0) refl
      where
        by : (b : Bool) → is_named j.name w.0 ≡ b → HasPeer c (placed j s.peers)
        by true is =
            let same : w.0 ≡ k = same_one name_of w.0 k s.peers h.apart w.1 m (same_name w.0.name j.name is ∙ name) in
            (j, placed_in j k s.peers m name, conn ∙ ap conn_of (sym same) ∙ w.2)
        by false is = (w.0, placed_other j w.0 s.peers w.1 is, w.2)

-- those that stay where a name is closed
stays_open : (s : State) → IsSound s → (k q : Peer) → In k s.peers → In q s.peers → is_named k.name q ≡ false → In q (without_name k.name s).peers
stays_open s h k q mk mq isnt = In_kept (λ p. not (is_named k.name p)) q s.peers mq (ap not isnt)

-- A name without a connection is closed.
pub closed_sound : (s : State) → IsSound s → (k : Peer) → In k s.peers → k.conn ≡ None → IsSound (without_name k.name s)
closed_sound s h k m free = record {
  legal = h.legal;
  apart = Apart-filter name_of (λ p. not (is_named k.name p)) s.peers h.apart;
  peers = λ q i. h.peers q (In-filter (λ p. not (is_named k.name p)) q s.peers i).0;
  conns = λ p q c i l e f. h.conns p q c (In-filter (λ r. not (is_named k.name r)) p s.peers i).0 (In-filter (λ r. not (is_named k.name r)) q s.peers l).0 e f;
  joined = λ c there. (let w = h.joined c there in (w.0, stays_open s h k w.0 m w.1 (other_peer s h k w.0 c m w.1 w.2 (λ e. nothing_some c (sym free ∙ e))), w.2));
}

-- The connection of a name leaves, and the name is closed.
pub left_sound : (s : State) → IsSound s → (k : Peer) (c : ℕ) → In k s.peers → k.conn ≡ Some c → IsSound (without_name k.name (called s (leave_of c k)))
left_sound s h k c m is = record {
  legal = Legal-more a H e h.legal lawful;
  apart = Apart-filter name_of K s.peers h.apart;
  peers = λ q i. (let f = In-filter K q s.peers i in after_call s h (leave_of c k) lawful q f.0 (λ d has. another q d f.0 (named_not (is_named k.name q) f.1) has));
  conns = λ p q d i l g f. h.conns p q d (In-filter K p s.peers i).0 (In-filter K q s.peers l).0 g f;
  joined = λ d there. still d (any_gives (λ (x : Connection). x.number == d) (filter L (unleft H)) (sym (ap (list_any (λ (x : Connection). x.number == d)) rest) ∙ there));
}
  where
    a : About
    a = s.about

    H : List Entry
    H = s.history

    e : Entry
    e = entry_in s (leave_of c k)

    K : Peer → Bool
    K = λ p. not (is_named k.name p)

    L : Connection → Bool
    L = λ x. not (leaves x.number e)

    p : IsSoundPeer a H k
    p = h.peers k m

    lawful : Lawful a (moment H e)
    lawful = lawful_of s h (leave_of c k)
        (and_from (is_of H 0 c) (can_find a H c (length k.frames)) (p.own c is) (can_find_so a H c (length k.frames) (p.behind c is) (short_of (sent a H c) k.frames (p.begins c is))))

    rest : unleft (H ++ e ∷ []) ≡ filter L (unleft H)
    rest = unleft-more H e ∙ append-nil (filter L (unleft H))

    another : (q : Peer) (d : ℕ) → In q s.peers → is_named k.name q ≡ false → q.conn ≡ Some d → leaves d e ≡ false
    another q d i isnt has = false_from_ne_true (c == d) (λ t.
        let same : q ≡ k = h.conns q k d i m has (is ∙ ap Some (eqb-true c d t)) in
        true≢false (sym (name_same q.name k.name (ap name_of same)) ∙ isnt))

    still : (d : ℕ) → ((x : Connection) × In x (filter L (unleft H)) × ((x.number == d) ≡ true)) → HasPeer d (filter K s.peers)
    still d r =
        let f = In-filter L r.0 (unleft H) r.1 in
        let w = h.joined d (any_In (λ (x : Connection). x.number == d) r.0 (unleft H) f.0 r.2) in
        let apart : k.conn ≢ Some d = λ g. true≢false (sym (eq-eqb c r.0.number (same_some c d (sym is ∙ g) ∙ sym (eqb-true r.0.number d r.2))) ∙ named_not (c == r.0.number) f.1) in
        (w.0, In_kept K w.0 s.peers w.1 (ap not (other_peer s h k w.0 d m w.1 w.2 apart)), w.2)

-- A name opens.
pub opened_sound : (s : State) → IsSound s → (name : List ℕ) → is_open s name ≡ false → IsSound (with_opened (new_peer name s.clock) s)
opened_sound s h name closed = record {
  legal = h.legal;
  apart = Apart-push name_of s.peers (Some new) h.apart (λ p q i e f. In_from_all (λ (r : Peer). r.name ≢ name) p s.peers (none_of name s.peers closed) i (f ∙ ap name_of (sym (same_some new q e))));
  peers = λ q i. sound q (In-append q s.peers (new ∷ []) i);
  conns = λ p q c i l e f. both p q c (In-append p s.peers (new ∷ []) i) (In-append q s.peers (new ∷ []) l) e f;
  joined = λ c there. (let w = h.joined c there in (w.0, In-left w.0 s.peers (new ∷ []) w.1, w.2));
}
  where
    new : Peer
    new = new_peer name s.clock

    sound : (q : Peer) → In q s.peers ⊎ In q (new ∷ []) → IsSoundPeer s.about s.history q
    sound q (inl i) = h.peers q i
    sound q (inr (inl e)) = subst (IsSoundPeer s.about s.history) e (record {
      own = λ c is. absurd (nothing_some c is);
      begins = λ c is. absurd (nothing_some c is);
      behind = λ c is. absurd (nothing_some c is);
      waits = λ w. refl;
      none = λ n. refl;
    })
    sound q (inr (inr n)) = absurd n

    unjoined : (q : Peer) (c : ℕ) → In q (new ∷ []) → q.conn ≡ Some c → ⊥
    unjoined q c (inl e) f = nothing_some c (ap conn_of e ∙ f)
    unjoined q c (inr n) f = absurd n

    both : (p q : Peer) (c : ℕ) → In p s.peers ⊎ In p (new ∷ []) → In q s.peers ⊎ In q (new ∷ []) → p.conn ≡ Some c → q.conn ≡ Some c → p ≡ q
    both p q c (inl i) (inl l) e f = h.conns p q c i l e f
    both p q c (inr i) l e f = absurd (unjoined p c i e)
    both p q c (inl i) (inr l) e f = absurd (unjoined q c l f)

-- ---- phases

before_event : (g : Standing) (e : Event) → phase_named (moved g e) ≡ AwaitingRequest → phase_named g ≡ AwaitingRequest
before_event awaiting_request e h = refl
before_event connected e h = by (farewell_at e) h
  where
    by : (o : Option PendingDisconnect) → phase_named (until_farewell o) ≡ AwaitingRequest → phase_named connected ≡ AwaitingRequest
    by None f = f
    by (Some x) f = cc
before_event (disconnecting f) e h = cc

-- where a Connect-Request is awaited after an event, it was before
awaited : (E : List Event) (e : Event) → phase (E ++ e ∷ []) ≡ AwaitingRequest → phase E ≡ AwaitingRequest
awaited E e h = before_event (standing E) e (sym (ap phase_named (standing-more E e)) ∙ h)

-- The machine of a peer is told something.
pub told_sound : (s : State) → IsSound s → (k : Peer) (e : Event) → In k s.peers → IsSound (with_peer (told e k) s)
told_sound s h k e m =
    let p = h.peers k m in
    changed_sound s h k (told e k) m refl refl (record { own = p.own; begins = p.begins; behind = p.behind; waits = λ w. p.waits (awaited k.events e w); none = p.none })

-- ---- who joins

-- Who connects joins, and its machine is told.
pub joined_sound : (s : State) → IsSound s → (k : Peer) (who : Identity) (c : ℕ) (replaced : Option ℕ) → In k s.peers → k.conn ≡ None → may_call s.about s.history 0 (Connect who) ≡ true
    → reply_in s (Connect who) ≡ Joined c replaced → IsSound (with_peer (told HasJoined (joined_as c k)) (called s (Connect who)))
joined_sound s h k who c replaced m free may is = record {
  legal = Legal-more a H e h.legal lawful;
  apart = Apart-same name_of name_of s.peers (placed j s.peers) (sym (names_placed j s.peers)) h.apart;
  peers = λ q i. sound q (in_placed j q s.peers i);
  conns = λ p q d i l g f. both p q d (in_placed j p s.peers i) (in_placed j q s.peers l) g f;
  joined = λ d there. still d (any_gives (λ (y : Connection). y.number == d) (filter L (unleft H) ++ x ∷ []) (sym (ap (list_any (λ (y : Connection). y.number == d)) more) ∙ there));
}
  where
    a : About
    a = s.about

    H : List Entry
    H = s.history

    e : Entry
    e = entry_in s (Connect who)

    x : Connection
    x = record { number = c; caller = 0; who = who }

    j : Peer
    j = told HasJoined (joined_as c k)

    L : Connection → Bool
    L = λ y. not (leaves y.number e)

    lawful : Lawful a (moment H e)
    lawful = lawful_of s h (Connect who) may

    entry_so : e ≡ connect_entry 0 who (Joined c replaced)
    entry_so = ap (λ (r : Reply). connect_entry 0 who r) is

    new : connection_of e ≡ Some x
    new = ap (λ (r : Reply). made_by 0 (Connect who) r) is

    fresh : Fresh a H (connect_entry 0 who (Joined c replaced)) c
    fresh = fresh_of a H who c replaced h.legal (subst (λ (y : Entry). Lawful a (moment H y)) entry_so lawful)

    more : unleft (H ++ e ∷ []) ≡ filter L (unleft H) ++ x ∷ []
    more = unleft-more H e ∙ ap (λ (o : Option Connection). filter L (unleft H) ++ option_to_list o) new

    nothing : k.frames ≡ []
    nothing = (h.peers k m).none free

    own : IsSoundPeer a (H ++ e ∷ []) j
    own = record {
      own = λ d g. subst (λ (n : ℕ). is_of (H ++ e ∷ []) 0 n ≡ true) (same_some c d g) (join_owned H e x new);
      begins = λ d g. subst (λ (n : ℕ). StartsWith (sent a (H ++ e ∷ []) n) k.frames) (same_some c d g)
          ([], ap (λ (y : Entry). sent a (H ++ y ∷ []) c) entry_so ∙ fresh.sent ∙ sym (append-nil k.frames ∙ nothing));
      behind = λ d g. subst (λ (n : ℕ). looked (H ++ e ∷ []) n ≤ length k.frames) (same_some c d g)
          (none_at_all (looked (H ++ e ∷ []) c) (length k.frames) (ap (λ (y : Entry). looked (H ++ y ∷ []) c) entry_so ∙ fresh.looked));
      waits = λ w. absurd (none_awaited (standing k.events) (sym (ap phase_named (standing-more k.events HasJoined)) ∙ w));
      none = λ n. absurd (some_nothing c n);
    }

    Is : Peer → Type 0
    Is q = (q ≡ j) ⊎ (In q s.peers × (is_named j.name q ≡ false))

    sound : (q : Peer) → Is q → IsSoundPeer a (H ++ e ∷ []) q
    sound q (inl g) = subst (IsSoundPeer a (H ++ e ∷ [])) (sym g) own
    sound q (inr r) = after_call s h (Connect who) lawful q r.0 (λ d g. refl)

    other : (q : Peer) (d : ℕ) → j.conn ≡ Some d → In q s.peers → q.conn ≡ Some d → ⊥
    other q d g i f =
        both_ways (list_any (joins d) H) (subst (λ (n : ℕ). list_any (joins n) H ≡ false) (same_some c d g) fresh.joins) (own_joined H 0 d ((h.peers q i).own d f))

    both : (p q : Peer) (d : ℕ) → Is p → Is q → p.conn ≡ Some d → q.conn ≡ Some d → p ≡ q
    both p q d (inl u) (inl v) g f = u ∙ sym v
    both p q d (inl u) (inr v) g f = absurd (other q d (ap conn_of (sym u) ∙ g) v.0 f)
    both p q d (inr u) (inl v) g f = absurd (other p d (ap conn_of (sym v) ∙ f) u.0 g)
    both p q d (inr u) (inr v) g f = h.conns p q d u.0 v.0 g f

    still : (d : ℕ) → ((y : Connection) × In y (filter L (unleft H) ++ x ∷ []) × ((y.number == d) ≡ true)) → HasPeer d (placed j s.peers)
    still d r = by (In-append r.0 (filter L (unleft H)) (x ∷ []) r.1)
      where
        by : In r.0 (filter L (unleft H)) ⊎ In r.0 (x ∷ []) → HasPeer d (placed j s.peers)
        by (inl i) =
            let w = h.joined d (any_In (λ (y : Connection). y.number == d) r.0 (unleft H) (In-filter L r.0 (unleft H) i).0 r.2) in
            (w.0, placed_other j w.0 s.peers w.1 (other_peer s h k w.0 d m w.1 w.2 (λ g. nothing_some d (sym free ∙ g))), w.2)
        by (inr (inl g)) = (j, placed_in j k s.peers m refl, ap Some (ap (λ (y : Connection). y.number) g ∙ eqb-true r.0.number d r.2))
        by (inr (inr n)) = absurd n
