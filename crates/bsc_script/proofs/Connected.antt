-- A connect is carried out: what the hub of a script stands for after it.
-- It serves the clauses of `connect`.
use Rattle.std.proofs.Common.{◌≡◌, ℕ, suc, Bool, true, false, cond, List, [], ◌∷◌, ◌++◌, map, set, take, drop, slice_get, Option, Some, None, refl, ap, sym, ◌∙◌, subst}
use Rattle.std.specs.List.{AllByRecursion}
use Rattle.std.specs.Ordering.{nat_cmp}
use Rattle.std.specs.BTreeMap.{get}
use Rattle.std.proofs.lemmas.Bool.{both_ways}
use Rattle.bsc_octets.specs.declared.identity.Identity.{Identity}
use Rattle.bsc_history.specs.declared.limits.About.{About}
use Rattle.bsc_history.specs.declared.call.Call.TheVariants.{Connect}
use Rattle.bsc_history.specs.declared.entry.Entry.{Entry}
use Rattle.bsc_history.specs.declared.reply.Refusal.{Refusal}
use Rattle.bsc_history.specs.declared.reply.Reply.{Reply}
use Rattle.bsc_history.specs.declared.reply.Reply.TheVariants.{Joined as JoinedReply, Refused as RefusedReply}
use Rattle.bsc_history.specs.Laws.{Apart, is_among}
use Rattle.bsc_desk.specs.Entries.{connect_entry}
use Rattle.bsc_hub_core.specs.declared.connected.Connected.TheVariants.{Refused as RefusedBy}
use Rattle.bsc_hub_core.specs.Calls.{ConnectsAs, Joins}
use Rattle.bsc_accept.specs.declared.event.Event.{Event}
use Rattle.bsc_accept.specs.declared.event.Event.TheVariants.{Joined as HasJoined, Refused as WasRefused}
use Rattle.bsc_accept.specs.Standing.{AwaitsAnswer, stage}
use Rattle.bsc_script.specs.declared.script_hub.ScriptHub.{ScriptHub}
use Rattle.bsc_script.specs.declared.peer.Peer.{Peer as KeptPeer}
use Rattle.bsc_script.specs.Written.{says, line_text}
use Rattle.bsc_lines.specs.Replies.{joined_words, refusal_words}
use Rattle.bsc_script.specs.States.{State, Peer, default_times, joined_as, start_at, told, with_peer}
use Rattle.bsc_script.specs.Calls.{called, is_worn, reply_in}
use Rattle.bsc_script.specs.Carrying.{does, step_of, tells}
use Rattle.bsc_script.specs.Receiving.{connects, gets_reply, wears}
use Rattle.bsc_script.specs.Emptying.{due_after, is_due}
use Rattle.bsc_script.specs.Settled.{IsSettledBut, ascends}
use Rattle.bsc_script.specs.Touching.{replaced_list}
use Rattle.bsc_script.specs.Holding.{CarriesOut, name_of, kept_conn, IsAt, IsIndexed, IsPeer, KeepsAt, ScriptStands, StandsAt, kept_in}
use Rattle.bsc_script.specs.Between.{Seats}
use Rattle.bsc_script.proofs.Carried.{said_carried}
use Rattle.bsc_script.proofs.Changes.{indexed}
use Rattle.bsc_script.proofs.Entered.{Changes, KeepsElse, MakesEntry, Owns, all_settled, changes_by, lawful_at, legal_at, makes_same, owners, stands_more, worn_is}
use Rattle.bsc_script.proofs.Pairs.{all-drop, all-take, drop-set, pair_at, partner_of, set-twice, take-set}
use Rattle.bsc_script.proofs.Peers.{changed}
use Rattle.bsc_script.proofs.Seated.{fresh_of, joined_stands, makes_join, state_joined, unwritten_of}
use Rattle.bsc_lemmas.proofs.Lists.{get-set}

-- Names and connections are as before where they are kept so.
indexed_same : (t u : ScriptHub) (ks : List Peer) → KeepsElse t u → IsIndexed t ks → IsIndexed u ks
indexed_same t u ks rest h =
    let same : kept_in u ≡ kept_in t = ap (λ q. map (λ y. (y.0.items, y.1)) q.entries) rest.peers in
    record {
      apart = h.apart;
      names = h.names ∙ ap (map (λ (e : List ℕ × KeptPeer). e.0)) (sym same);
      conns = h.conns ∙ ap (map kept_conn) (sym same);
      index = λ c. ap (λ q. get nat_cmp q c) rest.names ∙ h.index c;
    }

-- ---- the machine

-- A machine that awaits the answer still does.
pub awaits_still : (t n : ScriptHub) (at : ℕ) (s z : State) (k i : Peer) → ScriptStands t s → IsAt at k s → ScriptStands n z → IsAt at i z → z.about ≡ s.about → i.since ≡ k.since
    → i.events ≡ k.events → KeepsAt t at (λ p. AwaitsAnswer p.machine) → KeepsAt n at (λ p. AwaitsAnswer p.machine)
awaits_still t n at s z k i h here g there about since events asks e kept =
    let old = partner_of (IsPeer t.core s.history) s.peers (kept_in t) at k h.peers here in
    let was = asks old.0 old.1 in
    let pair : IsPeer n.core z.history i e = pair_at (IsPeer n.core z.history) z.peers (kept_in n) at i e g.peers there kept in
    let same : n.core.about ≡ t.core.about = g.about ∙ about ∙ sym h.about in
    record {
      id = was.id;
      asked = pair.machine.stage ∙ ap (λ (a : About). stage (start_at a i) i.events) same ∙ ap (λ (x : ℕ). stage (record { own = t.core.about.hub; times = default_times; at = x }) i.events) since
          ∙ ap (stage (start_at t.core.about k)) events ∙ sym old.2.machine.stage ∙ was.asked;
    }

-- what is told to a peer that was changed is told to it
tells_same : (s : State) (at : ℕ) (k i : Peer) (e : Event) → Apart name_of s.peers → slice_get s.peers at ≡ Some k → i.name ≡ k.name → Apart name_of (with_peer i s).peers
    → tells (with_peer i s) i e ≡ tells s i e
tells_same s at k i e apart here name after =
    let j = told e i in
    let one : (with_peer i s).peers ≡ set s.peers at i = changed s.peers at k i apart here name in
    let there : slice_get (with_peer i s).peers at ≡ Some i = ap (λ l. slice_get l at) one ∙ get-set s.peers at k i here in
    let twice : (with_peer j (with_peer i s)).peers ≡ (with_peer j s).peers = changed (with_peer i s).peers at i j after there refl ∙ ap (λ l. set l at j) one ∙ set-twice s.peers at i j
    ∙ sym (changed s.peers at k j apart here name) in
    ap (λ (ps : List Peer). does (record s { peers = ps }) j (step_of s i e)) twice

-- ---- a join

order_of : (o : Option ℕ) → ascends (replaced_list o) ≡ true
order_of None = refl
order_of (Some c) = refl

-- A call that joined, and the peer that got its connection.
pub record JoinsAt (t u v : ScriptHub) (at : ℕ) (s : State) (k : Peer) (who : Identity) (c : ℕ) (replaced : Option ℕ) : Type 0 where
  pub place : StandsAt t at [] s k
  pub free : k.conn ≡ None
  pub rest : KeepsElse t u
  pub joins : Joins s.history c (connect_entry 0 who (JoinedReply c replaced)) t.core u.core
  pub seat : Seats u v at c

module _ (t u v : ScriptHub) (at : ℕ) (s : State) (k : Peer) (who : Identity) (c : ℕ) (replaced : Option ℕ) (j : JoinsAt t u v at s k who c replaced) where
  abbrev entry : Entry
  entry = connect_entry 0 who (JoinedReply c replaced)

  abbrev after_it : State
  after_it = record s { history = s.history ++ entry ∷ [] }

  made : MakesEntry t u s.history entry
  made = makes_join t u s.history c entry j.rest j.joins

  -- The peer that joined stands at its place, and all others are settled but for whom it took over from.
  pub seated_at : StandsAt v at (replaced_list replaced) (state_joined s k who c replaced) (joined_as c k)
  seated_at =
      let w = j.place in
      let h = w.stands in
      let cs = replaced_list replaced in
      let i = joined_as c k in
      let P : Peer → Type 0 = IsSettledBut cs s.about (s.history ++ entry ∷ []) in
      let changes : Changes cs s.about s.history entry = changes_by s.about s.history entry (legal_at t s h) (lawful_at t u s entry h made) refl (λ b. refl) in
      let own = owners t.core s.history s.peers (kept_in t) h.peers in
      let is_set : (with_peer i s).peers ≡ set s.peers at i = changed s.peers at k i h.apart w.here refl in
      record {
        stands = joined_stands t u v at s k who c replaced w j.free j.rest j.joins j.seat;
        here = ap (λ l. slice_get l at) is_set ∙ get-set s.peers at k i w.here;
        before = subst (λ l. AllByRecursion P (take at l)) (sym is_set) (subst (AllByRecursion P) (sym (take-set s.peers at i))
            (all_settled cs s.about s.history entry (take at s.peers) changes (all-take (Owns s.history) s.peers at own) w.before));
        behind = subst (λ l. AllByRecursion P (drop (suc at) l)) (sym is_set) (subst (AllByRecursion P) (sym (drop-set s.peers at i))
            (all_settled cs s.about s.history entry (drop (suc at) s.peers) changes (all-drop (Owns s.history) s.peers (suc at) own) w.behind));
        order = order_of replaced;
      }

  -- nothing is due for who joined
  not_due : due_after s.about (s.history ++ entry ∷ []) (joined_as c k) c ≡ false
  not_due =
      let h = j.place.stands in
      let fresh = fresh_of s.about s.history who c replaced (legal_at t s h) (lawful_at t u s entry h made) in
      let own = partner_of (IsPeer t.core s.history) s.peers (kept_in t) at k h.peers j.place.here in
      let empty = unwritten_of t.core s.history k own.0.1.joined own.2.joined j.free in
      rw (fresh.sent, fresh.ended, empty.0) refl

  -- A connect that joins is carried out.
  pub connected : (r : ScriptHub) (cs before mid after name : List ℕ) → cs ≡ replaced_list replaced
      → ((ks : List Peer) (p : Peer) → IsIndexed u ks → slice_get ks at ≡ Some p → name ≡ p.name) → mid ≡ before ++ line_text (says name (joined_words c replaced))
      → ((z : State) (p : Peer) (ds : List ℕ) (b : ℕ) → StandsAt v at ds z p → p.conn ≡ Some b → (p.held ≡ false → is_due z p b ≡ true → is_among b ds ≡ true)
      → CarriesOut r mid after ds (tells z p HasJoined)) → CarriesOut r before after cs (connects s k who)
  connected r cs before mid after name is named wrote tell =
      let w = j.place in
      let h = w.stands in
      let i = joined_as c k in
      let z = after_it in
      let place : StandsAt v at cs (with_peer i z) i = subst (λ (l : List ℕ). StandsAt v at l (state_joined s k who c replaced) i) (sym is) seated_at in
      let told_so : CarriesOut r mid after cs (tells (with_peer i z) i HasJoined) =
      tell (with_peer i z) i cs c place refl (λ held due. absurd (both_ways (due_after s.about z.history i c) not_due due)) in
      let same : tells (with_peer i z) i HasJoined ≡ tells z i HasJoined = tells_same z at k i HasJoined h.apart w.here refl place.stands.apart in
      let own_name : name ≡ k.name = named s.peers k (indexed_same t u s.peers j.rest (indexed t s h)) w.here in
      let line : CarriesOut r before after cs (gets_reply z k (JoinedReply c replaced)) =
      said_carried r before mid after cs name k (joined_words c replaced) (tells z i HasJoined) wrote own_name (subst (CarriesOut r mid after cs) same told_so) in
      let exact : JoinedReply c replaced ≡ reply_in s (Connect who) = (lawful_at t u s entry h made).replied in
      let done : CarriesOut r before after cs (gets_reply (called s (Connect who)) k (reply_in s (Connect who))) =
      subst (λ (q : Reply). CarriesOut r before after cs (gets_reply (record s { history = s.history ++ connect_entry 0 who q ∷ [] }) k q)) exact line in
      let fresh : is_worn s ≡ false = worn_is t s false h j.joins.enters.fresh in
      subst (λ (b : Bool). CarriesOut r before after cs (cond b (wears s k) (gets_reply (called s (Connect who)) k (reply_in s (Connect who))))) (sym fresh) done

-- ---- a refusal

module _ (t u : ScriptHub) (at : ℕ) (s : State) (k : Peer) (who : Identity) (refusal : Refusal) (w : StandsAt t at [] s k) (rest : KeepsElse t u)
    (x : ConnectsAs s.history 0 who (RefusedBy refusal) t.core u.core) where
  abbrev refusal_entry : Entry
  refusal_entry = connect_entry 0 who (RefusedReply refusal)

  unmade : MakesEntry t u s.history refusal_entry
  unmade = makes_same t u s.history refusal_entry rest x.1.about x.1.stands x.2

  -- A hub that refused stands for the state with the entry.
  pub refused_at : StandsAt u at [] (record s { history = s.history ++ refusal_entry ∷ [] }) k
  refused_at =
      let h = w.stands in
      let changes : Changes [] s.about s.history refusal_entry = changes_by s.about s.history refusal_entry (legal_at t s h) (lawful_at t u s refusal_entry h unmade) refl (λ b. refl) in
      let own = owners t.core s.history s.peers (kept_in t) h.peers in
      record {
        stands = stands_more t u s refusal_entry h unmade (λ b. refl) refl;
        here = w.here;
        before = all_settled [] s.about s.history refusal_entry (take at s.peers) changes (all-take (Owns s.history) s.peers at own) w.before;
        behind = all_settled [] s.about s.history refusal_entry (drop (suc at) s.peers) changes (all-drop (Owns s.history) s.peers (suc at) own) w.behind;
        order = refl;
      }

  -- A connect that is refused is carried out.
  pub refused : (r : ScriptHub) (before mid after name : List ℕ) → ((ks : List Peer) (p : Peer) → IsIndexed u ks → slice_get ks at ≡ Some p → name ≡ p.name)
      → mid ≡ before ++ line_text (says name (refusal_words refusal))
      → ((z : State) (p : Peer) (ds : List ℕ) → StandsAt u at ds z p → CarriesOut r mid after ds (tells z p (WasRefused refusal))) → CarriesOut r before after [] (connects s k who)
  refused r before mid after name named wrote tell =
      let h = w.stands in
      let z : State = record s { history = s.history ++ refusal_entry ∷ [] } in
      let own_name : name ≡ k.name = named s.peers k (indexed_same t u s.peers rest (indexed t s h)) w.here in
      let line : CarriesOut r before after [] (gets_reply z k (RefusedReply refusal)) =
      said_carried r before mid after [] name k (refusal_words refusal) (tells z k (WasRefused refusal)) wrote own_name (tell z k [] refused_at) in
      let exact : RefusedReply refusal ≡ reply_in s (Connect who) = (lawful_at t u s refusal_entry h unmade).replied in
      let done : CarriesOut r before after [] (gets_reply (called s (Connect who)) k (reply_in s (Connect who))) =
      subst (λ (q : Reply). CarriesOut r before after [] (gets_reply (record s { history = s.history ++ connect_entry 0 who q ∷ [] }) k q)) exact line in
      subst (λ (b : Bool). CarriesOut r before after [] (cond b (wears s k) (gets_reply (called s (Connect who)) k (reply_in s (Connect who))))) (sym (worn_is t s false h x.1.fresh)) done

-- A connect that is worn closes its peer.
pub connects_worn : (r : ScriptHub) (s : State) (k : Peer) (who : Identity) (before after : List ℕ) → is_worn s ≡ true → CarriesOut r before after [] (wears s k)
    → CarriesOut r before after [] (connects s k who)
connects_worn r s k who before after worn h =
    subst (λ (b : Bool). CarriesOut r before after [] (cond b (wears s k) (gets_reply (called s (Connect who)) k (reply_in s (Connect who))))) (sym worn) h
