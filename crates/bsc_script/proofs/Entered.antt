-- The core made an entry: the hub stands for the state with it, and all are settled but for those whose outboxes it changed.
-- It serves clauses of functions of `script_hub`.
use Rattle.std.proofs.Common.{◌≡◌, ℕ, ◌==◌, Bool, true, false, not, ◌&&◌, ◌||◌, nat_le, List, [], ◌∷◌, ◌++◌, length, map, drop, Option, Some, None, is_some, refl, ap, sym, ◌∙◌, subst}
use Rattle.std.specs.List.{AllByRecursion, list_any}
use Rattle.std.specs.Ordering.{nat_cmp}
use Rattle.std.specs.BTreeMap.{get}
use Rattle.std.proofs.lemmas.Bool.{both_ways}
use Rattle.bsc_history.specs.declared.limits.About.{About}
use Rattle.bsc_history.specs.declared.call.Call.{Call}
use Rattle.bsc_history.specs.declared.ending.End.{End}
use Rattle.bsc_history.specs.declared.entry.Entry.{Entry}
use Rattle.bsc_history.specs.declared.looks.Look.{Look}
use Rattle.bsc_history.specs.declared.reply.Reply.{Reply}
use Rattle.bsc_history.specs.Entries.{connection_of, is_stop, moment}
use Rattle.bsc_history.specs.Ends.{ended, leaves}
use Rattle.bsc_history.specs.Laws.{is_among}
use Rattle.bsc_history.specs.Legality.{Lawful, Legal, is_of}
use Rattle.bsc_history.specs.Outboxes.{sent}
use Rattle.bsc_history.specs.Replies.{reply}
use Rattle.bsc_history.proofs.Lists.{In_from_all}
use Rattle.bsc_history.proofs.More.{unleft-same}
use Rattle.bsc_hub_core.specs.declared.hub_core.HubCore.{HubCore}
use Rattle.bsc_hub_core.specs.declared.outbox.Outbox.{Outbox}
use Rattle.bsc_hub_core.specs.Calls.{GainsIf, looks_of, taken_in}
use Rattle.bsc_hub_core.specs.Outboxes.{empties_by, taken_by}
use Rattle.bsc_hub_core.specs.Standing.{CoreStands, IsUnleft, outbox_at}
use Rattle.bsc_hub_core.proofs.Facts.{core_lawful, core_legal, looks_by}
use Rattle.bsc_accept.specs.Past.{phase}
use Rattle.bsc_accept.specs.Standing.{AcceptingStands}
use Rattle.bsc_script.specs.declared.peer.Peer.{Peer as KeptPeer}
use Rattle.bsc_script.specs.declared.script_hub.ScriptHub.{ScriptHub}
use Rattle.bsc_script.specs.Written.{Said, line_text}
use Rattle.bsc_script.specs.States.{State, Peer, peer_on, start_at}
use Rattle.bsc_script.specs.Calls.{called, entry_in, is_worn, looks_in, reply_in, written_for, written_in}
use Rattle.bsc_script.specs.Carrying.{quietly, writes}
use Rattle.bsc_script.specs.Emptying.{due_after, is_connected}
use Rattle.bsc_script.specs.Settled.{IsSettledBut, SettledBut, ascends}
use Rattle.bsc_script.specs.Touching.{touched}
use Rattle.bsc_script.specs.Holding.{ArePeers, CarriesOut, IsJoinedIf, IsJoinedPeer, IsPeer, Pairs, ScriptStands, StandsAt, kept_in}
use Rattle.bsc_script.proofs.Carried.{line_carried, quiet_carried}
use Rattle.bsc_script.proofs.Changes.{conn_kept}
use Rattle.bsc_script.proofs.Pairs.{Pairs-all, Pairs-weaker}
use Rattle.bsc_script.proofs.Peers.{found_conn}
use Rattle.bsc_script.proofs.Touched.{ended_same, is_of_same, sent_same}

-- what is kept of a peer that has joined
pub joined_peer : (K : HubCore) (H : List Entry) (k : Peer) (c : ℕ) (o : Option ℕ) → IsJoinedIf K H k o → k.conn ≡ Some c → IsJoinedPeer K H k c
joined_peer K H k c o p conn = (let q : IsJoinedIf K H k (Some c) = subst (IsJoinedIf K H k) (sym (conn_kept K H k o p) ∙ conn) p in q.1)

-- ---- a call of the core

-- u is t, but for its core.
pub record KeepsElse (t u : ScriptHub) : Type 0 where
  pub about : u.about ≡ t.about
  pub clock : u.clock ≡ t.clock
  pub peers : u.peers ≡ t.peers
  pub names : u.names ≡ t.names

-- what was taken from an outbox, and how often it was found empty, is as it was
abbrev pub KeepsTaken : Outbox → Option Outbox → Type 0
KeepsTaken p o = (q : Outbox) × (o ≡ Some q) × (taken_by q ≡ taken_by p) × (empties_by q ≡ empties_by p)

-- The core of t made the entry e after H, and is that of u: nothing was taken from an outbox, and none is gone.
pub record MakesEntry (t u : ScriptHub) (H : List Entry) (e : Entry) : Type 0 where
  pub rest : KeepsElse t u
  pub about : u.core.about ≡ t.core.about
  pub stands : CoreStands u.core (H ++ e ∷ [])
  pub keeps : (b : ℕ) (p : Outbox) → outbox_at t.core b ≡ Some p → KeepsTaken p (outbox_at u.core b)

-- each outbox is as it was
pub makes_same : (t u : ScriptHub) (H : List Entry) (e : Entry) → KeepsElse t u → u.core.about ≡ t.core.about → CoreStands u.core (H ++ e ∷ [])
    → ((b : ℕ) → outbox_at u.core b ≡ outbox_at t.core b) → MakesEntry t u H e
makes_same t u H e rest about stands same = record { rest = rest; about = about; stands = stands; keeps = λ b p at. (p, same b ∙ at, refl, refl) }

-- some gained frames
pub makes_gains : (t u : ScriptHub) (H : List Entry) (e : Entry) (tag : ℕ) (more : ℕ → List (List ℕ)) → KeepsElse t u → u.core.about ≡ t.core.about
    → CoreStands u.core (H ++ e ∷ []) → ((b : ℕ) → GainsIf tag (more b) (outbox_at t.core b) (outbox_at u.core b)) → MakesEntry t u H e
makes_gains t u H e tag more rest about stands gains = record {
  rest = rest;
  about = about;
  stands = stands;
  keeps = λ b p at. (let g : GainsIf tag (more b) (Some p) (outbox_at u.core b) = subst (λ o. GainsIf tag (more b) o (outbox_at u.core b)) at (gains b) in (g.0, g.1, g.2.taken, g.2.empties));
}

-- the history is legal
pub legal_at : (t : ScriptHub) (s : State) → ScriptStands t s → Legal s.about s.history
legal_at t s w = subst (λ a. Legal a s.history) w.about (core_legal t.core s.history w.core)

-- Whether the hub is worn is what its core says.
pub worn_is : (t : ScriptHub) (s : State) (b : Bool) → ScriptStands t s → nat_le t.core.about.limits.calls (length s.history) ≡ b → is_worn s ≡ b
worn_is t s b w says = ap (λ (a : About). nat_le a.limits.calls (length s.history)) (sym w.about) ∙ says

-- The hub is the same.
pub stands_same : (t u : ScriptHub) (s : State) → KeepsElse t u → u.core ≡ t.core → ScriptStands t s → ScriptStands u s
stands_same t u s rest core w = record {
  core = subst (λ (x : HubCore). CoreStands x s.history) (sym core) w.core;
  about = ap (λ (x : HubCore). x.about) core ∙ w.about;
  same_hub = rest.about ∙ w.same_hub;
  clock = rest.clock ∙ w.clock;
  peers = subst (λ (x : HubCore). ArePeers x s.history s.peers (kept_in u)) (sym core)
      (subst (λ q. ArePeers t.core s.history s.peers (map (λ e. (e.0.items, e.1)) q.entries)) (sym rest.peers) w.peers);
  apart = w.apart;
  conns = w.conns;
  names = λ c. ap (λ q. get nat_cmp q c) rest.names ∙ w.names c;
  joined = w.joined;
}

pub at_same : (t u : ScriptHub) (at : ℕ) (cs : List ℕ) (s : State) (k : Peer) → KeepsElse t u → u.core ≡ t.core → StandsAt t at cs s k → StandsAt u at cs s k
at_same t u at cs s k rest core w = record { stands = stands_same t u s rest core w.stands; here = w.here; before = w.before; behind = w.behind; order = w.order }

module _ (t u : ScriptHub) (s : State) (e : Entry) (w : ScriptStands t s) (m : MakesEntry t u s.history e) where
  pub lawful_at : Lawful s.about (moment s.history e)
  lawful_at = subst (λ a. Lawful a (moment s.history e)) w.about (core_lawful t.core u.core s.history e m.about m.stands)

  joined_more : ((b : ℕ) → leaves b e ≡ false) → (k : Peer) (o : Option ℕ) → IsJoinedIf t.core s.history k o → IsJoinedIf u.core (s.history ++ e ∷ []) k o
  joined_more stay k None p = p
  joined_more stay k (Some c) p =
      let q = m.keeps c p.1.outbox p.1.there in
      (p.0, record { joiner = is_of_same s.about s.history e 0 c (legal_at t s w) lawful_at (stay c) p.1.joiner; outbox = q.0; there = q.1; frames = q.2 ∙ p.1.frames; empties = q.3 ∙ p.1.empties })

  peer_more : ((b : ℕ) → leaves b e ≡ false) → (k : Peer) (x : List ℕ × KeptPeer) → IsPeer t.core s.history k x → IsPeer u.core (s.history ++ e ∷ []) k x
  peer_more stay k x p = record {
    name = p.name;
    machine = subst (λ (a : About). AcceptingStands x.1.machine (start_at a k) k.events) (sym m.about) p.machine;
    held = p.held;
    joined = joined_more stay k x.1.joined p.joined;
  }

  -- All peers are kept after an entry by which nobody leaves.
  pub peers_more : ((b : ℕ) → leaves b e ≡ false) → ArePeers u.core (s.history ++ e ∷ []) s.peers (kept_in t)
  peers_more stay = Pairs-weaker (IsPeer t.core s.history) (IsPeer u.core (s.history ++ e ∷ [])) s.peers (kept_in t) (λ k x n p. peer_more stay k x p) w.peers

  -- Nobody joined by it either: the hub stands for the state with the entry.
  pub stands_more : ((b : ℕ) → leaves b e ≡ false) → connection_of e ≡ None → ScriptStands u (record s { history = s.history ++ e ∷ [] })
  stands_more stay nobody = record {
    core = m.stands;
    about = m.about ∙ w.about;
    same_hub = m.rest.about ∙ w.same_hub;
    clock = m.rest.clock ∙ w.clock;
    peers = subst (λ q. ArePeers u.core (s.history ++ e ∷ []) s.peers (map (λ x. (x.0.items, x.1)) q.entries)) (sym m.rest.peers) (peers_more stay);
    apart = w.apart;
    conns = w.conns;
    names = λ c. ap (λ q. get nat_cmp q c) m.rest.names ∙ w.names c;
    joined = λ c any. w.joined c (sym (ap (list_any (λ y. y.number == c)) (unleft-same s.history e nobody stay)) ∙ any);
  }

-- ---- the entry that a line makes

-- Each look of a call finds just what was written.
pub looks_are : (t : ScriptHub) (s : State) (call : Call) → ScriptStands t s → looks_of t.core s.history call ≡ looks_in s call
looks_are t s call w = looks_by t.core s.history call (written_for s) w.core one
  where
    P : Peer → Type 0
    P k = (c : ℕ) → k.conn ≡ Some c → taken_in (outbox_at t.core c) ≡ length k.frames

    all : AllByRecursion P s.peers
    all = Pairs-all (IsPeer t.core s.history) P s.peers (kept_in t) (λ k x p c is.
        (let q = joined_peer t.core s.history k c x.1.joined p.joined is in ap taken_in q.there ∙ ap length q.frames)) w.peers

    by : (b : ℕ) (o : Option Peer) → peer_on s b ≡ o → is_some o ≡ true → taken_in (outbox_at t.core b) ≡ written_in o
    by b None q g = cc
    by b (Some p) q g = (let f = found_conn b p s.peers q in In_from_all P p s.peers all f.1 b f.0)

    one : (b : ℕ) → IsUnleft s.history b → taken_in (outbox_at t.core b) ≡ written_for s b
    one b un = by b (peer_on s b) refl (w.joined b un)

-- An entry of caller 0 with these looks is the one that the call makes.
pub exact_entry : (t u : ScriptHub) (s : State) (e : Entry) (w : ScriptStands t s) → MakesEntry t u s.history e → e.caller ≡ 0 → e.looks ≡ looks_in s e.call → e ≡ entry_in s e.call
exact_entry t u s e w m mine looks =
    let said : e.reply ≡ reply_in s e.call = (lawful_at t u s e w m).replied ∙ ap (reply s.about s.history e.call) looks in
    let E = λ (p : ℕ) (ls : List Look) (r : Reply). (let x : Entry = record { caller = p; call = e.call; looks = ls; reply = r } in x) in
    ap (λ (p : ℕ). E p e.looks e.reply) mine ∙ ap (λ (ls : List Look). E 0 ls e.reply) looks ∙ ap (λ (r : Reply). E 0 (looks_in s e.call) r) said

-- ---- who is settled

-- What an entry doesn't change: what entered the outboxes of caller 0's connections but those of cs, and how they ended.
pub record Changes (cs : List ℕ) (a : About) (H : List Entry) (e : Entry) : Type 0 where
  pub sent_same : (c : ℕ) → is_of H 0 c ≡ true → is_among c cs ≡ false → sent a (H ++ e ∷ []) c ≡ sent a H c
  pub ended_same : (c : ℕ) → is_of H 0 c ≡ true → is_among c cs ≡ false → ended (H ++ e ∷ []) c ≡ ended H c

-- An entry that is no Stop and no Leave changes the outboxes of those that its reply touches.
pub changes_by : (a : About) (H : List Entry) (e : Entry) → Legal a H → Lawful a (moment H e) → is_stop e.call ≡ false → ((c : ℕ) → leaves c e ≡ false) → Changes (touched e.reply) a H e
changes_by a H e legal lawful goes_on stay = record {
  sent_same = λ c own un. sent_same a H e c legal lawful un;
  ended_same = λ c own un. ended_same H e c goes_on (stay c) un;
}

-- One that may change all of them.
pub changes_all : (cs : List ℕ) (a : About) (H : List Entry) (e : Entry) → ((c : ℕ) → is_of H 0 c ≡ true → is_among c cs ≡ true) → Changes cs a H e
changes_all cs a H e all = record {
  sent_same = λ c own un. absurd (both_ways (is_among c cs) un (all c own));
  ended_same = λ c own un. absurd (both_ways (is_among c cs) un (all c own));
}

-- whoever has a connection has joined it
abbrev pub Owns : List Entry → Peer → Type 0
Owns H k = (c : ℕ) → k.conn ≡ Some c → is_of H 0 c ≡ true

pub owners : (K : HubCore) (H : List Entry) (ks : List Peer) (es : List (List ℕ × KeptPeer)) → Pairs (IsPeer K H) ks es → AllByRecursion (Owns H) ks
owners K H ks es p = Pairs-all (IsPeer K H) (Owns H) ks es (λ k x q c is. (joined_peer K H k c x.1.joined q.joined is).joiner) p

-- Who was settled is settled after the entry, but for those whose outboxes it changed.
settled_more : (cs : List ℕ) (a : About) (H : List Entry) (e : Entry) (k : Peer) → Changes cs a H e → Owns H k → IsSettledBut [] a H k → IsSettledBut cs a (H ++ e ∷ []) k
settled_more cs a H e k h own s = record {
  ready = s.ready;
  fits = s.fits;
  emptied = λ c is waits.
      let due_same : is_among c cs ≡ false → due_after a (H ++ e ∷ []) k c ≡ due_after a H k c = λ un.
      ap (λ (x : List (List ℕ)). not (length (drop (length k.frames) x) == 0) || is_some (ended (H ++ e ∷ []) c)) (h.sent_same c (own c is) un)
      ∙ ap (λ (w : Option End). not (length (drop (length k.frames) (sent a H c)) == 0) || is_some w) (h.ended_same c (own c is) un) in
      let by : (b : Bool) → is_among c cs ≡ b → b ≡ true = λ b. elim b as (λ b. is_among c cs ≡ b → b ≡ true) [
        | true ↦ λ t. refl
        | false ↦ λ un. s.emptied c is (sym (ap (λ (x : Bool). is_connected (phase k.events) && not k.held && x) (due_same un)) ∙ waits)
      ] in
      by (is_among c cs) refl;
}

pub all_settled : (cs : List ℕ) (a : About) (H : List Entry) (e : Entry) (ks : List Peer) → Changes cs a H e → AllByRecursion (Owns H) ks → AllByRecursion (IsSettledBut [] a H) ks
    → AllByRecursion (IsSettledBut cs a (H ++ e ∷ [])) ks
all_settled cs a H e [] h own all = tt
all_settled cs a H e (k ∷ ks) h own all = (settled_more cs a H e k h own.0 all.0, all_settled cs a H e ks h own.1 all.1)

-- ---- the call is carried out

-- A call by which nobody joins or leaves is carried out, and its line is said.
pub entered : (t u : ScriptHub) (s : State) (e : Entry) (call : Call) (cs before after : List ℕ) (line : Said) (w : ScriptStands t s) → MakesEntry t u s.history e
    → ((b : ℕ) → leaves b e ≡ false) → connection_of e ≡ None → e ≡ entry_in s call → Changes cs s.about s.history e → SettledBut [] s → ascends cs ≡ true
    → after ≡ before ++ line_text line → CarriesOut u before after cs (writes line (quietly (called s call)))
entered t u s e call cs before after line w m stay nobody exact changes own order wrote =
    let settled : SettledBut cs (record s { history = s.history ++ e ∷ [] }) =
    record { peers = all_settled cs s.about s.history e s.peers changes (owners t.core s.history s.peers (kept_in t) w.peers) own.peers; order = order } in
    line_carried u before after after cs line (quietly (called s call)) wrote
    (quiet_carried u after cs (called s call)
    (subst (λ (y : Entry). ScriptStands u (record s { history = s.history ++ y ∷ [] })) exact (stands_more t u s e w m stay nobody))
    (subst (λ (y : Entry). SettledBut cs (record s { history = s.history ++ y ∷ [] })) exact settled))
