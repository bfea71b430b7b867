-- An outbox is emptied: what was taken from it is what entered.
-- It serves the clauses of `write_at`, `write_frames` and `write_next`.
use Rattle.std.proofs.Common.{◌≡◌, ◌≢◌, ℕ, ◌+◌, set, find, slice_get, List, [], ◌∷◌, ◌++◌, length, map, drop, Option, Some, None, is_some, refl, ap, sym, ◌∙◌, subst, append-nil}
use Rattle.std.proofs.Common.{append_assoc, length-append, arith}
use Rattle.std.specs.Ordering.{nat_cmp}
use Rattle.std.specs.BTreeMap.{get}
use Rattle.std.proofs.lemmas.List.{map-append}
use Rattle.std.proofs.lemmas.Option.{same_Some}
use Rattle.bsc_history.specs.declared.ending.End.{End}
use Rattle.bsc_history.specs.declared.entry.Entry.{Entry}
use Rattle.bsc_history.specs.declared.limits.About.{About}
use Rattle.bsc_history.specs.Ends.{ended}
use Rattle.bsc_history.specs.Outboxes.{sent}
use Rattle.bsc_accept.specs.Standing.{AcceptingStands}
use Rattle.bsc_hub_core.specs.declared.hub_core.HubCore.{HubCore}
use Rattle.bsc_hub_core.specs.declared.outbox.Outbox.{Outbox}
use Rattle.bsc_hub_core.specs.Calls.{TakesNext, TakesNone}
use Rattle.bsc_hub_core.specs.Outboxes.{empties_by, empties_then, taken_by}
use Rattle.bsc_hub_core.specs.Standing.{CoreStands, HasOutbox, outbox_at}
use Rattle.bsc_script.specs.declared.peer.Peer.{Peer as KeptPeer}
use Rattle.bsc_script.specs.declared.script_hub.ScriptHub.{ScriptHub}
use Rattle.bsc_script.specs.States.{State, Peer, has_joined_as, peer_on, start_at, with_peer}
use Rattle.bsc_script.specs.Holding.{ConnsApart, IsJoinedIf, IsPeer, Pairs, conn_of, kept_in, name_of}
use Rattle.bsc_script.specs.Written.{says, line_text, text_of}
use Rattle.bsc_script.specs.Texts.{out_words}
use Rattle.bsc_script.specs.Emptying.{empties_after, frame_lines, unwritten}
use Rattle.bsc_script.specs.Between.{IsJoinedAt, IsWritten, TakesOne, Writes, WritesAll, written_peer}
use Rattle.bsc_script.proofs.Carried.{text-append}
use Rattle.bsc_script.proofs.Pairs.{Apart-same, Pairs-weaker, but_one, map-set, pair_at}
use Rattle.bsc_script.proofs.Peers.{ConnsApart-same, changed, found_same, some_name}
use Rattle.bsc_lemmas.proofs.Options.{found_some}

-- ---- one take

-- a frame was taken
pub took_frame : (H : List Entry) (c : ℕ) (x : List ℕ) (tag : ℕ) (K N : HubCore) (name before after : List ℕ) → TakesNext H c x tag K N
    → after ≡ before ++ line_text (says name (out_words x)) → TakesOne H c None K N name before after
took_frame H c x tag K N name before after k wrote = (
  record {
    stands = k.changes.stands;
    about = k.changes.about;
    others = k.changes.others;
    old = k.before;
    was = k.changes.was;
    new = k.after;
    now = k.changes.now;
    more = x ∷ [];
    taken = k.taken;
    text = wrote ∙ ap (λ (l : List ℕ). before ++ l) (sym (append-nil (line_text (says name (out_words x)))));
  },
  ap length k.taken ∙ length-append (taken_by k.before) (x ∷ []),
  k.empties,
)

-- nothing was left
pub took_none : (H : List Entry) (c : ℕ) (ending : Option End) (K N : HubCore) (name before : List ℕ) → TakesNone H c ending K N → TakesOne H c (Some ending) K N name before before
took_none H c ending K N name before k = (
  record {
    stands = k.changes.stands;
    about = k.changes.about;
    others = k.changes.others;
    old = k.before;
    was = k.changes.was;
    new = k.after;
    now = k.changes.now;
    more = [];
    taken = k.taken ∙ sym (append-nil (taken_by k.before));
    text = sym (append-nil before);
  },
  k.taken,
  record { whole = k.taken ∙ k.whole; ends = sym k.ends; not_left = k.not_left; empties = k.empties ∙ again ending (empties_by k.before) },
  refl,
)
  where
    again : (e : Option End) (n : ℕ) → empties_then e n ≡ empties_after e n
    again None n = refl
    again (Some e) n = refl

-- ---- all takes

-- what isn't something is nothing
pub none_left : (o : Option (Option End)) → ((e : Option End) → o ≡ Some e → ⊥) → o ≡ None
none_left None away = refl
none_left (Some e) away = absurd (away e refl)

-- nothing was taken yet
pub taken_nothing : (H : List Entry) (c : ℕ) (K : HubCore) (name before : List ℕ) → CoreStands K H → HasOutbox K c
    → (w : Writes H c K K name before before) × (length (taken_by w.new) ≡ length (taken_by w.old) + 0) × (empties_by w.new ≡ empties_by w.old)
taken_nothing H c K name before s has =
    let p = found_some (outbox_at K c) has in (
      record {
        stands = s;
        about = refl;
        others = λ b other. refl;
        old = p.0;
        was = p.1;
        new = p.0;
        now = p.1;
        more = [];
        taken = sym (append-nil (taken_by p.0));
        text = sym (append-nil before);
      },
      omega arith,
      refl,
    )

-- some frames, and then one more
pub one_more : (H : List Entry) (c n : ℕ) (K N M : HubCore) (name before mid after : List ℕ) (a : Writes H c K N name before mid)
    → length (taken_by a.new) ≡ length (taken_by a.old) + n → empties_by a.new ≡ empties_by a.old → TakesOne H c None N M name mid after
    → (w : Writes H c K M name before after) × (length (taken_by w.new) ≡ length (taken_by w.old) + (n + 1)) × (empties_by w.new ≡ empties_by w.old)
one_more H c n K N M name before mid after a long empties t =
    let b = t.0 in
    let same : b.old ≡ a.new = same_Some b.old a.new (sym b.was ∙ a.now) in
    let next = t.1 in
    let was = ap (λ (y : Outbox). length (taken_by y)) same in (
      record {
        stands = b.stands;
        about = b.about ∙ a.about;
        others = λ d other. b.others d other ∙ a.others d other;
        old = a.old;
        was = a.was;
        new = b.new;
        now = b.now;
        more = a.more ++ b.more;
        taken = b.taken ∙ ap (λ (y : Outbox). taken_by y ++ b.more) same ∙ ap (λ (l : List (List ℕ)). l ++ b.more) a.taken ∙ append_assoc (taken_by a.old) a.more b.more;
        text = b.text ∙ ap (λ (l : List ℕ). l ++ text_of (frame_lines name b.more)) a.text
            ∙ append_assoc before (text_of (frame_lines name a.more)) (text_of (frame_lines name b.more))
            ∙ ap (λ (l : List ℕ). before ++ l) (sym (ap text_of (map-append (λ (m : List ℕ). says name (out_words m)) a.more b.more)
            ∙ text-append (frame_lines name a.more) (frame_lines name b.more)));
      },
      omega (arith, next, was, long),
      t.2 ∙ ap empties_by same ∙ empties,
    )

pub drop_front : (xs ys : List (List ℕ)) → drop (length xs) (xs ++ ys) ≡ ys
drop_front [] ys = refl
drop_front (x ∷ xs) ys = drop_front xs ys

-- some frames, and then none is left
pub writes_all : (H : List Entry) (c : ℕ) (ending : Option End) (K N M : HubCore) (name before mid after : List ℕ) (a : Writes H c K N name before mid)
    → empties_by a.new ≡ empties_by a.old → TakesOne H c (Some ending) N M name mid after → WritesAll H c ending K M name before after
writes_all H c ending K N M name before mid after a empties b =
    let w = b.0 in
    let e = b.2 in
    let same : w.old ≡ a.new = same_Some w.old a.new (sym w.was ∙ a.now) in
    let sends : sent N.about H c ≡ sent K.about H c = ap (λ x. sent x H c) a.about in
    let given : taken_by w.new ≡ taken_by a.old ++ a.more = b.1 ∙ ap taken_by same ∙ a.taken in
    let rest : drop (length (taken_by a.old)) (sent K.about H c) ≡ a.more = ap (drop (length (taken_by a.old))) (sym (sym given ∙ e.whole ∙ sends)) ∙ drop_front (taken_by a.old) a.more in
    record {
      writes = record {
        stands = w.stands;
        about = w.about ∙ a.about;
        others = λ d other. w.others d other ∙ a.others d other;
        old = a.old;
        was = a.was;
        new = w.new;
        now = w.now;
        more = a.more;
        taken = given;
        text = b.3 ∙ a.text;
      };
      emptied = record { whole = e.whole ∙ sends; ends = e.ends; not_left = e.not_left; empties = e.empties ∙ ap (empties_after ending) (ap empties_by same ∙ empties) };
      text = b.3 ∙ a.text ∙ ap (λ (l : List (List ℕ)). before ++ text_of (frame_lines name l)) (sym rest);
    }

-- Who has another connection stays as it was.
other_joined_kept : (c : ℕ) (K N : HubCore) (H : List Entry) (k : Peer) (o : Option ℕ) → ((b : ℕ) → b ≢ c → outbox_at N b ≡ outbox_at K b) → IsJoinedIf K H k o
    → (k.conn ≡ Some c → ⊥) → IsJoinedIf N H k o
other_joined_kept c K N H k None others p away = p
other_joined_kept c K N H k (Some b) others p away =
    let q = p.1 in
    (p.0, record { joiner = q.joiner; outbox = q.outbox; there = others b (λ e. away (p.0 ∙ ap Some e)) ∙ q.there; frames = q.frames; empties = q.empties })

other_kept : (c : ℕ) (K N : HubCore) (H : List Entry) (k : Peer) (x : List ℕ × KeptPeer) → N.about ≡ K.about → ((b : ℕ) → b ≢ c → outbox_at N b ≡ outbox_at K b) → IsPeer K H k x
    → (k.conn ≡ Some c → ⊥) → IsPeer N H k x
other_kept c K N H k x same others p away = record {
  name = p.name;
  machine = subst (λ (a : About). AcceptingStands x.1.machine (start_at a k) k.events) (sym same) p.machine;
  held = p.held;
  joined = other_joined_kept c K N H k x.1.joined others p.joined away;
}

-- ---- the peer at a place

-- who stands at the place is kept with its connection
module _ (t : ScriptHub) (at c : ℕ) (s : State) (k : Peer) (w : IsJoinedAt t at c s k) (x : List ℕ × KeptPeer) (here : slice_get (kept_in t) at ≡ Some x) where
  pair : IsPeer t.core s.history k x
  pair = pair_at (IsPeer t.core s.history) s.peers (kept_in t) at k x w.stands.peers w.here here

  -- it isn't without one
  pub has_conn_kept : x.1.joined ≡ None → ⊥
  has_conn_kept is = (let mine : IsJoinedIf t.core s.history k None = subst (IsJoinedIf t.core s.history k) is pair.joined in let bad : Some c ≡ None = sym w.conn ∙ mine.0 in cc)

  module _ (b : ℕ) (is : x.1.joined ≡ Some b) where
    mine : IsJoinedIf t.core s.history k (Some b)
    mine = subst (IsJoinedIf t.core s.history k) is pair.joined

    own_conn : b ≡ c
    own_conn = same_Some b c (sym mine.0 ∙ w.conn)

    -- its outbox may be taken from
    pub may_take : HasOutbox t.core b
    may_take = ap is_some mine.1.there

    module _ (u : ScriptHub) (ending : Option End) (before after : List ℕ) (h : WritesAll s.history b ending t.core u.core x.0 before after) where
      abbrev wrote : Peer
      wrote = written_peer ending (unwritten s k c) k

      box : h.writes.old ≡ mine.1.outbox
      box = same_Some h.writes.old mine.1.outbox (sym h.writes.was ∙ mine.1.there)

      sends : sent t.core.about s.history b ≡ sent s.about s.history c
      sends = ap (λ a. sent a s.history b) w.stands.about ∙ ap (sent s.about s.history) own_conn

      -- what is unwritten is what wasn't taken yet
      unwritten_so : drop (length (taken_by h.writes.old)) (sent t.core.about s.history b) ≡ unwritten s k c
      unwritten_so = ap (λ (f : List (List ℕ)). drop (length f) (sent t.core.about s.history b)) (ap taken_by box ∙ mine.1.frames) ∙ ap (drop (length k.frames)) sends

      -- written and unwritten frames together are what entered
      together : k.frames ++ unwritten s k c ≡ sent s.about s.history c
      together =
          let whole : sent s.about s.history c ≡ k.frames ++ h.writes.more = sym sends ∙ sym h.emptied.whole ∙ h.writes.taken
          ∙ ap (λ (f : List (List ℕ)). f ++ h.writes.more) (ap taken_by box ∙ mine.1.frames) in
          ap (λ (y : List (List ℕ)). k.frames ++ drop (length k.frames) y) whole ∙ ap (λ (y : List (List ℕ)). k.frames ++ y) (drop_front k.frames h.writes.more) ∙ sym whole

      -- what is written leaves all else of the peer
      record Fits (e : Option End) (j : Peer) : Type 0 where
        pub name : j.name ≡ k.name
        pub conn : j.conn ≡ k.conn
        pub held : j.held ≡ k.held
        pub frames : j.frames ≡ k.frames ++ unwritten s k c
        pub empties : j.empties ≡ empties_after e k.empties
        pub machine : AcceptingStands x.1.machine (start_at u.core.about j) j.events

      fits : (e : Option End) → Fits e (written_peer e (unwritten s k c) k)
      fits None = record {
        name = refl;
        conn = refl;
        held = refl;
        frames = refl;
        empties = refl;
        machine = subst (λ (a : About). AcceptingStands x.1.machine (start_at a k) k.events) (sym h.writes.about) pair.machine;
      }
      fits (Some y) = record {
        name = refl;
        conn = refl;
        held = refl;
        frames = refl;
        empties = refl;
        machine = subst (λ (a : About). AcceptingStands x.1.machine (start_at a k) k.events) (sym h.writes.about) pair.machine;
      }

      new_pair : IsPeer u.core s.history wrote x
      new_pair = record {
        name = (fits ending).name ∙ pair.name;
        machine = (fits ending).machine;
        held = (fits ending).held ∙ pair.held;
        joined = subst (IsJoinedIf u.core s.history wrote) (sym is) (
          (fits ending).conn ∙ mine.0,
          record {
            joiner = mine.1.joiner;
            outbox = h.writes.new;
            there = h.writes.now;
            frames = h.emptied.whole ∙ sends ∙ sym together ∙ sym (fits ending).frames;
            empties = h.emptied.empties ∙ ap (empties_after ending) (ap empties_by box ∙ mine.1.empties) ∙ sym (fits ending).empties;
          },
        );
      }

      -- All was written: the hub stands for the state with that.
      pub is_written : u.about ≡ t.about → u.clock ≡ t.clock → u.names ≡ t.names → kept_in u ≡ kept_in t → IsWritten u at c s k ending before after
      is_written same_about same_clock same_names same_kept =
          let g = w.stands in
          let f = fits ending in
          let Q = IsPeer u.core s.history in
          let R = λ (q : Peer) (y : List ℕ × KeptPeer). (q.conn ≡ Some c → ⊥) → Q q y in
          let ks : List Peer = (with_peer wrote s).peers in
          let is_set : ks ≡ set s.peers at wrote = changed s.peers at k wrote g.apart w.here f.name in
          let ns : map name_of ks ≡ map name_of s.peers = ap (map name_of) is_set ∙ map-set name_of s.peers at k wrote w.here f.name in
          let conns : map conn_of (set s.peers at wrote) ≡ map conn_of s.peers = map-set conn_of s.peers at k wrote w.here f.conn in
          let cs : map conn_of ks ≡ map conn_of s.peers = ap (map conn_of) is_set ∙ conns in
          let rest : Pairs R s.peers (kept_in t) = Pairs-weaker (IsPeer t.core s.history) R s.peers (kept_in t)
          (λ q y m z. other_kept c t.core u.core s.history q y h.writes.about (λ d other. h.writes.others d (λ e. other (e ∙ own_conn))) z) g.peers in
          let all : Pairs Q (set s.peers at wrote) (kept_in t) = but_one Q c s.peers (kept_in t) at k wrote x g.conns rest w.here w.conn here new_pair in
          record {
            stands = record {
              core = h.writes.stands;
              about = h.writes.about ∙ g.about;
              same_hub = same_about ∙ g.same_hub;
              clock = same_clock ∙ g.clock;
              peers = subst (λ l. Pairs Q l (kept_in u)) (sym is_set) (subst (Pairs Q (set s.peers at wrote)) (sym same_kept) all);
              apart = Apart-same name_of name_of s.peers ks (sym ns) g.apart;
              conns = subst ConnsApart (sym is_set) (ConnsApart-same s.peers (set s.peers at wrote) (sym conns) g.conns);
              names = λ d. ap (λ m. get nat_cmp m d) same_names ∙ g.names d ∙ found_same d s.peers ks (sym ns) (sym cs);
              joined = λ d any. sym (some_name (find (has_joined_as d) ks)) ∙ ap is_some (found_same d ks s.peers ns cs) ∙ some_name (peer_on s d) ∙ g.joined d any;
            };
            ends = h.emptied.ends ∙ ap (ended s.history) own_conn;
            not_left = h.emptied.not_left;
            text = h.text ∙ ap (λ (l : List (List ℕ)). before ++ text_of (frame_lines x.0 l)) unwritten_so ∙ ap (λ (n : List ℕ). before ++ text_of (frame_lines n (unwritten s k c))) (sym pair.name);
          }
