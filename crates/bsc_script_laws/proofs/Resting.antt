-- Once the outboxes are emptied, nothing is due for a peer that is connected and not held.
-- It serves the clauses of `a_line_goes_on` and `a_script_is_of_one_hub`.
use Rattle.std.proofs.Common.{◌≡◌, ◌≢◌, ◌⊎◌, inl, inr, ℕ, ◌+◌, ◌≤◌, ◌==◌, Bool, true, false, not, ◌&&◌, ◌||◌, cond, List, [], ◌∷◌, ◌++◌, drop, filter, fold, length, map, Option}
use Rattle.std.proofs.Common.{Some, None, is_some, true≢false, refl, ap, sym, ◌∙◌, subst, arith, append-nil, length-append}
use Rattle.std.specs.Option.{option_or}
use Rattle.std.proofs.lemmas.Bool.{and_parts, and_right, eqb-true, false_from_ne_true}
use Rattle.bsc_history.specs.declared.limits.About.{About}
use Rattle.bsc_history.specs.declared.connection.Connection.{Connection}
use Rattle.bsc_history.specs.declared.ending.End.{End}
use Rattle.bsc_history.specs.declared.ending.End.TheVariants.{Left, Replaced, Full, Stopped}
use Rattle.bsc_history.specs.declared.entry.Entry.{Entry}
use Rattle.bsc_history.specs.Ends.{ended, unleft}
use Rattle.bsc_history.specs.Outboxes.{added_by, looked, sent}
use Rattle.bsc_history.proofs.Lists.{In, In-append, In-filter, In_from_all, In_kept, any_gives, In-left, In-right}
use Rattle.bsc_history.proofs.More.{ended-same, sent-more}
use Rattle.bsc_history.proofs.Numbers.{numbers_are_new}
use Rattle.bsc_accept.specs.declared.closing.Closing.{Closing}
use Rattle.bsc_accept.specs.declared.reason.Reason.TheVariants.{OutboxFull}
use Rattle.bsc_accept.specs.declared.event.Event.{Event}
use Rattle.bsc_accept.specs.declared.event.Event.TheVariants.{Ended}
use Rattle.bsc_accept.specs.Kept.{moved}
use Rattle.bsc_accept.specs.Past.{Standing, awaiting_request, connected, disconnecting, phase, phase_named, standing}
use Rattle.bsc_accept.specs.Steps.{ended_step}
use Rattle.bsc_accept.proofs.Looking.{standing-more}
use Rattle.bsc_ring.specs.Lists.{StartsWith}
use Rattle.bsc_script.specs.States.{State, Peer, has_joined_as, is_named, told, with_peer}
use Rattle.bsc_script.specs.Calls.{entry_in, leave_of}
use Rattle.bsc_script.specs.Carrying.{ScriptOutcome, and_then, does, leaves_if}
use Rattle.bsc_script.specs.Emptying.{OnConnection, due_after, emptied, emptied_after, emptied_one, empties, ends_as, found_empty, given_frames, in_order_of_joining, is_connected}
use Rattle.bsc_script.specs.Emptying.{is_emptied, unwritten}
use Rattle.bsc_script.specs.Holding.{name_of, conn_of}
use Rattle.bsc_script.proofs.Peers.{conn_has, has_conn, name_same, other_name}
use Rattle.bsc_script_laws.proofs.Keeping.{does_sound}
use Rattle.bsc_script_laws.proofs.Once.{AtMostOne, apart_one, in_order, on, one_joined, peers_joined, peers_on}
use Rattle.bsc_script_laws.proofs.Looking.{drop-front}
use Rattle.bsc_script_laws.proofs.Placed.{in_map, in_placed, map_in, placed, placed_in, placed_other}
use Rattle.bsc_script_laws.proofs.Sound.{IsSound, IsSoundPeer}
use Rattle.bsc_script_laws.proofs.SoundSteps.{changed_sound, told_sound}
use Rattle.bsc_lemmas.proofs.Lists.{drop_all as drop-whole}
use Rattle.bsc_lemmas.proofs.Options.{some_none as some_nothing}
use Rattle.std.proofs.lemmas.Option.{none-some as nothing_some, same_Some as same_some}

-- ---- one outbox

-- What is emptied of a peer that has connection c: the others stay as they were, and nothing is due for the peer where it
-- is there still, connected and not held.
pub record IsEmptied (k : Peer) (c : ℕ) (s u : State) : Type 0 where
  pub sound : IsSound u
  pub stay : (q : Peer) → In q s.peers → is_named k.name q ≡ false → In q u.peers
  pub own : (q : Peer) → In q u.peers → (In q s.peers × (is_named k.name q ≡ false)) ⊎ ((d : ℕ) → q.conn ≡ Some d → is_emptied u q d ≡ false)
  pub same : (q : Peer) (d : ℕ) → c ≢ d → is_emptied u q d ≡ is_emptied s q d

-- what was written and what wasn't are all that entered
filled : (whole front : List (List ℕ)) → StartsWith whole front → front ++ drop (length front) whole ≡ whole
filled whole front w = ap (λ (l : List (List ℕ)). front ++ l) (ap (drop (length front)) w.1 ∙ drop-front front w.0) ∙ sym w.1

longer : (n : ℕ) (xs ys : List (List ℕ)) → n ≤ length xs → n ≤ length (xs ++ ys)
longer n xs ys low = (let more : length (xs ++ ys) ≡ length xs + length ys = length-append xs ys in omega arith)

-- a peer is sound once the frames are written that entered its outbox
given_sound : (s : State) → IsSound s → (k : Peer) (c : ℕ) → In k s.peers → k.conn ≡ Some c → IsSoundPeer s.about s.history (given_frames (unwritten s k c) k)
given_sound s h k c m is =
    let p = h.peers k m in
    let all = filled (sent s.about s.history c) k.frames (p.begins c is) in
    record {
      own = p.own;
      begins = λ d e. subst (λ (n : ℕ). StartsWith (sent s.about s.history n) (k.frames ++ unwritten s k c)) (same_some c d (sym is ∙ e)) ([], sym (append-nil (k.frames ++ unwritten s k c) ∙ all));
      behind = λ d e. longer (looked s.history d) k.frames (unwritten s k c) (p.behind d e);
      waits = p.waits;
      none = λ n. absurd (some_nothing c (sym is ∙ n));
    }

-- the same, where the outbox was found empty then
empty_sound : (a : About) (H : List Entry) (k : Peer) → IsSoundPeer a H k → IsSoundPeer a H (found_empty k)
empty_sound a H k p = record { own = p.own; begins = p.begins; behind = p.behind; waits = p.waits; none = p.none }

-- nothing is due for whom all was written, and whose connection is live
none_due : (a : About) (H : List Entry) (k j : Peer) (c : ℕ) → StartsWith (sent a H c) k.frames → j.frames ≡ k.frames ++ drop (length k.frames) (sent a H c) → ended H c ≡ None
    → due_after a H j c ≡ false
none_due a H k j c begins frames live =
    let all : j.frames ≡ sent a H c = frames ∙ filled (sent a H c) k.frames begins in
    let rest : drop (length j.frames) (sent a H c) ≡ [] = ap (λ (l : List (List ℕ)). drop (length l) (sent a H c)) all ∙ drop-whole (sent a H c) in
    ap (λ (l : List (List ℕ)). not (length l == 0) || is_some (ended H c)) rest ∙ ap (λ (o : Option End). is_some o) live

not_named : (k q : Peer) → is_named k.name q ≡ false → q.name ≢ k.name
not_named k q isnt same = true≢false (sym (name_same q.name k.name same) ∙ isnt)

-- The connection is live: its frames are written, and its outbox was found empty.
live_emptied : (s : State) → IsSound s → (k : Peer) (c : ℕ) → In k s.peers → k.conn ≡ Some c → ended s.history c ≡ None → IsEmptied k c s (with_peer (found_empty (given_frames (unwritten s k c) k)) s)
live_emptied s h k c m is live = record {
  sound = changed_sound s h k j m refl refl (empty_sound s.about s.history (given_frames (unwritten s k c) k) (given_sound s h k c m is));
  stay = λ q i isnt. placed_other j q s.peers i isnt;
  own = λ q i. by q (in_placed j q s.peers i);
  same = λ q d apart. refl;
}
  where
    j : Peer
    j = found_empty (given_frames (unwritten s k c) k)

    rests : (q : Peer) (d : ℕ) → q ≡ j → q.conn ≡ Some d → is_emptied s q d ≡ false
    rests q d e f =
        let one : c ≡ d = same_some c d (sym is ∙ ap conn_of (sym e) ∙ f) in
        let none = none_due s.about s.history k j c ((h.peers k m).begins c is) refl live in
        subst (λ (r : Peer). is_emptied s r d ≡ false) (sym e)
        (subst (λ (n : ℕ). is_emptied s j n ≡ false) one (and_right (is_connected (phase j.events) && not j.held) (due_after s.about s.history j c) none))

    by : (q : Peer) → (q ≡ j) ⊎ (In q s.peers × (is_named j.name q ≡ false)) → (In q s.peers × (is_named k.name q ≡ false)) ⊎ ((d : ℕ) → q.conn ≡ Some d → is_emptied s q d ≡ false)
    by q (inl e) = inr (λ d f. rests q d e f)
    by q (inr r) = inl r

connected_at : (g : Standing) → is_connected (phase_named g) ≡ true → g ≡ connected
connected_at awaiting_request h = cc
connected_at connected h = refl
connected_at (disconnecting f) h = cc

-- whose machine was told an End that leaves the WebSocket open isn't connected any more
parted : (E : List Event) (now : ℕ) (ending : End) → is_connected (phase E) ≡ true → ending ≢ Full → is_connected (phase (E ++ Ended now ending ∷ [])) ≡ false
parted E now ending h open_still =
    ap (λ g. is_connected (phase_named g)) (standing-more E (Ended now ending) ∙ ap (λ g. moved g (Ended now ending)) (connected_at (standing E) h)) ∙ by ending open_still
  where
    by : (ending : End) → ending ≢ Full → is_connected (phase_named (moved connected (Ended now ending))) ≡ false
    by Left n = refl
    by Replaced n = refl
    by Full n = absurd (n refl)
    by Stopped n = refl

-- A Leave changes nothing for the outbox of another connection.
leave_apart : (s : State) (k q : Peer) (c d : ℕ) → c ≢ d → emptied_after s.about (s.history ++ entry_in s (leave_of c k) ∷ []) q d ≡ emptied_after s.about s.history q d
unfolding added_by
leave_apart s k q c d apart =
    let e = entry_in s (leave_of c k) in
    let entered : sent s.about (s.history ++ e ∷ []) d ≡ sent s.about s.history d = sent-more s.about s.history e d ∙ append-nil (sent s.about s.history d) in
    let other : (c == d) ≡ false = false_from_ne_true (c == d) (λ t. apart (eqb-true c d t)) in
    let ends : ended (s.history ++ e ∷ []) d ≡ ended s.history d = ended-same s.history e d (ap (λ (b : Bool). option_or (cond b (Some Left) None) None) other) in
    ap (λ (l : List (List ℕ)). is_connected (phase q.events) && not q.held && (not (length (drop (length q.frames) l) == 0) || is_some (ended (s.history ++ e ∷ []) d))) entered
    ∙ ap (λ (o : Option End). is_connected (phase q.events) && not q.held && (not (length (drop (length q.frames) (sent s.about s.history d)) == 0) || is_some o)) ends

-- the machine of a peer is told how its connection ended, once its frames are written
abbrev told_frames : State → Peer → ℕ → End → Peer
told_frames s k c ending = told (Ended s.clock ending) (given_frames (unwritten s k c) k)

abbrev told_state : State → Peer → ℕ → End → State
told_state s k c ending = with_peer (told_frames s k c ending) (with_peer (given_frames (unwritten s k c) k) s)

-- who is there then
told_there : (s : State) (k q : Peer) (c : ℕ) (ending : End) → In q (told_state s k c ending).peers → (q ≡ told_frames s k c ending) ⊎ (In q s.peers × (is_named k.name q ≡ false))
told_there s k q c ending i = by (in_placed (told_frames s k c ending) q (placed (given_frames (unwritten s k c) k) s.peers) i)
  where
    j : Peer
    j = given_frames (unwritten s k c) k

    later : is_named k.name q ≡ false → (q ≡ j) ⊎ (In q s.peers × (is_named j.name q ≡ false)) → In q s.peers × (is_named k.name q ≡ false)
    later isnt (inl e) = absurd (not_named k q isnt (ap name_of e))
    later isnt (inr r) = r

    by : (q ≡ told_frames s k c ending) ⊎ (In q (placed j s.peers) × (is_named k.name q ≡ false)) → (q ≡ told_frames s k c ending) ⊎ (In q s.peers × (is_named k.name q ≡ false))
    by (inl e) = inl e
    by (inr r) = inr (later r.1 (in_placed j q s.peers r.0))

told_stays : (s : State) (k q : Peer) (c : ℕ) (ending : End) → In q s.peers → is_named k.name q ≡ false → In q (told_state s k c ending).peers
told_stays s k q c ending i isnt = placed_other (told_frames s k c ending) q (placed (given_frames (unwritten s k c) k) s.peers) (placed_other (given_frames (unwritten s k c) k) q s.peers i isnt) isnt

module _ (s : State) (h : IsSound s) (k : Peer) (c : ℕ) (m : In k s.peers) (is : k.conn ≡ Some c) (ending : End) where
  told_here : In (told_frames s k c ending) (told_state s k c ending).peers
  told_here = placed_in (told_frames s k c ending) (given_frames (unwritten s k c) k) (placed (given_frames (unwritten s k c) k) s.peers)
      (placed_in (given_frames (unwritten s k c) k) k s.peers m refl) refl

  told_is_sound : IsSound (told_state s k c ending)
  told_is_sound =
      let j = given_frames (unwritten s k c) k in
      told_sound (with_peer j s) (changed_sound s h k j m refl refl (given_sound s h k c m is)) j (Ended s.clock ending) (placed_in j k s.peers m refl)

  -- The WebSocket stays open: the peer isn't connected any more.
  parted_emptied : is_emptied s k c ≡ true → ending ≢ Full → IsEmptied k c s (told_state s k c ending)
  parted_emptied due open_still = record {
    sound = told_is_sound;
    stay = λ q i isnt. told_stays s k q c ending i isnt;
    own = λ q i. by q (told_there s k q c ending i);
    same = λ q d apart. refl;
  }
    where
      on_line : is_connected (phase k.events) ≡ true
      on_line = (and_parts (is_connected (phase k.events)) (not k.held) (and_parts (is_connected (phase k.events) && not k.held) (due_after s.about s.history k c) due).0).0

      by : (q : Peer) → (q ≡ told_frames s k c ending) ⊎ (In q s.peers × (is_named k.name q ≡ false)) → (In q s.peers × (is_named k.name q ≡ false))
          ⊎ ((d : ℕ) → q.conn ≡ Some d → is_emptied s q d ≡ false)
      by q (inl e) = inr (λ d f. subst (λ (r : Peer). is_emptied s r d ≡ false) (sym e)
          (ap (λ (b : Bool). b && not k.held && due_after s.about s.history (told_frames s k c ending) d) (parted k.events s.clock ending on_line open_still)))
      by q (inr r) = inl r

  -- The WebSocket is closed: the connection leaves.
  closed_emptied : (x : Closing) → (o : Option ℕ) → k.conn ≡ o → IsSound (leaves_if (told_state s k c ending) (told_frames s k c ending) o).state
      → IsEmptied k c s (leaves_if (told_state s k c ending) (told_frames s k c ending) o).state
  closed_emptied x None e sound = absurd (nothing_some c (sym e ∙ is))
  closed_emptied x (Some d) e sound = record {
    sound = sound;
    stay = λ q i isnt. In_kept (λ p. not (is_named k.name p)) q (told_state s k c ending).peers (told_stays s k q c ending i isnt) (ap not isnt);
    own = λ q i. inl (there q (In-filter (λ p. not (is_named k.name p)) q (told_state s k c ending).peers i));
    same = λ q n apart. leave_apart (told_state s k c ending) (told_frames s k c ending) q d n (λ f. apart (sym (same_some d c (sym e ∙ is)) ∙ f));
  }
    where
      open_not : (b : Bool) → not b ≡ true → b ≡ false
      open_not true f = sym f
      open_not false f = refl

      later : (q : Peer) → is_named k.name q ≡ false → (q ≡ told_frames s k c ending) ⊎ (In q s.peers × (is_named k.name q ≡ false)) → In q s.peers × (is_named k.name q ≡ false)
      later q isnt (inl f) = absurd (not_named k q isnt (ap name_of f))
      later q isnt (inr r) = r

      there : (q : Peer) → In q (told_state s k c ending).peers × (not (is_named k.name q) ≡ true) → In q s.peers × (is_named k.name q ≡ false)
      there q r = later q (open_not (is_named k.name q) r.1) (told_there s k q c ending r.0)

-- What comes of the End of a connection that ended.
over_emptied : (s : State) → IsSound s → (k : Peer) (c : ℕ) → In k s.peers → k.conn ≡ Some c → is_emptied s k c ≡ true → (ending : End)
    → IsEmptied k c s (does (told_state s k c ending) (told_frames s k c ending) (ended_step ending)).state
over_emptied s h k c m is due Left = parted_emptied s h k c m is Left due (λ e. cc)
over_emptied s h k c m is due Replaced = parted_emptied s h k c m is Replaced due (λ e. cc)
over_emptied s h k c m is due Stopped = parted_emptied s h k c m is Stopped due (λ e. cc)
over_emptied s h k c m is due Full =
    closed_emptied s h k c m is Full (record { code = 1008; reason = OutboxFull }) k.conn refl
    (does_sound (told_state s k c Full) (told_is_sound s h k c m is Full) (told_frames s k c Full) (told_here s h k c m is Full) (ended_step Full))

ending_emptied : (s : State) → IsSound s → (k : Peer) (c : ℕ) → In k s.peers → k.conn ≡ Some c → is_emptied s k c ≡ true → (o : Option End) → ended s.history c ≡ o
    → IsEmptied k c s (ends_as s (given_frames (unwritten s k c) k) o).state
ending_emptied s h k c m is due None live = live_emptied s h k c m is live
ending_emptied s h k c m is due (Some ending) over = over_emptied s h k c m is due ending

-- ---- all of them

-- After something these outboxes are still to be looked at: what comes of it is sound, they are those of peers that are
-- there, each once, and no other is to be emptied.
pub record Round (xs : List OnConnection) (o : ScriptOutcome) : Type 0 where
  pub sound : IsSound o.state
  pub one : (n : List ℕ) → AtMostOne n (peers_on xs)
  pub there : (x : OnConnection) → In x xs → In x.peer o.state.peers × (x.peer.conn ≡ Some x.conn)
  pub due : (k : Peer) (c : ℕ) → In k o.state.peers → k.conn ≡ Some c → In (on c k) xs ⊎ (is_emptied o.state k c ≡ false)

-- A state is sound, and no outbox is to be emptied.
pub record AtRest (s : State) : Type 0 where
  pub sound : IsSound s
  pub rests : (k : Peer) (c : ℕ) → In k s.peers → k.conn ≡ Some c → is_emptied s k c ≡ false

skipped : (x : OnConnection) (xs : List OnConnection) (o : ScriptOutcome) → Round (x ∷ xs) o → is_emptied o.state x.peer x.conn ≡ false → Round xs o
skipped x xs o r isnt = record {
  sound = r.sound;
  one = λ n. (r.one n).1;
  there = λ y i. r.there y (inr i);
  due = λ k c m e. by k c (r.due k c m e);
}
  where
    by : (k : Peer) (c : ℕ) → In (on c k) (x ∷ xs) ⊎ (is_emptied o.state k c ≡ false) → In (on c k) xs ⊎ (is_emptied o.state k c ≡ false)
    by k c (inl (inl same)) = inr (subst (λ (y : OnConnection). is_emptied o.state y.peer y.conn ≡ false) same isnt)
    by k c (inl (inr i)) = inl i
    by k c (inr f) = inr f

emptied_next : (x : OnConnection) (xs : List OnConnection) (o u : ScriptOutcome) → Round (x ∷ xs) o → IsEmptied x.peer x.conn o.state u.state → Round xs u
emptied_next x xs o u r e = record {
  sound = e.sound;
  one = λ n. (r.one n).1;
  there = λ y i. (let t = r.there y (inr i) in (
    e.stay y.peer t.0 (other_name y.peer.name x.peer.name
        (In_from_all (λ (q : Peer). q.name ≢ x.peer.name) y.peer (peers_on xs) ((r.one x.peer.name).0 refl) (map_in (λ (z : OnConnection). z.peer) xs y i))),
    t.1,
  ));
  due = λ q d m f. by q d f (e.own q m);
}
  where
    here : In x.peer o.state.peers × (x.peer.conn ≡ Some x.conn)
    here = r.there x (inl refl)

    was : (q : Peer) (d : ℕ) → q.conn ≡ Some d → In q o.state.peers → is_named x.peer.name q ≡ false → In (on d q) (x ∷ xs) ⊎ (is_emptied o.state q d ≡ false) → In (on d q) xs
        ⊎ (is_emptied u.state q d ≡ false)
    was q d f i isnt (inl (inl same)) = absurd (not_named x.peer q isnt (ap (λ (y : OnConnection). y.peer.name) (sym same)))
    was q d f i isnt (inl (inr n)) = inl n
    was q d f i isnt (inr rest) = inr (e.same q d (λ g. not_named x.peer q isnt (ap name_of (r.sound.conns q x.peer d i here.0 f (here.1 ∙ ap Some g)))) ∙ rest)

    by : (q : Peer) (d : ℕ) → q.conn ≡ Some d → (In q o.state.peers × (is_named x.peer.name q ≡ false)) ⊎ ((n : ℕ) → q.conn ≡ Some n → is_emptied u.state q n ≡ false) → In (on d q) xs
        ⊎ (is_emptied u.state q d ≡ false)
    by q d f (inl g) = was q d f g.0 g.1 (r.due q d g.0 f)
    by q d f (inr rest) = inr (rest d f)

round_next : (x : OnConnection) (xs : List OnConnection) (o : ScriptOutcome) → Round (x ∷ xs) o → Round xs (emptied_one o x)
round_next x xs o r = by (is_emptied o.state x.peer x.conn) refl
  where
    more : ScriptOutcome
    more = and_then o (λ t. empties t x.peer x.conn)

    here : In x.peer o.state.peers × (x.peer.conn ≡ Some x.conn)
    here = r.there x (inl refl)

    by : (b : Bool) → is_emptied o.state x.peer x.conn ≡ b → Round xs (cond b more o)
    by true is = emptied_next x xs o more r (ending_emptied o.state r.sound x.peer x.conn here.0 here.1 is (ended o.state.history x.conn) refl)
    by false is = skipped x xs o r is

round_ends : (xs : List OnConnection) (o : ScriptOutcome) → Round xs o → AtRest (fold emptied_one o xs).state
round_ends [] o r = record { sound = r.sound; rests = λ k c m e. by k c (r.due k c m e) }
  where
    by : (k : Peer) (c : ℕ) → In (on c k) [] ⊎ (is_emptied o.state k c ≡ false) → is_emptied o.state k c ≡ false
    by k c (inl n) = absurd n
    by k c (inr f) = f
round_ends (x ∷ xs) o r = round_ends xs (emptied_one o x) (round_next x xs o r)

-- ---- the order of joining

-- who is in the order of joining is a peer with its connection
in_joining : (ks : List Peer) (cs : List Connection) (x : OnConnection) → In x (in_order ks cs) → In x.peer ks × (x.peer.conn ≡ Some x.conn)
in_joining ks [] x i = absurd i
in_joining ks (c ∷ cs) x i = by (In-append x (map f (filter (has_joined_as c.number) ks)) (in_order ks cs) i) (in_joining ks cs x)
  where
    f : Peer → OnConnection
    f = λ k. record { conn = c.number; peer = k }

    by : In x (map f (filter (has_joined_as c.number) ks)) ⊎ In x (in_order ks cs) → (In x (in_order ks cs) → In x.peer ks × (x.peer.conn ≡ Some x.conn)) → In x.peer ks × (x.peer.conn ≡ Some x.conn)
    by (inl n) rec =
        let r = in_map f (filter (has_joined_as c.number) ks) x n in
        let g = In-filter (has_joined_as c.number) r.0 ks r.1 in
        subst (λ (y : OnConnection). In y.peer ks × (y.peer.conn ≡ Some y.conn)) r.2 (g.0, has_conn c.number r.0 g.1)
    by (inr n) rec = rec n

joining_in : (ks : List Peer) (cs : List Connection) (x : Connection) (k : Peer) → In x cs → In k ks → k.conn ≡ Some x.number → In (on x.number k) (in_order ks cs)
joining_in ks [] x k i m e = absurd i
joining_in ks (c ∷ cs) x k (inl same) m e =
    let f = λ (j : Peer). on c.number j in
    let number : c.number ≡ x.number = ap (λ (y : Connection). y.number) same in
    let among : In k (filter (has_joined_as c.number) ks) = In_kept (has_joined_as c.number) k ks m (conn_has c.number k (e ∙ ap Some (sym number))) in
    In-left (on x.number k) (map f (filter (has_joined_as c.number) ks)) (in_order ks cs)
    (subst (λ (n : ℕ). In (on n k) (map f (filter (has_joined_as c.number) ks))) number (map_in f (filter (has_joined_as c.number) ks) k among))
joining_in ks (c ∷ cs) x k (inr i) m e =
    In-right (on x.number k) (map (λ (j : Peer). record { conn = c.number; peer = j }) (filter (has_joined_as c.number) ks)) (in_order ks cs) (joining_in ks cs x k i m e)

round_begins : (o : ScriptOutcome) → IsSound o.state → Round (in_order_of_joining o.state) o
round_begins o h = record {
  sound = h;
  one = λ n. subst (AtMostOne n) (sym (peers_joined ks cs)) (one_joined n ks cs (apart_one n ks h.apart) (numbers_are_new o.state.about o.state.history h.legal));
  there = λ x i. in_joining ks cs x i;
  due = λ k c m e. inl (by k c m e (any_gives (λ (x : Connection). (x.number == c) && (x.caller == 0)) cs ((h.peers k m).own c e)));
}
  where
    ks : List Peer
    ks = o.state.peers

    cs : List Connection
    cs = unleft o.state.history

    by : (k : Peer) (c : ℕ) → In k ks → k.conn ≡ Some c → ((x : Connection) × In x cs × (((x.number == c) && (x.caller == 0)) ≡ true)) → In (on c k) (in_order ks cs)
    by k c m e r =
        let number : r.0.number ≡ c = eqb-true r.0.number c (and_parts (r.0.number == c) (r.0.caller == 0) r.2).0 in
        subst (λ (n : ℕ). In (on n k) (in_order ks cs)) number (joining_in ks cs r.0 k r.1 m (e ∙ ap Some (sym number)))

-- Once the outboxes are emptied, none is to be emptied.
pub emptied_rests : (o : ScriptOutcome) → IsSound o.state → AtRest (emptied o).state
emptied_rests o h = round_ends (in_order_of_joining o.state) o (round_begins o h)
