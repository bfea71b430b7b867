-- Only outboxes that are due are emptied, so a round of these is a round of all, in the order of joining.
-- It serves the clauses of `empty_each`.
use Rattle.std.proofs.Common.{◌≡◌, ◌≢◌, inl, inr, ℕ, zero, suc, ◌==◌, nat_lt, Bool, true, false, cond, ◌&&◌, ◌||◌, List, [], ◌∷◌, ◌++◌, map, fold, filter, find, flat_map, set}
use Rattle.std.proofs.Common.{slice_get, Option, Some, None, is_some, option_to_list, true≢false, refl, ap, sym, ◌∙◌, subst, append-nil, arith}
use Rattle.std.specs.List.{AllByRecursion, list_any, list_all}
use Rattle.std.proofs.lemmas.Bool.{false_from_ne_true, and_parts, or_cases, or_left, or_right, eqb-true, eq-eqb}
use Rattle.std.proofs.lemmas.Bool.Decides.{nat_tests}
use Rattle.bsc_history.specs.declared.connection.Connection.{Connection}
use Rattle.bsc_history.specs.declared.ending.End.{End}
use Rattle.bsc_history.specs.Ends.{ended, is_one, unleft}
use Rattle.bsc_history.specs.Laws.{Apart, is_among}
use Rattle.bsc_history.specs.Replies.{numbers}
use Rattle.bsc_history.proofs.Lists.{In, In_from_all}
use Rattle.bsc_accept.specs.declared.event.Event.TheVariants.{Ended}
use Rattle.bsc_accept.specs.declared.step.Step.{Step}
use Rattle.bsc_accept.specs.Steps.{closes}
use Rattle.bsc_script.specs.declared.script_hub.ScriptHub.{ScriptHub}
use Rattle.bsc_script.specs.States.{State, Peer, has_joined_as, peer_on, told, with_peer}
use Rattle.bsc_script.specs.Carrying.{ScriptOutcome, quietly, and_then, does, step_of}
use Rattle.bsc_script.specs.Emptying.{OnConnection, is_emptied, unwritten, given_frames, found_empty, ends_as, empties, emptied_one, emptied, emptied_if, emptied_on}
use Rattle.bsc_script.specs.Settled.{IsSettledBut, SettledBut, ascends}
use Rattle.bsc_script.specs.Holding.{ScriptStands, CarriesOut, name_of, kept_in, ConnsApart}
use Rattle.bsc_script.proofs.Pairs.{map-set, Apart-same}
use Rattle.bsc_script.proofs.Peers.{changed, has_conn, found_conn, find-remove}
use Rattle.bsc_script.proofs.Carried.{both_carried, closing_peers, other_peers}
use Rattle.bsc_script.proofs.Entered.{Owns, owners}
use Rattle.bsc_script.proofs.Sending.{unleft_ascends}
use Rattle.bsc_lemmas.proofs.Lists.{get-set}

-- ---- one outbox is emptied, and the other names stand as before

find-set : (p : Peer → Bool) (xs : List Peer) (i : ℕ) (x y : Peer) → slice_get xs i ≡ Some x → p x ≡ false → p y ≡ false → find p (set xs i y) ≡ find p xs
find-set p [] i x y h f g = refl
find-set p (a ∷ xs) zero x y h f g =
    ap (λ (b : Bool). cond b (Some y) (find p xs)) g ∙ sym (ap (λ (b : Bool). cond b (Some a) (find p xs)) (ap p (one a x h) ∙ f))
  where
    one : (u v : Peer) → Some u ≡ Some v → u ≡ v
    one u v e = cc
find-set p (a ∷ xs) (suc i) x y h f g = ap (λ o. cond (p a) (Some a) o) (find-set p xs i x y h f g)

place_of : (ks : List Peer) (k : Peer) → In k ks → (at : ℕ) × (slice_get ks at ≡ Some k)
place_of [] k m = absurd m
place_of (x ∷ ks) k (inl e) = (0, ap Some e)
place_of (x ∷ ks) k (inr m) = (let r = place_of ks k m in (suc r.0, r.1))

-- a peer with its name and its connection is changed
other_changed : (s : State) (at : ℕ) (k j : Peer) (b : ℕ) → Apart name_of s.peers → slice_get s.peers at ≡ Some k → j.name ≡ k.name → has_joined_as b k ≡ false → has_joined_as b j ≡ false
    → (peer_on (with_peer j s) b ≡ peer_on s b) × (slice_get (with_peer j s).peers at ≡ Some j) × Apart name_of (with_peer j s).peers
other_changed s at k j b apart here name not_k not_j =
    let ks : (with_peer j s).peers ≡ set s.peers at j = changed s.peers at k j apart here name in (
      ap (find (has_joined_as b)) ks ∙ find-set (has_joined_as b) s.peers at k j here not_k not_j,
      ap (λ l. slice_get l at) ks ∙ get-set s.peers at k j here,
      Apart-same name_of name_of s.peers (with_peer j s).peers (sym (ap (map name_of) ks ∙ map-set name_of s.peers at k j here name)) apart,
    )

-- a step is carried out
other_done : (s : State) (at : ℕ) (k : Peer) (step : Step) (b : ℕ) → Apart name_of s.peers → slice_get s.peers at ≡ Some k → has_joined_as b k ≡ false → peer_on (does s k step).state b ≡ peer_on s b
other_done s at k step b apart here not_k = by (closes step) refl
  where
    by : (c : Bool) → closes step ≡ c → peer_on (does s k step).state b ≡ peer_on s b
    by true e = ap (find (has_joined_as b)) (closing_peers s at k step apart here e) ∙ find-remove (has_joined_as b) s.peers at k here not_k
    by false e = ap (find (has_joined_as b)) (other_peers s k step e)

-- the End of its outbox is seen
other_ended : (s : State) (at : ℕ) (k j : Peer) (o : Option End) (b : ℕ) → Apart name_of s.peers → slice_get s.peers at ≡ Some k → j.name ≡ k.name → has_joined_as b k ≡ false
    → has_joined_as b j ≡ false → peer_on (ends_as s j o).state b ≡ peer_on s b
other_ended s at k j None b apart here name not_k not_j = (other_changed s at k (found_empty j) b apart here name not_k not_j).0
other_ended s at k j (Some ending) b apart here name not_k not_j =
    let u = with_peer j s in
    let e = Ended s.clock ending in
    let r = other_changed s at k j b apart here name not_k not_j in
    let q = other_changed u at j (told e j) b r.2 r.1 refl not_j not_j in
    other_done (with_peer (told e j) u) at (told e j) (step_of u j e) b q.2 q.1 not_j ∙ q.0 ∙ r.0

-- the outbox of a connection is emptied, where it is to be
other_emptied : (s : State) (c b : ℕ) → Apart name_of s.peers → c ≢ b → peer_on (emptied_on s c).state b ≡ peer_on s b
other_emptied s c b apart other = by (peer_on s c) refl
  where
    by : (o : Option Peer) → peer_on s c ≡ o → peer_on (emptied_if s c o).state b ≡ peer_on s b
    by None e = refl
    by (Some k) e =
        let f = found_conn c k s.peers e in
        let at = place_of s.peers k f.1 in
        let not_k : has_joined_as b k ≡ false = ap (is_one b) f.0 ∙ false_from_ne_true (c == b) (λ t. other (eqb-true c b t)) in
        let frames = unwritten s k c in
        elim (is_emptied s k c) as (λ t. peer_on (cond t (empties s k c) (quietly s)).state b ≡ peer_on s b) [
          | true ↦ other_ended s at.0 k (given_frames frames k) (ended s.history c) b apart at.1 refl not_k not_k
          | false ↦ refl
        ]

-- ---- all connections, by their numbers

-- the peer on a connection, as the round goes over it
abbrev piece : ℕ → Option Peer → List OnConnection
piece n None = []
piece n (Some k) = record { conn = n; peer = k } ∷ []

abbrev pieces : State → List ℕ → List OnConnection
pieces s [] = []
pieces s (n ∷ ns) = piece n (peer_on s n) ++ pieces s ns

only_one : (c : ℕ) (ks : List Peer) → ConnsApart ks → filter (has_joined_as c) ks ≡ option_to_list (find (has_joined_as c) ks)
only_one c [] h = refl
only_one c (k ∷ ks) h = by (has_joined_as c k) refl (only_one c ks h.1)
  where
    nobody : (js : List Peer) → AllByRecursion (λ (j : Peer). (d : ℕ) → k.conn ≡ Some d → j.conn ≡ Some d → ⊥) js → k.conn ≡ Some c → filter (has_joined_as c) js ≡ []
    nobody [] a e = refl
    nobody (j ∷ js) a e = ap (λ (b : Bool). cond b (j ∷ filter (has_joined_as c) js) (filter (has_joined_as c) js)) (false_from_ne_true (has_joined_as c j) (λ t. a.0 c e (has_conn c j t)))
        ∙ nobody js a.1 e

    by : (b : Bool) → has_joined_as c k ≡ b → filter (has_joined_as c) ks ≡ option_to_list (find (has_joined_as c) ks)
        → cond (has_joined_as c k) (k ∷ filter (has_joined_as c) ks) (filter (has_joined_as c) ks) ≡ option_to_list (cond (has_joined_as c k) (Some k) (find (has_joined_as c) ks))
    by true e later = rw e (ap (λ (l : List Peer). k ∷ l) (nobody ks h.0 (has_conn c k e)))
    by false e later = rw e later

mapped_piece : (n : ℕ) (o : Option Peer) → map (λ (k : Peer). record { conn = n; peer = k }) (option_to_list o) ≡ piece n o
mapped_piece n None = refl
mapped_piece n (Some k) = refl

in_pieces : (s : State) (xs : List Connection) → ConnsApart s.peers → flat_map
    (λ (x : Connection). map (λ (k : Peer). record { conn = x.number; peer = k }) (filter (has_joined_as x.number) s.peers)) xs ≡ pieces s (numbers xs)
in_pieces s [] h = refl
in_pieces s (x ∷ xs) h =
    ap (λ (l : List Peer). map (λ (k : Peer). record { conn = x.number; peer = k }) l
    ++ flat_map (λ (y : Connection). map (λ (k : Peer). record { conn = y.number; peer = k }) (filter (has_joined_as y.number) s.peers)) xs) (only_one x.number s.peers h)
    ∙ ap (λ (l : List OnConnection). l ++ flat_map (λ (y : Connection). map (λ (k : Peer). record { conn = y.number; peer = k }) (filter (has_joined_as y.number) s.peers)) xs)
    (mapped_piece x.number (peer_on s x.number))
    ∙ ap (λ (l : List OnConnection). piece x.number (peer_on s x.number) ++ l) (in_pieces s xs h)

-- ---- what a round does at one connection

quiet_after : (o : ScriptOutcome) → and_then o quietly ≡ o
quiet_after o = λ i. record { state = o.state; said = append-nil o.said i }

-- at the connection that is due
at_due : (now : ScriptOutcome) (c : ℕ) (o : Option Peer) (rest : List OnConnection) → fold emptied_one now (piece c o ++ rest) ≡ fold emptied_one (and_then now (λ u. emptied_if u c o)) rest
at_due now c None rest = ap (λ (u : ScriptOutcome). fold emptied_one u rest) (sym (quiet_after now))
at_due now c (Some k) rest = ap (λ (u : ScriptOutcome). fold emptied_one u rest) (by (is_emptied now.state k c))
  where
    by : (b : Bool) → cond b (and_then now (λ t. empties t k c)) now ≡ record {
      state = (cond b (empties now.state k c) (quietly now.state)).state;
      said = now.said ++ (cond b (empties now.state k c) (quietly now.state)).said;
    }
    by true = refl
    by false = sym (quiet_after now)

-- at one that isn't
at_quiet : (now : ScriptOutcome) (n : ℕ) (o : Option Peer) (rest : List OnConnection) → ((k : Peer) → o ≡ Some k → is_emptied now.state k n ≡ false)
    → fold emptied_one now (piece n o ++ rest) ≡ fold emptied_one now rest
at_quiet now n None rest h = refl
at_quiet now n (Some k) rest h = ap (λ (b : Bool). fold emptied_one (cond b (and_then now (λ t. empties t k n)) now) rest) (h k refl)

quiet_on : (s : State) (cs : List ℕ) (n : ℕ) (k : Peer) → SettledBut cs s → is_among n cs ≡ false → peer_on s n ≡ Some k → is_emptied s k n ≡ false
quiet_on s cs n k h none e =
    let f = found_conn n k s.peers e in
    false_from_ne_true (is_emptied s k n) (λ t. true≢false (sym ((In_from_all (IsSettledBut cs s.about s.history) k s.peers h.peers f.1).emptied n f.0 t) ∙ none))

-- ---- numbers that ascend

below_not_among : (n : ℕ) (cs : List ℕ) → list_all (nat_lt n) cs ≡ true → is_among n cs ≡ false
below_not_among n [] h = refl
below_not_among n (c ∷ cs) h =
    let p = and_parts (nat_lt n c) (list_all (nat_lt n) cs) h in
    ap (λ (b : Bool). b || is_among n cs) (apart c n p.0) ∙ below_not_among n cs p.1
  where
    apart : (a b : ℕ) → nat_lt b a ≡ true → (a == b) ≡ false
    apart a b g = grind (arith, nat_tests)

lower : (m n : ℕ) (cs : List ℕ) → nat_lt m n ≡ true → list_all (nat_lt n) cs ≡ true → list_all (nat_lt m) cs ≡ true
lower m n [] h g = refl
lower m n (c ∷ cs) h g =
    let p = and_parts (nat_lt n c) (list_all (nat_lt n) cs) g in
    rw (less m n c h p.0) (lower m n cs h p.1)
  where
    less : (a b d : ℕ) → nat_lt a b ≡ true → nat_lt b d ≡ true → nat_lt a d ≡ true
    less a b d x y = grind (arith, nat_tests)

below_first : (m n : ℕ) (cs : List ℕ) → nat_lt m n ≡ true → ascends (n ∷ cs) ≡ true → is_among m (n ∷ cs) ≡ false
below_first m n cs h order =
    let p = and_parts (list_all (nat_lt n) cs) (ascends cs) order in
    below_not_among m (n ∷ cs) (rw h (lower m n cs h p.0))

-- ---- the round

-- So far the outcome is this: what is left of the round are these numbers, on which the peers are as they were when it
-- began, and they have each connection that is due and whose name is open.
pub record Round (s : State) (o now : ScriptOutcome) (ns ds : List ℕ) : Type 0 where
  pub same : emptied o ≡ fold emptied_one now (pieces s ns)
  pub kept : AllByRecursion (λ (n : ℕ). peer_on now.state n ≡ peer_on s n) ns
  pub order : ascends ns ≡ true
  pub whole : (d : ℕ) → is_among d ds ≡ true → is_some (peer_on now.state d) ≡ true → is_among d ns ≡ true

-- It begins with all connections that haven't left.
pub round_begins : (t : ScriptHub) (o : ScriptOutcome) (cs : List ℕ) → ScriptStands t o.state → Round o.state o o (numbers (unleft o.state.history)) cs
round_begins t o cs h =
    let s = o.state in
    record {
      same = ap (fold emptied_one o) (in_pieces s (unleft s.history) h.conns);
      kept = all_same (numbers (unleft s.history));
      order = unleft_ascends t s h;
      whole = λ d due some. open_among (peer_on s d) d refl some;
    }
  where
    all_same : (ns : List ℕ) → AllByRecursion (λ (n : ℕ). peer_on o.state n ≡ peer_on o.state n) ns
    all_same [] = tt
    all_same (n ∷ ns) = (refl, all_same ns)

    number_among : (d : ℕ) (xs : List Connection) → list_any (λ (x : Connection). (x.number == d) && (x.caller == 0)) xs ≡ true → is_among d (numbers xs) ≡ true
    number_among d [] u = u
    number_among d (x ∷ xs) u = elim (or_cases ((x.number == d) && (x.caller == 0)) (list_any (λ (y : Connection). (y.number == d) && (y.caller == 0)) xs) u) [
      | inl here ↦ or_left (x.number == d) (is_among d (numbers xs)) (and_parts (x.number == d) (x.caller == 0) here).0
      | inr later ↦ or_right (x.number == d) (is_among d (numbers xs)) (number_among d xs later)
    ]

    open_among : (p : Option Peer) (d : ℕ) → peer_on o.state d ≡ p → is_some (peer_on o.state d) ≡ true → is_among d (numbers (unleft o.state.history)) ≡ true
    open_among None d e some = absurd (true≢false (sym some ∙ ap is_some e))
    open_among (Some k) d e some =
        let f = found_conn d k o.state.peers e in
        number_among d (unleft o.state.history) (In_from_all (Owns o.state.history) k o.state.peers (owners t.core o.state.history o.state.peers (kept_in t) h.peers) f.1 d f.0)

-- It ends where nobody is due.
pub round_ends : (s : State) (o now : ScriptOutcome) (ns : List ℕ) → SettledBut [] now.state → Round s o now ns [] → emptied o ≡ now
round_ends s o now ns h r = r.same ∙ nothing ns r.kept
  where
    nothing : (ms : List ℕ) → AllByRecursion (λ (n : ℕ). peer_on now.state n ≡ peer_on s n) ms → fold emptied_one now (pieces s ms) ≡ now
    nothing [] k = refl
    nothing (m ∷ ms) k = at_quiet now m (peer_on s m) (pieces s ms) (λ p e. quiet_on now.state [] m p h refl (k.0 ∙ e)) ∙ nothing ms k.1

-- The first of those that are due is emptied.
pub round_goes : (s : State) (o now : ScriptOutcome) (ns : List ℕ) (c : ℕ) (ds : List ℕ) → Apart name_of now.state.peers → SettledBut (c ∷ ds) now.state → Round s o now ns (c ∷ ds)
    → (ms : List ℕ) × Round s o (and_then now (λ u. emptied_on u c)) ms ds
round_goes s o now [] c ds apart h r =
    let none : peer_on now.state c ≡ None = closed (peer_on now.state c) refl in
    let same : and_then now (λ u. emptied_on u c) ≡ now = ap (λ p. record { state = (emptied_if now.state c p).state; said = now.said ++ (emptied_if now.state c p).said }) none ∙ quiet_after now in (
      [],
      record {
        same = r.same ∙ sym same;
        kept = tt;
        order = refl;
        whole = λ d among some. r.whole d (or_right (c == d) (is_among d ds) among) (sym (ap (λ (u : ScriptOutcome). is_some (peer_on u.state d)) same) ∙ some);
      },
    )
  where
    closed : (p : Option Peer) → peer_on now.state c ≡ p → p ≡ None
    closed None e = refl
    closed (Some k) e = absurd (true≢false (sym (r.whole c (or_left (c == c) (is_among c ds) (eq-eqb c c refl)) (ap is_some e))))
round_goes s o now (n ∷ ns) c ds apart h r = by (nat_lt n c) (n == c) refl refl (λ q. round_goes s o now ns c ds apart h q)
  where
    P : List ℕ → Type 0
    P ms = Round s o (and_then now (λ u. emptied_on u c)) ms ds

    parts : (list_all (nat_lt n) ns ≡ true) × (ascends ns ≡ true)
    parts = and_parts (list_all (nat_lt n) ns) (ascends ns) r.order

    dues : (list_all (nat_lt c) ds ≡ true) × (ascends ds ≡ true)
    dues = and_parts (list_all (nat_lt c) ds) (ascends ds) h.order

    above : (a b : ℕ) → nat_lt a b ≡ false → (a == b) ≡ false → nat_lt b a ≡ true
    above a b x y = grind (arith, nat_tests)

    among_of : (d : ℕ) (m : ℕ) (ms : List ℕ) → (m == d) ≡ false → is_among d (m ∷ ms) ≡ true → is_among d ms ≡ true
    among_of d m ms f g = sym (ap (λ (b : Bool). b || is_among d ms) f) ∙ g

    due_apart : (d : ℕ) → is_among d ds ≡ true → c ≢ d
    due_apart d g e = true≢false (sym g ∙ subst (λ x. is_among x ds ≡ false) e (below_not_among c ds dues.0))

    -- the first that is left comes before: nothing is due there
    before : nat_lt n c ≡ true → Round s o now ns (c ∷ ds)
    before low = record {
      same = r.same ∙ at_quiet now n (peer_on s n) (pieces s ns) (λ k e. quiet_on now.state (c ∷ ds) n k h (below_first n c ds low h.order) (r.kept.0 ∙ e));
      kept = r.kept.1;
      order = parts.1;
      whole = λ d among some. among_of d n ns (false_from_ne_true (n == d) (λ t. true≢false
          (sym among ∙ subst (λ x. is_among x (c ∷ ds) ≡ false) (eqb-true n d t) (below_first n c ds low h.order)))) (r.whole d among some);
    }

    -- it is the one
    here : n ≡ c → P ns
    here is =
        let step : fold emptied_one now (pieces s (n ∷ ns)) ≡ fold emptied_one (and_then now (λ u. emptied_on u c)) (pieces s ns) =
        ap (λ (p : Option Peer). fold emptied_one now (piece n p ++ pieces s ns)) (sym r.kept.0)
        ∙ ap (λ (m : ℕ). fold emptied_one now (piece m (peer_on now.state m) ++ pieces s ns)) is
        ∙ at_due now c (peer_on now.state c) (pieces s ns) in
        record {
          same = r.same ∙ step;
          kept = still ns (subst (λ m. list_all (nat_lt m) ns ≡ true) is parts.0) r.kept.1;
          order = parts.1;
          whole = λ d among some. among_of d n ns (false_from_ne_true (n == d) (λ t. due_apart d among (sym is ∙ eqb-true n d t)))
              (r.whole d (or_right (c == d) (is_among d ds) among) (sym (ap is_some (other_emptied now.state c d apart (due_apart d among))) ∙ some));
        }
      where
        still : (ms : List ℕ) → list_all (nat_lt c) ms ≡ true → AllByRecursion (λ (m : ℕ). peer_on now.state m ≡ peer_on s m) ms
            → AllByRecursion (λ (m : ℕ). peer_on (emptied_on now.state c).state m ≡ peer_on s m) ms
        still [] g k = tt
        still (m ∷ ms) g k =
            let q = and_parts (nat_lt c m) (list_all (nat_lt c) ms) g in
            (other_emptied now.state c m apart (λ e. true≢false (sym q.0 ∙ subst (λ x. nat_lt c x ≡ false) e (self c))) ∙ k.0, still ms q.1 k.1)
          where
            self : (a : ℕ) → nat_lt a a ≡ false
            self a = grind (arith, nat_tests)

    -- it comes behind: the name of the one that is due isn't open
    behind : nat_lt c n ≡ true → P (n ∷ ns)
    behind high =
        let gone : is_among c (n ∷ ns) ≡ false = below_first c n ns high r.order in
        let none : peer_on now.state c ≡ None = closed (peer_on now.state c) refl gone in
        let same : and_then now (λ u. emptied_on u c) ≡ now = ap (λ p. record { state = (emptied_if now.state c p).state; said = now.said ++ (emptied_if now.state c p).said }) none
        ∙ quiet_after now in
        record {
          same = r.same ∙ ap (λ (u : ScriptOutcome). fold emptied_one u (pieces s (n ∷ ns))) (sym same);
          kept = subst (λ (u : ScriptOutcome). AllByRecursion (λ (m : ℕ). peer_on u.state m ≡ peer_on s m) (n ∷ ns)) (sym same) r.kept;
          order = r.order;
          whole = λ d among some. r.whole d (or_right (c == d) (is_among d ds) among) (sym (ap (λ (u : ScriptOutcome). is_some (peer_on u.state d)) same) ∙ some);
        }
      where
        closed : (p : Option Peer) → peer_on now.state c ≡ p → is_among c (n ∷ ns) ≡ false → p ≡ None
        closed None e g = refl
        closed (Some k) e g = absurd (true≢false (sym (r.whole c (or_left (c == c) (is_among c ds) (eq-eqb c c refl)) (ap is_some e)) ∙ g))

    by : (l e : Bool) → nat_lt n c ≡ l → (n == c) ≡ e → (Round s o now ns (c ∷ ds) → (ms : List ℕ) × P ms) → (ms : List ℕ) × P ms
    by true e lt eq rec = rec (before lt)
    by false true lt eq rec = (ns, here (eqb-true n c eq))
    by false false lt eq rec = (n ∷ ns, behind (above n c lt eq))

-- ---- the round as it is carried out

-- So far it is carried out, and the outboxes of these are still to be emptied.
pub record RoundGoes (t : ScriptHub) (base b ds : List ℕ) (o : ScriptOutcome) : Type 0 where
  pub now : ScriptOutcome
  pub ns : List ℕ
  pub carried : CarriesOut t base b ds now
  pub round : Round o.state o now ns ds

pub goes_begins : (t : ScriptHub) (base b ds : List ℕ) (o : ScriptOutcome) → CarriesOut t base b ds o → RoundGoes t base b ds o
goes_begins t base b ds o h = record { now = o; ns = numbers (unleft o.state.history); carried = h; round = round_begins t o ds h.stands }

pub goes_on : (t n : ScriptHub) (base b b2 ds : List ℕ) (c : ℕ) (rest : List ℕ) (o : ScriptOutcome) → RoundGoes t base b ds o → ds ≡ c ∷ rest
    → ((s : State) (es : List ℕ) → ScriptStands t s → SettledBut (c ∷ es) s → CarriesOut n b b2 es (emptied_on s c)) → RoundGoes n base b2 rest o
goes_on t n base b b2 ds c rest o i is step =
    let j : RoundGoes t base b (c ∷ rest) o = subst (λ es. RoundGoes t base b es o) is i in
    let r = round_goes o.state o j.now j.ns c rest j.carried.stands.apart j.carried.settled j.round in
    record {
      now = and_then j.now (λ u. emptied_on u c);
      ns = r.0;
      carried = both_carried t n base b b2 (c ∷ rest) rest j.now (λ u. emptied_on u c) j.carried (step j.now.state rest j.carried.stands j.carried.settled);
      round = r.1;
    }

pub goes_ends : (t : ScriptHub) (base b ds : List ℕ) (o : ScriptOutcome) → RoundGoes t base b ds o → ds ≡ [] → CarriesOut t base b [] (emptied o)
goes_ends t base b ds o i is =
    let j : RoundGoes t base b [] o = subst (λ es. RoundGoes t base b es o) is i in
    subst (CarriesOut t base b []) (sym (round_ends o.state o j.now j.ns j.carried.settled j.round)) j.carried

-- The next one may be emptied.
pub goes_some : (t : ScriptHub) (base b ds : List ℕ) (c : ℕ) (rest : List ℕ) (o : ScriptOutcome) → RoundGoes t base b ds o → ds ≡ c ∷ rest → (s : State) × (es : List ℕ) × ScriptStands t s
    × SettledBut (c ∷ es) s
goes_some t base b ds c rest o i is =
    let j : RoundGoes t base b (c ∷ rest) o = subst (λ es. RoundGoes t base b es o) is i in
    (j.now.state, rest, j.carried.stands, j.carried.settled)
