-- Nothing is written in a line under a name that isn't open.
-- It serves the clauses of `a_line_goes_on` and `a_script_is_of_one_hub`.
use Rattle.std.proofs.Common.{◌≡◌, ◌≢◌, ℕ, nat_le, nat_lt, Bool, true, false, not, ◌&&◌, cond, List, [], ◌∷◌, ◌++◌, codes, filter, find, flat_map, fold, length, map, Option, Some}
use Rattle.std.proofs.Common.{None, is_some, refl, ap, sym, ◌∙◌, subst, true≢false}
use Rattle.std.specs.List.{AllByRecursion}
use Rattle.bsc_octets.specs.declared.identity.Identity.{Identity}
use Rattle.bsc_history.specs.declared.connection.Connection.{Connection}
use Rattle.bsc_history.specs.declared.call.Call.TheVariants.{Connect, Forward, Stop as StopCall, Count}
use Rattle.bsc_history.specs.declared.ending.End.{End}
use Rattle.bsc_history.specs.declared.reply.Reply.{Reply}
use Rattle.bsc_history.specs.declared.reply.Reply.TheVariants.{Joined, Refused, Appended, Closed, Skipped, NoHolder, SentAll, NotCurrent, Stopped, Gone, Counted}
use Rattle.bsc_history.specs.Ends.{ended, unleft}
use Rattle.bsc_history.specs.Counting.{counts}
use Rattle.bsc_history.specs.Replies.{is_stopped}
use Rattle.bsc_checks.specs.declared.verdict.Verdict.{Verdict}
use Rattle.bsc_checks.specs.declared.verdict.Verdict.TheVariants.{Silent}
use Rattle.bsc_accept.specs.declared.event.Event.{Event}
use Rattle.bsc_accept.specs.declared.event.Event.TheVariants.{Message as Came, Joined as HasJoined, Refused as WasRefused, Ended, Tick}
use Rattle.bsc_accept.specs.declared.step.Step.{Step}
use Rattle.bsc_accept.specs.declared.step.Step.TheVariants.{Ask, Put, PutClose, Up, Close, Nothing as NoStep}
use Rattle.bsc_script.specs.declared.line.Line.{Line}
use Rattle.bsc_script.specs.declared.line.Line.TheVariants.{Nothing, Hub, Open, In, Text, Drop, Hold, Free, At, Stop, Counts}
use Rattle.bsc_script.specs.Written.{Said, says}
use Rattle.bsc_lines.specs.Replies.{counts_words, forward_words}
use Rattle.bsc_script.specs.States.{State, Peer, is_named, has_joined_as, new_peer, told, joined_as, is_open, peer_of, with_peer, with_opened, without_name, with_held}
use Rattle.bsc_script.specs.Calls.{called, reply_in, is_worn}
use Rattle.bsc_script.specs.Carrying.{ScriptOutcome, quietly, writes, leaves_if, ends, does, step_of, tells}
use Rattle.bsc_script.specs.Receiving.{wears, gets_reply, connects, forwards_if, verdict_on, acts, silence, receives}
use Rattle.bsc_script.specs.Emptying.{OnConnection, frame_lines, unwritten, given_frames, found_empty, is_emptied, ends_as, empties, emptied_one, emptied, in_order_of_joining}
use Rattle.bsc_script.specs.Running.{most_names, hub_says, gets_text, holds, latest, ticks_one, stops, says_counts, line_outcome, run_line}
use Rattle.bsc_script.proofs.Peers.{name_same, has_conn}
use Rattle.bsc_history.proofs.Lists.{In_from_all, all_from_In, In-filter}
use Rattle.bsc_script_laws.proofs.Adding.{accepted, of_name, then_emptied}
use Rattle.bsc_script_laws.proofs.Looking.{found_name}
use Rattle.bsc_lemmas.proofs.Lists.{all_append as all-push}
use Rattle.std.proofs.lemmas.Option.{same_Some as same_some}

-- these lines are of other names
abbrev pub AreAside : List ℕ → List Said → Type 0
AreAside n ls = AllByRecursion (λ (l : Said). l.name ≢ n) ls

-- a peer that has joined has another name
abbrev pub IsOther : List ℕ → Peer → Type 0
IsOther n p = (c : ℕ) → p.conn ≡ Some c → p.name ≢ n

-- each open name that has joined is another
abbrev pub AreOthers : List ℕ → State → Type 0
AreOthers n s = AllByRecursion (IsOther n) s.peers

-- What something comes to leaves a name aside: no line is of it, and it hasn't joined.
pub record IsAside (n : List ℕ) (o : ScriptOutcome) : Type 0 where
  pub lines : AreAside n o.said
  pub others : AreOthers n o.state

-- ---- the open names

others_mapped : (n : List ℕ) (j : Peer) (ks : List Peer) → j.name ≢ n → AllByRecursion (IsOther n) ks → AllByRecursion (IsOther n) (map (λ p. cond (is_named j.name p) j p) ks)
others_mapped n j [] other h = tt
others_mapped n j (p ∷ ks) other h = (by (is_named j.name p), others_mapped n j ks other h.1)
  where
    by : (b : Bool) → IsOther n (cond b j p)
    by true = λ c e. other
    by false = h.0

with_peer_others : (n : List ℕ) (s : State) (j : Peer) → j.name ≢ n → AreOthers n s → AreOthers n (with_peer j s)
with_peer_others n s j other h = others_mapped n j s.peers other h

without_others : (n m : List ℕ) (s : State) → AreOthers n s → AreOthers n (without_name m s)
without_others n m s h = all_from_In (IsOther n) (filter (λ p. not (is_named m p)) s.peers) (λ p i. In_from_all (IsOther n) p s.peers h (In-filter (λ q. not (is_named m q)) p s.peers i).0)

-- ---- how outcomes go together

quiet_aside : (n : List ℕ) (s : State) → AreOthers n s → IsAside n (quietly s)
quiet_aside n s h = record { lines = tt; others = h }

more_aside : (n : List ℕ) (ls : List Said) (o : ScriptOutcome) → AreAside n ls → IsAside n o → IsAside n (record { state = o.state; said = ls ++ o.said })
more_aside n ls o before h = record { lines = all-push (λ (l : Said). l.name ≢ n) ls o.said before h.lines; others = h.others }

either_aside : (n : List ℕ) (b : Bool) (x y : ScriptOutcome) → IsAside n x → IsAside n y → IsAside n (cond b x y)
either_aside n true x y f g = f
either_aside n false x y f g = g

-- ---- a WebSocket that closes, and the steps

leaving_aside : (n : List ℕ) (s : State) (k : Peer) (o : Option ℕ) → k.name ≢ n → AreOthers n s → IsAside n (leaves_if s k o)
leaving_aside n s k None other h = record { lines = tt; others = without_others n k.name s h }
leaving_aside n s k (Some c) other h = record { lines = (other, tt); others = without_others n k.name s h }

ends_aside : (n : List ℕ) (s : State) (k : Peer) → k.name ≢ n → AreOthers n s → IsAside n (ends s k)
ends_aside n s k other h = leaving_aside n s k k.conn other h

does_aside : (n : List ℕ) (s : State) (k : Peer) (x : Step) → k.name ≢ n → AreOthers n s → IsAside n (does s k x)
does_aside n s k (Ask who) other h = quiet_aside n s h
does_aside n s k (Put octets) other h = record { lines = (other, tt); others = h }
does_aside n s k (PutClose octets c) other h = (let e = ends_aside n s k other h in record { lines = (other, (other, e.lines)); others = e.others })
does_aside n s k Up other h = quiet_aside n s h
does_aside n s k (Close c) other h = (let e = ends_aside n s k other h in record { lines = (other, e.lines); others = e.others })
does_aside n s k NoStep other h = quiet_aside n s h

pub tells_aside : (n : List ℕ) (s : State) (k : Peer) (e : Event) → k.name ≢ n → AreOthers n s → IsAside n (tells s k e)
tells_aside n s k e other h = does_aside n (with_peer (told e k) s) (told e k) (step_of s k e) other (with_peer_others n s (told e k) other h)

-- ---- a message

wears_aside : (n : List ℕ) (s : State) (k : Peer) → k.name ≢ n → AreOthers n s → IsAside n (wears s k)
wears_aside n s k other h = (let e = ends_aside n s k other h in record { lines = (other, (other, e.lines)); others = e.others })

replied_aside : (n : List ℕ) (s : State) (k : Peer) (r : Reply) → k.name ≢ n → AreOthers n s → IsAside n (gets_reply s k r)
replied_aside n s k (Joined conn replaced) other h = (let e = tells_aside n s (joined_as conn k) HasJoined other h in record { lines = (other, e.lines); others = e.others })
replied_aside n s k (Refused refusal) other h = (let e = tells_aside n s k (WasRefused refusal) other h in record { lines = (other, e.lines); others = e.others })
replied_aside n s k (Appended conn) other h = quiet_aside n s h
replied_aside n s k (Closed conn) other h = quiet_aside n s h
replied_aside n s k (Skipped conn) other h = quiet_aside n s h
replied_aside n s k NoHolder other h = quiet_aside n s h
replied_aside n s k (SentAll to missed skipped) other h = quiet_aside n s h
replied_aside n s k (NotCurrent ending) other h = quiet_aside n s h
replied_aside n s k Stopped other h = quiet_aside n s h
replied_aside n s k (Gone ending taken) other h = quiet_aside n s h
replied_aside n s k (Counted counts) other h = quiet_aside n s h

connects_aside : (n : List ℕ) (s : State) (k : Peer) (who : Identity) → k.name ≢ n → AreOthers n s → IsAside n (connects s k who)
connects_aside n s k who other h =
    either_aside n (is_worn s) (wears s k) (gets_reply (called s (Connect who)) k (reply_in s (Connect who)))
    (wears_aside n s k other h)
    (replied_aside n (called s (Connect who)) k (reply_in s (Connect who)) other h)

forwards_aside : (n : List ℕ) (s : State) (k : Peer) (o : Option ℕ) (m : List ℕ) → k.name ≢ n → AreOthers n s → IsAside n (forwards_if s k o m)
forwards_aside n s k None m other h = quiet_aside n s h
forwards_aside n s k (Some c) m other h =
    either_aside n (is_worn s) (wears s k) (writes (says k.name (forward_words (reply_in s (Forward c m)))) (quietly (called s (Forward c m))))
    (wears_aside n s k other h) (record { lines = (other, tt); others = h })

acts_aside : (n : List ℕ) (s : State) (k : Peer) (m : List ℕ) (x : Step) → k.name ≢ n → AreOthers n s → IsAside n (acts s k m x)
acts_aside n s k m (Ask who) other h = connects_aside n s k who other h
acts_aside n s k m Up other h = forwards_aside n s k k.conn m other h
acts_aside n s k m (Put octets) other h = does_aside n s k (Put octets) other h
acts_aside n s k m (PutClose octets c) other h = does_aside n s k (PutClose octets c) other h
acts_aside n s k m (Close c) other h = does_aside n s k (Close c) other h
acts_aside n s k m NoStep other h = does_aside n s k NoStep other h

silence_aside : (n name : List ℕ) (v : Verdict) → name ≢ n → AreAside n (silence name v)
silence_aside n name (Silent check) other = (other, tt)
silence_aside n name v other = tt

receives_aside : (n : List ℕ) (s : State) (k : Peer) (m : List ℕ) → k.name ≢ n → AreOthers n s → IsAside n (receives s k m)
receives_aside n s k m other h =
    let e = Came s.clock (verdict_on s k m) in
    let t = with_peer (told e k) s in
    more_aside n (silence k.name (verdict_on s k m)) (acts t (told e k) m (step_of s k e))
    (silence_aside n k.name (verdict_on s k m) other)
    (acts_aside n t (told e k) m (step_of s k e) other (with_peer_others n s (told e k) other h))

-- ---- the clock, and the outboxes

-- one thing, and then another
both_aside : (n : List ℕ) (o : ScriptOutcome) (u : ScriptOutcome) → IsAside n o → IsAside n u → IsAside n (record { state = u.state; said = o.said ++ u.said })
both_aside n o u h g = more_aside n o.said u h.lines g

ticks_aside : (n : List ℕ) (ks : List Peer) (o : ScriptOutcome) → AllByRecursion (λ (k : Peer). k.name ≢ n) ks → IsAside n o → IsAside n (fold ticks_one o ks)
ticks_aside n [] o others h = h
ticks_aside n (k ∷ ks) o others h =
    ticks_aside n ks (ticks_one o k) others.1
    (both_aside n o (tells o.state k (Tick o.state.clock)) h (tells_aside n o.state k (Tick o.state.clock) others.0 h.others))

frames_aside : (n name : List ℕ) (frames : List (List ℕ)) → name ≢ n → AreAside n (frame_lines name frames)
frames_aside n name [] other = tt
frames_aside n name (m ∷ frames) other = (other, frames_aside n name frames other)

ending_aside : (n : List ℕ) (s : State) (k : Peer) (o : Option End) → k.name ≢ n → AreOthers n s → IsAside n (ends_as s k o)
ending_aside n s k None other h = quiet_aside n (with_peer (found_empty k) s) (with_peer_others n s (found_empty k) other h)
ending_aside n s k (Some ending) other h = tells_aside n (with_peer k s) k (Ended s.clock ending) other (with_peer_others n s k other h)

pub empties_aside : (n : List ℕ) (s : State) (k : Peer) (c : ℕ) → k.name ≢ n → AreOthers n s → IsAside n (empties s k c)
empties_aside n s k c other h =
    let frames = unwritten s k c in
    more_aside n (frame_lines k.name frames) (ends_as s (given_frames frames k) (ended s.history c))
    (frames_aside n k.name frames other)
    (ending_aside n s (given_frames frames k) (ended s.history c) other h)

all_emptied_aside : (n : List ℕ) (xs : List OnConnection) (o : ScriptOutcome) → AllByRecursion (λ (x : OnConnection). x.peer.name ≢ n) xs → IsAside n o → IsAside n (fold emptied_one o xs)
all_emptied_aside n [] o others h = h
all_emptied_aside n (x ∷ xs) o others h =
    all_emptied_aside n xs (emptied_one o x) others.1
    (either_aside n (is_emptied o.state x.peer x.conn) (record { state = (empties o.state x.peer x.conn).state; said = o.said ++ (empties o.state x.peer x.conn).said }) o
    (both_aside n o (empties o.state x.peer x.conn) h (empties_aside n o.state x.peer x.conn others.0 h.others)) h)

-- who stands in the order of joining has joined
on_others : (n : List ℕ) (c : ℕ) (ks : List Peer) → AllByRecursion (IsOther n) ks
    → AllByRecursion (λ (x : OnConnection). x.peer.name ≢ n) (map (λ (k : Peer). record { conn = c; peer = k }) (filter (has_joined_as c) ks))
on_others n c [] h = tt
on_others n c (k ∷ ks) h = by (has_joined_as c k) refl (on_others n c ks h.1)
  where
    all : List Peer → Type 0
    all js = AllByRecursion (λ (x : OnConnection). x.peer.name ≢ n) (map (λ (j : Peer). record { conn = c; peer = j }) js)

    by : (b : Bool) → has_joined_as c k ≡ b → all (filter (has_joined_as c) ks) → all (cond b (k ∷ filter (has_joined_as c) ks) (filter (has_joined_as c) ks))
    by true is rest = (h.0 c (has_conn c k is), rest)
    by false is rest = rest

pub in_order_others : (n : List ℕ) (xs : List Connection) (ks : List Peer) → AllByRecursion (IsOther n) ks
    → AllByRecursion (λ (x : OnConnection). x.peer.name ≢ n) (flat_map (λ (x : Connection). map (λ (k : Peer). record { conn = x.number; peer = k }) (filter (has_joined_as x.number) ks)) xs)
in_order_others n [] ks h = tt
in_order_others n (x ∷ xs) ks h =
    all-push (λ (y : OnConnection). y.peer.name ≢ n) (map (λ (k : Peer). record { conn = x.number; peer = k }) (filter (has_joined_as x.number) ks))
    (flat_map (λ (y : Connection). map (λ (k : Peer). record { conn = y.number; peer = k }) (filter (has_joined_as y.number) ks)) xs)
    (on_others n x.number ks h) (in_order_others n xs ks h)

pub emptied_aside : (n : List ℕ) (o : ScriptOutcome) → IsAside n o → IsAside n (emptied o)
emptied_aside n o h = all_emptied_aside n (in_order_of_joining o.state) o (in_order_others n (unleft o.state.history) o.state.peers h.others) h

-- ---- a line

as_aside : (n : List ℕ) (x o : ScriptOutcome) → x ≡ o → IsAside n x → IsAside n o
as_aside n x o e h = subst (λ (u : ScriptOutcome). IsAside n u) e h

-- a name that isn't open is none of those that are
pub none_of : (n : List ℕ) (ks : List Peer) → is_some (find (is_named n) ks) ≡ false → AllByRecursion (λ (k : Peer). k.name ≢ n) ks
none_of n [] h = tt
none_of n (k ∷ ks) h = by (is_named n k) refl (none_of n ks)
  where
    by : (b : Bool) → is_named n k ≡ b → (is_some (find (is_named n) ks) ≡ false → AllByRecursion (λ (j : Peer). j.name ≢ n) ks) → AllByRecursion (λ (j : Peer). j.name ≢ n) (k ∷ ks)
    by true is rec = absurd (true≢false (sym (ap (λ (b : Bool). is_some (cond b (Some k) (find (is_named n) ks))) is) ∙ h))
    by false is rec = (
      (λ same. true≢false (sym (name_same k.name n same) ∙ is)),
      rec (sym (ap (λ (b : Bool). is_some (cond b (Some k) (find (is_named n) ks))) is) ∙ h),
    )

pub all_others : (n : List ℕ) (ks : List Peer) → AllByRecursion (λ (k : Peer). k.name ≢ n) ks → AllByRecursion (IsOther n) ks
all_others n [] h = tt
all_others n (k ∷ ks) h = ((λ c e. h.0), all_others n ks h.1)

-- who is found under a name has none that isn't open
found_other : (s : State) (n name : List ℕ) (k : Peer) → is_open s n ≡ false → peer_of s name ≡ Some k → k.name ≢ n
found_other s n name k closed is same =
    let own : peer_of s n ≡ Some k = ap (peer_of s) (sym (sym (found_name name k s.peers is) ∙ same)) ∙ is in
    true≢false (sym (ap is_some own) ∙ closed)

opened_others : (n : List ℕ) (s : State) (name : List ℕ) → AreOthers n s → AreOthers n (with_opened (new_peer name s.clock) s)
opened_others n s name h = all-push (IsOther n) s.peers (new_peer name s.clock ∷ []) h ((λ c e. cc), tt)

pub outcome_aside : (n : List ℕ) (s : State) (line : Line) (o : ScriptOutcome) → n ≢ codes "hub" → is_open s n ≡ false → line_outcome s line ≡ Some o → IsAside n o
outcome_aside n s line o own closed = by line
  where
    named : AllByRecursion (λ (k : Peer). k.name ≢ n) s.peers
    named = none_of n s.peers closed

    h : AreOthers n s
    h = all_others n s.peers named

    by : (line : Line) → line_outcome s line ≡ Some o → IsAside n o
    by Nothing e = as_aside n (quietly s) o (same_some (quietly s) o e) (quiet_aside n s h)
    by (Hub about) e = cc
    by (Open name) e =
        let x = quietly (with_opened (new_peer name s.clock) s) in
        as_aside n x o (accepted (not (is_open s name) && nat_lt (length s.peers) most_names) x o e) (quiet_aside n (with_opened (new_peer name s.clock) s) (opened_others n s name h))
    by (In name m) e =
        let p = of_name (λ k. receives s k m) (peer_of s name) o e in
        as_aside n (receives s p.0 m) o p.2 (receives_aside n s p.0 m (found_other s n name p.0 closed p.1) h)
    by (Text name) e =
        let p = of_name (gets_text s) (peer_of s name) o e in
        let other = found_other s n name p.0 closed p.1 in
        as_aside n (gets_text s p.0) o p.2 (let g = ends_aside n s p.0 other h in record { lines = (other, g.lines); others = g.others })
    by (Drop name) e =
        let p = of_name (ends s) (peer_of s name) o e in
        as_aside n (ends s p.0) o p.2 (ends_aside n s p.0 (found_other s n name p.0 closed p.1) h)
    by (Hold name) e =
        let p = of_name (λ k. holds s k true) (peer_of s name) o e in
        as_aside n (holds s p.0 true) o p.2 (quiet_aside n (with_peer (with_held true p.0) s) (with_peer_others n s (with_held true p.0) (found_other s n name p.0 closed p.1) h))
    by (Free name) e =
        let p = of_name (λ k. holds s k false) (peer_of s name) o e in
        as_aside n (holds s p.0 false) o p.2 (quiet_aside n (with_peer (with_held false p.0) s) (with_peer_others n s (with_held false p.0) (found_other s n name p.0 closed p.1) h))
    by (At ms) e =
        let x = fold ticks_one (quietly (record s { clock = ms })) s.peers in
        as_aside n x o (accepted (nat_le s.clock ms && nat_le ms latest) x o e)
        (ticks_aside n s.peers (quietly (record s { clock = ms })) named (record { lines = tt; others = h }))
    by Stop e =
        as_aside n (stops s) o (same_some (stops s) o e)
        (either_aside n (is_stopped s.history) (writes (hub_says (codes "stopped already")) (quietly s)) (writes (hub_says (counts_words (counts s.history))) (quietly (called s StopCall)))
        (record { lines = ((λ e. own (sym e)), tt); others = h }) (record { lines = ((λ e. own (sym e)), tt); others = h }))
    by Counts e =
        as_aside n (says_counts s) o (same_some (says_counts s) o e)
        (either_aside n (is_worn s) (writes (hub_says (codes "worn")) (quietly s)) (writes (hub_says (counts_words (counts s.history))) (quietly (called s Count)))
        (record { lines = ((λ e. own (sym e)), tt); others = h }) (record { lines = ((λ e. own (sym e)), tt); others = h }))

pub line_aside : (n : List ℕ) (s : State) (line : Line) (o : ScriptOutcome) → n ≢ codes "hub" → is_open s n ≡ false → run_line s line ≡ Some o → AreAside n o.said
unfolding run_line
line_aside n s line o own closed e =
    let u = then_emptied (line_outcome s line) o e in
    (as_aside n (emptied u.0) o u.2 (emptied_aside n u.0 (outcome_aside n s line u.0 own closed u.1))).lines
