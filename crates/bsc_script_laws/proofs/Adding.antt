-- What a line adds to the history: entries behind those before, of caller 0.
-- It serves the clauses of `a_line_goes_on` and `a_script_is_of_one_hub`.
use Rattle.std.proofs.Common.{◌≡◌, ℕ, nat_le, nat_lt, Bool, true, false, not, ◌&&◌, cond, List, [], ◌∷◌, ◌++◌, codes, fold, length, Option, Some, None, option_map, refl, ap, sym}
use Rattle.std.proofs.Common.{◌∙◌, subst, append_assoc, append-nil}
use Rattle.std.specs.List.{AllByRecursion}
use Rattle.bsc_octets.specs.declared.identity.Identity.{Identity}
use Rattle.bsc_history.specs.declared.limits.About.{About}
use Rattle.bsc_history.specs.declared.entry.Entry.{Entry}
use Rattle.bsc_history.specs.declared.call.Call.{Call}
use Rattle.bsc_history.specs.declared.call.Call.TheVariants.{Connect, Forward, Stop as StopCall, Count}
use Rattle.bsc_history.specs.declared.ending.End.{End}
use Rattle.bsc_history.specs.declared.reply.Reply.{Reply}
use Rattle.bsc_history.specs.declared.reply.Reply.TheVariants.{Joined, Refused, Appended, Closed, Skipped, NoHolder, SentAll, NotCurrent, Stopped, Gone, Counted}
use Rattle.bsc_history.specs.Ends.{ended}
use Rattle.bsc_history.specs.Counting.{counts}
use Rattle.bsc_history.specs.Replies.{is_stopped}
use Rattle.bsc_accept.specs.declared.event.Event.{Event}
use Rattle.bsc_accept.specs.declared.event.Event.TheVariants.{Message as Came, Joined as HasJoined, Refused as WasRefused, Ended, Tick}
use Rattle.bsc_accept.specs.declared.step.Step.{Step}
use Rattle.bsc_accept.specs.declared.step.Step.TheVariants.{Ask, Put, PutClose, Up, Close, Nothing as NoStep}
use Rattle.bsc_script.specs.declared.line.Line.{Line}
use Rattle.bsc_script.specs.declared.line.Line.TheVariants.{Nothing, Hub, Open, In, Text, Drop, Hold, Free, At, Stop, Counts}
use Rattle.bsc_script.specs.Written.{says}
use Rattle.bsc_lines.specs.Replies.{counts_words, forward_words}
use Rattle.bsc_script.specs.States.{State, Peer, new_peer, told, joined_as, is_open, peer_of, with_peer, with_opened}
use Rattle.bsc_script.specs.Calls.{called, entry_in, reply_in, is_worn, leave_of}
use Rattle.bsc_script.specs.Carrying.{ScriptOutcome, quietly, writes, leaves_if, ends, does, step_of, tells}
use Rattle.bsc_script.specs.Receiving.{wears, gets_reply, connects, forwards_if, verdict_on, acts, receives}
use Rattle.bsc_script.specs.Emptying.{OnConnection, unwritten, given_frames, found_empty, is_emptied, ends_as, empties, emptied_one, emptied, in_order_of_joining}
use Rattle.bsc_script.specs.Running.{most_names, hub_says, gets_text, holds, latest, ticks_one, stops, says_counts, line_outcome, run_line}
use Rattle.bsc_script.specs.Laws.{after_lines}
use Rattle.bsc_lemmas.proofs.Lists.{all_append as all-push}
use Rattle.std.proofs.lemmas.Option.{same_Some as same_some}

-- The history of t is that of a state with this hub and this history, and then some entries, of each of which P holds.
pub record Adds (P : Entry → Type 0) (a : About) (H : List Entry) (t : State) : Type 0 where
  pub about : t.about ≡ a
  pub more : List Entry
  pub behind : t.history ≡ H ++ more
  pub each : AllByRecursion P more

-- P holds of an entry of caller 0 that looks at nothing.
abbrev pub HoldsPlain : (Entry → Type 0) → Type 0
HoldsPlain P = (e : Entry) → e.caller ≡ 0 → e.looks ≡ [] → P e

-- what keeps the hub and the history adds nothing
kept_added : (P : Entry → Type 0) (a : About) (H : List Entry) (t : State) → t.about ≡ a → t.history ≡ H → Adds P a H t
kept_added P a H t about history = record { about = about; more = []; behind = history ∙ sym (append-nil H); each = tt }

pub nothing_added : (P : Entry → Type 0) (s : State) → Adds P s.about s.history s
nothing_added P s = record { about = refl; more = []; behind = sym (append-nil s.history); each = tt }

pub both_added : (P : Entry → Type 0) (a : About) (H : List Entry) (t u : State) → Adds P a H t → Adds P t.about t.history u → Adds P a H u
both_added P a H t u h g = record {
  about = g.about ∙ h.about;
  more = h.more ++ g.more;
  behind = g.behind ∙ ap (λ (l : List Entry). l ++ g.more) h.behind ∙ append_assoc H h.more g.more;
  each = all-push P h.more g.more h.each g.each;
}

pub call_added : (P : Entry → Type 0) (s : State) (call : Call) → P (entry_in s call) → Adds P s.about s.history (called s call)
call_added P s call h = record { about = refl; more = entry_in s call ∷ []; behind = refl; each = (h, tt) }

-- one of two
either_added : (P : Entry → Type 0) (a : About) (H : List Entry) (b : Bool) (x y : ScriptOutcome) → Adds P a H x.state → Adds P a H y.state → Adds P a H (cond b x y).state
either_added P a H true x y f g = f
either_added P a H false x y f g = g

-- ---- a WebSocket that closes, and the steps

leaving_added : (P : Entry → Type 0) → HoldsPlain P → (s : State) (k : Peer) (o : Option ℕ) → Adds P s.about s.history (leaves_if s k o).state
leaving_added P plain s k None = record { about = refl; more = []; behind = sym (append-nil s.history); each = tt }
leaving_added P plain s k (Some c) = record { about = refl; more = entry_in s (leave_of c k) ∷ []; behind = refl; each = (plain (entry_in s (leave_of c k)) refl refl, tt) }

pub ends_added : (P : Entry → Type 0) → HoldsPlain P → (s : State) (k : Peer) → Adds P s.about s.history (ends s k).state
ends_added P plain s k = leaving_added P plain s k k.conn

does_added : (P : Entry → Type 0) → HoldsPlain P → (s : State) (k : Peer) (x : Step) → Adds P s.about s.history (does s k x).state
does_added P plain s k (Ask who) = nothing_added P s
does_added P plain s k (Put octets) = nothing_added P s
does_added P plain s k (PutClose octets c) = ends_added P plain s k
does_added P plain s k Up = nothing_added P s
does_added P plain s k (Close c) = ends_added P plain s k
does_added P plain s k NoStep = nothing_added P s

tells_added : (P : Entry → Type 0) → HoldsPlain P → (s : State) (k : Peer) (e : Event) → Adds P s.about s.history (tells s k e).state
tells_added P plain s k e = does_added P plain (with_peer (told e k) s) (told e k) (step_of s k e)

-- ---- a message

replied_added : (P : Entry → Type 0) → HoldsPlain P → (s : State) (k : Peer) (r : Reply) → Adds P s.about s.history (gets_reply s k r).state
replied_added P plain s k (Joined conn replaced) = tells_added P plain s (joined_as conn k) HasJoined
replied_added P plain s k (Refused refusal) = tells_added P plain s k (WasRefused refusal)
replied_added P plain s k (Appended conn) = nothing_added P s
replied_added P plain s k (Closed conn) = nothing_added P s
replied_added P plain s k (Skipped conn) = nothing_added P s
replied_added P plain s k NoHolder = nothing_added P s
replied_added P plain s k (SentAll to missed skipped) = nothing_added P s
replied_added P plain s k (NotCurrent ending) = nothing_added P s
replied_added P plain s k Stopped = nothing_added P s
replied_added P plain s k (Gone ending taken) = nothing_added P s
replied_added P plain s k (Counted counts) = nothing_added P s

connects_added : (P : Entry → Type 0) → HoldsPlain P → (s : State) (k : Peer) (who : Identity) → Adds P s.about s.history (connects s k who).state
connects_added P plain s k who =
    either_added P s.about s.history (is_worn s) (wears s k) (gets_reply (called s (Connect who)) k (reply_in s (Connect who)))
    (ends_added P plain s k)
    (both_added P s.about s.history (called s (Connect who)) (gets_reply (called s (Connect who)) k (reply_in s (Connect who))).state
    (call_added P s (Connect who) (plain (entry_in s (Connect who)) refl refl))
    (replied_added P plain (called s (Connect who)) k (reply_in s (Connect who))))

forwards_added : (P : Entry → Type 0) → HoldsPlain P → (s : State) (k : Peer) (o : Option ℕ) (m : List ℕ) → ((c : ℕ) → P (entry_in s (Forward c m)))
    → Adds P s.about s.history (forwards_if s k o m).state
forwards_added P plain s k None m f = nothing_added P s
forwards_added P plain s k (Some c) m f =
    either_added P s.about s.history (is_worn s) (wears s k) (writes (says k.name (forward_words (reply_in s (Forward c m)))) (quietly (called s (Forward c m)))) (ends_added P plain s k)
    (call_added P s (Forward c m) (f c))

acts_added : (P : Entry → Type 0) → HoldsPlain P → (s : State) (k : Peer) (m : List ℕ) (x : Step) → ((c : ℕ) → P (entry_in s (Forward c m))) → Adds P s.about s.history (acts s k m x).state
acts_added P plain s k m (Ask who) f = connects_added P plain s k who
acts_added P plain s k m Up f = forwards_added P plain s k k.conn m f
acts_added P plain s k m (Put octets) f = does_added P plain s k (Put octets)
acts_added P plain s k m (PutClose octets c) f = does_added P plain s k (PutClose octets c)
acts_added P plain s k m (Close c) f = does_added P plain s k (Close c)
acts_added P plain s k m NoStep f = does_added P plain s k NoStep

-- P holds of each forward that a peer of s may make in a line.
abbrev pub HoldsForward : (Entry → Type 0) → State → Type 0
HoldsForward P s = (name : List ℕ) (k : Peer) (e : Event) (c : ℕ) (m : List ℕ) → peer_of s name ≡ Some k → P (entry_in (with_peer (told e k) s) (Forward c m))

receives_added : (P : Entry → Type 0) → HoldsPlain P → (s : State) → HoldsForward P s → (name : List ℕ) (k : Peer) (m : List ℕ) → peer_of s name ≡ Some k
    → Adds P s.about s.history (receives s k m).state
receives_added P plain s f name k m is =
    let e = Came s.clock (verdict_on s k m) in
    acts_added P plain (with_peer (told e k) s) (told e k) m (step_of s k e) (λ c. f name k e c m is)

-- ---- the clock, and the outboxes

ticks_added : (P : Entry → Type 0) → HoldsPlain P → (a : About) (H : List Entry) (ks : List Peer) (o : ScriptOutcome) → Adds P a H o.state → Adds P a H (fold ticks_one o ks).state
ticks_added P plain a H [] o h = h
ticks_added P plain a H (k ∷ ks) o h = ticks_added P plain a H ks (ticks_one o k) (both_added P a H o.state (ticks_one o k).state h (tells_added P plain o.state k (Tick o.state.clock)))

ending_added : (P : Entry → Type 0) → HoldsPlain P → (s : State) (k : Peer) (o : Option End) → Adds P s.about s.history (ends_as s k o).state
ending_added P plain s k None = kept_added P s.about s.history (with_peer (found_empty k) s) refl refl
ending_added P plain s k (Some ending) = tells_added P plain (with_peer k s) k (Ended s.clock ending)

emptied_one_added : (P : Entry → Type 0) → HoldsPlain P → (a : About) (H : List Entry) (o : ScriptOutcome) (x : OnConnection) → Adds P a H o.state → Adds P a H (emptied_one o x).state
emptied_one_added P plain a H o x h = by (is_emptied o.state x.peer x.conn)
  where
    u : State
    u = (empties o.state x.peer x.conn).state

    more : Adds P a H u
    more = both_added P a H o.state u h (ending_added P plain o.state (given_frames (unwritten o.state x.peer x.conn) x.peer) (ended o.state.history x.conn))

    by : (b : Bool) → Adds P a H (cond b (record { state = u; said = o.said ++ (empties o.state x.peer x.conn).said }) o).state
    by true = more
    by false = h

pub all_emptied_added : (P : Entry → Type 0) → HoldsPlain P → (a : About) (H : List Entry) (xs : List OnConnection) (o : ScriptOutcome) → Adds P a H o.state → Adds P a H (fold emptied_one o xs).state
all_emptied_added P plain a H [] o h = h
all_emptied_added P plain a H (x ∷ xs) o h = all_emptied_added P plain a H xs (emptied_one o x) (emptied_one_added P plain a H o x h)

-- ---- a line

-- what is accepted on a condition
pub accepted : (b : Bool) (x o : ScriptOutcome) → cond b (Some x) None ≡ Some o → x ≡ o
accepted true x o e = same_some x o e
accepted false x o e = cc

-- what is done to the peer of a name
pub of_name : (f : Peer → ScriptOutcome) (p : Option Peer) (o : ScriptOutcome) → option_map f p ≡ Some o → (k : Peer) × (p ≡ Some k) × (f k ≡ o)
of_name f None o e = cc
of_name f (Some k) o e = (k, refl, same_some (f k) o e)

as_outcome : (P : Entry → Type 0) (a : About) (H : List Entry) (x o : ScriptOutcome) → x ≡ o → Adds P a H x.state → Adds P a H o.state
as_outcome P a H x o e h = subst (λ (u : ScriptOutcome). Adds P a H u.state) e h

pub outcome_added : (P : Entry → Type 0) → HoldsPlain P → (s : State) → HoldsForward P s → (line : Line) (o : ScriptOutcome) → line_outcome s line ≡ Some o → Adds P s.about s.history o.state
outcome_added P plain s f Nothing o e = as_outcome P s.about s.history (quietly s) o (same_some (quietly s) o e) (nothing_added P s)
outcome_added P plain s f (Hub about) o e = cc
outcome_added P plain s f (Open name) o e =
    let x = quietly (with_opened (new_peer name s.clock) s) in
    as_outcome P s.about s.history x o (accepted (not (is_open s name) && nat_lt (length s.peers) most_names) x o e) (kept_added P s.about s.history x.state refl refl)
outcome_added P plain s f (In name m) o e =
    let n = of_name (λ k. receives s k m) (peer_of s name) o e in
    as_outcome P s.about s.history (receives s n.0 m) o n.2 (receives_added P plain s f name n.0 m n.1)
outcome_added P plain s f (Text name) o e =
    let n = of_name (gets_text s) (peer_of s name) o e in
    as_outcome P s.about s.history (gets_text s n.0) o n.2 (ends_added P plain s n.0)
outcome_added P plain s f (Drop name) o e =
    let n = of_name (ends s) (peer_of s name) o e in
    as_outcome P s.about s.history (ends s n.0) o n.2 (ends_added P plain s n.0)
outcome_added P plain s f (Hold name) o e =
    let n = of_name (λ k. holds s k true) (peer_of s name) o e in
    as_outcome P s.about s.history (holds s n.0 true) o n.2 (kept_added P s.about s.history (holds s n.0 true).state refl refl)
outcome_added P plain s f (Free name) o e =
    let n = of_name (λ k. holds s k false) (peer_of s name) o e in
    as_outcome P s.about s.history (holds s n.0 false) o n.2 (kept_added P s.about s.history (holds s n.0 false).state refl refl)
outcome_added P plain s f (At ms) o e =
    let x = fold ticks_one (quietly (record s { clock = ms })) s.peers in
    as_outcome P s.about s.history x o (accepted (nat_le s.clock ms && nat_le ms latest) x o e)
    (ticks_added P plain s.about s.history s.peers (quietly (record s { clock = ms })) (kept_added P s.about s.history (record s { clock = ms }) refl refl))
outcome_added P plain s f Stop o e =
    as_outcome P s.about s.history (stops s) o (same_some (stops s) o e)
    (either_added P s.about s.history (is_stopped s.history) (writes (hub_says (codes "stopped already")) (quietly s))
    (writes (hub_says (counts_words (counts s.history))) (quietly (called s StopCall))) (nothing_added P s) (call_added P s StopCall (plain (entry_in s StopCall) refl refl)))
outcome_added P plain s f Counts o e =
    as_outcome P s.about s.history (says_counts s) o (same_some (says_counts s) o e)
    (either_added P s.about s.history (is_worn s) (writes (hub_says (codes "worn")) (quietly s)) (writes (hub_says (counts_words (counts s.history))) (quietly (called s Count)))
    (nothing_added P s) (call_added P s Count (plain (entry_in s Count) refl refl)))

pub then_emptied : (p : Option ScriptOutcome) (o : ScriptOutcome) → option_map emptied p ≡ Some o → (u : ScriptOutcome) × (p ≡ Some u) × (emptied u ≡ o)
then_emptied None o e = cc
then_emptied (Some u) o e = (u, refl, same_some (emptied u) o e)

-- A line adds entries of which P holds.
pub line_added : (P : Entry → Type 0) → HoldsPlain P → (s : State) → HoldsForward P s → (line : Line) (o : ScriptOutcome) → run_line s line ≡ Some o → Adds P s.about s.history o.state
unfolding run_line
line_added P plain s f line o e =
    let u = then_emptied (line_outcome s line) o e in
    as_outcome P s.about s.history (emptied u.0) o u.2
    (all_emptied_added P plain s.about s.history (in_order_of_joining u.0.state) u.0 (outcome_added P plain s f line u.0 u.1))

-- ---- some lines

-- an entry is caller 0's
abbrev pub IsOfCaller0 : Entry → Type 0
IsOfCaller0 e = e.caller ≡ 0

line_callers : (s : State) (line : Line) (o : ScriptOutcome) → run_line s line ≡ Some o → AllByRecursion IsOfCaller0 s.history → AllByRecursion IsOfCaller0 o.state.history
line_callers s line o e h =
    let a = line_added IsOfCaller0 (λ x c l. c) s (λ name k x c m is. refl) line o e in
    subst (λ (l : List Entry). AllByRecursion IsOfCaller0 l) (sym a.behind) (all-push IsOfCaller0 s.history a.more h a.each)

-- After some lines all entries are caller 0's, if all before them were.
pub none_after : (lines : List Line) (u : State) → after_lines None lines ≡ Some u → ⊥
none_after [] u e = cc
none_after (line ∷ lines) u e = none_after lines u e

-- what stands after a line that comes to this
abbrev pub state_of : Option ScriptOutcome → Option State
state_of p = elim p [ None ↦ None | Some o ↦ Some o.state ]

callers_by : (s u : State) (line : Line) (lines : List Line) (p : Option ScriptOutcome) → run_line s line ≡ p → AllByRecursion IsOfCaller0 s.history
    → ((t : State) → AllByRecursion IsOfCaller0 t.history → after_lines (Some t) lines ≡ Some u → AllByRecursion IsOfCaller0 u.history)
    → after_lines (state_of p) lines ≡ Some u → AllByRecursion IsOfCaller0 u.history
callers_by s u line lines None is h later e = absurd (none_after lines u e)
callers_by s u line lines (Some o) is h later e = later o.state (line_callers s line o is h) e

pub callers_after : (lines : List Line) (s u : State) → AllByRecursion IsOfCaller0 s.history → after_lines (Some s) lines ≡ Some u → AllByRecursion IsOfCaller0 u.history
callers_after [] s u h e = subst (λ (t : State). AllByRecursion IsOfCaller0 t.history) (same_some s u e) h
callers_after (line ∷ lines) s u h e = callers_by s u line lines (run_line s line) refl h (λ t g f. callers_after lines t u g f) e
