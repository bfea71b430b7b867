-- The frames that are new of a name stand together in the text of the line, in order.
-- It serves the clauses of `a_line_goes_on`.
use Rattle.std.proofs.Common.{◌≡◌, ◌≢◌, ℕ, nat_le, nat_lt, Bool, true, false, not, ◌&&◌, cond, List, [], ◌∷◌, ◌++◌, codes, drop, filter, find, flat_map, fold, length, map, Option}
use Rattle.std.proofs.Common.{Some, None, is_some, refl, ap, sym, ◌∙◌, subst, append_assoc, append-nil, true≢false}
use Rattle.std.specs.List.{AllByRecursion}
use Rattle.bsc_octets.specs.declared.identity.Identity.{Identity}
use Rattle.bsc_history.specs.declared.connection.Connection.{Connection}
use Rattle.bsc_history.specs.declared.call.Call.TheVariants.{Connect, Forward, Stop as StopCall, Count}
use Rattle.bsc_history.specs.declared.ending.End.{End}
use Rattle.bsc_history.specs.declared.reply.Reply.{Reply}
use Rattle.bsc_history.specs.declared.reply.Reply.TheVariants.{Joined, Refused, Appended, Closed, Skipped, NoHolder, SentAll, NotCurrent, Stopped, Gone, Counted}
use Rattle.bsc_history.specs.Counting.{counts}
use Rattle.bsc_history.specs.Ends.{ended, unleft}
use Rattle.bsc_history.specs.Laws.{Apart}
use Rattle.bsc_history.specs.Replies.{is_stopped}
use Rattle.bsc_accept.specs.declared.event.Event.{Event}
use Rattle.bsc_accept.specs.declared.event.Event.TheVariants.{Message as Came, Joined as HasJoined, Refused as WasRefused, Ended, Tick}
use Rattle.bsc_accept.specs.declared.step.Step.{Step}
use Rattle.bsc_accept.specs.declared.step.Step.TheVariants.{Ask, Put, PutClose, Up, Close, Nothing as NoStep}
use Rattle.bsc_script.specs.declared.line.Line.{Line}
use Rattle.bsc_script.specs.declared.line.Line.TheVariants.{Nothing, Hub, Open, In, Text, Drop, Hold, Free, At, Stop, Counts}
use Rattle.bsc_script.specs.Written.{Said, says}
use Rattle.bsc_lines.specs.Replies.{counts_words, forward_words}
use Rattle.bsc_script.specs.States.{State, Peer, is_named, has_joined_as, new_peer, told, joined_as, is_open, peer_of, with_peer, with_opened, without_name, with_held}
use Rattle.bsc_script.specs.Calls.{called, reply_in, is_worn}
use Rattle.bsc_script.specs.Carrying.{ScriptOutcome, quietly, writes, leaves_if, ends, does, step_of, tells}
use Rattle.bsc_script.specs.Receiving.{wears, gets_reply, connects, forwards_if, verdict_on, acts, receives}
use Rattle.bsc_script.specs.Emptying.{OnConnection, frame_lines, unwritten, given_frames, found_empty, is_emptied, ends_as, empties, emptied_one, emptied, in_order_of_joining}
use Rattle.bsc_script.specs.Holding.{name_of}
use Rattle.bsc_script.specs.Running.{most_names, hub_says, gets_text, holds, latest, ticks_one, stops, says_counts, line_outcome, run_line}
use Rattle.bsc_script.specs.Laws.{AreWritten}
use Rattle.bsc_script.proofs.Peers.{name_same, same_name, other_name}
use Rattle.bsc_history.proofs.Lists.{In_from_all, all_from_In, In-filter}
use Rattle.bsc_script_laws.proofs.Adding.{accepted, of_name, then_emptied}
use Rattle.bsc_script_laws.proofs.Looking.{IsAloneIn, alone_in, found_name, drop-front}
use Rattle.bsc_lemmas.proofs.Lists.{all_append as all-push}
use Rattle.std.proofs.lemmas.Option.{same_Some as same_some}

-- a peer of this name has these frames
abbrev pub HasFrames : List ℕ → List (List ℕ) → Peer → Type 0
HasFrames n F p = p.name ≡ n → p.frames ≡ F

-- each open name that is this has these frames
abbrev pub HaveFrames : List ℕ → List (List ℕ) → State → Type 0
HaveFrames n F s = AllByRecursion (HasFrames n F) s.peers

-- ---- the open names

frames_mapped : (n : List ℕ) (F : List (List ℕ)) (j : Peer) (ks : List Peer) → HasFrames n F j → AllByRecursion (HasFrames n F) ks
    → AllByRecursion (HasFrames n F) (map (λ p. cond (is_named j.name p) j p) ks)
frames_mapped n F j [] has h = tt
frames_mapped n F j (p ∷ ks) has h = (by (is_named j.name p), frames_mapped n F j ks has h.1)
  where
    by : (b : Bool) → HasFrames n F (cond b j p)
    by true = has
    by false = h.0

-- Once a peer of the name is as j says, each of the name has the frames of j.
frames_put : (n : List ℕ) (F : List (List ℕ)) (j : Peer) (ks : List Peer) → j.name ≡ n → j.frames ≡ F → AllByRecursion (HasFrames n F) (map (λ p. cond (is_named j.name p) j p) ks)
frames_put n F j [] name frames = tt
frames_put n F j (p ∷ ks) name frames = (by (is_named j.name p) refl, frames_put n F j ks name frames)
  where
    by : (b : Bool) → is_named j.name p ≡ b → HasFrames n F (cond b j p)
    by true is = λ e. frames
    by false is = λ e. absurd (true≢false (sym (name_same p.name j.name (e ∙ sym name)) ∙ is))

frames_without : (n m : List ℕ) (F : List (List ℕ)) (s : State) → HaveFrames n F s → HaveFrames n F (without_name m s)
frames_without n m F s h = all_from_In (HasFrames n F) (filter (λ p. not (is_named m p)) s.peers) (λ p i. In_from_all (HasFrames n F) p s.peers h (In-filter (λ q. not (is_named m q)) p s.peers i).0)

-- who is found is one of them
found_frames : (n m : List ℕ) (F : List (List ℕ)) (k : Peer) (ks : List Peer) → AllByRecursion (HasFrames n F) ks → find (is_named m) ks ≡ Some k → HasFrames n F k
found_frames n m F k [] h e = cc
found_frames n m F k (p ∷ ks) h e = by (is_named m p) refl (found_frames n m F k ks h.1)
  where
    by : (b : Bool) → is_named m p ≡ b → (find (is_named m) ks ≡ Some k → HasFrames n F k) → HasFrames n F k
    by true is rec = subst (HasFrames n F) (same_some p k (sym (ap (λ (c : Bool). cond c (Some p) (find (is_named m) ks)) is) ∙ e)) h.0
    by false is rec = rec (sym (ap (λ (c : Bool). cond c (Some p) (find (is_named m) ks)) is) ∙ e)

alone_frames : (n : List ℕ) (k : Peer) (ks : List Peer) → IsAloneIn n k ks → AllByRecursion (HasFrames n k.frames) ks
alone_frames n k [] h = tt
alone_frames n k (p ∷ ks) h = ((λ e. ap (λ (q : Peer). q.frames) (h.0 (name_same p.name n e))), alone_frames n k ks h.1)

either_frames : (n : List ℕ) (F : List (List ℕ)) (b : Bool) (x y : ScriptOutcome) → HaveFrames n F x.state → HaveFrames n F y.state → HaveFrames n F (cond b x y).state
either_frames n F true x y f g = f
either_frames n F false x y f g = g

-- ---- before the outboxes are emptied no frames are written

leaving_frames : (n : List ℕ) (F : List (List ℕ)) (s : State) (k : Peer) (o : Option ℕ) → HaveFrames n F s → HaveFrames n F (leaves_if s k o).state
leaving_frames n F s k None h = frames_without n k.name F s h
leaving_frames n F s k (Some c) h = frames_without n k.name F s h

ends_frames : (n : List ℕ) (F : List (List ℕ)) (s : State) (k : Peer) → HaveFrames n F s → HaveFrames n F (ends s k).state
ends_frames n F s k h = leaving_frames n F s k k.conn h

does_frames : (n : List ℕ) (F : List (List ℕ)) (s : State) (k : Peer) (x : Step) → HaveFrames n F s → HaveFrames n F (does s k x).state
does_frames n F s k (Ask who) h = h
does_frames n F s k (Put octets) h = h
does_frames n F s k (PutClose octets c) h = ends_frames n F s k h
does_frames n F s k Up h = h
does_frames n F s k (Close c) h = ends_frames n F s k h
does_frames n F s k NoStep h = h

tells_frames : (n : List ℕ) (F : List (List ℕ)) (s : State) (k : Peer) (e : Event) → HasFrames n F k → HaveFrames n F s → HaveFrames n F (tells s k e).state
tells_frames n F s k e has h = does_frames n F (with_peer (told e k) s) (told e k) (step_of s k e) (frames_mapped n F (told e k) s.peers has h)

replied_frames : (n : List ℕ) (F : List (List ℕ)) (s : State) (k : Peer) (r : Reply) → HasFrames n F k → HaveFrames n F s → HaveFrames n F (gets_reply s k r).state
replied_frames n F s k (Joined conn replaced) has h = tells_frames n F s (joined_as conn k) HasJoined has h
replied_frames n F s k (Refused refusal) has h = tells_frames n F s k (WasRefused refusal) has h
replied_frames n F s k (Appended conn) has h = h
replied_frames n F s k (Closed conn) has h = h
replied_frames n F s k (Skipped conn) has h = h
replied_frames n F s k NoHolder has h = h
replied_frames n F s k (SentAll to missed skipped) has h = h
replied_frames n F s k (NotCurrent ending) has h = h
replied_frames n F s k Stopped has h = h
replied_frames n F s k (Gone ending taken) has h = h
replied_frames n F s k (Counted c) has h = h

connects_frames : (n : List ℕ) (F : List (List ℕ)) (s : State) (k : Peer) (who : Identity) → HasFrames n F k → HaveFrames n F s → HaveFrames n F (connects s k who).state
connects_frames n F s k who has h =
    either_frames n F (is_worn s) (wears s k) (gets_reply (called s (Connect who)) k (reply_in s (Connect who)))
    (ends_frames n F s k h) (replied_frames n F (called s (Connect who)) k (reply_in s (Connect who)) has h)

forwards_frames : (n : List ℕ) (F : List (List ℕ)) (s : State) (k : Peer) (o : Option ℕ) (m : List ℕ) → HaveFrames n F s → HaveFrames n F (forwards_if s k o m).state
forwards_frames n F s k None m h = h
forwards_frames n F s k (Some c) m h =
    either_frames n F (is_worn s) (wears s k) (writes (says k.name (forward_words (reply_in s (Forward c m)))) (quietly (called s (Forward c m)))) (ends_frames n F s k h) h

acts_frames : (n : List ℕ) (F : List (List ℕ)) (s : State) (k : Peer) (m : List ℕ) (x : Step) → HasFrames n F k → HaveFrames n F s → HaveFrames n F (acts s k m x).state
acts_frames n F s k m (Ask who) has h = connects_frames n F s k who has h
acts_frames n F s k m Up has h = forwards_frames n F s k k.conn m h
acts_frames n F s k m (Put octets) has h = h
acts_frames n F s k m (PutClose octets c) has h = ends_frames n F s k h
acts_frames n F s k m (Close c) has h = ends_frames n F s k h
acts_frames n F s k m NoStep has h = h

receives_frames : (n : List ℕ) (F : List (List ℕ)) (s : State) (k : Peer) (m : List ℕ) → HasFrames n F k → HaveFrames n F s → HaveFrames n F (receives s k m).state
receives_frames n F s k m has h =
    let e = Came s.clock (verdict_on s k m) in
    acts_frames n F (with_peer (told e k) s) (told e k) m (step_of s k e) has (frames_mapped n F (told e k) s.peers has h)

ticks_frames : (n : List ℕ) (F : List (List ℕ)) (ks : List Peer) (o : ScriptOutcome) → AllByRecursion (HasFrames n F) ks → HaveFrames n F o.state → HaveFrames n F (fold ticks_one o ks).state
ticks_frames n F [] o have h = h
ticks_frames n F (k ∷ ks) o have h = ticks_frames n F ks (ticks_one o k) have.1 (tells_frames n F o.state k (Tick o.state.clock) have.0 h)

as_frames : (n : List ℕ) (F : List (List ℕ)) (x o : ScriptOutcome) → x ≡ o → HaveFrames n F x.state → HaveFrames n F o.state
as_frames n F x o e h = subst (λ (u : ScriptOutcome). HaveFrames n F u.state) e h

opened_has : (n name : List ℕ) (F : List (List ℕ)) (now : ℕ) → name ≢ n → HasFrames n F (new_peer name now)
opened_has n name F now other = λ e. absurd (other e)

outcome_frames : (n : List ℕ) (k : Peer) (s : State) (line : Line) (o : ScriptOutcome) → peer_of s n ≡ Some k → HaveFrames n k.frames s → line_outcome s line ≡ Some o → HaveFrames n k.frames o.state
outcome_frames n k s Nothing o own h e = as_frames n k.frames (quietly s) o (same_some (quietly s) o e) h
outcome_frames n k s (Hub about) o own h e = cc
outcome_frames n k s (Open name) o own h e = opening (is_open s name) refl e
  where
    x : ScriptOutcome
    x = quietly (with_opened (new_peer name s.clock) s)

    -- a name that opens isn't open, and n is
    other : is_open s name ≡ false → name ≢ n
    other closed same = true≢false (sym (ap (λ (m : List ℕ). is_open s m) same ∙ ap (λ (p : Option Peer). is_some p) own) ∙ closed)

    opening : (b : Bool) → is_open s name ≡ b → cond (not b && nat_lt (length s.peers) most_names) (Some x) None ≡ Some o → HaveFrames n k.frames o.state
    opening true is f = cc
    opening false is f =
        as_frames n k.frames x o (accepted (nat_lt (length s.peers) most_names) x o f)
        (all-push (HasFrames n k.frames) s.peers (new_peer name s.clock ∷ []) h (opened_has n name k.frames s.clock (other is), tt))
outcome_frames n k s (In name m) o own h e =
    let p = of_name (λ q. receives s q m) (peer_of s name) o e in
    as_frames n k.frames (receives s p.0 m) o p.2 (receives_frames n k.frames s p.0 m (found_frames n name k.frames p.0 s.peers h p.1) h)
outcome_frames n k s (Text name) o own h e =
    let p = of_name (gets_text s) (peer_of s name) o e in
    as_frames n k.frames (gets_text s p.0) o p.2 (ends_frames n k.frames s p.0 h)
outcome_frames n k s (Drop name) o own h e =
    let p = of_name (ends s) (peer_of s name) o e in
    as_frames n k.frames (ends s p.0) o p.2 (ends_frames n k.frames s p.0 h)
outcome_frames n k s (Hold name) o own h e =
    let p = of_name (λ q. holds s q true) (peer_of s name) o e in
    as_frames n k.frames (holds s p.0 true) o p.2 (frames_mapped n k.frames (with_held true p.0) s.peers (found_frames n name k.frames p.0 s.peers h p.1) h)
outcome_frames n k s (Free name) o own h e =
    let p = of_name (λ q. holds s q false) (peer_of s name) o e in
    as_frames n k.frames (holds s p.0 false) o p.2 (frames_mapped n k.frames (with_held false p.0) s.peers (found_frames n name k.frames p.0 s.peers h p.1) h)
outcome_frames n k s (At ms) o own h e =
    let x = fold ticks_one (quietly (record s { clock = ms })) s.peers in
    as_frames n k.frames x o (accepted (nat_le s.clock ms && nat_le ms latest) x o e) (ticks_frames n k.frames s.peers (quietly (record s { clock = ms })) h h)
outcome_frames n k s Stop o own h e =
    as_frames n k.frames (stops s) o (same_some (stops s) o e)
    (either_frames n k.frames (is_stopped s.history) (writes (hub_says (codes "stopped already")) (quietly s)) (writes (hub_says (counts_words (counts s.history))) (quietly (called s StopCall))) h h)
outcome_frames n k s Counts o own h e =
    as_frames n k.frames (says_counts s) o (same_some (says_counts s) o e)
    (either_frames n k.frames (is_worn s) (writes (hub_says (codes "worn")) (quietly s)) (writes (hub_says (counts_words (counts s.history))) (quietly (called s Count))) h h)

-- ---- who has another name stays

find_mapped : (n : List ℕ) (j : Peer) (ks : List Peer) → j.name ≢ n → find (is_named n) (map (λ p. cond (is_named j.name p) j p) ks) ≡ find (is_named n) ks
find_mapped n j [] other = refl
find_mapped n j (p ∷ ks) other = by (is_named j.name p) refl (find_mapped n j ks other)
  where
    rest : List Peer
    rest = map (λ q. cond (is_named j.name q) j q) ks

    by : (b : Bool) → is_named j.name p ≡ b → find (is_named n) rest ≡ find (is_named n) ks → find (is_named n) (cond (is_named j.name p) j p ∷ rest) ≡ find (is_named n) (p ∷ ks)
    by true is later =
        let not_j : is_named n j ≡ false = other_name j.name n other in
        let not_p : is_named n p ≡ false = other_name p.name n (λ e. other (sym (same_name p.name j.name is) ∙ e)) in
        ap (λ (b : Bool). find (is_named n) (cond b j p ∷ rest)) is
        ∙ ap (λ (b : Bool). cond b (Some j) (find (is_named n) rest)) not_j
        ∙ later
        ∙ sym (ap (λ (b : Bool). cond b (Some p) (find (is_named n) ks)) not_p)
    by false is later =
        ap (λ (b : Bool). find (is_named n) (cond b j p ∷ rest)) is
        ∙ ap (λ (o : Option Peer). cond (is_named n p) (Some p) o) later

find_without : (n m : List ℕ) (ks : List Peer) → m ≢ n → find (is_named n) (filter (λ p. not (is_named m p)) ks) ≡ find (is_named n) ks
find_without n m [] other = refl
find_without n m (p ∷ ks) other = by (is_named m p) refl (find_without n m ks other)
  where
    rest : List Peer
    rest = filter (λ q. not (is_named m q)) ks

    by : (b : Bool) → is_named m p ≡ b → find (is_named n) rest ≡ find (is_named n) ks → find (is_named n) (cond (not (is_named m p)) (p ∷ rest) rest) ≡ find (is_named n) (p ∷ ks)
    by true is later =
        let not_p : is_named n p ≡ false = other_name p.name n (λ e. other (sym (same_name p.name m is) ∙ e)) in
        ap (λ (b : Bool). find (is_named n) (cond (not b) (p ∷ rest) rest)) is
        ∙ later
        ∙ sym (ap (λ (b : Bool). cond b (Some p) (find (is_named n) ks)) not_p)
    by false is later =
        ap (λ (b : Bool). find (is_named n) (cond (not b) (p ∷ rest) rest)) is
        ∙ ap (λ (o : Option Peer). cond (is_named n p) (Some p) o) later

other_left : (n : List ℕ) (s : State) (k : Peer) (o : Option ℕ) → k.name ≢ n → peer_of (leaves_if s k o).state n ≡ peer_of s n
other_left n s k None other = find_without n k.name s.peers other
other_left n s k (Some c) other = find_without n k.name s.peers other

other_done : (n : List ℕ) (s : State) (k : Peer) (x : Step) → k.name ≢ n → peer_of (does s k x).state n ≡ peer_of s n
other_done n s k (Ask who) other = refl
other_done n s k (Put octets) other = refl
other_done n s k (PutClose octets c) other = other_left n s k k.conn other
other_done n s k Up other = refl
other_done n s k (Close c) other = other_left n s k k.conn other
other_done n s k NoStep other = refl

other_ended : (n : List ℕ) (s : State) (k : Peer) (o : Option End) → k.name ≢ n → peer_of (ends_as s k o).state n ≡ peer_of s n
other_ended n s k None other = find_mapped n (found_empty k) s.peers other
other_ended n s k (Some ending) other =
    let t = with_peer k s in
    let e = Ended s.clock ending in
    other_done n (with_peer (told e k) t) (told e k) (step_of t k e) other
    ∙ find_mapped n (told e k) t.peers other
    ∙ find_mapped n k s.peers other

-- Who has the name has the frames that were put.
own_ended : (n : List ℕ) (s : State) (k : Peer) (o : Option End) → k.name ≡ n → HaveFrames n k.frames (ends_as s k o).state
own_ended n s k None own = frames_put n k.frames (found_empty k) s.peers own refl
own_ended n s k (Some ending) own =
    let t = with_peer k s in
    let e = Ended s.clock ending in
    does_frames n k.frames (with_peer (told e k) t) (told e k) (step_of t k e) (frames_put n k.frames (told e k) t.peers own refl)

-- ---- the outboxes

-- Beyond some frames a peer has new ones, which stand together in what was written.
pub record HasNew (n : List ℕ) (F : List (List ℕ)) (said : List Said) (j : Peer) : Type 0 where
  pub new : List (List ℕ)
  pub frames : j.frames ≡ F ++ new
  pub head : List Said
  pub tail : List Said
  pub text : said ≡ head ++ frame_lines n new ++ tail

abbrev pub WritesNew : List ℕ → List (List ℕ) → ScriptOutcome → Type 0
WritesNew n F o = (j : Peer) → peer_of o.state n ≡ Some j → HasNew n F o.said j

-- what is written behind changes nothing
behind_new : (n : List ℕ) (F : List (List ℕ)) (said more : List Said) (j : Peer) → HasNew n F said j → HasNew n F (said ++ more) j
behind_new n F said more j h = record {
  new = h.new;
  frames = h.frames;
  head = h.head;
  tail = h.tail ++ more;
  text =
      ap (λ (l : List Said). l ++ more) h.text ∙ append_assoc (h.head ++ frame_lines n h.new) h.tail more;
}

emptied_new : (n : List ℕ) (F : List (List ℕ)) (o : ScriptOutcome) (k : Peer) (c : ℕ) → HasFrames n F k → WritesNew n F o
    → WritesNew n F (record { state = (empties o.state k c).state; said = o.said ++ (empties o.state k c).said })
emptied_new n F o k c has h = by (is_named n k) refl
  where
    frames : List (List ℕ)
    frames = unwritten o.state k c

    last : ScriptOutcome
    last = ends_as o.state (given_frames frames k) (ended o.state.history c)

    by : (b : Bool) → is_named n k ≡ b → WritesNew n F (record { state = last.state; said = o.said ++ (frame_lines k.name frames ++ last.said) })
    by true is =
        let own : k.name ≡ n = same_name k.name n is in
        λ j found. record {
          new = frames;
          frames = found_frames n n (k.frames ++ frames) j last.state.peers (own_ended n o.state (given_frames frames k) (ended o.state.history c) own) found
              (found_name n j last.state.peers found) ∙ ap (λ (l : List (List ℕ)). l ++ frames) (has own);
          head = o.said;
          tail = last.said;
          text = sym (append_assoc o.said (frame_lines k.name frames) last.said) ∙ ap (λ (m : List ℕ). o.said ++ frame_lines m frames ++ last.said) own;
        }
    by false is =
        let other : k.name ≢ n = λ e. true≢false (sym (name_same k.name n e) ∙ is) in
        λ j found. behind_new n F o.said (frame_lines k.name frames ++ last.said) j (h j (sym (other_ended n o.state (given_frames frames k) (ended o.state.history c) other) ∙ found))

either_new : (n : List ℕ) (F : List (List ℕ)) (b : Bool) (x y : ScriptOutcome) → WritesNew n F x → WritesNew n F y → WritesNew n F (cond b x y)
either_new n F true x y f g = f
either_new n F false x y f g = g

all_emptied_new : (n : List ℕ) (F : List (List ℕ)) (xs : List OnConnection) (o : ScriptOutcome) → AllByRecursion (λ (x : OnConnection). HasFrames n F x.peer) xs → WritesNew n F o
    → WritesNew n F (fold emptied_one o xs)
all_emptied_new n F [] o has h = h
all_emptied_new n F (x ∷ xs) o has h =
    all_emptied_new n F xs (emptied_one o x) has.1
    (either_new n F (is_emptied o.state x.peer x.conn) (record { state = (empties o.state x.peer x.conn).state; said = o.said ++ (empties o.state x.peer x.conn).said }) o
    (emptied_new n F o x.peer x.conn has.0 h) h)

on_frames : (n : List ℕ) (F : List (List ℕ)) (c : ℕ) (ks : List Peer) → AllByRecursion (HasFrames n F) ks
    → AllByRecursion (λ (x : OnConnection). HasFrames n F x.peer) (map (λ (k : Peer). record { conn = c; peer = k }) (filter (has_joined_as c) ks))
on_frames n F c [] h = tt
on_frames n F c (k ∷ ks) h = by (has_joined_as c k) (on_frames n F c ks h.1)
  where
    all : List Peer → Type 0
    all js = AllByRecursion (λ (x : OnConnection). HasFrames n F x.peer) (map (λ (j : Peer). record { conn = c; peer = j }) js)

    by : (b : Bool) → all (filter (has_joined_as c) ks) → all (cond b (k ∷ filter (has_joined_as c) ks) (filter (has_joined_as c) ks))
    by true rest = (h.0, rest)
    by false rest = rest

in_order_frames : (n : List ℕ) (F : List (List ℕ)) (xs : List Connection) (ks : List Peer) → AllByRecursion (HasFrames n F) ks
    → AllByRecursion (λ (x : OnConnection). HasFrames n F x.peer) (flat_map (λ (x : Connection). map (λ (k : Peer). record { conn = x.number; peer = k }) (filter (has_joined_as x.number) ks)) xs)
in_order_frames n F [] ks h = tt
in_order_frames n F (x ∷ xs) ks h =
    all-push (λ (y : OnConnection). HasFrames n F y.peer) (map (λ (k : Peer). record { conn = x.number; peer = k }) (filter (has_joined_as x.number) ks))
    (flat_map (λ (y : Connection). map (λ (k : Peer). record { conn = y.number; peer = k }) (filter (has_joined_as y.number) ks)) xs)
    (on_frames n F x.number ks h) (in_order_frames n F xs ks h)

-- Before the outboxes are emptied nothing is new.
none_new : (n : List ℕ) (F : List (List ℕ)) (o : ScriptOutcome) → HaveFrames n F o.state → WritesNew n F o
none_new n F o h = λ j found. record {
  new = [];
  frames = found_frames n n F j o.state.peers h found (found_name n j o.state.peers found) ∙ sym (append-nil F);
  head = o.said;
  tail = [];
  text = sym (append-nil o.said) ∙ sym (append-nil (o.said ++ []));
}

all_new : (n : List ℕ) (F : List (List ℕ)) (o : ScriptOutcome) → HaveFrames n F o.state → WritesNew n F (emptied o)
all_new n F o h = all_emptied_new n F (in_order_of_joining o.state) o (in_order_frames n F (unleft o.state.history) o.state.peers h) (none_new n F o h)

-- ---- a line

are_written : (n : List ℕ) (k j : Peer) (said : List Said) → j.name ≡ n → HasNew n k.frames said j → AreWritten k j said
are_written n k j said name h =
    let new : drop (length k.frames) j.frames ≡ h.new = ap (drop (length k.frames)) h.frames ∙ drop-front k.frames h.new in
    (h.head, h.tail, h.text ∙ ap (λ (m : List ℕ). h.head ++ frame_lines m h.new ++ h.tail) (sym name) ∙ ap (λ (l : List (List ℕ)). h.head ++ frame_lines j.name l ++ h.tail) (sym new))

pub line_written : (s : State) → Apart name_of s.peers → (line : Line) (o : ScriptOutcome) → run_line s line ≡ Some o → (name : List ℕ) (k j : Peer) → peer_of s name ≡ Some k
    → peer_of o.state name ≡ Some j → AreWritten k j o.said
unfolding run_line
line_written s apart line o e name k j before after =
    let u = then_emptied (line_outcome s line) o e in
    let have : HaveFrames name k.frames s = alone_frames name k s.peers (alone_in name k s.peers apart before) in
    let new : WritesNew name k.frames o = subst (WritesNew name k.frames) u.2 (all_new name k.frames u.0 (outcome_frames name k s line u.0 before have u.1)) in
    are_written name k j o.said (found_name name j o.state.peers after) (new j after)
