-- What a line does keeps a state sound, before the outboxes are emptied.
-- It serves the clauses of `a_line_goes_on` and `a_script_is_of_one_hub`.
use Rattle.std.proofs.Common.{◌≡◌, ◌≢◌, inl, inr, ℕ, nat_le, nat_lt, Bool, true, false, not, ◌&&◌, cond, List, [], ◌∷◌, codes, fold, length, Option, Some, None, refl, ap, sym, ◌∙◌, subst}
use Rattle.std.proofs.lemmas.Bool.{and_from, leb-false, lt-ltb}
use Rattle.bsc_octets.specs.declared.identity.Identity.{Identity}
use Rattle.bsc_octets.specs.Addresses.{same_vmac, zero_vmac, broadcast}
use Rattle.bsc_octets.specs.Forwarding.{has_route}
use Rattle.bsc_history.specs.declared.call.Call.TheVariants.{Connect, Forward, Stop as StopCall, Count}
use Rattle.bsc_history.specs.declared.reply.Reply.{Reply}
use Rattle.bsc_history.specs.declared.reply.Reply.TheVariants.{Joined, Refused, Appended, Closed, Skipped, NoHolder, SentAll, NotCurrent, Stopped, Gone, Counted}
use Rattle.bsc_history.specs.Counting.{counts}
use Rattle.bsc_history.specs.Entries.{made_by}
use Rattle.bsc_history.specs.Laws.{Apart}
use Rattle.bsc_history.specs.Legality.{is_of, may_call}
use Rattle.bsc_history.specs.Replies.{is_stopped}
use Rattle.bsc_history.proofs.Lists.{In, In_from_all, In_kept}
use Rattle.bsc_checks.specs.declared.place.Place.TheVariants.{HubPort}
use Rattle.bsc_checks.specs.declared.verdict.Verdict.TheVariants.{Pass}
use Rattle.bsc_checks.specs.Outcomes.{outcome_of}
use Rattle.bsc_accept.specs.declared.event.Event.{Event}
use Rattle.bsc_accept.specs.declared.event.Event.TheVariants.{Message as Came, Refused as WasRefused, Tick}
use Rattle.bsc_accept.specs.declared.step.Step.{Step}
use Rattle.bsc_accept.specs.declared.step.Step.TheVariants.{Ask, Put, PutClose, Up, Close, Nothing as NoStep}
use Rattle.bsc_accept.specs.Past.{phase, phase_named, standing}
use Rattle.bsc_script.specs.declared.line.Line.{Line}
use Rattle.bsc_script.specs.declared.line.Line.TheVariants.{Nothing, Hub, Open, In as InLine, Text, Drop, Hold, Free, At, Stop, Counts}
use Rattle.bsc_script.specs.Written.{says}
use Rattle.bsc_lines.specs.Replies.{counts_words, forward_words}
use Rattle.bsc_script.specs.States.{State, Peer, is_named, is_open, new_peer, peer_of, told, with_held, with_opened, with_peer}
use Rattle.bsc_script.specs.Calls.{called, reply_in, is_worn}
use Rattle.bsc_script.specs.Carrying.{ScriptOutcome, quietly, writes, leaves_if, ends, does, step_of, tells}
use Rattle.bsc_script.specs.Receiving.{wears, gets_reply, connects, forwards_if, verdict_on, acts, receives}
use Rattle.bsc_script.specs.Running.{most_names, hub_says, gets_text, holds, latest, ticks_one, stops, says_counts, line_outcome}
use Rattle.bsc_script.specs.Holding.{name_of}
use Rattle.bsc_script.proofs.Peers.{other_name}
use Rattle.bsc_script_laws.proofs.Adding.{accepted, of_name}
use Rattle.bsc_script_laws.proofs.Judged.{asks_for_node, routes}
use Rattle.bsc_script_laws.proofs.Placed.{found_in, placed_in, placed_other}
use Rattle.bsc_script_laws.proofs.Sound.{IsSound}
use Rattle.bsc_script_laws.proofs.SoundSteps.{changed_sound, closed_sound, joined_sound, left_sound, opened_sound, quiet_sound, told_sound}
use Rattle.bsc_accept.proofs.Common.{asks_by, carries_by}
use Rattle.std.proofs.lemmas.Option.{same_Some as same_some}

-- ---- a WebSocket that closes, and the steps

leaving_sound : (s : State) → IsSound s → (k : Peer) → In k s.peers → (o : Option ℕ) → k.conn ≡ o → IsSound (leaves_if s k o).state
leaving_sound s h k m None is = closed_sound s h k m is
leaving_sound s h k m (Some c) is = left_sound s h k c m is

pub ends_sound : (s : State) → IsSound s → (k : Peer) → In k s.peers → IsSound (ends s k).state
ends_sound s h k m = leaving_sound s h k m k.conn refl

pub does_sound : (s : State) → IsSound s → (k : Peer) → In k s.peers → (x : Step) → IsSound (does s k x).state
does_sound s h k m (Ask who) = h
does_sound s h k m (Put octets) = h
does_sound s h k m (PutClose octets c) = ends_sound s h k m
does_sound s h k m Up = h
does_sound s h k m (Close c) = ends_sound s h k m
does_sound s h k m NoStep = h

pub tells_sound : (s : State) → IsSound s → (k : Peer) (e : Event) → In k s.peers → IsSound (tells s k e).state
tells_sound s h k e m = does_sound (with_peer (told e k) s) (told_sound s h k e m) (told e k) (placed_in (told e k) k s.peers m refl) (step_of s k e)

-- ---- a message

-- fewer calls are made than may be, where the hub isn't worn
unworn : (s : State) → is_worn s ≡ false → nat_lt (length s.history) s.about.limits.calls ≡ true
unworn s w = lt-ltb (length s.history) s.about.limits.calls (leb-false s.about.limits.calls (length s.history) w)

replied_sound : (s : State) → IsSound s → (k : Peer) (who : Identity) → In k s.peers → k.conn ≡ None → may_call s.about s.history 0 (Connect who) ≡ true
    → (r : Reply) → reply_in s (Connect who) ≡ r → IsSound (gets_reply (called s (Connect who)) k r).state
replied_sound s h k who m free may (Joined conn replaced) is = joined_sound s h k who conn replaced m free may is
replied_sound s h k who m free may (Refused refusal) is = tells_sound (called s (Connect who)) (quiet_sound s h (Connect who) may (ap (made_by 0 (Connect who)) is) (λ c. refl)) k
    (WasRefused refusal) m
replied_sound s h k who m free may (Appended conn) is = quiet_sound s h (Connect who) may (ap (made_by 0 (Connect who)) is) (λ c. refl)
replied_sound s h k who m free may (Closed conn) is = quiet_sound s h (Connect who) may (ap (made_by 0 (Connect who)) is) (λ c. refl)
replied_sound s h k who m free may (Skipped conn) is = quiet_sound s h (Connect who) may (ap (made_by 0 (Connect who)) is) (λ c. refl)
replied_sound s h k who m free may NoHolder is = quiet_sound s h (Connect who) may (ap (made_by 0 (Connect who)) is) (λ c. refl)
replied_sound s h k who m free may (SentAll to missed skipped) is = quiet_sound s h (Connect who) may (ap (made_by 0 (Connect who)) is) (λ c. refl)
replied_sound s h k who m free may (NotCurrent ending) is = quiet_sound s h (Connect who) may (ap (made_by 0 (Connect who)) is) (λ c. refl)
replied_sound s h k who m free may Stopped is = quiet_sound s h (Connect who) may (ap (made_by 0 (Connect who)) is) (λ c. refl)
replied_sound s h k who m free may (Gone ending taken) is = quiet_sound s h (Connect who) may (ap (made_by 0 (Connect who)) is) (λ c. refl)
replied_sound s h k who m free may (Counted k2) is = quiet_sound s h (Connect who) may (ap (made_by 0 (Connect who)) is) (λ c. refl)

connects_sound : (s : State) → IsSound s → (k : Peer) (who : Identity) → In k s.peers → k.conn ≡ None → same_vmac who.vmac zero_vmac ≡ false → same_vmac who.vmac broadcast ≡ false
    → IsSound (connects s k who).state
connects_sound s h k who m free zero all = by (is_worn s) refl
  where
    by : (b : Bool) → is_worn s ≡ b → IsSound (cond b (wears s k) (gets_reply (called s (Connect who)) k (reply_in s (Connect who)))).state
    by true w = ends_sound s h k m
    by false w =
        let named = and_from (not (same_vmac who.vmac zero_vmac)) (not (same_vmac who.vmac broadcast)) (ap not zero) (ap not all) in
        replied_sound s h k who m free (and_from (not (same_vmac who.vmac zero_vmac) && not (same_vmac who.vmac broadcast)) (nat_lt (length s.history) s.about.limits.calls) named
        (unworn s w)) (reply_in s (Connect who)) refl

forwards_sound : (s : State) → IsSound s → (k : Peer) (m : List ℕ) → In k s.peers → has_route m ≡ true → (o : Option ℕ) → k.conn ≡ o → IsSound (forwards_if s k o m).state
forwards_sound s h k m i route None is = h
forwards_sound s h k m i route (Some c) is = by (is_worn s) refl
  where
    by : (b : Bool) → is_worn s ≡ b → IsSound (cond b (wears s k) (writes (says k.name (forward_words (reply_in s (Forward c m)))) (quietly (called s (Forward c m))))).state
    by true w = ends_sound s h k i
    by false w =
        let own = and_from (is_of s.history 0 c) (has_route m) ((h.peers k i).own c is) route in
        quiet_sound s h (Forward c m) (and_from (is_of s.history 0 c && has_route m) (nat_lt (length s.history) s.about.limits.calls) own (unworn s w)) refl (λ d. refl)

receives_sound : (s : State) → IsSound s → (k : Peer) (m : List ℕ) → In k s.peers → IsSound (receives s k m).state
receives_sound s h k m i = by (step_of s k e) refl
  where
    e : Event
    e = Came s.clock (verdict_on s k m)

    j : Peer
    j = told e k

    t : State
    t = with_peer j s

    sound : IsSound t
    sound = told_sound s h k e i

    here : In j t.peers
    here = placed_in j k s.peers i refl

    by : (x : Step) → step_of s k e ≡ x → IsSound (acts t j m x).state
    by (Ask who) is =
        let a = asks_by (standing k.events) (verdict_on s k m) who (sym is) in
        let awaits = ap phase_named a.2 in
        let passes : outcome_of m (HubPort (phase_named (standing k.events))) s.about.hub.max_bvlc ≡ Pass a.0 = a.1 in
        let node = asks_for_node m s.about.hub.max_bvlc a.0 who (ap (λ p. outcome_of m (HubPort p) s.about.hub.max_bvlc) (sym awaits) ∙ passes) a.3 in
        connects_sound t sound j who here ((h.peers k i).waits awaits) node.0 node.1
    by Up is =
        let a = carries_by (standing k.events) (verdict_on s k m) (sym is) in
        forwards_sound t sound j m here (routes m (phase k.events) s.about.hub.max_bvlc a.0 a.1) j.conn refl
    by (Put octets) is = does_sound t sound j here (Put octets)
    by (PutClose octets c) is = does_sound t sound j here (PutClose octets c)
    by (Close c) is = does_sound t sound j here (Close c)
    by NoStep is = does_sound t sound j here NoStep

-- ---- the clock

-- who has another name is there still, whatever the machine of a peer is told
leaving_stays : (s : State) (k q : Peer) (o : Option ℕ) → In q s.peers → is_named k.name q ≡ false → In q (leaves_if s k o).state.peers
leaving_stays s k q None m isnt = In_kept (λ p. not (is_named k.name p)) q s.peers m (ap not isnt)
leaving_stays s k q (Some c) m isnt = In_kept (λ p. not (is_named k.name p)) q s.peers m (ap not isnt)

does_stays : (s : State) (k q : Peer) (x : Step) → In q s.peers → is_named k.name q ≡ false → In q (does s k x).state.peers
does_stays s k q (Ask who) m isnt = m
does_stays s k q (Put octets) m isnt = m
does_stays s k q (PutClose octets c) m isnt = leaving_stays s k q k.conn m isnt
does_stays s k q Up m isnt = m
does_stays s k q (Close c) m isnt = leaving_stays s k q k.conn m isnt
does_stays s k q NoStep m isnt = m

pub tells_stays : (s : State) (k q : Peer) (e : Event) → In q s.peers → is_named k.name q ≡ false → In q (tells s k e).state.peers
tells_stays s k q e m isnt = does_stays (with_peer (told e k) s) (told e k) q (step_of s k e) (placed_other (told e k) q s.peers m isnt) isnt

ticks_sound : (ks : List Peer) (o : ScriptOutcome) → IsSound o.state → Apart name_of ks → ((k : Peer) → In k ks → In k o.state.peers) → IsSound (fold ticks_one o ks).state
ticks_sound [] o h apart there = h
ticks_sound (k ∷ ks) o h apart there =
    let e = Tick o.state.clock in
    ticks_sound ks (ticks_one o k) (tells_sound o.state h k e (there k (inl refl))) apart.1
    (λ q m. tells_stays o.state k q e (there q (inr m)) (other_name q.name k.name (λ same. In_from_all (λ p. name_of k ≢ name_of p) q ks apart.0 m (sym same))))

at_time : (s : State) (ms : ℕ) → IsSound s → IsSound (record s { clock = ms })
at_time s ms h = record { legal = h.legal; apart = h.apart; peers = h.peers; conns = h.conns; joined = h.joined }

-- ---- a line

as_sound : (x o : ScriptOutcome) → x ≡ o → IsSound x.state → IsSound o.state
as_sound x o e h = subst (λ (u : ScriptOutcome). IsSound u.state) e h

held_sound : (s : State) → IsSound s → (k : Peer) (held : Bool) → In k s.peers → IsSound (with_peer (with_held held k) s)
held_sound s h k held m =
    let p = h.peers k m in
    changed_sound s h k (with_held held k) m refl refl (record { own = p.own; begins = p.begins; behind = p.behind; waits = p.waits; none = p.none })

opening_sound : (s : State) → IsSound s → (name : List ℕ) (o : ScriptOutcome) (b : Bool) → is_open s name ≡ b
    → cond (not b && nat_lt (length s.peers) most_names) (Some (quietly (with_opened (new_peer name s.clock) s))) None ≡ Some o → IsSound o.state
opening_sound s h name o true is e = cc
opening_sound s h name o false is e =
    let x = quietly (with_opened (new_peer name s.clock) s) in
    as_sound x o (accepted (nat_lt (length s.peers) most_names) x o e) (opened_sound s h name is)

stops_sound : (s : State) → IsSound s → IsSound (stops s).state
stops_sound s h = by (is_stopped s.history) refl
  where
    by : (b : Bool) → is_stopped s.history ≡ b → IsSound (cond b (writes (hub_says (codes "stopped already")) (quietly s))
        (writes (hub_says (counts_words (counts s.history))) (quietly (called s StopCall)))).state
    by true is = h
    by false is = quiet_sound s h StopCall (ap not is) refl (λ c. refl)

says_counts_sound : (s : State) → IsSound s → IsSound (says_counts s).state
says_counts_sound s h = by (is_worn s) refl
  where
    by : (b : Bool) → is_worn s ≡ b → IsSound (cond b (writes (hub_says (codes "worn")) (quietly s)) (writes (hub_says (counts_words (counts s.history))) (quietly (called s Count)))).state
    by true is = h
    by false is = quiet_sound s h Count (unworn s is) refl (λ c. refl)

pub outcome_sound : (s : State) → IsSound s → (line : Line) (o : ScriptOutcome) → line_outcome s line ≡ Some o → IsSound o.state
outcome_sound s h Nothing o e = as_sound (quietly s) o (same_some (quietly s) o e) h
outcome_sound s h (Hub about) o e = cc
outcome_sound s h (Open name) o e = opening_sound s h name o (is_open s name) refl e
outcome_sound s h (InLine name m) o e =
    let n = of_name (λ k. receives s k m) (peer_of s name) o e in
    as_sound (receives s n.0 m) o n.2 (receives_sound s h n.0 m (found_in (is_named name) s.peers n.0 n.1))
outcome_sound s h (Text name) o e =
    let n = of_name (gets_text s) (peer_of s name) o e in
    as_sound (gets_text s n.0) o n.2 (ends_sound s h n.0 (found_in (is_named name) s.peers n.0 n.1))
outcome_sound s h (Drop name) o e =
    let n = of_name (ends s) (peer_of s name) o e in
    as_sound (ends s n.0) o n.2 (ends_sound s h n.0 (found_in (is_named name) s.peers n.0 n.1))
outcome_sound s h (Hold name) o e =
    let n = of_name (λ k. holds s k true) (peer_of s name) o e in
    as_sound (holds s n.0 true) o n.2 (held_sound s h n.0 true (found_in (is_named name) s.peers n.0 n.1))
outcome_sound s h (Free name) o e =
    let n = of_name (λ k. holds s k false) (peer_of s name) o e in
    as_sound (holds s n.0 false) o n.2 (held_sound s h n.0 false (found_in (is_named name) s.peers n.0 n.1))
outcome_sound s h (At ms) o e =
    let b = quietly (record s { clock = ms }) in
    let x = fold ticks_one b s.peers in
    as_sound x o (accepted (nat_le s.clock ms && nat_le ms latest) x o e) (ticks_sound s.peers b (at_time s ms h) h.apart (λ k m. m))
outcome_sound s h Stop o e = as_sound (stops s) o (same_some (stops s) o e) (stops_sound s h)
outcome_sound s h Counts o e = as_sound (says_counts s) o (same_some (says_counts s) o e) (says_counts_sound s h)
