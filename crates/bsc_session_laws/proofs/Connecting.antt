-- Who a session's Connects are for are those who asked to connect, of whom there is one at most.
-- It serves the clauses of `connects_are_asked`, `forwards_are_carried` and `policy_is_followed`.
use Rattle.std.proofs.Common.{◌≡◌, ◌⊎◌, inl, inr, ℕ, ◌≤◌, Bool, true, false, cond, ◌&&◌, List, [], ◌∷◌, ◌++◌, length, Option, Some, None, Result, Ok, Err, is_some, option_to_list}
use Rattle.std.proofs.Common.{refl, ap, sym, ◌∙◌, subst, lit≤, append-nil}
use Rattle.std.specs.Prelude.{if◌then◌else◌, is_none}
use Rattle.std.proofs.lemmas.Grind.{flat_map-append}
use Rattle.bsc_octets.specs.declared.identity.Identity.{Identity}
use Rattle.bsc_policy.specs.declared.policy.Policy.{Policy}
use Rattle.bsc_policy.specs.Decisions.{is_admitted}
use Rattle.bsc_lines.specs.declared.denial.Denial.{Denial}
use Rattle.bsc_lines.specs.declared.denial.Denial.TheVariants.{OfConnect}
use Rattle.bsc_frame.specs.declared.message.Message.{Message as Bvlc}
use Rattle.bsc_history.specs.declared.ending.End.{End}
use Rattle.bsc_history.specs.declared.entry.Entry.{Entry}
use Rattle.bsc_history.specs.declared.looks.Look.{Look}
use Rattle.bsc_history.specs.declared.reply.Reply.{Reply}
use Rattle.bsc_checks.specs.declared.phase.Phase.TheVariants.{AwaitingRequest}
use Rattle.bsc_checks.specs.declared.verdict.Verdict.{Verdict}
use Rattle.bsc_checks.specs.declared.verdict.Verdict.TheVariants.{Pass, Carry as Carried, Silent, Nak}
use Rattle.bsc_edge.specs.declared.fault.LinkFault.{LinkFault}
use Rattle.bsc_edge.specs.declared.fault.LinkFault.TheVariants.{NoMemory}
use Rattle.bsc_edge.specs.declared.incoming.Incoming.{Incoming}
use Rattle.bsc_edge.specs.declared.incoming.Incoming.TheVariants.{Closed, Message, Quiet, Text}
use Rattle.bsc_edge.specs.declared.said.Said.{Said}
use Rattle.bsc_accept.specs.declared.step.Step.{Step}
use Rattle.bsc_accept.specs.declared.step.Step.TheVariants.{Ask, Put, PutClose, Up, Close, Nothing}
use Rattle.bsc_accept.specs.Messages.{is_farewell_answer, who_asks}
use Rattle.bsc_accept.specs.Past.{Standing as MachineStanding, awaiting_request, connected as connected_now, disconnecting, phase, phase_named, standing}
use Rattle.bsc_accept.specs.Steps.{ask_step, message_step, normal, passed_step}
use Rattle.bsc_port.specs.Guarding.{denied_connect}
use Rattle.bsc_session.specs.declared.ended.Ended.{Ended}
use Rattle.bsc_session.specs.declared.stop.Stop.{Stop}
use Rattle.bsc_session.specs.Answering.{IsHearing, called, calls_hub, denied_in, entries_hearing, forwarded_by, stop_hearing, stop_message}
use Rattle.bsc_session.specs.Causes.{answer_in, judged_in}
use Rattle.bsc_session.specs.Course.{EachTurn, TurnGoesOn, all_turns, and_last, entries_of, shares}
use Rattle.bsc_session.specs.Judging.{verdict_on}
use Rattle.bsc_session.specs.Receiving.{Answer, replies, worn, no_memory, Hearing}
use Rattle.bsc_session.specs.Standings.{Standing, Terms, begun}
use Rattle.bsc_session.specs.Stops.{stop_at}
use Rattle.bsc_session.specs.Taking.{opened, stop_before}
use Rattle.bsc_session.specs.Talk.{Session, leaving}
use Rattle.bsc_session.specs.Turns.{IsHearingIf, IsTurn, Turn, after, entries_after, entries_in, said_in, stop_after}
use Rattle.bsc_session_laws.specs.Laws.{AreAllBut, ConnectsAreAsked, IsTurnedAway, IsUnconnected, IsUnconnectedBy}
use Rattle.bsc_session_laws.specs.Messages.{asked, asked_by, connected, connected_in, message_after, message_by, message_in, messages_of}
use Rattle.bsc_session.proofs.EndingAtFault.{first_none}
use Rattle.bsc_session_laws.proofs.Courses.{all_as, all_but, mapped_shares}
use Rattle.bsc_session_laws.proofs.Forwarding.{Lacks, lacks_last, lacks_none, lost_or}
use Rattle.bsc_session_laws.proofs.Turning.{Joins, Waits, at, hearing, in_asks_none, is_in, stays_in, tied_begun, turn_goes}
use Rattle.bsc_session_laws.proofs.Verdicts.{asked_awaiting}
use Rattle.bsc_accept.proofs.Common.{asked_so, connected_asks as not_asked_connected}

-- why a Connect may be lacking: the hub made no entry, there was no memory to judge, or the policy doesn't admit who asks
abbrev NoConnect : Option Policy → Option Answer → Bool → Identity → Type 0
NoConnect policy answer judged who = (((answer ≡ Some worn) ⊎ (answer ≡ Some no_memory)) ⊎ (judged ≡ false)) ⊎ IsTurnedAway policy who

not_admitted : (b : Bool) (a d : Denial) → (if b then None else Some a) ≡ Some d → b ≡ false
not_admitted true a d is = cc
not_admitted false a d is = refl

-- who is denied a connect isn't admitted
pub turned_away : (policy : Option Policy) (who : Identity) (d : Denial) → denied_connect policy who ≡ Some d → IsTurnedAway policy who
turned_away None who d is = cc
turned_away (Some p) who d is = (p, refl, not_admitted (is_admitted p.members.items who) (OfConnect who.vmac) d is)

-- ---- a hearing

forwards_connect_none : (v : Terms) (c : Option ℕ) (m : List ℕ) (looks : List Look) (reply : Reply) → connected (forwarded_by v c m looks reply) ≡ []
forwards_connect_none v None m looks reply = refl
forwards_connect_none v (Some c) m looks reply = refl

-- a step that doesn't ask makes no Connect
no_connect : (v : Terms) (s : Standing) (st : Step) (m : List ℕ) (answer : Option Answer) → ((who : Identity) → st ≡ Ask who → ⊥) → connected (called v s st (Ok (Message m)) answer) ≡ []
no_connect v s (Ask who) m answer isnt = absurd (isnt who refl)
no_connect v s (Put octets) m answer isnt = refl
no_connect v s (PutClose octets c) m answer isnt = refl
no_connect v s Up m None isnt = refl
no_connect v s Up m (Some worn) isnt = refl
no_connect v s Up m (Some no_memory) isnt = refl
no_connect v s Up m (Some (replies place looks reply)) isnt = forwards_connect_none v s.conn m looks reply
no_connect v s (Close c) m answer isnt = refl
no_connect v s Nothing m answer isnt = refl

pub not_asked_parting : (b : Bool) (who : Identity) → cond b (Close normal) Nothing ≡ Ask who → ⊥
not_asked_parting true who e = cc
not_asked_parting false who e = cc

-- who isn't said to ask doesn't
pub passed_asks : (g : MachineStanding) (msg : Bvlc) (who : Identity) → passed_step g msg ≡ Ask who → who_asks msg.body ≡ Some who
passed_asks awaiting_request msg who e = asked_so (who_asks msg.body) who e
passed_asks connected_now msg who e = absurd (not_asked_connected msg.id msg.body who e)
passed_asks (disconnecting f) msg who e = absurd (not_asked_parting (is_farewell_answer f.id msg) who e)

awaiting_named : (g : MachineStanding) → phase_named g ≡ AwaitingRequest → g ≡ awaiting_request
awaiting_named awaiting_request h = refl
awaiting_named connected_now h = cc
awaiting_named (disconnecting f) h = cc

-- a Connect is made for who asks, where nothing is denied and the hub makes an entry
asked_made : (v : Terms) (s x : Standing) (m : List ℕ) (who : Identity) (d : Option Denial) (answer : Option Answer) (lost fault : Option LinkFault) → denied_connect v.policy who ≡ d
    → is_some answer ≡ is_none d && true
    → Lacks (NoConnect v.policy answer true) (stop_message v x (Ask who) d answer lost fault) (who ∷ []) (connected (called v s (Ask who) (Ok (Message m)) answer))
asked_made v s x m who (Some d) None lost fault is h = inr (who, inr (turned_away v.policy who d is), lost_or lost _ (λ e. cc), refl, refl)
asked_made v s x m who (Some d) (Some a) lost fault is h = cc
asked_made v s x m who None None lost fault is h = cc
asked_made v s x m who None (Some (replies place looks reply)) lost fault is h = inl refl
asked_made v s x m who None (Some worn) lost fault is h = inr (who, inl (inl (inl refl)), lost_or lost _ (λ e. cc), refl, refl)
asked_made v s x m who None (Some no_memory) lost fault is h = inr (who, inl (inl (inr refl)), lost_or lost _ (λ e. cc), refl, refl)

passed_connects : (v : Terms) (s x : Standing) (m : List ℕ) (answer : Option Answer) (lost fault : Option LinkFault) (msg : Bvlc) (o : Option Identity) → who_asks msg.body ≡ o
    → ((who : Identity) → o ≡ Some who → standing s.events ≡ awaiting_request)
    → is_some answer ≡ calls_hub v s (passed_step (standing s.events) msg) (Ok (Message m))
    → Lacks (NoConnect v.policy answer true) (stop_message v x (passed_step (standing s.events) msg) (denied_in v s (passed_step (standing s.events) msg) (Ok (Message m))) answer lost fault)
    (option_to_list o ++ []) (connected (called v s (passed_step (standing s.events) msg) (Ok (Message m)) answer))
passed_connects v s x m answer lost fault msg None is at_first calls =
    inl (sym (no_connect v s (passed_step (standing s.events) msg) m answer (λ who e. (let isnt : None ≡ Some who = sym is ∙ passed_asks (standing s.events) msg who e in cc))))
passed_connects v s x m answer lost fault msg (Some who) is at_first calls =
    let asks : passed_step (standing s.events) msg ≡ Ask who = ap (λ g. passed_step g msg) (at_first who refl) ∙ ap ask_step is in
    subst
    (λ (st : Step). Lacks (NoConnect v.policy answer true) (stop_message v x st (denied_in v s st (Ok (Message m))) answer lost fault) (who ∷ [])
    (connected (called v s st (Ok (Message m)) answer))) (sym asks)
    (asked_made v s x m who (denied_connect v.policy who) answer lost fault refl (calls ∙ ap (λ (st : Step). calls_hub v s st (Ok (Message m))) asks))

verdict_connects : (v : Terms) (s x : Standing) (m : List ℕ) (answer : Option Answer) (lost fault : Option LinkFault) (w : Verdict) → verdict_on v s m ≡ w
    → is_some answer ≡ calls_hub v s (message_step (standing s.events) w) (Ok (Message m))
    → Lacks (NoConnect v.policy answer true) (stop_message v x (message_step (standing s.events) w) (denied_in v s (message_step (standing s.events) w) (Ok (Message m))) answer lost fault)
    (asked_by w ++ []) (connected (called v s (message_step (standing s.events) w) (Ok (Message m)) answer))
verdict_connects v s x m answer lost fault (Pass msg) is calls =
    passed_connects v s x m answer lost fault msg (who_asks msg.body) refl (λ who asks. awaiting_named (standing s.events) (asked_awaiting m (phase s.events) v.hub.max_bvlc msg who is asks)) calls
verdict_connects v s x m answer lost fault (Carried envelope) is calls = inl (sym (no_connect v s Up m answer (λ who e. cc)))
verdict_connects v s x m answer lost fault (Silent check) is calls = inl refl
verdict_connects v s x m answer lost fault (Nak check octets) is calls = inl refl

-- a message that asks, and for the judging of which memory was wanting
unjudged : (policy : Option Policy) (answer : Option Answer) (stop : Stop) (msg : Bvlc) (o : Option Identity) → Lacks (NoConnect policy answer false) (Some stop) (option_to_list o ++ []) []
unjudged policy answer stop msg None = inl refl
unjudged policy answer stop msg (Some who) = inr (who, inl (inr refl), (λ e. cc), refl, refl)

hearing_connects : (v : Terms) (s : Standing) (now : ℕ) (given : Result Incoming LinkFault) (judged : Bool) (answer : Option Answer) (lost fault : Option LinkFault)
    → IsHearing v s now (hearing given judged answer lost fault)
    → Lacks (NoConnect v.policy answer judged) (stop_hearing v s now (hearing given judged answer lost fault)) (asked (message_by v s given))
    (connected (entries_hearing v s now (hearing given judged answer lost fault)))
hearing_connects v s now (Err f) true answer lost fault is = inl refl
hearing_connects v s now (Err f) false answer lost fault is = inl refl
hearing_connects v s now (Ok Closed) true answer lost fault is = inl refl
hearing_connects v s now (Ok Closed) false answer lost fault is = inl refl
hearing_connects v s now (Ok Text) true answer lost fault is = inl refl
hearing_connects v s now (Ok Text) false answer lost fault is = inl refl
hearing_connects v s now (Ok Quiet) true answer lost fault is = inl refl
hearing_connects v s now (Ok Quiet) false answer lost fault is = inl refl
hearing_connects v s now (Ok (Message m)) false answer lost fault is =
    subst (λ (w : Verdict). Lacks (NoConnect v.policy answer false) (Some (stop_at NoMemory)) (asked_by w ++ []) []) (sym is.memory.1)
    (unjudged v.policy answer (stop_at NoMemory) is.memory.0 (who_asks is.memory.0.body))
hearing_connects v s now (Ok (Message m)) true answer lost fault is = verdict_connects v s (at s now (verdict_on v s m)) m answer lost fault (verdict_on v s m) refl is.calls

-- ---- a turn

turn_connects : (v : Terms) (s : Standing) (t : Turn) → IsTurn v s t
    → Lacks (IsUnconnectedBy v.policy (Some t)) (stop_after v (opened s t.opening) t.opening.reading t.hearing) (asked (message_in v s t)) (connected (entries_in v s t))
turn_connects v s t is = by t.hearing is.hearing
  where
    by : (h : Option Hearing) → IsHearingIf v (opened s t.opening) t.opening.reading h
        → Lacks (NoConnect v.policy (answer_in h) (judged_in h)) (stop_after v (opened s t.opening) t.opening.reading h) (asked (message_after v (opened s t.opening) h))
        (connected (entries_after v (opened s t.opening) t.opening.reading h))
    by None heard = inl refl
    by (Some h) heard = hearing_connects v (opened s t.opening) t.opening.reading h.given h.judged h.answer h.lost h.fault heard

-- ---- one at most

few_asked : (o : Option Identity) → length (option_to_list o ++ []) ≤ 1
few_asked None = lit≤ tt
few_asked (Some who) = lit≤ tt

few_by : (w : Verdict) → length (asked_by w ++ []) ≤ 1
few_by (Pass msg) = few_asked (who_asks msg.body)
few_by (Carried envelope) = lit≤ tt
few_by (Silent check) = lit≤ tt
few_by (Nak check octets) = lit≤ tt

few_given : (v : Terms) (s : Standing) (given : Result Incoming LinkFault) → length (asked (message_by v s given)) ≤ 1
few_given v s (Ok (Message m)) = few_by (verdict_on v s m)
few_given v s (Ok Closed) = lit≤ tt
few_given v s (Ok Text) = lit≤ tt
few_given v s (Ok Quiet) = lit≤ tt
few_given v s (Err f) = lit≤ tt

few_in : (v : Terms) (s : Standing) (h : Option Hearing) → length (asked (message_after v s h)) ≤ 1
few_in v s None = lit≤ tt
few_in v s (Some h) = few_given v s h.given

-- who asks by each turn
abbrev Asks : Terms → Standing → Turn → List Identity
Asks v s t = asked (message_in v s t)

none_later : (v : Terms) (s : Standing) (ts : List Turn) → is_in s ≡ true → shares Asks v s ts ≡ []
none_later v s [] h = refl
none_later v s (t ∷ ts) h = ap (λ (l : List Identity). l ++ shares Asks v (after v s t) ts) (in_asks_none v s t h) ∙ none_later v (after v s t) ts (stays_in v s t h)

-- so many and then none
one_then : (xs ys : List Identity) → length xs ≤ 1 → ys ≡ [] → length (xs ++ ys) ≤ 1
one_then xs ys few none = subst (λ (l : List Identity). length l ≤ 1) (sym (ap (λ (l : List Identity). xs ++ l) none ∙ append-nil xs)) few

asks_once : (v : Terms) (s : Standing) (ts : List Turn) (last : Option Turn) → is_in s ≡ false → EachTurn IsTurn v s (and_last ts last) → EachTurn TurnGoesOn v s ts
    → length (shares Asks v s (and_last ts last)) ≤ 1
asks_once v s [] None out is on = lit≤ tt
asks_once v s [] (Some t) out is on = one_then (Asks v s t) [] (few_in v (opened s t.opening) t.hearing) refl
asks_once v s (t ∷ ts) last out is on = by last is (turn_goes v s t out (first_is last is) on.0) (λ l e f. asks_once v (after v s t) ts l f (later_are l e) on.1)
  where
    first_is : (l : Option Turn) → EachTurn IsTurn v s (and_last (t ∷ ts) l) → IsTurn v s t
    first_is None e = e.0
    first_is (Some u) e = e.0

    later_are : (l : Option Turn) → EachTurn IsTurn v s (and_last (t ∷ ts) l) → EachTurn IsTurn v (after v s t) (and_last ts l)
    later_are None e = e.1
    later_are (Some u) e = e.1

    split : (l : Option Turn) → shares Asks v s (and_last (t ∷ ts) l) ≡ Asks v s t ++ shares Asks v (after v s t) (and_last ts l)
    split None = refl
    split (Some u) = refl

    by : (l : Option Turn) → EachTurn IsTurn v s (and_last (t ∷ ts) l) → Waits (message_in v s t) (after v s t) ⊎ Joins v (message_in v s t) (said_in v s t) (after v s t)
        → ((l : Option Turn) → EachTurn IsTurn v s (and_last (t ∷ ts) l) → is_in (after v s t) ≡ false → length (shares Asks v (after v s t) (and_last ts l)) ≤ 1)
        → length (shares Asks v s (and_last (t ∷ ts) l)) ≤ 1
    by l e (inl w) rec = subst (λ (ws : List Identity). length ws ≤ 1) (sym (split l ∙ ap (λ (ws : List Identity). ws ++ shares Asks v (after v s t) (and_last ts l)) w.1)) (rec l e w.0)
    by l e (inr j) rec = subst (λ (ws : List Identity). length ws ≤ 1) (sym (split l))
        (one_then (Asks v s t) (shares Asks v (after v s t) (and_last ts l)) (subst (λ (k : ℕ). k ≤ 1) (sym j.one) (lit≤ tt)) (none_later v (after v s t) (and_last ts l) j.joined))

-- ---- a session

leaves_connect_none : (caller : ℕ) (c : Option ℕ) (taken empties : ℕ) (e : End) → connected (leaving caller c taken empties e) ≡ []
leaves_connect_none caller None taken empties e = refl
leaves_connect_none caller (Some c) taken empties e = refl

-- without a policy nobody is turned away
none_away : (policy : Option Policy) (last : Option Turn) (who : Identity) → policy ≡ None → IsUnconnectedBy policy last who → IsUnconnected last who
none_away policy last who bare (inl h) = h
none_away policy last who bare (inr away) = (let k : None ≡ Some away.0 = sym bare ∙ away.1 in cc)

unguarded_made : (policy : Option Policy) (last : Option Turn) (all made : List Identity) → policy ≡ None → AreAllBut (IsUnconnectedBy policy last) all made → AreAllBut (IsUnconnected last) all made
unguarded_made policy last all made bare (inl e) = inl e
unguarded_made policy last all made bare (inr r) = inr (r.0, none_away policy last r.0 bare r.1, r.2)

pub connects_are_asked : (v : Terms) (T : List Said) (R : List ℕ) (E : List Entry) (frames : List (List ℕ)) (ended : Ended) (x : Session v T R E frames ended) → ConnectsAreAsked v E x.course
connects_are_asked v T R E frames ended x =
    let c = x.course in
    let G = λ (v : Terms) (s : Standing) (t : Turn). connected (entries_in v s t) in
    let all : asked (messages_of c) ≡ shares Asks v begun (all_turns c) = mapped_shares (λ m. asked_by m.verdict) message_in v begun (all_turns c) in
    let left = leaving v.caller ended.conn ended.taken ended.empties x.reply in
    let done : connected E ≡ shares G v begun (all_turns c) =
    ap connected x.entries ∙ flat_map-append (λ (e : Entry). connected_in e.call) (entries_of c) left
    ∙ ap (λ (l : List Identity). connected (entries_of c) ++ l) (leaves_connect_none v.caller ended.conn ended.taken ended.empties x.reply)
    ∙ append-nil (connected (entries_of c)) ∙ mapped_shares (λ (e : Entry). connected_in e.call) entries_in v begun (all_turns c) in
    let made = all_as (IsUnconnectedBy v.policy c.last) (asked (messages_of c)) (connected E) (shares Asks v begun (all_turns c)) (shares G v begun (all_turns c)) all done
    (all_but Asks G v
    (λ s t tied is on. lacks_none (IsUnconnectedBy v.policy (Some t)) (stop_after v (opened s t.opening) t.opening.reading t.hearing) (Asks v s t) (G v s t) (turn_connects v s t is)
    (first_none (stop_before v s t.opening) (stop_after v (opened s t.opening) t.opening.reading t.hearing) on).1)
    (IsUnconnectedBy v.policy)
    (λ s t tied is. lacks_last (IsUnconnectedBy v.policy (Some t)) (stop_after v (opened s t.opening) t.opening.reading t.hearing) (Asks v s t) (G v s t) (turn_connects v s t is))
    begun c.went_on c.last tied_begun c.turns c.goes_on) in
    record {
      made = made;
      unguarded = λ bare. unguarded_made v.policy c.last (asked (messages_of c)) (connected E) bare made;
      once = subst (λ (ws : List Identity). length ws ≤ 1) (sym all) (asks_once v begun c.went_on c.last refl c.turns c.goes_on);
    }
