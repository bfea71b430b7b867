-- What a session forwards is what came and is to be carried on; and the messages that are judged are those given.
-- It serves clauses of functions of `laws`.
use Rattle.std.proofs.Common.{◌≡◌, ◌≢◌, ◌⊎◌, inl, inr, ℕ, Bool, true, false, cond, ◌&&◌, List, [], ◌∷◌, ◌++◌, map, Option, Some, None, Result, Ok, Err, is_some, refl, ap, sym, ◌∙◌, append-nil}
use Rattle.std.specs.Prelude.{is_none}
use Rattle.bsc_octets.specs.declared.envelope.Envelope.{Envelope}
use Rattle.bsc_lines.specs.declared.denial.Denial.{Denial}
use Rattle.std.proofs.lemmas.Grind.{flat_map-append}
use Rattle.std.proofs.lemmas.List.{map-append}
use Rattle.bsc_frame.specs.declared.message.Message.{Message as Bvlc}
use Rattle.bsc_history.specs.declared.ending.End.{End}
use Rattle.bsc_history.specs.declared.entry.Entry.{Entry}
use Rattle.bsc_history.specs.declared.looks.Look.{Look}
use Rattle.bsc_history.specs.declared.reply.Reply.{Reply}
use Rattle.bsc_checks.specs.declared.verdict.Verdict.{Verdict}
use Rattle.bsc_checks.specs.declared.verdict.Verdict.TheVariants.{Pass, Carry as Carried, Silent, Nak}
use Rattle.bsc_edge.specs.declared.fault.LinkFault.{LinkFault}
use Rattle.bsc_edge.specs.declared.incoming.Incoming.{Incoming}
use Rattle.bsc_edge.specs.declared.incoming.Incoming.TheVariants.{Closed, Message, Quiet, Text}
use Rattle.bsc_edge.specs.declared.said.Said.{Said}
use Rattle.bsc_edge.specs.declared.said.Said.TheVariants.{Gave}
use Rattle.bsc_accept.specs.declared.closing.Closing.{Closing}
use Rattle.bsc_accept.specs.declared.step.Step.{Step}
use Rattle.bsc_accept.specs.declared.step.Step.TheVariants.{Ask, Put, PutClose, Up, Close, Nothing}
use Rattle.bsc_accept.specs.Messages.{is_farewell_answer, who_asks}
use Rattle.bsc_accept.specs.Past.{Standing as MachineStanding, awaiting_request, connected, disconnecting, phase, standing}
use Rattle.bsc_accept.specs.Steps.{message_step, normal, passed_step}
use Rattle.bsc_port.specs.Guarding.{denied_message}
use Rattle.bsc_session.specs.declared.ended.Ended.{Ended}
use Rattle.bsc_session.specs.declared.stop.Stop.{Stop}
use Rattle.bsc_session.specs.Answering.{IsHearing, called, calls_hub, denied_in, entries_hearing, forwarded_by, put_after, stop_hearing, stop_message}
use Rattle.bsc_session.specs.Causes.{answer_in, given_in}
use Rattle.bsc_session.specs.Course.{all_turns, entries_of, said_closing, shares}
use Rattle.bsc_session.specs.Following.{Tied}
use Rattle.bsc_session.specs.Judging.{verdict_on}
use Rattle.bsc_session.specs.Puts.{puts}
use Rattle.bsc_session.specs.Receiving.{Answer, replies, worn, no_memory, Hearing}
use Rattle.bsc_session.specs.Standings.{Standing, Terms, begun}
use Rattle.bsc_session.specs.Stops.{first_of, stop_lost}
use Rattle.bsc_session.specs.Taking.{opened, put_first, stop_before, wait_in}
use Rattle.bsc_session.specs.Talk.{Session, leaving}
use Rattle.bsc_session.specs.Turns.{IsHearingIf, IsTurn, Turn, after, entries_after, entries_in, said_after, said_in, stop_after}
use Rattle.bsc_node_links.specs.Talks.{given_by, given_in as given_by_link}
use Rattle.bsc_session_laws.specs.Laws.{AreAllBut, IsUnentered}
use Rattle.bsc_session_laws.specs.Messages.{JudgedMessage, allowed, allowed_by, carried, carried_by, forwarded, forwarded_in, message_after, message_by, message_in, messages_of}
use Rattle.bsc_session.proofs.EndingAtFault.{first_none}
use Rattle.bsc_session.proofs.Hearing.{connected_joined as connected_in}
use Rattle.bsc_session_laws.proofs.Courses.{all_as, all_but, mapped_shares}
use Rattle.bsc_session_laws.proofs.Turning.{at, hearing, tied_begun, tied_opened}
use Rattle.bsc_session_laws.proofs.Verdicts.{carried_connected}
use Rattle.bsc_accept.proofs.Common.{connected_carries as not_carried_connected, no_ask_carries as not_carried_asked}

-- ---- one of them is lacking

-- The one list is the other; or it has one element and the other none, for which there is a cause, and then the session
-- stops.
abbrev pub Lacks : {A : Type 0} → (A → Type 0) → Option Stop → List A → List A → Type 0
Lacks {A} Cause stop all made = (all ≡ made) ⊎ ((x : A) × Cause x × (stop ≢ None) × (all ≡ x ∷ []) × (made ≡ []))

pub lacks_none : {A : Type 0} (Cause : A → Type 0) (stop : Option Stop) (all made : List A) → Lacks Cause stop all made → stop ≡ None → all ≡ made
lacks_none Cause stop all made (inl e) none = e
lacks_none Cause stop all made (inr r) none = absurd (r.2 none)

pub lacks_last : {A : Type 0} (Cause : A → Type 0) (stop : Option Stop) (all made : List A) → Lacks Cause stop all made → AreAllBut Cause all made
lacks_last Cause stop all made (inl e) = inl e
lacks_last {A} Cause stop all made (inr r) = inr (r.0, r.1, r.3 ∙ ap (λ (l : List A). l ++ r.0 ∷ []) (sym r.4))

-- the hub made no entry, and the message was given
abbrev Unentered : Result Incoming LinkFault → Option Answer → List ℕ → Type 0
Unentered given answer m = (Some given ≡ Some (Ok (Message m))) × ((answer ≡ Some worn) ⊎ (answer ≡ Some no_memory))

-- ---- a hearing

-- a step that doesn't carry makes no Forward
no_forward : (v : Terms) (s : Standing) (st : Step) (given : Result Incoming LinkFault) (answer : Option Answer) → (st ≡ Up → ⊥) → forwarded (called v s st given answer) ≡ []
no_forward v s (Ask who) given None isnt = refl
no_forward v s (Ask who) given (Some worn) isnt = refl
no_forward v s (Ask who) given (Some no_memory) isnt = refl
no_forward v s (Ask who) given (Some (replies place looks reply)) isnt = refl
no_forward v s (Put octets) given answer isnt = refl
no_forward v s (PutClose octets c) given answer isnt = refl
no_forward v s Up given answer isnt = absurd (isnt refl)
no_forward v s (Close c) given answer isnt = refl
no_forward v s Nothing given answer isnt = refl

not_carried_parting : (b : Bool) → cond b (Close normal) Nothing ≡ Up → ⊥
not_carried_parting true e = cc
not_carried_parting false e = cc

-- what passes isn't carried
passed_not_carried : (g : MachineStanding) (msg : Bvlc) → passed_step g msg ≡ Up → ⊥
passed_not_carried awaiting_request msg e = not_carried_asked (who_asks msg.body) e
passed_not_carried connected msg e = not_carried_connected msg.id msg.body e
passed_not_carried (disconnecting f) msg e = not_carried_parting (is_farewell_answer f.id msg) e

made : (v : Terms) (c : Option ℕ) (m : List ℕ) (looks : List Look) (reply : Reply) → is_some c ≡ true → m ∷ [] ≡ forwarded (forwarded_by v c m looks reply)
made v None m looks reply h = cc
made v (Some c) m looks reply h = refl

-- a lost line stops the session before all else
pub lost_or : (lost : Option LinkFault) (later : Option Stop) → later ≢ None → first_of (stop_lost lost) later ≢ None
lost_or None later some = some
lost_or (Some f) later some = λ e. cc

-- what is carried is forwarded, where nothing is denied of it and the hub makes an entry
carried_made : (v : Terms) (s x : Standing) (m : List ℕ) (envelope : Envelope) (d : Option Denial) (answer : Option Answer) (lost fault : Option LinkFault) → is_some s.conn ≡ true
    → is_some answer ≡ is_none d && true
    → Lacks (Unentered (Ok (Message m)) answer) (stop_message v x Up d answer lost fault) (allowed_by m (Carried envelope) d ++ []) (forwarded (called v s Up (Ok (Message m)) answer))
carried_made v s x m envelope (Some d) None lost fault own h = inl refl
carried_made v s x m envelope (Some d) (Some a) lost fault own h = cc
carried_made v s x m envelope None None lost fault own h = cc
carried_made v s x m envelope None (Some (replies place looks reply)) lost fault own h = inl (made v s.conn m looks reply own)
carried_made v s x m envelope None (Some worn) lost fault own h = inr (m, (refl, inl refl), lost_or lost _ (λ e. cc), refl, refl)
carried_made v s x m envelope None (Some no_memory) lost fault own h = inr (m, (refl, inr refl), lost_or lost _ (λ e. cc), refl, refl)

verdict_forwards : (v : Terms) (s x : Standing) (m : List ℕ) (answer : Option Answer) (lost fault : Option LinkFault) → Tied s → (w : Verdict) → verdict_on v s m ≡ w
    → is_some answer ≡ calls_hub v s (message_step (standing s.events) w) (Ok (Message m))
    → Lacks (Unentered (Ok (Message m)) answer) (stop_message v x (message_step (standing s.events) w) (denied_in v s (message_step (standing s.events) w) (Ok (Message m))) answer lost fault)
    (allowed_by m w (denied_message v.policy s.address m) ++ []) (forwarded (called v s (message_step (standing s.events) w) (Ok (Message m)) answer))
verdict_forwards v s x m answer lost fault tied (Pass msg) is calls = inl
    (sym (no_forward v s (passed_step (standing s.events) msg) (Ok (Message m)) answer (passed_not_carried (standing s.events) msg)))
verdict_forwards v s x m answer lost fault tied (Carried envelope) is calls =
    carried_made v s x m envelope (denied_message v.policy s.address m) answer lost fault
    (sym tied ∙ connected_in (standing s.events) (carried_connected m (phase s.events) v.hub.max_bvlc envelope is)) calls
verdict_forwards v s x m answer lost fault tied (Silent check) is calls = inl refl
verdict_forwards v s x m answer lost fault tied (Nak check octets) is calls = inl refl

hearing_forwards : (v : Terms) (s : Standing) (now : ℕ) (given : Result Incoming LinkFault) (judged : Bool) (answer : Option Answer) (lost fault : Option LinkFault) → Tied s
    → IsHearing v s now (hearing given judged answer lost fault)
    → Lacks (Unentered given answer) (stop_hearing v s now (hearing given judged answer lost fault)) (allowed (message_by v s given))
    (forwarded (entries_hearing v s now (hearing given judged answer lost fault)))
hearing_forwards v s now (Err f) true answer lost fault tied is = inl refl
hearing_forwards v s now (Err f) false answer lost fault tied is = inl refl
hearing_forwards v s now (Ok Closed) true answer lost fault tied is = inl refl
hearing_forwards v s now (Ok Closed) false answer lost fault tied is = inl refl
hearing_forwards v s now (Ok Text) true answer lost fault tied is = inl refl
hearing_forwards v s now (Ok Text) false answer lost fault tied is = inl refl
hearing_forwards v s now (Ok Quiet) true answer lost fault tied is = inl refl
hearing_forwards v s now (Ok Quiet) false answer lost fault tied is = inl refl
hearing_forwards v s now (Ok (Message m)) false answer lost fault tied is = inl (ap (λ (w : Verdict). allowed_by m w (denied_message v.policy s.address m) ++ []) is.memory.1)
hearing_forwards v s now (Ok (Message m)) true answer lost fault tied is = verdict_forwards v s (at s now (verdict_on v s m)) m answer lost fault tied (verdict_on v s m) refl is.calls

-- ---- a turn

abbrev UnenteredIn : Option Hearing → List ℕ → Type 0
UnenteredIn h m = (given_in h ≡ Some (Ok (Message m))) × ((answer_in h ≡ Some worn) ⊎ (answer_in h ≡ Some no_memory))

turn_forwards : (v : Terms) (s : Standing) (t : Turn) → Tied s → IsTurn v s t
    → Lacks (IsUnentered (Some t)) (stop_after v (opened s t.opening) t.opening.reading t.hearing) (allowed (message_in v s t)) (forwarded (entries_in v s t))
turn_forwards v s t tied is = by t.hearing is.hearing
  where
    by : (h : Option Hearing) → IsHearingIf v (opened s t.opening) t.opening.reading h
        → Lacks (UnenteredIn h) (stop_after v (opened s t.opening) t.opening.reading h) (allowed (message_after v (opened s t.opening) h))
        (forwarded (entries_after v (opened s t.opening) t.opening.reading h))
    by None heard = inl refl
    by (Some h) heard = hearing_forwards v (opened s t.opening) t.opening.reading h.given h.judged h.answer h.lost h.fault (tied_opened s t.opening tied) heard

-- ---- a session

leaves_forward_none : (caller : ℕ) (c : Option ℕ) (taken empties : ℕ) (e : End) → forwarded (leaving caller c taken empties e) ≡ []
leaves_forward_none caller None taken empties e = refl
leaves_forward_none caller (Some c) taken empties e = refl

pub forwards_made : (v : Terms) (T : List Said) (R : List ℕ) (E : List Entry) (frames : List (List ℕ)) (ended : Ended) (x : Session v T R E frames ended)
    → AreAllBut (IsUnentered x.course.last) (allowed (messages_of x.course)) (forwarded E)
forwards_made v T R E frames ended x =
    let c = x.course in
    let F = λ (v : Terms) (s : Standing) (t : Turn). allowed (message_in v s t) in
    let G = λ (v : Terms) (s : Standing) (t : Turn). forwarded (entries_in v s t) in
    let all : allowed (messages_of c) ≡ shares F v begun (all_turns c) = mapped_shares (λ m. allowed_by m.octets m.verdict m.denied) message_in v begun (all_turns c) in
    let left = leaving v.caller ended.conn ended.taken ended.empties x.reply in
    let done : forwarded E ≡ shares G v begun (all_turns c) =
    ap forwarded x.entries ∙ flat_map-append (λ (e : Entry). forwarded_in e.call) (entries_of c) left
    ∙ ap (λ (l : List (List ℕ)). forwarded (entries_of c) ++ l) (leaves_forward_none v.caller ended.conn ended.taken ended.empties x.reply)
    ∙ append-nil (forwarded (entries_of c)) ∙ mapped_shares (λ (e : Entry). forwarded_in e.call) entries_in v begun (all_turns c) in
    all_as (IsUnentered c.last) (allowed (messages_of c)) (forwarded E) (shares F v begun (all_turns c)) (shares G v begun (all_turns c)) all done
    (all_but F G v
    (λ s t tied is on. lacks_none (IsUnentered (Some t)) (stop_after v (opened s t.opening) t.opening.reading t.hearing) (F v s t) (G v s t) (turn_forwards v s t tied is)
    (first_none (stop_before v s t.opening) (stop_after v (opened s t.opening) t.opening.reading t.hearing) on).1)
    IsUnentered
    (λ s t tied is. lacks_last (IsUnentered (Some t)) (stop_after v (opened s t.opening) t.opening.reading t.hearing) (F v s t) (G v s t) (turn_forwards v s t tied is))
    begun c.went_on c.last tied_begun c.turns c.goes_on)

-- without a policy nothing is denied
same_given : (v : Terms) (s : Standing) (given : Result Incoming LinkFault) → v.policy ≡ None → carried (message_by v s given) ≡ allowed (message_by v s given)
same_given v s (Ok (Message m)) bare = rw bare (by (verdict_on v s m))
  where
    by : (w : Verdict) → carried_by m w ++ [] ≡ allowed_by m w None ++ []
    by (Pass msg) = refl
    by (Carried envelope) = refl
    by (Silent check) = refl
    by (Nak check octets) = refl
same_given v s (Ok Closed) bare = refl
same_given v s (Ok Text) bare = refl
same_given v s (Ok Quiet) bare = refl
same_given v s (Err fault) bare = refl

same_in : (v : Terms) (s : Standing) (h : Option Hearing) → v.policy ≡ None → carried (message_after v s h) ≡ allowed (message_after v s h)
same_in v s None bare = refl
same_in v s (Some h) bare = same_given v s h.given bare

same_all : (v : Terms) (s : Standing) (ts : List Turn) → v.policy ≡ None → carried (shares message_in v s ts) ≡ allowed (shares message_in v s ts)
same_all v s [] bare = refl
same_all v s (t ∷ ts) bare =
    let here = message_in v s t in
    let rest = shares message_in v (after v s t) ts in
    flat_map-append (λ m. carried_by m.octets m.verdict) here rest
    ∙ ap (λ (l : List (List ℕ)). l ++ carried rest) (same_in v (opened s t.opening) t.hearing bare)
    ∙ ap (λ (l : List (List ℕ)). allowed here ++ l) (same_all v (after v s t) ts bare)
    ∙ sym (flat_map-append (λ m. allowed_by m.octets m.verdict m.denied) here rest)

pub forwards_made_bare : (v : Terms) (T : List Said) (R : List ℕ) (E : List Entry) (frames : List (List ℕ)) (ended : Ended) (x : Session v T R E frames ended) → v.policy ≡ None
    → AreAllBut (IsUnentered x.course.last) (carried (messages_of x.course)) (forwarded E)
forwards_made_bare v T R E frames ended x bare =
    let c = x.course in
    all_as (IsUnentered c.last) (carried (messages_of c)) (forwarded E) (allowed (messages_of c)) (forwarded E) (same_all v begun (all_turns c) bare) refl (forwards_made v T R E frames ended x)

-- ---- the messages that are judged

puts_give_none : (os : List (List ℕ)) (fault : Option LinkFault) → given_by_link (puts os fault) ≡ []
puts_give_none [] fault = refl
puts_give_none (o ∷ []) fault = refl
puts_give_none (o ∷ (p ∷ os)) fault = puts_give_none (p ∷ os) fault

closing_gives_none : (c : Option Closing) → given_by_link (said_closing c) ≡ []
closing_gives_none None = refl
closing_gives_none (Some c) = refl

-- the octets of a message
abbrev octets : JudgedMessage → List ℕ
octets m = m.octets

given_once : (v : Terms) (s : Standing) (wait : ℕ) (given : Result Incoming LinkFault) → given_by (Gave wait given) ≡ map octets (message_by v s given)
given_once v s wait (Err f) = refl
given_once v s wait (Ok Closed) = refl
given_once v s wait (Ok Text) = refl
given_once v s wait (Ok Quiet) = refl
given_once v s wait (Ok (Message m)) = refl

hearing_gives : (v : Terms) (s : Standing) (now wait : ℕ) (h : Option Hearing) → given_by_link (said_after v s now wait h) ≡ map octets (message_after v s h)
hearing_gives v s now wait None = refl
hearing_gives v s now wait (Some h) =
    ap (λ (l : List (List ℕ)). given_by (Gave wait h.given) ++ l) (puts_give_none (put_after v s now h) h.fault)
    ∙ append-nil (given_by (Gave wait h.given)) ∙ given_once v s wait h.given

turn_gives : (v : Terms) (s : Standing) (t : Turn) → given_by_link (said_in v s t) ≡ map octets (message_in v s t)
turn_gives v s t =
    flat_map-append given_by (puts (put_first v s t.opening) t.opening.fault) (said_after v (opened s t.opening) t.opening.reading (wait_in t.opening) t.hearing)
    ∙ ap (λ (l : List (List ℕ)). l ++ given_by_link (said_after v (opened s t.opening) t.opening.reading (wait_in t.opening) t.hearing)) (puts_give_none (put_first v s t.opening) t.opening.fault)
    ∙ hearing_gives v (opened s t.opening) t.opening.reading (wait_in t.opening) t.hearing

turns_give : (v : Terms) (s : Standing) (ts : List Turn) → given_by_link (shares said_in v s ts) ≡ map octets (shares message_in v s ts)
turns_give v s [] = refl
turns_give v s (t ∷ ts) =
    flat_map-append given_by (said_in v s t) (shares said_in v (after v s t) ts)
    ∙ ap (λ (l : List (List ℕ)). l ++ given_by_link (shares said_in v (after v s t) ts)) (turn_gives v s t)
    ∙ ap (λ (l : List (List ℕ)). map octets (message_in v s t) ++ l) (turns_give v (after v s t) ts)
    ∙ sym (map-append octets (message_in v s t) (shares message_in v (after v s t) ts))

pub messages_are_given : (v : Terms) (T : List Said) (R : List ℕ) (E : List Entry) (frames : List (List ℕ)) (ended : Ended) (x : Session v T R E frames ended)
    → map (λ m. m.octets) (messages_of x.course) ≡ given_by_link T
messages_are_given v T R E frames ended x =
    let c = x.course in
    sym (
    ap given_by_link x.talk ∙ flat_map-append given_by (shares said_in v begun (all_turns c)) (said_closing c.stop.closing)
    ∙ ap (λ (l : List (List ℕ)). given_by_link (shares said_in v begun (all_turns c)) ++ l) (closing_gives_none c.stop.closing)
    ∙ append-nil (given_by_link (shares said_in v begun (all_turns c))) ∙ turns_give v begun (all_turns c)
    )
