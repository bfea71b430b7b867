-- A session that is guarded by a policy does as that says.
-- It serves the clauses of `policy_is_followed`.
use Rattle.std.proofs.Common.{◌≡◌, ◌⊎◌, inl, inr, ℕ, Bool, true, false, cond, ◌&&◌, List, [], ◌∷◌, ◌++◌, map, Option, Some, None, Result, Ok, Err, is_some, option_to_list, refl}
use Rattle.std.proofs.Common.{ap, sym, ◌∙◌, subst, append_assoc}
use Rattle.std.specs.Prelude.{if◌then◌else◌, is_none}
use Rattle.std.specs.List.{AllByRecursion}
use Rattle.std.proofs.lemmas.Grind.{flat_map-append}
use Rattle.std.proofs.lemmas.Option.{same_Some}
use Rattle.bsc_lemmas.proofs.Lists.{all_append}
use Rattle.bsc_octets.specs.declared.identity.Identity.{Identity}
use Rattle.bsc_octets.specs.declared.vmac.Vmac.{Vmac}
use Rattle.bsc_octets.specs.Forwarding.{destination, is_broadcast}
use Rattle.bsc_policy.specs.declared.decision.Decision.{Decision}
use Rattle.bsc_policy.specs.declared.decision.Decision.TheVariants.{Allowed, Denied}
use Rattle.bsc_policy.specs.declared.policy.Policy.{Policy}
use Rattle.bsc_policy.specs.Decisions.{decided_of, is_admitted}
use Rattle.bsc_history.specs.declared.ending.End.{End}
use Rattle.bsc_history.specs.declared.entry.Entry.{Entry}
use Rattle.bsc_history.specs.declared.looks.Look.{Look}
use Rattle.bsc_history.specs.declared.reply.Reply.{Reply}
use Rattle.bsc_history.specs.declared.reply.Reply.TheVariants.{Joined, Refused}
use Rattle.bsc_lines.specs.declared.denial.Denial.{Denial}
use Rattle.bsc_lines.specs.declared.denial.Denial.TheVariants.{OfConnect, OfPair}
use Rattle.bsc_session.specs.Notes.Notes.{Note, denied, made}
use Rattle.bsc_checks.specs.declared.verdict.Verdict.{Verdict}
use Rattle.bsc_checks.specs.declared.verdict.Verdict.TheVariants.{Pass, Carry as Carried, Silent, Nak}
use Rattle.bsc_edge.specs.declared.fault.LinkFault.{LinkFault}
use Rattle.bsc_edge.specs.declared.incoming.Incoming.{Incoming}
use Rattle.bsc_edge.specs.declared.incoming.Incoming.TheVariants.{Closed, Message, Quiet, Text}
use Rattle.bsc_edge.specs.declared.said.Said.{Said}
use Rattle.bsc_accept.specs.declared.event.Event.TheVariants.{Refused as RefusedEvent}
use Rattle.bsc_accept.specs.declared.step.Step.{Step}
use Rattle.bsc_accept.specs.declared.step.Step.TheVariants.{Ask, Put, PutClose, Up, Close, Nothing}
use Rattle.bsc_accept.specs.Past.{Standing as MachineStanding, awaiting_request, connected, disconnecting, standing}
use Rattle.bsc_accept.specs.Steps.{message_step}
use Rattle.bsc_port.specs.Guarding.{denied_by, denied_connect, denied_from, denied_message, denied_pair}
use Rattle.bsc_session.specs.declared.ended.Ended.{Ended}
use Rattle.bsc_session.specs.Answering.{answered, called, calls_hub, denied_in, forwarded_by, made_at, stands_heard, step_of}
use Rattle.bsc_session.specs.Course.{EachTurn, all_turns, end_of, entries_of, notes_of, shares, standing as stands_after_all}
use Rattle.bsc_session.specs.Guarding.{denial_of, denials, denials_by, if_any, let_through, origin}
use Rattle.bsc_session.specs.Following.{Tied}
use Rattle.bsc_session.specs.Judging.{heard, heard_step, verdict_on}
use Rattle.bsc_session.specs.Reading.{ticked}
use Rattle.bsc_session.specs.Receiving.{Answer, replies, worn, no_memory, Hearing}
use Rattle.bsc_session.specs.Standings.{Standing, Terms, begun}
use Rattle.bsc_session.specs.Taking.{Opening, end_told, opened, passing}
use Rattle.bsc_session.specs.Talk.{Session, journal_of, leave_of, leaving, noted_leaving}
use Rattle.bsc_session.specs.Turns.{IsHearingIf, IsTurn, Turn, after, entries_after, entries_in, frames_in, notes_after, notes_in, stands_after}
use Rattle.bsc_session_laws.specs.Messages.{asked, asked_by, connected as connected_of, connected_in, message_after, message_by, message_in, messages_of}
use Rattle.bsc_session_laws.specs.Policies.{Allows, AllowsCall, AllowsFrame, DeniesIfNoted, IsAmong, IsConnectedAs, PolicyIsFollowed, put_in}
use Rattle.bsc_session.proofs.Filtering.{through-nil, let_through-append}
use Rattle.bsc_session_laws.proofs.Connecting.{passed_asks}
use Rattle.bsc_session_laws.proofs.Courses.{mapped_shares}
use Rattle.bsc_session_laws.proofs.Owning.{heard_asks_for_none}
use Rattle.bsc_session_laws.proofs.Turning.{heard_in, is_in, opened_in, stays_in, takes_none, tied_after, tied_begun, told_in, told_joined_in}

-- ---- the address, exactly where the machine has joined

abbrev Placed : Standing → Type 0
Placed s = is_in s ≡ is_some s.address

met_address : (s : Standing) (now : ℕ) (met : Option End) → (end_told s now met).address ≡ s.address
met_address s now None = refl
met_address s now (Some e) = refl

opened_address : (s : Standing) (o : Opening) → (opened s o).address ≡ s.address
opened_address s o = met_address (ticked s o.reading) o.reading o.met

placed_opened : (s : Standing) (o : Opening) → Placed s → Placed (opened s o)
placed_opened s o placed = (opened_in s o).0 ∙ placed ∙ ap is_some (sym (opened_address s o))

heard_address : (v : Terms) (s : Standing) (now : ℕ) (judged : Bool) (given : Result Incoming LinkFault) → (heard v s now judged given).address ≡ s.address
heard_address v s now true (Ok (Message m)) = refl
heard_address v s now true (Ok Closed) = refl
heard_address v s now true (Ok Text) = refl
heard_address v s now true (Ok Quiet) = refl
heard_address v s now true (Err fault) = refl
heard_address v s now false given = refl

placed_answered : (s : Standing) (st : Step) (a : Option Answer) → Placed s → Placed (answered s st a)
placed_answered s (Ask who) (Some (replies place l (Joined c r))) k = told_joined_in s
placed_answered s (Ask who) (Some (replies place l (Refused r))) k = told_in s (RefusedEvent r) refl ∙ k
placed_answered s st a k = k

placed_heard : (v : Terms) (s : Standing) (now : ℕ) (h : Option Hearing) → Placed s → Placed (stands_after v s now h)
placed_heard v s now None k = k
placed_heard v s now (Some h) k =
    placed_answered (stands_heard v s now h) (step_of v s now h) h.answer ((heard_in v s now h.judged h.given).0 ∙ k ∙ ap is_some (sym (heard_address v s now h.judged h.given)))

placed_after : (v : Terms) (s : Standing) (t : Turn) → Placed s → Placed (after v s t)
placed_after v s t k = placed_heard v (opened s t.opening) t.opening.reading t.hearing (placed_opened s t.opening k)

-- ---- it stays

same_address : (s : Standing) (st : Step) (a : Option Answer) → ((who : Identity) → st ≡ Ask who → ⊥) → (answered s st a).address ≡ s.address
same_address s (Ask who) a not = absurd (not who refl)
same_address s (Put octets) a not = refl
same_address s (PutClose octets c) a not = refl
same_address s Up a not = refl
same_address s (Close c) a not = refl
same_address s Nothing a not = refl

hearing_keeps : (v : Terms) (s : Standing) (now : ℕ) (h : Option Hearing) → is_in s ≡ true → (stands_after v s now h).address ≡ s.address
hearing_keeps v s now None k = refl
hearing_keeps v s now (Some h) k =
    same_address (stands_heard v s now h) (step_of v s now h) h.answer (λ who e. heard_asks_for_none v s now h.judged h.given who k e) ∙ heard_address v s now h.judged h.given

turn_keeps : (v : Terms) (s : Standing) (t : Turn) → is_in s ≡ true → (after v s t).address ≡ s.address
turn_keeps v s t k = hearing_keeps v (opened s t.opening) t.opening.reading t.hearing ((opened_in s t.opening).0 ∙ k) ∙ opened_address s t.opening

turns_keep : (v : Terms) (s : Standing) (ts : List Turn) → is_in s ≡ true → (stands_after_all v s ts).address ≡ s.address
turns_keep v s [] k = refl
turns_keep v s (t ∷ ts) k = turns_keep v (after v s t) ts (stays_in v s t k) ∙ turn_keeps v s t k

-- the address at the end, by a turn and those after it, where somebody has joined
end_is : (v : Terms) (s : Standing) (t : Turn) (ts : List Turn) → is_in s ≡ true → (stands_after_all v (after v s t) ts).address ≡ s.address
end_is v s t ts k = turns_keep v s (t ∷ ts) k

-- ---- whose it is

-- who is among some is among more
among_left : (who : Identity) (xs ys : List Identity) → IsAmong who xs → IsAmong who (xs ++ ys)
among_left who xs ys k = (k.0, k.1 ++ ys, ap (λ (l : List Identity). l ++ ys) k.2 ∙ append_assoc k.0 (who ∷ k.1) ys)

among_right : (who : Identity) (xs ys : List Identity) → IsAmong who ys → IsAmong who (xs ++ ys)
among_right who xs ys k = (xs ++ k.0, k.1, ap (λ (l : List Identity). xs ++ l) k.2 ∙ sym (append_assoc xs k.0 (who ∷ k.1)))

-- the address was that before, or a device connected under it
abbrev Came : Option Vmac → List Entry → Vmac → Type 0
Came before E vmac = (before ≡ Some vmac) ⊎ IsConnectedAs E vmac

came_answered : (v : Terms) (x s : Standing) (st : Step) (given : Result Incoming LinkFault) (a : Option Answer) (vmac : Vmac) → (answered s st a).address ≡ Some vmac
    → Came s.address (called v x st given a) vmac
came_answered v x s (Ask who) given (Some (replies place l (Joined c r))) vmac e = inr (who, ([], [], refl), same_Some who.vmac vmac e)
came_answered v x s st given a vmac e = inl e

came_heard : (v : Terms) (s : Standing) (now : ℕ) (h : Option Hearing) (vmac : Vmac) → (stands_after v s now h).address ≡ Some vmac → Came s.address (entries_after v s now h) vmac
came_heard v s now None vmac e = inl e
came_heard v s now (Some h) vmac e = elim (came_answered v s (stands_heard v s now h) (step_of v s now h) h.given h.answer vmac e) [
  | inl k ↦ inl (sym (heard_address v s now h.judged h.given) ∙ k)
  | inr k ↦ inr k
]

came_turn : (v : Terms) (s : Standing) (t : Turn) (vmac : Vmac) → (after v s t).address ≡ Some vmac → Came s.address (entries_in v s t) vmac
came_turn v s t vmac e = elim (came_heard v (opened s t.opening) t.opening.reading t.hearing vmac e) [
  | inl k ↦ inl (sym (opened_address s t.opening) ∙ k)
  | inr k ↦ inr k
]

connected-append : (xs ys : List Entry) → connected_of (xs ++ ys) ≡ connected_of xs ++ connected_of ys
connected-append xs ys = flat_map-append (λ (e : Entry). connected_in e.call) xs ys

among_first : (who : Identity) (xs ys : List Entry) → IsAmong who (connected_of xs) → IsAmong who (connected_of (xs ++ ys))
among_first who xs ys k = subst (IsAmong who) (sym (connected-append xs ys)) (among_left who (connected_of xs) (connected_of ys) k)

among_behind : (who : Identity) (xs ys : List Entry) → IsAmong who (connected_of ys) → IsAmong who (connected_of (xs ++ ys))
among_behind who xs ys k = subst (IsAmong who) (sym (connected-append xs ys)) (among_right who (connected_of xs) (connected_of ys) k)

came_turns : (v : Terms) (s : Standing) (ts : List Turn) (vmac : Vmac) → (stands_after_all v s ts).address ≡ Some vmac → Came s.address (shares entries_in v s ts) vmac
came_turns v s [] vmac e = inl e
came_turns v s (t ∷ ts) vmac e = by (came_turns v (after v s t) ts vmac e)
  where
    here : Came s.address (entries_in v s t) vmac → Came s.address (shares entries_in v s (t ∷ ts)) vmac
    here (inl k) = inl k
    here (inr k) = inr (k.0, among_first k.0 (entries_in v s t) (shares entries_in v (after v s t) ts) k.1, k.2)

    by : Came (after v s t).address (shares entries_in v (after v s t) ts) vmac → Came s.address (shares entries_in v s (t ∷ ts)) vmac
    by (inl k) = here (came_turn v s t vmac k)
    by (inr k) = inr (k.0, among_behind k.0 (entries_in v s t) (shares entries_in v (after v s t) ts) k.1, k.2)

connected_as : (v : Terms) (T : List Said) (R : List ℕ) (E : List Entry) (frames : List (List ℕ)) (ended : Ended) (x : Session v T R E frames ended) (vmac : Vmac)
    → (end_of x.course).address ≡ Some vmac → IsConnectedAs E vmac
connected_as v T R E frames ended x vmac e = by (came_turns v begun (all_turns x.course) vmac e)
  where
    by : Came begun.address (entries_of x.course) vmac → IsConnectedAs E vmac
    by (inl k) = cc
    by (inr k) = (k.0, subst (λ (l : List Entry). IsAmong k.0 (connected_of l)) (sym x.entries) (among_first k.0 (entries_of x.course) (leave_of x) k.1), k.2)

-- ---- the frames that are put

none_put : (v : Terms) (s : Standing) (t : Turn) → is_in s ≡ false → IsTurn v s t → put_in v s t ≡ []
none_put v s t out is = ap (passing v s) (takes_none v s t.opening out is.opening.takes).0 ∙ through-nil v.policy s.address

turn_puts : (v : Terms) (s : Standing) (t : Turn) (ts : List Turn) → IsTurn v s t → put_in v s t ≡ let_through v.policy (stands_after_all v (after v s t) ts).address (frames_in v s t)
turn_puts v s t ts is = by (is_in s) refl
  where
    end : Option Vmac
    end = (stands_after_all v (after v s t) ts).address

    by : (b : Bool) → is_in s ≡ b → put_in v s t ≡ let_through v.policy end (frames_in v s t)
    by true k = ap (λ (a : Option Vmac). let_through v.policy a (frames_in v s t)) (sym (end_is v s t ts k))
    by false k = none_put v s t k is ∙ sym (ap (let_through v.policy end) (takes_none v s t.opening k is.opening.takes).0 ∙ through-nil v.policy end)

turns_put : (v : Terms) (s : Standing) (ts : List Turn) → EachTurn IsTurn v s ts → shares put_in v s ts ≡ let_through v.policy (stands_after_all v s ts).address (shares frames_in v s ts)
turns_put v s [] is = sym (through-nil v.policy s.address)
turns_put v s (t ∷ ts) is =
    let end = (stands_after_all v (after v s t) ts).address in
    ap (λ (l : List (List ℕ)). l ++ shares put_in v (after v s t) ts) (turn_puts v s t ts is.0)
    ∙ ap (λ (l : List (List ℕ)). let_through v.policy end (frames_in v s t) ++ l) (turns_put v (after v s t) ts is.1)
    ∙ sym (let_through-append v.policy end (frames_in v s t) (shares frames_in v (after v s t) ts))

-- a frame that is let through is allowed
through_one : (p : Policy) (to : Vmac) (end : Option Vmac) (f : List ℕ) (rest : List (List ℕ)) → end ≡ Some to → (w : Decision) → decided_of p.members.items p.rules.items (origin f) to ≡ w
    → AllByRecursion (AllowsFrame p end) rest → AllByRecursion (AllowsFrame p end) (cond (is_none (denied_by w (origin f) to)) (f ∷ rest) rest)
through_one p to end f rest e (Allowed rule) is all = ((to, e, (rule, is)), all)
through_one p to end f rest e (Denied rule) is all = all

through_allowed : (p : Policy) (to : Vmac) (end : Option Vmac) (fs : List (List ℕ)) → end ≡ Some to → AllByRecursion (AllowsFrame p end) (let_through (Some p) (Some to) fs)
through_allowed p to end [] e = tt
through_allowed p to end (f ∷ fs) e =
    through_one p to end f (let_through (Some p) (Some to) fs) e (decided_of p.members.items p.rules.items (origin f) to) refl (through_allowed p to end fs e)

address_allowed : (p : Policy) (a end : Option Vmac) (fs : List (List ℕ)) → is_some a ≡ true → end ≡ a → AllByRecursion (AllowsFrame p end) (let_through (Some p) a fs)
address_allowed p None end fs k e = cc
address_allowed p (Some to) end fs k e = through_allowed p to end fs e

-- ---- who asks is among those who asked

denies_more : (p : Policy) (end : Option Vmac) (xs ys : List Identity) (ns : List Note) → ((who : Identity) → IsAmong who xs → IsAmong who ys) → AllByRecursion (DeniesIfNoted p end xs) ns
    → AllByRecursion (DeniesIfNoted p end ys) ns
denies_more p end xs ys [] more all = tt
denies_more p end xs ys (made place e ∷ ns) more all = (tt, denies_more p end xs ys ns more all.1)
denies_more p end xs ys (denied (OfConnect vmac) ∷ ns) more all = ((all.0.0, more all.0.0 all.0.1, all.0.2, all.0.3), denies_more p end xs ys ns more all.1)
denies_more p end xs ys (denied (OfPair rule from to) ∷ ns) more all = (all.0, denies_more p end xs ys ns more all.1)

step_asked : (g : MachineStanding) (w : Verdict) (who : Identity) → message_step g w ≡ Ask who → asked_by w ++ [] ≡ who ∷ []
step_asked g (Pass msg) who e = ap (λ (o : Option Identity). option_to_list o ++ []) (passed_asks g msg who e)
step_asked awaiting_request (Carried envelope) who e = cc
step_asked connected (Carried envelope) who e = cc
step_asked (disconnecting f) (Carried envelope) who e = cc
step_asked awaiting_request (Silent check) who e = cc
step_asked connected (Silent check) who e = cc
step_asked (disconnecting f) (Silent check) who e = cc
step_asked awaiting_request (Nak check octets) who e = cc
step_asked connected (Nak check octets) who e = cc
step_asked (disconnecting f) (Nak check octets) who e = cc

heard_asked : (v : Terms) (s : Standing) (now : ℕ) (judged : Bool) (given : Result Incoming LinkFault) (who : Identity) → heard_step v s now judged given ≡ Ask who
    → asked (message_by v s given) ≡ who ∷ []
heard_asked v s now true (Ok (Message m)) who e = step_asked (standing s.events) (verdict_on v s m) who e
heard_asked v s now true (Ok Closed) who e = cc
heard_asked v s now true (Ok Text) who e = cc
heard_asked v s now true (Ok Quiet) who e = cc
heard_asked v s now true (Err fault) who e = cc
heard_asked v s now false given who e = cc

-- ---- what is denied

frame_denied : (p : Policy) (to : Vmac) (end : Option Vmac) (asks : List Identity) (f : List ℕ) (rest : List Denial) → end ≡ Some to → (w : Decision)
    → decided_of p.members.items p.rules.items (origin f) to ≡ w
    → AllByRecursion (DeniesIfNoted p end asks) (map denied rest) → AllByRecursion (DeniesIfNoted p end asks) (map denied (if_any (denied_by w (origin f) to) ++ rest))
frame_denied p to end asks f rest e (Allowed rule) is all = all
frame_denied p to end asks f rest e (Denied rule) is all = ((inr e, is), all)

frames_denied : (p : Policy) (a end : Option Vmac) (asks : List Identity) (fs : List (List ℕ)) → end ≡ a → AllByRecursion (DeniesIfNoted p end asks) (map denied (denials_by p a fs))
frames_denied p a end asks [] e = tt
frames_denied p None end asks (f ∷ fs) e = frames_denied p None end asks fs e
frames_denied p (Some to) end asks (f ∷ fs) e =
    frame_denied p to end asks f (denials_by p (Some to) fs) e (decided_of p.members.items p.rules.items (origin f) to) refl (frames_denied p (Some to) end asks fs e)

pair_denied : (p : Policy) (from to : Vmac) (end : Option Vmac) (asks : List Identity) → end ≡ Some from → (w : Decision) → decided_of p.members.items p.rules.items from to ≡ w
    → AllByRecursion (DeniesIfNoted p end asks) (map denied (if_any (denied_by w from to)))
pair_denied p from to end asks e (Allowed rule) is = tt
pair_denied p from to end asks e (Denied rule) is = ((inl e, is), tt)

unicast_denied : (p : Policy) (from : Vmac) (end : Option Vmac) (asks : List Identity) (m : List ℕ) (b : Bool) → end ≡ Some from
    → AllByRecursion (DeniesIfNoted p end asks) (map denied (if_any (if b then None else denied_pair p from (Some (destination m)))))
unicast_denied p from end asks m true e = tt
unicast_denied p from end asks m false e = pair_denied p from (destination m) end asks e (decided_of p.members.items p.rules.items from (destination m)) refl

message_denied : (p : Policy) (a end : Option Vmac) (asks : List Identity) (m : List ℕ) → ((from : Vmac) → a ≡ Some from → end ≡ Some from)
    → AllByRecursion (DeniesIfNoted p end asks) (map denied (if_any (denied_from p a m)))
message_denied p None end asks m at_end = tt
message_denied p (Some from) end asks m at_end = unicast_denied p from end asks m (is_broadcast m) (at_end from refl)

connect_denied : (p : Policy) (end : Option Vmac) (asks : List Identity) (who : Identity) (b : Bool) → is_admitted p.members.items who ≡ b → IsAmong who asks
    → AllByRecursion (DeniesIfNoted p end asks) (map denied (if_any (if b then None else Some (OfConnect who.vmac))))
connect_denied p end asks who true is among = tt
connect_denied p end asks who false is among = ((who, among, refl, is), tt)

step_denied : (p : Policy) (a end : Option Vmac) (asks : List Identity) (st : Step) (given : Result Incoming LinkFault) → ((who : Identity) → st ≡ Ask who → IsAmong who asks)
    → ((from : Vmac) → a ≡ Some from → end ≡ Some from)
    → AllByRecursion (DeniesIfNoted p end asks) (map denied (if_any (denial_of (Some p) a st given)))
step_denied p a end asks (Ask who) given among at_end = connect_denied p end asks who (is_admitted p.members.items who) refl (among who refl)
step_denied p a end asks Up (Ok (Message m)) among at_end = message_denied p a end asks m at_end
step_denied p a end asks Up (Ok Closed) among at_end = tt
step_denied p a end asks Up (Ok Text) among at_end = tt
step_denied p a end asks Up (Ok Quiet) among at_end = tt
step_denied p a end asks Up (Err fault) among at_end = tt
step_denied p a end asks (Put octets) given among at_end = tt
step_denied p a end asks (PutClose octets c) given among at_end = tt
step_denied p a end asks (Close c) given among at_end = tt
step_denied p a end asks Nothing given among at_end = tt

-- an entry is no denial
entries_denied : (p : Policy) (end : Option Vmac) (asks : List Identity) (place : ℕ) (E : List Entry) → AllByRecursion (DeniesIfNoted p end asks) (map (made place) E)
entries_denied p end asks place [] = tt
entries_denied p end asks place (e ∷ E) = (tt, entries_denied p end asks place E)

answer_denied : (p : Policy) (end : Option Vmac) (asks : List Identity) (a : Option Answer) (E : List Entry) → AllByRecursion (DeniesIfNoted p end asks) (made_at a E)
answer_denied p end asks (Some (replies place looks reply)) E = entries_denied p end asks place E
answer_denied p end asks (Some worn) E = tt
answer_denied p end asks (Some no_memory) E = tt
answer_denied p end asks None E = tt

-- ---- what is called

admitted : (b : Bool) (d : Denial) → true ≡ is_none (if b then None else Some d) && true → b ≡ true
admitted true d h = refl
admitted false d h = cc

pair_allowed : (p : Policy) (from to : Vmac) (w : Decision) → decided_of p.members.items p.rules.items from to ≡ w → true ≡ is_none (denied_by w from to) && true → Allows p from to
pair_allowed p from to (Allowed rule) is h = (rule, is)
pair_allowed p from to (Denied rule) is h = cc

unicast_allowed : (p : Policy) (from : Vmac) (m : List ℕ) (b : Bool) → true ≡ is_none (if b then None else denied_pair p from (Some (destination m))) && true → b ≡ false
    → Allows p from (destination m)
unicast_allowed p from m true h out = cc
unicast_allowed p from m false h out = pair_allowed p from (destination m) (decided_of p.members.items p.rules.items from (destination m)) refl h

message_allowed : (p : Policy) (a end : Option Vmac) (m : List ℕ) → is_some a ≡ true → end ≡ a → true ≡ is_none (denied_from p a m) && true → is_broadcast m ≡ false → (from : Vmac)
    × (end ≡ Some from) × Allows p from (destination m)
message_allowed p None end m k e h out = cc
message_allowed p (Some from) end m k e h out = (from, e, unicast_allowed p from m (is_broadcast m) h out)

forward_allowed : (v : Terms) (p : Policy) (conn : Option ℕ) (a end : Option Vmac) (m : List ℕ) (looks : List Look) (reply : Reply)
    → ((c : ℕ) → conn ≡ Some c → (is_some a ≡ true) × (end ≡ a)) → true ≡ is_none (denied_from p a m) && true
    → AllByRecursion (λ (e : Entry). AllowsCall p end e.call) (forwarded_by v conn m looks reply)
forward_allowed v p None a end m looks reply own h = tt
forward_allowed v p (Some c) a end m looks reply own h = (message_allowed p a end m (own c refl).0 (own c refl).1 h, tt)

called_allowed : (v : Terms) (p : Policy) (s : Standing) (st : Step) (given : Result Incoming LinkFault) (answer : Option Answer) (end : Option Vmac) → v.policy ≡ Some p
    → ((c : ℕ) → s.conn ≡ Some c → (is_some s.address ≡ true) × (end ≡ s.address))
    → is_some answer ≡ calls_hub v s st given → AllByRecursion (λ (e : Entry). AllowsCall p end e.call) (called v s st given answer)
called_allowed v p s (Ask who) given (Some (replies place looks reply)) end guarded own calls =
    (admitted (is_admitted p.members.items who) (OfConnect who.vmac) (calls ∙ ap (λ (q : Option Policy). is_none (denied_connect q who) && true) guarded), tt)
called_allowed v p s (Ask who) given (Some worn) end guarded own calls = tt
called_allowed v p s (Ask who) given (Some no_memory) end guarded own calls = tt
called_allowed v p s (Ask who) given None end guarded own calls = tt
called_allowed v p s Up (Ok (Message m)) (Some (replies place looks reply)) end guarded own calls =
    forward_allowed v p s.conn s.address end m looks reply own (calls ∙ ap (λ (q : Option Policy). is_none (denied_message q s.address m) && true) guarded)
called_allowed v p s Up (Ok (Message m)) (Some worn) end guarded own calls = tt
called_allowed v p s Up (Ok (Message m)) (Some no_memory) end guarded own calls = tt
called_allowed v p s Up (Ok (Message m)) None end guarded own calls = tt
called_allowed v p s Up (Ok Closed) answer end guarded own calls = tt
called_allowed v p s Up (Ok Text) answer end guarded own calls = tt
called_allowed v p s Up (Ok Quiet) answer end guarded own calls = tt
called_allowed v p s Up (Err fault) answer end guarded own calls = tt
called_allowed v p s (Put octets) given answer end guarded own calls = tt
called_allowed v p s (PutClose octets c) given answer end guarded own calls = tt
called_allowed v p s (Close c) given answer end guarded own calls = tt
called_allowed v p s Nothing given answer end guarded own calls = tt

-- ---- turns

-- who asks in a turn
abbrev asks_in : Terms → Standing → Turn → List Identity
asks_in v s t = asked (message_in v s t)

module _ (v : Terms) (p : Policy) (guarded : v.policy ≡ Some p) where
  -- by the address at the end: where somebody has joined it is that of now
  module _ (s : Standing) (t : Turn) (end : Option Vmac) (at_end : is_in s ≡ true → end ≡ s.address) (placed : Placed s) (is : IsTurn v s t) where
    frames_here : AllByRecursion (AllowsFrame p end) (put_in v s t)
    frames_here = by (is_in s) refl
      where
        by : (b : Bool) → is_in s ≡ b → AllByRecursion (AllowsFrame p end) (put_in v s t)
        by true k = subst (λ (q : Option Policy). AllByRecursion (AllowsFrame p end) (let_through q s.address t.opening.frames)) (sym guarded)
            (address_allowed p s.address end t.opening.frames (sym placed ∙ k) (at_end k))
        by false k = subst (AllByRecursion (AllowsFrame p end)) (sym (none_put v s t k is)) tt

    own_here : Tied s → (c : ℕ) → (opened s t.opening).conn ≡ Some c → (is_some (opened s t.opening).address ≡ true) × (end ≡ (opened s t.opening).address)
    own_here tied c e =
        let k : is_in s ≡ true = tied ∙ ap is_some (sym (opened_in s t.opening).1 ∙ e) in
        (ap is_some (opened_address s t.opening) ∙ sym placed ∙ k, at_end k ∙ sym (opened_address s t.opening))

    calls_here : Tied s → AllByRecursion (λ (e : Entry). AllowsCall p end e.call) (entries_in v s t)
    calls_here tied = by t.hearing is.hearing
      where
        by : (h : Option Hearing) → IsHearingIf v (opened s t.opening) t.opening.reading h
            → AllByRecursion (λ (e : Entry). AllowsCall p end e.call) (entries_after v (opened s t.opening) t.opening.reading h)
        by None heard = tt
        by (Some h) heard = called_allowed v p (opened s t.opening) (step_of v (opened s t.opening) t.opening.reading h) h.given h.answer end guarded (own_here tied) heard.calls

    opening_denied : AllByRecursion (DeniesIfNoted p end (asks_in v s t)) (map denied (denials v.policy s.address t.opening.frames))
    opening_denied = subst (λ (q : Option Policy). AllByRecursion (DeniesIfNoted p end (asks_in v s t)) (map denied (denials q s.address t.opening.frames))) (sym guarded) (by (is_in s) refl)
      where
        by : (b : Bool) → is_in s ≡ b → AllByRecursion (DeniesIfNoted p end (asks_in v s t)) (map denied (denials_by p s.address t.opening.frames))
        by true k = frames_denied p s.address end (asks_in v s t) t.opening.frames (at_end k)
        by false k = subst (λ (fs : List (List ℕ)). AllByRecursion (DeniesIfNoted p end (asks_in v s t)) (map denied (denials_by p s.address fs)))
            (sym (takes_none v s t.opening k is.opening.takes).0) tt

    from_end : (from : Vmac) → (opened s t.opening).address ≡ Some from → end ≡ Some from
    from_end from e =
        let now : s.address ≡ Some from = sym (opened_address s t.opening) ∙ e in
        at_end (placed ∙ ap is_some now) ∙ now

    denials_here : AllByRecursion (DeniesIfNoted p end (asks_in v s t)) (notes_in v s t)
    denials_here = all_append (DeniesIfNoted p end (asks_in v s t)) (map denied (denials v.policy s.address t.opening.frames))
        (notes_after v (opened s t.opening) t.opening.reading t.hearing) opening_denied (by t.hearing)
      where
        by : (h : Option Hearing) → AllByRecursion (DeniesIfNoted p end (asked (message_after v (opened s t.opening) h))) (notes_after v (opened s t.opening) t.opening.reading h)
        by None = tt
        by (Some h) =
            let o = opened s t.opening in
            let st = step_of v o t.opening.reading h in
            let those = asked (message_by v o h.given) in
            all_append (DeniesIfNoted p end those) (map denied (if_any (denied_in v o st h.given))) (made_at h.answer (called v o st h.given h.answer))
            (subst (λ (q : Option Policy). AllByRecursion (DeniesIfNoted p end those) (map denied (if_any (denial_of q o.address st h.given)))) (sym guarded)
            (step_denied p o.address end those st h.given (λ who e. ([], [], heard_asked v o t.opening.reading h.judged h.given who e)) from_end))
            (answer_denied p end those h.answer (called v o st h.given h.answer))

  frames_turns : (s : Standing) (ts : List Turn) → Placed s → EachTurn IsTurn v s ts → AllByRecursion (AllowsFrame p (stands_after_all v s ts).address) (shares put_in v s ts)
  frames_turns s [] placed is = tt
  frames_turns s (t ∷ ts) placed is =
      let end = (stands_after_all v (after v s t) ts).address in
      all_append (AllowsFrame p end) (put_in v s t) (shares put_in v (after v s t) ts) (frames_here s t end (end_is v s t ts) placed is.0)
      (frames_turns (after v s t) ts (placed_after v s t placed) is.1)

  calls_turns : (s : Standing) (ts : List Turn) → Tied s → Placed s → EachTurn IsTurn v s ts
      → AllByRecursion (λ (e : Entry). AllowsCall p (stands_after_all v s ts).address e.call) (shares entries_in v s ts)
  calls_turns s [] tied placed is = tt
  calls_turns s (t ∷ ts) tied placed is =
      let end = (stands_after_all v (after v s t) ts).address in
      all_append (λ (e : Entry). AllowsCall p end e.call) (entries_in v s t) (shares entries_in v (after v s t) ts) (calls_here s t end (end_is v s t ts) placed is.0 tied)
      (calls_turns (after v s t) ts (tied_after v s t tied) (placed_after v s t placed) is.1)

  denials_turns : (s : Standing) (ts : List Turn) → Placed s → EachTurn IsTurn v s ts
      → AllByRecursion (DeniesIfNoted p (stands_after_all v s ts).address (shares asks_in v s ts)) (shares notes_in v s ts)
  denials_turns s [] placed is = tt
  denials_turns s (t ∷ ts) placed is =
      let end = (stands_after_all v (after v s t) ts).address in
      let here = asks_in v s t in
      let rest = shares asks_in v (after v s t) ts in
      all_append (DeniesIfNoted p end (here ++ rest)) (notes_in v s t) (shares notes_in v (after v s t) ts)
      (denies_more p end here (here ++ rest) (notes_in v s t) (λ who k. among_left who here rest k) (denials_here s t end (end_is v s t ts) placed is.0))
      (denies_more p end rest (here ++ rest) (shares notes_in v (after v s t) ts) (λ who k. among_right who here rest k) (denials_turns (after v s t) ts (placed_after v s t placed) is.1))

-- ---- a session

leave_allowed : (p : Policy) (end : Option Vmac) (caller : ℕ) (c : Option ℕ) (taken empties : ℕ) (e : End) → AllByRecursion (λ (e : Entry). AllowsCall p end e.call) (leaving caller c taken empties e)
leave_allowed p end caller None taken empties e = tt
leave_allowed p end caller (Some c) taken empties e = (tt, tt)

leave_denied : (p : Policy) (end : Option Vmac) (asks : List Identity) (lost : Option LinkFault) (place : ℕ) (E : List Entry) → AllByRecursion (DeniesIfNoted p end asks) (noted_leaving lost place E)
leave_denied p end asks None place E = entries_denied p end asks place E
leave_denied p end asks (Some fault) place E = tt

pub policy_is_followed : (v : Terms) (T : List Said) (R : List ℕ) (E : List Entry) (frames : List (List ℕ)) (ended : Ended) (x : Session v T R E frames ended)
    → PolicyIsFollowed v T E frames (journal_of x) x.course
policy_is_followed v T R E frames ended x =
    let c = x.course in
    let end = (end_of c).address in
    let left = leaving v.caller ended.conn ended.taken ended.empties x.reply in
    let those = shares asks_in v begun (all_turns c) in
    let all : asked (messages_of c) ≡ those = mapped_shares (λ m. asked_by m.verdict) message_in v begun (all_turns c) in
    record {
      talk = x.talk;
      address = λ vmac e. connected_as v T R E frames ended x vmac e;
      put = turns_put v begun (all_turns c) c.turns ∙ ap (let_through v.policy end) (sym x.received);
      guarded = λ p guarded. record {
        frames = frames_turns v p guarded begun (all_turns c) refl c.turns;
        calls = subst (AllByRecursion (λ (e : Entry). AllowsCall p end e.call)) (sym x.entries)
            (all_append (λ (e : Entry). AllowsCall p end e.call) (entries_of c) left (calls_turns v p guarded begun (all_turns c) tied_begun refl c.turns)
            (leave_allowed p end v.caller ended.conn ended.taken ended.empties x.reply));
        denials = subst (λ (asks : List Identity). AllByRecursion (DeniesIfNoted p end asks) (journal_of x)) (sym all)
            (all_append (DeniesIfNoted p end those) (notes_of c) (noted_leaving c.stop.lost x.left_at (leave_of x)) (denials_turns v p guarded begun (all_turns c) refl c.turns)
            (leave_denied p end those c.stop.lost x.left_at (leave_of x)));
      };
    }
