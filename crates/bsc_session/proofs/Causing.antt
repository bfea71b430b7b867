-- How a session stops: each way with what the link gave last, whether there was memory to judge it, what the hub answered
-- last, and the fault that came last.
-- It serves the clauses of `causes_are_exact` and `serve`.
use Rattle.std.proofs.Common.{◌≡◌, ◌⊎◌, ◌↔◌, ℕ, Bool, true, false, is_some, is_none, ◌&&◌, List, [], refl, ap, sym, ◌∙◌, inl, inr, Option, Some, None, Result, Ok, Err}
use Rattle.bsc_history.specs.declared.ending.End.{End}
use Rattle.bsc_history.specs.declared.looks.Look.{Look}
use Rattle.bsc_history.specs.declared.reply.Refusal.{Refusal}
use Rattle.bsc_history.specs.declared.reply.Reply.{Reply}
use Rattle.bsc_history.specs.declared.reply.Reply.TheVariants.{Joined, Refused as RefusedReply}
use Rattle.bsc_edge.specs.declared.fault.LinkFault.{LinkFault}
use Rattle.bsc_edge.specs.declared.fault.LinkFault.TheVariants.{Failed, NoMemory as MemoryFault}
use Rattle.bsc_edge.specs.declared.incoming.Incoming.{Incoming}
use Rattle.bsc_edge.specs.declared.incoming.Incoming.TheVariants.{Message, Text, Quiet, Closed}
use Rattle.bsc_accept.specs.declared.closing.Closing.{Closing}
use Rattle.bsc_accept.specs.declared.step.Step.{Step}
use Rattle.bsc_accept.specs.declared.step.Step.TheVariants.{Ask, Up}
use Rattle.bsc_session.specs.declared.why.Why.{Why}
use Rattle.bsc_session.specs.declared.why.Why.TheVariants.{PeerClosed, NotBinary, PeerLeft, Refused, WaitExpired, Idle, EndedBy, Worn, LinkFault as WhyLinkFault, NoMemory, Spent, Denied, JournalFault}
use Rattle.bsc_lines.specs.declared.denial.Denial.{Denial}
use Rattle.bsc_session.specs.declared.stop.Stop.{Stop}
use Rattle.bsc_session.specs.Answering.{AnswerFits, calls, cause_of, denial_in, last_wanted, stop_by, stop_given, stop_judged, stop_message}
use Rattle.bsc_session.specs.Causes.{fault_at, given_in, judged_in, answer_in, hearing_fault, IsHubRefusal}
use Rattle.bsc_session.specs.Judging.{LacksAtPass, heard, heard_step}
use Rattle.bsc_session.specs.Puts.{HasPut, octets_in}
use Rattle.bsc_session.specs.Reading.{ticked, wanted_at}
use Rattle.bsc_session.specs.Receiving.{Answer, replies, worn, no_memory, Hearing}
use Rattle.bsc_session.specs.Standings.{Standing, Terms}
use Rattle.bsc_session.specs.Stops.{stop_at, stop_if, closes, first_of, closing_in}
use Rattle.bsc_session.specs.Taking.{Opening, put_first, waiting_for, ended_by, end_step, stop_before, opened}
use Rattle.bsc_session.specs.Turns.{IsTurn, stop_in}
use Rattle.bsc_session.proofs.EndingAtFault.{fault_put, nothing_put, some_is, alone, no_stop, after_none, none_put}
use Rattle.bsc_session.proofs.Filtering.{no_put}

-- the hub answered neither Worn nor NoMemory
abbrev pub IsTaken : Option Answer → Type 0
IsTaken a = stop_by a ≡ None

-- how a session ends whose lines were all put
pub data Ends : Option (Result Incoming LinkFault) → Bool → Option Answer → Option LinkFault → Why → Type 0 where
  unjoined : Ends None true None None WaitExpired
  idle : Ends None true None None Idle
  cut : Ends None true None (Some Failed) WhyLinkFault
  cut_memory : Ends None true None (Some MemoryFault) NoMemory
  parted : (e : End) → Ends None true None None (EndedBy e)
  unheard_fault : Ends (Some (Err Failed)) true None (Some Failed) WhyLinkFault
  unheard_memory : Ends (Some (Err MemoryFault)) true None (Some MemoryFault) NoMemory
  closed : Ends (Some (Ok Closed)) true None None PeerClosed
  text : Ends (Some (Ok Text)) true None None NotBinary
  unjudged : (x : List ℕ) → Ends (Some (Ok (Message x))) false None None NoMemory
  is_worn : (x : List ℕ) → Ends (Some (Ok (Message x))) true (Some worn) None Worn
  memory : (x : List ℕ) → Ends (Some (Ok (Message x))) true (Some no_memory) None NoMemory
  failed : (x : List ℕ) (a : Option Answer) → IsTaken a → Ends (Some (Ok (Message x))) true a (Some Failed) WhyLinkFault
  failed_memory : (x : List ℕ) (a : Option Answer) → IsTaken a → Ends (Some (Ok (Message x))) true a (Some MemoryFault) NoMemory
  refused : (x : List ℕ) (at : ℕ) (l : List Look) (r : Refusal) → Ends (Some (Ok (Message x))) true (Some (replies at l (RefusedReply r))) None (Refused r)
  denied : (x : List ℕ) → Ends (Some (Ok (Message x))) true None None (Denied 0)
  left : (x : List ℕ) (a : Option Answer) → IsTaken a → ((r : Refusal) → IsHubRefusal a r → ⊥) → Ends (Some (Ok (Message x))) true a None PeerLeft

pub why_is : (a b : Stop) → Some a ≡ Some b → b.why ≡ a.why
why_is a b h = ap (λ (s : Stop). s.why) (some_is a b h)

-- what asks for no call gets no answer
no_answer : (d : Option Denial) (a : Option Answer) → is_some a ≡ is_none d && false → a ≡ None
no_answer d None h = refl
no_answer None (Some x) h = cc
no_answer (Some d) (Some x) h = cc

-- ---- the opening

waiting_ends : (conn : Option ℕ) → Ends None true None None (waiting_for conn)
waiting_ends None = unjoined
waiting_ends (Some c) = idle

cut_ends : (f : LinkFault) → Ends None true None (Some f) (stop_at f).why
cut_ends Failed = cut
cut_ends MemoryFault = cut_memory

pub closes_why : (w : Why) (c : Option Closing) (stop : Stop) → closes w c ≡ Some stop → stop.why ≡ w
closes_why w None stop h = cc
closes_why w (Some c) stop h = why_is _ stop h

part_ends : (v : Terms) (s : Standing) (met : Option End) (now : ℕ) (stop : Stop) → closes (ended_by met) (closing_in (end_step v s now met)) ≡ Some stop → Ends None true None None stop.why
part_ends v s None now stop h = cc
part_ends v s (Some e) now stop h = rw (closes_why (EndedBy e) (closing_in (end_step v s now (Some e))) stop h) (parted e)

opening_ends : (conn : Option ℕ) (tick : Option Closing) (v : Terms) (s : Standing) (met : Option End) (now : ℕ) (os : List (List ℕ)) (fault : Option LinkFault) (stop : Stop)
    → HasPut os fault → (tick ≡ None) ⊎ (os ≡ [])
    → first_of (closes (waiting_for conn) tick) (first_of (stop_if fault) (closes (ended_by met) (closing_in (end_step v s now met)))) ≡ Some stop
    → Ends None true None fault stop.why
opening_ends conn None v s met now os None stop h quiet is = part_ends v s met now stop is
opening_ends conn None v s met now os (Some f) stop h quiet is = rw (why_is (stop_at f) stop is) (cut_ends f)
opening_ends conn (Some c) v s met now os fault stop h (inl quiet) is = cc
opening_ends conn (Some c) v s met now os fault stop h (inr none) is =
    let k : HasPut [] fault = rw none at h in
    rw (no_put fault k, why_is _ stop is) (waiting_ends conn)

-- ---- the hearing

unheard_ends : (f : LinkFault) → Ends (Some (Err f)) true None (Some f) (stop_at f).why
unheard_ends Failed = unheard_fault
unheard_ends MemoryFault = unheard_memory

failed_ends : (x : List ℕ) (a : Option Answer) (f : LinkFault) → IsTaken a → Ends (Some (Ok (Message x))) true a (Some f) (stop_at f).why
failed_ends x a Failed h = failed x a h
failed_ends x a MemoryFault h = failed_memory x a h

none_refused : (r : Refusal) → IsHubRefusal None r → ⊥
none_refused r h = (let k = h.2 in cc)

joined_refused : (at : ℕ) (l : List Look) (c : ℕ) (x : Option ℕ) (r : Refusal) → IsHubRefusal (Some (replies at l (Joined c x))) r → ⊥
joined_refused at l c x r h = (let k = h.2 in cc)

-- a message that was answered with no fault
left_ends : (x : List ℕ) (v : Terms) (s : Standing) (st : Step) (a : Option Answer) (stop : Stop) → IsTaken a → AnswerFits st a
    → closes (cause_of st a) (closing_in (last_wanted v s st a)) ≡ Some stop → is_some a ≡ calls st
    → Ends (Some (Ok (Message x))) true a None stop.why
left_ends x v s (Ask who) (Some (replies at l (RefusedReply r))) stop h fits is calls =
    rw (closes_why (Refused r) (closing_in (last_wanted v s (Ask who) (Some (replies at l (RefusedReply r))))) stop is) (refused x at l r)
left_ends x v s (Ask who) (Some (replies at l (Joined c y))) stop h fits is calls =
    rw (closes_why PeerLeft (closing_in (last_wanted v s (Ask who) (Some (replies at l (Joined c y))))) stop is) (left x (Some (replies at l (Joined c y))) refl (joined_refused at l c y))
left_ends x v s (Ask who) a stop h fits is calls = cc
left_ends x v s Up a stop h fits is calls = cc
left_ends x v s st None stop h fits is calls = rw (closes_why PeerLeft (closing_in (last_wanted v s st None)) stop is) (left x None refl none_refused)
left_ends x v s st (Some a) stop h fits is calls = cc

answered_ends : (x : List ℕ) (v : Terms) (s : Standing) (st : Step) (a : Option Answer) (fault : Option LinkFault) (stop : Stop) → is_some a ≡ calls st → AnswerFits st a
    → HasPut (octets_in (last_wanted v s st a)) fault
    → first_of (stop_by a) (first_of (stop_if fault) (closes (cause_of st a) (closing_in (last_wanted v s st a)))) ≡ Some stop → Ends (Some (Ok (Message x))) true a fault stop.why
answered_ends x v s st (Some worn) fault stop calls fits put is =
    let k : HasPut [] fault = rw (nothing_put v s st worn (inl refl) calls) at put in
    rw (no_put fault k, why_is _ stop is) (is_worn x)
answered_ends x v s st (Some no_memory) fault stop calls fits put is =
    let k : HasPut [] fault = rw (nothing_put v s st no_memory (inr refl) calls) at put in
    rw (no_put fault k, why_is _ stop is) (memory x)
answered_ends x v s st a None stop calls fits put is = left_ends x v s st a stop refl fits is calls
answered_ends x v s st a (Some f) stop calls fits put is = rw (why_is (stop_at f) stop is) (failed_ends x a f refl)

message_ends : (x : List ℕ) (v : Terms) (s : Standing) (st : Step) (d : Option Denial) (a : Option Answer) (fault : Option LinkFault) (stop : Stop) → is_some a ≡ is_none d && calls st
    → AnswerFits st a → HasPut (octets_in (last_wanted v s st a)) fault
    → stop_message v s st d a None fault ≡ Some stop → Ends (Some (Ok (Message x))) true a fault stop.why
message_ends x v s st None a fault stop calls fits put is = answered_ends x v s st a fault stop calls fits put is
message_ends x v s st (Some d) (Some a) fault stop calls fits put is = cc
message_ends x v s (Ask who) (Some d) None fault stop calls fits put is = rw (no_put fault put, why_is _ stop is) (denied x)
message_ends x v s Up (Some d) None fault stop calls fits put is = (let k : None ≡ Some stop = rw (no_put fault put) at is in cc)
message_ends x v s st (Some d) None fault stop calls fits put is = answered_ends x v s st None fault stop refl fits put is

judged_ends : (x : List ℕ) (v : Terms) (s0 s : Standing) (now : ℕ) (judged : Bool) (d : Option Denial) (a : Option Answer) (fault : Option LinkFault) (stop : Stop)
    → is_some a ≡ is_none d && calls (heard_step v s0 now judged (Ok (Message x))) → AnswerFits (heard_step v s0 now judged (Ok (Message x))) a
    → HasPut (octets_in (last_wanted v s (heard_step v s0 now judged (Ok (Message x))) a)) fault
    → stop_judged judged (stop_message v s (heard_step v s0 now judged (Ok (Message x))) d a None fault) ≡ Some stop
    → Ends (Some (Ok (Message x))) judged a fault stop.why
judged_ends x v s0 s now true d a fault stop calls fits put is = message_ends x v s (heard_step v s0 now true (Ok (Message x))) d a fault stop calls fits put is
judged_ends x v s0 s now false d a fault stop calls fits put is = rw (no_answer d a calls, no_put fault put, why_is _ stop is) (unjudged x)

given_ends : (v : Terms) (s0 s : Standing) (now : ℕ) (judged : Bool) (given : Result Incoming LinkFault) (d : Option Denial) (a : Option Answer) (fault : Option LinkFault) (stop : Stop)
    → LacksAtPass v s0 judged given → is_some a ≡ is_none d && calls (heard_step v s0 now judged given) → AnswerFits (heard_step v s0 now judged given) a
    → HasPut (octets_in (last_wanted v s (heard_step v s0 now judged given) a)) fault
    → stop_given given (stop_judged judged (stop_message v s (heard_step v s0 now judged given) d a None fault)) ≡ Some stop
    → Ends (Some given) judged a (fault_at given fault) stop.why
given_ends v s0 s now true (Err f) d a fault stop lacks calls fits put is = rw (no_answer d a calls, why_is (stop_at f) stop is) (unheard_ends f)
given_ends v s0 s now true (Ok Closed) d a fault stop lacks calls fits put is = rw (no_answer d a calls, no_put fault put, why_is _ stop is) closed
given_ends v s0 s now true (Ok Text) d a fault stop lacks calls fits put is = rw (no_answer d a calls, no_put fault put, why_is _ stop is) text
given_ends v s0 s now true (Ok Quiet) d a fault stop lacks calls fits put is = cc
given_ends v s0 s now judged (Ok (Message x)) d a fault stop lacks calls fits put is = judged_ends x v s0 s now judged d a fault stop calls fits put is
given_ends v s0 s now false (Err f) d a fault stop lacks calls fits put is = absurd lacks
given_ends v s0 s now false (Ok Closed) d a fault stop lacks calls fits put is = absurd lacks
given_ends v s0 s now false (Ok Text) d a fault stop lacks calls fits put is = absurd lacks
given_ends v s0 s now false (Ok Quiet) d a fault stop lacks calls fits put is = absurd lacks

-- ---- the turn

-- why a line of a hearing wasn't put
abbrev pub lost_after : Option Hearing → Option LinkFault
lost_after None = None
lost_after (Some h) = h.lost

pub turn_ends : (v : Terms) (s : Standing) (o : Opening) (h : Option Hearing) (stop : Stop) → o.lost ≡ None → lost_after h ≡ None → IsTurn v s (record { opening = o; hearing = h })
    → stop_in v s (record { opening = o; hearing = h }) ≡ Some stop
    → Ends (given_in h) (judged_in h) (answer_in h) (hearing_fault o.fault h) stop.why
turn_ends v s o None stop first later is stops = opening_ends s.conn (closing_in (wanted_at v s o.reading)) v (ticked s o.reading) o.met o.reading (put_first v s o) o.fault stop
    (fault_put v s o is.opening) (none_put v s o is.opening) (rw first at (sym (alone (stop_before v s o)) ∙ stops))
turn_ends v s o (Some h) stop first later is stops = given_ends v (opened s o) (heard v (opened s o) o.reading h.judged h.given) o.reading h.judged h.given
    (denial_in v (opened s o) o.reading h) h.answer h.fault stop is.hearing.memory is.hearing.calls is.hearing.fits (rw later at is.hearing.cause)
    (rw later at (after_none (stop_before v s o) _ stop (no_stop (stop_before v s o) is.heard) stops))

-- ---- the rows

not_worn : (a : Option Answer) → IsTaken a → a ≡ Some worn → ⊥
not_worn a taken h = (let k = rw h at taken in cc)

not_memory : (a : Option Answer) → IsTaken a → a ≡ Some no_memory → ⊥
not_memory a taken h = (let k = rw h at taken in cc)

pub row_peer_closed : {g : Option (Result Incoming LinkFault)} {j : Bool} {a : Option Answer} {f : Option LinkFault} {w : Why} → Ends g j a f w → w ≡ PeerClosed ↔ (g ≡ Some (Ok Closed))
row_peer_closed closed = (λ h. refl, λ h. refl)
row_peer_closed e = (λ h. cc, λ h. cc)

pub row_not_binary : {g : Option (Result Incoming LinkFault)} {j : Bool} {a : Option Answer} {f : Option LinkFault} {w : Why} → Ends g j a f w → w ≡ NotBinary ↔ (g ≡ Some (Ok Text))
row_not_binary text = (λ h. refl, λ h. refl)
row_not_binary e = (λ h. cc, λ h. cc)

pub row_worn : {g : Option (Result Incoming LinkFault)} {j : Bool} {a : Option Answer} {f : Option LinkFault} {w : Why} → Ends g j a f w → w ≡ Worn ↔ (a ≡ Some worn)
row_worn (is_worn x) = (λ h. refl, λ h. refl)
row_worn (failed x a t) = (λ h. cc, λ h. absurd (not_worn a t h))
row_worn (failed_memory x a t) = (λ h. cc, λ h. absurd (not_worn a t h))
row_worn (left x a t n) = (λ h. cc, λ h. absurd (not_worn a t h))
row_worn e = (λ h. cc, λ h. cc)

reply_is : (i j : ℕ) (l k : List Look) (p q : Reply) → Some (replies i l p) ≡ Some (replies j k q) → p ≡ q
reply_is i j l k p q h = cc

pub row_refused : {g : Option (Result Incoming LinkFault)} {j : Bool} {a : Option Answer} {f : Option LinkFault} {w : Why} → (r : Refusal) → Ends g j a f w
    → w ≡ Refused r ↔ (IsHubRefusal a r × (f ≡ None))
row_refused r (refused x at l k) = (λ h. ((at, l, cc), refl), λ h. (let e = reply_is at h.0.0 l h.0.1 (RefusedReply k) (RefusedReply r) h.0.2 in cc))
row_refused r (failed x a t) = (λ h. ((0, [], cc), cc), λ h. (let e = h.1 in cc))
row_refused r (failed_memory x a t) = (λ h. ((0, [], cc), cc), λ h. (let e = h.1 in cc))
row_refused r (left x a t n) = (λ h. ((0, [], cc), cc), λ h. absurd (n r h.0))
row_refused r e = (λ h. ((0, [], cc), cc), λ h. (let k = h.0.2 in cc))

pub row_link_fault : {g : Option (Result Incoming LinkFault)} {j : Bool} {a : Option Answer} {f : Option LinkFault} {w : Why} → Ends g j a f w → w ≡ WhyLinkFault ↔ (f ≡ Some Failed)
row_link_fault cut = (λ h. refl, λ h. refl)
row_link_fault unheard_fault = (λ h. refl, λ h. refl)
row_link_fault (failed x a t) = (λ h. refl, λ h. refl)
row_link_fault e = (λ h. cc, λ h. cc)

abbrev pub Lacks : Bool → Option Answer → Option LinkFault → Type 0
Lacks j a f = (f ≡ Some MemoryFault) ⊎ ((j ≡ false) ⊎ (a ≡ Some no_memory))

pub row_no_memory : {g : Option (Result Incoming LinkFault)} {j : Bool} {a : Option Answer} {f : Option LinkFault} {w : Why} → Ends g j a f w → w ≡ NoMemory ↔ Lacks j a f
row_no_memory cut_memory = (λ h. inl refl, λ h. refl)
row_no_memory unheard_memory = (λ h. inl refl, λ h. refl)
row_no_memory (failed_memory x a t) = (λ h. inl refl, λ h. refl)
row_no_memory (memory x) = (λ h. inr (inr refl), λ h. refl)
row_no_memory (unjudged x) = (λ h. inr (inl refl), λ h. refl)
row_no_memory (failed x a t) = (λ h. inl cc, λ h. elim h [ inl k ↦ cc | inr k ↦ elim k [ inl i ↦ cc | inr i ↦ absurd (not_memory a t i) ] ])
row_no_memory (left x a t n) = (λ h. inl cc, λ h. elim h [ inl k ↦ cc | inr k ↦ elim k [ inl i ↦ cc | inr i ↦ absurd (not_memory a t i) ] ])
row_no_memory e = (λ h. inl cc, λ h. elim h [ inl k ↦ cc | inr k ↦ elim k [ inl i ↦ cc | inr i ↦ cc ] ])

pub not_spent : {g : Option (Result Incoming LinkFault)} {j : Bool} {a : Option Answer} {f : Option LinkFault} {w : Why} → Ends g j a f w → w ≡ Spent → ⊥
not_spent unjoined h = cc
not_spent e h = cc

-- causes that a reading has, and an End
pub waits_before : {g : Option (Result Incoming LinkFault)} {j : Bool} {a : Option Answer} {f : Option LinkFault} {w : Why} → Ends g j a f w → (w ≡ WaitExpired) ⊎ (w ≡ Idle) → g ≡ None
waits_before unjoined h = refl
waits_before idle h = refl
waits_before e (inl h) = cc
waits_before e (inr h) = cc

pub parts_before : {g : Option (Result Incoming LinkFault)} {j : Bool} {a : Option Answer} {f : Option LinkFault} {w : Why} → (d : End) → Ends g j a f w → w ≡ EndedBy d → g ≡ None
parts_before d (parted e) h = refl
parts_before d e h = cc

pub left_after : {j : Bool} {a : Option Answer} {f : Option LinkFault} {w : Why} → Ends None j a f w → w ≡ PeerLeft → ⊥
left_after unjoined h = cc
left_after e h = cc

pub denied_after : {j : Bool} {a : Option Answer} {f : Option LinkFault} {w : Why} → (rule : ℕ) → Ends None j a f w → w ≡ Denied rule → ⊥
denied_after rule unjoined h = cc
denied_after rule e h = cc

pub not_journal : {g : Option (Result Incoming LinkFault)} {j : Bool} {a : Option Answer} {f : Option LinkFault} {w : Why} → Ends g j a f w → w ≡ JournalFault → ⊥
not_journal unjoined h = cc
not_journal e h = cc
