-- The causes of a session's end, each exactly, by what came last.
use Rattle.std.specs.Prelude.{◌≡◌, ◌≢◌, ◌⊎◌, ◌↔◌, ℕ, Bool, false, true, IsTrue, List, Option, Some, None, Result, Ok, Err}
use Rattle.bsc_frame.specs.declared.body.Body.TheVariants.{DisconnectRequest}
use Rattle.bsc_frame.specs.declared.message.Message.{Message as Bvlc}
use Rattle.bsc_checks.specs.declared.phase.Phase.TheVariants.{AwaitingRequest, Connected}
use Rattle.bsc_checks.specs.declared.verdict.Verdict.TheVariants.{Pass}
use Rattle.bsc_history.specs.declared.ending.End.{End}
use Rattle.bsc_history.specs.declared.entry.Entry.{Entry}
use Rattle.bsc_history.specs.declared.looks.Look.{Look}
use Rattle.bsc_history.specs.declared.reply.Refusal.{Refusal}
use Rattle.bsc_history.specs.declared.reply.Reply.TheVariants.{Refused as RefusedReply}
use Rattle.bsc_accept.specs.Past.{last_message, phase}
use Rattle.bsc_accept.specs.Waits.{connect_wait_is_over, is_idle}
use Rattle.bsc_edge.specs.declared.fault.LinkFault.{LinkFault}
use Rattle.bsc_edge.specs.declared.fault.LinkFault.TheVariants.{Failed, NoMemory as MemoryFault}
use Rattle.bsc_edge.specs.declared.incoming.Incoming.{Incoming}
use Rattle.bsc_edge.specs.declared.incoming.Incoming.TheVariants.{Closed, Message, Text}
use Rattle.bsc_edge.specs.declared.said.Said.{Said}
use Rattle.bsc_session.specs.declared.ended.Ended.{Ended}
use Rattle.bsc_session.specs.declared.why.Why.{Why}
use Rattle.bsc_session.specs.declared.why.Why.TheVariants.{Denied, EndedBy, Idle, JournalFault, LinkFault as WhyLinkFault, NoMemory, NotBinary, PeerClosed}
use Rattle.bsc_session.specs.declared.why.Why.TheVariants.{PeerLeft, Refused, Spent, WaitExpired, Worn}
use Rattle.bsc_octets.specs.declared.identity.Identity.{Identity}
use Rattle.bsc_accept.specs.declared.step.Step.TheVariants.{Ask}
use Rattle.bsc_lines.specs.declared.denial.Denial.{Denial}
use Rattle.bsc_session.specs.Answering.{denial_in, step_of}
use Rattle.bsc_session.specs.Course.{end_of, standing}
use Rattle.bsc_session.specs.Judging.{verdict_on}
use Rattle.bsc_session.specs.Reading.{started}
use Rattle.bsc_session.specs.Receiving.{Answer, replies, worn, no_memory, Hearing}
use Rattle.bsc_session.specs.Standings.{Standing, Terms, begun, start_of}
use Rattle.bsc_session.specs.Taking.{opened}
use Rattle.bsc_session.specs.Talk.{Session, lost_of}
use Rattle.bsc_session.specs.Turns.{Turn}

-- ---- what came last

abbrev pub given_in : Option Hearing → Option (Result Incoming LinkFault)
given_in None = None
given_in (Some h) = Some h.given

abbrev pub judged_in : Option Hearing → Bool
judged_in None = true
judged_in (Some h) = h.judged

abbrev pub answer_in : Option Hearing → Option Answer
answer_in None = None
answer_in (Some h) = h.answer

-- what a receive answered where it failed, else what the put after it answered where it failed
abbrev pub fault_at : Result Incoming LinkFault → Option LinkFault → Option LinkFault
fault_at (Err fault) put = Some fault
fault_at (Ok given) put = put

abbrev pub hearing_fault : Option LinkFault → Option Hearing → Option LinkFault
hearing_fault before None = before
hearing_fault before (Some h) = fault_at h.given h.fault

-- What the link gave in the last turn.
abbrev pub last_given : Option Turn → Option (Result Incoming LinkFault)
last_given None = None
last_given (Some t) = given_in t.hearing

-- Whether there was memory for judging in the last turn.
abbrev pub last_judged : Option Turn → Bool
last_judged None = true
last_judged (Some t) = judged_in t.hearing

-- What the hub answered in the last turn.
abbrev pub last_answer : Option Turn → Option Answer
last_answer None = None
last_answer (Some t) = answer_in t.hearing

-- What the last call on the link answered, but the closing, where it failed.
abbrev pub last_fault : Option Turn → Option LinkFault
last_fault None = None
last_fault (Some t) = hearing_fault t.opening.fault t.hearing

-- The hub refused so.
abbrev pub IsHubRefusal : Option Answer → Refusal → Type 0
IsHubRefusal answer r = (at : ℕ) × (looks : List Look) × (answer ≡ Some (replies at looks (RefusedReply r)))

-- Memory was wanting: in the last call on the link, in judging, or in the call of the hub.
abbrev pub LacksMemory : Option Turn → Type 0
LacksMemory last = (last_fault last ≡ Some MemoryFault) ⊎ ((last_judged last ≡ false) ⊎ (last_answer last ≡ Some no_memory))

-- ---- what the last turn found, by where the session stood before it

-- At the last reading nobody had joined, and the connect wait was over.
abbrev pub HasWaited : Terms → Standing → Option Turn → Type 0
HasWaited v s None = ⊥
HasWaited v s (Some t) =
    let now = t.opening.reading in
    let from = start_of v (started s now) in
    (phase s.events ≡ AwaitingRequest) × IsTrue (connect_wait_is_over from now)

-- At the last reading the peer was connected, and the last message had come twice the heartbeat ago.
abbrev pub HasIdled : Terms → Standing → Option Turn → Type 0
HasIdled v s None = ⊥
HasIdled v s (Some t) =
    let now = t.opening.reading in
    let from = start_of v (started s now) in
    (phase s.events ≡ Connected) × IsTrue (is_idle from (last_message from s.events) now)

-- The message given passed, in Connected, as a Disconnect-Request, and its answer was put.
pub record AnswersLeaving (v : Terms) (s : Standing) (h : Hearing) : Type 0 where
  pub connected : phase s.events ≡ Connected
  pub octets : List ℕ
  pub gave : h.given ≡ Ok (Message octets)
  pub had_memory : h.judged ≡ true
  pub message : Bvlc
  pub passes : verdict_on v s octets ≡ Pass message
  pub leaves : message.body ≡ DisconnectRequest
  pub put : h.fault ≡ None

abbrev pub AnswersLeavingIn : Terms → Standing → Option Hearing → Type 0
AnswersLeavingIn v s None = ⊥
AnswersLeavingIn v s (Some h) = AnswersLeaving v s h

-- The step of the message given asks to join, and the policy denies it.
pub record AsksDenied (v : Terms) (s : Standing) (now : ℕ) (h : Hearing) : Type 0 where
  pub who : Identity
  pub asks : step_of v s now h ≡ Ask who
  pub denial : Denial
  pub denies : denial_in v s now h ≡ Some denial

abbrev pub IsDeniedIn : Terms → Standing → ℕ → Option Hearing → Type 0
IsDeniedIn v s now None = ⊥
IsDeniedIn v s now (Some h) = AsksDenied v s now h

-- In the last turn a Disconnect-Request was answered.
abbrev pub HasAnswered : Terms → Standing → Option Turn → Type 0
HasAnswered v s None = ⊥
HasAnswered v s (Some t) = AnswersLeavingIn v (opened s t.opening) t.hearing

-- In the last turn a device asked to join that isn't admitted.
abbrev pub IsDenied : Terms → Standing → Option Turn → Type 0
IsDenied v s None = ⊥
IsDenied v s (Some t) = IsDeniedIn v (opened s t.opening) t.opening.reading t.hearing

-- ---- the causes

-- Neither the link, nor memory, nor the count of receives ended the session.
pub record EndsOtherwise (last : Option Turn) : Type 0 where
  pub link : last_fault last ≢ Some Failed
  pub memory : ¬ (LacksMemory last)
  pub receives : last ≢ None

-- The cause of a session's end whose lines were all put, by where the session stood before its last turn, that turn, and
-- the End that the outlet gave: the link, memory and the count of receives come first; then that End; and the others come
-- where it gave none.
pub record AreExact (v : Terms) (s : Standing) (last : Option Turn) (met : Option End) (why : Why) : Type 0 where
  pub link_fault : why ≡ WhyLinkFault ↔ (last_fault last ≡ Some Failed)
  pub no_memory : why ≡ NoMemory ↔ LacksMemory last
  pub spent : why ≡ Spent ↔ (last ≡ None)
  pub ended_by : (e : End) → why ≡ EndedBy e ↔ ((met ≡ Some e) × EndsOtherwise last)
  pub peer_closed : why ≡ PeerClosed ↔ ((met ≡ None) × (last_given last ≡ Some (Ok Closed)))
  pub not_binary : why ≡ NotBinary ↔ ((met ≡ None) × (last_given last ≡ Some (Ok Text)))
  pub is_worn : why ≡ Worn ↔ ((met ≡ None) × (last_answer last ≡ Some worn))
  pub refused : (r : Refusal) → why ≡ Refused r ↔ ((met ≡ None) × IsHubRefusal (last_answer last) r × (last_fault last ≡ None))
  pub peer_left : why ≡ PeerLeft ↔ ((met ≡ None) × HasAnswered v s last)
  pub denied : (rule : ℕ) → why ≡ Denied rule ↔ ((met ≡ None) × (rule ≡ 0) × IsDenied v s last)
  pub wait_expired : why ≡ WaitExpired ↔ ((met ≡ None) × HasWaited v s last)
  pub idle : why ≡ Idle ↔ ((met ≡ None) × HasIdled v s last)

-- The cause of any session's end, by why a line wasn't put, where one wasn't: a lost line comes before all else.
pub record AreExactBy (v : Terms) (s : Standing) (last : Option Turn) (met : Option End) (lost : Option LinkFault) (why : Why) : Type 0 where
  pub journal_fault : why ≡ JournalFault ↔ (lost ≡ Some Failed)
  pub no_memory : lost ≡ Some MemoryFault → why ≡ NoMemory
  pub others : lost ≡ None → AreExact v s last met why

-- Whatever session this is the end of, its cause is exact.
abbrev pub HasExactCause : Terms → Ended → Type 0
HasExactCause v ended = (T : List Said) (R : List ℕ) (E : List Entry) (frames : List (List ℕ)) (x : Session v T R E frames ended)
    → AreExactBy v (standing v begun x.course.went_on) x.course.last (end_of x.course).ended (lost_of x) ended.why

-- It is so of each session.
abbrev pub CausesAreExact : Type 0
CausesAreExact = (v : Terms) (ended : Ended) → HasExactCause v ended
