-- The hearing of a turn: the thing given, the calls of the hub that follow from it, and what is put.
use Rattle.std.specs.Prelude.{Bool, true, false, Err, List, None, Ok, Option, Result, Some, [], is_some, ℕ, ◌∷◌, ◌++◌, ◌&&◌, ◌≡◌, is_none, map, ⊤}
use Rattle.bsc_history.specs.declared.call.Call.TheVariants.{Connect, Forward}
use Rattle.bsc_history.specs.declared.entry.Entry.{Entry}
use Rattle.bsc_history.specs.declared.looks.Look.{Look}
use Rattle.bsc_history.specs.declared.reply.Reply.{Reply}
use Rattle.bsc_history.specs.declared.reply.Reply.TheVariants.{Joined, Refused}
use Rattle.bsc_edge.specs.declared.fault.LinkFault.{LinkFault}
use Rattle.bsc_edge.specs.declared.fault.LinkFault.TheVariants.{NoMemory}
use Rattle.bsc_edge.specs.declared.incoming.Incoming.{Incoming}
use Rattle.bsc_edge.specs.declared.incoming.Incoming.TheVariants.{Closed, Message, Quiet, Text}
use Rattle.bsc_edge.specs.declared.said.Said.{Said}
use Rattle.bsc_edge.specs.declared.said.Said.TheVariants.{Gave}
use Rattle.bsc_accept.specs.declared.event.Event.TheVariants.{Joined as JoinedEvent, Refused as RefusedEvent}
use Rattle.bsc_accept.specs.declared.reason.Reason.TheVariants.{HubWorn, Nothing as NoReason, Policy as PolicyReason}
use Rattle.bsc_accept.specs.declared.step.Step.{Step}
use Rattle.bsc_accept.specs.declared.step.Step.TheVariants.{Ask, Up, Nothing}
use Rattle.bsc_session.specs.declared.stop.Stop.{Stop}
use Rattle.bsc_session.specs.declared.why.Why.{Why}
use Rattle.bsc_session.specs.declared.why.Why.TheVariants.{Denied as WhyDenied, NotBinary, PeerClosed, PeerLeft, Refused as WhyRefused, Worn as WhyWorn}
use Rattle.bsc_lines.specs.declared.denial.Denial.{Denial}
use Rattle.bsc_session.specs.Guarding.{denial_of, if_any}
use Rattle.bsc_session.specs.Notes.Notes.{Note, made, denied, HasLine}
use Rattle.bsc_session.specs.Judging.{LacksAtPass, heard, heard_step}
use Rattle.bsc_session.specs.Puts.{HasPut, octets_in, puts}
use Rattle.bsc_session.specs.Receiving.{Answer, replies, worn, no_memory, Hearing}
use Rattle.bsc_session.specs.Standings.{Standing, Terms, told, wanted}
use Rattle.bsc_session.specs.Stops.{closes, closing_in, first_of, stop_at, stop_closing, stop_for, stop_if, stop_lost}

-- ---- the call

-- Whether a step would call the hub.
abbrev pub calls : Step → Bool
calls (Ask who) = true
calls Up = true
calls st = false

-- What the policy denies of a step, where the session stands.
abbrev pub denied_in : Terms → Standing → Step → Result Incoming LinkFault → Option Denial
denied_in v s st given = denial_of v.policy s.address st given

-- Whether a step calls the hub: it would, and nothing is denied.
abbrev pub calls_hub : Terms → Standing → Step → Result Incoming LinkFault → Bool
calls_hub v s st given = is_none (denied_in v s st given) && calls st

-- the entry of a message that is forwarded, by the session's connection
abbrev pub forwarded_by : Terms → Option ℕ → List ℕ → List Look → Reply → List Entry
forwarded_by v None m looks reply = []
forwarded_by v (Some c) m looks reply = record { caller = v.caller; call = Forward c m; looks = looks; reply = reply } ∷ []

-- The entry of the call: a Connect for an Ask, a Forward for an Up, where the hub's answer makes one.
abbrev pub called : Terms → Standing → Step → Result Incoming LinkFault → Option Answer → List Entry
called v s (Ask who) given (Some (replies at looks reply)) = record { caller = v.caller; call = Connect who; looks = looks; reply = reply } ∷ []
called v s Up (Ok (Message m)) (Some (replies at looks reply)) = forwarded_by v s.conn m looks reply
called v s st given answer = []

-- What is noted then: the entry of the call with its place, or the denial.
abbrev pub made_at : Option Answer → List Entry → List Note
made_at (Some (replies at looks reply)) es = map (made at) es
made_at answer es = []

abbrev pub noted : Terms → Standing → Step → Result Incoming LinkFault → Option Answer → List Note
noted v s st given answer = map denied (if_any (denied_in v s st given)) ++ made_at answer (called v s st given answer)

-- ---- what is wanted then

-- What is wanted in the end: after a connect what the machine wants done at its reply.
abbrev pub last_wanted : Terms → Standing → Step → Option Answer → Step
last_wanted v s (Ask who) (Some (replies at looks (Joined c replaced))) = wanted v s JoinedEvent
last_wanted v s (Ask who) (Some (replies at looks (Refused r))) = wanted v s (RefusedEvent r)
last_wanted v s (Ask who) answer = Nothing
last_wanted v s Up answer = Nothing
last_wanted v s st answer = st

-- Where the session stands after the hub's answer.
abbrev pub answered : Standing → Step → Option Answer → Standing
answered s (Ask who) (Some (replies at looks (Joined c replaced))) = record (told s JoinedEvent) { conn = Some c; address = Some who.vmac }
answered s (Ask who) (Some (replies at looks (Refused r))) = told s (RefusedEvent r)
answered s st answer = s

-- ---- the stop

-- A hub that is worn stops the session, and so does want of memory in a call.
abbrev pub stop_by : Option Answer → Option Stop
stop_by (Some worn) = Some (stop_closing WhyWorn 1008 HubWorn)
stop_by (Some no_memory) = Some (stop_at NoMemory)
stop_by answer = None

-- A device that isn't admitted stops the session, by what is denied of its step.
abbrev pub stop_denied : Option Denial → Step → Option Stop
stop_denied None st = None
stop_denied (Some d) (Ask who) = Some (stop_closing (WhyDenied 0) 1008 PolicyReason)
stop_denied (Some d) st = None

-- the cause of a closing that the machine wants after a message
abbrev pub cause_of : Step → Option Answer → Why
cause_of (Ask who) (Some (replies at looks (Refused r))) = WhyRefused r
cause_of st answer = PeerLeft

-- how the session stops after a message that was judged, by what is denied of its step: by a lost line before all else
abbrev pub stop_message : Terms → Standing → Step → Option Denial → Option Answer → Option LinkFault → Option LinkFault → Option Stop
stop_message v s st denial answer lost fault =
    first_of (stop_lost lost)
    (first_of (stop_denied denial st)
    (first_of (stop_by answer)
    (first_of (stop_if fault)
    (closes (cause_of st answer) (closing_in (last_wanted v s st answer))))))

-- what is put then: the octets of the step, and nothing after a lost line
abbrev pub put_unless : Option LinkFault → List (List ℕ) → List (List ℕ)
put_unless None os = os
put_unless (Some fault) os = []

-- how the session stops after a message, by whether there was memory to judge it
abbrev pub stop_judged : Bool → Option Stop → Option Stop
stop_judged true later = later
stop_judged false later = Some (stop_at NoMemory)

-- How it stops by the thing given: by a fault, by a closed link, by a text.
abbrev pub stop_given : Result Incoming LinkFault → Option Stop → Option Stop
stop_given (Err fault) later = Some (stop_at fault)
stop_given (Ok Closed) later = Some (stop_for PeerClosed None)
stop_given (Ok Text) later = Some (stop_closing NotBinary 1003 NoReason)
stop_given (Ok Quiet) later = None
stop_given (Ok (Message m)) later = later

-- ---- the hearing

-- the parts of a hearing at a reading
abbrev pub stands_heard : Terms → Standing → ℕ → Hearing → Standing
stands_heard v s now h = heard v s now h.judged h.given

abbrev pub step_of : Terms → Standing → ℕ → Hearing → Step
step_of v s now h = heard_step v s now h.judged h.given

abbrev pub denial_in : Terms → Standing → ℕ → Hearing → Option Denial
denial_in v s now h = denied_in v s (step_of v s now h) h.given

abbrev pub last_step : Terms → Standing → ℕ → Hearing → Step
last_step v s now h = last_wanted v (stands_heard v s now h) (step_of v s now h) h.answer

-- What is put after the thing given.
abbrev pub put_after : Terms → Standing → ℕ → Hearing → List (List ℕ)
put_after v s now h = put_unless h.lost (octets_in (last_step v s now h))

-- Where the session stands after the hearing.
abbrev pub after_hearing : Terms → Standing → ℕ → Hearing → Standing
after_hearing v s now h = answered (stands_heard v s now h) (step_of v s now h) h.answer

-- What is said on the link, by the wait of the receive: that wait with the thing given, and the puts after it.
abbrev pub said_hearing : Terms → Standing → ℕ → ℕ → Hearing → List Said
said_hearing v s now wait h = Gave wait h.given ∷ puts (put_after v s now h) h.fault

-- The entries that are made.
abbrev pub entries_hearing : Terms → Standing → ℕ → Hearing → List Entry
entries_hearing v s now h = called v s (step_of v s now h) h.given h.answer

-- What is noted in the journal.
abbrev pub notes_hearing : Terms → Standing → ℕ → Hearing → List Note
notes_hearing v s now h = noted v s (step_of v s now h) h.given h.answer

-- How a hearing stops the session.
abbrev pub stop_hearing : Terms → Standing → ℕ → Hearing → Option Stop
stop_hearing v s now h =
    stop_given h.given (stop_judged h.judged
    (stop_message v (stands_heard v s now h) (step_of v s now h) (denial_in v s now h) h.answer h.lost h.fault))

-- a connect is told that it joined or was refused
abbrev pub AnswerFits : Step → Option Answer → Type 0
AnswerFits (Ask who) (Some (replies at looks (Joined c replaced))) = looks ≡ []
AnswerFits (Ask who) (Some (replies at looks (Refused r))) = looks ≡ []
AnswerFits (Ask who) (Some (replies at looks reply)) = ⊥
AnswerFits st answer = ⊤

-- A hearing as it may be: memory for judging is wanting only where a message passes; the hub is called exactly at an Ask
-- and an Up of which nothing is denied; a connect is told that it joined or was refused; a lost line is that of a note;
-- and a fault is that of a put.
pub record IsHearing (v : Terms) (s : Standing) (now : ℕ) (h : Hearing) : Type 0 where
  pub memory : LacksAtPass v s h.judged h.given
  pub calls : is_some h.answer ≡ calls_hub v s (step_of v s now h) h.given
  pub fits : AnswerFits (step_of v s now h) h.answer
  pub line : HasLine (notes_hearing v s now h) h.lost
  pub cause : HasPut (put_after v s now h) h.fault
