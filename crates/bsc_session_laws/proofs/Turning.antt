-- Who has joined, from turn to turn, and what a turn comes to before anybody has.
-- It serves clauses of functions of `laws`.
use Rattle.std.proofs.Common.{◌≡◌, ◌⊎◌, inl, inr, ℕ, Bool, true, false, ◌&&◌, List, [], ◌∷◌, ◌++◌, length, Option, Some, None, Result, Ok, Err, is_some, option_to_list, refl, ap, sym, ◌∙◌, subst}
use Rattle.std.specs.Prelude.{is_none}
use Rattle.std.proofs.lemmas.Bool.{both_ways}
use Rattle.bsc_octets.specs.declared.identity.Identity.{Identity}
use Rattle.bsc_lines.specs.declared.denial.Denial.{Denial}
use Rattle.bsc_frame.specs.declared.message.Message.{Message as Bvlc}
use Rattle.bsc_frame.specs.Spelling.{spelling}
use Rattle.bsc_history.specs.declared.ending.End.{End}
use Rattle.bsc_history.specs.declared.reply.Refusal.{Refusal}
use Rattle.bsc_history.specs.declared.reply.Refusal.TheVariants.{Stopped, Duplicate, TableFull}
use Rattle.bsc_history.specs.declared.reply.Reply.TheVariants.{Joined, Refused, Appended, Closed as ClosedReply, Skipped, NoHolder, SentAll, NotCurrent, Stopped as StoppedReply, Gone, Counted}
use Rattle.bsc_checks.specs.declared.phase.Phase.TheVariants.{AwaitingRequest}
use Rattle.bsc_checks.specs.declared.verdict.Verdict.{Verdict}
use Rattle.bsc_checks.specs.declared.verdict.Verdict.TheVariants.{Pass, Carry as Carried, Silent, Nak}
use Rattle.bsc_edge.specs.declared.fault.LinkFault.{LinkFault}
use Rattle.bsc_edge.specs.declared.incoming.Incoming.{Incoming}
use Rattle.bsc_edge.specs.declared.incoming.Incoming.TheVariants.{Closed, Message, Quiet, Text}
use Rattle.bsc_edge.specs.declared.said.Said.{Said}
use Rattle.bsc_edge.specs.declared.said.Said.TheVariants.{Gave, Put}
use Rattle.bsc_accept.specs.declared.event.Event.{Event}
use Rattle.bsc_accept.specs.declared.event.Event.TheVariants.{Message as Came, Joined as JoinedEvent, Refused as RefusedEvent, Ended, Tick}
use Rattle.bsc_accept.specs.declared.step.Step.{Step}
use Rattle.bsc_accept.specs.declared.step.Step.TheVariants.{Ask}
use Rattle.bsc_accept.specs.Messages.{connect_accept, who_asks}
use Rattle.bsc_accept.specs.Past.{Standing as MachineStanding, awaiting_request, connected, disconnecting, is_joined, phase, phase_named, standing}
use Rattle.bsc_accept.specs.Steps.{asked_id, ask_step, message_step, passed_step, refused_step}
use Rattle.bsc_accept.proofs.Looking.{standing-more}
use Rattle.bsc_port.specs.Guarding.{denied_message}
use Rattle.bsc_session.specs.declared.why.Why.{Why}
use Rattle.bsc_session.specs.declared.why.Why.TheVariants.{Refused as WhyRefused}
use Rattle.bsc_session.specs.Answering.{AnswerFits, IsHearing, after_hearing, answered, calls, denied_in, last_wanted, put_unless, said_hearing, stands_heard, stop_hearing, stop_message, step_of}
use Rattle.bsc_session.specs.Course.{TurnGoesOn}
use Rattle.bsc_session.specs.Following.{Tied, has_joined}
use Rattle.bsc_session.specs.Judging.{heard, verdict_on}
use Rattle.bsc_session.specs.Puts.{octets_in, puts}
use Rattle.bsc_session.specs.Reading.{started, ticked}
use Rattle.bsc_session.specs.Receiving.{Answer, replies, worn, no_memory, Hearing, received_one}
use Rattle.bsc_session.specs.Standings.{Standing, Terms, begun, is_connected, is_phase_connected, told}
use Rattle.bsc_session.specs.Stops.{closes, closing_in, stop_if}
use Rattle.bsc_session.specs.Taking.{Looks, Opening, end_step, end_told, full_wait, opened, passing, put_first, stop_before, wait_in}
use Rattle.bsc_session.specs.Turns.{IsHearingIf, IsTurn, Turn, after, said_after, said_in, stands_after, stop_after}
use Rattle.bsc_session_laws.specs.Messages.{JudgedMessage, asked, message_after, message_by, message_in}
use Rattle.bsc_session.proofs.Asking.{joined_moved as moved_in, joined_at as joined_in}
use Rattle.bsc_session.proofs.EndingAtFault.{first_none}
use Rattle.bsc_session.proofs.Filtering.{through-nil}
use Rattle.bsc_session_laws.proofs.Verdicts.{asked_awaiting}

-- ---- who has joined

-- whether the machine has joined, by where the session stands
abbrev pub is_in : Standing → Bool
is_in s = has_joined (standing s.events)

-- an event that isn't a joining changes nothing of it
pub told_in : (s : Standing) (e : Event) → is_joined e ≡ false → is_in (told s e) ≡ is_in s
told_in s e h = ap has_joined (standing-more s.events e) ∙ moved_in (standing s.events) e h

pub told_joined_in : (s : Standing) → is_in (told s JoinedEvent) ≡ true
told_joined_in s = ap has_joined (standing-more s.events JoinedEvent) ∙ joined_in (standing s.events)

-- ---- a connection, exactly where the machine has joined

pub tied_begun : Tied begun
tied_begun = refl

met_in : (s : Standing) (now : ℕ) (met : Option End) → (is_in (end_told s now met) ≡ is_in s) × ((end_told s now met).conn ≡ s.conn)
met_in s now None = (refl, refl)
met_in s now (Some e) = (told_in s (Ended now e) refl, refl)

-- an opening changes nothing of it
pub opened_in : (s : Standing) (o : Opening) → (is_in (opened s o) ≡ is_in s) × ((opened s o).conn ≡ s.conn)
opened_in s o =
    let m = met_in (ticked s o.reading) o.reading o.met in
    (m.0 ∙ told_in (started s o.reading) (Tick o.reading) refl, m.1)

pub tied_opened : (s : Standing) (o : Opening) → Tied s → Tied (opened s o)
tied_opened s o tied = (let k = opened_in s o in k.0 ∙ tied ∙ ap is_some (sym k.1))

pub heard_in : (v : Terms) (s : Standing) (now : ℕ) (judged : Bool) (given : Result Incoming LinkFault) → (is_in (heard v s now judged given) ≡ is_in s) × ((heard v s now judged given).conn ≡ s.conn)
heard_in v s now true (Ok (Message m)) = (told_in s (Came now (verdict_on v s m)) refl, refl)
heard_in v s now true (Ok Closed) = (refl, refl)
heard_in v s now true (Ok Text) = (refl, refl)
heard_in v s now true (Ok Quiet) = (refl, refl)
heard_in v s now true (Err fault) = (refl, refl)
heard_in v s now false given = (refl, refl)

tied_answered : (s : Standing) (st : Step) (a : Option Answer) → Tied s → Tied (answered s st a)
tied_answered s (Ask who) (Some (replies place l (Joined c r))) k = told_joined_in s
tied_answered s (Ask who) (Some (replies place l (Refused r))) k = told_in s (RefusedEvent r) refl ∙ k
tied_answered s st a k = k

tied_heard : (v : Terms) (s : Standing) (now : ℕ) (h : Option Hearing) → Tied s → Tied (stands_after v s now h)
tied_heard v s now None k = k
tied_heard v s now (Some h) k = (let i = heard_in v s now h.judged h.given in tied_answered (stands_heard v s now h) (step_of v s now h) h.answer (i.0 ∙ k ∙ ap is_some (sym i.1)))

-- A session is tied after a turn, where it was before.
pub tied_after : (v : Terms) (s : Standing) (t : Turn) → Tied s → Tied (after v s t)
tied_after v s t k = tied_heard v (opened s t.opening) t.opening.reading t.hearing (tied_opened s t.opening k)

-- ---- how a turn goes on

pub fault_none : (f : Option LinkFault) → stop_if f ≡ None → f ≡ None
fault_none None h = refl
fault_none (Some f) h = cc

closes_none : (why : Why) (r : Refusal) (id : ℕ) → closes why (closing_in (refused_step id r)) ≡ None → ⊥
closes_none why (Duplicate holder) id h = cc
closes_none why (TableFull rows) id h = cc
closes_none why Stopped id h = cc

-- ---- before anybody has joined

pub awaits : (g : MachineStanding) → has_joined g ≡ false → g ≡ awaiting_request
awaits awaiting_request h = refl
awaits connected h = cc
awaits (disconnecting f) h = cc

unconnected : (g : MachineStanding) → has_joined g ≡ false → is_phase_connected (phase_named g) ≡ false
unconnected awaiting_request h = refl
unconnected connected h = cc
unconnected (disconnecting f) h = cc

-- nothing is taken from the outlet then, and no End is met
pub takes_none : (v : Terms) (s : Standing) (o : Opening) → is_in s ≡ false → Looks v s o.reading ⊎ ((o.frames ≡ []) × (o.met ≡ None)) → (o.frames ≡ []) × (o.met ≡ None)
takes_none v s o out (inl looks) = absurd (both_ways (is_connected (ticked s o.reading))
    (unconnected (standing (ticked s o.reading).events) (told_in (started s o.reading) (Tick o.reading) refl ∙ out)) looks.0)
takes_none v s o out (inr none) = none

-- and so the receive isn't only a look
waits_long : (o : Opening) → o.frames ≡ [] → o.met ≡ None → full_wait ≡ wait_in o
waits_long o none unmet = rw (none, unmet) refl

nothing_put : (v : Terms) (s : Standing) (o : Opening) → o.frames ≡ [] → o.met ≡ None → puts (put_first v s o) o.fault ≡ []
nothing_put v s o none unmet =
    ap (λ (l : List (List ℕ)). puts (passing v s l ++ octets_in (end_step v (ticked s o.reading) o.reading o.met)) o.fault) none
    ∙ ap (λ (l : List (List ℕ)). puts (l ++ octets_in (end_step v (ticked s o.reading) o.reading o.met)) o.fault) (through-nil v.policy s.address)
    ∙ ap (λ (e : Option End). puts ([] ++ octets_in (end_step v (ticked s o.reading) o.reading e)) o.fault) unmet

-- By what was said, who asked joins, and the Connect-Accept is put.
pub record Joins (v : Terms) (ms : List JudgedMessage) (said : List Said) (next : Standing) : Type 0 where
  pub request : List ℕ
  pub id : ℕ
  pub said_so : said ≡ Gave full_wait (Ok (Message request)) ∷ Put (spelling (connect_accept id v.hub)) None ∷ []
  pub joined : is_in next ≡ true
  pub one : length (asked ms) ≡ 1

-- Nobody asks, and nobody has joined still.
abbrev pub Waits : List JudgedMessage → Standing → Type 0
Waits ms next = (is_in next ≡ false) × (asked ms ≡ [])

-- One of the two.
abbrev pub OpeningGoes : Terms → List JudgedMessage → List Said → Standing → Type 0
OpeningGoes v ms said next = Waits ms next ⊎ Joins v ms said next

-- a message with a verdict and what is denied of it, and where the session stands once the machine was told
abbrev pub message : List ℕ → Verdict → Option Denial → List JudgedMessage
message m w d = record { octets = m; verdict = w; denied = d } ∷ []

abbrev pub at : Standing → ℕ → Verdict → Standing
at s now w = received_one (told s (Came now w))

-- what comes of a message, by the step that the machine wants
abbrev GoesBy : Terms → Standing → ℕ → List ℕ → Option Answer → Option LinkFault → Option LinkFault → Verdict → Step → Option Denial → Type 0
GoesBy v s now m answer lost fault w st d =
    AnswerFits st answer → is_some answer ≡ is_none d && calls st → stop_message v (at s now w) st d answer lost fault ≡ None
    → OpeningGoes v (message m w (denied_message v.policy s.address m)) (Gave full_wait (Ok (Message m)) ∷ puts (put_unless lost (octets_in (last_wanted v (at s now w) st answer))) fault)
    (answered (at s now w) st answer)

module _ (v : Terms) (s : Standing) (now : ℕ) (m : List ℕ) (fault : Option LinkFault) (out : is_in s ≡ false) where
  -- who asks joins, where the session goes on
  ask_goes : (msg : Bvlc) (who : Identity) → who_asks msg.body ≡ Some who → (lost : Option LinkFault) (d : Option Denial) (answer : Option Answer)
      → GoesBy v s now m answer lost fault (Pass msg) (Ask who) d
  ask_goes msg who asks (Some f) d answer fits called stop = cc
  ask_goes msg who asks None (Some d) answer fits called stop = cc
  ask_goes msg who asks None None None fits called stop = cc
  ask_goes msg who asks None None (Some worn) fits called stop = cc
  ask_goes msg who asks None None (Some no_memory) fits called stop = cc
  ask_goes msg who asks None None (Some (replies place looks (Joined c replaced))) fits called stop = inr (record {
    request = m;
    id = asked_id (at s now (Pass msg)).events;
    said_so = ap (λ (f : Option LinkFault). Gave full_wait (Ok (Message m)) ∷ Put (spelling (connect_accept (asked_id (at s now (Pass msg)).events) v.hub)) f ∷ [])
        (fault_none fault (first_none (stop_if fault) None stop).0);
    joined = told_joined_in (at s now (Pass msg));
    one = ap (λ (o : Option Identity). length (option_to_list o ++ [])) asks;
  })
  ask_goes msg who asks None None (Some (replies place looks (Refused r))) fits called stop =
      absurd (closes_none (WhyRefused r) r (asked_id (at s now (Pass msg)).events)
      (first_none (stop_if fault) (closes (WhyRefused r) (closing_in (refused_step (asked_id (at s now (Pass msg)).events) r))) stop).1)
  ask_goes msg who asks None None (Some (replies place looks (Appended c))) fits called stop = absurd fits
  ask_goes msg who asks None None (Some (replies place looks (ClosedReply c))) fits called stop = absurd fits
  ask_goes msg who asks None None (Some (replies place looks (Skipped c))) fits called stop = absurd fits
  ask_goes msg who asks None None (Some (replies place looks NoHolder)) fits called stop = absurd fits
  ask_goes msg who asks None None (Some (replies place looks (SentAll to missed skipped))) fits called stop = absurd fits
  ask_goes msg who asks None None (Some (replies place looks (NotCurrent e))) fits called stop = absurd fits
  ask_goes msg who asks None None (Some (replies place looks StoppedReply)) fits called stop = absurd fits
  ask_goes msg who asks None None (Some (replies place looks (Gone e taken))) fits called stop = absurd fits
  ask_goes msg who asks None None (Some (replies place looks (Counted k))) fits called stop = absurd fits

  asked_goes : (msg : Bvlc) (o : Option Identity) → who_asks msg.body ≡ o → (lost : Option LinkFault) (answer : Option Answer)
      → GoesBy v s now m answer lost fault (Pass msg) (ask_step o) (denied_in v s (ask_step o) (Ok (Message m)))
  asked_goes msg None asks lost answer fits called stop = inl (told_in s (Came now (Pass msg)) refl ∙ out, ap (λ (o : Option Identity). option_to_list o ++ []) asks)
  asked_goes msg (Some who) asks lost answer fits called stop = ask_goes msg who asks lost (denied_in v s (Ask who) (Ok (Message m))) answer fits called stop

  verdict_goes : (w : Verdict) (lost : Option LinkFault) (answer : Option Answer)
      → GoesBy v s now m answer lost fault w (message_step (standing s.events) w) (denied_in v s (message_step (standing s.events) w) (Ok (Message m)))
  verdict_goes (Pass msg) lost answer fits called stop =
      subst (λ (st : Step). GoesBy v s now m answer lost fault (Pass msg) st (denied_in v s st (Ok (Message m)))) (sym (ap (λ g. passed_step g msg) (awaits (standing s.events) out)))
      (asked_goes msg (who_asks msg.body) refl lost answer) fits called stop
  verdict_goes (Carried envelope) lost answer fits called stop = inl (told_in s (Came now (Carried envelope)) refl ∙ out, refl)
  verdict_goes (Silent check) lost answer fits called stop = inl (told_in s (Came now (Silent check)) refl ∙ out, refl)
  verdict_goes (Nak check octets) lost answer fits called stop = inl (told_in s (Came now (Nak check octets)) refl ∙ out, refl)

abbrev pub hearing : Result Incoming LinkFault → Bool → Option Answer → Option LinkFault → Option LinkFault → Hearing
hearing given judged answer lost fault = record { given = given; judged = judged; answer = answer; lost = lost; fault = fault }

hearing_goes : (v : Terms) (s : Standing) (now : ℕ) (given : Result Incoming LinkFault) (judged : Bool) (answer : Option Answer) (lost fault : Option LinkFault) → is_in s ≡ false
    → IsHearing v s now (hearing given judged answer lost fault) → stop_hearing v s now (hearing given judged answer lost fault) ≡ None
    → OpeningGoes v (message_by v s given) (said_hearing v s now full_wait (hearing given judged answer lost fault)) (after_hearing v s now (hearing given judged answer lost fault))
hearing_goes v s now (Err f) judged answer lost fault out is stop = cc
hearing_goes v s now (Ok Closed) judged answer lost fault out is stop = cc
hearing_goes v s now (Ok Text) judged answer lost fault out is stop = cc
hearing_goes v s now (Ok Quiet) true answer lost fault out is stop = inl (out, refl)
hearing_goes v s now (Ok Quiet) false answer lost fault out is stop = inl (out, refl)
hearing_goes v s now (Ok (Message m)) false answer lost fault out is stop = cc
hearing_goes v s now (Ok (Message m)) true answer lost fault out is stop = verdict_goes v s now m fault out (verdict_on v s m) lost answer is.fits is.calls stop

-- A turn that goes on before anybody has joined.
pub turn_goes : (v : Terms) (s : Standing) (t : Turn) → is_in s ≡ false → IsTurn v s t → TurnGoesOn v s t → OpeningGoes v (message_in v s t) (said_in v s t) (after v s t)
turn_goes v s t out is goes = by t.hearing is.hearing (first_none (stop_before v s t.opening) (stop_after v (opened s t.opening) t.opening.reading t.hearing) goes).1
  where
    o : Opening
    o = t.opening

    still : is_in (opened s o) ≡ false
    still = (opened_in s o).0 ∙ out

    none : puts (put_first v s o) o.fault ≡ []
    none = (let two = takes_none v s o out is.opening.takes in nothing_put v s o two.0 two.1)

    waits : full_wait ≡ wait_in o
    waits = (let two = takes_none v s o out is.opening.takes in waits_long o two.0 two.1)

    behind : (h : Hearing) → OpeningGoes v (message_by v (opened s o) h.given) (said_hearing v (opened s o) o.reading full_wait h) (after_hearing v (opened s o) o.reading h)
        → OpeningGoes v (message_by v (opened s o) h.given) (puts (put_first v s o) o.fault ++ said_hearing v (opened s o) o.reading full_wait h) (after_hearing v (opened s o) o.reading h)
    behind h (inl w) = inl w
    behind h (inr j) = inr (record {
      request = j.request;
      id = j.id;
      said_so = ap (λ (l : List Said). l ++ said_hearing v (opened s o) o.reading full_wait h) none ∙ j.said_so;
      joined = j.joined;
      one = j.one;
    })

    by : (hh : Option Hearing) → IsHearingIf v (opened s o) o.reading hh → stop_after v (opened s o) o.reading hh ≡ None
        → OpeningGoes v (message_after v (opened s o) hh) (puts (put_first v s o) o.fault ++ said_after v (opened s o) o.reading (wait_in o) hh) (stands_after v (opened s o) o.reading hh)
    by None heard stop = inl (still, refl)
    by (Some h) heard stop = subst
        (λ (wait : ℕ). OpeningGoes v (message_by v (opened s o) h.given) (puts (put_first v s o) o.fault ++ said_hearing v (opened s o) o.reading wait h) (after_hearing v (opened s o) o.reading h))
        waits (behind h (hearing_goes v (opened s o) o.reading h.given h.judged h.answer h.lost h.fault still heard stop))

-- ---- once somebody has joined

answered_in : (s : Standing) (st : Step) (a : Option Answer) → is_in s ≡ true → is_in (answered s st a) ≡ true
answered_in s (Ask who) (Some (replies place l (Joined c r))) h = told_joined_in s
answered_in s (Ask who) (Some (replies place l (Refused r))) h = told_in s (RefusedEvent r) refl ∙ h
answered_in s st a h = h

stays_heard : (v : Terms) (s : Standing) (now : ℕ) (h : Option Hearing) → is_in s ≡ true → is_in (stands_after v s now h) ≡ true
stays_heard v s now None k = k
stays_heard v s now (Some h) k = answered_in (stands_heard v s now h) (step_of v s now h) h.answer ((heard_in v s now h.judged h.given).0 ∙ k)

-- it stays so
pub stays_in : (v : Terms) (s : Standing) (t : Turn) → is_in s ≡ true → is_in (after v s t) ≡ true
stays_in v s t h = stays_heard v (opened s t.opening) t.opening.reading t.hearing ((opened_in s t.opening).0 ∙ h)

joined_not_awaiting : (g : MachineStanding) → has_joined g ≡ true → phase_named g ≡ AwaitingRequest → ⊥
joined_not_awaiting awaiting_request h p = cc
joined_not_awaiting connected h p = cc
joined_not_awaiting (disconnecting f) h p = cc

none_asks : (o : Option Identity) → ((who : Identity) → o ≡ Some who → ⊥) → option_to_list o ++ [] ≡ []
none_asks None h = refl
none_asks (Some who) h = absurd (h who refl)

asks_none : (v : Terms) (s : Standing) (m : List ℕ) (w : Verdict) → verdict_on v s m ≡ w → is_in s ≡ true → asked (message m w (denied_message v.policy s.address m)) ≡ []
asks_none v s m (Pass msg) is h = none_asks (who_asks msg.body) (λ who asks. joined_not_awaiting (standing s.events) h (asked_awaiting m (phase s.events) v.hub.max_bvlc msg who is asks))
asks_none v s m (Carried envelope) is h = refl
asks_none v s m (Silent check) is h = refl
asks_none v s m (Nak check octets) is h = refl

given_asks_none : (v : Terms) (s : Standing) (given : Result Incoming LinkFault) → is_in s ≡ true → asked (message_by v s given) ≡ []
given_asks_none v s (Ok (Message m)) h = asks_none v s m (verdict_on v s m) refl h
given_asks_none v s (Ok Closed) h = refl
given_asks_none v s (Ok Text) h = refl
given_asks_none v s (Ok Quiet) h = refl
given_asks_none v s (Err fault) h = refl

-- nobody asks
pub in_asks_none : (v : Terms) (s : Standing) (t : Turn) → is_in s ≡ true → asked (message_in v s t) ≡ []
in_asks_none v s t h = by t.hearing
  where
    by : (hh : Option Hearing) → asked (message_after v (opened s t.opening) hh) ≡ []
    by None = refl
    by (Some k) = given_asks_none v (opened s t.opening) k.given ((opened_in s t.opening).0 ∙ h)
