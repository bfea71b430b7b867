-- What holds wherever a session stands: it has a connection exactly where its machine has joined, and where that
-- disconnects an End was met.
-- It serves the clauses of `causes_are_exact` and `serve`.
use Rattle.std.proofs.Common.{◌≡◌, ℕ, Bool, true, false, cond, is_some, List, [], ◌∷◌, refl, ap, sym, ◌∙◌, Option, Some, None, Result, Ok}
use Rattle.bsc_history.specs.declared.ending.End.{End}
use Rattle.bsc_history.specs.declared.reply.Reply.TheVariants.{Joined, Refused}
use Rattle.bsc_edge.specs.declared.fault.LinkFault.{LinkFault}
use Rattle.bsc_edge.specs.declared.incoming.Incoming.{Incoming}
use Rattle.bsc_edge.specs.declared.incoming.Incoming.TheVariants.{Message}
use Rattle.bsc_accept.specs.declared.event.Event.{Event}
use Rattle.bsc_accept.specs.declared.event.Event.TheVariants.{Ended, Joined as JoinedEvent, Message as Came, Refused as RefusedEvent, Tick}
use Rattle.bsc_accept.specs.declared.step.Step.{Step}
use Rattle.bsc_accept.specs.declared.step.Step.TheVariants.{Ask}
use Rattle.bsc_accept.specs.Kept.{moved}
use Rattle.bsc_accept.specs.Past.{Standing as MachineStanding, awaiting_request, connected, disconnecting, farewell_at, is_joined, standing, until_farewell}
use Rattle.bsc_accept.proofs.Looking.{standing-more}
use Rattle.bsc_session.specs.Answering.{answered, stands_heard, step_of}
use Rattle.bsc_session.specs.Course.{standing as stands_at}
use Rattle.bsc_session.specs.Following.{Tied}
use Rattle.bsc_session.specs.Judging.{heard, verdict_on}
use Rattle.bsc_session.specs.Reading.{started, ticked}
use Rattle.bsc_session.specs.Receiving.{Answer, replies, Hearing}
use Rattle.bsc_session.specs.Standings.{Standing, Terms, begun, told}
use Rattle.bsc_session.specs.Taking.{Opening, end_told, opened}
use Rattle.bsc_session.specs.Turns.{Turn, after, stands_after}
use Rattle.bsc_session.proofs.Asking.{tied_joined, tied_told}

-- a Disconnect-Request went out
abbrev pub has_quit : MachineStanding → Bool
has_quit awaiting_request = false
has_quit connected = false
has_quit (disconnecting f) = true

-- where the machine disconnects an End was met
abbrev pub Quits : Standing → Type 0
Quits s = has_quit (standing s.events) ≡ true → is_some s.ended ≡ true

pub record Sound (s : Standing) : Type 0 where
  pub tied : Tied s
  pub quits : Quits s

pub sound_begun : Sound begun
sound_begun = record { tied = refl; quits = λ k. cc }

-- an event at which no Disconnect-Request goes out
not_quit : (b : Bool) → has_quit (cond b connected awaiting_request) ≡ true → ⊥
not_quit true h = cc
not_quit false h = cc

quit_moved : (g : MachineStanding) (e : Event) → farewell_at e ≡ None → has_quit (moved g e) ≡ true → has_quit g ≡ true
quit_moved awaiting_request e h k = absurd (not_quit (is_joined e) k)
quit_moved connected e h k = (let z : has_quit (until_farewell None) ≡ true = rw h at k in cc)
quit_moved (disconnecting f) e h k = refl

quits_told : (s : Standing) (e : Event) → farewell_at e ≡ None → Quits s → Quits (told s e)
quits_told s e h q k = q (quit_moved (standing s.events) e h (sym (ap has_quit (standing-more s.events e)) ∙ k))

none_some : (met : Option End) → met ≡ None → is_some met ≡ true → ⊥
none_some None h k = cc
none_some (Some e) h k = cc

-- where no End was met the machine doesn't disconnect
pub unquit : (s : Standing) → Sound s → s.ended ≡ None → has_quit (standing s.events) ≡ true → ⊥
unquit s sound none q = none_some s.ended none (sound.quits q)

-- ---- the opening

pub sound_ticked : (s : Standing) (now : ℕ) → Sound s → Sound (ticked s now)
sound_ticked s now k = record { tied = tied_told (started s now) (Tick now) refl k.tied; quits = quits_told (started s now) (Tick now) refl k.quits }

sound_met : (s : Standing) (now : ℕ) (met : Option End) → Sound s → Sound (end_told s now met)
sound_met s now None k = k
sound_met s now (Some e) k = record { tied = tied_told s (Ended now e) refl k.tied; quits = λ q. refl }

pub sound_opened : (s : Standing) (o : Opening) → Sound s → Sound (opened s o)
sound_opened s o k = sound_met (ticked s o.reading) o.reading o.met (sound_ticked s o.reading k)

-- ---- the hearing

sound_heard : (v : Terms) (s : Standing) (now : ℕ) (judged : Bool) (given : Result Incoming LinkFault) → Sound s → Sound (heard v s now judged given)
sound_heard v s now true (Ok (Message m)) k = record { tied = tied_told s (Came now (verdict_on v s m)) refl k.tied; quits = quits_told s (Came now (verdict_on v s m)) refl k.quits }
sound_heard v s now true given k = record { tied = k.tied; quits = k.quits }
sound_heard v s now false given k = record { tied = k.tied; quits = k.quits }

sound_answered : (s : Standing) (st : Step) (a : Option Answer) → Sound s → Sound (answered s st a)
sound_answered s (Ask who) (Some (replies at l (Joined c r))) k = record { tied = tied_joined s c; quits = quits_told s JoinedEvent refl k.quits }
sound_answered s (Ask who) (Some (replies at l (Refused r))) k = record { tied = tied_told s (RefusedEvent r) refl k.tied; quits = quits_told s (RefusedEvent r) refl k.quits }
sound_answered s st a k = k

sound_after : (v : Terms) (s : Standing) (now : ℕ) (h : Option Hearing) → Sound s → Sound (stands_after v s now h)
sound_after v s now None k = k
sound_after v s now (Some h) k = sound_answered (stands_heard v s now h) (step_of v s now h) h.answer (sound_heard v s now h.judged h.given k)

-- ---- the turns

pub sound_turns : (v : Terms) (s : Standing) (ts : List Turn) → Sound s → Sound (stands_at v s ts)
sound_turns v s [] k = k
sound_turns v s (t ∷ ts) k = sound_turns v (after v s t) ts (sound_after v (opened s t.opening) t.opening.reading t.hearing (sound_opened s t.opening k))

-- ---- which End was met

ended_heard : (v : Terms) (s : Standing) (now : ℕ) (judged : Bool) (given : Result Incoming LinkFault) → (heard v s now judged given).ended ≡ s.ended
ended_heard v s now true (Ok (Message m)) = refl
ended_heard v s now true given = refl
ended_heard v s now false given = refl

ended_answered : (s : Standing) (st : Step) (a : Option Answer) → (answered s st a).ended ≡ s.ended
ended_answered s (Ask who) (Some (replies at l (Joined c r))) = refl
ended_answered s (Ask who) (Some (replies at l (Refused r))) = refl
ended_answered s st a = refl

-- a hearing meets none
pub ended_after : (v : Terms) (s : Standing) (now : ℕ) (h : Option Hearing) → (stands_after v s now h).ended ≡ s.ended
ended_after v s now None = refl
ended_after v s now (Some h) = ended_answered (stands_heard v s now h) (step_of v s now h) h.answer ∙ ended_heard v s now h.judged h.given

unmet_by : (s : Standing) (now : ℕ) (met : Option End) → (end_told s now met).ended ≡ None → (met ≡ None) × (s.ended ≡ None)
unmet_by s now None h = (refl, h)
unmet_by s now (Some e) h = cc

-- where none was met after a turn, none was met in it or before
pub unmet_opened : (v : Terms) (s : Standing) (o : Opening) (h : Option Hearing) → (after v s (record { opening = o; hearing = h })).ended ≡ None → (opened s o).ended ≡ None
unmet_opened v s o h is = sym (ended_after v (opened s o) o.reading h) ∙ is

pub unmet : (v : Terms) (s : Standing) (o : Opening) (h : Option Hearing) → (after v s (record { opening = o; hearing = h })).ended ≡ None → (o.met ≡ None) × (s.ended ≡ None)
unmet v s o h is = unmet_by (ticked s o.reading) o.reading o.met (unmet_opened v s o h is)

-- one that was met is known after the turn
met_by : (s : Standing) (now : ℕ) (met : Option End) (e : End) → met ≡ Some e → (end_told s now met).ended ≡ Some e
met_by s now None e h = cc
met_by s now (Some d) e h = h

pub met_known : (v : Terms) (s : Standing) (o : Opening) (h : Option Hearing) (e : End) → o.met ≡ Some e → (after v s (record { opening = o; hearing = h })).ended ≡ Some e
met_known v s o h e is = ended_after v (opened s o) o.reading h ∙ met_by (ticked s o.reading) o.reading o.met e is
