-- A line that wasn't put names the end of the session before all else.
-- It serves the clauses of `causes_are_exact` and `serve`.
use Rattle.std.proofs.Common.{◌≡◌, ◌↔◌, ℕ, Bool, true, false, refl, Option, Some, None, Result, Ok, Err}
use Rattle.std.specs.Prelude.{⊤}
use Rattle.bsc_history.specs.declared.ending.End.{End}
use Rattle.bsc_history.specs.declared.reply.Reply.TheVariants.{Refused as RefusedReply}
use Rattle.bsc_edge.specs.declared.fault.LinkFault.{LinkFault}
use Rattle.bsc_edge.specs.declared.fault.LinkFault.TheVariants.{Failed, NoMemory as MemoryFault}
use Rattle.bsc_edge.specs.declared.incoming.Incoming.{Incoming}
use Rattle.bsc_edge.specs.declared.incoming.Incoming.TheVariants.{Closed, Message, Quiet, Text}
use Rattle.bsc_accept.specs.declared.closing.Closing.{Closing}
use Rattle.bsc_accept.specs.declared.step.Step.{Step}
use Rattle.bsc_accept.specs.declared.step.Step.TheVariants.{Ask}
use Rattle.bsc_lines.specs.declared.denial.Denial.{Denial}
use Rattle.bsc_session.specs.declared.stop.Stop.{Stop}
use Rattle.bsc_session.specs.declared.why.Why.{Why}
use Rattle.bsc_session.specs.declared.why.Why.TheVariants.{JournalFault, NoMemory}
use Rattle.bsc_session.specs.Answering.{cause_of, denial_in, stands_heard, step_of, stop_by, stop_denied, stop_given, stop_judged, stop_message}
use Rattle.bsc_session.specs.Course.{Stops}
use Rattle.bsc_session.specs.Receiving.{Answer, Hearing, no_memory, replies, worn}
use Rattle.bsc_session.specs.Standings.{Standing, Terms}
use Rattle.bsc_session.specs.Stops.{closes, first_of, stop_at, stop_if, stop_lost}
use Rattle.bsc_session.specs.Taking.{Opening, ended_by, opened, stop_before, waiting_for}
use Rattle.bsc_session.specs.Talk.{first_lost, named, named_lost}
use Rattle.bsc_session.specs.Turns.{Turn, stop_after, stop_in}

-- A stop has the journal's cause exactly where the put of a line failed, and lacks memory where a line found none.
pub record Tells (s : Stop) : Type 0 where
  pub journal : s.why ≡ JournalFault → s.lost ≡ Some Failed
  pub failed : s.lost ≡ Some Failed → s.why ≡ JournalFault
  pub memory : s.lost ≡ Some MemoryFault → s.why ≡ NoMemory

abbrev TellsIf : Option Stop → Type 0
TellsIf None = ⊤
TellsIf (Some s) = Tells s

tells_first : (a b : Option Stop) → TellsIf a → TellsIf b → TellsIf (first_of a b)
tells_first None b h k = k
tells_first (Some s) b h k = h

tells_lost : (lost : Option LinkFault) → TellsIf (stop_lost lost)
tells_lost None = tt
tells_lost (Some Failed) = record { journal = λ h. refl; failed = λ h. refl; memory = λ h. cc }
tells_lost (Some MemoryFault) = record { journal = λ h. cc; failed = λ h. cc; memory = λ h. refl }

tells_at : (f : LinkFault) → Tells (stop_at f)
tells_at Failed = record { journal = λ h. cc; failed = λ h. cc; memory = λ h. cc }
tells_at MemoryFault = record { journal = λ h. cc; failed = λ h. cc; memory = λ h. cc }

tells_fault : (fault : Option LinkFault) → TellsIf (stop_if fault)
tells_fault None = tt
tells_fault (Some f) = tells_at f

tells_closes : (w : Why) (c : Option Closing) → (w ≡ JournalFault → ⊥) → TellsIf (closes w c)
tells_closes w None other = tt
tells_closes w (Some c) other = record { journal = λ h. absurd (other h); failed = λ h. cc; memory = λ h. cc }

tells_answer : (a : Option Answer) → TellsIf (stop_by a)
tells_answer None = tt
tells_answer (Some (replies at l r)) = tt
tells_answer (Some worn) = record { journal = λ h. cc; failed = λ h. cc; memory = λ h. cc }
tells_answer (Some no_memory) = tells_at MemoryFault

tells_denied : (d : Option Denial) (st : Step) → TellsIf (stop_denied d st)
tells_denied None st = tt
tells_denied (Some d) (Ask who) = record { journal = λ h. cc; failed = λ h. cc; memory = λ h. cc }
tells_denied (Some d) st = tt

waits_otherwise : (conn : Option ℕ) → waiting_for conn ≡ JournalFault → ⊥
waits_otherwise None h = cc
waits_otherwise (Some c) h = cc

ends_otherwise : (met : Option End) → ended_by met ≡ JournalFault → ⊥
ends_otherwise None h = cc
ends_otherwise (Some e) h = cc

caused_otherwise : (st : Step) (a : Option Answer) → cause_of st a ≡ JournalFault → ⊥
caused_otherwise (Ask who) (Some (replies at l (RefusedReply r))) h = cc
caused_otherwise st a h = cc

tells_before : (v : Terms) (s : Standing) (o : Opening) → TellsIf (stop_before v s o)
tells_before v s o = tells_first (closes (waiting_for s.conn) _) _ (tells_closes (waiting_for s.conn) _ (waits_otherwise s.conn))
    (tells_first (stop_lost o.lost) _ (tells_lost o.lost) (tells_first (stop_if o.fault) _ (tells_fault o.fault) (tells_closes (ended_by o.met) _ (ends_otherwise o.met))))

tells_message : (v : Terms) (s : Standing) (st : Step) (d : Option Denial) (a : Option Answer) (lost fault : Option LinkFault) → TellsIf (stop_message v s st d a lost fault)
tells_message v s st d a lost fault = tells_first (stop_lost lost) _ (tells_lost lost) (tells_first (stop_denied d st) _ (tells_denied d st)
    (tells_first (stop_by a) _ (tells_answer a) (tells_first (stop_if fault) _ (tells_fault fault) (tells_closes (cause_of st a) _ (caused_otherwise st a)))))

tells_judged : (judged : Bool) (later : Option Stop) → TellsIf later → TellsIf (stop_judged judged later)
tells_judged true later h = h
tells_judged false later h = tells_at MemoryFault

tells_given : (given : Result Incoming LinkFault) (later : Option Stop) → TellsIf later → TellsIf (stop_given given later)
tells_given (Err f) later h = tells_at f
tells_given (Ok Closed) later h = record { journal = λ k. cc; failed = λ k. cc; memory = λ k. cc }
tells_given (Ok Text) later h = record { journal = λ k. cc; failed = λ k. cc; memory = λ k. cc }
tells_given (Ok Quiet) later h = tt
tells_given (Ok (Message m)) later h = h

tells_after : (v : Terms) (s : Standing) (now : ℕ) (h : Option Hearing) → TellsIf (stop_after v s now h)
tells_after v s now None = tt
tells_after v s now (Some h) = tells_given h.given _ (tells_judged h.judged _ (tells_message v (stands_heard v s now h) (step_of v s now h) (denial_in v s now h) h.answer h.lost h.fault))

tells_in : (v : Terms) (s : Standing) (t : Turn) → TellsIf (stop_in v s t)
tells_in v s t = tells_first (stop_before v s t.opening) _ (tells_before v s t.opening) (tells_after v (opened s t.opening) t.opening.reading t.hearing)

tells_some : (o : Option Stop) (s : Stop) → o ≡ Some s → TellsIf o → Tells s
tells_some o s is h = (let k : TellsIf (Some s) = rw is at h in k)

pub tells_stop : (v : Terms) (s : Standing) (last : Option Turn) (stop : Stop) → Stops v s last stop → Tells stop
tells_stop v s None stop stops = rw (stops.1) (record { journal = λ h. cc; failed = λ h. cc; memory = λ h. cc })
tells_stop v s (Some t) stop stops = tells_some (stop_in v s t) stop stops (tells_in v s t)

-- ---- the name

journal_stays : (d : Option End) (w : Why) → named d w ≡ JournalFault ↔ (w ≡ JournalFault)
journal_stays None w = (λ h. h, λ h. h)
journal_stays (Some e) JournalFault = (λ h. refl, λ h. refl)
journal_stays (Some e) w = (λ h. cc, λ h. cc)

memory_named : (d : Option End) (w : Why) → w ≡ NoMemory → named d w ≡ NoMemory
memory_named None w h = h
memory_named (Some e) NoMemory h = refl
memory_named (Some e) w h = cc

-- the end is the journal's exactly where a line's put failed
pub journal_row : (d : Option End) (w : Why) (l left : Option LinkFault) → (w ≡ JournalFault → l ≡ Some Failed) → (l ≡ Some Failed → w ≡ JournalFault) → ((f : LinkFault) → l ≡ Some f → left ≡ None)
    → named_lost left (named d w) ≡ JournalFault ↔ (first_lost l left ≡ Some Failed)
journal_row d w None None journal failed clear = (λ h. journal ((journal_stays d w).0 h), λ h. cc)
journal_row d w None (Some Failed) journal failed clear = (λ h. refl, λ h. refl)
journal_row d w None (Some MemoryFault) journal failed clear = (λ h. cc, λ h. cc)
journal_row d w (Some f) None journal failed clear = (λ h. journal ((journal_stays d w).0 h), λ h. (journal_stays d w).1 (failed h))
journal_row d w (Some f) (Some g) journal failed clear = (let k : Some g ≡ None = clear f refl in cc)

-- and it is want of memory where a line found none
pub memory_row : (d : Option End) (w : Why) (l left : Option LinkFault) → (l ≡ Some MemoryFault → w ≡ NoMemory) → ((f : LinkFault) → l ≡ Some f → left ≡ None)
    → first_lost l left ≡ Some MemoryFault → named_lost left (named d w) ≡ NoMemory
memory_row d w None None memory clear h = cc
memory_row d w None (Some Failed) memory clear h = cc
memory_row d w None (Some MemoryFault) memory clear h = refl
memory_row d w (Some f) None memory clear h = memory_named d w (memory h)
memory_row d w (Some f) (Some g) memory clear h = (let k : Some g ≡ None = clear f refl in cc)

pub none_lost : (l m : Option LinkFault) → first_lost l m ≡ None → (l ≡ None) × (m ≡ None)
none_lost None m h = (refl, h)
none_lost (Some f) m h = cc
