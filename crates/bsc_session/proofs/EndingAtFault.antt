-- The talk of a session ends at its first fault.
-- It serves clauses of functions of `ending`, `laws` and `serving`.
use Rattle.std.proofs.Common.{◌≡◌, ◌⊎◌, ℕ, Bool, true, false, is_some, is_none, ◌&&◌, List, [], ◌∷◌, ◌++◌, refl, sym, ◌∙◌, inl, inr, append-nil, append_assoc, Option, Some, None, Result, Ok, Err}
use Rattle.std.specs.Prelude.{⊤}
use Rattle.bsc_history.specs.declared.ending.End.{End}
use Rattle.bsc_edge.specs.declared.fault.LinkFault.{LinkFault}
use Rattle.bsc_edge.specs.declared.fault.LinkFault.TheVariants.{Failed, NoMemory}
use Rattle.bsc_edge.specs.declared.incoming.Incoming.{Incoming}
use Rattle.bsc_edge.specs.declared.incoming.Incoming.TheVariants.{Message, Text, Quiet, Closed}
use Rattle.bsc_edge.specs.declared.said.Said.{Said}
use Rattle.bsc_edge.specs.declared.said.Said.TheVariants.{Gave}
use Rattle.bsc_accept.specs.declared.closing.Closing.{Closing}
use Rattle.bsc_accept.specs.declared.step.Step.{Step}
use Rattle.bsc_accept.specs.declared.step.Step.TheVariants.{Ask, Put, PutClose, Up, Close, Nothing}
use Rattle.bsc_lines.specs.declared.denial.Denial.{Denial}
use Rattle.bsc_session.specs.declared.why.Why.{Why}
use Rattle.bsc_session.specs.declared.stop.Stop.{Stop}
use Rattle.bsc_session.specs.Answering.{calls, denied_in, last_wanted, put_unless, said_hearing, stop_by, stop_denied, stop_given, stop_judged, stop_message}
use Rattle.bsc_session.specs.Course.{standing, shares, EachTurn, TurnGoesOn, and_last, Stops, said_closing}
use Rattle.bsc_session.specs.Judging.{heard, heard_step}
use Rattle.bsc_session.specs.Laws.{fault_of, EndsAtFault, SessionsEndAtFault}
use Rattle.bsc_session.specs.Puts.{puts, HasPut, octets_in}
use Rattle.bsc_session.specs.Reading.{ticked, wanted_at}
use Rattle.bsc_session.specs.Receiving.{Answer, worn, no_memory, Hearing}
use Rattle.bsc_session.specs.Standings.{Standing, Terms, begun}
use Rattle.bsc_session.specs.Stops.{stop_at, stop_if, stop_lost, closes, first_of, closing_in}
use Rattle.bsc_session.specs.Taking.{Opening, IsOpening, end_step, last_alone, last_of, passing, put_first, stop_before, opened, wait_in}
use Rattle.bsc_session.specs.Turns.{Turn, IsTurn, said_in, stop_in, after}
use Rattle.bsc_session.proofs.Filtering.{passing-nil, put_clear, through_last}
use Rattle.bsc_session.proofs.Lists.{HasPut-append, shares-more}

-- no fault in it
IsWell : List Said → Type 0
IsWell [] = ⊤
IsWell (x ∷ xs) = (fault_of x ≡ None) × IsWell xs

well_then : (xs ys : List Said) → IsWell xs → EndsAtFault ys → EndsAtFault (xs ++ ys)
unfolding IsWell
well_then [] ys w h = h
well_then (x ∷ xs) ys w h = (rw w.0 tt, well_then xs ys w.1 h)

well-append : (xs ys : List Said) → IsWell xs → IsWell ys → IsWell (xs ++ ys)
unfolding IsWell
well-append [] ys w h = h
well-append (x ∷ xs) ys w h = (w.0, well-append xs ys w.1 h)

well-puts : (os : List (List ℕ)) → IsWell (puts os None)
unfolding IsWell
well-puts [] = tt
well-puts (o ∷ []) = (refl, tt)
well-puts (o ∷ (p ∷ os)) = (refl, well-puts (p ∷ os))

ends_closing : (c : Option Closing) → EndsAtFault (said_closing c)
ends_closing None = tt
ends_closing (Some c) = (tt, tt)

ends_puts : (os : List (List ℕ)) (f : LinkFault) → HasPut os (Some f) → EndsAtFault (puts os (Some f) ++ said_closing (stop_at f).closing)
ends_puts [] f h = absurd h
ends_puts (o ∷ []) Failed h = (refl, tt)
ends_puts (o ∷ []) NoMemory h = (refl, (tt, tt))
ends_puts (o ∷ (p ∷ os)) f h = (tt, ends_puts (p ∷ os) f tt)

pub some_is : (a b : Stop) → Some a ≡ Some b → b ≡ a
some_is a b h = cc

-- puts, and then how they stop the session
ends_putting : (os : List (List ℕ)) (fault : Option LinkFault) (later : Option Stop) (stop : Stop) → HasPut os fault → first_of (stop_if fault) later ≡ Some stop
    → EndsAtFault (puts os fault ++ said_closing stop.closing)
ends_putting os None later stop h is = well_then (puts os None) (said_closing stop.closing) (well-puts os) (ends_closing stop.closing)
ends_putting os (Some f) later stop h is = rw (some_is (stop_at f) stop is) (ends_puts os f h)

-- after a line that wasn't put nothing is put
ends_lost : (os : List (List ℕ)) (fault : Option LinkFault) (c : Option Closing) → fault ≡ None → EndsAtFault (puts os fault ++ said_closing c)
ends_lost os fault c none = rw none (well_then (puts os None) (said_closing c) (well-puts os) (ends_closing c))

well_putting : (earlier : Option Stop) (os : List (List ℕ)) (fault : Option LinkFault) (later : Option Stop) → first_of earlier (first_of (stop_if fault) later) ≡ None → IsWell (puts os fault)
well_putting None os None later h = well-puts os
well_putting None os (Some f) later h = cc
well_putting (Some s) os fault later h = cc

pub first_none : (a b : Option Stop) → first_of a b ≡ None → (a ≡ None) × (b ≡ None)
first_none None b h = (refl, h)
first_none (Some s) b h = cc

-- ---- the opening

ends_stop : (w : Why) (tick : Option Closing) (os : List (List ℕ)) (lost fault : Option LinkFault) (later : Option Stop) (stop : Stop) → HasPut os fault → (tick ≡ None) ⊎ (os ≡ [])
    → ((f : LinkFault) → lost ≡ Some f → fault ≡ None)
    → first_of (closes w tick) (first_of (stop_lost lost) (first_of (stop_if fault) later)) ≡ Some stop → EndsAtFault (puts os fault ++ said_closing stop.closing)
ends_stop w None os None fault later stop h quiet clear is = ends_putting os fault later stop h is
ends_stop w None os (Some f) fault later stop h quiet clear is = ends_lost os fault stop.closing (clear f refl)
ends_stop w (Some c) os lost fault later stop h (inl quiet) clear is = cc
ends_stop w (Some c) os lost fault later stop h (inr none) clear is = rw none (ends_closing stop.closing)

well_stop : (earlier : Option Stop) (os : List (List ℕ)) (lost fault : Option LinkFault) (later : Option Stop)
    → first_of earlier (first_of (stop_lost lost) (first_of (stop_if fault) later)) ≡ None → IsWell (puts os fault)
well_stop None os None fault later h = well_putting None os fault later h
well_stop None os (Some f) fault later h = cc
well_stop (Some s) os lost fault later h = cc

-- a fault of the last put is one of what is put
some_put : (v : Terms) (s s' : Standing) (now : ℕ) (frames : List (List ℕ)) (met : Option End) (fault : Option LinkFault)
    → HasPut (last_of (passing v s (last_alone frames)) (octets_in (end_step v s' now met)) met) fault
    → HasPut (passing v s frames ++ octets_in (end_step v s' now met)) fault
some_put v s s' now frames None fault h = rw append-nil (through_last v.policy s.address frames fault h)
some_put v s s' now frames (Some e) fault h = HasPut-append (passing v s frames) (octets_in (end_step v s' now (Some e))) fault h

pub fault_put : (v : Terms) (s : Standing) (o : Opening) → IsOpening v s o → HasPut (put_first v s o) o.fault
fault_put v s o is = some_put v s (ticked s o.reading) o.reading o.frames o.met o.fault is.cause

pub none_put : (v : Terms) (s : Standing) (o : Opening) → IsOpening v s o → (closing_in (wanted_at v s o.reading) ≡ None) ⊎ (put_first v s o ≡ [])
none_put v s o is = elim is.takes [ inl a ↦ inl a.1 | inr b ↦ inr (rw (b.0, b.1, passing-nil v s) refl) ]

-- where the line of the last frame wasn't put, that frame wasn't put either
pub clear_put : (v : Terms) (s : Standing) (o : Opening) → IsOpening v s o → (f : LinkFault) → o.lost ≡ Some f → o.fault ≡ None
clear_put v s o is f lost = put_clear v.policy s.address o.frames o.met (octets_in (end_step v (ticked s o.reading) o.reading o.met)) o.lost o.fault f lost is.line is.cause

ends_opening : (v : Terms) (s : Standing) (o : Opening) (stop : Stop) → IsOpening v s o → stop_before v s o ≡ Some stop → EndsAtFault (puts (put_first v s o) o.fault ++ said_closing stop.closing)
ends_opening v s o stop is h = ends_stop _ (closing_in (wanted_at v s o.reading)) (put_first v s o) o.lost o.fault _ stop (fault_put v s o is) (none_put v s o is) (clear_put v s o is) h

well_opening : (v : Terms) (s : Standing) (o : Opening) → stop_before v s o ≡ None → IsWell (puts (put_first v s o) o.fault)
well_opening v s o h = well_stop _ (put_first v s o) o.lost o.fault _ h

-- ---- the hearing

pub nothing_put : (v : Terms) (s : Standing) (st : Step) (a : Answer) → (a ≡ worn) ⊎ (a ≡ no_memory) → true ≡ calls st → octets_in (last_wanted v s st (Some a)) ≡ []
nothing_put v s (Ask who) a (inl h) calls = rw h refl
nothing_put v s (Ask who) a (inr h) calls = rw h refl
nothing_put v s Up a h calls = refl
nothing_put v s (Put o) a h calls = cc
nothing_put v s (PutClose o c) a h calls = cc
nothing_put v s (Close c) a h calls = cc
nothing_put v s Nothing a h calls = cc

ends_answered : (v : Terms) (s : Standing) (st : Step) (answer : Option Answer) (fault : Option LinkFault) (later : Option Stop) (stop : Stop) → is_some answer ≡ calls st
    → HasPut (octets_in (last_wanted v s st answer)) fault
    → first_of (stop_by answer) (first_of (stop_if fault) later) ≡ Some stop → EndsAtFault (puts (octets_in (last_wanted v s st answer)) fault ++ said_closing stop.closing)
ends_answered v s st (Some worn) fault later stop calls h is = rw (nothing_put v s st worn (inl refl) calls) (ends_closing stop.closing)
ends_answered v s st (Some no_memory) fault later stop calls h is = rw (nothing_put v s st no_memory (inr refl) calls) (ends_closing stop.closing)
ends_answered v s st answer fault later stop calls h is = ends_putting (octets_in (last_wanted v s st answer)) fault later stop h is

ends_message : (v : Terms) (s : Standing) (st : Step) (denial : Option Denial) (answer : Option Answer) (lost fault : Option LinkFault) (stop : Stop)
    → is_some answer ≡ is_none denial && calls st → HasPut (put_unless lost (octets_in (last_wanted v s st answer))) fault
    → stop_message v s st denial answer lost fault ≡ Some stop → EndsAtFault (puts (put_unless lost (octets_in (last_wanted v s st answer))) fault ++ said_closing stop.closing)
ends_message v s st denial answer (Some f) fault stop calls h is = ends_closing stop.closing
ends_message v s st None answer None fault stop calls h is = ends_answered v s st answer fault _ stop calls h is
ends_message v s st (Some d) (Some a) None fault stop calls h is = cc
ends_message v s (Ask who) (Some d) None None fault stop calls h is = ends_closing stop.closing
ends_message v s st (Some d) None None fault stop calls h is = ends_putting (octets_in (last_wanted v s st None)) fault _ stop h is

-- a step that calls nobody and puts nothing
ends_quiet : (v : Terms) (s : Standing) (answer : Option Answer) (lost fault : Option LinkFault) (c : Option Closing)
    → EndsAtFault (puts (put_unless lost (octets_in (last_wanted v s Nothing answer))) fault ++ said_closing c)
ends_quiet v s answer None fault c = ends_closing c
ends_quiet v s answer (Some f) fault c = ends_closing c

ends_judged : (v : Terms) (s0 s : Standing) (now : ℕ) (judged : Bool) (m : List ℕ) (denial : Option Denial) (answer : Option Answer) (lost fault : Option LinkFault) (stop : Stop)
    → is_some answer ≡ is_none denial && calls (heard_step v s0 now judged (Ok (Message m)))
    → HasPut (put_unless lost (octets_in (last_wanted v s (heard_step v s0 now judged (Ok (Message m))) answer))) fault
    → stop_judged judged (stop_message v s (heard_step v s0 now judged (Ok (Message m))) denial answer lost fault) ≡ Some stop
    → EndsAtFault (puts (put_unless lost (octets_in (last_wanted v s (heard_step v s0 now judged (Ok (Message m))) answer))) fault ++ said_closing stop.closing)
ends_judged v s0 s now true m denial answer lost fault stop calls h is = ends_message v s (heard_step v s0 now true (Ok (Message m))) denial answer lost fault stop calls h is
ends_judged v s0 s now false m denial answer lost fault stop calls h is = ends_quiet v s answer lost fault stop.closing

-- of what isn't a message the machine isn't told
pub unheard : (v : Terms) (s : Standing) (now : ℕ) (judged : Bool) (f : LinkFault) → heard_step v s now judged (Err f) ≡ Nothing
unheard v s now true f = refl
unheard v s now false f = refl

pub unheard_closed : (v : Terms) (s : Standing) (now : ℕ) (judged : Bool) → heard_step v s now judged (Ok Closed) ≡ Nothing
unheard_closed v s now true = refl
unheard_closed v s now false = refl

pub unheard_text : (v : Terms) (s : Standing) (now : ℕ) (judged : Bool) → heard_step v s now judged (Ok Text) ≡ Nothing
unheard_text v s now true = refl
unheard_text v s now false = refl

pub unheard_quiet : (v : Terms) (s : Standing) (now : ℕ) (judged : Bool) → heard_step v s now judged (Ok Quiet) ≡ Nothing
unheard_quiet v s now true = refl
unheard_quiet v s now false = refl

-- what isn't a message puts nothing, and then the session is closed
ends_silent : (v : Terms) (s : Standing) (st : Step) (answer : Option Answer) (lost fault : Option LinkFault) (c : Option Closing) → st ≡ Nothing
    → EndsAtFault (puts (put_unless lost (octets_in (last_wanted v s st answer))) fault ++ said_closing c)
ends_silent v s st answer lost fault c quiet = rw quiet (ends_quiet v s answer lost fault c)

silent_put : (v : Terms) (s : Standing) (st : Step) (answer : Option Answer) (lost fault : Option LinkFault) → st ≡ Nothing → puts (put_unless lost (octets_in (last_wanted v s st answer))) fault ≡ []
silent_put v s st answer None fault quiet = rw quiet refl
silent_put v s st answer (Some f) fault quiet = refl

ends_given : (v : Terms) (s0 s : Standing) (now wait : ℕ) (judged : Bool) (given : Result Incoming LinkFault) (denial : Option Denial) (answer : Option Answer)
    (lost fault : Option LinkFault) (stop : Stop)
    → is_some answer ≡ is_none denial && calls (heard_step v s0 now judged given) → HasPut (put_unless lost (octets_in (last_wanted v s (heard_step v s0 now judged given) answer))) fault
    → stop_given given (stop_judged judged (stop_message v s (heard_step v s0 now judged given) denial answer lost fault)) ≡ Some stop
    → EndsAtFault (Gave wait given ∷ (puts (put_unless lost (octets_in (last_wanted v s (heard_step v s0 now judged given) answer))) fault ++ said_closing stop.closing))
ends_given v s0 s now wait judged (Err Failed) denial answer lost fault stop calls h is =
    rw (silent_put v s (heard_step v s0 now judged (Err Failed)) answer lost fault (unheard v s0 now judged Failed), some_is (stop_at Failed) stop is) (refl, tt)
ends_given v s0 s now wait judged (Err NoMemory) denial answer lost fault stop calls h is =
    rw (silent_put v s (heard_step v s0 now judged (Err NoMemory)) answer lost fault (unheard v s0 now judged NoMemory), some_is (stop_at NoMemory) stop is) (refl, (tt, tt))
ends_given v s0 s now wait judged (Ok Closed) denial answer lost fault stop calls h is =
    (tt, ends_silent v s (heard_step v s0 now judged (Ok Closed)) answer lost fault stop.closing (unheard_closed v s0 now judged))
ends_given v s0 s now wait judged (Ok Text) denial answer lost fault stop calls h is =
    (tt, ends_silent v s (heard_step v s0 now judged (Ok Text)) answer lost fault stop.closing (unheard_text v s0 now judged))
ends_given v s0 s now wait judged (Ok Quiet) denial answer lost fault stop calls h is = cc
ends_given v s0 s now wait judged (Ok (Message x)) denial answer lost fault stop calls h is = (tt, ends_judged v s0 s now judged x denial answer lost fault stop calls h is)

-- a message after which the session goes on
well_message : (v : Terms) (s : Standing) (st : Step) (denial : Option Denial) (answer : Option Answer) (lost fault : Option LinkFault) → stop_message v s st denial answer lost fault ≡ None
    → IsWell (puts (put_unless lost (octets_in (last_wanted v s st answer))) fault)
well_message v s st denial answer (Some f) fault is = cc
well_message v s st denial answer None fault is = well_putting (stop_by answer) _ fault _ (first_none (stop_denied denial st) _ is).1

well_judged : (v : Terms) (s0 s : Standing) (now : ℕ) (judged : Bool) (m : List ℕ) (denial : Option Denial) (answer : Option Answer) (lost fault : Option LinkFault)
    → stop_judged judged (stop_message v s (heard_step v s0 now judged (Ok (Message m))) denial answer lost fault) ≡ None
    → IsWell (puts (put_unless lost (octets_in (last_wanted v s (heard_step v s0 now judged (Ok (Message m))) answer))) fault)
well_judged v s0 s now true m denial answer lost fault is = well_message v s (heard_step v s0 now true (Ok (Message m))) denial answer lost fault is
well_judged v s0 s now false m denial answer lost fault is = cc

well_given : (v : Terms) (s0 s : Standing) (now wait : ℕ) (judged : Bool) (given : Result Incoming LinkFault) (denial : Option Denial) (answer : Option Answer) (lost fault : Option LinkFault)
    → stop_given given (stop_judged judged (stop_message v s (heard_step v s0 now judged given) denial answer lost fault)) ≡ None
    → IsWell (Gave wait given ∷ puts (put_unless lost (octets_in (last_wanted v s (heard_step v s0 now judged given) answer))) fault)
unfolding IsWell
well_given v s0 s now wait judged (Err f) denial answer lost fault is = cc
well_given v s0 s now wait judged (Ok Closed) denial answer lost fault is = cc
well_given v s0 s now wait judged (Ok Text) denial answer lost fault is = cc
well_given v s0 s now wait judged (Ok Quiet) denial answer lost fault is = rw (silent_put v s (heard_step v s0 now judged (Ok Quiet)) answer lost fault (unheard_quiet v s0 now judged)) (refl, tt)
well_given v s0 s now wait judged (Ok (Message x)) denial answer lost fault is = (refl, well_judged v s0 s now judged x denial answer lost fault is)

-- ---- the turn

pub alone : (a : Option Stop) → first_of a None ≡ a
alone None = refl
alone (Some s) = refl

pub no_stop : (a : Option Stop) → true ≡ is_none a → a ≡ None
no_stop None h = refl
no_stop (Some s) h = cc

pub after_none : (a b : Option Stop) (stop : Stop) → a ≡ None → first_of a b ≡ Some stop → b ≡ Some stop
after_none None b stop h is = is
after_none (Some s) b stop h is = cc

ends_turn : (v : Terms) (s : Standing) (o : Opening) (h : Option Hearing) (stop : Stop) → IsTurn v s (record { opening = o; hearing = h })
    → stop_in v s (record { opening = o; hearing = h }) ≡ Some stop
    → EndsAtFault (said_in v s (record { opening = o; hearing = h }) ++ said_closing stop.closing)
ends_turn v s o None stop is stops = rw append-nil (ends_opening v s o stop is.opening (sym (alone (stop_before v s o)) ∙ stops))
ends_turn v s o (Some h) stop is stops =
    let quiet : stop_before v s o ≡ None = no_stop (stop_before v s o) is.heard in
    rw append_assoc (well_then (puts (put_first v s o) o.fault) (said_hearing v (opened s o) o.reading (wait_in o) h ++ said_closing stop.closing) (well_opening v s o quiet)
    (ends_given v (opened s o) (heard v (opened s o) o.reading h.judged h.given) o.reading (wait_in o) h.judged h.given
    (denied_in v (opened s o) (heard_step v (opened s o) o.reading h.judged h.given) h.given) h.answer h.lost h.fault stop is.hearing.calls is.hearing.cause
    (after_none (stop_before v s o) _ stop quiet stops)))

well_turn : (v : Terms) (s : Standing) (o : Opening) (h : Option Hearing) → stop_in v s (record { opening = o; hearing = h }) ≡ None → IsWell (said_in v s (record { opening = o; hearing = h }))
well_turn v s o None on = rw append-nil (well_opening v s o (first_none (stop_before v s o) _ on).0)
well_turn v s o (Some h) on = well-append (puts (put_first v s o) o.fault) (said_hearing v (opened s o) o.reading (wait_in o) h) (well_opening v s o (first_none (stop_before v s o) _ on).0)
    (well_given v (opened s o) (heard v (opened s o) o.reading h.judged h.given) o.reading (wait_in o) h.judged h.given
    (denied_in v (opened s o) (heard_step v (opened s o) o.reading h.judged h.given) h.given) h.answer h.lost h.fault (first_none (stop_before v s o) _ on).1)

-- ---- the course

well_turns : (v : Terms) (s : Standing) (ts : List Turn) → EachTurn TurnGoesOn v s ts → IsWell (shares said_in v s ts)
unfolding IsWell
well_turns v s [] each = tt
well_turns v s (t ∷ ts) each = well-append (said_in v s t) (shares said_in v (after v s t) ts) (well_turn v s t.opening t.hearing each.0) (well_turns v (after v s t) ts each.1)

pub each_last : (P : Terms → Standing → Turn → Type 0) (v : Terms) (s : Standing) (ts : List Turn) (t : Turn) → EachTurn P v s (ts ++ t ∷ []) → P v (standing v s ts) t
each_last P v s [] t each = each.0
each_last P v s (u ∷ ts) t each = each_last P v (after v s u) ts t each.1

ends_course : (v : Terms) (s : Standing) (ts : List Turn) (last : Option Turn) (stop : Stop) → EachTurn IsTurn v s (and_last ts last) → EachTurn TurnGoesOn v s ts → Stops v (standing v s ts) last stop
    → EndsAtFault (shares said_in v s (and_last ts last) ++ said_closing stop.closing)
ends_course v s ts None stop are on stops = well_then (shares said_in v s ts) (said_closing stop.closing) (well_turns v s ts on) (ends_closing stop.closing)
ends_course v s ts (Some t) stop are on stops =
    rw (shares-more said_in v s ts t, append_assoc) (well_then (shares said_in v s ts) (said_in v (standing v s ts) t ++ said_closing stop.closing) (well_turns v s ts on)
    (ends_turn v (standing v s ts) t.opening t.hearing stop (each_last IsTurn v s ts t are) stops))

pub sessions_end_at_fault : SessionsEndAtFault
sessions_end_at_fault v T R E frames ended x = rw x.talk (ends_course v begun x.course.went_on x.course.last x.course.stop x.course.turns x.course.goes_on x.course.stops)
