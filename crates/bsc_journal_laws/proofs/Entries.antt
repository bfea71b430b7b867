-- What a session enters: its octets are octets, its frames are no longer than the hub takes, and it found its outbox empty no
-- more often than it received.
-- It serves the clauses of `command_audits`, `journals_are_there` and `run_audits`.
use Rattle.std.proofs.Common.{◌≡◌, inl, inr, ℕ, ◌+◌, ◌≤◌, ◌<◌, Bool, true, false, cond, ◌&&◌, List, [], ◌∷◌, ◌++◌, length, Option, Some, None, Result, Ok, Err, is_some, is_none}
use Rattle.std.proofs.Common.{nat_lt, refl, ap, sym, ◌∙◌, subst, arith}
use Rattle.std.specs.List.{AllByRecursion}
use Rattle.std.proofs.lemmas.Bool.{ltb-false}
use Rattle.bsc_octets.specs.declared.envelope.Envelope.{Envelope}
use Rattle.bsc_history.specs.declared.call.Call.{Call}
use Rattle.bsc_history.specs.declared.call.Call.TheVariants.{Connect, Count, Forward, Leave, Stop}
use Rattle.bsc_history.specs.declared.ending.End.{End}
use Rattle.bsc_history.specs.declared.entry.Entry.{Entry}
use Rattle.bsc_history.specs.declared.looks.Look.{Look}
use Rattle.bsc_history.specs.declared.reply.Reply.{Reply}
use Rattle.bsc_history.specs.declared.reply.Reply.TheVariants.{Joined, Refused}
use Rattle.bsc_checks.specs.declared.place.Place.{Place}
use Rattle.bsc_checks.specs.declared.verdict.Verdict.{Verdict}
use Rattle.bsc_checks.specs.declared.verdict.Verdict.TheVariants.{Carry, Nak, Pass, Silent}
use Rattle.bsc_checks.specs.Failing.{fails}
use Rattle.bsc_checks.specs.Outcomes.{first_failing, outcome_of}
use Rattle.bsc_checks.specs.Table.{checks_of}
use Rattle.bsc_checks.proofs.Common.{none_fails, unrefused}
use Rattle.bsc_edge.specs.declared.fault.LinkFault.{LinkFault}
use Rattle.bsc_edge.specs.declared.incoming.Incoming.{Incoming}
use Rattle.bsc_edge.specs.declared.incoming.Incoming.TheVariants.{Closed, Message, Quiet, Text}
use Rattle.bsc_edge.specs.declared.said.Said.{Said}
use Rattle.bsc_accept.specs.declared.step.Step.{Step}
use Rattle.bsc_accept.specs.declared.step.Step.TheVariants.{Ask, Close, Nothing, Put, PutClose, Up}
use Rattle.bsc_lines.specs.declared.denial.Denial.{Denial}
use Rattle.bsc_port.specs.Guarding.{denied_message}
use Rattle.bsc_lemmas.proofs.Lists.{all_append}
use Rattle.bsc_session.specs.Notes.Notes.{Note, NotesHaveOctets, denied, made}
use Rattle.bsc_session.specs.Notes.Octets.{CallHasOctets}
use Rattle.bsc_session.specs.declared.bounds.TheConstants.{TAKES}
use Rattle.bsc_session.specs.declared.ended.Ended.{Ended}
use Rattle.bsc_session.specs.Answering.{answered, called, forwarded_by, stands_heard, step_of}
use Rattle.bsc_session.specs.Course.{EachTurn, SessionCourse, all_turns, empties_of, entries_of, shares, total}
use Rattle.bsc_session.specs.Judging.{heard_told, verdict_on}
use Rattle.bsc_session.specs.Reading.{ticked}
use Rattle.bsc_session.specs.Receiving.{Answer, Hearing, no_memory, replies, worn}
use Rattle.bsc_session.specs.Standings.{Standing, Terms, begun, is_connected}
use Rattle.bsc_session.specs.Taking.{Opening, end_told, opened}
use Rattle.bsc_session.specs.Talk.{Session, journal_of, leaving, lost_of}
use Rattle.bsc_session.specs.Turns.{IsTurn, Turn, after, empties_in as empties_in_turn, entries_after, entries_in as entries_in_turn}
use Rattle.bsc_session_laws.specs.Laws.{AreAllBut, ForwardsAreCarried}
use Rattle.bsc_session_laws.specs.Messages.{JudgedMessage, allowed, allowed_by, forwarded, forwarded_in, message_after, message_by, message_in, messages_of}
use Rattle.bsc_journal_laws.specs.Lines.{FrameFits, empties_in, frame_size}
use Rattle.bsc_journal_laws.specs.Placing.{entries_in, told_by}
use Rattle.bsc_journal_laws.proofs.Noting.{notes_are_entries}

-- ---- octets

told_octets : (ns : List Note) → NotesHaveOctets ns → AllByRecursion (λ (e : Entry). CallHasOctets e.call) (entries_in (told_by ns))
told_octets [] h = tt
told_octets (made at e ∷ ns) h = (h.0, told_octets ns h.1)
told_octets (denied d ∷ ns) h = told_octets ns h.1

-- the octets of what a session enters are octets, where those of its notes are and no line was lost
pub entries_have_octets : (v : Terms) (T : List Said) (R : List ℕ) (E : List Entry) (frames : List (List ℕ)) (ended : Ended)
    → (x : Session v T R E frames ended) → lost_of x ≡ None → NotesHaveOctets (journal_of x) → AllByRecursion (λ (e : Entry). CallHasOctets e.call) E
entries_have_octets v T R E frames ended x none octets =
    subst (AllByRecursion (λ (e : Entry). CallHasOctets e.call)) (notes_are_entries v T R E frames ended x none) (told_octets (journal_of x) octets)

-- ---- frames

-- A message that is to be carried on is no longer than the greatest length.
carried_short : (m : List ℕ) (place : Place) (max : ℕ) (e : Envelope) → outcome_of m place max ≡ Carry e → length m ≤ max
unfolding outcome_of
carried_short m place max e h =
    let a = unrefused m place (first_failing (fails m place max) (checks_of place m)) (Carry e) h refl in
    let all = none_fails (fails m place max) (checks_of place m) a.0 in
    ltb-false max (length m) all.1.0

abbrev AllUpTo : ℕ → List (List ℕ) → Type 0
AllUpTo max ms = AllByRecursion (λ (m : List ℕ). length m ≤ max) ms

allowed_short : (v : Terms) (s : Standing) (m : List ℕ) (w : Verdict) (d : Option Denial) → verdict_on v s m ≡ w → AllUpTo v.hub.max_bvlc (allowed_by m w d)
allowed_short v s m (Carry e) None is = (carried_short m _ v.hub.max_bvlc e is, tt)
allowed_short v s m (Carry e) (Some d) is = tt
allowed_short v s m (Pass msg) d is = tt
allowed_short v s m (Silent check) d is = tt
allowed_short v s m (Nak check octets) d is = tt

given_short : (v : Terms) (s : Standing) (given : Result Incoming LinkFault) → AllUpTo v.hub.max_bvlc (allowed (message_by v s given))
given_short v s (Ok (Message m)) =
    let d = denied_message v.policy s.address m in
    all_append (λ (o : List ℕ). length o ≤ v.hub.max_bvlc) (allowed_by m (verdict_on v s m) d) [] (allowed_short v s m (verdict_on v s m) d refl) tt
given_short v s (Ok Closed) = tt
given_short v s (Ok Text) = tt
given_short v s (Ok Quiet) = tt
given_short v s (Err fault) = tt

after_short : (v : Terms) (s : Standing) (h : Option Hearing) → AllUpTo v.hub.max_bvlc (allowed (message_after v s h))
after_short v s None = tt
after_short v s (Some h) = given_short v s h.given

front_append : (front all more : List (List ℕ)) (max : ℕ) → AllUpTo max (front ++ all) → (AllUpTo max all → AllUpTo max more) → AllUpTo max (front ++ more)
front_append [] all more max h f = f h
front_append (m ∷ front) all more max h f = (h.0, front_append front all more max h.1 f)

allowed_append : (js ks : List JudgedMessage) (max : ℕ) → AllUpTo max (allowed js) → AllUpTo max (allowed ks) → AllUpTo max (allowed (js ++ ks))
allowed_append [] ks max h k = k
allowed_append (j ∷ js) ks max h k = front_append (allowed_by j.octets j.verdict j.denied) (allowed js) (allowed (js ++ ks)) max h (λ l. allowed_append js ks max l k)

messages_short : (v : Terms) (s : Standing) (ts : List Turn) → AllUpTo v.hub.max_bvlc (allowed (shares message_in v s ts))
messages_short v s [] = tt
messages_short v s (t ∷ ts) =
    allowed_append (message_in v s t) (shares message_in v (after v s t) ts) v.hub.max_bvlc (after_short v (opened s t.opening) t.hearing) (messages_short v (after v s t) ts)

front_all : {A : Type 0} (P : A → Type 0) (xs ys : List A) → AllByRecursion P (xs ++ ys) → AllByRecursion P xs
front_all P [] ys h = tt
front_all P (x ∷ xs) ys h = (h.0, front_all P xs ys h.1)

some_short : (Cause : List ℕ → Type 0) (max : ℕ) (all some : List (List ℕ)) → AreAllBut Cause all some → AllUpTo max all → AllUpTo max some
some_short Cause max all some (inl same) h = subst (AllUpTo max) same h
some_short Cause max all some (inr r) h = front_all (λ (m : List ℕ). length m ≤ max) some (r.0 ∷ []) (subst (AllUpTo max) r.2 h)

frame_by : (call : Call) (rest : List (List ℕ)) (max : ℕ) → max ≤ 65535 → AllUpTo max (forwarded_in call ++ rest) → (frame_size call ≤ 65535) × AllUpTo max rest
frame_by (Forward sender m) rest max few h = ((let k : length m ≤ max = h.0 in omega (arith, k, few)), h.1)
frame_by (Connect who) rest max few h = (omega arith, h)
frame_by (Leave c t n) rest max few h = (omega arith, h)
frame_by Stop rest max few h = (omega arith, h)
frame_by Count rest max few h = (omega arith, h)

frames_short : (E : List Entry) (max : ℕ) → max ≤ 65535 → AllUpTo max (forwarded E) → AllByRecursion FrameFits E
frames_short [] max few h = tt
frames_short (e ∷ E) max few h = (let k = frame_by e.call (forwarded E) max few h in (k.0, frames_short E max few k.1))

-- no frame that a session forwards is longer than the hub takes
pub entries_fit : (v : Terms) (E : List Entry) (ended : Ended) (c : SessionCourse v) → ForwardsAreCarried v E ended c → v.hub.max_bvlc ≤ 65535 → AllByRecursion FrameFits E
entries_fit v E ended c carried few = frames_short E v.hub.max_bvlc few (some_short _ v.hub.max_bvlc (allowed (messages_of c)) (forwarded E) carried.made (messages_short v begun (all_turns c)))

-- ---- empties

-- how many receives were made, from turn to turn
met_receives : (s : Standing) (now : ℕ) (met : Option End) → (end_told s now met).receives ≡ s.receives
met_receives s now None = refl
met_receives s now (Some e) = refl

answered_receives : (s : Standing) (st : Step) (a : Option Answer) → (answered s st a).receives ≡ s.receives
answered_receives s (Ask who) (Some (replies at l (Joined c r))) = refl
answered_receives s (Ask who) (Some (replies at l (Refused r))) = refl
answered_receives s st a = refl

heard_receives : (v : Terms) (s : Standing) (now : ℕ) (judged : Bool) (given : Result Incoming LinkFault) → (heard_told v s now judged given).receives ≡ s.receives
heard_receives v s now true (Ok (Message m)) = refl
heard_receives v s now false (Ok (Message m)) = refl
heard_receives v s now true given = refl
heard_receives v s now false given = refl

hearing_receives : (v : Terms) (s : Standing) (now : ℕ) (h : Hearing) → (answered (stands_heard v s now h) (step_of v s now h) h.answer).receives ≡ s.receives + 1
hearing_receives v s now h = answered_receives (stands_heard v s now h) (step_of v s now h) h.answer ∙ ap (λ (k : ℕ). k + 1) (heard_receives v s now h.judged h.given)

one_for : (a b c d : Bool) → cond (a && (b && (c && d))) 1 0 ≤ cond b 1 0
one_for true true true true = omega arith
one_for true true true false = omega arith
one_for true true false d = omega arith
one_for true false c d = omega arith
one_for false true c d = omega arith
one_for false false c d = omega arith

-- a turn finds the outbox empty no more often than it receives
turn_receives : (v : Terms) (s : Standing) (o : Opening) (h : Option Hearing) → (after v s (record { opening = o; hearing = h })).receives ≡ s.receives + cond (is_some h) 1 0
turn_receives v s o None = met_receives (ticked s o.reading) o.reading o.met ∙ (let z : s.receives ≡ s.receives + 0 = omega arith in z)
turn_receives v s o (Some h) = hearing_receives v (opened s o) o.reading h ∙ ap (λ (k : ℕ). k + 1) (met_receives (ticked s o.reading) o.reading o.met)

most_one : (b : Bool) → cond b 1 0 ≤ 1
most_one true = omega arith
most_one false = omega arith

room_after : (later now step turns : ℕ) → later ≡ now + step → step ≤ 1 → now < turns → later ≤ turns
room_after later now step turns more one room = omega (arith, more, one, room)

found_after : (later now step here rest turns : ℕ) → later ≡ now + step → here ≤ step → later + rest ≤ turns → now + (here + rest) ≤ turns
found_after later now step here rest turns more few all = omega (arith, more, few, all)

turns_found : (v : Terms) (s : Standing) (ts : List Turn) → EachTurn IsTurn v s ts → s.receives ≤ v.turns → s.receives + total empties_in_turn v s ts ≤ v.turns
turns_found v s [] is few = omega (arith, few)
turns_found v s (t ∷ ts) is few =
    let step : ℕ = cond (is_some t.hearing) 1 0 in
    let here : empties_in_turn v s t ≤ step = one_for (is_none t.opening.met) (is_some t.hearing) (is_connected (ticked s t.opening.reading)) (nat_lt (length t.opening.frames) TAKES) in
    let more : (after v s t).receives ≡ s.receives + step = turn_receives v s t.opening t.hearing in
    let rest = turns_found v (after v s t) ts is.1 (room_after (after v s t).receives s.receives step v.turns more (most_one (is_some t.hearing)) is.0.room) in
    found_after (after v s t).receives s.receives step (empties_in_turn v s t) (total empties_in_turn v (after v s t) ts) v.turns more here rest

abbrev FewEmpties : ℕ → Entry → Type 0
FewEmpties most e = empties_in e.call ≤ most

forwarded_empties : (v : Terms) (conn : Option ℕ) (m : List ℕ) (looks : List Look) (reply : Reply) (most : ℕ) → AllByRecursion (FewEmpties most) (forwarded_by v conn m looks reply)
forwarded_empties v None m looks reply most = tt
forwarded_empties v (Some c) m looks reply most = (omega arith, tt)

called_empties : (v : Terms) (s : Standing) (st : Step) (given : Result Incoming LinkFault) (answer : Option Answer) (most : ℕ) → AllByRecursion (FewEmpties most) (called v s st given answer)
called_empties v s (Ask who) given (Some (replies place looks reply)) most = (omega arith, tt)
called_empties v s (Ask who) given (Some worn) most = tt
called_empties v s (Ask who) given (Some no_memory) most = tt
called_empties v s (Ask who) given None most = tt
called_empties v s Up (Ok (Message m)) (Some (replies place looks reply)) most = forwarded_empties v s.conn m looks reply most
called_empties v s Up (Ok (Message m)) (Some worn) most = tt
called_empties v s Up (Ok (Message m)) (Some no_memory) most = tt
called_empties v s Up (Ok (Message m)) None most = tt
called_empties v s Up (Ok Closed) answer most = tt
called_empties v s Up (Ok Text) answer most = tt
called_empties v s Up (Ok Quiet) answer most = tt
called_empties v s Up (Err fault) answer most = tt
called_empties v s (Put octets) given answer most = tt
called_empties v s (PutClose octets c) given answer most = tt
called_empties v s (Close c) given answer most = tt
called_empties v s Nothing given answer most = tt

heard_empties : (v : Terms) (s : Standing) (now : ℕ) (h : Option Hearing) (most : ℕ) → AllByRecursion (FewEmpties most) (entries_after v s now h)
heard_empties v s now None most = tt
heard_empties v s now (Some h) most = called_empties v s (step_of v s now h) h.given h.answer most

turns_empties : (v : Terms) (s : Standing) (ts : List Turn) (most : ℕ) → AllByRecursion (FewEmpties most) (shares entries_in_turn v s ts)
turns_empties v s [] most = tt
turns_empties v s (t ∷ ts) most =
    all_append (FewEmpties most) (entries_in_turn v s t) (shares entries_in_turn v (after v s t) ts) (heard_empties v (opened s t.opening) t.opening.reading t.hearing most)
    (turns_empties v (after v s t) ts most)

left_empties : (caller : ℕ) (conn : Option ℕ) (taken empties most : ℕ) (e : End) → empties ≤ most → AllByRecursion (FewEmpties most) (leaving caller conn taken empties e)
left_empties caller None taken empties most e few = tt
left_empties caller (Some c) taken empties most e few = (few, tt)

-- what a session enters says no more empties than it may make turns
pub entries_found : (v : Terms) (T : List Said) (R : List ℕ) (E : List Entry) (frames : List (List ℕ)) (ended : Ended)
    → (x : Session v T R E frames ended) → AllByRecursion (λ (e : Entry). empties_in e.call ≤ v.turns) E
entries_found v T R E frames ended x =
    let found : 0 + empties_of x.course ≤ v.turns = turns_found v begun (all_turns x.course) x.course.turns (let z : 0 ≤ v.turns = omega arith in z) in
    let same : ended.empties ≡ empties_of x.course = x.empties in
    let few : ended.empties ≤ v.turns = omega (arith, found, same) in
    subst (AllByRecursion (FewEmpties v.turns)) (sym x.entries)
    (all_append (FewEmpties v.turns) (entries_of x.course) (leaving v.caller ended.conn ended.taken ended.empties x.reply)
    (turns_empties v begun (all_turns x.course) v.turns) (left_empties v.caller ended.conn ended.taken ended.empties v.turns x.reply few))
