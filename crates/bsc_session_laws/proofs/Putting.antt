-- The Encapsulated-NPDUs that a session puts are the frames from its outlet.
-- It serves the clauses of `npdus_are_taken`.
use Rattle.std.proofs.Common.{◌≡◌, ℕ, Bool, true, false, cond, List, [], ◌∷◌, ◌++◌, Option, Some, None, Result, Ok, Err, refl, ap, sym, ◌∙◌, append-nil}
use Rattle.std.proofs.lemmas.Grind.{flat_map-append}
use Rattle.std.proofs.lemmas.List.Elements.{filter-append}
use Rattle.bsc_octets.specs.Functions.{is_npdu, npdus}
use Rattle.bsc_history.specs.declared.ending.End.{End}
use Rattle.bsc_history.specs.declared.entry.Entry.{Entry}
use Rattle.bsc_history.specs.declared.reply.Reply.TheVariants.{Joined, Refused}
use Rattle.bsc_checks.specs.declared.place.Place.TheVariants.{HubPort}
use Rattle.bsc_edge.specs.declared.fault.LinkFault.{LinkFault}
use Rattle.bsc_edge.specs.declared.incoming.Incoming.{Incoming}
use Rattle.bsc_edge.specs.declared.incoming.Incoming.TheVariants.{Closed, Message, Quiet, Text}
use Rattle.bsc_edge.specs.declared.said.Said.{Said}
use Rattle.bsc_accept.specs.declared.closing.Closing.{Closing}
use Rattle.bsc_accept.specs.declared.event.Event.TheVariants.{Message as Came, Refused as RefusedEvent, Ended as EndedEvent}
use Rattle.bsc_accept.specs.declared.step.Step.{Step}
use Rattle.bsc_accept.specs.declared.step.Step.TheVariants.{Ask, Put, PutClose, Up, Close, Nothing}
use Rattle.bsc_accept.specs.Past.{phase}
use Rattle.bsc_session.specs.declared.ended.Ended.{Ended}
use Rattle.bsc_session.specs.Answering.{last_step, last_wanted, put_after, put_unless, stands_heard, step_of}
use Rattle.bsc_session.specs.Course.{all_turns, said_closing, shares}
use Rattle.bsc_session.specs.Judging.{heard_step, verdict_on}
use Rattle.bsc_session.specs.Puts.{octets_in, puts}
use Rattle.bsc_session.specs.Reading.{ticked}
use Rattle.bsc_session.specs.Receiving.{Answer, replies, Hearing}
use Rattle.bsc_session.specs.Standings.{Standing, Terms, begun, start_of}
use Rattle.bsc_session.specs.Taking.{end_step, opened, passing, put_first, wait_in}
use Rattle.bsc_session.specs.Talk.{Session, journal_of}
use Rattle.bsc_session.specs.Turns.{Turn, after, said_after, said_in}
use Rattle.bsc_session_laws.specs.Policies.{PolicyIsFollowed, put_in as taken_in}
use Rattle.bsc_session_laws.specs.Npdus.{NpdusAreTaken}
use Rattle.bsc_accept.proofs.OwnOctets.{PutsNone, none-step}
use Rattle.bsc_node_links.specs.Talks.{put_by, put_in}

-- ---- what the machine wants

-- of octets that are none, none is one
these : (o : List ℕ) → is_npdu o ≡ false → npdus (o ∷ []) ≡ []
these o h = ap (λ (b : Bool). cond b (o ∷ []) []) h

none-put : (st : Step) → PutsNone st → npdus (octets_in st) ≡ []
none-put (Ask who) h = refl
none-put (Put o) h = these o.items h
none-put (PutClose o c) h = these o.items h
none-put Up h = refl
none-put (Close c) h = refl
none-put Nothing h = refl

none-heard : (v : Terms) (s : Standing) (now : ℕ) (judged : Bool) (given : Result Incoming LinkFault) → PutsNone (heard_step v s now judged given)
none-heard v s now true (Ok (Message m)) = none-step (start_of v s) s.events (Came now (verdict_on v s m)) (m, HubPort (phase s.events), v.hub.max_bvlc, refl)
none-heard v s now true (Ok Closed) = tt
none-heard v s now true (Ok Text) = tt
none-heard v s now true (Ok Quiet) = tt
none-heard v s now true (Err fault) = tt
none-heard v s now false given = tt

none-last : (v : Terms) (s : Standing) (st : Step) (answer : Option Answer) → PutsNone st → PutsNone (last_wanted v s st answer)
none-last v s (Ask who) (Some (replies place looks (Joined c r))) h = refl
none-last v s (Ask who) (Some (replies place looks (Refused r))) h = none-step (start_of v s) s.events (RefusedEvent r) tt
none-last v s (Ask who) answer h = tt
none-last v s (Put octets) answer h = h
none-last v s (PutClose octets c) answer h = h
none-last v s Up answer h = tt
none-last v s (Close c) answer h = tt
none-last v s Nothing answer h = tt

none-end : (v : Terms) (s : Standing) (now : ℕ) (met : Option End) → PutsNone (end_step v s now met)
none-end v s now None = tt
none-end v s now (Some e) = none-step (start_of v s) s.events (EndedEvent now e) tt

-- ---- what is put, by the talk

npdus-append : (os ps : List (List ℕ)) → npdus (os ++ ps) ≡ npdus os ++ npdus ps
npdus-append os ps = filter-append is_npdu os ps

put-append : (S T : List Said) → put_in (S ++ T) ≡ put_in S ++ put_in T
put-append S T = flat_map-append put_by S T

puts_put : (os : List (List ℕ)) (fault : Option LinkFault) → put_in (puts os fault) ≡ os
puts_put [] fault = refl
puts_put (o ∷ []) fault = refl
puts_put (o ∷ (p ∷ os)) fault = ap (λ (l : List (List ℕ)). o ∷ l) (puts_put (p ∷ os) fault)

none-unless : (lost : Option LinkFault) (os : List (List ℕ)) → npdus os ≡ [] → npdus (put_unless lost os) ≡ []
none-unless None os h = h
none-unless (Some fault) os h = refl

none-after : (v : Terms) (s : Standing) (now wait : ℕ) (h : Option Hearing) → npdus (put_in (said_after v s now wait h)) ≡ []
none-after v s now wait None = refl
none-after v s now wait (Some h) =
    ap npdus (puts_put (put_after v s now h) h.fault)
    ∙ none-unless h.lost (octets_in (last_step v s now h))
    (none-put (last_step v s now h) (none-last v (stands_heard v s now h) (step_of v s now h) h.answer (none-heard v s now h.judged h.given)))

-- ---- turns

turn_puts : (v : Terms) (s : Standing) (t : Turn) → npdus (put_in (said_in v s t)) ≡ npdus (taken_in v s t)
turn_puts v s t =
    let o = t.opening in
    let first = put_first v s o in
    let behind = said_after v (opened s o) o.reading (wait_in o) t.hearing in
    let own = octets_in (end_step v (ticked s o.reading) o.reading o.met) in
    ap npdus (put-append (puts first o.fault) behind ∙ ap (λ (l : List (List ℕ)). l ++ put_in behind) (puts_put first o.fault))
    ∙ npdus-append first (put_in behind)
    ∙ ap (λ (l : List (List ℕ)). npdus first ++ l) (none-after v (opened s o) o.reading (wait_in o) t.hearing)
    ∙ append-nil (npdus first)
    ∙ npdus-append (passing v s o.frames) own
    ∙ ap (λ (l : List (List ℕ)). npdus (passing v s o.frames) ++ l) (none-put (end_step v (ticked s o.reading) o.reading o.met) (none-end v (ticked s o.reading) o.reading o.met))
    ∙ append-nil (npdus (passing v s o.frames))

turns_put : (v : Terms) (s : Standing) (ts : List Turn) → npdus (put_in (shares said_in v s ts)) ≡ npdus (shares taken_in v s ts)
turns_put v s [] = refl
turns_put v s (t ∷ ts) =
    let here = said_in v s t in
    let rest = shares said_in v (after v s t) ts in
    ap npdus (put-append here rest)
    ∙ npdus-append (put_in here) (put_in rest)
    ∙ ap (λ (l : List (List ℕ)). l ++ npdus (put_in rest)) (turn_puts v s t)
    ∙ ap (λ (l : List (List ℕ)). npdus (taken_in v s t) ++ l) (turns_put v (after v s t) ts)
    ∙ sym (npdus-append (taken_in v s t) (shares taken_in v (after v s t) ts))

closing_puts_none : (c : Option Closing) → put_in (said_closing c) ≡ []
closing_puts_none None = refl
closing_puts_none (Some c) = refl

-- ---- a session

-- the law by which frames are put
abbrev pub PolicyLaw : Type 0
PolicyLaw = (v : Terms) (T : List Said) (R : List ℕ) (E : List Entry) (frames : List (List ℕ)) (ended : Ended) → (x : Session v T R E frames ended)
    → PolicyIsFollowed v T E frames (journal_of x) x.course

pub are_taken : PolicyLaw → (v : Terms) (T : List Said) (R : List ℕ) (E : List Entry) (frames : List (List ℕ)) (ended : Ended) (x : Session v T R E frames ended) → NpdusAreTaken v T frames x.course
are_taken law v T R E frames ended x =
    let c = x.course in
    let said = shares said_in v begun (all_turns c) in
    ap (λ (l : List Said). npdus (put_in l)) x.talk
    ∙ ap npdus (put-append said (said_closing c.stop.closing) ∙ ap (λ (l : List (List ℕ)). put_in said ++ l) (closing_puts_none c.stop.closing) ∙ append-nil (put_in said))
    ∙ turns_put v begun (all_turns c)
    ∙ ap npdus (law v T R E frames ended x).put
