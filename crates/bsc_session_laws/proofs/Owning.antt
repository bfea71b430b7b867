-- A session forwards by its own connection alone.
-- It serves the clauses of `forwards_are_carried` and `policy_is_followed`.
use Rattle.std.proofs.Common.{◌≡◌, ℕ, Bool, true, false, List, [], ◌∷◌, Option, Some, None, Result, Ok, Err, is_some, refl, ap, sym, ◌∙◌, subst}
use Rattle.std.specs.List.{AllByRecursion}
use Rattle.bsc_octets.specs.declared.identity.Identity.{Identity}
use Rattle.bsc_history.specs.declared.call.Call.TheVariants.{Forward}
use Rattle.bsc_history.specs.declared.ending.End.{End}
use Rattle.bsc_history.specs.declared.entry.Entry.{Entry}
use Rattle.bsc_history.specs.declared.looks.Look.{Look}
use Rattle.bsc_history.specs.declared.reply.Reply.{Reply}
use Rattle.bsc_checks.specs.declared.verdict.Verdict.{Verdict}
use Rattle.bsc_checks.specs.declared.verdict.Verdict.TheVariants.{Pass, Carry as Carried, Silent, Nak}
use Rattle.bsc_edge.specs.declared.fault.LinkFault.{LinkFault}
use Rattle.bsc_edge.specs.declared.incoming.Incoming.{Incoming}
use Rattle.bsc_edge.specs.declared.incoming.Incoming.TheVariants.{Closed, Message, Quiet, Text}
use Rattle.bsc_edge.specs.declared.said.Said.{Said}
use Rattle.bsc_accept.specs.declared.step.Step.{Step}
use Rattle.bsc_accept.specs.declared.step.Step.TheVariants.{Ask, Put, PutClose, Up, Close, Nothing}
use Rattle.bsc_accept.specs.Messages.{is_farewell_answer}
use Rattle.bsc_accept.specs.Past.{Standing as MachineStanding, awaiting_request, connected, disconnecting, standing}
use Rattle.bsc_accept.specs.Steps.{message_step}
use Rattle.bsc_session.specs.declared.ended.Ended.{Ended}
use Rattle.bsc_session.specs.Answering.{answered, called, forwarded_by, stands_heard, step_of}
use Rattle.bsc_session.specs.Course.{all_turns, end_of, entries_of, shares, standing as stands_after_all}
use Rattle.bsc_session.specs.Following.{Tied, has_joined}
use Rattle.bsc_session.specs.Judging.{heard_step, verdict_on}
use Rattle.bsc_session.specs.Receiving.{Answer, replies, worn, no_memory, Hearing}
use Rattle.bsc_session.specs.Standings.{Standing, Terms, begun}
use Rattle.bsc_session.specs.Taking.{opened}
use Rattle.bsc_session.specs.Talk.{Session, leaving}
use Rattle.bsc_session.specs.Turns.{Turn, after, entries_after, entries_in, stands_after}
use Rattle.bsc_session_laws.specs.Laws.{ForwardsAreCarried, IsOfConnection}
use Rattle.bsc_session_laws.proofs.Connecting.{not_asked_parting}
use Rattle.bsc_session_laws.proofs.Forwarding.{forwards_made, forwards_made_bare}
use Rattle.bsc_session_laws.proofs.Turning.{heard_in, is_in, opened_in, tied_after, tied_begun}
use Rattle.bsc_accept.proofs.Common.{connected_asks as not_asked_connected}
use Rattle.bsc_lemmas.proofs.Lists.{all_append}

-- ---- who has a connection asks for none

in_asks_for_none : (g : MachineStanding) (w : Verdict) (who : Identity) → has_joined g ≡ true → message_step g w ≡ Ask who → ⊥
in_asks_for_none awaiting_request w who h e = cc
in_asks_for_none connected (Pass msg) who h e = not_asked_connected msg.id msg.body who e
in_asks_for_none (disconnecting f) (Pass msg) who h e = not_asked_parting (is_farewell_answer f.id msg) who e
in_asks_for_none connected (Carried envelope) who h e = cc
in_asks_for_none connected (Silent check) who h e = cc
in_asks_for_none connected (Nak check octets) who h e = cc
in_asks_for_none (disconnecting f) (Carried envelope) who h e = cc
in_asks_for_none (disconnecting f) (Silent check) who h e = cc
in_asks_for_none (disconnecting f) (Nak check octets) who h e = cc

pub heard_asks_for_none : (v : Terms) (s : Standing) (now : ℕ) (judged : Bool) (given : Result Incoming LinkFault) (who : Identity) → is_in s ≡ true → heard_step v s now judged given ≡ Ask who → ⊥
heard_asks_for_none v s now true (Ok (Message m)) who h e = in_asks_for_none (standing s.events) (verdict_on v s m) who h e
heard_asks_for_none v s now true (Ok Closed) who h e = cc
heard_asks_for_none v s now true (Ok Text) who h e = cc
heard_asks_for_none v s now true (Ok Quiet) who h e = cc
heard_asks_for_none v s now true (Err fault) who h e = cc
heard_asks_for_none v s now false given who h e = cc

same_conn : (s : Standing) (st : Step) (a : Option Answer) → ((who : Identity) → st ≡ Ask who → ⊥) → (answered s st a).conn ≡ s.conn
same_conn s (Ask who) a not = absurd (not who refl)
same_conn s (Put octets) a not = refl
same_conn s (PutClose octets c) a not = refl
same_conn s Up a not = refl
same_conn s (Close c) a not = refl
same_conn s Nothing a not = refl

has_one : (o : Option ℕ) (c : ℕ) → o ≡ Some c → is_some o ≡ true
has_one o c e = ap is_some e

-- ---- a connection stays

hearing_keeps : (v : Terms) (s : Standing) (now : ℕ) (h : Option Hearing) (c : ℕ) → Tied s → s.conn ≡ Some c → (stands_after v s now h).conn ≡ Some c
hearing_keeps v s now None c tied is = is
hearing_keeps v s now (Some h) c tied is =
    same_conn (stands_heard v s now h) (step_of v s now h) h.answer (λ who e. heard_asks_for_none v s now h.judged h.given who (tied ∙ has_one s.conn c is) e)
    ∙ (heard_in v s now h.judged h.given).1 ∙ is

turn_keeps : (v : Terms) (s : Standing) (t : Turn) (c : ℕ) → Tied s → s.conn ≡ Some c → (after v s t).conn ≡ Some c
turn_keeps v s t c tied is =
    let k = opened_in s t.opening in
    hearing_keeps v (opened s t.opening) t.opening.reading t.hearing c (k.0 ∙ tied ∙ ap is_some (sym k.1)) (k.1 ∙ is)

turns_keep : (v : Terms) (s : Standing) (ts : List Turn) (c : ℕ) → Tied s → s.conn ≡ Some c → (stands_after_all v s ts).conn ≡ Some c
turns_keep v s [] c tied is = is
turns_keep v s (t ∷ ts) c tied is = turns_keep v (after v s t) ts c (tied_after v s t tied) (turn_keeps v s t c tied is)

-- ---- the entries of a turn

same_sender : (a b : ℕ) (m n : List ℕ) → Forward a m ≡ Forward b n → a ≡ b
same_sender a b m n e = cc

own_forward : (v : Terms) (conn end : Option ℕ) (m : List ℕ) (looks : List Look) (reply : Reply) → ((c : ℕ) → conn ≡ Some c → end ≡ Some c)
    → AllByRecursion (IsOfConnection end) (forwarded_by v conn m looks reply)
own_forward v None end m looks reply keeps = tt
own_forward v (Some c) end m looks reply keeps = ((λ sender n e. keeps c refl ∙ ap Some (same_sender c sender m n e)), tt)

own_called : (v : Terms) (s : Standing) (st : Step) (given : Result Incoming LinkFault) (answer : Option Answer) (end : Option ℕ) → ((c : ℕ) → s.conn ≡ Some c → end ≡ Some c)
    → AllByRecursion (IsOfConnection end) (called v s st given answer)
own_called v s (Ask who) given (Some (replies place looks reply)) end keeps = ((λ sender n e. cc), tt)
own_called v s (Ask who) given (Some worn) end keeps = tt
own_called v s (Ask who) given (Some no_memory) end keeps = tt
own_called v s (Ask who) given None end keeps = tt
own_called v s Up (Ok (Message m)) (Some (replies place looks reply)) end keeps = own_forward v s.conn end m looks reply keeps
own_called v s Up (Ok (Message m)) (Some worn) end keeps = tt
own_called v s Up (Ok (Message m)) (Some no_memory) end keeps = tt
own_called v s Up (Ok (Message m)) None end keeps = tt
own_called v s Up (Ok Closed) answer end keeps = tt
own_called v s Up (Ok Text) answer end keeps = tt
own_called v s Up (Ok Quiet) answer end keeps = tt
own_called v s Up (Err fault) answer end keeps = tt
own_called v s (Put octets) given answer end keeps = tt
own_called v s (PutClose octets c) given answer end keeps = tt
own_called v s (Close c) given answer end keeps = tt
own_called v s Nothing given answer end keeps = tt

own_heard : (v : Terms) (s : Standing) (now : ℕ) (h : Option Hearing) (end : Option ℕ) → ((c : ℕ) → s.conn ≡ Some c → end ≡ Some c) → AllByRecursion (IsOfConnection end) (entries_after v s now h)
own_heard v s now None end keeps = tt
own_heard v s now (Some h) end keeps = own_called v s (step_of v s now h) h.given h.answer end keeps

-- ---- the entries of a session

own_turns : (v : Terms) (s : Standing) (ts : List Turn) → Tied s → AllByRecursion (IsOfConnection (stands_after_all v s ts).conn) (shares entries_in v s ts)
own_turns v s [] tied = tt
own_turns v s (t ∷ ts) tied =
    all_append (IsOfConnection (stands_after_all v (after v s t) ts).conn) (entries_in v s t) (shares entries_in v (after v s t) ts)
    (own_heard v (opened s t.opening) t.opening.reading t.hearing (stands_after_all v (after v s t) ts).conn
    (λ c e. turns_keep v (after v s t) ts c (tied_after v s t tied) (turn_keeps v s t c tied (sym (opened_in s t.opening).1 ∙ e))))
    (own_turns v (after v s t) ts (tied_after v s t tied))

own_leave : (caller : ℕ) (c end : Option ℕ) (taken empties : ℕ) (e : End) → AllByRecursion (IsOfConnection end) (leaving caller c taken empties e)
own_leave caller None end taken empties e = tt
own_leave caller (Some c) end taken empties e = ((λ sender n f. cc), tt)

pub forwards_are_carried : (v : Terms) (T : List Said) (R : List ℕ) (E : List Entry) (frames : List (List ℕ)) (ended : Ended) (x : Session v T R E frames ended) → ForwardsAreCarried v E ended x.course
forwards_are_carried v T R E frames ended x =
    let c = x.course in
    let left = leaving v.caller ended.conn ended.taken ended.empties x.reply in
    let own = all_append (IsOfConnection (end_of c).conn) (entries_of c) left (own_turns v begun (all_turns c) tied_begun)
    (own_leave v.caller ended.conn (end_of c).conn ended.taken ended.empties x.reply) in
    record {
      made = forwards_made v T R E frames ended x;
      unguarded = λ bare. forwards_made_bare v T R E frames ended x bare;
      own = subst (λ (o : Option ℕ). AllByRecursion (IsOfConnection o) E) (sym x.conn) (subst (λ (l : List Entry). AllByRecursion (IsOfConnection (end_of c).conn) l) (sym x.entries) own);
    }
