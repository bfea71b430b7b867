-- When a policy ends a session: a device asked to join that isn't admitted.
-- It serves the clauses of `causes_are_exact` and `serve`.
use Rattle.std.proofs.Common.{◌≡◌, ◌↔◌, ℕ, Bool, true, false, refl, ap, sym, ◌∙◌, Option, Some, None, Result, Ok, Err}
use Rattle.bsc_octets.specs.declared.identity.Identity.{Identity}
use Rattle.bsc_edge.specs.declared.fault.LinkFault.{LinkFault}
use Rattle.bsc_edge.specs.declared.fault.LinkFault.TheVariants.{Failed, NoMemory as MemoryFault}
use Rattle.bsc_edge.specs.declared.incoming.Incoming.{Incoming}
use Rattle.bsc_edge.specs.declared.incoming.Incoming.TheVariants.{Closed, Message, Quiet, Text}
use Rattle.bsc_history.specs.declared.reply.Reply.TheVariants.{Refused as RefusedReply}
use Rattle.bsc_accept.specs.declared.closing.Closing.{Closing}
use Rattle.bsc_accept.specs.declared.step.Step.{Step}
use Rattle.bsc_accept.specs.declared.step.Step.TheVariants.{Ask}
use Rattle.bsc_lines.specs.declared.denial.Denial.{Denial}
use Rattle.bsc_session.specs.declared.stop.Stop.{Stop}
use Rattle.bsc_session.specs.declared.why.Why.TheVariants.{Denied, NoMemory, NotBinary, PeerClosed, Worn}
use Rattle.bsc_session.specs.Answering.{cause_of, denial_in, last_wanted, stop_by, stop_given, stop_judged, stop_message}
use Rattle.bsc_session.specs.Causes.{IsDenied, answer_in, given_in, hearing_fault, judged_in}
use Rattle.bsc_session.specs.Judging.{heard, heard_step}
use Rattle.bsc_session.specs.Receiving.{Answer, Hearing, no_memory, replies, worn}
use Rattle.bsc_session.specs.Standings.{Standing, Terms}
use Rattle.bsc_session.specs.Stops.{closes, closing_in, first_of, stop_at, stop_if}
use Rattle.bsc_session.specs.Taking.{Opening, opened, stop_before}
use Rattle.bsc_session.specs.Turns.{IsTurn, stop_in}
use Rattle.bsc_session.proofs.Causing.{Ends, closes_why, denied_after, lost_after, why_is}
use Rattle.bsc_session.proofs.EndingAtFault.{after_none, no_stop}

-- a step asks to join, and is denied
abbrev IsTurnedAway : Step → Option Denial → Type 0
IsTurnedAway st d = (who : Identity) × (x : Denial) × (st ≡ Ask who) × (d ≡ Some x)

fault_denied : (f : LinkFault) (rule : ℕ) → (stop_at f).why ≡ Denied rule → ⊥
fault_denied Failed rule h = cc
fault_denied MemoryFault rule h = cc

cause_denied : (st : Step) (a : Option Answer) (rule : ℕ) → cause_of st a ≡ Denied rule → ⊥
cause_denied (Ask who) (Some (replies at l (RefusedReply r))) rule h = cc
cause_denied st a rule h = cc

-- what isn't denied has another cause
answered_denied : (st : Step) (a : Option Answer) (fault : Option LinkFault) (c : Option Closing) (stop : Stop) (rule : ℕ)
    → first_of (stop_by a) (first_of (stop_if fault) (closes (cause_of st a) c)) ≡ Some stop → stop.why ≡ Denied rule → ⊥
answered_denied st (Some worn) fault c stop rule is why = (let k : Worn ≡ Denied rule = sym (why_is _ stop is) ∙ why in cc)
answered_denied st (Some no_memory) fault c stop rule is why = (let k : NoMemory ≡ Denied rule = sym (why_is _ stop is) ∙ why in cc)
answered_denied st None None c stop rule is why = cause_denied st None rule (sym (closes_why (cause_of st None) c stop is) ∙ why)
answered_denied st (Some (replies at l r)) None c stop rule is why = cause_denied st (Some (replies at l r)) rule (sym (closes_why (cause_of st (Some (replies at l r))) c stop is) ∙ why)
answered_denied st None (Some f) c stop rule is why = fault_denied f rule (sym (why_is (stop_at f) stop is) ∙ why)
answered_denied st (Some (replies at l r)) (Some f) c stop rule is why = fault_denied f rule (sym (why_is (stop_at f) stop is) ∙ why)

rule_is : (i j : ℕ) → Denied i ≡ Denied j → j ≡ i
rule_is i j h = cc

message_denied : (v : Terms) (s : Standing) (st : Step) (d : Option Denial) (a : Option Answer) (fault : Option LinkFault) (stop : Stop) (rule : ℕ)
    → stop_message v s st d a None fault ≡ Some stop → stop.why ≡ Denied rule → (rule ≡ 0) × IsTurnedAway st d
message_denied v s st None a fault stop rule is why = absurd (answered_denied st a fault (closing_in (last_wanted v s st a)) stop rule is why)
message_denied v s (Ask who) (Some x) a fault stop rule is why = (rule_is 0 rule (sym (why_is _ stop is) ∙ why), (who, x, refl, refl))
message_denied v s st (Some x) a fault stop rule is why = absurd (answered_denied st a fault (closing_in (last_wanted v s st a)) stop rule is why)

given_denied : (v : Terms) (s0 s : Standing) (now : ℕ) (given : Result Incoming LinkFault) (judged : Bool) (d : Option Denial) (a : Option Answer) (fault : Option LinkFault) (stop : Stop) (rule : ℕ)
    → stop_given given (stop_judged judged (stop_message v s (heard_step v s0 now judged given) d a None fault)) ≡ Some stop → stop.why ≡ Denied rule → (rule ≡ 0)
    × IsTurnedAway (heard_step v s0 now judged given) d
given_denied v s0 s now (Err f) judged d a fault stop rule is why = absurd (fault_denied f rule (sym (why_is (stop_at f) stop is) ∙ why))
given_denied v s0 s now (Ok Closed) judged d a fault stop rule is why = (let k : PeerClosed ≡ Denied rule = sym (why_is _ stop is) ∙ why in cc)
given_denied v s0 s now (Ok Text) judged d a fault stop rule is why = (let k : NotBinary ≡ Denied rule = sym (why_is _ stop is) ∙ why in cc)
given_denied v s0 s now (Ok Quiet) judged d a fault stop rule is why = cc
given_denied v s0 s now (Ok (Message m)) true d a fault stop rule is why = message_denied v s (heard_step v s0 now true (Ok (Message m))) d a fault stop rule is why
given_denied v s0 s now (Ok (Message m)) false d a fault stop rule is why = (let k : NoMemory ≡ Denied rule = sym (why_is _ stop is) ∙ why in cc)

-- where a device was denied, it is so that the session stops
asked_stops : (v : Terms) (s : Standing) (st : Step) (d : Option Denial) (a : Option Answer) (fault : Option LinkFault) (stop : Stop) (who : Identity) (x : Denial) → st ≡ Ask who
    → d ≡ Some x → stop_message v s st d a None fault ≡ Some stop → stop.why ≡ Denied 0
asked_stops v s st d a fault stop who x asks denies is = (let k : stop_message v s (Ask who) (Some x) a None fault ≡ Some stop = rw (asks, denies) at is in why_is _ stop k)

denied_stops : (v : Terms) (s0 s : Standing) (now : ℕ) (given : Result Incoming LinkFault) (judged : Bool) (d : Option Denial) (a : Option Answer) (fault : Option LinkFault) (stop : Stop)
    (who : Identity) (x : Denial)
    → heard_step v s0 now judged given ≡ Ask who → d ≡ Some x → stop_given given (stop_judged judged (stop_message v s (heard_step v s0 now judged given) d a None fault)) ≡ Some stop
    → stop.why ≡ Denied 0
denied_stops v s0 s now (Ok (Message m)) true d a fault stop who x asks denies is = asked_stops v s (heard_step v s0 now true (Ok (Message m))) d a fault stop who x asks denies is
denied_stops v s0 s now (Ok (Message m)) false d a fault stop who x asks denies is = cc
denied_stops v s0 s now (Ok Closed) true d a fault stop who x asks denies is = cc
denied_stops v s0 s now (Ok Closed) false d a fault stop who x asks denies is = cc
denied_stops v s0 s now (Ok Text) true d a fault stop who x asks denies is = cc
denied_stops v s0 s now (Ok Text) false d a fault stop who x asks denies is = cc
denied_stops v s0 s now (Ok Quiet) judged d a fault stop who x asks denies is = cc
denied_stops v s0 s now (Err f) true d a fault stop who x asks denies is = cc
denied_stops v s0 s now (Err f) false d a fault stop who x asks denies is = cc

denied_first : (v : Terms) (s : Standing) (o : Opening) (h : Option Hearing) (stop : Stop) (rule : ℕ) → Ends (given_in h) (judged_in h) (answer_in h) (hearing_fault o.fault h) stop.why
    → lost_after h ≡ None
    → IsTurn v s (record { opening = o; hearing = h }) → stop_in v s (record { opening = o; hearing = h }) ≡ Some stop → stop.why ≡ Denied rule → (rule ≡ 0)
    × IsDenied v s (Some (record { opening = o; hearing = h }))
denied_first v s o None stop rule e unlost is stops why = absurd (denied_after rule e why)
denied_first v s o (Some x) stop rule e unlost is stops why =
    let k = given_denied v (opened s o) (heard v (opened s o) o.reading x.judged x.given) o.reading x.given x.judged (denial_in v (opened s o) o.reading x) x.answer x.fault stop rule
    (rw unlost at (after_none (stop_before v s o) _ stop (no_stop (stop_before v s o) is.heard) stops)) why in
    (k.0, record { who = k.1.0; asks = k.1.2; denial = k.1.1; denies = k.1.3 })

denied_last : (v : Terms) (s : Standing) (o : Opening) (h : Option Hearing) (stop : Stop) → lost_after h ≡ None
    → IsTurn v s (record { opening = o; hearing = h }) → stop_in v s (record { opening = o; hearing = h }) ≡ Some stop → IsDenied v s (Some (record { opening = o; hearing = h })) → stop.why ≡ Denied 0
denied_last v s o None stop unlost is stops k = absurd k
denied_last v s o (Some x) stop unlost is stops k = denied_stops v (opened s o) (heard v (opened s o) o.reading x.judged x.given) o.reading x.given x.judged
    (denial_in v (opened s o) o.reading x) x.answer x.fault stop k.who k.denial k.asks k.denies
    (rw unlost at (after_none (stop_before v s o) _ stop (no_stop (stop_before v s o) is.heard) stops))

pub denied_row : (v : Terms) (s : Standing) (o : Opening) (h : Option Hearing) (stop : Stop) (rule : ℕ) → Ends (given_in h) (judged_in h) (answer_in h) (hearing_fault o.fault h) stop.why
    → lost_after h ≡ None
    → IsTurn v s (record { opening = o; hearing = h }) → stop_in v s (record { opening = o; hearing = h }) ≡ Some stop
    → stop.why ≡ Denied rule ↔ ((rule ≡ 0) × IsDenied v s (Some (record { opening = o; hearing = h })))
denied_row v s o h stop rule e unlost is stops = (
  λ why. denied_first v s o h stop rule e unlost is stops why,
  λ k. denied_last v s o h stop unlost is stops k.1 ∙ ap (λ n. Denied n) (sym k.0),
)
