-- The judging of the thing given.
use Rattle.std.specs.Prelude.{Bool, true, false, List, Ok, Result, ℕ, ◌≡◌, ⊤}
use Rattle.bsc_frame.specs.declared.message.Message.{Message as Bvlc}
use Rattle.bsc_checks.specs.declared.place.Place.TheVariants.{HubPort}
use Rattle.bsc_checks.specs.declared.verdict.Verdict.{Verdict}
use Rattle.bsc_checks.specs.declared.verdict.Verdict.TheVariants.{Pass}
use Rattle.bsc_checks.specs.Outcomes.{outcome_of}
use Rattle.bsc_edge.specs.declared.fault.LinkFault.{LinkFault}
use Rattle.bsc_edge.specs.declared.incoming.Incoming.{Incoming}
use Rattle.bsc_edge.specs.declared.incoming.Incoming.TheVariants.{Message}
use Rattle.bsc_accept.specs.declared.event.Event.TheVariants.{Message as Came}
use Rattle.bsc_accept.specs.declared.step.Step.{Step}
use Rattle.bsc_accept.specs.declared.step.Step.TheVariants.{Nothing}
use Rattle.bsc_accept.specs.Past.{phase}
use Rattle.bsc_session.specs.Receiving.{received_one}
use Rattle.bsc_session.specs.Standings.{Standing, Terms, told, wanted}

-- The verdict on a message: at the hub's port, in the machine's phase, with the hub's greatest BVLC length.
abbrev pub verdict_on : Terms → Standing → List ℕ → Verdict
verdict_on v s m = outcome_of m (HubPort (phase s.events)) v.hub.max_bvlc

-- What the machine wants done about the thing given: it is told a message that was judged, and of nothing else.
abbrev pub heard_step : Terms → Standing → ℕ → Bool → Result Incoming LinkFault → Step
heard_step v s now true (Ok (Message m)) = wanted v s (Came now (verdict_on v s m))
heard_step v s now judged given = Nothing

abbrev pub heard_told : Terms → Standing → ℕ → Bool → Result Incoming LinkFault → Standing
heard_told v s now true (Ok (Message m)) = told s (Came now (verdict_on v s m))
heard_told v s now judged given = s

-- Where the session stands once it received and judged, before the hub is called.
abbrev pub heard : Terms → Standing → ℕ → Bool → Result Incoming LinkFault → Standing
heard v s now judged given = received_one (heard_told v s now judged given)

-- Memory for judging is wanting only where a message passes.
abbrev pub LacksAtPass : Terms → Standing → Bool → Result Incoming LinkFault → Type 0
LacksAtPass v s true given = ⊤
LacksAtPass v s false (Ok (Message m)) = (msg : Bvlc) × (verdict_on v s m ≡ Pass msg)
LacksAtPass v s false given = ⊥
