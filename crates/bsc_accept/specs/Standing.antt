-- For which start and events a machine stands, and which calls may be made on it.
use Rattle.std.specs.Prelude.{◌≡◌, ℕ, Bool, true, false, if◌then◌else◌, List, [], ◌∷◌, ◌++◌, reverse, Option, Some, None}
use Rattle.bsc_checks.specs.declared.phase.Phase.{Phase}
use Rattle.bsc_checks.specs.declared.phase.Phase.TheVariants.{AwaitingRequest as PhaseRequest, Connected as PhaseConnected, Disconnecting as PhaseDisconnecting}
use Rattle.bsc_accept.specs.declared.start.Start.{Start}
use Rattle.bsc_accept.specs.declared.event.Event.{Event}
use Rattle.bsc_accept.specs.declared.step.Step.{Step}
use Rattle.bsc_accept.specs.declared.step.Step.TheVariants.{Ask, PutClose, Close}
use Rattle.bsc_accept.specs.declared.stage.Stage.{Stage}
use Rattle.bsc_accept.specs.declared.stage.Stage.TheVariants.{AwaitingRequest, Asked, Connected, Disconnecting, Idle}
use Rattle.bsc_accept.specs.declared.accepting.Accepting.{Accepting}
use Rattle.bsc_accept.specs.Past.{Standing, awaiting_request, connected, disconnecting, standing, question, last_message}
use Rattle.bsc_accept.specs.Steps.{step, closes}

-- ---- what the events leave a machine at

-- f of the events before the newest, and of that one
abbrev pub at_newest : (List Event → Event → Bool) → List Event → Bool
at_newest f [] = false
at_newest f (e ∷ before) = f (reverse before) e

-- Whether the machine has closed: by the step at its newest event, since a machine that closed is told nothing more.
abbrev pub has_closed : Start → List Event → Bool
has_closed s E = at_newest (λ before e. closes (step s before e)) (reverse E)

abbrev pub open_stage : Standing → Option ℕ → Stage
open_stage awaiting_request None = AwaitingRequest
open_stage awaiting_request (Some id) = Asked id
open_stage connected asked = Connected
open_stage (disconnecting f) asked = Disconnecting f

-- What a machine waits for.
abbrev pub stage : Start → List Event → Stage
stage s E = if has_closed s E then Idle else open_stage (standing E) (question E)

-- The machine started so and was told these events, newest last.
pub record AcceptingStands (m : Accepting) (s : Start) (E : List Event) : Type 0 where
  pub start : m.start ≡ s
  pub last : m.last ≡ last_message s E
  pub stage : m.stage ≡ stage s E

-- For whatever start and events it stood, the step is theirs, and it stands for them and this event.
abbrev pub AcceptingAnswers : Accepting → Accepting → Event → Step → Type 0
AcceptingAnswers old new e answer = (s : Start) (E : List Event) → AcceptingStands old s E
    → (answer ≡ step s E e) × AcceptingStands new s (E ++ e ∷ [])

-- ---- which calls may be made

-- The machine has asked about a peer: the next call is `joined` or `refused`.
pub record AwaitsAnswer (m : Accepting) : Type 0 where
  pub id : ℕ
  pub asked : m.stage ≡ Asked id

abbrev pub is_open : Stage → Bool
is_open (Asked id) = false
is_open Idle = false
is_open waits = true

-- The machine hasn't closed, and waits for no word on who asked: messages, ticks and `finish` may come.
abbrev pub IsOpen : Accepting → Type 0
IsOpen m = is_open m.stage ≡ true

abbrev pub phase_at : Stage → Phase
phase_at Connected = PhaseConnected
phase_at (Disconnecting f) = PhaseDisconnecting
phase_at waits = PhaseRequest

-- The phase of a machine that hasn't closed.
abbrev pub phase_of : Accepting → Phase
phase_of m = phase_at m.stage

-- The peer is connected: `ended` may come.
abbrev pub IsConnected : Accepting → Type 0
IsConnected m = phase_of m ≡ PhaseConnected

-- The machine closed: nothing may come.
abbrev pub IsOver : Accepting → Type 0
IsOver m = m.stage ≡ Idle

-- How a step leaves the machine: after an Ask it awaits the answer, after a closing it is over, and else it is open.
abbrev pub LeavesAccepting : Step → Accepting → Type 0
LeavesAccepting (Ask who) m = AwaitsAnswer m
LeavesAccepting (PutClose octets c) m = IsOver m
LeavesAccepting (Close c) m = IsOver m
LeavesAccepting other m = IsOpen m
