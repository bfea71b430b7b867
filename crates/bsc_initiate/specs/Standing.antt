-- For which start and events a machine stands, and which calls may be made on it.
use Rattle.std.specs.Prelude.{◌≡◌, Bool, true, false, if◌then◌else◌, List, [], ◌∷◌, ◌++◌, reverse, Option, Some, None}
use Rattle.bsc_checks.specs.declared.phase.Phase.{Phase}
use Rattle.bsc_checks.specs.declared.phase.Phase.TheVariants.{AwaitingAccept as PhaseAccept, Connected as PhaseConnected, Disconnecting as PhaseDisconnecting}
use Rattle.bsc_accept.specs.declared.start.Start.{Start}
use Rattle.bsc_initiate.specs.declared.event.InitEvent.{InitEvent}
use Rattle.bsc_initiate.specs.declared.step.InitStep.{InitStep}
use Rattle.bsc_initiate.specs.declared.step.InitStep.TheVariants.{PutClose, Connected as NowConnected, Refused, Close}
use Rattle.bsc_initiate.specs.declared.stage.Stage.{Stage}
use Rattle.bsc_initiate.specs.declared.stage.Stage.TheVariants.{AwaitingWebsocket, AwaitingAccept, Connected, Disconnecting, Idle}
use Rattle.bsc_initiate.specs.declared.initiating.Initiating.{Initiating}
use Rattle.bsc_initiate.specs.Past.{Standing, awaiting_websocket, awaiting_accept, connected, disconnecting, standing, last_message, heartbeat_was_put}
use Rattle.bsc_initiate.specs.Steps.{step, closes}

-- ---- what the events leave a machine at

-- f of the events before the newest, and of that one
abbrev pub at_newest : (List InitEvent → InitEvent → Bool) → List InitEvent → Bool
at_newest f [] = false
at_newest f (e ∷ before) = f (reverse before) e

-- Whether the machine has closed: by the step at its newest event, since a machine that closed is told nothing more.
abbrev pub has_closed : Start → List InitEvent → Bool
has_closed s E = at_newest (λ before e. closes (step s before e)) (reverse E)

abbrev pub open_stage : Standing → Bool → Stage
open_stage awaiting_websocket put = AwaitingWebsocket
open_stage (awaiting_accept id) put = AwaitingAccept id
open_stage connected put = Connected put
open_stage (disconnecting f) put = Disconnecting f

-- What a machine waits for.
abbrev pub stage : Start → List InitEvent → Stage
stage s E = if has_closed s E then Idle else open_stage (standing E) (heartbeat_was_put s E)

-- The machine started so and was told these events, newest last.
pub record InitiatingStands (m : Initiating) (s : Start) (E : List InitEvent) : Type 0 where
  pub start : m.start ≡ s
  pub last : m.last ≡ last_message s E
  pub stage : m.stage ≡ stage s E

-- For whatever start and events it stood, the step is theirs, and it stands for them and this event.
abbrev pub InitiatingAnswers : Initiating → Initiating → InitEvent → InitStep → Type 0
InitiatingAnswers old new e answer = (s : Start) (E : List InitEvent) → InitiatingStands old s E
    → (answer ≡ step s E e) × InitiatingStands new s (E ++ e ∷ [])

-- ---- which calls may be made

abbrev pub is_open : Stage → Bool
is_open Idle = false
is_open waits = true

-- The machine hasn't closed: messages, ticks and `finish` may come.
abbrev pub IsOpen : Initiating → Type 0
IsOpen m = is_open m.stage ≡ true

-- Its WebSocket has yet to open: `opened` may come, and ticks and `finish`.
abbrev pub AwaitsWebsocket : Initiating → Type 0
AwaitsWebsocket m = m.stage ≡ AwaitingWebsocket

abbrev pub phase_at : Stage → Option Phase
phase_at (AwaitingAccept id) = Some PhaseAccept
phase_at (Connected put) = Some PhaseConnected
phase_at (Disconnecting f) = Some PhaseDisconnecting
phase_at waits = None

-- The phase of a machine that hasn't closed; none before its WebSocket has opened.
abbrev pub phase_of : Initiating → Option Phase
phase_of m = phase_at m.stage

-- The peer is connected.
abbrev pub IsConnected : Initiating → Type 0
IsConnected m = phase_of m ≡ Some PhaseConnected

-- The machine closed: nothing may come.
abbrev pub IsOver : Initiating → Type 0
IsOver m = m.stage ≡ Idle

-- How a step leaves the machine: after a closing or a refusal it is over, after an accept it is connected, and else it
-- is open.
abbrev pub LeavesInitiating : InitStep → Initiating → Type 0
LeavesInitiating (PutClose octets c) m = IsOver m
LeavesInitiating (Close c) m = IsOver m
LeavesInitiating (Refused code) m = IsOver m
LeavesInitiating (NowConnected who) m = IsConnected m
LeavesInitiating other m = IsOpen m
