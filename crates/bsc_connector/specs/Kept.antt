-- How what is kept goes on when something is told, and the step by what is kept. No public clause cites these words.
use Rattle.std.specs.Prelude.{ℕ, ◌+◌, ◌*◌, min, nat_le, Bool, true, false, not, ◌&&◌, ◌||◌, if◌then◌else◌, Option, Some, None, is_none}
use Rattle.bsc_connector.specs.declared.side.Side.TheVariants.{Primary, Failover}
use Rattle.bsc_connector.specs.declared.event.ConnectorEvent.{ConnectorEvent}
use Rattle.bsc_connector.specs.declared.event.ConnectorEvent.TheVariants.{Start, Connected, Failed, Lost, Tick}
use Rattle.bsc_connector.specs.declared.side_state.Attempt.{Attempt}
use Rattle.bsc_connector.specs.declared.side_state.Attempt.TheVariants.{Idle, UnderWay, Up, Waiting}
use Rattle.bsc_connector.specs.declared.side_state.SideState.{SideState}
use Rattle.bsc_connector.specs.declared.waits.Waits.{Waits}
use Rattle.bsc_connector.specs.declared.step.ConnectorStep.{ConnectorStep}
use Rattle.bsc_connector.specs.Sides.{is_start, is_tick, fails, connects}
use Rattle.bsc_connector.specs.Steps.{has_come}

-- ---- what an attempt says

abbrev pub says_up : Attempt → Bool
says_up Up = true
says_up attempt = false

abbrev pub says_due : Attempt → Option ℕ
says_due (Waiting at) = Some at
says_due attempt = None

abbrev pub says_tried : Attempt → Bool
says_tried Idle = false
says_tried attempt = true

abbrev pub says_under_way : Attempt → Bool
says_under_way attempt = says_tried attempt && not (says_up attempt) && is_none (says_due attempt)

-- ---- how what is kept goes on

-- the wait after one failure
abbrev pub first_wait : Waits → ℕ
first_wait w = min w.greatest w.least

-- the hub accepted
abbrev pub accepted : Waits → SideState
accepted w = record { attempt = Up; next_wait = first_wait w }

-- the failover is idle, and its failures are forgotten
abbrev pub dropped : Waits → SideState
dropped w = record { attempt = Idle; next_wait = first_wait w }

-- an attempt failed, or the connection ended
abbrev pub failed : Waits → ℕ → SideState → SideState
failed w now side = record { attempt = Waiting (now + side.next_wait); next_wait = min w.greatest (2 * side.next_wait) }

-- the next attempt is made once its time has come
abbrev pub attempt_after_tick : ℕ → Attempt → Attempt
attempt_after_tick now (Waiting at) = if nat_le at now then UnderWay else Waiting at
attempt_after_tick now attempt = attempt

abbrev pub ticked : ℕ → SideState → SideState
ticked now side = record side { attempt = attempt_after_tick now side.attempt }

-- the node starts: a side that isn't up is dialled
abbrev pub attempt_started : Attempt → Attempt
attempt_started Idle = UnderWay
attempt_started (Waiting at) = UnderWay
attempt_started attempt = attempt

abbrev pub started : SideState → SideState
started side = record side { attempt = attempt_started side.attempt }

-- an idle side is dialled
abbrev pub attempt_begun : Attempt → Attempt
attempt_begun Idle = UnderWay
attempt_begun attempt = attempt

abbrev pub begun : SideState → SideState
begun side = record side { attempt = attempt_begun side.attempt }

-- What is kept of the primary hub, once this is told.
abbrev pub primary_after : Waits → ℕ → SideState → ConnectorEvent → SideState
primary_after w now side Start = started side
primary_after w now side (Connected Primary) = accepted w
primary_after w now side (Failed Primary) = failed w now side
primary_after w now side (Lost Primary) = failed w now side
primary_after w now side Tick = ticked now side
primary_after w now side e = side

-- What is kept of the failover, once this is told.
abbrev pub failover_after : Waits → ℕ → SideState → ConnectorEvent → SideState
failover_after w now side (Connected Primary) = dropped w
failover_after w now side (Connected Failover) = accepted w
failover_after w now side (Failed Failover) = failed w now side
failover_after w now side (Lost Failover) = failed w now side
failover_after w now side (Failed Primary) = if w.failover then begun side else side
failover_after w now side (Lost Primary) = if w.failover then begun side else side
failover_after w now side Tick = ticked now side
failover_after w now side Start = side

-- ---- the step and the hub in use, by what is kept

-- the failover is given and idle
abbrev pub says_idle : Waits → Attempt → Bool
says_idle w attempt = w.failover && not (says_up attempt) && not (says_under_way attempt) && is_none (says_due attempt)

abbrev pub step_kept : Waits → ℕ → Attempt → Attempt → ConnectorEvent → ConnectorStep
step_kept w now p f e = record {
  dial_primary = is_start e || (is_tick e && has_come now (says_due p));
  dial_failover = (fails Primary e && says_idle w f) || ((is_tick e && has_come now (says_due f)) && not (says_up p));
  drop_failover = connects Primary e && (says_up f || says_under_way f);
}
