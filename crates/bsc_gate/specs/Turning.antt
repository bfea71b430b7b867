-- How many streams were turned away, by why.
use Rattle.std.specs.Prelude.{◌≡◌, ℕ, ◌+◌, ◌-◌, ◌^◌, min, Option, Some, None}
use Rattle.bsc_edge.specs.declared.fault.LinkFault.{LinkFault}
use Rattle.bsc_edge.specs.declared.fault.LinkFault.TheVariants as fault
use Rattle.bsc_gate.specs.declared.turned.Turned.{Turned}
use Rattle.bsc_gate.specs.declared.turned.Turning.{Turning}
use Rattle.bsc_gate.specs.declared.turned.Turning.TheVariants.{NoProtocol, Late, LongHead, NoDescriptor, PushedOut, NoMemory, Failed}
use Rattle.bsc_ws.specs.declared.handshake.HandshakeStep.{HandshakeStep}
use Rattle.bsc_ws.specs.declared.handshake.HandshakeStep.TheVariants as step
use Rattle.bsc_ws.specs.declared.handshake.Unmet.{Unmet}
use Rattle.bsc_ws.specs.declared.handshake.Unmet.TheVariants as unmet

-- Why a stream is turned away whose handshake failed so.
abbrev pub turning_of : Unmet → Turning
turning_of unmet.NoProtocol = NoProtocol
turning_of unmet.LongHead = LongHead
turning_of unmet.Other = Failed

-- Why one is turned away whose handshake came to this, if it is.
abbrev pub turning_by : {T : Type 0} → HandshakeStep T → Option Turning
turning_by (step.More handshake) = None
turning_by (step.Done stream kind) = None
turning_by (step.Refused why) = Some (turning_of why)
turning_by step.NoMemory = Some NoMemory

-- Why one is turned away of which no link could be made: a link takes descriptors.
abbrev pub turning_at : LinkFault → Turning
turning_at fault.Failed = NoDescriptor
turning_at fault.NoMemory = NoMemory

-- one more, up to the greatest u64
abbrev pub counted : ℕ → ℕ
counted n = min (n + 1) (2 ^ 64 - 1)

-- One more was turned away, for this.
abbrev pub turned_once : Turning → Turned → Turned
turned_once NoProtocol t = record t { no_protocol = counted t.no_protocol }
turned_once Late t = record t { late = counted t.late }
turned_once LongHead t = record t { long_head = counted t.long_head }
turned_once NoDescriptor t = record t { no_descriptor = counted t.no_descriptor }
turned_once PushedOut t = record t { pushed_out = counted t.pushed_out }
turned_once NoMemory t = record t { no_memory = counted t.no_memory }
turned_once Failed t = record t { failed = counted t.failed }

-- The same where there is a cause, and else nothing.
abbrev pub turned_by : Option Turning → Turned → Turned
turned_by (Some why) t = turned_once why t
turned_by None t = t

-- So many more were late.
abbrev pub later : ℕ → Turned → Turned
later n t = record t { late = min (t.late + n) (2 ^ 64 - 1) }

-- What a table counts as a handshake begins where this stands: a handshake there is pushed out.
abbrev pub turned_from : {R : Type 0} → Option (Option R) → Turned → Turned
turned_from (Some (Some row)) t = turned_once PushedOut t
turned_from place t = t

-- Of all counts none but that of the late ones may have changed.
pub record OnlyLate (old new : Turned) : Type 0 where
  pub no_protocol : new.no_protocol ≡ old.no_protocol
  pub long_head : new.long_head ≡ old.long_head
  pub no_descriptor : new.no_descriptor ≡ old.no_descriptor
  pub pushed_out : new.pushed_out ≡ old.pushed_out
  pub no_memory : new.no_memory ≡ old.no_memory
  pub failed : new.failed ≡ old.failed
