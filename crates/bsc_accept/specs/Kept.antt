-- What a machine goes on with. No public clause cites these words.
use Rattle.std.specs.Prelude.{ℕ, if◌then◌else◌}
use Rattle.bsc_checks.specs.declared.verdict.Verdict.{Verdict}
use Rattle.bsc_checks.specs.declared.verdict.Verdict.TheVariants.{Pass}
use Rattle.bsc_accept.specs.declared.event.Event.{Event}
use Rattle.bsc_accept.specs.declared.step.Step.{Step}
use Rattle.bsc_accept.specs.declared.step.Step.TheVariants.{Ask, PutClose, Close}
use Rattle.bsc_accept.specs.declared.stage.Stage.{Stage}
use Rattle.bsc_accept.specs.declared.stage.Stage.TheVariants.{Asked, Connected, Disconnecting, Idle}
use Rattle.bsc_accept.specs.Past.{Standing, awaiting_request, connected, disconnecting, is_joined, farewell_at, until_farewell}
use Rattle.bsc_accept.specs.Steps.{passed_step}

-- the standing of a machine that waits for this
abbrev pub standing_at : Stage → Standing
standing_at Connected = connected
standing_at (Disconnecting f) = disconnecting f
standing_at waits = awaiting_request

-- how the standing goes on at an event
abbrev pub moved : Standing → Event → Standing
moved awaiting_request e = if is_joined e then connected else awaiting_request
moved connected e = until_farewell (farewell_at e)
moved (disconnecting f) e = disconnecting f

-- What a machine waits for after a step that a message with this Message ID brought about.
abbrev pub after : Stage → ℕ → Step → Stage
after waits id (Ask who) = Asked id
after waits id (PutClose octets c) = Idle
after waits id (Close c) = Idle
after waits id other = waits

-- What it waits for after a message that was judged so.
abbrev pub after_message : Stage → Verdict → Stage
after_message waits (Pass msg) = after waits msg.id (passed_step (standing_at waits) msg)
after_message waits verdict = waits
