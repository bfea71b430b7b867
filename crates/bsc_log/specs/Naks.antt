-- The NAK of a Connect-Request.
use Rattle.std.specs.Prelude.{◌≡◌, ℕ, List, [], ◌∷◌, ◌++◌, true, Option, Some, None}
use Rattle.byteorder.specs.Endian.{big_bytes}
use Rattle.bsc_frame.specs.declared.answer.Answer.TheVariants.{Nak as Refuses}
use Rattle.bsc_frame.specs.Payloads.{answer_octets}
use Rattle.bsc_log.specs.declared.nak.Nak.{Nak}
use Rattle.bsc_log.specs.declared.stage.Stage.{Stage}
use Rattle.bsc_log.specs.declared.log_event.LogEvent.{LogEvent}
use Rattle.bsc_log.specs.declared.log_event.LogEvent.TheVariants.{Nak as Answered}
use Rattle.bsc_log.specs.Courses.{may_join}

-- its payload: what is answered is a Connect-Request, and there are no details
abbrev pub nak_octets : Nak → List ℕ
nak_octets nak = answer_octets (Refuses 0x06 nak.marker nak.class nak.code [])

-- These octets are that NAK as a hub puts it: a BVLC-Result without flags, with some Message ID.
abbrev pub IsNak : List ℕ → Nak → Type 0
IsNak m nak = (id : ℕ) × (m ≡ (0x00 ∷ 0x00 ∷ big_bytes 2 id) ++ nak_octets nak)

-- The NAK of a Connect-Request is told where it is put on a link that hasn't joined, and nothing else that is put.
abbrev pub IsTold : Stage → List ℕ → Option Nak → Type 0
IsTold stage m (Some nak) = (may_join stage ≡ true) × IsNak m nak
IsTold stage m None = may_join stage ≡ true → (nak : Nak) → ¬ IsNak m nak

-- what it tells
abbrev pub nak_event : Option Nak → Option LogEvent
nak_event (Some nak) = Some (Answered nak)
nak_event None = None
