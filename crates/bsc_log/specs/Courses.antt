-- What is known of a link, call by call.
use Rattle.std.specs.Prelude.{ℕ, ◌+◌, ◌-◌, ◌^◌, ◌==◌, ◌&&◌, ◌∷◌, List, Bool, true, false, Option, Some, None, is_some, min, if◌then◌else◌}
use Rattle.bsc_octets.specs.declared.identity.Identity.{Identity}
use Rattle.bsc_log.specs.declared.course.Course.{Course}
use Rattle.bsc_log.specs.declared.log_event.LogEvent.{LogEvent}
use Rattle.bsc_log.specs.declared.log_event.LogEvent.TheVariants.{TookOver}
use Rattle.bsc_log.specs.declared.stage.Stage.{Stage}
use Rattle.bsc_log.specs.declared.stage.Stage.TheVariants.{Silent, Waiting, Asked, Introduced, Joined, Leaving, Over}

-- one more, up to the greatest u64
abbrev pub counted : ℕ → ℕ
counted n = min (n + 1) (2 ^ 64 - 1)

-- Whether a link that is so far hasn't joined yet, and may.
abbrev pub may_join : Stage → Bool
may_join Silent = true
may_join Waiting = true
may_join Asked = true
may_join stage = false

-- How far a link is behind a message: one that hasn't joined is asked where that is a Connect-Request.
abbrev pub heard_at : Stage → Bool → Stage
heard_at Silent asks = if asks then Asked else Waiting
heard_at Waiting asks = if asks then Asked else Waiting
heard_at Asked asks = if asks then Asked else Waiting
heard_at Introduced asks = Joined
heard_at Joined asks = Joined
heard_at Leaving asks = Leaving
heard_at Over asks = Over

-- How far it is behind a call by which no message came.
abbrev pub hushed_at : Stage → Stage
hushed_at Silent = Waiting
hushed_at Waiting = Waiting
hushed_at Asked = Waiting
hushed_at Introduced = Joined
hushed_at Joined = Joined
hushed_at Leaving = Leaving
hushed_at Over = Over

-- Whether these octets are a Disconnect-Request without flags, so without addresses: one of the hub's own.
abbrev pub asks_to_leave : List ℕ → Bool
asks_to_leave (function ∷ flags ∷ rest) = (function == 8) && (flags == 0)
asks_to_leave m = false

-- How far it is behind a message that was put.
abbrev pub put_at : Stage → List ℕ → Stage
put_at Joined m = if asks_to_leave m then Leaving else Joined
put_at stage m = hushed_at stage

-- How far it is once something is new for another connection.
abbrev pub woken_at : Stage → Stage
woken_at Introduced = Joined
woken_at stage = stage

-- this device, and else that of before
abbrev pub newest : Option Identity → Option Identity → Option Identity
newest (Some who) before = Some who
newest None before = before

-- ---- what is known behind a call

-- A message came: it is the Connect-Request of this device, or of none.
abbrev pub heard : Option Identity → Course → Course
heard asker c = record c { received = counted c.received; stage = heard_at c.stage (is_some asker); who = newest asker c.who }

-- Nothing came that is a message.
abbrev pub hushed : Course → Course
hushed c = record c { stage = hushed_at c.stage }

-- This message was put.
abbrev pub put : List ℕ → Course → Course
put m c = record c { sent = counted c.sent; stage = put_at c.stage m }

-- It joined as this connection.
abbrev pub introduced : ℕ → Course → Course
introduced conn c = record c { conn = Some conn; stage = Introduced }

-- Something is new for another connection.
abbrev pub woken : Course → Course
woken c = record c { stage = woken_at c.stage }

-- It has ended.
abbrev pub ended : Course → Course
ended c = record c { stage = Over }

-- ---- what it tells then

-- This, unless it had ended before.
abbrev pub once : Stage → LogEvent → Option LogEvent
once Over event = None
once stage event = Some event

-- Right behind its own join it took the place of that other connection.
abbrev pub takeover : Stage → ℕ → Option LogEvent
takeover Introduced conn = Some (TookOver conn)
takeover stage conn = None
