-- Streams that were turned away.
use Rattle.std.specs.Prelude.{◌≡◌, ℕ, List, [], ◌++◌, Option, Some, None, IsSome, flat_map, replicate}
use Rattle.std.specs.declared.time.Duration.{Duration}
use Rattle.bsc_log.specs.declared.log_event.LogEvent.TheVariants.{Turned}
use Rattle.bsc_log.specs.declared.log_event.Turning.{Turning}
use Rattle.bsc_log.specs.declared.log_record.LogRecord.{LogRecord}
use Rattle.bsc_log.specs.declared.logging.Logging.{Logging}

-- what is told of one: it has no link
abbrev pub turned_at : Duration → Turning → LogRecord
turned_at since why = record { since = since; event = Turned why; link = None; conn = None; who = None; received = 0; sent = 0 }

-- the same of so many that were turned away for this
abbrev pub turned_for : Duration → Turning × ℕ → List LogRecord
turned_for since count = replicate count.1 (turned_at since count.0)

-- what was told so far of streams that were turned away
abbrev pub turned_told : {R : Type 0} → Option (Logging R) → List LogRecord
turned_told (Some logging) = logging.turned.items
turned_told None = []

-- Of so many of each cause each was told of, in this order, and of nothing else, where there is a logging.
abbrev pub TellsTurned : {R : Type 0} → List (Turning × ℕ) → Option (Logging R) → Option (Logging R) → Type 0
TellsTurned counts old new =
    IsSome old → IsSome new × ((since : Duration) × (turned_told new ≡ turned_told old ++ flat_map (turned_for since) counts))
