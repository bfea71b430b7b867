-- What an operator is told of the streams that a gate turned away.
use Rattle.std.specs.Prelude.{◌≡◌, ◌⊎◌, ℕ, ◌-◌, List, [], ◌∷◌, ◌++◌, Option, IsSome, flat_map}
use Rattle.std.specs.declared.time.Duration.{Duration}
use Rattle.bsc_gate.specs.declared.turned.Turned.{Turned}
use Rattle.bsc_log.specs.declared.log_event.Turning.{Turning}
use Rattle.bsc_log.specs.declared.log_event.Turning.TheVariants as why
use Rattle.bsc_log.specs.declared.logging.Logging.{Logging}
use Rattle.bsc_log.specs.Turnings.{turned_for, turned_told}

-- how many were turned away between these counts, by why
abbrev pub risen : Turned → Turned → List (Turning × ℕ)
risen before after =
    (why.NoProtocol, after.no_protocol - before.no_protocol)
    ∷ (why.Late, after.late - before.late)
    ∷ (why.LongHead, after.long_head - before.long_head)
    ∷ (why.NoDescriptor, after.no_descriptor - before.no_descriptor)
    ∷ (why.PushedOut, after.pushed_out - before.pushed_out)
    ∷ (why.NoMemory, after.no_memory - before.no_memory)
    ∷ (why.Failed, after.failed - before.failed)
    ∷ []

-- Where there is a logging, each stream that was turned away between these counts was told of, with its cause, and nothing else.
-- Where they are the same, nothing was.
abbrev pub TellsRise : {R : Type 0} → Turned → Turned → Option (Logging R) → Option (Logging R) → Type 0
TellsRise before after old new =
    IsSome old →
    ((before ≡ after) × (turned_told new ≡ turned_told old))
    ⊎ ((since : Duration) × (turned_told new ≡ turned_told old ++ flat_map (turned_for since) (risen before after)))
