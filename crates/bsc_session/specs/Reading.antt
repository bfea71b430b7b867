-- The time: what opens a turn.
use Rattle.std.specs.Prelude.{ℕ, zero, suc}
use Rattle.bsc_accept.specs.declared.event.Event.TheVariants.{Tick}
use Rattle.bsc_accept.specs.declared.step.Step.{Step}
use Rattle.bsc_session.specs.Standings.{Standing, Terms, told, wanted}

-- the start of a machine, by how many receives were made
abbrev pub start_at : ℕ → ℕ → ℕ → ℕ
start_at zero start now = now
start_at (suc n) start now = start

-- The machine starts at the reading of the first turn.
abbrev pub started : Standing → ℕ → Standing
started s now = record s { start = start_at s.receives s.start now }

-- What the machine wants done at a reading.
abbrev pub wanted_at : Terms → Standing → ℕ → Step
wanted_at v s now = wanted v (started s now) (Tick now)

-- Where the session stands once the machine was told the reading.
abbrev pub ticked : Standing → ℕ → Standing
ticked s now = told (started s now) (Tick now)
