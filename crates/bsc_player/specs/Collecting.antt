-- What the inner functions of a play say of the text that they collect; no public clause cites any of it.
use Rattle.std.specs.Prelude.{◌≡◌, ◌⊎◌, ℕ, Bool, true, false, List, ◌++◌, Option}
use Rattle.std.specs.Io.KnownBytes.{Appends}
use Rattle.bsc_outside.specs.Faults.{PutsPrefix}
use Rattle.bsc_player.specs.declared.play_end.PlayEnd.{PlayEnd}
use Rattle.bsc_player.specs.declared.play_end.PlayEnd.TheVariants.{Done, BadLine, WriteFault}

-- A first part of the collected text was handed over, and the rest of it is still collected.
pub record HandsOver (held held' : Option (List ℕ)) (text text' : List ℕ) : Type 0 where
  pub part : List ℕ
  pub put : Appends held held' part
  pub kept : text ≡ part ++ text'

-- A play stopped with this end after all of the collected text was written, or where that failed.
abbrev pub StopsAs : PlayEnd → PlayEnd → Option (List ℕ) → Option (List ℕ) → List ℕ → Type 0
StopsAs result end held held' text =
    ((result ≡ end) × Appends held held' text) ⊎ ((result ≡ WriteFault) × PutsPrefix held held' text)

-- How an input ends whose lines were all accepted: well where it may end.
abbrev pub end_of : Bool → ℕ → PlayEnd
end_of true number = Done
end_of false number = BadLine number
