-- The marks that a history keeps, for contracts alone.
use Rattle.std.specs.Prelude.{ℕ, List, find, map, Option}
use Rattle.std.specs.Option.{option_and_then}
use Rattle.bsc_history.specs.declared.mark.Mark.{Mark}
use Rattle.bsc_history.specs.declared.mark.Stamped.{Stamped}
use Rattle.bsc_history.specs.declared.entry.Entry.{Entry}
use Rattle.bsc_history.specs.Entries.{joins}

-- A history without its marks, which is what all other definitions read.
abbrev pub entries : List Stamped → List Entry
entries S = map (λ s. s.entry) S

-- The mark that is kept with the entry by which c joined.
abbrev pub mark_of : List Stamped → ℕ → Option Mark
mark_of S c = option_and_then (λ s. s.mark) (find (λ s. joins c s.entry) S)
