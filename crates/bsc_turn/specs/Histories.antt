-- Words on histories with their marks.
use Rattle.std.specs.Prelude.{◌≡◌, ◌⊎◌, ℕ, List, ◌++◌, length, drop}
use Rattle.bsc_history.specs.Entries.{own}
use Rattle.bsc_history.specs.Marks.{entries}
use Rattle.bsc_history.specs.declared.entry.Entry.{Entry}
use Rattle.bsc_history.specs.declared.mark.Stamped.{Stamped}

-- A history begins with another.
abbrev pub StartsWith : List Stamped → List Stamped → Type 0
StartsWith H front = (rest : List Stamped) × (H ≡ front ++ rest)

-- The entries of caller n in a history, in order.
abbrev pub own_of : List Stamped → ℕ → List Entry
own_of H n = own (entries H) n

-- Of two histories of which one begins with the other, the longer.
abbrev pub longer : List Stamped → List Stamped → List Stamped
longer G H = G ++ drop (length G) H

-- H is one of two histories, and begins with both: it is the longer of them.
abbrev pub IsLonger : List Stamped → List Stamped → List Stamped → Type 0
IsLonger F G H = ((H ≡ F) ⊎ (H ≡ G)) × StartsWith H F × StartsWith H G
