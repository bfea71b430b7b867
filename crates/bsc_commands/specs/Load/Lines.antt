-- What the command writes.
use Rattle.std.specs.Prelude.{◌≡◌, ℕ, ◌⊎◌, List, ◌++◌, codes, decimal, Option, Result, Ok, Err}
use Rattle.bsc_load.specs.declared.ends.LoadEnd.{LoadEnd}
use Rattle.bsc_load.specs.declared.ends.LoadStop.{LoadStop}
use Rattle.bsc_load.specs.declared.ends.LoadStop.TheVariants.{NoMemory, Short, Stopped}
use Rattle.bsc_player.specs.LastLines.{EndsWith, RanOut}
use Rattle.bsc_script.specs.Running.{counts_text}

-- the line of the octets that all workers took
abbrev pub octets_text : ℕ → List ℕ
octets_text n = codes "octets " ++ decimal n ++ codes "\n"

-- what is written of a workload that came to its end
abbrev pub load_text : LoadEnd → List ℕ
load_text e = counts_text e.counts ++ octets_text e.octets

-- the last line of a workload that was cut short, or whose hub had been stopped before
abbrev pub load_line : List ℕ
load_line = codes "fault load\n"

-- What is written of the end of a workload, and its status.
abbrev pub SaysLoad : Result LoadEnd LoadStop → ℕ → Option (List ℕ) → Option (List ℕ) → Type 0
SaysLoad (Ok e) s before after = EndsWith s 0 before after (load_text e) ⊎ RanOut s before after
SaysLoad (Err NoMemory) s before after = RanOut s before after
SaysLoad (Err (Short workers)) s before after = EndsWith s 9 before after load_line
SaysLoad (Err (Stopped at)) s before after = EndsWith s 9 before after load_line
