-- The lines that the command writes of its own, and what is written of the end of a run.
use Rattle.std.specs.Prelude.{◌≡◌, ℕ, List, ◌++◌, codes, Option, Result, Ok, Err}
use Rattle.bsc_player.specs.LastLines.{EndsWith, RanOut}
use Rattle.bsc_node_run.specs.declared.run_end.RunEnd.{RunEnd}
use Rattle.bsc_node_run.specs.declared.run_end.RunEnd.TheVariants.{Finished, Spent}
use Rattle.bsc_node_run.specs.declared.halt.Halt.{Halt}
use Rattle.bsc_node_run.specs.declared.halt.Halt.TheVariants.{WriteFault, AcceptFault, NoMemory}

-- the last lines of runs: the port wasn't bound or the acceptor failed; the node made as many turns as it may; the settings
-- are refused under this name
abbrev pub link_line : List ℕ
link_line = codes "fault link\n"

abbrev pub turns_line : List ℕ
turns_line = codes "fault turns\n"

abbrev pub settings_line : List ℕ → List ℕ
settings_line name = codes "fault settings " ++ name ++ codes "\n"

-- What is written of the end of a run, and its status.
abbrev pub SaysEnd : Result RunEnd Halt → ℕ → Option (List ℕ) → Option (List ℕ) → Type 0
SaysEnd (Ok Finished) s before after = (s ≡ 0) × (after ≡ before)
SaysEnd (Ok Spent) s before after = EndsWith s 8 before after turns_line
SaysEnd (Err WriteFault) s before after = (s ≡ 4) × (after ≡ before)
SaysEnd (Err AcceptFault) s before after = EndsWith s 6 before after link_line
SaysEnd (Err NoMemory) s before after = RanOut s before after
