-- The lines that the command writes.
use Rattle.std.specs.Prelude.{ℕ, ◌==◌, if◌then◌else◌, List, [], ◌++◌, codes, decimal, Option, Some, None}
use Rattle.bsc_history.specs.declared.counts.Counts.{Counts}
use Rattle.bsc_script.specs.Running.{counts_text}

-- the line of the links that got no session, where there are such
abbrev pub unstarted_line : ℕ → List ℕ
unstarted_line n = if n == 0 then [] else codes "unstarted " ++ decimal n ++ codes "\n"

-- the line that stands for the counts, where the hub had been stopped before
abbrev pub stopped_text : List ℕ
stopped_text = codes "hub stopped already\n"

-- what is written of an end that all sessions came to, or that was asked for: how many links got none, and the counts of the stop, if it was made
abbrev pub end_text : ℕ → Option Counts → List ℕ
end_text unstarted (Some c) = unstarted_line unstarted ++ counts_text c
end_text unstarted None = unstarted_line unstarted ++ stopped_text

-- the last lines of runs: the port wasn't bound or the acceptor failed; the settings are refused for this key
abbrev pub link_line : List ℕ
link_line = codes "fault link\n"

abbrev pub settings_line : List ℕ → List ℕ
settings_line name = codes "fault settings " ++ name ++ codes "\n"
