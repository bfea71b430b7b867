-- The last line of a run, and the status that it ends with.
use Rattle.std.specs.Prelude.{◌≡◌, ℕ, ◌⊎◌, List, ◌++◌, codes, decimal, Option}
use Rattle.std.specs.Io.KnownBytes.{Appends}
use Rattle.bsc_outside.specs.Faults.{PutsPrefix}
use Rattle.bsc_player.specs.declared.play_end.PlayEnd.{PlayEnd}
use Rattle.bsc_player.specs.declared.play_end.PlayEnd.TheVariants.{Done, BadLine, ReadFault, WriteFault, NoMemory}

-- the last lines of runs: the words are refused; line n of the input is; a read failed; memory ran out
abbrev pub words_line : List ℕ
words_line = codes "fault words\n"

abbrev pub script_line : ℕ → List ℕ
script_line n = codes "fault script line " ++ decimal n ++ codes "\n"

abbrev pub read_line : List ℕ
read_line = codes "fault read\n"

abbrev pub memory_line : List ℕ
memory_line = codes "fault memory\n"

-- The last line was written, and the status is the one that is wanted; or its write failed, and the status is 4.
abbrev pub EndsWith : ℕ → ℕ → Option (List ℕ) → Option (List ℕ) → List ℕ → Type 0
EndsWith result status before after line =
    ((result ≡ status) × Appends before after line) ⊎ ((result ≡ 4) × PutsPrefix before after line)

-- The last line of want of memory was tried.
abbrev pub RanOut : ℕ → Option (List ℕ) → Option (List ℕ) → Type 0
RanOut result before after = (result ≡ 7) × PutsPrefix before after memory_line

-- A text was written, and the status is the one that is wanted; or its write failed, and the status is 4; or there was no
-- memory for it.
abbrev pub SaysOrRunsOut : ℕ → ℕ → Option (List ℕ) → Option (List ℕ) → List ℕ → Type 0
SaysOrRunsOut s wanted before after text = EndsWith s wanted before after text ⊎ RanOut s before after

-- What the end of a play comes to, by its status and its last line.
abbrev pub EndsTo : PlayEnd → ℕ → Option (List ℕ) → Option (List ℕ) → Type 0
EndsTo Done result before after = (result ≡ 0) × (after ≡ before)
EndsTo (BadLine n) result before after = EndsWith result 2 before after (script_line n) ⊎ RanOut result before after
EndsTo ReadFault result before after = EndsWith result 3 before after read_line
EndsTo WriteFault result before after = (result ≡ 4) × (after ≡ before)
EndsTo NoMemory result before after = RanOut result before after
