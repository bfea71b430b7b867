-- What an input comes to, by the command that plays it.
use Rattle.std.specs.Prelude.{◌≡◌, ◌⊎◌, ℕ, List, ◌++◌, Option, Some}
use Rattle.bsc_outside.specs.Faults.{PutsPrefix}
use Rattle.bsc_player.specs.Playing.{Played}
use Rattle.bsc_player.specs.LastLines.{script_line, read_line, memory_line}
use Rattle.bsc_script.specs.Scripts.{replay_of}
use Rattle.bsc_network_script.specs.Scripts.{simulate_of}
use Rattle.bsc_network_script_laws.specs.Laws.{TellsWhatWasSent}
use Rattle.bsc_replay.specs.Checks.{check_of}
use Rattle.bsc_commands.specs.declared.playing.Command.{Command}
use Rattle.bsc_commands.specs.declared.playing.Command.TheVariants.{Replay, Simulate, Check}

abbrev pub played_by : Command → List ℕ → Played
played_by Replay = replay_of
played_by Simulate = simulate_of
played_by Check = check_of

-- A last line of a command that plays its input: a line is refused, a read failed, or memory ran out.
abbrev pub IsLastLine : List ℕ → Type 0
IsLastLine line = ((n : ℕ) × (line ≡ script_line n)) ⊎ (line ≡ read_line) ⊎ (line ≡ memory_line)

-- What was written after t tells what was sent of the script o. Behind it stands a last line, in whole, in part or not at all.
pub record WritesWhatWasSent (o t : List ℕ) (held : Option (List ℕ)) : Type 0 where
  pub text : List ℕ
  pub tells : TellsWhatWasSent o text
  pub last : List ℕ
  pub is_last : IsLastLine last
  pub written : PutsPrefix (Some (t ++ text)) held last
