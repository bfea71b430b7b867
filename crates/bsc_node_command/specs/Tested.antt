-- What is written where the settings of a node and its script are tried.
use Rattle.std.specs.Prelude.{◌≡◌, ℕ, ◌⊎◌, List, map, Option, Ok, Err}
use Rattle.bsc_player.specs.LastLines.{RanOut, SaysOrRunsOut, script_line}
use Rattle.bsc_settings.specs.declared.node.NodeSettings.{NodeSettings}
use Rattle.bsc_settings_told.specs.Told.{node_told}
use Rattle.bsc_node_run.specs.declared.due.Due.{Due}
use Rattle.bsc_node_run.specs.Scripts.{script_of, wish_of}
use Rattle.bsc_node_command.specs.Comes.{NodeFiles}
use Rattle.bsc_node_command.specs.Settled.{IsSettled, Unread, Unsettled}

-- What there is outside a test at a moment: the count of files that couldn't be read, and what was written, as far as that is told.
pub record TestWorld : Type 0 where
  pub unread : ℕ
  pub written : Option (List ℕ)

-- A line of the script is the first bad one; or the script is good, and each of the settings is written with its value and whether that
-- is the default; or memory ran out.
abbrev pub TestsText : NodeSettings → List ℕ → TestWorld → TestWorld → ℕ → Type 0
TestsText v script before after s =
    ((n : ℕ) × (script_of script ≡ Err n) × SaysOrRunsOut s 2 before.written after.written (script_line n))
    ⊎ ((lines : List Due) × (script_of script ≡ Ok (map wish_of lines)) × SaysOrRunsOut s 0 before.written after.written (node_told v))
    ⊎ RanOut s before.written after.written

-- The script wasn't read, or this came of its test, with these settings.
abbrev pub TestsScript : NodeSettings → (List ℕ → Type 0) → TestWorld → TestWorld → ℕ → Type 0
TestsScript v holds before after s =
    Unread before.unread after.unread s before.written after.written ⊎ ((script : List ℕ) × holds script × TestsText v script before after s)

-- Either there are no settings of a node in their file, as where a node is run; or this came of the test of the script in the other
-- file, with these settings.
abbrev pub TestsNode : NodeFiles → TestWorld → TestWorld → ℕ → Type 0
TestsNode files before after s =
    Unsettled files.settings before.unread after.unread s before.written after.written
    ⊎ ((v : NodeSettings) × IsSettled files.settings v × TestsScript v files.script before after s)
