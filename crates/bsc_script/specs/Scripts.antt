-- What the lines of a script mean, and what a whole script comes to.
use Rattle.std.specs.Prelude.{ℕ, is_some, List, [], Option, Some, None}
use Rattle.bsc_player.specs.Playing.{Played, Meaning, played_of, LineOutcome}
use Rattle.bsc_script.specs.declared.line.Line.{Line}
use Rattle.bsc_script.specs.declared.line.Line.TheVariants.{Nothing, Hub}
use Rattle.bsc_script.specs.Lines.{line_of}
use Rattle.bsc_script.specs.Written.{text_of}
use Rattle.bsc_script.specs.States.{State, new_hub}
use Rattle.bsc_script.specs.Carrying.{ScriptOutcome}
use Rattle.bsc_script.specs.Running.{run_line}

-- The first line that does something is the hub line.
abbrev pub before_hub : Line → Option (LineOutcome (Option State))
before_hub Nothing = Some (record { state = None; text = [] })
before_hub (Hub about) = Some (record { state = Some (new_hub about); text = [] })
before_hub line = None

-- an outcome with its lines as text
abbrev pub in_text : Option ScriptOutcome → Option (LineOutcome (Option State))
in_text None = None
in_text (Some o) = Some (record { state = Some o.state; text = text_of o.said })

-- what a line does, over a hub or before one; None where it is refused
abbrev pub line_after : Option State → Line → Option (LineOutcome (Option State))
line_after None line = before_hub line
line_after (Some s) line = in_text (run_line s line)

-- what the octets of a line do: those that have no form of a line are refused
abbrev pub said_after : Option State → Option Line → Option (LineOutcome (Option State))
said_after s None = None
said_after s (Some line) = line_after s line

-- The language of scripts: a script may end once it has made a hub.
abbrev pub script : Meaning (Option State)
script = record { step = λ s line. said_after s (line_of line); may_end = λ s. is_some s }

-- The text of a whole script, and its first refused line.
abbrev pub replay_of : List ℕ → Played
replay_of = played_of script None
