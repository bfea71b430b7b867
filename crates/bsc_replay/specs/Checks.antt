-- What the lines of `check` come to.
use Rattle.std.specs.Prelude.{ℕ, true, List, [], Option, Some, None, ⊤}
use Rattle.bsc_player.specs.Playing.{Played, LineOutcome, Meaning, played_of}
use Rattle.bsc_checks.specs.Outcomes.{outcome_of}
use Rattle.bsc_replay.specs.declared.line.Line.{Line}
use Rattle.bsc_replay.specs.declared.line.Line.TheVariants.{Nothing, Question}
use Rattle.bsc_replay.specs.Asking.{line_of}
use Rattle.bsc_replay.specs.Answering.{verdict_line}

-- a line is answered by this text
abbrev pub answered : List ℕ → Option (LineOutcome ⊤)
answered text = Some (record { state = tt; text = text })

-- What a line does: a question is answered by the line of the verdict that the octets have at that place, and what has no form of
-- a line is refused.
abbrev pub said : Option Line → Option (LineOutcome ⊤)
said None = None
said (Some Nothing) = answered []
said (Some (Question place max message)) = answered (verdict_line (outcome_of message place max))

-- The language of `check`: no line changes what a later one means, and an input may end anywhere.
abbrev pub checking : Meaning ⊤
checking = record { step = λ s line. said (line_of line); may_end = λ s. true }

-- The answers to a whole input of `check`, and its first refused line.
abbrev pub check_of : List ℕ → Played
check_of = played_of checking tt
