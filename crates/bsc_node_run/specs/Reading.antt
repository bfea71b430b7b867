-- What a reader of a script keeps of the lines that it has read.
use Rattle.std.specs.Prelude.{◌≡◌, ℕ, Bool, true, List}
use Rattle.bsc_node_run.specs.declared.line.Line.{Line}
use Rattle.bsc_node_run.specs.declared.line.Line.TheVariants.{Ask}
use Rattle.bsc_node_run.specs.Requests.{has_octets}
use Rattle.bsc_node_run.specs.Scripts.{Wish, asked_from, has_finish, time_by}

-- whether an NPDU that a line sends has an octet
abbrev pub asks_octets : Line → Bool
asks_octets (Ask event) = has_octets event
asks_octets line = true

-- Behind these lines the time is this, `finish` came or didn't, and this is asked.
pub record LinesKept (at : ℕ) (ended : Bool) (asked : List Wish) (lines : List Line) : Type 0 where
  pub time : at ≡ time_by lines
  pub finish : ended ≡ has_finish lines
  pub all : asked ≡ asked_from 0 lines
