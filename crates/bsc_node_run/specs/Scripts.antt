-- What the script of a node means: what it asks of the node and when, or which of its lines is the first bad one.
use Rattle.std.specs.Prelude.{ℕ, ◌+◌, nat_le, Bool, true, false, not, ◌&&◌, if◌then◌else◌, List, [], ◌∷◌, ◌++◌, length, fold}
use Rattle.std.specs.Prelude.{filter_map, Option, Some, None, Result, Ok, Err}
use Rattle.std.specs.List.{concat, list_any}
use Rattle.bsc_text.specs.Lines.{pieces_of, line_in, is_too_big}
use Rattle.bsc_node.specs.declared.node_event.NodeEvent.{NodeEvent}
use Rattle.bsc_node.specs.declared.node_event.NodeEvent.TheVariants.{Finish}
use Rattle.bsc_node_run.specs.declared.due.Due.{Due}
use Rattle.bsc_node_run.specs.declared.line.Line.{Line}
use Rattle.bsc_node_run.specs.declared.line.Line.TheVariants.{Nothing, At, Ask}
use Rattle.bsc_node_run.specs.Saying.{line_of}

-- what a script asks of a node, and at which time since the start, in milliseconds
pub record Wish : Type 0 where
  pub at : ℕ
  pub event : NodeEvent

abbrev pub wish_of : Due → Wish
wish_of due = record { at = due.at; event = due.event }

-- ---- lines

-- whether a line is `finish`
abbrev pub is_finish : Line → Bool
is_finish (Ask Finish) = true
is_finish line = false

-- whether one of some lines is `finish`
abbrev pub has_finish : List Line → Bool
has_finish lines = list_any is_finish lines

-- the time behind a line, in front of which it was this
abbrev pub time_after : ℕ → Line → ℕ
time_after ms (At new) = new
time_after ms line = ms

-- The time behind some lines: that of the newest `at`, and 0 before the first.
abbrev pub time_by : List Line → ℕ
time_by lines = fold time_after 0 lines

-- What some lines ask of a node, each at its time, where the time in front of them is this.
abbrev pub asked_from : ℕ → List Line → List Wish
asked_from ms [] = []
asked_from ms (Nothing ∷ lines) = asked_from ms lines
asked_from ms (At new ∷ lines) = asked_from new lines
asked_from ms (Ask event ∷ lines) = record { at = ms; event = event } ∷ asked_from ms lines

-- Whether a line may stand behind these: no time is less than the one before, and behind `finish` no line says anything.
abbrev pub may_follow : List Line → Line → Bool
may_follow before Nothing = true
may_follow before (At ms) = not (has_finish before) && nat_le (time_by before) ms
may_follow before (Ask event) = not (has_finish before)

-- whether what is said may stand behind these lines: it is a line, and that line may
abbrev pub may_say : List Line → Option Line → Bool
may_say before None = false
may_say before (Some line) = may_follow before line

-- ---- the text, which is cut into pieces, each a line with its end

-- the lines of some pieces
abbrev pub lines_in : List (List ℕ) → List Line
lines_in pieces = filter_map (λ piece. line_of (line_in piece)) pieces

-- Whether a piece may stand behind these: it isn't too big there, it says something that a line may say, and that may
-- stand behind their lines.
abbrev pub fits_behind : List (List ℕ) → List ℕ → Bool
fits_behind before piece = not (is_too_big (length (concat before)) piece) && may_say (lines_in before) (line_of (line_in piece))

-- The number, from 1, of the first piece that may not stand behind all those in front of it; these are in front of them.
abbrev pub first_bad : List (List ℕ) → List (List ℕ) → Option ℕ
first_bad before [] = None
first_bad before (piece ∷ after) = if fits_behind before piece then first_bad (before ++ piece ∷ []) after else Some (length before + 1)

-- what a script of these pieces means whose first bad one has this number, where it has one
abbrev pub meant_by : Option ℕ → List (List ℕ) → Result (List Wish) ℕ
meant_by (Some n) pieces = Err n
meant_by None pieces = if has_finish (lines_in pieces) then Ok (asked_from 0 (lines_in pieces)) else Err (length pieces + 1)

-- What a whole script asks of a node and when, in the order of its lines; or the number of its first bad line. One
-- without `finish` is bad at the number after its last line.
unfoldable pub script_of : List ℕ → Result (List Wish) ℕ
script_of o = meant_by (first_bad [] (pieces_of o)) (pieces_of o)
