-- Which lines of an input are refused.
use Rattle.std.specs.Prelude.{ℕ, ◌+◌, min, Bool, true, false, not, if◌then◌else◌, List, [], ◌∷◌, ◌++◌, Option, Some, None}
use Rattle.bsc_input.specs.declared.inbox.taken.Taken.{Taken}
use Rattle.bsc_input.specs.declared.inbox.taken.Taken.TheVariants.{Line as OneLine}
use Rattle.bsc_node_run.specs.declared.line.Line.{Line}
use Rattle.bsc_node_run.specs.declared.line.Line.TheVariants.{Nothing, At, Ask}
use Rattle.bsc_live_lines.specs.declared.refusal.Refusal.{Refusal}
use Rattle.bsc_live_lines.specs.declared.refusal.Refused.{Refused}
use Rattle.bsc_live_lines.specs.Requests.{has_finish, requests, said_by}

-- a line that is refused, as it is kept
abbrev pub refusal_of : Refused → Refusal
refusal_of line = record { number = line.number; text = line.text.now; has_finished = line.has_finished }

-- Whether what is said is good, where the node was asked to end before or wasn't: it is a line, it sets no time, and behind what
-- asks the node to end it asks for nothing.
abbrev pub is_good : Bool → Option Line → Bool
is_good finished None = false
is_good finished (Some Nothing) = true
is_good finished (Some (At ms)) = false
is_good finished (Some (Ask event)) = not finished

-- how many lines were taken
abbrev pub lines_in : List Taken → ℕ
lines_in [] = 0
lines_in (OneLine o ∷ taken) = lines_in taken + 1
lines_in (other ∷ taken) = lines_in taken

-- The number of the newest of these lines, from 1; it stays at the greatest number of its type once it is there.
abbrev pub number_in : List Taken → ℕ
number_in taken = min (lines_in taken) 18446744073709551615

-- What is refused behind what was taken: a line that isn't good there.
abbrev pub refused_behind : List Taken → Taken → List Refusal
refused_behind before (OneLine o) =
    if is_good (has_finish (requests before)) (said_by o) then []
    else record { number = number_in (before ++ OneLine o ∷ []); text = o; has_finished = has_finish (requests before) } ∷ []
refused_behind before other = []

-- The lines that are refused of those that were taken behind these.
abbrev pub refused_from : List Taken → List Taken → List Refusal
refused_from before [] = []
refused_from before (one ∷ taken) = refused_behind before one ++ refused_from (before ++ one ∷ []) taken

-- All lines that are refused of what was taken, in order.
abbrev pub refusals : List Taken → List Refusal
refusals taken = refused_from [] taken
