-- What a reader of an inbox's lines has in hand, and what it leaves.
use Rattle.std.specs.Prelude.{◌≡◌, ℕ, List, [], ◌∷◌, ◌++◌, Option, Some, None}
use Rattle.bsc_input.specs.declared.inbox.taken.Taken.{Taken}
use Rattle.bsc_node.specs.declared.node_event.NodeEvent.{NodeEvent}
use Rattle.bsc_live_lines.specs.Refusals.{number_in}

-- what was taken and not read
abbrev pub taken_in : Option Taken → List Taken
taken_in (Some taken) = taken ∷ []
taken_in None = []

-- what an answer asks
abbrev pub event_in : Option NodeEvent → List NodeEvent
event_in (Some event) = event ∷ []
event_in None = []

-- what some answers ask, in order
abbrev pub asked_by_answers : List (Option NodeEvent) → List NodeEvent
asked_by_answers [] = []
asked_by_answers (answer ∷ answers) = event_in answer ++ asked_by_answers answers

-- From so many lines to so many: counted on by all that was taken between.
abbrev pub CountsOn : List Taken → List Taken → ℕ → ℕ → Type 0
CountsOn before after counted count = (first : List Taken) → counted ≡ number_in first → (more : List Taken) × (after ≡ before ++ more) × (count ≡ number_in (first ++ more))

-- These were taken of an inbox behind what was taken before, and so many lines are in them and in what waits for memory.
abbrev pub CountsUnread : List Taken → List Taken → Option Taken → ℕ → Type 0
CountsUnread before after unread count = (more : List Taken) × (after ≡ before ++ more) × (count ≡ number_in (taken_in unread ++ more))
