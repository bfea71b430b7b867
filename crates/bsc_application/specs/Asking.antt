-- What an application asks of its node, and what it answers where it is asked for that.
use Rattle.std.specs.Prelude.{◌≡◌, ◌≤◌, ℕ, nat_le, Bool, true, if◌then◌else◌, List, [], ◌∷◌, ◌++◌, length, map, Option, Some, None, Result, Ok, Err}
use Rattle.std.specs.Prelude.{⊤}
use Rattle.bsc_node.specs.declared.node_event.NodeEvent.{NodeEvent}
use Rattle.bsc_node_run.specs.declared.due.Due.{Due}
use Rattle.bsc_node_run.specs.Requests.{is_asked}
use Rattle.bsc_application.specs.declared.bounds.TheConstants.{MOST_REQUESTS}

-- So many requests are taken before a turn at most.
abbrev pub most_requests : ℕ
most_requests = MOST_REQUESTS

-- what a call answered, where it answered: a request, or none
abbrev pub answer_in : {E : Type 0} → Result (Option NodeEvent) E → List (Option NodeEvent)
answer_in (Ok answer) = answer ∷ []
answer_in (Err fault) = []

-- The requests that a node is told in a turn.
abbrev pub requests : List Due → List NodeEvent
requests batch = map (λ (d : Due). d.event) batch

-- Each of these is a request, and is due in the turn.
abbrev pub AreAsked : List Due → Type 0
AreAsked [] = ⊤
AreAsked (d ∷ batch) = (d.at ≡ 0) × (is_asked d.event ≡ true) × AreAsked batch

-- Those of one turn.
abbrev pub IsBatch : List Due → Type 0
IsBatch batch = AreAsked batch × (length batch ≤ most_requests)

-- Whether as many were taken as may be taken, so that more may be asked for.
abbrev pub is_full : List Due → Bool
is_full batch = nat_le most_requests (length batch)

-- What the application answered where these were taken: each of them in order, and then that there is none now; but that isn't asked
-- where as many were taken as may be taken.
abbrev pub answers_of : List Due → List (Option NodeEvent)
answers_of batch = map Some (requests batch) ++ (if is_full batch then [] else None ∷ [])

-- What it answered before some turns, of which each had these requests.
abbrev pub answers_to : List (List Due) → List (Option NodeEvent)
answers_to [] = []
answers_to (batch ∷ batches) = answers_of batch ++ answers_to batches
