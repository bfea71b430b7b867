-- What an application in memory answers.
use Rattle.std.specs.Prelude.{◌≡◌, ℕ, nat_le, Bool, true, false, List, [], ◌∷◌, Option, Some, None}
use Rattle.bsc_outside.specs.Calls.{next_call}
use Rattle.bsc_node.specs.declared.node_event.NodeEvent.{NodeEvent}
use Rattle.bsc_application.specs.declared.planned.Planned.{Planned}

-- Whether the first of these is to be given in a turn before which there were so many.
abbrev pub is_next : ℕ → List Planned → Bool
is_next made [] = false
is_next made (p ∷ plan) = nat_le p.turn made

-- What is answered in a turn before which there were so many, where these are planned; and how many there were and what is planned
-- then. The first is given, once its turn has come. Else there is none now, and the turn is made.
abbrev pub Answers : Bool → ℕ → List Planned → Option NodeEvent → ℕ → List Planned → Type 0
Answers true made plan (Some event) made' plan' = (p : Planned) × (plan ≡ p ∷ plan') × (event ≡ p.event) × (made' ≡ made)
Answers false made plan None made' plan' = (plan' ≡ plan) × (made' ≡ next_call made)
Answers given made plan answer made' plan' = ⊥
