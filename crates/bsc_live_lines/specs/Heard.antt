-- What came of what was taken of an inbox: no public clause cites it.
use Rattle.std.specs.Prelude.{◌≡◌, true, List, [], ◌∷◌, ⊤}
use Rattle.bsc_node.specs.declared.node_event.NodeEvent.{NodeEvent}
use Rattle.bsc_node_run.specs.Requests.{is_asked}
use Rattle.bsc_live_lines.specs.declared.heard.Heard.{Heard}
use Rattle.bsc_live_lines.specs.declared.heard.Heard.TheVariants.{Asks, Silent, Quiet}

-- what is asked by it
abbrev pub asked_in : Heard → List NodeEvent
asked_in (Asks event) = event ∷ []
asked_in Silent = []
asked_in Quiet = []

-- What is asked is one of the events for which a script may ask.
abbrev pub AreAsked : Heard → Type 0
AreAsked (Asks event) = is_asked event ≡ true
AreAsked Silent = ⊤
AreAsked Quiet = ⊤
