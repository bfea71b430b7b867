-- A node to which no link comes: what it is told, by the readings of the clock and its script alone.
use Rattle.std.specs.Prelude.{◌≡◌, ℕ, zero, suc, ◌-◌, nat_le, true, not, if◌then◌else◌, List, [], ◌∷◌, ◌++◌, length, map, filter, fold}
use Rattle.std.specs.Prelude.{take_while, Option, Some}
use Rattle.std.specs.List.{list_all}
use Rattle.bsc_edge.specs.declared.dialled.Dialled.{Dialled}
use Rattle.bsc_node.specs.declared.link_name.LinkName.{LinkName}
use Rattle.bsc_node.specs.declared.node_event.NodeEvent.{NodeEvent}
use Rattle.bsc_node.specs.declared.node_event.NodeEvent.TheVariants.{Start, Tick, DialFailed}
use Rattle.bsc_node.specs.declared.timed_event.TimedEvent.{TimedEvent}
use Rattle.bsc_node.specs.declared.action.Action.{Action}
use Rattle.bsc_node.specs.declared.action.Action.TheVariants.{Dial, Close}
use Rattle.bsc_node.specs.Logs.{Made, Log}
use Rattle.bsc_node.specs.Links.{same_link}
use Rattle.bsc_node.specs.Node.{goes_on, actions_at}
use Rattle.bsc_node_run.specs.declared.due.Due.{Due}

-- What such a node has: its log; the links that were dialled in the turn before, of which it wasn't told yet that they
-- failed, the oldest first; and those that were dialled in this turn.
pub record Alone : Type 0 where
  pub log : Log
  pub failed : List LinkName
  pub dialled : List LinkName

-- all of these but this one
abbrev pub all_but : LinkName → List LinkName → List LinkName
all_but name names = filter (λ other. not (same_link name other)) names

-- A link that is dialled joins them; one that is closed leaves them.
abbrev pub after_action : Alone → Action → Alone
after_action s (Dial name uri) = record s { dialled = s.dialled ++ name ∷ [] }
after_action s (Close name closing) = record s { failed = all_but name s.failed; dialled = all_but name s.dialled }
after_action s action = s

-- The node is told this.
abbrev pub told_at : Made → Alone → TimedEvent → Alone
told_at a s e = fold after_action (record s { log = s.log ++ goes_on a e s.log }) (actions_at a s.log e)

abbrev pub told : Made → ℕ → Alone → NodeEvent → Alone
told a now s event = told_at a s (record { now = now; event = event })

-- The node is told that the oldest of those dials failed, where there is one.
abbrev pub told_oldest : Made → ℕ → Alone → Alone
told_oldest a now s = by s.failed
  where
    by : List LinkName → Alone
    by [] = s
    by (name ∷ names) = told a now (record s { failed = names }) (DialFailed name)

-- This, so many times.
abbrev pub told_failed : Made → ℕ → ℕ → Alone → Alone
told_failed a now zero s = s
told_failed a now (suc n) s = told_failed a now n (told_oldest a now s)

-- A turn: these events; that each dial of the turn before failed, but for links that were closed since; and these lines.
abbrev pub turn : Made → ℕ → List NodeEvent → List Due → Alone → Alone
turn a now events lines s =
    let begun : Alone = record s { failed = s.dialled; dialled = [] } in
    let ticked : Alone = fold (told a now) begun events in
    fold (told a now) (told_failed a now (length ticked.failed) ticked) (map (λ (d : Due). d.event) lines)

-- the lines of a script that are due when so much time has passed, and the others
abbrev pub due_by : ℕ → List Due → List Due
due_by passed script = take_while (λ (d : Due). nat_le d.at passed) script

abbrev pub not_due_by : ℕ → List Due → List Due
not_due_by passed [] = []
not_due_by passed (d ∷ lines) = if nat_le d.at passed then not_due_by passed lines else d ∷ lines

-- turns at these readings, where the first turn was at that time
abbrev pub turns_from : Made → ℕ → List Due → List ℕ → Alone → Alone
turns_from a start script [] s = s
turns_from a start script (now ∷ times) s =
    turns_from a start (not_due_by (now - start) script) times (turn a now (Tick ∷ []) (due_by (now - start) script) s)

-- A whole run, by the readings of the clock and the script: in the first turn the node starts, and in each the time has
-- passed, the dials of the turn before have failed, and what of the script is due is asked.
abbrev pub alone : Made → List Due → List ℕ → Log
alone a script [] = []
alone a script (start ∷ times) =
    (turns_from a start (not_due_by 0 script) times
    (turn a start (Start ∷ Tick ∷ []) (due_by 0 script) (record { log = []; failed = []; dialled = [] }))).log

-- Dialer and acceptor tell what they hold, no dial gave a link, and no link left the acceptor.
pub record NoLinkCame {L : Type 0} (dialled dialled' : Option (List Dialled)) (left left' : Option (List L)) : Type 0 where
  pub before : List Dialled
  pub calls : List Dialled
  pub links : List L
  pub told : dialled ≡ Some before
  pub tells : dialled' ≡ Some (before ++ calls)
  pub none : list_all (λ (d : Dialled). not d.came) calls ≡ true
  pub arrived : left ≡ Some links
  pub stays : left' ≡ Some links
