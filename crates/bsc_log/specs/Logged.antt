-- Links of which lines are told, and the links under them.
use Rattle.std.specs.Prelude.{◌≡◌, List, map, Option, Some, None, Result, Ok, Err, ⊤}
use Rattle.bsc_edge.specs.declared.arrived.Arrived.{Arrived}
use Rattle.bsc_edge.specs.declared.arrived.Arrived.TheVariants.{Link, Quiet}
use Rattle.bsc_edge.specs.declared.fault.LinkFault.{LinkFault}
use Rattle.bsc_log.specs.declared.logged_link.LoggedLink.{LoggedLink}
use Rattle.bsc_log.specs.declared.logging.Logging.{Logging}

-- this link, without a log
abbrev pub unlogged : {L R : Type 0} → L → LoggedLink L R
unlogged l = record { link = l; log = None }

-- The links that are left, where they are told: without a logging they are those of the acceptor below, and with one they aren't
-- told.
abbrev pub left_by : {L R : Type 0} → Option (Logging R) → Option (List L) → Option (List (LoggedLink L R))
left_by None None = None
left_by None (Some links) = Some (map unlogged links)
left_by (Some logging) left = None

-- What is answered is what was answered below, and its link is over the one from there.
abbrev pub Covers : {L R : Type 0} → Result (Arrived L) LinkFault → Result (Arrived (LoggedLink L R)) LinkFault → Type 0
Covers (Ok (Link l)) (Ok (Link logged)) = logged.link ≡ l
Covers (Ok Quiet) (Ok Quiet) = ⊤
Covers (Err fault) (Err told) = told ≡ fault
Covers below above = ⊥
