-- What holds of the log of a node after every event, once it has started.
-- It serves the clauses of `links_begin_anew`.
use Rattle.std.proofs.Common.{◌≡◌, true, List, [], ◌∷◌, ◌++◌}
use Rattle.std.specs.Prelude.{IsTrue, fold}
use Rattle.bsc_node.specs.declared.node_event.NodeEvent.TheVariants.{Start}
use Rattle.bsc_node.specs.declared.timed_event.TimedEvent.{TimedEvent}
use Rattle.bsc_node.specs.Logs.{Made, Log}
use Rattle.bsc_node.specs.Node.{goes_on, log}
use Rattle.bsc_node.specs.Conditions.{may_come, Watched, may_all_come}
use Rattle.bsc_node.proofs.Lasting.{watch, was_fine}
use Rattle.bsc_node_laws.specs.Links.{Brings}
use Rattle.bsc_node_laws.proofs.Between.{Between}
use Rattle.bsc_node_laws.proofs.Bringing.{begun, brings}
use Rattle.bsc_lemmas.proofs.Booleans.{and_right}

between_after : (a : Made) (events : List TimedEvent) (w : Watched) → Between a w.log → (fold (watch a) w events).fine ≡ true
    → Between a (fold (λ (L : Log) (e : TimedEvent). L ++ goes_on a e L) w.log events)
between_after a [] w b h = b
between_after a (e ∷ events) w b h = between_after a events (watch a w e) (brings a w.log e b (and_right w.fine (may_come w.log e) (was_fine a events (watch a w e) h))).1 h

-- After the start, and any events that may come, the log is as it may be between two events.
pub between-log : (a : Made) (start : TimedEvent) (events : List TimedEvent) → start.event ≡ Start → IsTrue (may_all_come a (start ∷ events)) → Between a (log a (start ∷ events))
between-log a start events is h = between_after a events (watch a (record { log = []; fine = true }) start) (begun a start is).1 h

-- So one event more brings about what may stand.
pub links_begin_anew : (a : Made) (start : TimedEvent) (events : List TimedEvent) (e : TimedEvent) → start.event ≡ Start → IsTrue (may_all_come a (start ∷ events))
    → IsTrue (may_come (log a (start ∷ events)) e)
    → Brings a (log a (start ∷ events)) e e.event
links_begin_anew a start events e is h may = (brings a (log a (start ∷ events)) e (between-log a start events is h) may).0
