-- The outboxes of those before are emptied, and those of the others are still to be.
use Rattle.std.proofs.Common.{ℕ, List, drop}
use Rattle.bsc_script.specs.Carrying.{ScriptOutcome}
use Rattle.bsc_script.specs.Holding.{CarriesOut}
use Rattle.bsc_script.proofs.Rounds.{RoundGoes}
use Rattle.bsc_script.proofs.script_hub.ScriptHub.empty_each.Given as goal

abbrev pub invariant-loop-conn : goal.invariant-loop-conn
invariant-loop-conn l = (base : List ℕ) (o : ScriptOutcome) → CarriesOut l.fn.self base l.fn.text.items l.conns o → RoundGoes l.self base l.text.items (drop l.conn-index l.conns) o
