-- What was told so far, and what is left.
use Rattle.std.proofs.Common.{◌-◌, length}
use Rattle.bsc_script.specs.States.{State}
use Rattle.bsc_script.specs.Holding.{ScriptHolds}
use Rattle.bsc_script.proofs.Ticked.{Ticks}
use Rattle.bsc_script.proofs.script_hub.ScriptHub.tick.Given as goal

abbrev pub invariant-loop-at : goal.invariant-loop-at
invariant-loop-at l = (s : State) → ScriptHolds l.fn.self s → Ticks l.fn.text.items l.text.items l.ms l.self l.at s

abbrev pub decreases-loop-at : goal.decreases-loop-at
decreases-loop-at l = length l.self.peers.entries - l.at
