use Rattle.std.proofs.Common.{◌≡◌}
use Rattle.bsc_resolve.proofs.Finding.{front_ticked}
use Rattle.bsc_resolve.proofs.entries.tick_each.Given as goal

abbrev pub invariant-loop-entry : goal.invariant-loop-entry
invariant-loop-entry l = l.entries ≡ front_ticked l.wait l.now l.entry-index l.initial.entries
