use Rattle.bsc_resolve.proofs.Finding.{tick_next}
use Rattle.bsc_resolve.proofs.entries.tick_each.Goals as goal

pub loop-entry-preserved : goal.loop-entry-preserved
loop-entry-preserved c =
    tick_next c.args.wait c.args.now c.args.entries.now c.loop-entry.entries c.loop-entry.entry-index c.entry-item.result c.tick.new.self c.loop-entry-test.true c.loop-entry.invariant c.tick.ensures
