use Rattle.std.proofs.Common.{not, refl}
use Rattle.bsc_legality.specs.declared.row.Row.{Row}
use Rattle.bsc_legality.specs.Deciding.{is_long_at, is_meant_with}
use Rattle.bsc_legality.specs.Rows.{number}
use Rattle.bsc_legality.proofs.Breaches.{cut_first, kept_first}
use Rattle.bsc_legality.proofs.breaching.all_looked.Goals as goal

pub loop-rows-preserved : goal.loop-rows-preserved
loop-rows-preserved c =
    kept_first number (is_meant_with c.args.sender
    (λ (r : Row). not (is_long_at c.args.size r))) c.is_looked_at.result c.loop-rows.numbers.items c.push_if.new.numbers.items _ c.loop-rows.rows.now _ c.row-item.result
    (cut_first c.loop-rows.rows.now _ c.row-item.result _ c.in-len1-up.len_at_least c.row-item.is refl) c.is_looked_at.ensures c.in_ok-push_if.ensures c.loop-rows.invariant
