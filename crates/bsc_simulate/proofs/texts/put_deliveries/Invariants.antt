use Rattle.std.proofs.Common.{◌≡◌, ◌++◌, take, flat_map}
use Rattle.bsc_network_script.specs.Written.{delivery_line}
use Rattle.bsc_simulate.proofs.texts.put_deliveries.Given as goal

abbrev pub invariant-loop-delivery : goal.invariant-loop-delivery
invariant-loop-delivery l = l.text.items ≡ l.fn.text.items ++ flat_map delivery_line (take l.delivery-index l.deliveries)
