use Rattle.std.proofs.Common.{◌≡◌, ◌++◌, take, flat_map}
use Rattle.bsc_network_script.specs.Written.{dialled_line}
use Rattle.bsc_simulate.proofs.texts.put_all_dialled.Given as goal

abbrev pub invariant-loop-d : goal.invariant-loop-d
invariant-loop-d l = l.text.items ≡ l.fn.text.items ++ flat_map dialled_line (take l.d-index l.dialled)
