use Rattle.std.proofs.Common.{◌≡◌, ◌++◌, take, flat_map}
use Rattle.bsc_settings_told.specs.Quoting.{escaped}
use Rattle.bsc_settings_told.proofs.quoting.put_all.Given as goal

abbrev pub invariant-loop-c : goal.invariant-loop-c
invariant-loop-c l = l.text.items ≡ l.fn.text.items ++ flat_map escaped (take l.c-index l.octets)
