use Rattle.std.proofs.Common.{◌≡◌, ◌++◌, length}
use Rattle.std.specs.List.{AllByRecursion}
use Rattle.std.specs.Vec.Iter.{into_iter_items, into_iter_len}
use Rattle.bsc_load.specs.Inner.{HasRun, LoadJoins}
use Rattle.bsc_load.proofs.passes.join_all.Given as goal

abbrev pub invariant-loop-work : goal.invariant-loop-work
invariant-loop-work l = (l.yielded ++ into_iter_items l.work-iterator ≡ into_iter_items l.initial.work-iterator)
    × LoadJoins l.hub l.yielded l.fn.pass l.pass l.sum
    × AllByRecursion (HasRun l.hub) (into_iter_items l.work-iterator)
    × (into_iter_len l.work-iterator ≡ length (into_iter_items l.work-iterator))
