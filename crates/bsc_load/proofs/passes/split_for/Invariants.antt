use Rattle.std.proofs.Common.{◌≡◌, [], None, length}
use Rattle.std.specs.List.{AllByRecursion, range_with_len}
use Rattle.bsc_hub.specs.Passing.{Went}
use Rattle.bsc_load.specs.Inner.{IsJob, job_indices}
use Rattle.bsc_load.proofs.passes.split_for.Given as goal

abbrev pub invariant-loop-index : goal.invariant-loop-index
invariant-loop-index g l = Went l.hub l.fn.pass l.index [] None l.pass
    × AllByRecursion (IsJob l.hub) l.jobs.items
    × (job_indices l.jobs.items ≡ range_with_len 0 l.index)
    × (length l.jobs.items ≡ l.index)
