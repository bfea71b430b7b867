use Rattle.std.proofs.Common.{◌≡◌, Some}
use Rattle.bsc_legality.specs.Following.{closed_as}
use Rattle.bsc_legality.proofs.Changes.{changed}
use Rattle.bsc_legality.proofs.changing.close_each.Given as goal

abbrev pub invariant-loop-row : goal.invariant-loop-row
invariant-loop-row l = l.rows ≡ changed (closed_as (Some l.ending)) l.row-index l.initial.rows
