use Rattle.std.proofs.Common.{◌≡◌, ◌≤◌, ◌+◌, length, filter}
use Rattle.bsc_desk.specs.Live.{is_open}
use Rattle.bsc_desk.proofs.Resting.{live_from}
use Rattle.bsc_desk.proofs.looking.count_open.Given as goal

abbrev pub invariant-loop-row : goal.invariant-loop-row
invariant-loop-row l = (l.live + live_from l.row-index l.rows ≡ length (filter is_open l.rows)) × (l.live ≤ l.row-index)
