-- What holds of every legal history.
use Rattle.std.specs.Prelude.{◌≡◌, List, length, sum_by}
use Rattle.bsc_history.specs.declared.entry.Entry.{Entry}
use Rattle.bsc_history.specs.declared.limits.About.{About}
use Rattle.bsc_history.specs.Counting.{counts}
use Rattle.bsc_history.specs.Ends.{joined}
use Rattle.bsc_history.specs.Outboxes.{sent}

-- The count of appended frames is how many frames entered the outboxes of all connections together.
abbrev pub AppendedIsSent : About → List Entry → Type 0
AppendedIsSent a H = (counts H).appended ≡ sum_by (λ c. length (sent a H c.number)) (joined H)
