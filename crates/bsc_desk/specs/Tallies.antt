-- How many entries a desk has made, and what they count.
use Rattle.std.specs.Prelude.{◌≤◌, ℕ}
use Rattle.bsc_history.specs.declared.counts.Counts.{Counts}

-- Each count is at most n.
pub record AreAtMost (k : Counts) (n : ℕ) : Type 0 where
  pub joined : k.joined ≤ n
  pub replaced : k.replaced ≤ n
  pub refused : k.refused ≤ n
  pub unicasts : k.unicasts ≤ n
  pub broadcasts : k.broadcasts ≤ n
  pub appended : k.appended ≤ n
  pub dropped : k.dropped ≤ n
  pub full : k.full ≤ n
  pub missed : k.missed ≤ n

-- what no entries count
abbrev pub no_counts : Counts
no_counts = record { joined = 0; replaced = 0; refused = 0; unicasts = 0; broadcasts = 0; appended = 0; dropped = 0; full = 0; missed = 0 }
