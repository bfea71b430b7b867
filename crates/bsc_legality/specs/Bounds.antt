-- The bounds that a state keeps, by which its numbers fit.
use Rattle.std.specs.Prelude.{◌≤◌, ℕ, length, ⊤}
use Rattle.bsc_history.specs.declared.call.Call.{Call}
use Rattle.bsc_history.specs.declared.call.Call.TheVariants.{Forward}
use Rattle.bsc_history.specs.declared.counts.Counts.{Counts}

-- Each count is at most n.
pub record AreAtMost (k : Counts) (n : ℕ) : Type 0 where
  pub joined : k.joined ≤ n
  pub replaced : k.replaced ≤ n
  pub refused : k.refused ≤ n
  pub unicasts : k.unicasts ≤ n
  pub broadcasts : k.broadcasts ≤ n
  pub appended : k.appended ≤ n
  pub dropped : k.dropped ≤ n
  pub full : k.full ≤ n
  pub missed : k.missed ≤ n

-- A frame that is forwarded has the octets of an envelope with a Destination.
abbrev pub HasRoute : Call → Type 0
HasRoute (Forward conn frame) = 10 ≤ length frame
HasRoute call = ⊤
