-- What a desk learns of the frames taken from its outboxes.
use Rattle.std.specs.Prelude.{◌≡◌, ◌≤◌, ℕ, List, fold}
use Rattle.std.specs.List.{AllByRecursion}
use Rattle.bsc_history.specs.declared.looks.Look.{Look}
use Rattle.bsc_history.specs.Outboxes.{newer}
use Rattle.bsc_desk.specs.declared.desk.Desk.{Desk}
use Rattle.bsc_desk.specs.Rows.{known_of}

-- By a call that made these looks the desk d became n: each look finds at least as many taken as were known before, and
-- then what is known of an outbox is what the call's look at it found, and as before where there was none.
pub record Learns (d : Desk) (looks : List Look) (n : Desk) : Type 0 where
  pub at_least : AllByRecursion (λ k. known_of d k.conn ≤ k.taken) looks
  pub known : (c : ℕ) → known_of n c ≡ fold (newer c) (known_of d c) looks
