-- What the command comes to.
use Rattle.std.specs.Prelude.{ℕ, List, Option, Result}
use Rattle.std.specs.declared.sync.Arc.{Arc}
use Rattle.bsc_hub.specs.declared.hub.Hub.{Hub}
use Rattle.bsc_hub.specs.declared.kept.Kept.{Kept}
use Rattle.bsc_load.specs.declared.ends.LoadEnd.{LoadEnd}
use Rattle.bsc_load.specs.declared.ends.LoadStop.{LoadStop}
use Rattle.bsc_load.specs.Loaded.{Loaded}
use Rattle.bsc_commands.specs.Load.Lines.{SaysLoad}

-- A hub was made for so many workers and is kept, the workload was run on it, and this was written of its end, with this
-- status.
pub record RunsLoad {Z : Type 0} (n : ℕ) (kept : Kept) (hub : Arc Hub Z) (status : ℕ) (before after : Option (List ℕ)) : Type 0 where
  pub end : Result LoadEnd LoadStop
  pub loaded : Loaded n kept hub end
  pub says : SaysLoad end status before after
