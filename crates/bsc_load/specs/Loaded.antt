-- A workload on a hub of its own.
use Rattle.std.specs.Prelude.{◌≡◌, ℕ, [], ◌∷◌, Result, Some}
use Rattle.std.specs.declared.sync.Arc.{Arc}
use Rattle.std.specs.Arc.{arc_value}
use Rattle.bsc_octets.specs.declared.identity.Identity.{Identity}
use Rattle.bsc_history.specs.declared.limits.About.{About}
use Rattle.bsc_history.specs.declared.limits.TheConstants.{MOST_CALLERS, MOST_CALLS}
use Rattle.bsc_turn.specs.declared.pass.Pass.{Pass}
use Rattle.bsc_turn.specs.Passes.{ended_callers, loads_made, number_of, own_list, seen}
use Rattle.bsc_hub.specs.declared.hub.Hub.{Hub}
use Rattle.bsc_hub.specs.declared.kept.Kept.{Kept}
use Rattle.bsc_hub.specs.Passing.{IsCaller, about_of}
use Rattle.bsc_load.specs.declared.bounds.TheConstants.{OUTBOX, ROWS}
use Rattle.bsc_load.specs.declared.ends.LoadEnd.{LoadEnd}
use Rattle.bsc_load.specs.declared.ends.LoadStop.{LoadStop}
use Rattle.bsc_load.specs.Load.{Loads}

-- The hub's address is 02 00 00 00 00 FF, its device UUID 00112233-4455-6677-8899-AABBCCDDEEFF.
abbrev pub load_hub : Identity
load_hub = record {
  vmac = record { 0 = 2 ∷ 0 ∷ 0 ∷ 0 ∷ 0 ∷ 255 ∷ [] };
  device = record { 0 = 0 ∷ 17 ∷ 34 ∷ 51 ∷ 68 ∷ 85 ∷ 102 ∷ 119 ∷ 136 ∷ 153 ∷ 170 ∷ 187 ∷ 204 ∷ 221 ∷ 238 ∷ 255 ∷ [] };
  max_bvlc = 1600;
  max_npdu = 1497;
}

-- It has two rows for each worker of the greatest workload, and as many calls and callers as a hub can have.
abbrev pub load_about : About
load_about = record { hub = load_hub; limits = record { rows = ROWS; outbox = OUTBOX; calls = MOST_CALLS; callers = MOST_CALLERS } }

-- That hub was made, so many workers were run on it by its first pass, and it and the pass are kept.
pub record Loaded {Z : Type 0} (n : ℕ) (kept : Kept) (hub : Arc Hub Z) (result : Result LoadEnd LoadStop) : Type 0 where
  pub first : Pass
  pub last : Pass
  pub caller : IsCaller (arc_value hub) first
  pub new : (number_of first ≡ 0) × (seen first ≡ []) × (own_list first ≡ []) × (ended_callers first ≡ [])
  pub fresh : loads_made first ≡ 0
  pub about : about_of (arc_value hub) ≡ load_about
  pub keeps : kept.pass ≡ Some last
  pub loads : Loads (arc_value hub) first last n result
