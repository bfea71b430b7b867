-- What a commit asks, and what it says.
use Rattle.std.specs.Prelude.{◌≡◌, ℕ, ◌<◌, ◌^◌, [], ◌∷◌, ◌++◌, length, take}
use Rattle.bsc_history.specs.declared.mark.Stamped.{Stamped}
use Rattle.bsc_turn.specs.declared.guard.Guard.{Guard}
use Rattle.bsc_turn.specs.declared.pass.Pass.{Pass}
use Rattle.bsc_turn.specs.declared.turn.Turn.{Turn}
use Rattle.bsc_turn.specs.Passes.{IsForGuard, IsGuardOf, IsPassOf, after_commit, first_state, guard_view, history, number_of, view_of}
use Rattle.bsc_desk.specs.declared.desk.Desk.{Desk}
use Rattle.bsc_desk.specs.Standing.{DeskStands}
use Rattle.bsc_hub.specs.Passing.{fixed_of}

module _ {T : Type 0} where
  -- The guard may add this entry for the pass: it is the caller's own, and the desk in hand stands for the history with
  -- it.
  abbrev pub CanCommit : Turn Desk → Guard T Desk → Pass → Stamped → Type 0
  CanCommit t d p s =
      IsGuardOf fixed_of t d × IsForGuard p d × (s.entry.caller ≡ number_of p)
      × DeskStands d.state (history d ++ s ∷ []) × (d.state.about ≡ (first_state t).about)
      × (length (history d) < 2 ^ 63)

  -- It has, at this place, and the pass knows.
  abbrev pub HasCommitted : Turn Desk → Guard T Desk → Stamped → ℕ → Pass → Type 0
  HasCommitted t d s at q =
      (at ≡ length (history d)) × IsPassOf fixed_of t q × (view_of q ≡ after_commit s (guard_view d))
