-- How a call leaves the slots beside the one that it is about. A caller that holds the connections of the slots goes by
-- this.
use Rattle.std.specs.Prelude.{◌≡◌, ℕ, ◌==◌, Bool, true, false, None}
use Rattle.bsc_direct.specs.declared.direct.Direct.{Direct}
use Rattle.bsc_direct.specs.Kept.{says_claimed, says_peer, slot_at}

-- The slot is claimed.
abbrev pub IsHeld : Direct → ℕ → Type 0
IsHeld d slot = says_claimed (slot_at d.slots.items slot) ≡ true

-- Every other slot that was claimed still is, and is established only if it was.
pub record LeavesOthers (old new : Direct) (slot : ℕ) : Type 0 where
  pub held : (k : ℕ) → (slot == k) ≡ false → IsHeld old k → IsHeld new k
  pub alone : (k : ℕ) → (slot == k) ≡ false → says_peer (slot_at old.slots.items k) ≡ None → says_peer (slot_at new.slots.items k) ≡ None
