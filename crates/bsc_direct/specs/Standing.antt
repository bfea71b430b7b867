-- For which calls a Direct stands.
use Rattle.std.specs.Prelude.{◌≡◌, ◌<◌, ℕ, Bool, true, false, List, [], ◌∷◌, ◌++◌, Option, Some, None}
use Rattle.bsc_octets.specs.declared.vmac.Vmac.{Vmac}
use Rattle.bsc_octets.specs.declared.identity.Identity.{Identity}
use Rattle.bsc_octets.specs.Addresses.{same_vmac, broadcast}
use Rattle.bsc_direct.specs.declared.bounds.TheConstants.{SLOTS}
use Rattle.bsc_direct.specs.declared.slot.Slot.{Slot}
use Rattle.bsc_direct.specs.declared.slots_full.SlotsFull.{SlotsFull}
use Rattle.bsc_direct.specs.declared.establish.Establish.{Establish}
use Rattle.bsc_direct.specs.declared.establish.Establish.TheVariants.{Up as IsUp, Duplicate, WrongPeer}
use Rattle.bsc_direct.specs.declared.call.SlotCall.{SlotCall}
use Rattle.bsc_direct.specs.declared.call.SlotCall.TheVariants.{Claim, Up}
use Rattle.bsc_direct.specs.declared.direct.Direct.{Direct}
use Rattle.bsc_direct.specs.Slots.{is_claimed, wanted, established_peer, free_slot, establish}
use Rattle.bsc_direct.specs.Laws.{PeersAreApart}
use Rattle.bsc_direct.specs.Kept.{says_claimed, says_wanted, says_peer, slot_at}

-- What is kept of the slot k is what the calls say of it.
pub record SlotStands (calls : List SlotCall) (k : ℕ) (s : Slot) : Type 0 where
  pub claimed : is_claimed calls k ≡ says_claimed s
  pub wanted : wanted calls k ≡ says_wanted s
  pub peer : established_peer calls k ≡ says_peer s

-- no established slot has the broadcast VMAC
abbrev pub PeersAreUnicast : List SlotCall → Type 0
PeersAreUnicast calls = (k : ℕ) (who : Identity) → established_peer calls k ≡ Some who → same_vmac who.vmac broadcast ≡ false

-- A Direct was made, and these calls happened to it, newest last.
pub record DirectStands (d : Direct) (calls : List SlotCall) : Type 0 where
  pub slots : (k : ℕ) → SlotStands calls k (slot_at d.slots.items k)
  pub apart : PeersAreApart calls
  pub unicast : PeersAreUnicast calls

-- For whatever it stood, it stands for that and this call.
abbrev pub StandsOn : Direct → Direct → SlotCall → Type 0
StandsOn old new call = (calls : List SlotCall) → DirectStands old calls → DirectStands new (calls ++ call ∷ [])

-- For whatever it stood, the slot was the lowest free one, and it stands for that and the claim.
abbrev pub IsClaimed : Direct → Direct → ℕ → Option Vmac → Type 0
IsClaimed old new slot wanted =
    (calls : List SlotCall) → DirectStands old calls → (free_slot calls ≡ Some slot) × DirectStands new (calls ++ Claim slot wanted ∷ [])

-- For whatever it stood, no slot was free, and the fault says how many there are.
abbrev pub IsFull : Direct → SlotsFull → Type 0
IsFull old fault = (fault.slots ≡ SLOTS) × ((calls : List SlotCall) → DirectStands old calls → free_slot calls ≡ None)

-- what happened, where the answer is that the connection is established
abbrev pub and_up : Establish → List SlotCall → ℕ → Identity → List SlotCall
and_up (IsUp replaced) calls slot who = calls ++ Up slot who ∷ []
and_up (Duplicate holder) calls slot who = calls
and_up (WrongPeer v) calls slot who = calls

-- For whatever it stood, the answer is as the rules ask, and it stands for that and an established connection.
abbrev pub DirectAnswers : Direct → Direct → Vmac → ℕ → Identity → Establish → Type 0
DirectAnswers old new own slot who answer =
    (calls : List SlotCall) → DirectStands old calls
    → (answer ≡ establish own calls slot who) × DirectStands new (and_up answer calls slot who)

-- The slot is claimed and not established.
pub record IsOnlyClaimed (d : Direct) (slot : ℕ) : Type 0 where
  pub within : slot < SLOTS
  pub claimed : says_claimed (slot_at d.slots.items slot) ≡ true
  pub alone : says_peer (slot_at d.slots.items slot) ≡ None
