-- How a call leaves the slots beside the one that it is about.
-- It serves the clauses of `claim`, `establish` and `release`.
use Rattle.std.proofs.Common.{◌≡◌, ◌<◌, ℕ, Bool, true, false, List, length, Option, Some, None, refl, ap, sym, ◌∙◌, subst}
use Rattle.std.specs.Prelude.{◌==◌}
use Rattle.std.proofs.Math.ListN.{set}
use Rattle.bsc_octets.specs.declared.vmac.Vmac.{Vmac}
use Rattle.bsc_octets.specs.declared.identity.Identity.{Identity}
use Rattle.bsc_direct.specs.declared.bounds.TheConstants.{SLOTS}
use Rattle.bsc_direct.specs.declared.slot.Slot.{Slot}
use Rattle.bsc_direct.specs.declared.slot.Slot.TheVariants.{Claimed, Established}
use Rattle.bsc_direct.specs.declared.direct.Direct.{Direct}
use Rattle.bsc_direct.specs.Kept.{says_claimed, says_peer, says_wanted, without_peer, slot_at, slots_without, slots_up}
use Rattle.bsc_direct.specs.Left.{IsHeld, LeavesOthers}
use Rattle.bsc_direct.specs.Standing.{IsOnlyClaimed}
use Rattle.bsc_direct.proofs.Following.{set_here, set_there, keeps_claimed, loses_peer, without_same, length_without, Within}
use Rattle.bsc_lemmas.proofs.Booleans.{eq_self}

pub set_leaves : (old new : Direct) (slot : ℕ) (s : Slot) → new.slots.items ≡ set old.slots.items slot s → LeavesOthers old new slot
set_leaves old new slot s items = record {
  held = λ k n h. ap (λ (l : List Slot). says_claimed (slot_at l k)) items ∙ ap says_claimed (set_there old.slots.items slot k s n) ∙ h;
  alone = λ k n h. ap (λ (l : List Slot). says_peer (slot_at l k)) items ∙ ap says_peer (set_there old.slots.items slot k s n) ∙ h;
}

pub same_leaves : (d : Direct) (slot : ℕ) → LeavesOthers d d slot
same_leaves d slot = record { held = λ k n h. h; alone = λ k n h. h }

pub set_only : (d : Direct) (items : List Slot) (slot : ℕ) (v : Option Vmac) → slot < SLOTS → slot < length items → d.slots.items ≡ set items slot (Claimed v) → IsOnlyClaimed d slot
set_only d items slot v within inside is = record {
  within = within;
  claimed = ap (λ (l : List Slot). says_claimed (slot_at l slot)) is ∙ ap says_claimed (set_here items slot slot (Claimed v) inside (eq_self slot));
  alone = ap (λ (l : List Slot). says_peer (slot_at l slot)) is ∙ ap says_peer (set_here items slot slot (Claimed v) inside (eq_self slot));
}

none_without : (r : Option ℕ) (items : List Slot) (k : ℕ) → Within r items → says_peer (slot_at items k) ≡ None → says_peer (slot_at (slots_without r items) k) ≡ None
none_without None items k within h = h
none_without (Some r) items k within h = by (r == k) refl
  where
    by : (b : Bool) → (r == k) ≡ b → says_peer (slot_at (set items r (without_peer (slot_at items r))) k) ≡ None
    by true e = ap says_peer (set_here items r k (without_peer (slot_at items r)) (within r refl) e) ∙ loses_peer (slot_at items r)
    by false e = ap says_peer (set_there items r k (without_peer (slot_at items r)) e) ∙ h

pub up_leaves : (old new : Direct) (slot : ℕ) (who : Identity) (r : Option ℕ) → Within r old.slots.items → new.slots.items ≡ slots_up slot who r old.slots.items → LeavesOthers old new slot
up_leaves old new slot who r within items =
    let es = old.slots.items in
    let us = slots_without r es in
    let s = Established (says_wanted (slot_at us slot)) who in record {
      held = λ k n h. ap (λ (l : List Slot). says_claimed (slot_at l k)) items ∙ ap says_claimed (set_there us slot k s n) ∙ without_same says_claimed r es k keeps_claimed within ∙ h;
      alone = λ k n h. ap (λ (l : List Slot). says_peer (slot_at l k)) items ∙ ap says_peer (set_there us slot k s n) ∙ none_without r es k within h;
    }

pub up_held : (old new : Direct) (slot : ℕ) (who : Identity) (r : Option ℕ) → slot < length old.slots.items → new.slots.items ≡ slots_up slot who r old.slots.items → IsHeld new slot
up_held old new slot who r within items =
    let es = old.slots.items in
    let us = slots_without r es in
    ap (λ (l : List Slot). says_claimed (slot_at l slot)) items ∙ ap says_claimed
    (set_here us slot slot (Established (says_wanted (slot_at us slot)) who) (subst (λ (n : ℕ). slot < n) (sym (length_without r es)) within) (eq_self slot))
