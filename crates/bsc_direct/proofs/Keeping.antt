-- The established slots stay apart, and none has the broadcast VMAC.
-- It serves clauses of functions of `direct`, `laws` and `path`.
use Rattle.std.proofs.Common.{◌≡◌, ℕ, Bool, true, false, not, cond, ◌&&◌, List, [], ◌∷◌, ◌++◌, Some, None, refl, ap, sym, ◌∙◌, subst, arith}
use Rattle.std.specs.Prelude.{◌==◌}
use Rattle.bsc_octets.specs.declared.identity.Identity.{Identity}
use Rattle.bsc_octets.specs.Addresses.{same_vmac, same_device, broadcast}
use Rattle.bsc_direct.specs.declared.call.SlotCall.{SlotCall}
use Rattle.bsc_direct.specs.declared.call.SlotCall.TheVariants.{Up}
use Rattle.bsc_direct.specs.Slots.{peer_by, replaces, established_peer, is_rival}
use Rattle.bsc_direct.specs.Laws.{PeersAreApart}
use Rattle.bsc_direct.specs.Standing.{PeersAreUnicast}
use Rattle.bsc_direct.proofs.OneMore.{device_laws, both_ways, peer-before, peer-beside, peer-up}
use Rattle.bsc_octets.proofs.Common.{vmac_laws}
use Rattle.std.proofs.lemmas.Option.{same_Some as some_same}

-- a call that establishes nothing
pub quiet-apart : (calls : List SlotCall) (call : SlotCall) → ((k : ℕ) → peer_by k call ≡ None) → ((k : ℕ) (w : Identity) → replaces k w call ≡ false) → PeersAreApart calls
    → PeersAreApart (calls ++ call ∷ [])
quiet-apart calls call p r apart i j x y n hi hj = apart i j x y n (peer-before calls i call x (p i) (r i) hi) (peer-before calls j call y (p j) (r j) hj)

pub quiet-unicast : (calls : List SlotCall) (call : SlotCall) → ((k : ℕ) → peer_by k call ≡ None) → ((k : ℕ) (w : Identity) → replaces k w call ≡ false) → PeersAreUnicast calls
    → PeersAreUnicast (calls ++ call ∷ [])
quiet-unicast calls call p r unicast k who h = unicast k who (peer-before calls k call who (p k) (r k) h)

-- no slot is established for the VMAC of who by another device
abbrev pub HasNoRival : List SlotCall → Identity → Type 0
HasNoRival calls who = (k : ℕ) (y : Identity) → established_peer calls k ≡ Some y → is_rival who y ≡ false

no_rival : (who y : Identity) → is_rival who y ≡ false → same_device who.device y.device ≡ false → same_vmac who.vmac y.vmac ≡ false
no_rival who y r d = vmac_laws.symm who.vmac y.vmac ∙ by (same_vmac y.vmac who.vmac) (ap (λ (b : Bool). same_vmac y.vmac who.vmac && not b) (sym (device_laws.symm y.device who.device ∙ d)) ∙ r)
  where
    by : (b : Bool) → (b && not false) ≡ false → b ≡ false
    by true h = h
    by false h = refl

same_slot : (slot i j : ℕ) → (slot == i) ≡ true → (slot == j) ≡ true → (i == j) ≡ true
same_slot slot i j h g = grind arith

up_is : (calls : List SlotCall) (slot k : ℕ) (who x : Identity) → (slot == k) ≡ true → established_peer (calls ++ Up slot who ∷ []) k ≡ Some x → who ≡ x
up_is calls slot k who x h e = some_same who x (sym (peer-up calls k (Up slot who) who refl (ap (λ (b : Bool). cond b (Some who) None) h)) ∙ e)

pub up-apart : (calls : List SlotCall) (slot : ℕ) (who : Identity) → PeersAreApart calls → HasNoRival calls who → PeersAreApart (calls ++ Up slot who ∷ [])
up-apart calls slot who apart rival i j x y n hi hj = by (slot == i) (slot == j) refl refl
  where
    by : (b d : Bool) → (slot == i) ≡ b → (slot == j) ≡ d → (same_vmac x.vmac y.vmac ≡ false) × (same_device x.device y.device ≡ false)
    by true true p q = both_ways (i == j) (same_slot slot i j p q) n
    by true false p q =
        let r = peer-beside calls slot j who y q hj in
        subst (λ (v : Identity). (same_vmac v.vmac y.vmac ≡ false) × (same_device v.device y.device ≡ false)) (up_is calls slot i who x p hi) (no_rival who y (rival j y r.0) r.1, r.1)
    by false true p q =
        let r = peer-beside calls slot i who x p hi in
        subst (λ (v : Identity). (same_vmac x.vmac v.vmac ≡ false) × (same_device x.device v.device ≡ false)) (up_is calls slot j who y q hj)
        (vmac_laws.symm x.vmac who.vmac ∙ no_rival who x (rival i x r.0) r.1, device_laws.symm x.device who.device ∙ r.1)
    by false false p q = apart i j x y n (peer-beside calls slot i who x p hi).0 (peer-beside calls slot j who y q hj).0

pub up-unicast : (calls : List SlotCall) (slot : ℕ) (who : Identity) → PeersAreUnicast calls → same_vmac who.vmac broadcast ≡ false → PeersAreUnicast (calls ++ Up slot who ∷ [])
up-unicast calls slot who unicast h k x e = by (slot == k) refl
  where
    by : (b : Bool) → (slot == k) ≡ b → same_vmac x.vmac broadcast ≡ false
    by true p = subst (λ (v : Identity). same_vmac v.vmac broadcast ≡ false) (up_is calls slot k who x p e) h
    by false p = unicast k x (peer-beside calls slot k who x p e).0
