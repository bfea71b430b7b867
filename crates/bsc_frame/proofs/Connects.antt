-- The first check that fails of a Connect-Request or a Connect-Accept.
-- It serves the clauses of `read_node`.
use Rattle.std.proofs.Common.{◌≡◌, ℕ, ◌<◌, ◌⊎◌, inl, inr, List, length, refl, sym, ap, ◌∙◌, arith, Bool, true, eqb}
use Rattle.std.specs.Cmp.Lexicographic.{pointwise, same_text}
use Rattle.bsc_octets.specs.declared.vmac.Vmac.{Vmac}
use Rattle.bsc_octets.specs.declared.identity.Identity.{Identity}
use Rattle.bsc_octets.specs.Identities.{identity_of}
use Rattle.bsc_octets.specs.Addresses.{broadcast, zero_vmac}
use Rattle.bsc_octets.specs.Envelopes.{vmac_at}
use Rattle.bsc_frame.specs.declared.check.Check.{Check}
use Rattle.bsc_frame.specs.declared.check.Check.TheVariants.{C10, C10b, C10c, C11}
use Rattle.bsc_frame.proofs.PayloadFirst.{FirstOfPayload, is_there, first_missing, first_below, first_beyond, first_outside}

abbrev OfEither : List ℕ → Check → Type 0
OfEither p k = (f : ℕ) → (f ≡ 6) ⊎ (f ≡ 7) → FirstOfPayload f p k

either : (p : List ℕ) (k : Check) → FirstOfPayload 6 p k → FirstOfPayload 7 p k → OfEither p k
either p k six seven = λ f is. elim is [ inl e ↦ rw e six | inr e ↦ rw e seven ]

pub node_missing : (p : List ℕ) → length p ≡ 0 → OfEither p C10
node_missing p none = either p C10 (first_missing 6 p refl none) (first_missing 7 p refl none)

pub node_below : (p : List ℕ) → 0 < length p → length p < 26 → OfEither p C10b
node_below p some short = either p C10b (first_below 6 p 26 (is_there 6 p some) refl short) (first_below 7 p 26 (is_there 7 p some) refl short)

pub node_beyond : (p : List ℕ) → 26 < length p → OfEither p C10c
node_beyond p long = either p C10c (first_beyond 6 p 26 (is_there 6 p (omega arith)) refl refl long) (first_beyond 7 p 26 (is_there 7 p (omega arith)) refl refl long)

pub node_outside : (p : List ℕ) → length p ≡ 26 → (vmac_at p 0 ≡ zero_vmac) ⊎ (vmac_at p 0 ≡ broadcast) → OfEither p C11
node_outside p long vmac =
    either p C11
    (first_outside 6 p 26 (is_there 6 p (omega arith)) refl (omega arith) (inr (omega arith)) (inr (inr (inr (inr (inr (inl refl, vmac)))))))
    (first_outside 7 p 26 (is_there 7 p (omega arith)) refl (omega arith) (inr (omega arith)) (inr (inr (inr (inr (inr (inr refl, vmac)))))))

-- the VMAC that was read and found the same as another
pub vmac_read : (p : List ℕ) (who : Identity) (v : Vmac) (b : Bool) → who ≡ identity_of p → b ≡ pointwise eqb who.vmac.0 v.0 → b ≡ true → vmac_at p 0 ≡ v
vmac_read p who v b read is same =
    let octets : who.vmac.0 ≡ v.0 = same_text who.vmac.0 v.0 (sym same ∙ is) in
    ap (λ (i : Identity). i.vmac) (sym read) ∙ ap (λ (l : List ℕ). let w : Vmac = record { 0 = l } in w) octets
