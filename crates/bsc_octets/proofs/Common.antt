-- Lemmas that crates above cite too.
-- It serves many crates above.
use Rattle.bsc_octets.specs.Addresses.{same_vmac, same_device}
use Rattle.bsc_octets.specs.Forwarding.{id_in}
use Rattle.bsc_octets.specs.declared.device_id.DeviceId.{DeviceId}
use Rattle.bsc_octets.specs.declared.vmac.Vmac.{Vmac}
use Rattle.byteorder.specs.Endian.{big_number}
use Rattle.byteorder.specs.Numbers.{big_from-take}
use Rattle.std.proofs.Common.{◌≡◌, sym, arith, drop, List, ℕ, true, ap}
use Rattle.std.specs.Cmp.{IsEquivalence}
use Rattle.std.specs.Cmp.Lexicographic.{on_texts_equal, same_text}

pub same_id : (m : List ℕ) → big_number 2 (drop 2 m) ≡ big_number 2 (id_in m)
same_id m = sym (big_from-take 0 2 2 (drop 2 m) (omega arith))

pub vmac_laws : IsEquivalence same_vmac
vmac_laws = on_texts_equal (λ (v : Vmac). v.0)

pub vmac_same : (v w : Vmac) → same_vmac v w ≡ true → v ≡ w
vmac_same v w h = ap (λ (l : List ℕ). let r : Vmac = record { 0 = l } in r) (same_text v.0 w.0 (sym h))

pub device_same : (d e : DeviceId) → same_device d e ≡ true → d ≡ e
device_same d e h = ap (λ (l : List ℕ). let r : DeviceId = record { 0 = l } in r) (same_text d.0 e.0 (sym h))
