-- Virtual addresses and device UUIDs (Annex AB, "VMAC Addressing" and "Device UUID").
use Rattle.std.specs.Prelude.{ℕ, Bool, List, ◌∷◌, replicate, drop, nat_eq, slice_index, bit_and, bit_or}
use Rattle.std.specs.Cmp.Lexicographic.{pointwise}
use Rattle.byteorder.specs.Endian.{big_bytes}
use Rattle.bsc_octets.specs.declared.vmac.Vmac.{Vmac}
use Rattle.bsc_octets.specs.declared.device_id.DeviceId.{DeviceId}

-- The broadcast VMAC, six octets FF.
abbrev pub broadcast : Vmac
broadcast = record { 0 = replicate 6 255 }

-- The VMAC that is reserved and names no node, six octets 00.
abbrev pub zero_vmac : Vmac
zero_vmac = record { 0 = replicate 6 0 }

-- Whether two VMACs are the same, octet by octet.
abbrev pub same_vmac : Vmac → Vmac → Bool
same_vmac v w = pointwise nat_eq v.0 w.0

-- Whether two Device UUIDs are the same, octet by octet.
abbrev pub same_device : DeviceId → DeviceId → Bool
same_device u w = pointwise nat_eq u.0 w.0

-- The low 48 bits of a word as octets, the most significant first.
abbrev pub low_48_bits : ℕ → List ℕ
low_48_bits w = big_bytes 6 w

-- The Random-48 VMAC of a word (Annex H, "EUI-48 and Random-48 VMAC Address"): its low 48 bits, with the low four bits of the first octet set to 2.
abbrev pub random48_of : ℕ → Vmac
random48_of w = record { 0 = bit_or (bit_and (slice_index (low_48_bits w) 0) 240) 2 ∷ drop 1 (low_48_bits w) }
