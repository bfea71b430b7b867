-- Who connects in a storm, and what is forwarded.
use Rattle.std.specs.Prelude.{ℕ, List, [], ◌∷◌, replicate}
use Rattle.bsc_octets.specs.declared.identity.Identity.{Identity}
use Rattle.bsc_load.specs.Frames.{unicast}

-- The device whose UUID is sixteen times one octet, at the address 02 00 00 00 00 and a last octet.
abbrev pub device_at : ℕ → ℕ → Identity
device_at last octet = record {
  vmac = record { 0 = 2 ∷ 0 ∷ 0 ∷ 0 ∷ 0 ∷ last ∷ [] };
  device = record { 0 = replicate 16 octet };
  max_bvlc = 1600;
  max_npdu = 1497;
}

-- Who is taken over: the device AA at 02 00 00 00 00 0A.
abbrev pub taken_over : Identity
taken_over = device_at 10 170

-- Who forwards: the device BB at 02 00 00 00 00 0B.
abbrev pub storm_sender : Identity
storm_sender = device_at 11 187

-- Forward k: the unicast of Message ID k to who is taken over, with the NPDU 01 00.
abbrev pub storm_frame : ℕ → List ℕ
storm_frame k = unicast k taken_over.vmac (1 ∷ 0 ∷ [])
