-- Who connects, as octets: the payload of a Connect-Request and of a Connect-Accept (Annex AB).
use Rattle.std.specs.Prelude.{ℕ, List, ◌++◌, take, drop}
use Rattle.byteorder.specs.Endian.{big_bytes, big_number}
use Rattle.bsc_octets.specs.declared.identity.Identity.{Identity}

-- The octets of an identity: VMAC, Device UUID, Maximum BVLC Length and Maximum NPDU Length, each length with its high octet first.
abbrev pub identity_octets : Identity → List ℕ
identity_octets who = ((who.vmac.0 ++ who.device.0) ++ big_bytes 2 who.max_bvlc) ++ big_bytes 2 who.max_npdu

-- The identity that 26 octets say, each field read at its place.
abbrev pub identity_of : List ℕ → Identity
identity_of b =
    record {
      vmac = record { 0 = take 6 b };
      device = record { 0 = take 16 (drop 6 b) };
      max_bvlc = big_number 2 (drop 22 b);
      max_npdu = big_number 2 (drop 24 b);
    }
