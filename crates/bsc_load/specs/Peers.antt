-- Who connects in a workload: numbered peers.
use Rattle.std.specs.Prelude.{ℕ, ◌+◌, ◌*◌, ◌∷◌, ◌++◌, replicate}
use Rattle.byteorder.specs.Endian.{big_bytes}
use Rattle.bsc_octets.specs.declared.vmac.Vmac.{Vmac}
use Rattle.bsc_octets.specs.declared.device_id.DeviceId.{DeviceId}
use Rattle.bsc_octets.specs.declared.identity.Identity.{Identity}

-- The address of peer n: 02 00 00 01, and the two octets of n, the high one first.
abbrev pub address : ℕ → Vmac
address n = record { 0 = 2 ∷ 0 ∷ 0 ∷ 1 ∷ big_bytes 2 n }

-- Its device: twelve octets 00, and the four octets of n.
abbrev pub device : ℕ → DeviceId
device n = record { 0 = replicate 12 0 ++ big_bytes 4 n }

-- Peer n takes messages of 1,600 octets and NPDUs of 1,497.
abbrev pub peer : ℕ → Identity
peer n = record { vmac = address n; device = device n; max_bvlc = 1600; max_npdu = 1497 }

-- Worker i has two peers, that of 2i + 1 which sends, and that of 2i + 2 which receives.
abbrev pub sender : ℕ → Identity
sender i = peer (2 * i + 1)

abbrev pub receiver : ℕ → Identity
receiver i = peer (2 * i + 2)
