-- What the workers forward.
use Rattle.std.specs.Prelude.{ℕ, ◌+◌, ◌-◌, ◌%◌, List, ◌∷◌, ◌++◌, length, map}
use Rattle.std.specs.List.{range_with_len, sum_by}
use Rattle.byteorder.specs.Endian.{big_bytes}
use Rattle.bsc_octets.specs.declared.vmac.Vmac.{Vmac}
use Rattle.bsc_load.specs.Peers.{receiver}

-- The NPDU of forward k of worker i: 1 + k mod 64 octets, of which octet j is i + k + j mod 256.
abbrev pub npdu : ℕ → ℕ → List ℕ
npdu i k = map (λ j. (i + k + j) % 256) (range_with_len 0 (1 + k % 64))

-- A unicast Encapsulated-NPDU: function 01, flags 04 for a Destination alone, a Message ID, the Destination, the NPDU.
abbrev pub unicast : ℕ → Vmac → List ℕ → List ℕ
unicast id to octets = (1 ∷ 4 ∷ big_bytes 2 id) ++ to.0 ++ octets

-- Forward k of worker i.
abbrev pub frame : ℕ → ℕ → List ℕ
frame i k = unicast k (receiver i).vmac (npdu i k)

-- How many octets of NPDU some frames have that a hub passed on: each has a head of ten octets.
abbrev pub npdu_octets : List (List ℕ) → ℕ
npdu_octets frames = sum_by (λ o. length o - 10) frames
