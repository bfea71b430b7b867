-- Worked rows of a workload: who joins, what is forwarded, and how many octets one worker takes.
-- No clause needs it: worked examples.
use Rattle.std.proofs.Common.{◌≡◌, ◌+◌, ◌%◌, [], ◌∷◌, length, refl}
use Rattle.std.specs.List.{range_with_len, sum_by}
use Rattle.bsc_octets.specs.Forwarding.{out}
use Rattle.bsc_load.specs.Frames.{frame, npdu, npdu_octets}
use Rattle.bsc_load.specs.Peers.{receiver, sender}

-- Worker 0 has the peers 1 and 2, worker 127 the peers 255 and 256, and worker 511 the peers 1023 and 1024.
who_joins :
    ((sender 0).vmac.0 ≡ 2 ∷ 0 ∷ 0 ∷ 1 ∷ 0 ∷ 1 ∷ [])
    × ((receiver 127).vmac.0 ≡ 2 ∷ 0 ∷ 0 ∷ 1 ∷ 1 ∷ 0 ∷ [])
    × ((receiver 511).vmac.0 ≡ 2 ∷ 0 ∷ 0 ∷ 1 ∷ 4 ∷ 0 ∷ [])
    × ((receiver 511).device.0 ≡ 0 ∷ 0 ∷ 0 ∷ 0 ∷ 0 ∷ 0 ∷ 0 ∷ 0 ∷ 0 ∷ 0 ∷ 0 ∷ 0 ∷ 0 ∷ 0 ∷ 4 ∷ 0 ∷ [])
    × ((sender 0).max_bvlc ≡ 0x0640) × ((sender 0).max_npdu ≡ 0x05D9)
who_joins = (refl, refl, refl, refl, refl, refl)

-- The first frame of worker 0 has one octet of NPDU, its last 40, the last of worker 511 begins with 511 + 999 mod 256.
what_is_forwarded :
    (frame 0 0 ≡ 1 ∷ 4 ∷ 0 ∷ 0 ∷ 2 ∷ 0 ∷ 0 ∷ 1 ∷ 0 ∷ 2 ∷ 0 ∷ [])
    × (frame 3 257 ≡ 1 ∷ 4 ∷ 1 ∷ 1 ∷ 2 ∷ 0 ∷ 0 ∷ 1 ∷ 0 ∷ 8 ∷ 4 ∷ 5 ∷ [])
    × (length (npdu 0 999) ≡ 40) × (length (npdu 0 63) ≡ 64) × (length (npdu 0 64) ≡ 1)
what_is_forwarded = (refl, refl, refl, refl, refl)

-- A worker's thousand NPDUs have 32,020 octets together, and so many are counted of the frames that are passed on, where
-- each is ten octets longer.
what_is_taken :
    (sum_by (λ k. 1 + k % 64) (range_with_len 0 1000) ≡ 32020)
    × (out (frame 0 0) (sender 0).vmac ≡ 1 ∷ 8 ∷ 0 ∷ 0 ∷ 2 ∷ 0 ∷ 0 ∷ 1 ∷ 0 ∷ 1 ∷ 0 ∷ [])
    × (npdu_octets (out (frame 0 0) (sender 0).vmac ∷ out (frame 3 257) (sender 3).vmac ∷ []) ≡ 3)
unfolding out
what_is_taken = (refl, refl, refl)
