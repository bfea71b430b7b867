-- Slots over written-out lists of calls, by computation.
-- No clause needs it: worked examples.
use Rattle.std.proofs.Common.{◌≡◌, ℕ, true, false, List, [], ◌∷◌, ◌++◌, Some, None, replicate, refl}
use Rattle.bsc_octets.specs.declared.vmac.Vmac.{Vmac}
use Rattle.bsc_octets.specs.declared.identity.Identity.{Identity}
use Rattle.bsc_direct.specs.declared.call.SlotCall.{SlotCall}
use Rattle.bsc_direct.specs.declared.call.SlotCall.TheVariants.{Claim, Up, Release}
use Rattle.bsc_direct.specs.declared.establish.Establish.TheVariants.{Up as IsUp, Duplicate, WrongPeer}
use Rattle.bsc_direct.specs.Slots.{slots, free_slot, establish, established, established_peer, is_claimed}

abbrev address : ℕ → Vmac
address n = record { 0 = 2 ∷ 0 ∷ 0 ∷ 0 ∷ 0 ∷ n ∷ [] }

abbrev peer : ℕ → ℕ → Identity
peer n u = record { vmac = address n; device = record { 0 = replicate 16 u }; max_bvlc = 1600; max_npdu = 1497 }

-- Slot 0 is dialled for A and established, slot 1 is taken; slot 2 is dialled for C.
abbrev three : List SlotCall
three = Claim 0 (Some (address 10)) ∷ Up 0 (peer 10 0xAA) ∷ Claim 1 None ∷ Claim 2 (Some (address 12)) ∷ []

next_free : free_slot three ≡ Some 3
unfolding slots
next_free = refl

lowest_free : free_slot (three ++ Release 1 ∷ []) ≡ Some 1
unfolding slots
lowest_free = refl

comes_up : establish (address 11) three 1 (peer 13 0xDD) ≡ IsUp None
unfolding slots
comes_up = refl

same_device_replaces : establish (address 11) three 1 (peer 14 0xAA) ≡ IsUp (Some 0)
unfolding slots
same_device_replaces = refl

same_address_too : establish (address 11) three 1 (peer 10 0xAA) ≡ IsUp (Some 0)
unfolding slots
same_address_too = refl

other_device_is_duplicate : establish (address 11) three 1 (peer 10 0xDD) ≡ Duplicate (Some 0)
unfolding slots
other_device_is_duplicate = refl

own_is_duplicate : establish (address 11) three 1 (peer 11 0xDD) ≡ Duplicate None
unfolding slots
own_is_duplicate = refl

-- another than the wanted one is wrong, before all else
wrong_peer : establish (address 11) three 2 (peer 11 0xDD) ≡ WrongPeer (address 12)
unfolding slots
wrong_peer = refl

-- A replaced slot is claimed until it is released, and no longer established.
abbrev replaced : List SlotCall
replaced = three ++ Up 1 (peer 10 0xAA) ∷ []

replaced_peer : established_peer replaced 0 ≡ None
replaced_peer = refl

replaced_is_claimed : is_claimed replaced 0 ≡ true
replaced_is_claimed = refl

new_is_established : established replaced (address 10) ≡ Some 1
unfolding slots
new_is_established = refl

after_its_release : established (replaced ++ Release 1 ∷ []) (address 10) ≡ None
unfolding slots
after_its_release = refl

-- a slot that is claimed anew has no peer
claimed_anew : established_peer (three ++ Release 0 ∷ Claim 0 None ∷ []) 0 ≡ None
claimed_anew = refl
