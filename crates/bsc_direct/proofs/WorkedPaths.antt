-- Paths over written-out lists of calls, by computation.
-- No clause needs it: worked examples.
use Rattle.std.proofs.Common.{◌≡◌, ℕ, List, [], ◌∷◌, Some, None, replicate, refl}
use Rattle.bsc_octets.specs.declared.vmac.Vmac.{Vmac}
use Rattle.bsc_octets.specs.declared.identity.Identity.{Identity}
use Rattle.bsc_octets.specs.Addresses.{broadcast}
use Rattle.bsc_connector.specs.declared.hub_use.HubUse.TheVariants.{NoHub, Primary, Failover}
use Rattle.bsc_direct.specs.declared.call.SlotCall.{SlotCall}
use Rattle.bsc_direct.specs.declared.call.SlotCall.TheVariants.{Claim, Up, Release}
use Rattle.bsc_direct.specs.Slots.{slots}
use Rattle.bsc_direct.specs.declared.routes.Route.TheVariants.{Direct, Hub, NoPath}
use Rattle.bsc_direct.specs.Paths.{path}

abbrev address : ℕ → Vmac
address n = record { 0 = 2 ∷ 0 ∷ 0 ∷ 0 ∷ 0 ∷ n ∷ [] }

abbrev peer : ℕ → Identity
peer n = record { vmac = address n; device = record { 0 = replicate 16 n }; max_bvlc = 1600; max_npdu = 1497 }

-- A is connected in slot 1, and slot 0 is dialled for B.
abbrev calls : List SlotCall
calls = Claim 0 (Some (address 11)) ∷ Claim 1 None ∷ Up 1 (peer 10) ∷ []

over_a_slot : path calls Primary (address 10) ≡ Direct 1
unfolding slots
over_a_slot = refl

over_a_slot_without_a_hub : path calls NoHub (address 10) ≡ Direct 1
unfolding slots
over_a_slot_without_a_hub = refl

-- a slot that isn't established is no path
over_the_hub : path calls Failover (address 11) ≡ Hub
unfolding slots
over_the_hub = refl

to_all : path calls Primary broadcast ≡ Hub
unfolding slots
to_all = refl

nowhere : path calls NoHub (address 11) ≡ NoPath
unfolding slots
nowhere = refl
