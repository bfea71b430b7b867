-- What a place says of the addresses and of the function, as tests.
-- It serves the clauses of `judge` and `one_outcome`.
use Rattle.std.proofs.Common.{◌≡◌, ◌≢◌, ℕ, ◌≤◌, ◌⊎◌, Bool, true, false, not, ◌&&◌, ◌||◌, eqb, leb, Option, Some, None, is_none, refl, sym, ap, ◌∙◌}
use Rattle.bsc_octets.specs.declared.vmac.Vmac.{Vmac}
use Rattle.bsc_octets.specs.Addresses.{broadcast, same_vmac}
use Rattle.bsc_octets.specs.Functions.{is_response}
use Rattle.bsc_checks.specs.declared.phase.Phase.{Phase}
use Rattle.bsc_checks.specs.declared.phase.Phase.TheVariants.{AwaitingRequest, AwaitingAccept, Connected, Disconnecting}
use Rattle.bsc_checks.specs.declared.place.Place.{Place}
use Rattle.bsc_checks.specs.declared.place.Place.TheVariants.{HubPort, NodeHub, NodeDirect}
use Rattle.bsc_checks.specs.Places.{phase_of, IsUnicast, IsOfConnection, LacksSender, IsForAnother, IsFromAnother, IsNotFor, HasWrongAddresses, IsInPlaceConnected, IsInPlaceIn, IsInPlace}
use Rattle.bsc_checks.specs.Naks.{IsResponse}
use Rattle.bsc_checks.specs.PlaceTests.{is_unicast, lacks_sender, is_for_another, is_peer, is_from_another, is_not_for, has_wrong_addresses, is_of_life, is_in_place_connected}
use Rattle.bsc_checks.specs.PlaceTests.{is_in_place_in, is_connected, is_in_place}
use Rattle.bsc_checks.proofs.Reflecting.{Reflects, also, three, either, never, alike, equal, at_most, one_address, absent, present}

-- ---- the addresses

-- one address where there is one
some_is : (v w : Vmac) → ◌≡◌ {A = Option Vmac} (Some v) (Some w) → v ≡ w
some_is v w e = cc

other : (v w : Vmac) → Reflects (v ≢ w) (not (same_vmac v w))
other v w = never (v ≡ w) (same_vmac v w) (one_address v w)

pub unicast : (dest : Option Vmac) → Reflects (IsUnicast dest) (is_unicast dest)
unicast None = record { holds = (λ e same. absurd cc); back = (λ h. refl) }
unicast (Some v) = alike (v ≢ broadcast) (IsUnicast (Some v)) (not (same_vmac v broadcast)) (λ differ same. differ (some_is v broadcast same)) (λ h same. h (ap (λ (w : Vmac). Some w) same))
    (other v broadcast)

of_connection : (f : ℕ) → Reflects (IsOfConnection f) (leb 6 f && leb f 11)
of_connection f = also (6 ≤ f) (f ≤ 11) (leb 6 f) (leb f 11) (at_most 6 f) (at_most f 11)

lacking : (f : ℕ) (origin : Option Vmac) → Reflects (LacksSender f origin) (lacks_sender f origin)
lacking f origin =
    three (origin ≡ None) (f ≢ 0) (IsOfConnection f → ⊥) (is_none origin) (not (eqb f 0)) (not (leb 6 f && leb f 11)) (absent origin) (never (f ≡ 0) (eqb f 0) (equal f 0))
    (never (IsOfConnection f) (leb 6 f && leb f 11) (of_connection f))

for_another : (own : Vmac) (dest : Option Vmac) → Reflects (IsForAnother own dest) (is_for_another own dest)
for_another own None = record { holds = (λ e. absurd cc); back = (λ h. let none : ◌≡◌ {A = Option Vmac} None (Some h.0) = h.1 in absurd cc) }
for_another own (Some v) =
    let both = also (v ≢ broadcast) (v ≢ own) (not (same_vmac v broadcast)) (not (same_vmac v own)) (other v broadcast) (other v own) in
    record {
      holds = (λ e. let h = both.holds e in (v, refl, h.0, h.1));
      back = (λ h. let is : v ≡ h.0 = some_is v h.0 h.1 in both.back ((λ same. h.2 (sym is ∙ same)), (λ same. h.3 (sym is ∙ same))));
    }

peers : (peer : Option Vmac) (v : Vmac) → Reflects (peer ≡ Some v) (is_peer peer v)
peers None v = record { holds = (λ e. absurd cc); back = (λ h. absurd cc) }
peers (Some w) v = alike (w ≡ v) (◌≡◌ {A = Option Vmac} (Some w) (Some v)) (same_vmac w v) (λ e. ap (λ (x : Vmac). Some x) e) (λ e. some_is w v e) (one_address w v)

from_another : (peer origin : Option Vmac) → Reflects (IsFromAnother peer origin) (is_from_another peer origin)
from_another peer None = record { holds = (λ e. absurd cc); back = (λ h. let none : ◌≡◌ {A = Option Vmac} None (Some h.0) = h.1 in absurd cc) }
from_another peer (Some v) =
    let differ = never (peer ≡ Some v) (is_peer peer v) (peers peer v) in
    record {
      holds = (λ e. (v, refl, differ.holds e));
      back = (λ h. let is : v ≡ h.0 = some_is v h.0 h.1 in differ.back (λ same. h.2 (same ∙ ap (λ (x : Vmac). Some x) is)));
    }

not_for : (own : Vmac) (dest : Option Vmac) → Reflects (IsNotFor own dest) (is_not_for own dest)
not_for own None = record { holds = (λ e. absurd cc); back = (λ h. let none : ◌≡◌ {A = Option Vmac} None (Some h.0) = h.1 in absurd cc) }
not_for own (Some v) =
    let differ = other v own in
    record { holds = (λ e. (v, refl, differ.holds e)); back = (λ h. let is : v ≡ h.0 = some_is v h.0 h.1 in differ.back (λ same. h.2 (sym is ∙ same))) }

pub wrong_addresses : (place : Place) (f : ℕ) (origin dest : Option Vmac) → Reflects (HasWrongAddresses place f origin dest) (has_wrong_addresses place f origin dest)
wrong_addresses (HubPort phase) f origin dest = present origin
wrong_addresses (NodeHub own phase) f origin dest = either (LacksSender f origin) (IsForAnother own dest) (lacks_sender f origin) (is_for_another own dest) (lacking f origin) (for_another own dest)
wrong_addresses (NodeDirect own peer phase) f origin dest = either (IsFromAnother peer origin) (IsNotFor own dest) (is_from_another peer origin) (is_not_for own dest)
    (from_another peer origin) (not_for own dest)

-- ---- the function

one_of_two : (f a b : ℕ) → Reflects ((f ≡ a) ⊎ (f ≡ b)) (eqb f a || eqb f b)
one_of_two f a b = either (f ≡ a) (f ≡ b) (eqb f a) (eqb f b) (equal f a) (equal f b)

one_of_three : (f a b c : ℕ) → Reflects ((f ≡ a) ⊎ (f ≡ b) ⊎ (f ≡ c)) (eqb f a || (eqb f b || eqb f c))
one_of_three f a b c = either (f ≡ a) ((f ≡ b) ⊎ (f ≡ c)) (eqb f a) (eqb f b || eqb f c) (equal f a) (one_of_two f b c)

pub response : (f : ℕ) → Reflects (IsResponse f) (is_response f)
response f = record { holds = (λ e. e); back = (λ h. h) }

life : (f : ℕ) → Reflects ((f ≡ 0x08) ⊎ (f ≡ 0x0A) ⊎ (f ≡ 0x0B)) (is_of_life f)
life f = one_of_three f 8 10 11

connected : (place : Place) (f : ℕ) (origin : Option Vmac) → Reflects (IsInPlaceConnected place f origin) (is_in_place_connected place f origin)
connected (HubPort phase) f origin = one_of_two f 8 10
connected (NodeHub own phase) f origin =
    either (f ≤ 5) (((f ≡ 0x08) ⊎ (f ≡ 0x0A) ⊎ (f ≡ 0x0B)) × (origin ≡ None)) (leb f 5) (is_of_life f && is_none origin) (at_most f 5)
    (also ((f ≡ 0x08) ⊎ (f ≡ 0x0A) ⊎ (f ≡ 0x0B)) (origin ≡ None) (is_of_life f) (is_none origin) (life f) (absent origin))
connected (NodeDirect own peer phase) f origin = either (f ≤ 5) ((f ≡ 0x08) ⊎ (f ≡ 0x0A) ⊎ (f ≡ 0x0B)) (leb f 5) (is_of_life f) (at_most f 5) (life f)

in_phase : (phase : Phase) (place : Place) (f : ℕ) (origin : Option Vmac) → Reflects (IsInPlaceIn phase place f origin) (is_in_place_in phase place f origin)
in_phase AwaitingRequest place f origin = equal f 6
in_phase AwaitingAccept place f origin = one_of_two f 0 7
in_phase Connected place f origin = connected place f origin
in_phase Disconnecting place f origin = one_of_two f 0 9

made : (phase : Phase) → Reflects (phase ≡ Connected) (is_connected phase)
made AwaitingRequest = record { holds = (λ e. absurd cc); back = (λ h. absurd cc) }
made AwaitingAccept = record { holds = (λ e. absurd cc); back = (λ h. absurd cc) }
made Connected = record { holds = (λ e. refl); back = (λ h. refl) }
made Disconnecting = record { holds = (λ e. absurd cc); back = (λ h. absurd cc) }

pub in_place : (carried : Bool) (place : Place) (f : ℕ) (origin : Option Vmac) → Reflects (IsInPlace carried place f origin) (is_in_place carried place f origin)
in_place true place f origin = made (phase_of place)
in_place false place f origin = in_phase (phase_of place) place f origin
