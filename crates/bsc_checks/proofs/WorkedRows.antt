-- Messages written out in octets, with what the definitions make of them.
-- No clause needs it: worked examples.
use Rattle.std.proofs.Common.{◌≡◌, ℕ, true, false, [], ◌∷◌, Option, Some, None, refl, arith}
use Rattle.bsc_octets.specs.declared.vmac.Vmac.{Vmac}
use Rattle.bsc_options.specs.Spelling.{marker_of}
use Rattle.bsc_frame.specs.declared.check.Check.TheVariants.{C1, C2, C3, C4, C5, C10b, C11, C13}
use Rattle.bsc_frame.specs.Spelling.{spelling}
use Rattle.bsc_frame.proofs.First.{first_here, first_after}
use Rattle.bsc_checks.specs.declared.phase.Phase.TheVariants.{Connected}
use Rattle.bsc_checks.specs.declared.place.Place.{Place}
use Rattle.bsc_checks.specs.declared.place.Place.TheVariants.{HubPort, NodeHub}
use Rattle.bsc_checks.specs.declared.verdict.Verdict.TheVariants.{Silent}
use Rattle.bsc_checks.specs.Places.{origin_in, dest_in, is_to_carry}
use Rattle.bsc_checks.specs.Table.{Fails, checks_of, code_of}
use Rattle.bsc_checks.specs.Naks.{nak_to}
use Rattle.bsc_checks.specs.Verdicts.{Judged}

abbrev node_a : Vmac
node_a = record { 0 = 0x02 ∷ 0 ∷ 0 ∷ 0 ∷ 0 ∷ 0x0A ∷ [] }

abbrev node_b : Vmac
node_b = record { 0 = 0x02 ∷ 0 ∷ 0 ∷ 0 ∷ 0 ∷ 0x0B ∷ [] }

abbrev port : Place
port = HubPort Connected

abbrev node : Place
node = NodeHub node_b Connected

-- ---- verdicts

-- two octets are too few, and nothing is answered
cut_short : Judged (0x01 ∷ 0x04 ∷ []) port 1600 (Silent C1)
cut_short = (first_here (Fails (0x01 ∷ 0x04 ∷ []) port 1600) C1 _ (omega arith), λ code answered. let no : ◌≡◌ {A = Option ℕ} None (Some code) = answered.code_is in absurd cc)

-- no octets at all are as few
nothing : Judged [] port 1600 (Silent C1)
nothing = (first_here (Fails [] port 1600) C1 _ (omega arith), λ code answered. let no : ◌≡◌ {A = Option ℕ} None (Some code) = answered.code_is in absurd cc)

-- an octet more than the place takes
too_long : Judged (0x0A ∷ 0 ∷ 0 ∷ 5 ∷ 0xAA ∷ []) port 4 (Silent C2)
too_long =
    let fails = Fails (0x0A ∷ 0 ∷ 0 ∷ 5 ∷ 0xAA ∷ []) port 4 in
    (first_after fails C1 _ C2 (λ short. absurd (omega arith)) (first_here fails C2 _ (omega arith)), λ code answered. let no : ◌≡◌ {A = Option ℕ} None (Some code) = answered.code_is in absurd cc)

-- ---- which checks are made

-- a message for another node is to be carried on, and its head and its place alone are looked at
for_another : checks_of port (0x0D ∷ 0x04 ∷ 0 ∷ 9 ∷ 0x02 ∷ 0 ∷ 0 ∷ 0 ∷ 0 ∷ 0x0B ∷ []) ≡ C1 ∷ C2 ∷ C3 ∷ C4 ∷ C5 ∷ C13 ∷ []
for_another = refl

-- one for the hub is not
for_the_hub : is_to_carry port (0x0D ∷ 0 ∷ 0 ∷ 9 ∷ []) ≡ false
for_the_hub = refl

-- nor is one that a node has from its hub
at_a_node : is_to_carry node (0x01 ∷ 0x0C ∷ 0 ∷ 2 ∷ []) ≡ false
at_a_node = refl

-- ---- addresses

from_a : origin_in (0x01 ∷ 0x0C ∷ 0 ∷ 2 ∷ 0x02 ∷ 0 ∷ 0 ∷ 0 ∷ 0 ∷ 0x0A ∷ 0x02 ∷ 0 ∷ 0 ∷ 0 ∷ 0 ∷ 0x0B ∷ 1 ∷ []) ≡ Some node_a
from_a = refl

to_b : dest_in (0x01 ∷ 0x0C ∷ 0 ∷ 2 ∷ 0x02 ∷ 0 ∷ 0 ∷ 0 ∷ 0 ∷ 0x0A ∷ 0x02 ∷ 0 ∷ 0 ∷ 0 ∷ 0 ∷ 0x0B ∷ 1 ∷ []) ≡ Some node_b
to_b = refl

-- ---- NAKs

-- an octet behind a Heartbeat-Request
long_heartbeat : spelling (nak_to (0x0A ∷ 0 ∷ 0 ∷ 5 ∷ 0xAA ∷ []) port 0 150) ≡ 0 ∷ 0 ∷ 0 ∷ 5 ∷ 0x0A ∷ 1 ∷ 0 ∷ 0 ∷ 7 ∷ 0 ∷ 0x96 ∷ []
long_heartbeat = refl

-- a proprietary function at the hub
proprietary : spelling (nak_to (0x0C ∷ 0 ∷ 0 ∷ 3 ∷ 0 ∷ 0 ∷ 1 ∷ []) port 0 144) ≡ 0 ∷ 0 ∷ 0 ∷ 3 ∷ 0x0C ∷ 1 ∷ 0 ∷ 0 ∷ 7 ∷ 0 ∷ 0x90 ∷ []
proprietary = refl

-- an option that a node does not understand: the NAK goes to the sender, with the marker of that option
option_refused : spelling (nak_to (0x01 ∷ 0x0A ∷ 0 ∷ 7 ∷ 0x02 ∷ 0 ∷ 0 ∷ 0 ∷ 0 ∷ 0x0A ∷ 0x42 ∷ 1 ∷ 0 ∷ []) node 0x42 146)
    ≡ 0 ∷ 0x04 ∷ 0 ∷ 7 ∷ 0x02 ∷ 0 ∷ 0 ∷ 0 ∷ 0 ∷ 0x0A ∷ 1 ∷ 1 ∷ 0x42 ∷ 0 ∷ 7 ∷ 0 ∷ 0x92 ∷ []
option_refused = refl

marker : marker_of false (record { must = true; kind = 2; content = None }) ≡ 0x42
marker = refl

-- ---- codes

no_code : code_of C4 ≡ None
no_code = refl

cut_payload : code_of C10b ≡ Some 147
cut_payload = refl

out_of_range : code_of C11 ≡ Some 80
out_of_range = refl
