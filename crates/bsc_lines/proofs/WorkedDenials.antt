-- Lines of denials, worked by hand.
-- No clause needs it: worked examples.
use Rattle.std.proofs.Common.{◌≡◌, [], ◌∷◌, codes, refl}
use Rattle.bsc_octets.specs.declared.vmac.Vmac.{Vmac}
use Rattle.bsc_lines.specs.declared.denial.Denial.TheVariants.{OfConnect, OfPair}
use Rattle.bsc_lines.specs.Denials.{denial_line}
use Rattle.bsc_lines.proofs.OnLiterals.{lines_on_literals}

abbrev node_a : Vmac
node_a = record { 0 = 2 ∷ 0 ∷ 0 ∷ 0 ∷ 0 ∷ 0x0A ∷ [] }

abbrev node_c : Vmac
node_c = record { 0 = 2 ∷ 0 ∷ 0 ∷ 0 ∷ 0 ∷ 0x0C ∷ [] }

abbrev node_d : Vmac
node_d = record { 0 = 2 ∷ 0 ∷ 0 ∷ 0 ∷ 0 ∷ 0x0D ∷ [] }

a_pair : denial_line (OfPair 1 node_a node_c) ≡ codes "deny 1 from 02000000000A to 02000000000C"
unfolding lines_on_literals
a_pair = refl

a_connect : denial_line (OfConnect node_d) ≡ codes "deny 0 connect 02000000000D"
unfolding lines_on_literals
a_connect = refl
