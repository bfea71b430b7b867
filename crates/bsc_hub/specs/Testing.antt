-- The addresses of the tests.
use Rattle.std.specs.Prelude.{ℕ, [], ◌∷◌}
use Rattle.bsc_octets.specs.declared.vmac.Vmac.{Vmac}

-- the address 02:00:00:00:00 and a last octet
abbrev pub vmac_at : ℕ → Vmac
vmac_at last = record { 0 = 2 ∷ 0 ∷ 0 ∷ 0 ∷ 0 ∷ last ∷ [] }
