-- Lemmas that crates above cite too.
-- It serves clauses of functions of `laws`.
use Rattle.bsc_network.specs.NodeSides.{other_way}
use Rattle.bsc_network.specs.Worlds.{Link}
use Rattle.bsc_network.specs.declared.way.Way.{Way}
use Rattle.bsc_network.specs.declared.way.Way.TheVariants.{Up, Down}
use Rattle.bsc_network_laws.specs.Ends.{receiver, putter}
use Rattle.std.proofs.Common.{◌≡◌, refl}

pub puts-other : (way : Way) (x : Link) → putter (other_way way) x ≡ receiver way x
puts-other Up x = refl
puts-other Down x = refl
