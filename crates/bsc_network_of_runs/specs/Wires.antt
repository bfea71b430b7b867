-- A network whose links tell what they gave and what was put on them.
use Rattle.std.specs.Prelude.{◌≡◌, List, [], Option, Some, None}
use Rattle.bsc_edge.specs.declared.said.Said.{Said}
use Rattle.bsc_node_links.specs.Talks.{AreFirstOf, given_in, put_in}
use Rattle.bsc_network_of_runs.specs.Networks.{AreLinks, Fit, HasTraffic, LinkEnd, Network, OtherEnd, Traffic}

-- What is told at each end.
abbrev pub Talks : Type 0
Talks = LinkEnd → List Said

-- It is told that each end gave what the network says, and that the first of what the network says is put there was put.
pub record AreTold (N : Network) (told : Talks) : Type 0 where
  pub gave : (x : LinkEnd) (t : Traffic) → HasTraffic N x t → given_in (told x) ≡ t.given
  pub took : (x : LinkEnd) (t : Traffic) → HasTraffic N x t → AreFirstOf (put_in (told x)) t.put

-- An end with no other end in the network is told to have given nothing, and else the first of what is told to be put at that.
abbrev pub IsCarried : Network → Talks → Option LinkEnd → LinkEnd → Type 0
IsCarried N told None x = given_in (told x) ≡ []
IsCarried N told (Some y) x = (u : Traffic) × HasTraffic N y u × AreFirstOf (given_in (told x)) (put_in (told y))

-- Wires: ends fit, two ends are each other's, and what is told at two ends fits.
pub record AreWires (N : Network) (other : OtherEnd) (told : Talks) : Type 0 where
  pub fit : (x y : LinkEnd) → other x ≡ Some y → Fit x y
  pub both : (x y : LinkEnd) → other x ≡ Some y → other y ≡ Some x
  pub carry : (x : LinkEnd) (t : Traffic) → HasTraffic N x t → IsCarried N told (other x) x

-- Wires whose ends tell what the network says of them are its links.
abbrev pub WiresAreLinks : Type 0
WiresAreLinks = (N : Network) (other : OtherEnd) (told : Talks) → AreTold N told → AreWires N other told → AreLinks N other
