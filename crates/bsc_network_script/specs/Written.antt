-- The lines that are written of a step.
use Rattle.std.specs.Prelude.{ℕ, Bool, true, false, List, ◌++◌, flat_map, codes, decimal}
use Rattle.hex.specs.Hex.{encode_upper}
use Rattle.bsc_node.specs.declared.delivered.Delivered.{Delivered}
use Rattle.bsc_network.specs.declared.target.Target.{Target}
use Rattle.bsc_network.specs.declared.target.Target.TheVariants.{Hub, Node}
use Rattle.bsc_network.specs.declared.dialled.Dialled.{Dialled}
use Rattle.bsc_network.specs.declared.world_delivery.WorldDelivery.{WorldDelivery}

-- a word, and the number of what it names
abbrev pub numbered : List ℕ → ℕ → List ℕ
numbered word n = word ++ decimal n

-- ---- links

-- what a link leads to
abbrev pub target_words : Target → List ℕ
target_words (Hub j) = numbered (codes " hub ") j
target_words (Node k) = numbered (codes " node ") k

-- A link was dialled: its number, the node that dialled it, and what it leads to.
abbrev pub dialled_line : Dialled → List ℕ
dialled_line d = numbered (codes "link ") d.link ++ numbered (codes " ") d.from ++ target_words d.to ++ codes "\n"

-- ---- deliveries

-- to whom an NPDU was sent
abbrev pub reach : Bool → List ℕ
reach true = codes " broadcast "
reach false = codes " unicast "

-- what was delivered: whose it is, to whom it was sent, and its octets
abbrev pub delivered_words : Delivered → List ℕ
delivered_words d = codes " " ++ encode_upper d.from.0 ++ reach d.broadcast ++ encode_upper d.npdu ++ codes "\n"

-- An NPDU was delivered: the node, the place of the step that sent it, and what it is.
abbrev pub delivery_line : WorldDelivery → List ℕ
delivery_line x = decimal x.node ++ numbered (codes " got ") x.sent_at ++ delivered_words x.delivered

-- ---- a step

-- The lines of a step: those of the links that were dialled, and then those of what was delivered.
abbrev pub step_text : List Dialled → List WorldDelivery → List ℕ
step_text dialled delivered = flat_map dialled_line dialled ++ flat_map delivery_line delivered
