-- What an answer unfolds to compute what a node does at events that are written out.
-- It serves bsc_network_of_runs, bsc_node_identity and bsc_node_links.
use Rattle.std.specs.Prelude.{⊤}
use Rattle.std.specs.Str.{is_utf8, chars}
use lib.Utf8.{encode}
use Rattle.bsc_direct.specs.Slots.{slots}
use Rattle.bsc_checks.specs.Outcomes.{outcome_of}

unfoldable pub node_on_literals : ⊤
unfolding slots outcome_of is_utf8 chars encode
node_on_literals = tt
