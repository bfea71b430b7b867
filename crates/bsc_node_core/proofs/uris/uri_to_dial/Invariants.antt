use Rattle.bsc_node_core.proofs.Words.{IsRead}
use Rattle.bsc_node_core.proofs.uris.uri_to_dial.Given as goal

abbrev pub invariant-loop-end : goal.invariant-loop-end
invariant-loop-end l = IsRead l.text l.number l.start l.end l.left
