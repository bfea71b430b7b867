-- How the links of a node that was run were used.
use Rattle.std.specs.Prelude.{ℕ, List, Option, IfErr, IfOk}
use Rattle.bsc_edge.specs.declared.said.Said.{Said}
use Rattle.bsc_node.specs.declared.node_event.NodeEvent.{NodeEvent}
use Rattle.bsc_node.specs.Logs.{Log}
use Rattle.bsc_node_run.specs.Worlds.{Admitting}
use Rattle.bsc_node_links.specs.Stopped.{HasStopped}
use Rattle.bsc_node_links.specs.Telling.{CameFresh, EachTells}
use Rattle.bsc_node_links.specs.Using.{LinksAreUsed, Outside}
use Rattle.bsc_node_command.specs.Comes.{NodeAsked, NodeRan, NodeWorld, made_by}

-- what of a world is outside the run of a node
abbrev pub outside_of : {L W : Type 0} → NodeWorld L W → Admitting L → Option (List ℕ) → Outside L
outside_of world door written = record { dialled = world.dialled; written = written; door = door; readings = world.readings }

-- Where the run of a node came to its end, its links were used as the log of that run says.
abbrev pub RanNodesUseLinks : {L W : Type 0} → (L → Option (List Said)) → (NodeEvent → W → W → Type 0) → Type 0
RanNodesUseLinks {L} {W} talk drawn = (asked : NodeAsked) (before after : NodeWorld L W) (s : ℕ) (x : NodeRan talk drawn asked before after s)
    → IfOk x.end (λ e. LinksAreUsed talk (outside_of before x.door before.written) (outside_of after after.door x.written) x.last)

-- Where a fault stopped it, it has a log: that of a node to which events came, and its links were used as that says.
abbrev pub StoppedNodesUseLinks : {L W : Type 0} → (L → Option (List Said)) → (NodeEvent → W → W → Type 0) → Type 0
StoppedNodesUseLinks {L} {W} talk drawn = (asked : NodeAsked) (before after : NodeWorld L W) (s : ℕ) (x : NodeRan talk drawn asked before after s)
    → IfErr x.end (λ halt. (M : Log) × HasStopped talk (made_by asked.settings) x.lines (outside_of before x.door before.written) (outside_of after after.door x.written) M)

-- .. and where each link that came had told nothing when it came, what each tells at last is what such a log says of it.
abbrev pub StoppedNodesTell : {L W : Type 0} → (L → Option (List Said)) → (NodeEvent → W → W → Type 0) → Type 0
StoppedNodesTell {L} {W} talk drawn = (asked : NodeAsked) (before after : NodeWorld L W) (s : ℕ) (x : NodeRan talk drawn asked before after s)
    → CameFresh talk after.dialled.came → CameFresh talk after.door.came
    → IfErr x.end (λ halt. (M : Log) × (r : HasStopped talk (made_by asked.settings) x.lines (outside_of before x.door before.written) (outside_of after after.door x.written) M)
    × EachTells talk M r.links.links)

-- Where it came to its end, and each link that came from dialer and acceptor had told nothing when it came, what each tells at last is
-- what that log says of it.
abbrev pub RanNodesTell : {L W : Type 0} → (L → Option (List Said)) → (NodeEvent → W → W → Type 0) → Type 0
RanNodesTell {L} {W} talk drawn = (asked : NodeAsked) (before after : NodeWorld L W) (s : ℕ) (x : NodeRan talk drawn asked before after s)
    → CameFresh talk after.dialled.came → CameFresh talk after.door.came
    → IfOk x.end (λ e. (u : LinksAreUsed talk (outside_of before x.door before.written) (outside_of after after.door x.written) x.last) × EachTells talk x.last u.links)
