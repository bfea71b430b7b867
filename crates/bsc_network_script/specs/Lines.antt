-- What a line of a network's script says.
use Rattle.std.specs.Prelude.{ℕ, nat_le, Bool, true, false, if◌then◌else◌, List, [], ◌∷◌, codes, Option, Some, None}
use Rattle.std.specs.Option.{option_map}
use Rattle.bsc_octets.specs.declared.vmac.Vmac.{Vmac}
use Rattle.bsc_octets.specs.declared.device_id.DeviceId.{DeviceId}
use Rattle.bsc_text.specs.Lines.{same_octets}
use Rattle.bsc_text.specs.Words.{words_of, begins_comment}
use Rattle.bsc_text.specs.Grammar.{number_of, vmac_of_word, device_of_word, identity_of_words, octets_of_words}
use Rattle.bsc_node.specs.declared.node_event.NodeEvent.{NodeEvent}
use Rattle.bsc_node.specs.declared.node_event.NodeEvent.TheVariants.{Start, Tick, Send, Resolve, DirectTo, Solicit, Finish}
use Rattle.bsc_network.specs.declared.way.Way.TheVariants.{Up, Down}
use Rattle.bsc_network.specs.declared.world_step.WorldStep.{WorldStep}
use Rattle.bsc_network.specs.declared.world_step.WorldStep.TheVariants.{Node as OfNode, Arrive, Lose, Take, Stop}
use Rattle.bsc_network_script.specs.declared.limits.TheConstants.{MAX_BVLC, MAX_NPDU}
use Rattle.bsc_network_script.specs.declared.line.Line.{Line}
use Rattle.bsc_network_script.specs.declared.line.Line.TheVariants.{Nothing, Hub, Node, At, Step}

-- ---- numbers

-- a number, where it is below 2^32
abbrev pub small : Option ℕ → Option ℕ
small (Some n) = if nat_le n 4294967295 then Some n else None
small None = None

-- The number of a hub, a node or a link. None ever has a greater one than 4,095; here it is below 2^32.
abbrev pub index_of : List ℕ → Option ℕ
index_of w = small (number_of w)

-- the number of a hub, a node or a link, which is the only word
abbrev pub only_index : List (List ℕ) → Option ℕ
only_index (n ∷ []) = index_of n
only_index ws = None

-- ---- hubs, nodes and the clock

-- A hub, by the four words after the first: its VMAC, its device, and its maximum lengths of a message and of an NPDU.
abbrev pub hub_line : List (List ℕ) → Option Line
hub_line ws = option_map Hub (identity_of_words ws)

-- a node of these, where each is what it should be; the maximum lengths are the same for all nodes
abbrev pub node_of : Option Vmac → Option DeviceId → Option Bool → Option Line
node_of (Some v) (Some u) (Some direct) = Some (Node (record { vmac = v; device = u; max_bvlc = MAX_BVLC; max_npdu = MAX_NPDU }) direct)
node_of v u direct = None

-- whether a node accepts direct connections, by the last words of its line: `direct`, or none
abbrev pub direct_of_words : List (List ℕ) → Option Bool
direct_of_words [] = Some false
direct_of_words (w ∷ []) = if same_octets w (codes "direct") then Some true else None
direct_of_words ws = None

-- A node, by the words after the first: its VMAC and its device, and `direct` where it accepts direct connections.
abbrev pub node_line : List (List ℕ) → Option Line
node_line (v ∷ u ∷ ws) = node_of (vmac_of_word v) (device_of_word u) (direct_of_words ws)
node_line ws = None

-- A time in milliseconds, which is the only word after the first; whether the clock may be set so is looked at later.
abbrev pub at_line : List (List ℕ) → Option Line
at_line (ms ∷ []) = option_map At (number_of ms)
at_line ws = None

-- ---- events of a node

-- an NPDU is sent, where its destination is a VMAC and its octets are octets
abbrev pub send_to : Option Vmac → Option (List ℕ) → Option NodeEvent
send_to (Some dest) (Some npdu) = Some (Send dest npdu)
send_to dest npdu = None

-- an NPDU is sent, by a destination and then octets
abbrev pub send_event : List (List ℕ) → Option NodeEvent
send_event (dest ∷ ws) = send_to (vmac_of_word dest) (octets_of_words ws)
send_event [] = None

-- a VMAC, which is the only word
abbrev pub only_vmac : List (List ℕ) → Option Vmac
only_vmac (v ∷ []) = vmac_of_word v
only_vmac ws = None

-- an event that names nothing, by its word
abbrev pub bare_event : List ℕ → Option NodeEvent
bare_event w =
    if same_octets w (codes "start") then Some Start
    else if same_octets w (codes "tick") then Some Tick
    else if same_octets w (codes "finish") then Some Finish
    else None

-- the same, where no words follow
abbrev pub bare_event_of : List ℕ → List (List ℕ) → Option NodeEvent
bare_event_of w [] = bare_event w
bare_event_of w ws = None

-- an event that names a VMAC or nothing
abbrev pub other_event : List ℕ → List (List ℕ) → Option NodeEvent
other_event w ws =
    if same_octets w (codes "resolve") then option_map Resolve (only_vmac ws)
    else if same_octets w (codes "direct") then option_map DirectTo (only_vmac ws)
    else if same_octets w (codes "solicit") then option_map Solicit (only_vmac ws)
    else bare_event_of w ws

-- An event of a node's own, by the first word of its line and those after the node's number: `start`, `tick`, `finish`,
-- `send VMAC OCTETS`, `resolve VMAC`, `direct VMAC` or `solicit VMAC`.
abbrev pub event_of : List ℕ → List (List ℕ) → Option NodeEvent
event_of w ws = if same_octets w (codes "send") then send_event ws else other_event w ws

-- ---- steps

-- an event comes to the node of a number
abbrev pub comes_to : Option ℕ → Option NodeEvent → Option WorldStep
comes_to (Some k) (Some e) = Some (OfNode k e)
comes_to k e = None

-- an event of a node's own, by the first word of its line and those after it: the node's number comes first
abbrev pub node_step : List ℕ → List (List ℕ) → Option WorldStep
node_step w (k ∷ ws) = comes_to (index_of k) (event_of w ws)
node_step w [] = None

-- A step, by the first word of its line and those after it: `up L`, `down L`, `lose L`, `take L` of a link, `stop J` of a hub,
-- or an event of a node's own.
abbrev pub step_of : List ℕ → List (List ℕ) → Option WorldStep
step_of w ws =
    if same_octets w (codes "up") then option_map (λ l. Arrive l Up) (only_index ws)
    else if same_octets w (codes "down") then option_map (λ l. Arrive l Down) (only_index ws)
    else if same_octets w (codes "lose") then option_map Lose (only_index ws)
    else if same_octets w (codes "take") then option_map Take (only_index ws)
    else if same_octets w (codes "stop") then option_map Stop (only_index ws)
    else node_step w ws

-- ---- a line

-- what a line says, by its words
abbrev pub line_of_words : List (List ℕ) → Option Line
line_of_words [] = Some Nothing
line_of_words (w ∷ ws) =
    if begins_comment w then Some Nothing
    else if same_octets w (codes "hub") then hub_line ws
    else if same_octets w (codes "node") then node_line ws
    else if same_octets w (codes "at") then at_line ws
    else option_map Step (step_of w ws)

-- What a line says; None where it has no form of a line. A line with no words, or with a comment, says nothing.
unfoldable pub line_of : List ℕ → Option Line
line_of l = line_of_words (words_of l)
