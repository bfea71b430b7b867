-- What a line of a node's script says.
use Rattle.std.specs.Prelude.{ℕ, nat_eq, ◌||◌, if◌then◌else◌, List, [], ◌∷◌, length, codes, Option, Some, None}
use Rattle.std.specs.Option.{option_map}
use Rattle.bsc_octets.specs.declared.vmac.Vmac.{Vmac}
use Rattle.bsc_octets.specs.Addresses.{same_vmac, zero_vmac, broadcast}
use Rattle.bsc_text.specs.Lines.{same_octets}
use Rattle.bsc_text.specs.Words.{words_of, begins_comment}
use Rattle.bsc_text.specs.Grammar.{number_of, vmac_of_word, octets_of_words}
use Rattle.bsc_node.specs.declared.node_event.NodeEvent.{NodeEvent}
use Rattle.bsc_node.specs.declared.node_event.NodeEvent.TheVariants.{Send, Resolve, DirectTo, Solicit, Finish}
use Rattle.bsc_node_run.specs.declared.line.Line.{Line}
use Rattle.bsc_node_run.specs.declared.line.Line.TheVariants.{Nothing, At, Ask}

-- `at MS`, by the words after its first: a number of milliseconds; whether it may stand there is looked at later
abbrev pub at_line : List (List ℕ) → Option Line
at_line (ms ∷ []) = option_map At (number_of ms)
at_line ws = None

-- an NPDU is sent to this VMAC: it isn't zero, but may be the broadcast, and the NPDU has an octet
abbrev pub send_to : Option Vmac → Option (List ℕ) → Option Line
send_to (Some dest) (Some npdu) = if same_vmac dest zero_vmac || nat_eq (length npdu) 0 then None else Some (Ask (Send dest npdu))
send_to dest npdu = None

-- `send VMAC OCTETS`, by the words after its first
abbrev pub send_line : List (List ℕ) → Option Line
send_line (dest ∷ ws) = send_to (vmac_of_word dest) (octets_of_words ws)
send_line [] = None

-- the VMAC of one node: neither zero nor the broadcast
abbrev pub one_node : Option Vmac → Option Vmac
one_node (Some v) = if same_vmac v zero_vmac || same_vmac v broadcast then None else Some v
one_node None = None

-- a line that asks this of one node, by the words after its first: its VMAC alone
abbrev pub node_line : (Vmac → NodeEvent) → List (List ℕ) → Option Line
node_line asks (v ∷ []) = option_map (λ node. Ask (asks node)) (one_node (vmac_of_word v))
node_line asks ws = None

-- `finish`, by the words after it: there are none
abbrev pub finish_line : List (List ℕ) → Option Line
finish_line [] = Some (Ask Finish)
finish_line ws = None

-- `resolve VMAC`, `direct VMAC`, `solicit VMAC` or `finish`, by the first word and those after it
abbrev pub other_line : List ℕ → List (List ℕ) → Option Line
other_line w ws =
    if same_octets w (codes "resolve") then node_line Resolve ws
    else if same_octets w (codes "direct") then node_line DirectTo ws
    else if same_octets w (codes "solicit") then node_line Solicit ws
    else if same_octets w (codes "finish") then finish_line ws
    else None

-- what a line says, by its words
abbrev pub line_of_words : List (List ℕ) → Option Line
line_of_words [] = Some Nothing
line_of_words (w ∷ ws) =
    if begins_comment w then Some Nothing
    else if same_octets w (codes "at") then at_line ws
    else if same_octets w (codes "send") then send_line ws
    else other_line w ws

-- What a line says; None where it has no form of a line. A line with no words, or with a comment, says nothing.
unfoldable pub line_of : List ℕ → Option Line
line_of l = line_of_words (words_of l)
