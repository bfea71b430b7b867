-- What a line of `check` asks: the verdict on a message, at a place in a phase, where messages have a greatest length.
use Rattle.std.specs.Prelude.{ℕ, nat_le, if◌then◌else◌, List, [], ◌∷◌, codes, take, drop, Option, Some, None}
use Rattle.bsc_octets.specs.declared.vmac.Vmac.{Vmac}
use Rattle.bsc_text.specs.Lines.{same_octets}
use Rattle.bsc_text.specs.Words.{words_of, begins_comment}
use Rattle.bsc_text.specs.Grammar.{number_of, vmac_of_word, octets_of_words}
use Rattle.bsc_checks.specs.declared.phase.Phase.{Phase}
use Rattle.bsc_checks.specs.declared.phase.Phase.TheVariants.{AwaitingRequest, AwaitingAccept, Connected, Disconnecting}
use Rattle.bsc_checks.specs.declared.place.Place.{Place}
use Rattle.bsc_checks.specs.declared.place.Place.TheVariants.{HubPort, NodeHub, NodeDirect}
use Rattle.bsc_replay.specs.declared.line.Line.{Line}
use Rattle.bsc_replay.specs.declared.line.Line.TheVariants.{Nothing, Question}

-- ---- PHASE

-- A phase: `request` or `accept`, which are awaited, `connected` or `disconnecting`.
abbrev pub phase_of_word : List ℕ → Option Phase
phase_of_word w =
    if same_octets w (codes "request") then Some AwaitingRequest
    else if same_octets w (codes "accept") then Some AwaitingAccept
    else if same_octets w (codes "connected") then Some Connected
    else if same_octets w (codes "disconnecting") then Some Disconnecting
    else None

-- ---- PLACE

-- a node on its hub connection, where the node's own VMAC is one
abbrev pub at_node : Option Vmac → Phase → Option Place
at_node (Some own) phase = Some (NodeHub own phase)
at_node None phase = None

-- the peer of a direct connection, where its VMAC is one: it is known
abbrev pub known_peer : Option Vmac → Option (Option Vmac)
known_peer (Some peer) = Some (Some peer)
known_peer None = None

-- The peer of a direct connection, in what follows the node's own VMAC: a colon, and a VMAC or `-`.
abbrev pub peer_of_word : List ℕ → Option (Option Vmac)
peer_of_word w =
    if same_octets w (codes ":-") then Some None
    else if same_octets (take 1 w) (codes ":") then known_peer (vmac_of_word (drop 1 w))
    else None

-- a node on a direct connection, where its own VMAC is one and its peer is known or said to be unknown
abbrev pub at_direct : Option Vmac → Option (Option Vmac) → Phase → Option Place
at_direct (Some own) (Some peer) phase = Some (NodeDirect own peer phase)
at_direct own peer phase = None

-- A place in a phase: `hub`, `node:VMAC`, `direct:VMAC:VMAC` with the node's own VMAC first, or `direct:VMAC:-`.
abbrev pub place_of_word : List ℕ → Phase → Option Place
place_of_word w phase =
    if same_octets w (codes "hub") then Some (HubPort phase)
    else if same_octets (take 5 w) (codes "node:") then at_node (vmac_of_word (drop 5 w)) phase
    else if same_octets (take 7 w) (codes "direct:") then
    at_direct (vmac_of_word (take 12 (drop 7 w))) (peer_of_word (drop 12 (drop 7 w))) phase
    else None

-- a place, where the phase is one
abbrev pub place_in : List ℕ → Option Phase → Option Place
place_in w (Some phase) = place_of_word w phase
place_in w None = None

-- ---- MAX

-- a greatest length, where it is at most 65,535
abbrev pub max_in : Option ℕ → Option ℕ
max_in (Some n) = if nat_le n 65535 then Some n else None
max_in None = None

-- A greatest length: a decimal number of at most 65,535.
abbrev pub max_of_word : List ℕ → Option ℕ
max_of_word w = max_in (number_of w)

-- ---- a line

-- a question of these, where each is what it should be
abbrev pub question_of : Option Place → Option ℕ → Option (List ℕ) → Option Line
question_of (Some place) (Some max) (Some message) = Some (Question place max message)
question_of place max message = None

-- A question, by its words: PLACE PHASE MAX and then OCTETS.
abbrev pub question_of_words : List (List ℕ) → Option Line
question_of_words (place ∷ phase ∷ max ∷ ws) =
    question_of (place_in place (phase_of_word phase)) (max_of_word max) (octets_of_words ws)
question_of_words ws = None

-- what a line says, by its words
abbrev pub line_of_words : List (List ℕ) → Option Line
line_of_words [] = Some Nothing
line_of_words (w ∷ ws) = if begins_comment w then Some Nothing else question_of_words (w ∷ ws)

-- What a line says; None where it has no form of a line. A line with no words, or with a comment, says nothing.
unfoldable pub line_of : List ℕ → Option Line
line_of l = line_of_words (words_of l)
