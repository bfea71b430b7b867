-- What a line of a node's script breaks, by its words.
use Rattle.std.specs.Prelude.{ℕ, if◌then◌else◌, List, [], ◌∷◌, codes, Option, Some, None, ⊤}
use Rattle.bsc_text.specs.Grammar.{vmac_of_word}
use Rattle.bsc_text.specs.Lines.{same_octets}
use Rattle.bsc_text.specs.Words.{begins_comment}
use Rattle.bsc_diagnostics.specs.Broken.{destination_rule, number_rule, one_node_rule}
use Rattle.bsc_diagnostics.specs.declared.diagnostic.Diagnostic.{Diagnostic}
use Rattle.bsc_diagnostics.specs.Forms.{Broken, Says, by_form, first, missing, octets_broken, of_word, word}

-- Something is told exactly where something is broken, and that.
abbrev pub TellsBroken : Option Diagnostic → Option Broken → Type 0
TellsBroken None None = ⊤
TellsBroken (Some told) (Some broken) = Says told broken
TellsBroken told broken = ⊥

-- what is sent: a VMAC that isn't zero, and octets in at least one word
abbrev pub send_broken : List (List ℕ) → Option Broken
send_broken [] = Some (missing (codes "send VMAC OCTETS"))
send_broken (dest ∷ []) = first (of_word dest (destination_rule (vmac_of_word dest))) (Some (missing (codes "send VMAC OCTETS")))
send_broken (dest ∷ it ∷ words) = first (of_word dest (destination_rule (vmac_of_word dest))) (octets_broken (it ∷ words))

-- a line of the VMAC of one node
abbrev pub of_one_node : List ℕ → List (List ℕ) → Option Broken
of_one_node form words = by_form form ((λ it. one_node_rule (vmac_of_word it)) ∷ []) words

-- a line that does something, by its first word and those behind it
abbrev pub request_broken : List ℕ → List (List ℕ) → Option Broken
request_broken kind words =
    if same_octets kind (codes "at") then by_form (codes "at MS") (number_rule ∷ []) words
    else if same_octets kind (codes "send") then send_broken words
    else if same_octets kind (codes "resolve") then of_one_node (codes "resolve VMAC") words
    else if same_octets kind (codes "direct") then of_one_node (codes "direct VMAC") words
    else if same_octets kind (codes "solicit") then of_one_node (codes "solicit VMAC") words
    else if same_octets kind (codes "finish") then by_form (codes "finish") [] words
    else Some (word kind (codes "begins no line: at, send, resolve, direct, solicit and finish do"))

-- a line, by its words: a comment breaks nothing
abbrev pub node_script_broken : List (List ℕ) → Option Broken
node_script_broken [] = None
node_script_broken (kind ∷ words) = if begins_comment kind then None else request_broken kind words
