-- What a line of a network's script breaks, by its words.
use Rattle.std.specs.Prelude.{ℕ, if◌then◌else◌, List, [], ◌∷◌, codes, Option, Some, None}
use Rattle.bsc_text.specs.Grammar.{number_of}
use Rattle.bsc_text.specs.Lines.{same_octets}
use Rattle.bsc_diagnostics.specs.Broken.{device_rule, number_rule, unless, vmac_rule, within_rule}
use Rattle.bsc_diagnostics.specs.Forms.{Broken, by_form, first, identity_rules, missing, more, octets_broken, of_word, too_few, word, wrong}

-- the number of a hub, a node or a link
abbrev pub index_rule : List ℕ → Option (List ℕ)
index_rule it = within_rule 0 4294967295 (codes "is no number from 0 to 4294967295") (number_of it)

-- a line of one such number
abbrev pub of_index : List ℕ → List (List ℕ) → Option Broken
of_index form words = by_form form (index_rule ∷ []) words

-- a hub line: an identity
abbrev pub hub_broken : List (List ℕ) → Option Broken
hub_broken (vmac ∷ device ∷ max_bvlc ∷ max_npdu ∷ words) =
    first (by_form (codes "hub VMAC UUID MAXB MAXN") [] words) (wrong identity_rules (vmac ∷ device ∷ max_bvlc ∷ max_npdu ∷ []))
hub_broken words = Some (missing (codes "hub VMAC UUID MAXB MAXN"))

-- the word behind a node's device
abbrev pub direct_rule : List ℕ → Option (List ℕ)
direct_rule it = unless (same_octets it (codes "direct")) (codes "isn't `direct`, which alone may stand behind the device")

-- what may stand behind a node's device: `direct`, and nothing behind it
abbrev pub direct_broken : List (List ℕ) → Option Broken
direct_broken [] = None
direct_broken (it ∷ words) =
    first (of_word it (direct_rule it)) (by_form (codes "node VMAC UUID [direct]") [] words)

abbrev pub node_broken : List (List ℕ) → Option Broken
node_broken (vmac ∷ device ∷ words) = first (wrong (vmac_rule ∷ device_rule ∷ []) (vmac ∷ device ∷ [])) (direct_broken words)
node_broken words = Some (missing (codes "node VMAC UUID [direct]"))

-- what the user of a node wants of a VMAC
abbrev pub asking_broken : List ℕ → List (List ℕ) → Option Broken
asking_broken form [] = Some (missing form)
asking_broken form (node ∷ words) = first (of_word node (index_rule node)) (by_form form (vmac_rule ∷ []) words)

-- what is sent: a node, a VMAC, and octets
abbrev pub send_broken : List (List ℕ) → Option Broken
send_broken (node ∷ dest ∷ words) = first (wrong (index_rule ∷ vmac_rule ∷ []) (node ∷ dest ∷ [])) (octets_broken words)
send_broken words = Some (missing (codes "send K VMAC OCTETS"))

-- a step of a link or of a hub, by its first word and those behind it
abbrev pub step_broken : List ℕ → List (List ℕ) → Option Broken
step_broken kind words =
    if same_octets kind (codes "up") then of_index (codes "up L") words
    else if same_octets kind (codes "down") then of_index (codes "down L") words
    else if same_octets kind (codes "take") then of_index (codes "take L") words
    else if same_octets kind (codes "lose") then of_index (codes "lose L") words
    else if same_octets kind (codes "stop") then of_index (codes "stop J") words
    else Some (word kind (codes
    "begins no line: hub, node, at, start, tick, send, resolve, direct, solicit, finish, up, down, take, lose and stop do"))

-- a step of a node, or another
abbrev pub event_broken : List ℕ → List (List ℕ) → Option Broken
event_broken kind words =
    if same_octets kind (codes "start") then of_index (codes "start K") words
    else if same_octets kind (codes "tick") then of_index (codes "tick K") words
    else if same_octets kind (codes "finish") then of_index (codes "finish K") words
    else if same_octets kind (codes "resolve") then asking_broken (codes "resolve K VMAC") words
    else if same_octets kind (codes "direct") then asking_broken (codes "direct K VMAC") words
    else if same_octets kind (codes "solicit") then asking_broken (codes "solicit K VMAC") words
    else if same_octets kind (codes "send") then send_broken words
    else step_broken kind words

-- a line, by its words
abbrev pub network_broken : List (List ℕ) → Option Broken
network_broken [] = None
network_broken (kind ∷ words) =
    if same_octets kind (codes "hub") then hub_broken words
    else if same_octets kind (codes "node") then node_broken words
    else if same_octets kind (codes "at") then by_form (codes "at MS") (number_rule ∷ []) words
    else event_broken kind words
