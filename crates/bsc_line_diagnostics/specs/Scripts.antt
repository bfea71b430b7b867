-- What a line of a script of one hub breaks, by its words.
use Rattle.std.specs.Prelude.{ℕ, ◌*◌, nat_le, if◌then◌else◌, List, [], ◌∷◌, codes, Option, Some, None}
use Rattle.bsc_history.specs.declared.limits.TheConstants.{MOST_CALLS, MOST_OCTETS, MOST_OUTBOX, MOST_ROWS}
use Rattle.bsc_text.specs.Grammar.{maximum_of_word, number_of}
use Rattle.bsc_text.specs.Lines.{same_octets}
use Rattle.bsc_diagnostics.specs.Broken.{name_rule, number_rule, within_rule}
use Rattle.bsc_diagnostics.specs.Forms.{Broken, any, by_form, first, hub_rules, identity_rules, line, missing, more, octets_broken, of_word, word, wrong}

abbrev pub hub_form : List ℕ
hub_form = codes "hub VMAC UUID MAXB MAXN ROWS OUTBOX [CALLS]"

-- the words behind the six: at most one
abbrev pub calls_broken : List (List ℕ) → Option Broken
calls_broken [] = None
calls_broken (calls ∷ []) = of_word calls (within_rule 1 MOST_CALLS (codes "is no number of calls from 1 to 2^52") (number_of calls))
calls_broken (calls ∷ it ∷ words) = Some (more it hub_form)

-- the product of rows, frames of an outbox and octets of a message, where these are numbers
abbrev pub product_broken : Option ℕ → Option ℕ → Option ℕ → Option Broken
product_broken (Some max_bvlc) (Some rows) (Some outbox) =
    if nat_le (rows * outbox * max_bvlc) MOST_OCTETS then None else Some (line (codes "ROWS times OUTBOX times MAXB is above 2^30"))
product_broken max_bvlc rows outbox = None

-- the rows, and the frames of each outbox
abbrev pub rows_broken : List ℕ → Option Broken
rows_broken rows = of_word rows (within_rule 1 MOST_ROWS (codes "is no number of rows from 1 to 1024") (number_of rows))

abbrev pub outbox_broken : List ℕ → Option Broken
outbox_broken outbox = of_word outbox (within_rule 2 MOST_OUTBOX (codes "is no number of frames of an outbox from 2 to 1024") (number_of outbox))

-- a hub line, by the words behind its first
abbrev pub hub_broken : List (List ℕ) → Option Broken
hub_broken (vmac ∷ device ∷ max_bvlc ∷ max_npdu ∷ rows ∷ outbox ∷ words) =
    first (first (wrong identity_rules (vmac ∷ device ∷ max_bvlc ∷ max_npdu ∷ [])) (wrong hub_rules (vmac ∷ max_bvlc ∷ max_npdu ∷ [])))
    (first (first (rows_broken rows) (outbox_broken outbox))
    (first (calls_broken words) (product_broken (maximum_of_word max_bvlc) (number_of rows) (number_of outbox))))
hub_broken words = Some (missing hub_form)

-- a message that comes in: a name, and then octets
abbrev pub in_broken : List (List ℕ) → Option Broken
in_broken [] = Some (missing (codes "in NAME OCTETS"))
in_broken (name ∷ words) = octets_broken words

-- a line of another kind, by its first word and those behind it
abbrev pub other_broken : List ℕ → List (List ℕ) → Option Broken
other_broken kind words =
    if same_octets kind (codes "text") then by_form (codes "text NAME") (any ∷ []) words
    else if same_octets kind (codes "drop") then by_form (codes "drop NAME") (any ∷ []) words
    else if same_octets kind (codes "hold") then by_form (codes "hold NAME") (any ∷ []) words
    else if same_octets kind (codes "free") then by_form (codes "free NAME") (any ∷ []) words
    else if same_octets kind (codes "at") then by_form (codes "at MS") (number_rule ∷ []) words
    else if same_octets kind (codes "stop") then by_form (codes "stop") [] words
    else if same_octets kind (codes "counts") then by_form (codes "counts") [] words
    else Some (word kind (codes "begins no line: hub, open, in, text, drop, hold, free, at, stop and counts do"))

-- a line, by its words
abbrev pub script_broken : List (List ℕ) → Option Broken
script_broken [] = None
script_broken (kind ∷ words) =
    if same_octets kind (codes "hub") then hub_broken words
    else if same_octets kind (codes "open") then by_form (codes "open NAME") (name_rule ∷ []) words
    else if same_octets kind (codes "in") then in_broken words
    else other_broken kind words
