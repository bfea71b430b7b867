-- What a line of a script says.
use Rattle.std.specs.Prelude.{ℕ, ◌*◌, nat_le, Bool, not, ◌&&◌, if◌then◌else◌, List, [], ◌∷◌, codes, Option, Some, None}
use Rattle.std.specs.Option.{option_map}
use Rattle.bsc_octets.specs.declared.bounds.TheConstants.{LEAST_BVLC}
use Rattle.bsc_octets.specs.declared.vmac.Vmac.{Vmac}
use Rattle.bsc_octets.specs.declared.device_id.DeviceId.{DeviceId}
use Rattle.bsc_octets.specs.Addresses.{same_vmac, zero_vmac, broadcast}
use Rattle.bsc_history.specs.declared.limits.About.{About}
use Rattle.bsc_history.specs.declared.limits.TheConstants.{MOST_CALLERS, MOST_CALLS, MOST_OCTETS, MOST_OUTBOX, MOST_ROWS}
use Rattle.bsc_script.specs.declared.line.Line.{Line}
use Rattle.bsc_script.specs.declared.line.Line.TheVariants.{Nothing, Hub, Open, In, Text, Drop, Hold, Free, At, Stop, Counts}
use Rattle.bsc_text.specs.Lines.{same_octets}
use Rattle.bsc_text.specs.Words.{words_of, begins_comment}
use Rattle.bsc_text.specs.Grammar.{number_of, vmac_of_word, maximum_of_word, device_of_word, octets_of_words, is_name}

-- ---- the hub line

-- A number lies within two others.
abbrev pub lies_within : ℕ → ℕ → ℕ → Bool
lies_within low n high = nat_le low n && nat_le n high

-- What a hub may be: a VMAC that names one node; a longest message and a longest NPDU of no fewer octets than they may have
-- and at most 65,535; at least 1 row, outboxes of 2 frames and 1 call, and no more of each than a hub may have; and no more
-- octets in all outboxes than they may hold.
abbrev pub may_be_hub : Vmac → ℕ → ℕ → ℕ → ℕ → ℕ → Bool
may_be_hub v max_bvlc max_npdu rows outbox calls =
    not (same_vmac v zero_vmac) && not (same_vmac v broadcast)
    && lies_within LEAST_BVLC max_bvlc 65535 && lies_within 1 max_npdu 65535
    && lies_within 1 rows MOST_ROWS && lies_within 2 outbox MOST_OUTBOX && lies_within 1 calls MOST_CALLS
    && nat_le (rows * outbox * max_bvlc) MOST_OCTETS

-- a hub of these, with the most callers
abbrev pub hub_of : Vmac → DeviceId → ℕ → ℕ → ℕ → ℕ → ℕ → About
hub_of v u max_bvlc max_npdu rows outbox calls = record {
  hub = record { vmac = v; device = u; max_bvlc = max_bvlc; max_npdu = max_npdu };
  limits = record { rows = rows; outbox = outbox; calls = calls; callers = MOST_CALLERS };
}

-- a hub line, where each of its words is what it should be
abbrev pub hub_line : Option Vmac → Option DeviceId → Option ℕ → Option ℕ → Option ℕ → Option ℕ → Option ℕ → Option Line
hub_line (Some v) (Some u) (Some max_bvlc) (Some max_npdu) (Some rows) (Some outbox) (Some calls) =
    if may_be_hub v max_bvlc max_npdu rows outbox calls
    then Some (Hub (hub_of v u max_bvlc max_npdu rows outbox calls)) else None
hub_line v u max_bvlc max_npdu rows outbox calls = None

-- how many calls the last words of a hub line say: one number, or none, which is 2^52
abbrev pub calls_of_words : List (List ℕ) → Option ℕ
calls_of_words [] = Some MOST_CALLS
calls_of_words (calls ∷ []) = number_of calls
calls_of_words ws = None

-- A hub line, by the six or seven words after its first: VMAC UUID MAXB MAXN ROWS OUTBOX, and CALLS.
abbrev pub hub_line_of_words : List (List ℕ) → Option Line
hub_line_of_words (v ∷ u ∷ max_bvlc ∷ max_npdu ∷ rows ∷ outbox ∷ ws) =
    hub_line (vmac_of_word v) (device_of_word u) (maximum_of_word max_bvlc) (maximum_of_word max_npdu)
    (number_of rows) (number_of outbox) (calls_of_words ws)
hub_line_of_words ws = None

-- ---- the other lines

-- an open line, by the words after its first: a name alone
abbrev pub open_line_of_words : List (List ℕ) → Option Line
open_line_of_words (name ∷ []) = if is_name name then Some (Open name) else None
open_line_of_words ws = None

-- a line of a message that comes in, where its octets are octets
abbrev pub in_line : List ℕ → Option (List ℕ) → Option Line
in_line name (Some message) = Some (In name message)
in_line name None = None

-- a line of a message, by the words after its first: a name, and then octets
abbrev pub in_line_of_words : List (List ℕ) → Option Line
in_line_of_words (name ∷ ws) = in_line name (octets_of_words ws)
in_line_of_words [] = None

-- a line of one word after its first, which is a name; whether it is open is looked at later
abbrev pub name_line_of_words : (List ℕ → Line) → List (List ℕ) → Option Line
name_line_of_words line (name ∷ []) = Some (line name)
name_line_of_words line ws = None

-- a line of one word after its first, which is a time in milliseconds; whether the clock may be set so is looked at later
abbrev pub at_line_of_words : List (List ℕ) → Option Line
at_line_of_words (ms ∷ []) = option_map At (number_of ms)
at_line_of_words ws = None

-- a line of no words after its first
abbrev pub bare_line_of_words : Line → List (List ℕ) → Option Line
bare_line_of_words line [] = Some line
bare_line_of_words line ws = None

-- a line of the clock or of the hub alone, by its first word and those after it
abbrev pub hubs_line_of_words : List ℕ → List (List ℕ) → Option Line
hubs_line_of_words w ws =
    if same_octets w (codes "at") then at_line_of_words ws
    else if same_octets w (codes "stop") then bare_line_of_words Stop ws
    else if same_octets w (codes "counts") then bare_line_of_words Counts ws
    else None

-- a line of a name that closes, is held or is freed, or another, by its first word and those after it
abbrev pub other_line_of_words : List ℕ → List (List ℕ) → Option Line
other_line_of_words w ws =
    if same_octets w (codes "text") then name_line_of_words Text ws
    else if same_octets w (codes "drop") then name_line_of_words Drop ws
    else if same_octets w (codes "hold") then name_line_of_words Hold ws
    else if same_octets w (codes "free") then name_line_of_words Free ws
    else hubs_line_of_words w ws

-- what a line says, by its words
abbrev pub line_of_words : List (List ℕ) → Option Line
line_of_words [] = Some Nothing
line_of_words (w ∷ ws) =
    if begins_comment w then Some Nothing
    else if same_octets w (codes "hub") then hub_line_of_words ws
    else if same_octets w (codes "open") then open_line_of_words ws
    else if same_octets w (codes "in") then in_line_of_words ws
    else other_line_of_words w ws

-- What a line says; None where it has no form of a line. A line with no words, or with a comment, says nothing.
unfoldable pub line_of : List ℕ → Option Line
line_of l = line_of_words (words_of l)
