-- What a line does, after the lines before it.
use Rattle.std.specs.Prelude.{ℕ, nat_le, nat_lt, Bool, true, false, not, ◌&&◌, if◌then◌else◌, List, [], ◌∷◌, fold, length, codes, Option, Some, None}
use Rattle.std.specs.Option.{option_map}
use Rattle.bsc_history.specs.declared.call.Call.TheVariants.{Stop as StopCall, Count}
use Rattle.bsc_history.specs.declared.counts.Counts.{Counts as CountsOf}
use Rattle.bsc_history.specs.Replies.{is_stopped}
use Rattle.bsc_history.specs.Counting.{counts}
use Rattle.bsc_accept.specs.declared.event.Event.TheVariants.{Tick}
use Rattle.bsc_accept.specs.declared.reason.Reason.TheVariants.{Nothing as NoReason}
use Rattle.bsc_accept.specs.Steps.{closing}
use Rattle.bsc_text.specs.declared.bounds.TheConstants.{LATEST}
use Rattle.bsc_script.specs.declared.bounds.TheConstants.{MOST_NAMES}
use Rattle.bsc_script.specs.declared.line.Line.{Line}
use Rattle.bsc_script.specs.declared.line.Line.TheVariants.{Nothing, Hub, Open, In, Text, Drop, Hold, Free, At, Stop, Counts}
use Rattle.bsc_script.specs.Written.{Said, says, line_text}
use Rattle.bsc_lines.specs.Replies.{counts_words}
use Rattle.bsc_script.specs.States.{State, Peer, new_peer, peer_of, is_open, with_opened, with_peer, with_held}
use Rattle.bsc_script.specs.Calls.{called, is_worn}
use Rattle.bsc_script.specs.Carrying.{ScriptOutcome, quietly, writes, and_then, ends, closes, tells}
use Rattle.bsc_script.specs.Receiving.{receives}
use Rattle.bsc_script.specs.Emptying.{emptied}

-- ---- names

-- the most names that may be open at once
abbrev pub most_names : ℕ
most_names = MOST_NAMES

-- A name opens, and a machine starts for it, unless it is open or as many are open as may be.
abbrev pub opens : State → List ℕ → Option ScriptOutcome
opens s name =
    if not (is_open s name) && nat_lt (length s.peers) most_names
    then Some (quietly (with_opened (new_peer name s.clock) s)) else None

-- A text message comes of a peer: BVLC messages are binary ones, so its WebSocket is closed.
abbrev pub gets_text : State → Peer → ScriptOutcome
gets_text s k = closes s k (closing 1003 NoReason)

-- A peer is held, or freed.
abbrev pub holds : State → Peer → Bool → ScriptOutcome
holds s k held = quietly (with_peer (with_held held k) s)

-- ---- the clock

-- the latest time that the clock may be set to, in milliseconds
abbrev pub latest : ℕ
latest = LATEST

-- the machine of a peer is told the time, after something
abbrev pub ticks_one : ScriptOutcome → Peer → ScriptOutcome
ticks_one o k = and_then o (λ t. tells t k (Tick t.clock))

-- The clock is set, and the machines of all open names are told, in the order of opening. It never goes back.
abbrev pub ticks : State → ℕ → Option ScriptOutcome
ticks s ms =
    if nat_le s.clock ms && nat_le ms latest
    then Some (fold ticks_one (quietly (record s { clock = ms })) s.peers) else None

-- ---- the hub

-- the hub says this of itself
abbrev pub hub_says : List ℕ → Said
hub_says words = says (codes "hub") words

-- the line of the counts
abbrev pub counts_text : CountsOf → List ℕ
counts_text c = line_text (hub_says (counts_words c))

-- The hub stops and says its counts, unless it has stopped before. A stop is never worn.
abbrev pub stops : State → ScriptOutcome
stops s =
    if is_stopped s.history then writes (hub_says (codes "stopped already")) (quietly s)
    else writes (hub_says (counts_words (counts s.history))) (quietly (called s StopCall))

-- The hub says its counts, unless it is worn.
abbrev pub says_counts : State → ScriptOutcome
says_counts s =
    if is_worn s then writes (hub_says (codes "worn")) (quietly s)
    else writes (hub_says (counts_words (counts s.history))) (quietly (called s Count))

-- ---- a line

-- What a line does, before the outboxes are emptied; None where it is refused, as each line of a name is that isn't open.
abbrev pub line_outcome : State → Line → Option ScriptOutcome
line_outcome s Nothing = Some (quietly s)
line_outcome s (Hub about) = None
line_outcome s (Open name) = opens s name
line_outcome s (In name message) = option_map (λ k. receives s k message) (peer_of s name)
line_outcome s (Text name) = option_map (gets_text s) (peer_of s name)
line_outcome s (Drop name) = option_map (ends s) (peer_of s name)
line_outcome s (Hold name) = option_map (λ k. holds s k true) (peer_of s name)
line_outcome s (Free name) = option_map (λ k. holds s k false) (peer_of s name)
line_outcome s (At ms) = ticks s ms
line_outcome s Stop = Some (stops s)
line_outcome s Counts = Some (says_counts s)

-- What a line does, and then the outboxes are emptied; None where it is refused.
unfoldable pub run_line : State → Line → Option ScriptOutcome
run_line s line = option_map emptied (line_outcome s line)
