-- How the steps of a peer's machine are carried out.
use Rattle.std.specs.Prelude.{ℕ, List, [], ◌∷◌, ◌++◌, Option, Some, None}
use Rattle.bsc_accept.specs.declared.event.Event.{Event}
use Rattle.bsc_accept.specs.declared.step.Step.{Step}
use Rattle.bsc_accept.specs.declared.step.Step.TheVariants.{Put, PutClose, Close}
use Rattle.bsc_accept.specs.declared.closing.Closing.{Closing}
use Rattle.bsc_accept.specs.Steps.{step}
use Rattle.bsc_script.specs.Written.{Said, says}
use Rattle.bsc_script.specs.Texts.{out_words, close_words}
use Rattle.bsc_lines.specs.Replies.{gone_words}
use Rattle.bsc_script.specs.States.{State, Peer, start_of, told, with_peer, without_name}
use Rattle.bsc_script.specs.Calls.{called, reply_in, leave_of}

-- ---- outcomes

-- What something comes to: what stands after it, and the lines that are written for it.
pub record ScriptOutcome : Type 0 where
  pub state : State
  pub said : List Said

-- nothing is written
abbrev pub quietly : State → ScriptOutcome
quietly s = record { state = s; said = [] }

-- this line is written first
abbrev pub writes : Said → ScriptOutcome → ScriptOutcome
writes line o = record { state = o.state; said = line ∷ o.said }

-- one thing, and then another
abbrev pub and_then : ScriptOutcome → (State → ScriptOutcome) → ScriptOutcome
and_then o next = let n = next o.state in record { state = n.state; said = o.said ++ n.said }

-- ---- a WebSocket that closes

-- A peer that has joined as c leaves: the hub says how its connection ended, and how many frames were taken for it.
abbrev pub leaves : State → Peer → ℕ → ScriptOutcome
leaves s k c =
    writes (says k.name (gone_words (reply_in s (leave_of c k))))
    (quietly (without_name k.name (called s (leave_of c k))))

-- the same, where it has joined, by its connection
abbrev pub leaves_if : State → Peer → Option ℕ → ScriptOutcome
leaves_if s k None = quietly (without_name k.name s)
leaves_if s k (Some c) = leaves s k c

-- The WebSocket of a peer is over: its name is closed, and where it has joined its connection leaves.
abbrev pub ends : State → Peer → ScriptOutcome
ends s k = leaves_if s k k.conn

-- The hub closes the WebSocket of a peer.
abbrev pub closes : State → Peer → Closing → ScriptOutcome
closes s k c = writes (says k.name (close_words c)) (ends s k)

-- ---- the steps

-- What a step does that needs no call for what it says: octets are put, and the WebSocket is closed.
abbrev pub does : State → Peer → Step → ScriptOutcome
does s k (Put octets) = writes (says k.name (out_words octets.items)) (quietly s)
does s k (PutClose octets c) = writes (says k.name (out_words octets.items)) (closes s k c)
does s k (Close c) = closes s k c
does s k other = quietly s

-- The step that the machine of a peer makes at an event.
abbrev pub step_of : State → Peer → Event → Step
step_of s k e = step (start_of s k) k.events e

-- The machine of a peer is told this, and its step is carried out.
abbrev pub tells : State → Peer → Event → ScriptOutcome
tells s k e = does (with_peer (told e k) s) (told e k) (step_of s k e)
