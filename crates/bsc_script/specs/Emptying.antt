-- What is written after each line: the outboxes of joined peers are emptied.
use Rattle.std.specs.Prelude.{ℕ, ◌+◌, ◌-◌, ◌^◌, min, Bool, true, false, not, ◌&&◌, ◌||◌, ◌==◌, if◌then◌else◌, List, [], ◌∷◌, ◌++◌, map}
use Rattle.std.specs.Prelude.{fold, flat_map, filter, length, drop, is_some, Option, Some, None}
use Rattle.bsc_history.specs.declared.limits.About.{About}
use Rattle.bsc_history.specs.declared.entry.Entry.{Entry}
use Rattle.bsc_history.specs.declared.ending.End.{End}
use Rattle.bsc_history.specs.Ends.{ended, unleft}
use Rattle.bsc_history.specs.Outboxes.{sent}
use Rattle.bsc_checks.specs.declared.phase.Phase.{Phase}
use Rattle.bsc_checks.specs.declared.phase.Phase.TheVariants.{Connected}
use Rattle.bsc_accept.specs.declared.event.Event.TheVariants.{Ended}
use Rattle.bsc_accept.specs.Past.{phase}
use Rattle.bsc_script.specs.Written.{Said, says}
use Rattle.bsc_script.specs.Texts.{out_words}
use Rattle.bsc_script.specs.States.{State, Peer, has_joined_as, peer_on, with_peer}
use Rattle.bsc_script.specs.Carrying.{ScriptOutcome, quietly, and_then, tells}

-- ---- which outboxes are emptied

-- whether a phase is Connected
abbrev pub is_connected : Phase → Bool
is_connected Connected = true
is_connected other = false

-- What entered the outbox of connection c, which this peer has, by these entries, and isn't written yet.
abbrev pub unwritten_after : About → List Entry → Peer → ℕ → List (List ℕ)
unwritten_after a H k c = drop (length k.frames) (sent a H c)

-- Something is due for connection c, which this peer has: a frame that isn't written, or its End.
abbrev pub due_after : About → List Entry → Peer → ℕ → Bool
due_after a H k c = not (length (unwritten_after a H k c) == 0) || is_some (ended H c)

-- The outbox of a peer is emptied where its phase is Connected, it isn't held, and something is due for it.
abbrev pub emptied_after : About → List Entry → Peer → ℕ → Bool
emptied_after a H k c = is_connected (phase k.events) && not k.held && due_after a H k c

-- the same three, by the state
abbrev pub unwritten : State → Peer → ℕ → List (List ℕ)
unwritten s k c = unwritten_after s.about s.history k c

abbrev pub is_due : State → Peer → ℕ → Bool
is_due s k c = due_after s.about s.history k c

abbrev pub is_emptied : State → Peer → ℕ → Bool
is_emptied s k c = emptied_after s.about s.history k c

-- ---- one of them

-- the lines of frames that are written under a name
abbrev pub frame_lines : List ℕ → List (List ℕ) → List Said
frame_lines name frames = map (λ m. says name (out_words m)) frames

-- a peer for whom these frames are written, too
abbrev pub given_frames : List (List ℕ) → Peer → Peer
given_frames frames k = record k { frames = k.frames ++ frames }

-- How often an outbox was found empty, once its frames are taken: once more where its connection is live. The count
-- stands still at 2^64 - 1.
abbrev pub empties_after : Option End → ℕ → ℕ
empties_after None empties = min (empties + 1) (2 ^ 64 - 1)
empties_after (Some ending) empties = empties

-- a peer whose outbox was found empty, its connection live
abbrev pub found_empty : Peer → Peer
found_empty k = record k { empties = empties_after None k.empties }

-- What the end of an outbox comes to, once its frames are written: where the connection has ended the machine is told,
-- and else the outbox was found empty.
abbrev pub ends_as : State → Peer → Option End → ScriptOutcome
ends_as s k None = quietly (with_peer (found_empty k) s)
ends_as s k (Some ending) = tells (with_peer k s) k (Ended s.clock ending)

-- The outbox of a peer that has joined as c is emptied: its frames are written, and then it is seen how the connection
-- ended.
abbrev pub empties : State → Peer → ℕ → ScriptOutcome
empties s k c =
    let frames = unwritten s k c in
    and_then (record { state = s; said = frame_lines k.name frames })
    (λ t. ends_as t (given_frames frames k) (ended t.history c))

-- ---- all of them

-- A peer with its connection.
pub record OnConnection : Type 0 where
  pub conn : ℕ
  pub peer : Peer

-- The peers that have joined, in the order of joining.
abbrev pub in_order_of_joining : State → List OnConnection
in_order_of_joining s =
    flat_map (λ x. map (λ k. record { conn = x.number; peer = k }) (filter (has_joined_as x.number) s.peers)) (unleft s.history)

-- after something, one outbox is emptied where it is to be
abbrev pub emptied_one : ScriptOutcome → OnConnection → ScriptOutcome
emptied_one o x = if is_emptied o.state x.peer x.conn then and_then o (λ t. empties t x.peer x.conn) else o

-- After something the outboxes are emptied, in the order of joining.
abbrev pub emptied : ScriptOutcome → ScriptOutcome
emptied o = fold emptied_one o (in_order_of_joining o.state)

-- ---- by the number of a connection

-- The outbox of a connection is emptied where its name is open and it is to be.
abbrev pub emptied_if : State → ℕ → Option Peer → ScriptOutcome
emptied_if s c None = quietly s
emptied_if s c (Some k) = if is_emptied s k c then empties s k c else quietly s

abbrev pub emptied_on : State → ℕ → ScriptOutcome
emptied_on s c = emptied_if s c (peer_on s c)
