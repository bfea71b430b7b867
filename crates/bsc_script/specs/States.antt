-- What stands after some lines of a script: the hub, its history, the clock, and the open names.
use Rattle.std.specs.Prelude.{ℕ, ◌==◌, Bool, false, not, if◌then◌else◌, List, [], ◌∷◌, ◌++◌, map, filter, find, length, is_some, Option, Some, None}
use Rattle.bsc_history.specs.declared.limits.About.{About}
use Rattle.bsc_history.specs.declared.entry.Entry.{Entry}
use Rattle.bsc_accept.specs.declared.event.Event.{Event}
use Rattle.bsc_accept.specs.declared.start.Start.{Start}
use Rattle.bsc_accept.specs.declared.times.Times.{Times}
use Rattle.bsc_script.specs.declared.bounds.TheConstants.{CONNECT_WAIT_MS, DISCONNECT_WAIT_MS, HEARTBEAT_MS}
use Rattle.bsc_history.specs.Ends.{is_one}
use Rattle.bsc_text.specs.Lines.{same_octets}

-- A name that is open: its peer has a WebSocket, on which the hub runs an accepting machine.
pub record Peer : Type 0 where
  pub name : List ℕ
  -- what the clock was when it opened
  pub since : ℕ
  -- what its machine was told, newest last
  pub events : List Event
  -- whether its outbox isn't emptied
  pub held : Bool
  -- the number of its connection, once it has joined
  pub conn : Option ℕ
  -- the frames that were written for it, oldest first
  pub frames : List (List ℕ)
  -- how often its outbox was found empty
  pub empties : ℕ

-- What stands after some lines: the hub, the clock in milliseconds, the history of the calls that the lines made, and
-- the open names in the order of opening.
pub record State : Type 0 where
  pub about : About
  pub clock : ℕ
  pub history : List Entry
  pub peers : List Peer

-- a new hub, at the time 0
abbrev pub new_hub : About → State
new_hub a = record { about = a; clock = 0; history = []; peers = [] }

-- How long the hub waits for a peer.
abbrev pub default_times : Times
default_times = record { connect_wait = CONNECT_WAIT_MS; disconnect_wait = DISCONNECT_WAIT_MS; heartbeat = HEARTBEAT_MS }

-- With what the machine of a peer started, at such a hub.
abbrev pub start_at : About → Peer → Start
start_at a k = record { own = a.hub; times = default_times; at = k.since }

-- the same, by the state
abbrev pub start_of : State → Peer → Start
start_of s k = start_at s.about k

-- a name that opens now
abbrev pub new_peer : List ℕ → ℕ → Peer
new_peer name now = record { name = name; since = now; events = []; held = false; conn = None; frames = []; empties = 0 }

-- ---- the open names

-- whether a peer has this name
abbrev pub is_named : List ℕ → Peer → Bool
is_named name k = same_octets k.name name

-- whether a peer has joined as c
abbrev pub has_joined_as : ℕ → Peer → Bool
has_joined_as c k = is_one c k.conn

-- The peer of a name, where the name is open.
abbrev pub peer_of : State → List ℕ → Option Peer
peer_of s name = find (is_named name) s.peers

-- The peer of a connection, where its name is open.
abbrev pub peer_on : State → ℕ → Option Peer
peer_on s c = find (has_joined_as c) s.peers

-- whether a name is open
abbrev pub is_open : State → List ℕ → Bool
is_open s name = is_some (peer_of s name)

-- one more name is open
abbrev pub with_opened : Peer → State → State
with_opened k s = record s { peers = s.peers ++ k ∷ [] }

-- the peer of the name that k has is as k says
abbrev pub with_peer : Peer → State → State
with_peer k s = record s { peers = map (λ p. if is_named k.name p then k else p) s.peers }

-- a name is closed
abbrev pub without_name : List ℕ → State → State
without_name name s = record s { peers = filter (λ p. not (is_named name p)) s.peers }

-- ---- what a peer is after something

-- it was told this
abbrev pub told : Event → Peer → Peer
told e k = record k { events = k.events ++ e ∷ [] }

-- it has joined
abbrev pub joined_as : ℕ → Peer → Peer
joined_as c k = record k { conn = Some c }

-- it is held, or free
abbrev pub with_held : Bool → Peer → Peer
with_held held k = record k { held = held }
