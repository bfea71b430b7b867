-- One turn of a node: what it is told, in which order, and that what it does is carried out before it is told more.
use Rattle.std.specs.Prelude.{◌≡◌, ◌≤◌, ◌<◌, ◌⊎◌, ℕ, zero, suc, ◌+◌, ◌-◌, Bool, true, false, IsTrue, List, [], ◌∷◌, ◌++◌}
use Rattle.std.specs.Prelude.{Option, Some, None, unwrap_or, Result, Ok, Err, ⊤}
use Rattle.std.specs.List.{list_any}
use Rattle.bsc_connector.specs.declared.side.Side.TheVariants.{Primary, Failover}
use Rattle.bsc_direct.specs.declared.bounds.TheConstants.{SLOTS}
use Rattle.bsc_edge.specs.declared.arrived.Arrived.{Arrived as Arriving}
use Rattle.bsc_edge.specs.declared.arrived.Arrived.TheVariants.{Link, Quiet as NoLink}
use Rattle.bsc_edge.specs.declared.fault.LinkFault.{LinkFault}
use Rattle.bsc_edge.specs.declared.fault.LinkFault.TheVariants.{Failed, NoMemory}
use Rattle.bsc_edge.specs.declared.incoming.Incoming.{Incoming}
use Rattle.bsc_edge.specs.declared.incoming.Incoming.TheVariants.{Message, Text, Quiet, Closed}
use Rattle.bsc_edge.specs.declared.said.Said.{Said}
use Rattle.bsc_edge.specs.declared.said.Said.TheVariants.{Gave}
use Rattle.bsc_edge.specs.Told.{Grows, Leaves, arrived_in}
use Rattle.bsc_node.specs.declared.link_name.LinkName.{LinkName}
use Rattle.bsc_node.specs.declared.link_name.LinkName.TheVariants.{Hub, Direct}
use Rattle.bsc_node.specs.declared.node_event.NodeEvent.{NodeEvent}
use Rattle.bsc_node.specs.declared.node_event.NodeEvent.TheVariants.{Start, Opened, DialFailed, Arrived, Came, CameText, Lost, Tick}
use Rattle.bsc_node.specs.declared.action.Action.{Action}
use Rattle.bsc_node.specs.Conditions.{brings_word}
use Rattle.bsc_node_run.specs.declared.bounds.TheConstants.{ACCEPT_WAIT_MS}
use Rattle.bsc_node_run.specs.declared.due.Due.{Due}
use Rattle.bsc_node_run.specs.declared.news.Change.{Change}
use Rattle.bsc_node_run.specs.declared.news.Change.TheVariants.{Opened as DidOpen, DialFailed as DidntOpen, Lost as WasLost}
use Rattle.bsc_node_run.specs.declared.news.News.{News}
use Rattle.bsc_node_run.specs.declared.turn_end.TurnEnd.{TurnEnd}
use Rattle.bsc_node_run.specs.declared.turn_start.TurnStart.{TurnStart}
use Rattle.bsc_node_run.specs.Performing.{Carries, is_draw}
use Rattle.bsc_node_run.specs.Receiving.{link_wait}
use Rattle.bsc_node_run.specs.Moments.{Moment, moment}
use Rattle.bsc_node_run.specs.Worlds.{Admitting, World, Same, begun, ends, is_open, with_link}

-- what a node is told of what is new of a link
abbrev pub event_of : News → NodeEvent
event_of news = by news.change
  where
    by : Change → NodeEvent
    by DidOpen = Opened news.link
    by DidntOpen = DialFailed news.link
    by WasLost = Lost news.link

-- Whether a random word is drawn.
abbrev pub draws : List Action → Bool
draws actions = list_any is_draw actions

-- the links in the slots from a number on, so many of them
abbrev pub slots_from : ℕ → ℕ → List LinkName
slots_from zero k = []
slots_from (suc count) k = Direct k ∷ slots_from count (k + 1)

-- All links: those of the hubs, and then those in the slots.
abbrev pub names : List LinkName
names = Hub Primary ∷ Hub Failover ∷ slots_from SLOTS 0

-- How long the acceptor is waited for in a turn, in milliseconds: it is asked for a link that is there already.
abbrev pub accept_wait : ℕ
accept_wait = ACCEPT_WAIT_MS

-- How much time has passed since the first turn, at this time.
abbrev pub passed_by : Option ℕ → ℕ → ℕ
passed_by start now = now - unwrap_or start now

-- Each of these is due when so much time has passed.
abbrev pub AreDue : ℕ → List Due → Type 0
AreDue passed [] = ⊤
AreDue passed (d ∷ lines) = (d.at ≤ passed) × AreDue passed lines

-- The first of these isn't due yet.
abbrev pub IsNotDue : ℕ → List Due → Type 0
IsNotDue passed [] = ⊤
IsNotDue passed (d ∷ lines) = passed < d.at

-- An acceptor answered this: a link, which stood first of those that it had left, and is the last that came; or none.
abbrev pub HasAnswered : {L : Type 0} → Admitting L → Admitting L → Result (Arriving L) LinkFault → Type 0
HasAnswered before after answer = Leaves before.left after.left answer × Grows before.came after.came (arrived_in answer)

module _ {N L : Type 0} (goes : N → ℕ → NodeEvent → List Action → N → Type 0) (talk : L → Option (List Said)) (now : ℕ) where
  -- ---- one event

  -- A word that the node draws is what it is told next.
  abbrev pub GivesWord : Bool → N → World L → N → World L → Type 0
  GivesWord false n w m v = (m ≡ n) × Same v w
  GivesWord true n w m v = (word : NodeEvent) × (actions : List Action) × IsTrue (brings_word word) × goes n now word actions m × Carries talk actions w v

  -- The node is told this, and what it does is carried out.
  abbrev pub Gives : NodeEvent → N → World L → N → World L → Type 0
  Gives e n w m v = (actions : List Action) × (p : N) × (x : World L)
      × goes n now e actions p × Carries talk actions w x × GivesWord (draws actions) p x m v

  -- ---- what is new of its links

  -- Each of these is new when it comes to it, the oldest first; at last nothing is new any more.
  abbrev pub GivesNews : List News → N → World L → N → World L → Type 0
  GivesNews [] n w m v = (w.due ≡ []) × (m ≡ n) × Same v w
  GivesNews (news ∷ more) n w m v = (rest : List News) × (p : N) × (x : World L)
      × (w.due ≡ news ∷ rest) × Gives (event_of news) n (record w { due = rest }) p x × GivesNews more p x m v

  -- ---- the script

  abbrev pub GivesLines : List Due → N → World L → N → World L → Type 0
  GivesLines [] n w m v = (m ≡ n) × Same v w
  GivesLines (d ∷ lines) n w m v = (p : N) × (x : World L) × Gives d.event n w p x × GivesLines lines p x m v

  -- ---- what comes

  -- The node is told this in a world like that one.
  abbrev pub GivesIn : NodeEvent → N → World L → N → World L → Type 0
  GivesIn e n w m v = (x : World L) × Same x w × Gives e n x m v

  -- What a link gave, that is now this one.
  abbrev pub HearsOf : LinkName → L → Result Incoming LinkFault → N → World L → N → World L → Type 0
  HearsOf name l (Ok (Message o)) n w m v = GivesIn (Came name o) n (with_link name (Some l) w) m v
  HearsOf name l (Ok Text) n w m v = GivesIn (CameText name) n (with_link name (Some l) w) m v
  HearsOf name l (Ok Quiet) n w m v = (m ≡ n) × Same v (with_link name (Some l) w)
  HearsOf name l (Ok Closed) n w m v = GivesIn (Lost name) n (ends name l w) m v
  HearsOf name l (Err Failed) n w m v = GivesIn (Lost name) n (ends name l w) m v
  HearsOf name l (Err NoMemory) n w m v = ⊥

  -- A link that is open is waited for once, as long as links are, and the node is told what it gave.
  abbrev pub HearsIf : LinkName → Bool → N → World L → N → World L → Type 0
  HearsIf name false n w m v = (m ≡ n) × Same v w
  HearsIf name true n w m v = (k l : L) × (given : Result Incoming LinkFault)
      × (w.link name ≡ Some k) × Grows (talk k) (talk l) (Gave link_wait given ∷ []) × HearsOf name l given n w m v

  abbrev pub LinkHears : LinkName → N → World L → N → World L → Type 0
  LinkHears name n w m v = HearsIf name (is_open name w) n w m v

  -- The links of these names, one after the other.
  abbrev pub HearsEach : List LinkName → N → World L → N → World L → Type 0
  HearsEach [] n w m v = (m ≡ n) × Same v w
  HearsEach (name ∷ names) n w m v = (p : N) × (x : World L) × LinkHears name n w p x × HearsEach names p x m v

  -- ---- a link that arrives

  -- Where the node accepts direct connections, the acceptor is asked once, without waiting, and the node is told of the link
  -- that arrived.
  abbrev pub Admits : Bool → Moment N L → Moment N L → Type 0
  Admits false before after = (after.node ≡ before.node) × Same after.hands.world before.hands.world × (after.hands.door ≡ before.hands.door)
  Admits true before after = Grows before.hands.door.waits after.hands.door.waits (accept_wait ∷ [])
      × (((after.node ≡ before.node) × Same after.hands.world before.hands.world
      × HasAnswered before.hands.door after.hands.door (Ok NoLink))
      ⊎ ((l : L) × HasAnswered before.hands.door after.hands.door (Ok (Link l))
      × Gives Arrived before.node (record before.hands.world { arrived = Some l }) after.node after.hands.world))

  -- ---- a turn

  abbrev pub Starts : Option ℕ → N → World L → N → World L → Type 0
  Starts None n w m v = Gives Start n w m v
  Starts (Some start) n w m v = (m ≡ n) × Same v w

  -- One turn: that the node starts, in the first turn; that time has passed; what is new of its links; what of the script
  -- is due; what comes of the links that are open, the hubs' first and then those in the slots; and the link that arrives.
  pub record Turn (start : Option ℕ) (script rest : List Due) (listens : Bool) (before after : Moment N L) : Type 0 where
    pub news : List News
    pub lines : List Due
    pub world_begun : World L
    pub world_started : World L
    pub world_ticked : World L
    pub world_told : World L
    pub world_given : World L
    pub world_heard : World L
    pub node_started : N
    pub node_ticked : N
    pub node_told : N
    pub node_given : N
    pub node_heard : N
    pub begins : Same world_begun (begun before.hands.world)
    pub starts : Starts start before.node world_begun node_started world_started
    pub ticks : Gives Tick node_started world_started node_ticked world_ticked
    pub told : GivesNews news node_ticked world_ticked node_told world_told
    pub parts : script ≡ lines ++ rest
    pub due : AreDue (passed_by start now) lines
    pub next : IsNotDue (passed_by start now) rest
    pub given : GivesLines lines node_told world_told node_given world_given
    pub heard : HearsEach names node_given world_given node_heard world_heard
    pub admits : Admits listens (moment node_heard world_heard before.hands.door) after

module _ {N L : Type 0} (goes : N → ℕ → NodeEvent → List Action → N → Type 0) (talk : L → Option (List Said)) where
  -- A turn from this start, which came to this end.
  abbrev pub TurnsTo : TurnStart → Moment N L → Moment N L → TurnEnd → Type 0
  TurnsTo from before after end = Turn goes talk end.time from.start from.script.now end.left.now from.listens before after
