-- A run that a fault stops: what was done up to there. What came before the fault is as in any run, and one action at most was
-- carried out in part.
use Rattle.std.specs.Prelude.{◌≡◌, ◌≤◌, ℕ, ◌⊎◌, Bool, true, false, IsTrue, List, [], ◌∷◌, ◌++◌, Option, Some, None, Result, Ok, Err}
use Rattle.std.specs.Prelude.{length, unwrap_or}
use Rattle.bsc_outside.specs.Faults.{PutsPrefix}
use Rattle.bsc_edge.specs.declared.arrived.Arrived.TheVariants.{Link}
use Rattle.bsc_accept.specs.declared.closing.Closing.{Closing}
use Rattle.bsc_edge.specs.declared.fault.LinkFault.{LinkFault}
use Rattle.bsc_edge.specs.declared.fault.LinkFault.TheVariants.{Failed, NoMemory}
use Rattle.bsc_edge.specs.declared.incoming.Incoming.{Incoming}
use Rattle.bsc_edge.specs.declared.said.Said.{Said}
use Rattle.bsc_edge.specs.declared.said.Said.TheVariants.{Gave, Put as SaidPut}
use Rattle.bsc_edge.specs.Dialling.{dialled, made_in, Takes as LeavesBehind}
use Rattle.bsc_edge.specs.Told.{Grows}
use Rattle.bsc_node.specs.declared.link_name.LinkName.{LinkName}
use Rattle.bsc_node.specs.declared.node_event.NodeEvent.{NodeEvent}
use Rattle.bsc_node.specs.declared.node_event.NodeEvent.TheVariants.{Start, Arrived, Tick}
use Rattle.bsc_node.specs.declared.action.Action.{Action}
use Rattle.bsc_node.specs.declared.action.Action.TheVariants.{Dial, Take, Refuse, Put, Close, Deliver, Tell, Draw}
use Rattle.bsc_node.specs.Conditions.{brings_word}
use Rattle.bsc_node_run.specs.declared.due.Due.{Due}
use Rattle.bsc_node_run.specs.declared.news.News.{News}
use Rattle.bsc_node_run.specs.declared.run_terms.RunTerms.{RunTerms}
use Rattle.bsc_node_run.specs.declared.turn_start.TurnStart.{TurnStart}
use Rattle.bsc_node_run.specs.Lines.{note_line, delivered_line}
use Rattle.bsc_node_run.specs.Moments.{Hands, Moment, Outside, RunMoment, in_hands, moment}
use Rattle.bsc_node_run.specs.Performing.{Carries, Does, IsClosed, kind_of}
use Rattle.bsc_node_run.specs.Receiving.{IsLast, Received, link_wait}
use Rattle.bsc_node_run.specs.Running.{DontFall, IsEmpty}
use Rattle.bsc_node_run.specs.Turning.{AreDue, Gives, GivesLines, GivesNews, HasAnswered, HearsEach, IsNotDue, LinkHears, Starts, Turn}
use Rattle.bsc_node_run.specs.Turning.{accept_wait, draws, event_of, names, passed_by}
use Rattle.bsc_node_run.specs.Worlds.{Admitting, World, Same, begun, ends, forgets, is_open, with_link, without_arrived}

module _ {L : Type 0} where
  -- A first part of a text was written, and nothing else was done.
  abbrev pub WritesPart : List ℕ → World L → World L → Type 0
  WritesPart text w v = (v.dialled ≡ w.dialled) × PutsPrefix w.held v.held text × Same v (record w { held = v.held })

  -- what there is in hand after a dial: the link that came, where one did
  abbrev pub with_dialled : LinkName → Result L LinkFault → World L → World L
  with_dialled name (Ok l) w = with_link name (Some l) w
  with_dialled name (Err fault) w = w

  -- The link of a name, which is this one at last, was taken out. It is kept until the turn is over, or there was no memory for that.
  abbrev pub IsOut : LinkName → L → World L → World L → Type 0
  IsOut name m w v = Same v (ends name m w) ⊎ Same v (with_link name None w)

module _ {L : Type 0} (talk : L → Option (List Said)) where
  -- A message was put on a link, once: there was no memory for that, and the link is there still; or it failed, the link was taken
  -- out, and there was no memory for that or for what is new of it.
  abbrev pub PutsPart : LinkName → List ℕ → Option L → World L → World L → Type 0
  PutsPart name o None w v = ⊥
  PutsPart name o (Some l) w v = (m : L)
      × ((Grows (talk l) (talk m) (SaidPut o (Some NoMemory) ∷ []) × Same v (with_link name (Some m) w))
      ⊎ (Grows (talk l) (talk m) (SaidPut o (Some Failed) ∷ []) × IsOut name m w v))

  -- A link was closed and taken out, and there was no memory to keep it until the turn is over.
  abbrev pub ClosesPart : LinkName → Closing → Option L → World L → World L → Type 0
  ClosesPart name c None w v = ⊥
  ClosesPart name c (Some l) w v = (m : L) × IsClosed talk c l m × Same v (with_link name None (forgets name w))

  -- The link that had arrived was closed, and there was no memory to keep it until the turn is over.
  abbrev pub RefusesPart : Closing → Option L → World L → World L → Type 0
  RefusesPart c None w v = ⊥
  RefusesPart c (Some l) w v = (m : L) × IsClosed talk c l m × Same v (without_arrived w)

  -- An action was carried out in part: a URI was dialled once, and what the dialer answered may have come to nothing; a link was
  -- put on or closed, and there was no memory for that or for what follows; or a first part of a line was written. That a link is
  -- taken, or a word drawn, is never done in part.
  abbrev pub DoesPart : Action → World L → World L → Type 0
  DoesPart (Dial name uri) w v = (given : Result L LinkFault)
      × Grows w.dialled.calls v.dialled.calls (dialled uri (kind_of name) given ∷ [])
      × LeavesBehind w.dialled.left v.dialled.left given × Grows w.dialled.came v.dialled.came (made_in given) × (v.held ≡ w.held)
      × Same v (record (with_dialled name given w) { dialled = v.dialled })
  DoesPart (Take name) w v = ⊥
  DoesPart (Refuse c) w v = RefusesPart c w.arrived w v
  DoesPart (Put name o) w v = PutsPart name o (w.link name) w v
  DoesPart (Close name c) w v = ClosesPart name c (w.link name) w v
  DoesPart (Deliver d) w v = WritesPart (delivered_line d) w v
  DoesPart (Tell note) w v = WritesPart (note_line note) w v
  DoesPart Draw w v = ⊥

  -- Actions, of which the first ones were carried out, and the next in part.
  abbrev pub Breaks : List Action → World L → World L → Type 0
  Breaks [] w v = ⊥
  Breaks (a ∷ actions) w v = DoesPart a w v ⊎ ((m : World L) × Does talk a w m × Breaks actions m v)

  -- ---- what is received

  -- A link was waited for once, as long as links are, and the node isn't told what it gave: there was no memory for that, and the
  -- link is there still; or the link is over and was taken out, and there was no memory to keep it until the turn is over.
  abbrev pub Misses : LinkName → Option L → World L → World L → Type 0
  Misses name None w v = ⊥
  Misses name (Some k) w v = (l : L)
      × ((Grows (talk k) (talk l) (Gave link_wait (Err NoMemory) ∷ []) × Same v (with_link name (Some l) w))
      ⊎ ((given : Result Incoming LinkFault) × IsLast given × Grows (talk k) (talk l) (Gave link_wait given ∷ [])
      × Same v (with_link name None w)))

module _ {N L : Type 0} (goes : N → ℕ → NodeEvent → List Action → N → Type 0) (talk : L → Option (List Said)) (now : ℕ) where
  -- ---- one event

  -- The node had no memory for it; or what it does at it was broken off.
  abbrev pub StopsAt : NodeEvent → N → World L → World L → Type 0
  StopsAt e n w v = Same v w ⊎ ((actions : List Action) × (p : N) × goes n now e actions p × Breaks talk actions w v)

  -- It stopped at this event, or at the word that was drawn by it.
  abbrev pub GiveStops : NodeEvent → N → World L → World L → Type 0
  GiveStops e n w v = StopsAt e n w v
      ⊎ ((actions : List Action) × (p : N) × (x : World L) × (word : NodeEvent) × goes n now e actions p × Carries talk actions w x
      × (draws actions ≡ true) × IsTrue (brings_word word) × StopsAt word p x v)

  -- ---- the parts of a turn

  -- It stopped at one of these.
  abbrev pub NewsStop : List News → N → World L → World L → Type 0
  NewsStop [] n w v = ⊥
  NewsStop (one ∷ more) n w v = (rest : List News) × (w.due ≡ one ∷ rest)
      × (GiveStops (event_of one) n (record w { due = rest }) v
      ⊎ ((p : N) × (x : World L) × Gives goes talk now (event_of one) n (record w { due = rest }) p x × NewsStop more p x v))

  abbrev pub LinesStop : List Due → N → World L → World L → Type 0
  LinesStop [] n w v = ⊥
  LinesStop (d ∷ lines) n w v = GiveStops d.event n w v
      ⊎ ((p : N) × (x : World L) × Gives goes talk now d.event n w p x × LinesStop lines p x v)

  -- There was no memory for what a link gave; or it stopped at that.
  abbrev pub HearStops : LinkName → N → World L → World L → Type 0
  HearStops name n w v = (is_open name w ≡ true)
      × (Misses talk name (w.link name) w v ⊎ ((e : NodeEvent) × (x : World L) × Received talk name (w.link name) (Some e) w x × GiveStops e n x v))

  abbrev pub EachStop : List LinkName → N → World L → World L → Type 0
  EachStop [] n w v = ⊥
  EachStop (name ∷ names) n w v = HearStops name n w v
      ⊎ ((p : N) × (x : World L) × LinkHears goes talk now name n w p x × EachStop names p x v)

  -- The acceptor failed, or there was no memory for what it gave; or it stopped at the link that arrived.
  abbrev pub AdmitStops : Bool → Moment N L → Hands L → Type 0
  AdmitStops false before after = ⊥
  AdmitStops true before after = Grows before.hands.door.waits after.door.waits (accept_wait ∷ [])
      × (((fault : LinkFault) × Same after.world before.hands.world × HasAnswered before.hands.door after.door (Err fault))
      ⊎ ((l : L) × HasAnswered before.hands.door after.door (Ok (Link l))
      × GiveStops Arrived before.node (record before.hands.world { arrived = Some l }) after.world))

  abbrev pub StartStops : Option ℕ → N → World L → World L → Type 0
  StartStops None n w v = GiveStops Start n w v
  StartStops (Some start) n w v = ⊥

  -- ---- a turn, from each of its parts on: it stopped there, or that went through

  abbrev pub StopsFromLinks : Bool → Moment N L → Hands L → Type 0
  StopsFromLinks listens before after = (EachStop names before.node before.hands.world after.world × (after.door ≡ before.hands.door))
      ⊎ ((p : N) × (x : World L) × HearsEach goes talk now names before.node before.hands.world p x
      × AdmitStops listens (moment p x before.hands.door) after)

  abbrev pub StopsFromLines : ℕ → List Due → Bool → Moment N L → Hands L → Type 0
  StopsFromLines passed script listens before after = (lines rest : List Due) × (script ≡ lines ++ rest) × AreDue passed lines
      × ((LinesStop lines before.node before.hands.world after.world × (after.door ≡ before.hands.door))
      ⊎ ((p : N) × (x : World L) × IsNotDue passed rest × GivesLines goes talk now lines before.node before.hands.world p x
      × StopsFromLinks listens (moment p x before.hands.door) after))

  abbrev pub StopsFromNews : ℕ → List Due → Bool → Moment N L → Hands L → Type 0
  StopsFromNews passed script listens before after = (news : List News)
      × ((NewsStop news before.node before.hands.world after.world × (after.door ≡ before.hands.door))
      ⊎ ((p : N) × (x : World L) × GivesNews goes talk now news before.node before.hands.world p x
      × StopsFromLines passed script listens (moment p x before.hands.door) after))

  abbrev pub StopsFromTick : ℕ → List Due → Bool → Moment N L → Hands L → Type 0
  StopsFromTick passed script listens before after =
      (GiveStops Tick before.node before.hands.world after.world × (after.door ≡ before.hands.door))
      ⊎ ((p : N) × (x : World L) × Gives goes talk now Tick before.node before.hands.world p x
      × StopsFromNews passed script listens (moment p x before.hands.door) after)

  -- A turn that stopped: its parts in their order, up to where it did.
  abbrev pub TurnStops : Option ℕ → List Due → Bool → Moment N L → Hands L → Type 0
  TurnStops start script listens before after = (o : World L) × Same o (begun before.hands.world)
      × ((StartStops start before.node o after.world × (after.door ≡ before.hands.door))
      ⊎ ((p : N) × (x : World L) × Starts goes talk now start before.node o p x
      × StopsFromTick (passed_by start now) script listens (moment p x before.hands.door) after))

module _ {N L : Type 0} (goes : N → ℕ → NodeEvent → List Action → N → Type 0) (talk : L → Option (List Said)) (listens : Bool) where
  -- Turns at these times, of which the last stopped.
  abbrev pub TurnsStop : List ℕ → Option ℕ → List Due → Moment N L → Hands L → Type 0
  TurnsStop [] start script before after = ⊥
  TurnsStop (now ∷ times) start script before after = (before.hands.world.finished ≡ false)
      × (((times ≡ []) × TurnStops goes talk now start script listens before after)
      ⊎ ((rest : List Due) × (p : N) × (x : World L) × (mid : Admitting L)
      × Turn goes talk now start script rest listens before (moment p x mid)
      × TurnsStop times (Some (unwrap_or start now)) rest (moment p x mid) after))

  -- A run that a fault stopped in one of its turns.
  pub record RunStops (turns : ℕ) (script : List Due) (before : RunMoment N L) (after : Outside L) : Type 0 where
    pub times : List ℕ
    pub first : World L
    pub last : World L
    pub empty : IsEmpty before.out.dialled before.out.written first
    pub went : TurnsStop times None script (moment before.node first before.out.door) (in_hands last after.door)
    pub dials : last.dialled ≡ after.dialled
    pub holds : last.held ≡ after.written
    pub readings : Grows before.out.readings after.readings times
    pub rise : DontFall 0 times
    pub within : length times ≤ turns

  -- A run that ended by a fault: before its first turn, for want of memory, or in a turn.
  abbrev pub RunFails : ℕ → List Due → RunMoment N L → Outside L → Type 0
  RunFails turns script before after = (after ≡ before.out) ⊎ RunStops turns script before after

module _ {N L : Type 0} (goes : N → ℕ → NodeEvent → List Action → N → Type 0) (talk : L → Option (List Said)) where
  -- A turn from this start at this time, which stopped.
  abbrev pub TurnBreaks : ℕ → TurnStart → Moment N L → Hands L → Type 0
  TurnBreaks now from before after = TurnStops goes talk now from.start from.script.now from.listens before after

  -- A run by these terms that ended by a fault.
  abbrev pub RunBreaks : RunTerms → RunMoment N L → Outside L → Type 0
  RunBreaks terms before after = RunFails goes talk terms.listens terms.turns terms.script.now before after
