-- What a node's actions do to the outside.
use Rattle.std.specs.Prelude.{◌≤◌, ℕ, ◌⊎◌, Bool, true, false, ◌||◌, List, [], ◌∷◌, Option, Some, None, is_some, Ok, Err}
use Rattle.std.specs.Io.KnownBytes.{Appends}
use Rattle.bsc_outside.specs.Faults.{HasRisen}
use Rattle.bsc_edge.specs.declared.fault.LinkFault.TheVariants.{Failed}
use Rattle.bsc_edge.specs.declared.kind.Kind.{Kind}
use Rattle.bsc_edge.specs.declared.kind.Kind.TheVariants.{Hub as HubKind, Direct as DirectKind}
use Rattle.bsc_edge.specs.declared.said.Said.{Said}
use Rattle.bsc_edge.specs.declared.said.Said.TheVariants.{Put as SaidPut, Closed}
use Rattle.bsc_edge.specs.Dialling.{Takes as LeavesBehind}
use Rattle.bsc_edge.specs.Told.{Grows}
use Rattle.bsc_accept.specs.declared.closing.Closing.{Closing}
use Rattle.bsc_accept.specs.Reasons.{reason_text}
use Rattle.bsc_node.specs.declared.link_name.LinkName.{LinkName}
use Rattle.bsc_node.specs.declared.link_name.LinkName.TheVariants.{Hub, Direct}
use Rattle.bsc_node.specs.declared.note.Note.{Note}
use Rattle.bsc_node.specs.declared.note.Note.TheVariants.{Finished}
use Rattle.bsc_node.specs.declared.action.Action.{Action}
use Rattle.bsc_node.specs.declared.action.Action.TheVariants.{Dial, Take, Refuse, Put, Close, Deliver, Tell, Draw}
use Rattle.bsc_node_run.specs.declared.news.Change.TheVariants.{Opened, DialFailed, Lost}
use Rattle.bsc_node_run.specs.Lines.{note_line, delivered_line}
use Rattle.bsc_node_run.specs.Worlds.{Dialling, World, Same, with_link, with_news, forgets, ends, with_over}

-- what a link of this name is for
abbrev pub kind_of : LinkName → Kind
kind_of (Hub s) = HubKind
kind_of (Direct k) = DirectKind

-- whether a random word is drawn
abbrev pub is_draw : Action → Bool
is_draw Draw = true
is_draw action = false

-- whether a node tells that it has ended
abbrev pub is_end : Note → Bool
is_end Finished = true
is_end note = false

module _ {L : Type 0} where
  -- ---- a dial

  -- what is new after a dial: that the link opened, or that it didn't
  abbrev pub after_dial : LinkName → Option L → World L → World L
  after_dial name (Some l) w = with_news name Opened (with_link name (Some l) w)
  after_dial name None w = with_news name DialFailed w

  -- What the dialer answered: a link, which stood first of those that it had left, and is the last that came; or it failed, and its
  -- count of faults rose.
  abbrev pub IsAnswered : Option L → Dialling L → Dialling L → Type 0
  IsAnswered (Some l) d e = LeavesBehind d.left e.left (Ok l) × Grows d.came e.came (l ∷ []) × (d.faults ≤ e.faults)
  IsAnswered None d e = LeavesBehind d.left e.left (Err Failed) × Grows d.came e.came [] × HasRisen d.faults e.faults

  -- A URI is dialled, once. Where a link comes, it is the link of that name. That the dial failed is new only where it did.
  abbrev pub Dials : LinkName → List ℕ → World L → World L → Type 0
  Dials name uri w v = (l : Option L)
      × Grows w.dialled.calls v.dialled.calls (record { uri = uri; kind = kind_of name; came = is_some l } ∷ [])
      × IsAnswered l w.dialled v.dialled
      × Same v (record (after_dial name l w) { dialled = v.dialled })

  -- ---- the link that arrived

  -- It gets a name.
  abbrev pub Takes : LinkName → Option L → World L → World L → Type 0
  Takes name None w v = Same v w
  Takes name (Some l) w v = Same v (record (with_link name (Some l) w) { arrived = None })

module _ {L : Type 0} (talk : L → Option (List Said)) where
  -- A link was closed so: what it was, and what it is after that.
  abbrev pub IsClosed : Closing → L → L → Type 0
  IsClosed c l m = Grows (talk l) (talk m) (Closed c.code (reason_text c.reason) ∷ [])

  -- It is closed.
  abbrev pub Refuses : Closing → Option L → World L → World L → Type 0
  Refuses c None w v = Same v w
  Refuses c (Some l) w v = (m : L) × IsClosed c l m × Same v (with_over m (record w { arrived = None }))

  -- ---- a put

  -- A message is put on a link, once. A link that fails is taken out, and it is new of it that it was lost.
  abbrev pub PutsOn : LinkName → List ℕ → L → World L → World L → Type 0
  PutsOn name o l w v = (m : L)
      × ((Grows (talk l) (talk m) (SaidPut o None ∷ []) × Same v (with_link name (Some m) w))
      ⊎ (Grows (talk l) (talk m) (SaidPut o (Some Failed) ∷ []) × Same v (with_news name Lost (ends name m w))))

  -- Where there is no link of that name, nothing is done.
  abbrev pub Puts : LinkName → List ℕ → Option L → World L → World L → Type 0
  Puts name o None w v = Same v w
  Puts name o (Some l) w v = PutsOn name o l w v

  -- ---- a close

  -- What was new of the link isn't told any more. It is closed and taken out, where it is there.
  abbrev pub Closes : LinkName → Closing → Option L → World L → World L → Type 0
  Closes name c None w v = Same v (forgets name w)
  Closes name c (Some l) w v = (m : L) × IsClosed c l m × Same v (ends name m (forgets name w))

  -- ---- what is written

  -- These octets are written.
  abbrev pub Writes : List ℕ → World L → World L → Type 0
  Writes text w v = Appends w.held v.held text × Same v (record w { held = v.held })

  -- What a node tells is written. Whether it told that it has ended is known from then on.
  abbrev pub Tells : Note → World L → World L → Type 0
  Tells note w v = Appends w.held v.held (note_line note) × Same v (record w { held = v.held; finished = is_end note || w.finished })

  -- ---- actions

  -- One action.
  abbrev pub Does : Action → World L → World L → Type 0
  Does (Dial name uri) w v = Dials name uri w v
  Does (Take name) w v = Takes name w.arrived w v
  Does (Refuse c) w v = Refuses c w.arrived w v
  Does (Put name o) w v = Puts name o (w.link name) w v
  Does (Close name c) w v = Closes name c (w.link name) w v
  Does (Deliver d) w v = Writes (delivered_line d) w v
  Does (Tell note) w v = Tells note w v
  Does Draw w v = Same v w

  -- Actions, one after the other.
  abbrev pub Carries : List Action → World L → World L → Type 0
  Carries [] w v = Same v w
  Carries (a ∷ actions) w v = (m : World L) × Does a w m × Carries actions m v
