-- What a run of a node has at a moment: the links of the node, what is new of them, and what was told to the outside.
use Rattle.std.specs.Prelude.{◌≡◌, ℕ, nat_lt, Bool, true, not, ◌&&◌, if◌then◌else◌, List, [], ◌∷◌, ◌++◌, filter, Option, Some, None, is_some, slice_get}
use Rattle.std.specs.List.{list_any}
use Rattle.bsc_connector.specs.declared.side.Side.TheVariants.{Primary, Failover}
use Rattle.bsc_direct.specs.declared.bounds.TheConstants.{SLOTS}
use Rattle.bsc_edge.specs.declared.dialled.Dialled.{Dialled}
use Rattle.bsc_node.specs.declared.link_name.LinkName.{LinkName}
use Rattle.bsc_node.specs.declared.link_name.LinkName.TheVariants.{Hub, Direct}
use Rattle.bsc_node.specs.Links.{same_link}
use Rattle.bsc_node_run.specs.declared.news.Change.{Change}
use Rattle.bsc_node_run.specs.declared.news.News.{News}
use Rattle.bsc_node_run.specs.declared.link_set.LinkSet.{LinkSet}

-- What there is of a dialer at a moment: what it was asked for, the links that it has left, and those that came, as far as that is
-- told; and its count of faults.
pub record Dialling (L : Type 0) : Type 0 where
  pub calls : Option (List Dialled)
  pub left : Option (List L)
  pub came : Option (List L)
  pub faults : ℕ

-- that of a dialer, by what dialers of its type tell
abbrev pub dialling : {D L : Type 0} → (D → Option (List Dialled)) → (D → Option (List L)) → (D → Option (List L)) → (D → ℕ) → D → Dialling L
dialling calls left came faults d = record { calls = calls d; left = left d; came = came d; faults = faults d }

-- What there is of an acceptor at a moment: the links that it has left, those that came, and the waits that it was asked for, as far
-- as these are told.
pub record Admitting (L : Type 0) : Type 0 where
  pub left : Option (List L)
  pub came : Option (List L)
  pub waits : Option (List ℕ)

-- that of an acceptor, by what acceptors of its type tell
abbrev pub admitting : {A L : Type 0} → (A → Option (List L)) → (A → Option (List L)) → (A → Option (List ℕ)) → A → Admitting L
admitting left came waits a = record { left = left a; came = came a; waits = waits a }

-- The link of each name, where there is one; the link that arrived and wasn't taken or refused yet; the links
-- that were taken out in this turn; what is new of links and is told to the node in this turn, and what is told in the
-- next, the oldest first; whether the node told that it has ended; what there is of the dialer; and what was written, as
-- far as that is told.
pub record World (L : Type 0) : Type 0 where
  pub link : LinkName → Option L
  pub arrived : Option L
  pub over : List L
  pub due : List News
  pub waiting : List News
  pub finished : Bool
  pub dialled : Dialling L
  pub held : Option (List ℕ)

-- Two worlds have the same.
pub record Same {L : Type 0} (a b : World L) : Type 0 where
  pub link : (name : LinkName) → a.link name ≡ b.link name
  pub arrived : a.arrived ≡ b.arrived
  pub over : a.over ≡ b.over
  pub due : a.due ≡ b.due
  pub waiting : a.waiting ≡ b.waiting
  pub finished : a.finished ≡ b.finished
  pub dialled : a.dialled ≡ b.dialled
  pub held : a.held ≡ b.held

-- Whether it is the name of a link: a hub's, or that of one of the slots.
abbrev pub is_name : LinkName → Bool
is_name (Hub s) = true
is_name (Direct k) = nat_lt k SLOTS

-- whether this is news of the link of a name
abbrev pub is_of : LinkName → News → Bool
is_of name news = same_link news.link name

-- news without those of a link
abbrev pub without : LinkName → List News → List News
without name news = filter (λ n. not (is_of name n)) news

-- The link of a name is there, and nothing new of it waits to be told to the node.
abbrev pub is_open : {L : Type 0} → LinkName → World L → Bool
is_open name w = is_some (w.link name) && not (list_any (is_of name) w.waiting)

-- The world, but for the link of a name, which is this one or none.
abbrev pub with_link : {L : Type 0} → LinkName → Option L → World L → World L
with_link name l w = record w { link = λ other. if same_link name other && is_name name then l else w.link other }

-- Something is new of a link.
abbrev pub with_news : {L : Type 0} → LinkName → Change → World L → World L
with_news name change w = record w { waiting = w.waiting ++ record { link = name; change = change } ∷ [] }

-- What is new of a link isn't told any more.
abbrev pub forgets : {L : Type 0} → LinkName → World L → World L
forgets name w = record w { due = without name w.due; waiting = without name w.waiting }

-- A link was taken out, and is this one at last.
abbrev pub with_over : {L : Type 0} → L → World L → World L
with_over l w = record w { over = w.over ++ l ∷ [] }

-- The link of a name was taken out, and is this one at last.
abbrev pub ends : {L : Type 0} → LinkName → L → World L → World L
ends name l w = with_over l (with_link name None w)

-- No link has arrived.
abbrev pub without_arrived : {L : Type 0} → World L → World L
without_arrived w = record w { arrived = None }

-- A turn begins: what is new by now is told in it, and the links that were taken out before are dropped.
abbrev pub begun : {L : Type 0} → World L → World L
begun w = record w { over = []; due = w.waiting; waiting = [] }

-- the link in a slot, where there is one
abbrev pub link_if : {L : Type 0} → Option (Option L) → Option L
link_if None = None
link_if (Some l) = l

-- The link of a name: of the two hubs, or of a slot.
abbrev pub link_among : {L : Type 0} → LinkName → Option L → Option L → List (Option L) → Option L
link_among (Hub Primary) p f slots = p
link_among (Hub Failover) p f slots = f
link_among (Direct k) p f slots = link_if (slice_get slots k)

-- What a run has in its hands.
abbrev pub link_in : {L : Type 0} → LinkSet L → LinkName → Option L
link_in s name = link_among name s.primary s.failover s.slots.items

abbrev pub world_of : {L : Type 0} → LinkSet L → Dialling L → Option (List ℕ) → World L
world_of s dialled held = record {
  link = λ name. link_in s name;
  arrived = s.arrived;
  over = s.over.items;
  due = s.due.items;
  waiting = s.waiting.items;
  finished = s.finished;
  dialled = dialled;
  held = held;
}

-- What was done to the links of a node, whatever there is of a dialer, and whatever was written.
abbrev pub Undergoes : {L : Type 0} → (World L → World L → Type 0) → LinkSet L → LinkSet L → Type 0
Undergoes {L} does old new = (d : Dialling L) (h : Option (List ℕ)) → does (world_of old d h) (world_of new d h)

-- They are as before, but for this.
abbrev pub Becomes : {L : Type 0} → (World L → World L) → LinkSet L → LinkSet L → Type 0
Becomes {L} changed old new = (d : Dialling L) (h : Option (List ℕ)) → Same (world_of new d h) (changed (world_of old d h))
