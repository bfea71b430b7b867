-- What is received on a link.
use Rattle.std.specs.Prelude.{◌≡◌, ℕ, List, [], ◌∷◌, Option, Some, None, Result, Ok, Err, ⊤}
use Rattle.bsc_edge.specs.declared.fault.LinkFault.{LinkFault}
use Rattle.bsc_edge.specs.declared.fault.LinkFault.TheVariants.{Failed, NoMemory}
use Rattle.bsc_edge.specs.declared.incoming.Incoming.{Incoming}
use Rattle.bsc_edge.specs.declared.incoming.Incoming.TheVariants.{Message, Text, Quiet, Closed}
use Rattle.bsc_edge.specs.declared.said.Said.{Said}
use Rattle.bsc_edge.specs.declared.said.Said.TheVariants.{Gave}
use Rattle.bsc_edge.specs.Told.{Grows}
use Rattle.bsc_node.specs.declared.link_name.LinkName.{LinkName}
use Rattle.bsc_node.specs.declared.node_event.NodeEvent.{NodeEvent}
use Rattle.bsc_node.specs.declared.node_event.NodeEvent.TheVariants.{Came, CameText, Lost}
use Rattle.bsc_node_run.specs.declared.bounds.TheConstants.{LINK_WAIT_MS}
use Rattle.bsc_node_run.specs.Worlds.{World, Same, ends, with_link}

-- How long a link is waited for in a turn, in milliseconds: it is asked for what is there already.
abbrev pub link_wait : ℕ
link_wait = LINK_WAIT_MS

-- what the node is told of it
abbrev pub told_of : LinkName → Result Incoming LinkFault → Option NodeEvent
told_of name (Ok (Message o)) = Some (Came name o)
told_of name (Ok Text) = Some (CameText name)
told_of name (Ok Quiet) = None
told_of name (Ok Closed) = Some (Lost name)
told_of name (Err fault) = Some (Lost name)

-- There was memory for what was given.
abbrev pub WasGiven : Result Incoming LinkFault → Type 0
WasGiven (Ok given) = ⊤
WasGiven (Err Failed) = ⊤
WasGiven (Err NoMemory) = ⊥

-- A link gives nothing after this: it is over.
abbrev pub IsLast : Result Incoming LinkFault → Type 0
IsLast (Ok Closed) = ⊤
IsLast (Ok given) = ⊥
IsLast (Err Failed) = ⊤
IsLast (Err NoMemory) = ⊥

module _ {L : Type 0} where
  -- what becomes of the link
  abbrev pub left_by : LinkName → L → Result Incoming LinkFault → World L → World L
  left_by name l (Ok Closed) w = ends name l w
  left_by name l (Err fault) w = ends name l w
  left_by name l given w = with_link name (Some l) w

  -- A link was waited for once, as long as links are, where there is one.
  abbrev pub Received : (L → Option (List Said)) → LinkName → Option L → Option NodeEvent → World L → World L → Type 0
  Received talk name None e w v = e ≡ None
  Received talk name (Some k) e w v = (l : L) × (given : Result Incoming LinkFault) × WasGiven given × Grows (talk k) (talk l) (Gave link_wait given ∷ [])
      × (e ≡ told_of name given) × Same v (left_by name l given w)
