-- What is called on a link where it stands. No public clause cites these words.
use Rattle.std.specs.Prelude.{ℕ, List, [], ◌∷◌, Option, Some, None, Result, Ok, ⊤}
use Rattle.bsc_edge.specs.declared.fault.LinkFault.{LinkFault}
use Rattle.bsc_edge.specs.declared.incoming.Incoming.{Incoming}
use Rattle.bsc_edge.specs.declared.said.Said.{Said}
use Rattle.bsc_edge.specs.declared.said.Said.TheVariants.{Gave, Put}
use Rattle.bsc_edge.specs.Told.{Grows, fault_in}
use Rattle.bsc_node_run.specs.Receiving.{link_wait}

module _ {L : Type 0} (talk : L → Option (List Said)) where
  -- A link was waited for once, where there is one, and gave this.
  abbrev pub IsHeard : Option L → Option L → Option (Result Incoming LinkFault) → Type 0
  IsHeard (Some k) (Some l) (Some given) = Grows (talk k) (talk l) (Gave link_wait given ∷ [])
  IsHeard None None None = ⊤
  IsHeard k l given = ⊥

  -- A message was put on a link once, where there is one, and this was answered.
  abbrev pub IsPut : List ℕ → Option L → Option L → Result ⊤ LinkFault → Type 0
  IsPut o (Some k) (Some l) answer = Grows (talk k) (talk l) (Put o (fault_in answer) ∷ [])
  IsPut o None None (Ok done) = ⊤
  IsPut o k l answer = ⊥
