-- What a gate answers.
use Rattle.std.specs.Prelude.{⊤, Result, Ok, Err}
use Rattle.bsc_edge.specs.declared.arrived.Arrived.{Arrived}
use Rattle.bsc_edge.specs.declared.arrived.Arrived.TheVariants.{Link, Quiet}
use Rattle.bsc_edge.specs.declared.fault.LinkFault.{LinkFault}

-- This holds of the link that is handed out, where one is.
abbrev pub IfLink : {L : Type 0} → Result (Arrived L) LinkFault → (L → Type 0) → Type 0
IfLink (Ok (Link l)) P = P l
IfLink (Ok Quiet) P = ⊤
IfLink (Err fault) P = ⊤
