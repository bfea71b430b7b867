-- What follows from the definition of a session: its talk ends at its first fault.
use Rattle.std.specs.Prelude.{◌≡◌, ℕ, List, [], ◌∷◌, Option, Some, None, Ok, Err, ⊤}
use Rattle.bsc_history.specs.declared.entry.Entry.{Entry}
use Rattle.bsc_edge.specs.declared.fault.LinkFault.{LinkFault}
use Rattle.bsc_edge.specs.declared.fault.LinkFault.TheVariants.{Failed, NoMemory}
use Rattle.bsc_edge.specs.declared.said.Said.{Said}
use Rattle.bsc_edge.specs.declared.said.Said.TheVariants.{Gave, Put, Closed}
use Rattle.bsc_edge.specs.Told.{Grows}
use Rattle.bsc_accept.specs.declared.reason.Reason.TheVariants.{NoMemory as MemoryReason}
use Rattle.bsc_accept.specs.Reasons.{reason_text}
use Rattle.bsc_session.specs.declared.ended.Ended.{Ended}
use Rattle.bsc_session.specs.Standings.{Terms}
use Rattle.bsc_session.specs.Talk.{Session}

-- what a call on the link answered, where it failed
abbrev pub fault_of : Said → Option LinkFault
fault_of (Gave wait (Err fault)) = Some fault
fault_of (Gave wait (Ok given)) = None
fault_of (Put o fault) = fault
fault_of (Closed code reason) = None

-- what the talk goes on with after such an answer: nothing after Failed, one closing after want of memory
abbrev pub GoesOnAfter : Option LinkFault → List Said → Type 0
GoesOnAfter None rest = ⊤
GoesOnAfter (Some Failed) rest = rest ≡ []
GoesOnAfter (Some NoMemory) rest = rest ≡ Closed 1011 (reason_text MemoryReason) ∷ []

-- No call on the link follows one that failed, but the one closing with 1011 after want of memory.
abbrev pub EndsAtFault : List Said → Type 0
EndsAtFault [] = ⊤
EndsAtFault (x ∷ rest) = GoesOnAfter (fault_of x) rest × EndsAtFault rest

-- What was told grew by a talk that ends so, where it is told.
abbrev pub GrowsToFault : Option (List Said) → Option (List Said) → Type 0
GrowsToFault old new = (T : List Said) × Grows old new T × EndsAtFault T

-- It is so of the talk of each session.
abbrev pub SessionsEndAtFault : Type 0
SessionsEndAtFault = (v : Terms) (T : List Said) (R : List ℕ) (E : List Entry) (frames : List (List ℕ)) (ended : Ended)
    → Session v T R E frames ended → EndsAtFault T
