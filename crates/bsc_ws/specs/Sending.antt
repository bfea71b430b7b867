-- What links over streams leave where they couldn't send.
use Rattle.std.specs.Prelude.{◌≡◌, ◌⊎◌, ℕ, List, [], ◌∷◌, ◌++◌, Option, Result, Err, ⊤}
use Rattle.bsc_edge.specs.declared.fault.LinkFault.{LinkFault}
use Rattle.bsc_edge.specs.declared.fault.LinkFault.TheVariants.{Failed, NoMemory}
use Rattle.tungstenite.specs.Socket.{Socket, Writes}
use Rattle.tungstenite.specs.declared.error.Error.{Error}
use Rattle.tungstenite.specs.declared.error.Error.TheVariants as E
use Rattle.websocket.specs.Connection.{Effect}
use Rattle.websocket.specs.declared.error.Error.{Error as FrameError}

-- the fault that an error of a socket comes to
abbrev pub FaultOf : Error → LinkFault → Type 0
FaultOf E.OutOfMemory fault = fault ≡ NoMemory
FaultOf e fault = fault ≡ Failed

-- A step that wasn't done. Without memory the socket is as it was. Else it is as it was too, since too much waits to be sent, or
-- some octets of this frame alone went to the stream or wait, or the connection takes no such frame any more.
abbrev pub Unsent : {S : Type 0} → (S → Option (List ℕ)) → Socket S → Socket S → Result Effect FrameError → LinkFault → Type 0
Unsent contents old new step NoMemory = new ≡ old
Unsent contents old new step Failed = (new ≡ old) ⊎ Writes contents old new step ⊎ ((x : FrameError) × (step ≡ Err x))

-- The same of a closing step, by what the socket answered: that too much waits says nothing of what it did.
abbrev pub UnclosedBy : {S : Type 0} → (S → Option (List ℕ)) → Socket S → Socket S → Result Effect FrameError → Error → Type 0
UnclosedBy contents old new step E.WriteBufferFull = ⊤
UnclosedBy contents old new step e = Writes contents old new step ⊎ ((x : FrameError) × (step ≡ Err x))

-- A closing step that wasn't done, where `before` and `after` have what sockets answered to closings that failed. Without memory the
-- socket is as it was. Else it was asked once, and some octets of this frame alone went to the stream or wait, or the connection
-- takes no such frame any more.
abbrev pub Unclosed : {S : Type 0} → (S → Option (List ℕ)) → Socket S → Socket S → Result Effect FrameError → List Error → List Error → LinkFault → Type 0
Unclosed contents old new step before after NoMemory = new ≡ old
Unclosed contents old new step before after Failed = (e : Error) × (after ≡ before ++ e ∷ []) × UnclosedBy contents old new step e
