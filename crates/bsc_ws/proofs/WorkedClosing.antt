-- What is said of a closing that failed.
-- No clause needs it: worked examples.
use Rattle.std.proofs.Common.{◌≡◌, ℕ, List, [], ◌∷◌, Option, Result, refl}
use Rattle.bsc_edge.specs.declared.fault.LinkFault.TheVariants.{Failed, NoMemory}
use Rattle.bsc_ws.specs.Sending.{Unclosed}
use Rattle.tungstenite.specs.Socket.{Socket}
use Rattle.tungstenite.specs.declared.error.Error.{Error}
use Rattle.websocket.specs.Connection.{Effect}
use Rattle.websocket.specs.declared.error.Error.{Error as FrameError}

module _ {S : Type 0} (contents : S → Option (List ℕ)) (step : Result Effect FrameError) where
  -- without memory the socket is as it was
  pub left_as_it_was : (s : Socket S) → Unclosed contents s s step [] [] NoMemory
  left_as_it_was s = refl

  -- a socket that was asked to close twice wasn't asked once
  pub not_asked_twice : (old new : Socket S) (e : Error) → Unclosed contents old new step [] (e ∷ e ∷ []) Failed → ⊥
  not_asked_twice old new e u = (let k : e ∷ e ∷ [] ≡ u.0 ∷ [] = u.1 in cc)
