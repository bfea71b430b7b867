-- What a closing that failed left, by what the socket answered.
-- It serves the clauses of `close`.
use Rattle.std.proofs.Common.{inl, inr, ◌≡◌, ℕ, List, [], ◌∷◌, ◌++◌, Option, Result, Err, refl, sym, subst}
use Rattle.bsc_edge.specs.declared.fault.LinkFault.{LinkFault}
use Rattle.bsc_ws.specs.Sending.{FaultOf, Unclosed}
use Rattle.tungstenite.specs.Failure.{IsIo, IsOutside, WriteFails}
use Rattle.tungstenite.specs.Socket.{Socket, Writes}
use Rattle.tungstenite.specs.declared.error.Error.{Error}
use Rattle.tungstenite.specs.declared.error.Error.TheVariants as E
use Rattle.websocket.specs.Connection.{Effect}
use Rattle.websocket.specs.declared.error.Error.{Error as FrameError}

-- an error that is neither that too much waits nor one from outside is the protocol's
by_protocol : (step : Result Effect FrameError) (e : Error) → (e ≡ E.WriteBufferFull → ⊥) → (IsOutside e → ⊥) → WriteFails step e → (x : FrameError) × (step ≡ Err x)
by_protocol step e full outside (inl k) = absurd (full k)
by_protocol step e full outside (inr (inl k)) = absurd (outside k)
by_protocol step e full outside (inr (inr k)) = (k.0, k.1)

module _ {S : Type 0} (contents : S → Option (List ℕ)) (old new : Socket S) (step : Result Effect FrameError) (before after : List Error) where
  pub unclosed_so : (e : Error) (fault : LinkFault) → FaultOf e fault → WriteFails step e → (IsIo e → Writes contents old new step) → (e ≡ E.OutOfMemory → new ≡ old)
      → after ≡ before ++ e ∷ [] → Unclosed contents old new step before after fault
  unclosed_so E.OutOfMemory fault is why wrote same once = subst (λ (f : LinkFault). Unclosed contents old new step before after f) (sym is) (same refl)
  unclosed_so E.WriteBufferFull fault is why wrote same once = subst (λ (f : LinkFault). Unclosed contents old new step before after f) (sym is) (E.WriteBufferFull, once, tt)
  unclosed_so (E.Io cause) fault is why wrote same once = subst (λ (f : LinkFault). Unclosed contents old new step before after f) (sym is) (E.Io cause, once, inl (wrote tt))
  unclosed_so E.ConnectionClosed fault is why wrote same once =
      subst (λ (f : LinkFault). Unclosed contents old new step before after f) (sym is)
      (E.ConnectionClosed, once, inr (by_protocol step E.ConnectionClosed (λ k. (let bad : E.ConnectionClosed ≡ E.WriteBufferFull = k in cc)) (λ k. k) why))
  unclosed_so E.AlreadyClosed fault is why wrote same once =
      subst (λ (f : LinkFault). Unclosed contents old new step before after f) (sym is)
      (E.AlreadyClosed, once, inr (by_protocol step E.AlreadyClosed (λ k. (let bad : E.AlreadyClosed ≡ E.WriteBufferFull = k in cc)) (λ k. k) why))
  unclosed_so (E.Capacity cause) fault is why wrote same once =
      subst (λ (f : LinkFault). Unclosed contents old new step before after f) (sym is)
      (E.Capacity cause, once, inr (by_protocol step (E.Capacity cause) (λ k. (let bad : E.Capacity cause ≡ E.WriteBufferFull = k in cc)) (λ k. k) why))
  unclosed_so (E.Protocol cause) fault is why wrote same once =
      subst (λ (f : LinkFault). Unclosed contents old new step before after f) (sym is)
      (E.Protocol cause, once, inr (by_protocol step (E.Protocol cause) (λ k. (let bad : E.Protocol cause ≡ E.WriteBufferFull = k in cc)) (λ k. k) why))
  unclosed_so E.Utf8 fault is why wrote same once =
      subst (λ (f : LinkFault). Unclosed contents old new step before after f) (sym is)
      (E.Utf8, once, inr (by_protocol step E.Utf8 (λ k. (let bad : E.Utf8 ≡ E.WriteBufferFull = k in cc)) (λ k. k) why))
  unclosed_so E.AttackAttempt fault is why wrote same once =
      subst (λ (f : LinkFault). Unclosed contents old new step before after f) (sym is)
      (E.AttackAttempt, once, inr (by_protocol step E.AttackAttempt (λ k. (let bad : E.AttackAttempt ≡ E.WriteBufferFull = k in cc)) (λ k. k) why))
  unclosed_so (E.Handshake cause) fault is why wrote same once =
      subst (λ (f : LinkFault). Unclosed contents old new step before after f) (sym is)
      (E.Handshake cause, once, inr (by_protocol step (E.Handshake cause) (λ k. (let bad : E.Handshake cause ≡ E.WriteBufferFull = k in cc)) (λ k. k) why))
  unclosed_so E.HandshakeIncomplete fault is why wrote same once =
      subst (λ (f : LinkFault). Unclosed contents old new step before after f) (sym is)
      (E.HandshakeIncomplete, once, inr (by_protocol step E.HandshakeIncomplete (λ k. (let bad : E.HandshakeIncomplete ≡ E.WriteBufferFull = k in cc)) (λ k. k) why))
  unclosed_so E.JunkAfterRequest fault is why wrote same once =
      subst (λ (f : LinkFault). Unclosed contents old new step before after f) (sym is)
      (E.JunkAfterRequest, once, inr (by_protocol step E.JunkAfterRequest (λ k. (let bad : E.JunkAfterRequest ≡ E.WriteBufferFull = k in cc)) (λ k. k) why))
  unclosed_so E.CustomResponseSuccessful fault is why wrote same once =
      subst (λ (f : LinkFault). Unclosed contents old new step before after f) (sym is)
      (E.CustomResponseSuccessful, once, inr (by_protocol step E.CustomResponseSuccessful (λ k. (let bad : E.CustomResponseSuccessful ≡ E.WriteBufferFull = k in cc)) (λ k. k) why))
  unclosed_so E.Url fault is why wrote same once =
      subst (λ (f : LinkFault). Unclosed contents old new step before after f) (sym is)
      (E.Url, once, inr (by_protocol step E.Url (λ k. (let bad : E.Url ≡ E.WriteBufferFull = k in cc)) (λ k. k) why))
  unclosed_so (E.Http response) fault is why wrote same once =
      subst (λ (f : LinkFault). Unclosed contents old new step before after f) (sym is)
      (E.Http response, once, inr (by_protocol step (E.Http response) (λ k. (let bad : E.Http response ≡ E.WriteBufferFull = k in cc)) (λ k. k) why))
  unclosed_so (E.Refused response) fault is why wrote same once =
      subst (λ (f : LinkFault). Unclosed contents old new step before after f) (sym is)
      (E.Refused response, once, inr (by_protocol step (E.Refused response) (λ k. (let bad : E.Refused response ≡ E.WriteBufferFull = k in cc)) (λ k. k) why))
