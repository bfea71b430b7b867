-- How a step is carried out.
-- It serves the clauses of `carry_out`.
use Rattle.std.proofs.Common.{◌≡◌, ℕ, List, [], ◌∷◌, ap, Option, Some}
use Rattle.arrayvec.specs.ArrayVec.{ArrayVec}
use Rattle.bsc_edge.specs.declared.fault.LinkFault.{LinkFault}
use Rattle.bsc_edge.specs.declared.said.Said.{Said}
use Rattle.bsc_edge.specs.declared.said.Said.TheVariants.{Put}
use Rattle.bsc_edge.specs.Told.{Grows}
use Rattle.bsc_accept.specs.declared.closing.Closing.{Closing}
use Rattle.bsc_accept.specs.declared.step.Step.TheVariants.{Put as PutStep, PutClose}
use Rattle.bsc_session.specs.declared.stop.Stop.{Stop}
use Rattle.bsc_session.specs.declared.why.Why.{Why}
use Rattle.bsc_session.specs.CarryingOut.{Carries}
use Rattle.bsc_session.specs.Stops.{stop_at}

pub put_fails : (old new : Option (List Said)) (o : ArrayVec ℕ) (why : Why) (fault : LinkFault) (stop : Stop) → Grows old new (Put o.items (Some fault) ∷ []) → stop ≡ stop_at fault
    → Carries old new (PutStep o) why (Some stop)
put_fails old new o why fault stop told is = record { fault = Some fault; said = told; cause = tt; stops = ap (λ s. Some s) is }

pub put_close_fails : (old new : Option (List Said)) (o : ArrayVec ℕ) (c : Closing) (why : Why) (fault : LinkFault) (stop : Stop) → Grows old new (Put o.items (Some fault) ∷ [])
    → stop ≡ stop_at fault → Carries old new (PutClose o c) why (Some stop)
put_close_fails old new o c why fault stop told is = record { fault = Some fault; said = told; cause = tt; stops = ap (λ s. Some s) is }
