-- The place that stands in the stead of the missing one is above it.
use Rattle.std.proofs.Common.{◌<◌, ℕ, List, subst, arith}
use Rattle.std.specs.Prelude.{IfSome}
use Rattle.bsc_audit_diagnostics.specs.Reasons.{TellsMissing}
use Rattle.bsc_audit.proofs.Explained.{if_some}
use Rattle.bsc_audit.proofs.reasons.reason_of_missing.Goals as goal

pub returns-in-Ok : goal.returns-in-Ok
returns-in-Ok c =
    let o = c.args.octets.now.items in
    let place = c.args.place in
    let next = c.in_ok-spot.spot.now.place in
    let above : place < next = omega (arith, c.if-next-place.false) in
    if_some (λ (why : List ℕ). TellsMissing place next o why) (λ (why : List ℕ). (x : ℕ) × (place < x) × TellsMissing place x o why) c.in-Ok.why
    (λ why told. (next, above, told))
    (subst (λ (read : List ℕ). IfSome c.in-Ok.why (λ why. TellsMissing place next read why)) c.as_slice-2.ensures.value c.in-Ok.ensures)
