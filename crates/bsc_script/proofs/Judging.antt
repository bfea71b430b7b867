-- What a verdict says of the message that is judged at the hub port.
-- It serves the clauses of `act` and `receive`.
use Rattle.std.proofs.Common.{◌≡◌, ◌≢◌, inl, inr, ℕ, ◌+◌, ◌≤◌, ◌<◌, nat_le, Bool, true, false, not, cond, ◌&&◌, List, length, Some, None, refl, ap, ◌∙◌, subst, arith}
use Rattle.std.proofs.lemmas.Bool.{false_from_ne_true, cases_lt}
use Rattle.std.proofs.lemmas.Bool.Decides.{nat_tests}
use Rattle.bsc_octets.specs.declared.identity.Identity.{Identity}
use Rattle.bsc_octets.specs.declared.envelope.Envelope.{Envelope}
use Rattle.bsc_octets.specs.declared.vmac.Vmac.{Vmac}
use Rattle.bsc_octets.specs.Addresses.{same_vmac}
use Rattle.bsc_octets.specs.Envelopes.{announces_origin, announces_dest, vmac_at}
use Rattle.bsc_octets.specs.Forwarding.{has_route, flags_in}
use Rattle.bsc_frame.specs.declared.message.Message.{Message}
use Rattle.bsc_frame.specs.Layout.{options_at}
use Rattle.bsc_frame.specs.Payloads.{IsNode}
use Rattle.bsc_checks.specs.declared.phase.Phase.{Phase}
use Rattle.bsc_checks.specs.declared.place.Place.TheVariants.{HubPort}
use Rattle.bsc_checks.specs.declared.verdict.Verdict.TheVariants.{Pass, Carry}
use Rattle.bsc_checks.specs.Verdicts.{Judged}
use Rattle.bsc_accept.specs.Messages.{who_asks}
use Rattle.bsc_accept.proofs.Common.{node_of}
use Rattle.bsc_octets.proofs.Common.{vmac_same}

-- ---- a message that is carried on

no_origin : (b : Bool) (v : Vmac) → ¬ (cond b (Some v) None ≢ None) → b ≡ false
no_origin true v h = absurd (h (λ e. cc))
no_origin false v h = refl

far_enough : (n at : ℕ) → ¬ (n < 4) → ¬ ((4 ≤ n) × (n < at)) → at ≤ n
far_enough n at short lacks = elim (cases_lt n at) [ inr h ↦ h | inl h ↦ elim (cases_lt n 4) [ inr g ↦ absurd (lacks (g, h)) | inl g ↦ absurd (short g) ] ]

-- A message that the hub carries on has a route: a Destination, whole, and no Originating address.
pub routed : (m : List ℕ) (phase : Phase) (max : ℕ) (e : Envelope) → Judged m (HubPort phase) max (Carry e) → has_route m ≡ true
routed m phase max e j =
    let dest : announces_dest (flags_in m) ≡ true = j.1 in
    let origin : announces_origin (flags_in m) ≡ false = no_origin (announces_origin (flags_in m)) (vmac_at m 4) j.0.1.1.1.0 in
    let far : options_at m ≤ length m = far_enough (length m) (options_at m) j.0.0 j.0.1.1.0 in
    let ten : options_at m ≡ 10 = ap (λ b. 4 + (cond b 6 0 + cond (announces_dest (flags_in m)) 6 0)) origin ∙ ap (λ b. 4 + (0 + cond b 6 0)) dest in
    let long : nat_le 10 (length m) ≡ true = long_enough (length m) (subst (λ n. n ≤ length m) ten far) in
    ap (λ b. b && announces_dest (flags_in m) && not (announces_origin (flags_in m))) long
    ∙ ap (λ b. b && not (announces_origin (flags_in m))) dest
    ∙ ap not origin
  where
    long_enough : (n : ℕ) → 10 ≤ n → nat_le 10 n ≡ true
    long_enough n h = grind (arith, nat_tests)

-- ---- who asks to be accepted

-- Who asks by a message that passes is a node.
pub asking_node : (m : List ℕ) (phase : Phase) (max : ℕ) (msg : Message) (who : Identity) → Judged m (HubPort phase) max (Pass msg) → who_asks msg.body ≡ Some who → IsNode who
asking_node m phase max msg who j e = node_of msg.body who j.2.legal.body e

pub other_vmac : (v w : Vmac) → v ≢ w → same_vmac v w ≡ false
other_vmac v w h = false_from_ne_true (same_vmac v w) (λ e. h (vmac_same v w e))
