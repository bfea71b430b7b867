-- What the verdict at the hub port says of a message, whatever numbers it is made of, and which steps ask and carry.
-- It serves the clauses of `a_line_goes_on` and `a_script_is_of_one_hub`.
use Rattle.std.proofs.Common.{◌≡◌, inl, inr, ℕ, ◌+◌, ◌≤◌, ◌==◌, nat_le, nat_lt, Bool, true, false, not, ◌&&◌, ◌||◌, cond, List, [], ◌∷◌, ◌++◌, drop, take, length, Option, Some}
use Rattle.std.proofs.Common.{None, is_some, is_none, true≢false, refl, ap, sym, ◌∙◌, arith}
use Rattle.std.proofs.lemmas.Bool.{and_cases, or_parts, both_ways, eqb-true, le-leb, ltb-false, true_from_ne_false}
use Rattle.bsc_octets.specs.declared.envelope.Envelope.{Envelope}
use Rattle.bsc_octets.specs.declared.identity.Identity.{Identity}
use Rattle.bsc_octets.specs.declared.vmac.Vmac.{Vmac}
use Rattle.bsc_octets.specs.Addresses.{same_vmac, zero_vmac, broadcast}
use Rattle.bsc_octets.specs.Envelopes.{announces_origin, announces_dest, vmac_at}
use Rattle.bsc_octets.specs.Forwarding.{has_route, flags_in, function_in}
use Rattle.bsc_octets.specs.Identities.{identity_of}
use Rattle.bsc_frame.specs.declared.check.Check.TheVariants.{C13}
use Rattle.bsc_frame.specs.declared.message.Message.{Message}
use Rattle.bsc_frame.specs.Layout.{options_at}
use Rattle.bsc_checks.specs.declared.phase.Phase.{Phase}
use Rattle.bsc_checks.specs.declared.phase.Phase.TheVariants.{AwaitingRequest}
use Rattle.bsc_checks.specs.declared.place.Place.TheVariants.{HubPort}
use Rattle.bsc_checks.specs.declared.verdict.Verdict.TheVariants.{Pass, Carry as Carried}
use Rattle.bsc_checks.specs.Places.{origin_in}
use Rattle.bsc_checks.specs.Table.{checks_of, head_checks, later_checks}
use Rattle.bsc_checks.specs.Options.{Found, data_options_in, rest_of}
use Rattle.bsc_checks.specs.Payloads.{body_in, has_bad_details, has_bad_uris, has_no_nodes_vmac, has_unknown_accepts, has_unknown_result, has_unknown_status, is_out_of_range}
use Rattle.bsc_checks.specs.PlaceTests.{is_in_place}
use Rattle.bsc_checks.specs.Failing.{fails, of_payload}
use Rattle.bsc_checks.specs.Outcomes.{first_failing, outcome_of}
use Rattle.bsc_accept.specs.Messages.{who_asks}
use Rattle.bsc_checks.proofs.Common.{carries_when, none_fails, passes_when, unrefused}
use Rattle.std.proofs.lemmas.Option.{same_Some as same_some}

-- ---- a message that is carried on

no_origin : (b : Bool) (v : Vmac) → is_some (cond b (Some v) None) ≡ false → b ≡ false
no_origin true v h = h
no_origin false v h = refl

ten_there : (n at : ℕ) → at ≡ 10 → nat_lt n 4 ≡ false → (nat_le 4 n && nat_lt n at) ≡ false → nat_le 10 n ≡ true
ten_there n at ten short cut =
    let four : 4 ≤ n = ltb-false n 4 short in
    elim (and_cases (nat_le 4 n) (nat_lt n at) cut) [
      | inl isnt ↦ absurd (both_ways (nat_le 4 n) isnt (le-leb 4 n four))
      | inr far ↦ (let most : at ≤ n = ltb-false n at far in le-leb 10 n (omega arith))
    ]

-- A message that the hub carries on has a route.
pub routes : (m : List ℕ) (phase : Phase) (max : ℕ) (e : Envelope) → outcome_of m (HubPort phase) max ≡ Carried e → has_route m ≡ true
unfolding outcome_of
routes m phase max e h =
    let place = HubPort phase in
    let a = unrefused m place (first_failing (fails m place max) (checks_of place m)) (Carried e) h refl in
    let all = none_fails (fails m place max) (checks_of place m) a.0 in
    let dest : announces_dest (flags_in m) ≡ true = carries_when (announces_dest (flags_in m)) m e a.1 in
    let origin : announces_origin (flags_in m) ≡ false = no_origin (announces_origin (flags_in m)) (vmac_at m 4) all.1.1.1.0 in
    let ten : options_at m ≡ 10 = ap (λ b. 4 + (cond b 6 0 + cond (announces_dest (flags_in m)) 6 0)) origin ∙ ap (λ b. 4 + (0 + cond b 6 0)) dest in
    let long : nat_le 10 (length m) ≡ true = ten_there (length m) (options_at m) ten all.0 all.1.1.0 in
    ap (λ b. b && announces_dest (flags_in m) && not (announces_origin (flags_in m))) long
    ∙ ap (λ b. b && not (announces_origin (flags_in m))) dest
    ∙ ap not origin

-- ---- who asks to be accepted

from_front : (l : List ℕ) → drop 0 l ≡ l
from_front [] = refl
from_front (x ∷ l) = refl

-- the last of six tests
last_test : (a b c d e f : Bool) → (a || (b || (c || (d || (e || f))))) ≡ false → f ≡ false
last_test a b c d e f h =
    let one = or_parts a (b || (c || (d || (e || f)))) h in
    let two = or_parts b (c || (d || (e || f))) one.1 in
    let three = or_parts c (d || (e || f)) two.1 in
    let four = or_parts d (e || f) three.1 in
    (or_parts e f four.1).1

-- whose address is in range
in_range : (p : List ℕ) → is_out_of_range 6 p ≡ false → (same_vmac (vmac_at p 0) zero_vmac ≡ false) × (same_vmac (vmac_at p 0) broadcast ≡ false)
in_range p h =
    let last : has_no_nodes_vmac 6 p ≡ false = last_test (has_unknown_result 6 p) (has_bad_details 6 p) (has_bad_uris 6 p) (has_unknown_status 6 p) (has_unknown_accepts 6 p)
    (has_no_nodes_vmac 6 p) h in
    or_parts (same_vmac (vmac_at p 0) zero_vmac) (same_vmac (vmac_at p 0) broadcast) last

-- the address in the first six octets
abbrev six : List ℕ → Vmac
six l = record { 0 = take 6 l }

asked_in_range : (p : List ℕ) (who : Identity) → is_out_of_range 6 p ≡ false → who_asks (body_in 6 p) ≡ Some who → (same_vmac who.vmac zero_vmac ≡ false) × (same_vmac who.vmac broadcast ≡ false)
asked_in_range p who h e =
    let two = in_range p h in
    let address : vmac_at p 0 ≡ who.vmac = ap six (from_front p) ∙ ap (λ (w : Identity). w.vmac) (same_some (identity_of p) who e) in
    (ap (λ v. same_vmac v zero_vmac) (sym address) ∙ two.0, ap (λ v. same_vmac v broadcast) (sym address) ∙ two.1)

-- the payload behind whole lists of options is in range
payload_in_range : (f : ℕ) (found : Option Found) → f ≡ 6 → is_none found ≡ false → of_payload is_out_of_range f found ≡ false → is_out_of_range 6 (rest_of found) ≡ false
payload_in_range f None is whole h = absurd (true≢false whole)
payload_in_range f (Some found) is whole h = ap (λ (n : ℕ). is_out_of_range n found.rest) (sym is) ∙ h

-- Who asks by a message that passes while a Connect-Request is awaited has an address that a node may have.
pub asks_for_node : (m : List ℕ) (max : ℕ) (msg : Message) (who : Identity) → outcome_of m (HubPort AwaitingRequest) max ≡ Pass msg → who_asks msg.body ≡ Some who
    → (same_vmac who.vmac zero_vmac ≡ false) × (same_vmac who.vmac broadcast ≡ false)
unfolding outcome_of
asks_for_node m max msg who h asks =
    let place = HubPort AwaitingRequest in
    let a = unrefused m place (first_failing (fails m place max) (checks_of place m)) (Pass msg) h refl in
    let p = passes_when (announces_dest (flags_in m)) m msg a.1 in
    let checks : checks_of place m ≡ head_checks ++ later_checks ++ C13 ∷ [] = ap (λ (b : Bool). head_checks ++ (cond b [] later_checks) ++ C13 ∷ []) p.0 in
    let all = none_fails (fails m place max) (head_checks ++ later_checks ++ C13 ∷ []) (ap (first_failing (fails m place max)) (sym checks) ∙ a.0) in
    let later = all.1.1.1.1.1 in
    let place_so : not (is_in_place (announces_dest (flags_in m)) place (function_in m) (origin_in m)) ≡ false = later.1.1.1.1.1.1.1.1.1.1.0 in
    let six_is : (function_in m == 6) ≡ true = true_from_ne_false (function_in m == 6)
    (λ isnt. true≢false (ap not (sym isnt) ∙ ap (λ (b : Bool). not (is_in_place b place (function_in m) (origin_in m))) (sym p.0) ∙ place_so)) in
    let function : function_in m ≡ 6 = eqb-true (function_in m) 6 six_is in
    let range = payload_in_range (function_in m) (data_options_in m) function later.1.0 later.1.1.1.1.1.1.1.1.0 in
    let body : body_in (function_in m) (rest_of (data_options_in m)) ≡ body_in 6 (rest_of (data_options_in m)) = ap (λ (n : ℕ). body_in n (rest_of (data_options_in m))) function in
    asked_in_range (rest_of (data_options_in m)) who range (ap who_asks (sym body) ∙ ap (λ (x : Message). who_asks x.body) p.1 ∙ asks)

-- ---- which messages lead to which steps
