-- What passes with an NPDU is an Encapsulated-NPDU, and what a hub passes on is one where what came was.
-- It serves bsc_network_laws and bsc_network_of_runs.
use Rattle.std.proofs.Common.{◌≡◌, ℕ, Bool, true, false, cond, List, refl, ap, ◌∙◌}
use Rattle.std.specs.Prelude.{◌==◌}
use Rattle.bsc_octets.specs.declared.vmac.Vmac.{Vmac}
use Rattle.bsc_octets.specs.Forwarding.{function_in, out}
use Rattle.bsc_octets.specs.Functions.{is_npdu}
use Rattle.bsc_frame.specs.declared.message.Message.{Message}
use Rattle.bsc_frame.specs.declared.body.Body.{Body}
use Rattle.bsc_frame.specs.declared.body.Body.TheVariants.{Npdu}
use Rattle.bsc_checks.specs.declared.place.Place.{Place}
use Rattle.bsc_checks.specs.declared.verdict.Verdict.TheVariants.{Pass}
use Rattle.bsc_checks.specs.Options.{data_options_in, rest_of}
use Rattle.bsc_checks.specs.Outcomes.{outcome_of}
use Rattle.bsc_checks.specs.Payloads.{body_in}
use Rattle.bsc_direct.proofs.OneMore.{both_ways}
use Rattle.bsc_node.proofs.Heard.{is_npdu_body}
use Rattle.bsc_node_identity.proofs.Carried.{passed-said}

no-if : (b : Bool) (x y : Body) → (b ≡ true → is_npdu_body x ≡ false) → is_npdu_body y ≡ false → is_npdu_body (cond b x y) ≡ false
no-if true x y p q = p refl
no-if false x y p q = q

no_npdu_in : (f : ℕ) (p : List ℕ) → (f == 0x01) ≡ false → is_npdu_body (body_in f p) ≡ false
no_npdu_in f p npdu =
    no-if (f == 0x00) _ _ (λ e. refl) (no-if (f == 0x01) _ _ (λ e. both_ways (f == 0x01) e npdu)
    (no-if (f == 0x02) _ _ (λ e. refl) (no-if (f == 0x03) _ _ (λ e. refl) (no-if (f == 0x04) _ _ (λ e. refl) (no-if (f == 0x05) _ _ (λ e. refl)
    (no-if (f == 0x06) _ _ (λ e. refl) (no-if (f == 0x07) _ _ (λ e. refl) (no-if (f == 0x08) _ _ (λ e. refl) (no-if (f == 0x09) _ _ (λ e. refl)
    (no-if (f == 0x0A) _ _ (λ e. refl) (no-if (f == 0x0B) _ _ (λ e. refl) refl)))))))))))

-- A message that passes with an NPDU is an Encapsulated-NPDU.
pub passed-npdu : (o : List ℕ) (place : Place) (max : ℕ) (msg : Message) (npdu : List ℕ) → outcome_of o place max ≡ Pass msg → msg.body ≡ Npdu npdu → is_npdu o ≡ true
passed-npdu o place max msg npdu passed body = by (is_npdu o) refl
  where
    said : is_npdu_body (body_in (function_in o) (rest_of (data_options_in o))) ≡ true
    said = ap (λ (m : Message). is_npdu_body m.body) (passed-said o place max msg passed) ∙ ap is_npdu_body body

    by : (b : Bool) → is_npdu o ≡ b → is_npdu o ≡ true
    by true is = is
    by false is = both_ways (is_npdu_body (body_in (function_in o) (rest_of (data_options_in o)))) said (no_npdu_in (function_in o) (rest_of (data_options_in o)) is)

pub out-npdu : (m : List ℕ) (v : Vmac) → is_npdu (out m v) ≡ is_npdu m
unfolding out
out-npdu m v = refl
