-- Who names itself in a message that passed has no broadcast address.
-- It serves the clauses of `broadcasts_keep_off_slots`, `draws_last` and `slots_keep_apart`.
use Rattle.std.proofs.Common.{◌≡◌, ℕ, zero, suc, Bool, true, false, not, cond, ◌&&◌, ◌||◌, List, [], ◌∷◌, ◌++◌, drop, Option, Some, None, refl, ap, sym, ◌∙◌}
use Rattle.std.specs.Prelude.{◌==◌, is_none, if◌then◌else◌}
use Rattle.std.specs.List.{list_all}
use Rattle.bsc_octets.specs.declared.identity.Identity.{Identity}
use Rattle.bsc_octets.specs.Addresses.{same_vmac, zero_vmac, broadcast}
use Rattle.bsc_octets.specs.Envelopes.{vmac_at}
use Rattle.bsc_octets.specs.Identities.{identity_of}
use Rattle.bsc_octets.specs.Forwarding.{function_in}
use Rattle.bsc_octets.specs.Functions.{is_response}
use Rattle.bsc_frame.specs.declared.check.Check.{Check}
use Rattle.bsc_frame.specs.declared.check.Check.TheVariants.{C7, C7b, C8, C9, C10, C10b, C10c, C11, C12, C13}
use Rattle.bsc_frame.specs.declared.message.Message.{Message}
use Rattle.bsc_frame.specs.declared.body.Body.{Body}
use Rattle.bsc_frame.specs.declared.body.Body.TheVariants.{ConnectRequest, ConnectAccept}
use Rattle.bsc_checks.specs.declared.place.Place.{Place}
use Rattle.bsc_checks.specs.declared.verdict.Verdict.TheVariants.{Pass}
use Rattle.bsc_checks.specs.Places.{dest_in, is_to_carry}
use Rattle.bsc_checks.specs.Table.{code_of, checks_of, head_checks, later_checks}
use Rattle.bsc_checks.specs.Options.{Found, rest_of, data_options_in}
use Rattle.bsc_checks.specs.Payloads.{body_in, is_out_of_range, has_unknown_result, has_bad_details, has_bad_uris, has_unknown_status, has_unknown_accepts, has_no_nodes_vmac}
use Rattle.bsc_checks.specs.PlaceTests.{is_unicast}
use Rattle.bsc_checks.specs.Failing.{fails, of_payload}
use Rattle.bsc_checks.specs.Outcomes.{message_in, answered, refused, accepted, decided, first_failing, outcome_of}
use Rattle.bsc_checks.proofs.Common.{pass_same}
use Rattle.bsc_lemmas.proofs.Booleans.{and_left, and_right, not_true as not_false, or_right}
use Rattle.std.proofs.lemmas.Bool.{or_left as first_or, or_right as second_or}
use Rattle.std.proofs.lemmas.Option.{same_Some as some_same}

-- who names itself by a body
abbrev pub names : Body → Option Identity
names (ConnectRequest who) = Some who
names (ConnectAccept who) = Some who
names body = None

-- ---- a message passes only where no check fails

pub record Passed (m : List ℕ) (place : Place) (o : Option Check) (msg : Message) : Type 0 where
  pub none : o ≡ None
  pub not_carried : is_to_carry place m ≡ false
  pub message : message_in m ≡ msg

passed_answered : (b : Bool) (m : List ℕ) (place : Place) (check : Check) (code : ℕ) (o : Option Check) (msg : Message) → answered b m place check code ≡ Pass msg → Passed m place o msg
passed_answered true m place check code o msg h = cc
passed_answered false m place check code o msg h = cc

passed_refused : (m : List ℕ) (place : Place) (check : Check) (code : Option ℕ) (o : Option Check) (msg : Message) → refused m place check code ≡ Pass msg → Passed m place o msg
passed_refused m place check None o msg h = cc
passed_refused m place check (Some code) o msg h = passed_answered (is_unicast (dest_in m) && not (is_response (function_in m))) m place check code o msg h

passed_accepted : (b : Bool) (m : List ℕ) (place : Place) (msg : Message) → is_to_carry place m ≡ b → accepted b m ≡ Pass msg → Passed m place None msg
passed_accepted true m place msg c h = cc
passed_accepted false m place msg c h = record { none = refl; not_carried = c; message = pass_same (message_in m) msg h }

passed_decided : (m : List ℕ) (place : Place) (o : Option Check) (msg : Message) → decided m place o ≡ Pass msg → Passed m place o msg
passed_decided m place None msg h = passed_accepted (is_to_carry place m) m place msg refl h
passed_decided m place (Some check) msg h = passed_refused m place check (code_of check) (Some check) msg h

passed_judged : (m : List ℕ) (place : Place) (max : ℕ) (msg : Message) → outcome_of m place max ≡ Pass msg → Passed m place (first_failing (fails m place max) (checks_of place m)) msg
unfolding outcome_of
passed_judged m place max msg h = passed_decided m place (first_failing (fails m place max) (checks_of place m)) msg h

-- ---- each check that is made

none_fails : (test : Check → Bool) (checks : List Check) → first_failing test checks ≡ None → list_all (λ k. not (test k)) checks ≡ true
none_fails test [] h = refl
none_fails test (check ∷ rest) h = by (test check) (none_fails test rest) h
  where
    by : (b : Bool) → (first_failing test rest ≡ None → list_all (λ k. not (test k)) rest ≡ true)
        → elim b as (λ (x : Bool). Option Check) [ true ↦ Some check | false ↦ first_failing test rest ] ≡ None → (not b && list_all (λ k. not (test k)) rest) ≡ true
    by true later g = cc
    by false later g = later g

all_drop : (test : Check → Bool) (n : ℕ) (checks : List Check) → list_all test checks ≡ true → list_all test (drop n checks) ≡ true
all_drop test zero checks h = h
all_drop test (suc n) [] h = refl
all_drop test (suc n) (check ∷ rest) h = all_drop test n rest (and_right (test check) (list_all test rest) h)

all_here : (test : Check → Bool) (n : ℕ) (checks : List Check) (check : Check) (rest : List Check) → drop n checks ≡ check ∷ rest → list_all test checks ≡ true → test check ≡ true
all_here test n checks check rest d h = and_left (test check) (list_all test rest) (ap (list_all test) (sym d) ∙ all_drop test n checks h)

all_pass : (m : List ℕ) (place : Place) (max : ℕ) (msg : Message) → Passed m place (first_failing (fails m place max) (checks_of place m)) msg
    → list_all (λ k. not (fails m place max k)) (head_checks ++ later_checks ++ C13 ∷ []) ≡ true
all_pass m place max msg p =
    ap (λ (b : Bool). list_all (λ k. not (fails m place max k)) (head_checks ++ (if b then [] else later_checks) ++ C13 ∷ [])) (sym p.not_carried)
    ∙ none_fails (fails m place max) (checks_of place m) p.none

-- ---- who names itself

unicast_by : (p : List ℕ) (who : Identity) (b z : Bool) → b ≡ true → (b && (z || same_vmac (vmac_at p 0) broadcast)) ≡ false → Some (identity_of p) ≡ Some who → same_vmac who.vmac broadcast ≡ false
unicast_by p who true z e h n = ap (λ (w : Identity). same_vmac w.vmac broadcast) (sym (some_same (identity_of p) who n)) ∙ or_right z (same_vmac (vmac_at p 0) broadcast) h
unicast_by p who false z e h n = cc

named_if : (who : Identity) (b : Bool) (x y : Body) → (b ≡ true → names x ≡ Some who → same_vmac who.vmac broadcast ≡ false) → (names y ≡ Some who → same_vmac who.vmac broadcast ≡ false)
    → names (cond b x y) ≡ Some who → same_vmac who.vmac broadcast ≡ false
named_if who true x y f g h = f refl h
named_if who false x y f g h = g h

named_in : (f : ℕ) (p : List ℕ) (who : Identity) → has_no_nodes_vmac f p ≡ false → names (body_in f p) ≡ Some who → same_vmac who.vmac broadcast ≡ false
named_in f p who h n =
    named_if who (f == 0x00) _ _ (λ e g. cc) (named_if who (f == 0x01) _ _ (λ e g. cc)
    (named_if who (f == 0x02) _ _ (λ e g. cc) (named_if who (f == 0x03) _ _ (λ e g. cc) (named_if who (f == 0x04) _ _ (λ e g. cc) (named_if who (f == 0x05) _ _ (λ e g. cc)
    (named_if who (f == 0x06) _ _ (λ e g. unicast_by p who ((f == 0x06) || (f == 0x07)) (same_vmac (vmac_at p 0) zero_vmac) (first_or (f == 0x06) (f == 0x07) e) h g)
    (named_if who (f == 0x07) _ _ (λ e g. unicast_by p who ((f == 0x06) || (f == 0x07)) (same_vmac (vmac_at p 0) zero_vmac) (second_or (f == 0x06) (f == 0x07) e) h g)
    (named_if who (f == 0x08) _ _ (λ e g. cc) (named_if who (f == 0x09) _ _ (λ e g. cc) (named_if who (f == 0x0A) _ _ (λ e g. cc) (named_if who (f == 0x0B) _ _ (λ e g. cc) (λ g. cc)))))))))))) n

named_found : (f : ℕ) (o : Option Found) (who : Identity) → is_none o ≡ false → of_payload is_out_of_range f o ≡ false → names (body_in f (rest_of o)) ≡ Some who → same_vmac who.vmac broadcast ≡ false
named_found f None who some h n = cc
named_found f (Some found) who some h n =
    named_in f found.rest who
    (or_right (has_unknown_accepts f found.rest) (has_no_nodes_vmac f found.rest)
    (or_right (has_unknown_status f found.rest) (has_unknown_accepts f found.rest || has_no_nodes_vmac f found.rest)
    (or_right (has_bad_uris f found.rest) (has_unknown_status f found.rest || (has_unknown_accepts f found.rest || has_no_nodes_vmac f found.rest))
    (or_right (has_bad_details f found.rest) (has_bad_uris f found.rest || (has_unknown_status f found.rest || (has_unknown_accepts f found.rest || has_no_nodes_vmac f found.rest)))
    (or_right (has_unknown_result f found.rest)
    (has_bad_details f found.rest || (has_bad_uris f found.rest || (has_unknown_status f found.rest || (has_unknown_accepts f found.rest || has_no_nodes_vmac f found.rest)))) h))))) n

-- Who names itself in a message that passed has no broadcast address.
pub named-unicast : (m : List ℕ) (place : Place) (max : ℕ) (msg : Message) (who : Identity) → outcome_of m place max ≡ Pass msg → names msg.body ≡ Some who → same_vmac who.vmac broadcast ≡ false
named-unicast m place max msg who h n =
    let p : Passed m place (first_failing (fails m place max) (checks_of place m)) msg = passed_judged m place max msg h in
    let all : list_all (λ k. not (fails m place max k)) (head_checks ++ later_checks ++ C13 ∷ []) ≡ true = all_pass m place max msg p in
    named_found (function_in m) (data_options_in m) who
    (not_false (fails m place max C7) (all_here (λ k. not (fails m place max k)) 6 (head_checks ++ later_checks ++ C13 ∷ []) C7 (C7b ∷ C8 ∷ C9 ∷ C10 ∷ C10b ∷ C10c ∷ C11 ∷ C12 ∷ C13 ∷ []) refl all))
    (not_false (fails m place max C11) (all_here (λ k. not (fails m place max k)) 13 (head_checks ++ later_checks ++ C13 ∷ []) C11 (C12 ∷ C13 ∷ []) refl all))
    (ap (λ (x : Message). names x.body) p.message ∙ n)
