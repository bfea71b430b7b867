-- The octets of a message that was put say that message, and so does what the hub passes on of it.
-- It serves clauses of functions of `laws`.
use Rattle.std.proofs.Common.{◌≡◌, ◌<◌, inl, inr, ℕ, Bool, true, false, not, cond, ◌&&◌, List, [], ◌∷◌, ◌++◌, length, Option, Some, None, refl, ap, sym, ◌∙◌, arith}
use Rattle.std.specs.Prelude.{◌^◌, ◌==◌, if◌then◌else◌, bit_or, bit_and}
use Rattle.byteorder.specs.Endian.{big_bytes}
use Rattle.bsc_octets.specs.Addresses.{same_vmac, broadcast}
use Rattle.bsc_octets.specs.Forwarding.{function_in, out}
use Rattle.bsc_octets.specs.Functions.{is_response}
use Rattle.bsc_octets.proofs.TwoOctets.{two_octet_number}
use Rattle.bsc_frame.specs.declared.check.Check.{Check}
use Rattle.bsc_frame.specs.declared.message.Message.{Message}
use Rattle.bsc_frame.specs.declared.body.Body.{Body}
use Rattle.bsc_frame.specs.declared.body.Body.TheVariants.{Npdu, AddressResolutionAck, ConnectRequest, ConnectAccept}
use Rattle.bsc_frame.specs.Payloads.{function_of, payload_of}
use Rattle.bsc_frame.proofs.Bodies.{body_again}
use Rattle.bsc_checks.specs.declared.place.Place.{Place}
use Rattle.bsc_checks.specs.declared.verdict.Verdict.TheVariants.{Pass}
use Rattle.bsc_checks.specs.Places.{dest_in, is_to_carry}
use Rattle.bsc_checks.specs.Table.{code_of, checks_of}
use Rattle.bsc_checks.specs.Options.{rest_of, data_options_in}
use Rattle.bsc_checks.specs.Payloads.{body_in}
use Rattle.bsc_direct.proofs.OneMore.{both_ways}
use Rattle.bsc_checks.specs.PlaceTests.{is_unicast}
use Rattle.bsc_checks.specs.Failing.{fails}
use Rattle.bsc_checks.specs.Outcomes.{message_in, answered, refused, accepted, decided, first_failing, outcome_of}
use Rattle.bsc_node.specs.Messages.{message, message_octets}
use Rattle.bsc_node_identity.specs.Naming.{named_by, ConnectsNameTheirPeer, OthersNameNobody}
use Rattle.bsc_node_identity.specs.Carried.{IsCarriedOn, IsCarriedPlainly}
use Rattle.bsc_checks.proofs.Common.{pass_same as same_pass}
use Rattle.std.proofs.lemmas.Bool.{or_parts as either_clear}

-- ---- what passes is what the octets say

said_answered : (b : Bool) (m : List ℕ) (place : Place) (check : Check) (code : ℕ) (msg : Message) → answered b m place check code ≡ Pass msg → message_in m ≡ msg
said_answered true m place check code msg h = cc
said_answered false m place check code msg h = cc

said_refused : (m : List ℕ) (place : Place) (check : Check) (code : Option ℕ) (msg : Message) → refused m place check code ≡ Pass msg → message_in m ≡ msg
said_refused m place check None msg h = cc
said_refused m place check (Some code) msg h = said_answered (is_unicast (dest_in m) && not (is_response (function_in m))) m place check code msg h

said_accepted : (b : Bool) (m : List ℕ) (msg : Message) → accepted b m ≡ Pass msg → message_in m ≡ msg
said_accepted true m msg h = cc
said_accepted false m msg h = same_pass (message_in m) msg h

said_decided : (m : List ℕ) (place : Place) (o : Option Check) (msg : Message) → decided m place o ≡ Pass msg → message_in m ≡ msg
said_decided m place None msg h = said_accepted (is_to_carry place m) m msg h
said_decided m place (Some check) msg h = said_refused m place check (code_of check) msg h

-- A message that passed is the one that its octets say.
pub passed-said : (m : List ℕ) (place : Place) (max : ℕ) (msg : Message) → outcome_of m place max ≡ Pass msg → message_in m ≡ msg
unfolding outcome_of
passed-said m place max msg h = said_decided m place (first_failing (fails m place max) (checks_of place m)) msg h

-- ---- over a direct connection

-- whether the payload of a body says that body
abbrev SaysItself : Body → Type 0
SaysItself body = body_in (function_of body) (payload_of body) ≡ body

plain_said : (id : ℕ) (body : Body) → SaysItself body → id < 2 ^ 16 → message_in (message_octets id None body) ≡ message id None body
plain_said id body says small = ap (λ (n : ℕ). message n None (body_in (function_of body) (payload_of body))) (two_octet_number id [] small) ∙ ap (λ (b : Body). message id None b) says

carried_plainly : (body : Body) → SaysItself body → IsCarriedPlainly body
carried_plainly body says id place max msg small h = sym (passed-said (message_octets id None body) place max msg h) ∙ plain_said id body says small

pub npdus_plainly : (npdu : List ℕ) → IsCarriedPlainly (Npdu npdu)
npdus_plainly npdu = carried_plainly (Npdu npdu) refl

pub uris_plainly : (uris : List ℕ) → IsCarriedPlainly (AddressResolutionAck uris)
uris_plainly uris = carried_plainly (AddressResolutionAck uris) refl

-- ---- over a hub

-- six octets
pub data Six : List ℕ → Type 0 where
  six : (a b c d e f : ℕ) → Six (a ∷ b ∷ c ∷ d ∷ e ∷ f ∷ [])

pub six_of : (xs : List ℕ) → length xs ≡ 6 → Six xs
six_of (a ∷ b ∷ c ∷ d ∷ e ∷ f ∷ []) h = six a b c d e f
six_of (a ∷ b ∷ c ∷ d ∷ e ∷ f ∷ g ∷ xs) h = absurd (omega (arith, h))
six_of (a ∷ b ∷ c ∷ d ∷ e ∷ []) h = absurd (omega (arith, h))
six_of (a ∷ b ∷ c ∷ d ∷ []) h = absurd (omega (arith, h))
six_of (a ∷ b ∷ c ∷ []) h = absurd (omega (arith, h))
six_of (a ∷ b ∷ []) h = absurd (omega (arith, h))
six_of (a ∷ []) h = absurd (omega (arith, h))
six_of [] h = absurd (omega (arith, h))

-- what the hub passes on, for all or for one
abbrev sent_on : ℕ → List ℕ → Bool → Body → List ℕ
sent_on id v b body = (function_of body ∷ (if b then bit_or 4 8 else bit_and (bit_or 4 8) 251) ∷ big_bytes 2 id) ++ v ++ (if b then broadcast.0 else []) ++ payload_of body

-- the message that this says
abbrev said_on : ℕ → List ℕ → Bool → Body → Message
said_on id v b body = record (message id (if b then Some broadcast else None) body) { origin = Some (record { 0 = v }) }

out_is : (id : ℕ) (v dest : List ℕ) (body : Body) → Six dest → out (message_octets id (Some (record { 0 = dest })) body) (record { 0 = v })
    ≡ sent_on id v (same_vmac (record { 0 = dest }) broadcast) body
unfolding out
out_is id v dest body (six a b c d e f) = refl

on_said : (id : ℕ) (v : List ℕ) (b : Bool) (body : Body) → SaysItself body → Six v → id < 2 ^ 16 → message_in (sent_on id v b body) ≡ said_on id v b body
on_said id v true body says (six a b c d e f) small =
    ap (λ (n : ℕ). said_on n (a ∷ b ∷ c ∷ d ∷ e ∷ f ∷ []) true (body_in (function_of body) (payload_of body))) (two_octet_number id [] small) ∙ ap (said_on id (a ∷ b ∷ c ∷ d ∷ e ∷ f ∷ []) true) says
on_said id v false body says (six a b c d e f) small =
    ap (λ (n : ℕ). said_on n (a ∷ b ∷ c ∷ d ∷ e ∷ f ∷ []) false (body_in (function_of body) (payload_of body))) (two_octet_number id [] small) ∙ ap (said_on id (a ∷ b ∷ c ∷ d ∷ e ∷ f ∷ []) false) says

carried_on : (body : Body) → SaysItself body → IsCarriedOn body
carried_on body says id v dest place max msg small whole six_dest h =
    sym (passed-said (out (message_octets id (Some dest) body) v) place max msg h)
    ∙ ap message_in (out_is id v.0 dest.0 body (six_of dest.0 six_dest))
    ∙ on_said id v.0 (same_vmac dest broadcast) body says (six_of v.0 whole) small

pub npdus_on : (npdu : List ℕ) → IsCarriedOn (Npdu npdu)
npdus_on npdu = carried_on (Npdu npdu) refl

pub uris_on : (uris : List ℕ) → IsCarriedOn (AddressResolutionAck uris)
uris_on uris = carried_on (AddressResolutionAck uris) refl

-- ---- who is named

pub connects_name_their_peer : ConnectsNameTheirPeer
connects_name_their_peer who o place max msg node (id, inl is) h =
    ap (λ (m : Message). named_by m.body) (sym (passed-said o place max msg h) ∙ ap message_in is) ∙ ap named_by (body_again (ConnectRequest who) node)
connects_name_their_peer who o place max msg node (id, inr is) h =
    ap (λ (m : Message). named_by m.body) (sym (passed-said o place max msg h) ∙ ap message_in is) ∙ ap named_by (body_again (ConnectAccept who) node)

nobody_if : (b : Bool) (x y : Body) → (b ≡ true → named_by x ≡ None) → named_by y ≡ None → named_by (cond b x y) ≡ None
nobody_if true x y p q = p refl
nobody_if false x y p q = q

nobody_in : (f : ℕ) (p : List ℕ) → (f == 0x06) ≡ false → (f == 0x07) ≡ false → named_by (body_in f p) ≡ None
nobody_in f p request accept =
    nobody_if (f == 0x00) _ _ (λ e. refl) (nobody_if (f == 0x01) _ _ (λ e. refl)
    (nobody_if (f == 0x02) _ _ (λ e. refl) (nobody_if (f == 0x03) _ _ (λ e. refl) (nobody_if (f == 0x04) _ _ (λ e. refl) (nobody_if (f == 0x05) _ _ (λ e. refl)
    (nobody_if (f == 0x06) _ _ (λ e. both_ways (f == 0x06) e request) (nobody_if (f == 0x07) _ _ (λ e. both_ways (f == 0x07) e accept)
    (nobody_if (f == 0x08) _ _ (λ e. refl) (nobody_if (f == 0x09) _ _ (λ e. refl)
    (nobody_if (f == 0x0A) _ _ (λ e. refl) (nobody_if (f == 0x0B) _ _ (λ e. refl) refl)))))))))))

pub others_name_nobody : OthersNameNobody
others_name_nobody o place max msg other h =
    let clear = either_clear (function_in o == 0x06) (function_in o == 0x07) other in
    ap (λ (m : Message). named_by m.body) (sym (passed-said o place max msg h)) ∙ nobody_in (function_in o) (rest_of (data_options_in o)) clear.0 clear.1
