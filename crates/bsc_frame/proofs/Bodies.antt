-- A body that has a payload: its checks pass, and no other body has that function and payload.
-- It serves the clauses of `one_check`, `one_spelling` and `read`.
use Rattle.std.proofs.Common.{◌≡◌, ◌≢◌, ℕ, ◌≤◌, ◌⊎◌, inl, inr, true, false, List, [], ◌∷◌, ◌++◌, length, get_or, drop, refl, sym, ap, ◌∙◌, arith, length-append, if◌then◌else◌}
use Rattle.std.specs.Prelude.{◌==◌}
use Rattle.std.specs.Str.{IsUtf8}
use Rattle.byteorder.specs.Endian.{big_bytes, big_number}
use Rattle.bsc_octets.specs.declared.identity.Identity.{Identity}
use Rattle.bsc_octets.specs.Addresses.{broadcast, zero_vmac}
use Rattle.bsc_octets.specs.Envelopes.{vmac_at}
use Rattle.bsc_octets.specs.Identities.{identity_octets, identity_of}
use Rattle.bsc_octets.proofs.TwoOctets.{two_octet_number}
use Rattle.bsc_octets.proofs.IdentityOctets.{identity_of-octets}
use Rattle.bsc_frame.specs.declared.answer.Answer.{Answer}
use Rattle.bsc_frame.specs.declared.answer.Answer.TheVariants.{Ack, Nak}
use Rattle.bsc_frame.specs.declared.advert.Advert.{Advert}
use Rattle.bsc_frame.specs.declared.body.Body.{Body}
use Rattle.bsc_frame.specs.declared.body.Body.TheVariants.{BvlcResult, Npdu, AddressResolution, AddressResolutionAck, Advertisement, AdvertisementSolicitation, ConnectRequest}
use Rattle.bsc_frame.specs.declared.body.Body.TheVariants.{ConnectAccept, DisconnectRequest, DisconnectAck, HeartbeatRequest, HeartbeatAck, Proprietary}
use Rattle.bsc_frame.specs.Payloads.{function_of, payload_of, advert_octets, HasPayload, IsNode}
use Rattle.bsc_frame.specs.PayloadChecks.{fixed_part, takes_rest, result_code, IsMissing, IsOutOfRange}
use Rattle.bsc_frame.specs.Walk.{PayloadFails, payload_checks}
use Rattle.bsc_frame.proofs.First.{Pass}
use Rattle.bsc_frame.proofs.PayloadFirst.{is_there, is_not_expected}

-- ---- the checks pass

pass_whole : (f : ℕ) (p : List ℕ) (n : ℕ) → (IsMissing f p → ⊥) → fixed_part f p ≡ n → length p ≡ n → (IsOutOfRange f p → ⊥) → Pass (PayloadFails f p) payload_checks
pass_whole f p n there fixed long range = (there, ((λ below. absurd (omega arith)), ((λ beyond. absurd (let more = beyond.1 in omega arith)), (range, tt))))

pass_with_rest : (f : ℕ) (p : List ℕ) (n : ℕ) → (IsMissing f p → ⊥) → fixed_part f p ≡ n → n ≤ length p → takes_rest f p ≡ true → (IsOutOfRange f p → ⊥) → Pass (PayloadFails f p) payload_checks
pass_with_rest f p n there fixed long rest range = (there, ((λ below. absurd (omega arith)), ((λ beyond. (let both : true ≡ false = sym rest ∙ beyond.0 in absurd cc)), (range, tt))))

in_range : (f : ℕ) (p : List ℕ) → (f ≡ 0 → (result_code p ≤ 1) × (result_code p ≡ 1 → IsUtf8 (drop 7 p))) → (f ≡ 3 → IsUtf8 p) → (f ≡ 4 → (get_or p 0 0 ≤ 2) × (get_or p 1 0 ≤ 1))
    → ((f ≡ 6) ⊎ (f ≡ 7) → (vmac_at p 0 ≢ zero_vmac) × (vmac_at p 0 ≢ broadcast)) → IsOutOfRange f p → ⊥
in_range f p answers uris advert node (inl h) = let least = (answers h.0).0 in let more = h.1 in absurd (omega arith)
in_range f p answers uris advert node (inr (inl h)) = h.2 ((answers h.0).1 h.1)
in_range f p answers uris advert node (inr (inr (inl h))) = h.1 (uris h.0)
in_range f p answers uris advert node (inr (inr (inr (inl h)))) = let least = (advert h.0).0 in let more = h.1 in absurd (omega arith)
in_range f p answers uris advert node (inr (inr (inr (inr (inl h))))) = let least = (advert h.0).1 in let more = h.1 in absurd (omega arith)
in_range f p answers uris advert node (inr (inr (inr (inr (inr h))))) = elim h.1 [ inl reserved ↦ (node h.0).0 reserved | inr all ↦ (node h.0).1 all ]

bare_passes : (f : ℕ) → (IsMissing f [] → ⊥) → fixed_part f [] ≡ 0 → (f ≢ 0) → (f ≢ 3) → (f ≢ 4) → (f ≢ 6) → (f ≢ 7) → Pass (PayloadFails f []) payload_checks
bare_passes f there fixed n0 n3 n4 n6 n7 =
    pass_whole f [] 0 there fixed refl (in_range f [] (λ e. absurd (n0 e)) (λ e. absurd (n3 e)) (λ e. absurd (n4 e)) (λ e. elim e [ inl six ↦ absurd (n6 six) | inr seven ↦ absurd (n7 seven) ]))

node_long : (who : Identity) → IsNode who → length (identity_octets who) ≡ 26
node_long who node =
    let v = who.vmac.0 in
    let d = who.device.0 in
    let b = big_bytes 2 who.max_bvlc in
    let address = node.address in
    let device = node.device in
    omega (arith, length-append ((v ++ d) ++ b) (big_bytes 2 who.max_npdu), length-append (v ++ d) b, length-append v d)

node_passes : (f : ℕ) (who : Identity) → (f ≡ 6) ⊎ (f ≡ 7) → IsNode who → fixed_part f (identity_octets who) ≡ 26 → Pass (PayloadFails f (identity_octets who)) payload_checks
node_passes f who is node fixed =
    let p = identity_octets who in
    let long = node_long who node in
    let again = identity_of-octets who node.address node.device node.bvlc node.npdu in
    let vmac : vmac_at p 0 ≡ who.vmac = ap (λ (i : Identity). i.vmac) again in
    pass_whole f p 26 (is_there f p (omega arith)) fixed long
    (in_range f p (λ e. absurd (elim is [ inl six ↦ omega arith | inr seven ↦ omega arith ])) (λ e. absurd (elim is [ inl six ↦ omega arith | inr seven ↦ omega arith ]))
    (λ e. absurd (elim is [ inl six ↦ omega arith | inr seven ↦ omega arith ]))
    (λ e. ((λ reserved. node.reserved (sym vmac ∙ reserved)), (λ all. node.broadcast (sym vmac ∙ all)))))

pub body_passes : (body : Body) → HasPayload body → Pass (PayloadFails (function_of body) (payload_of body)) payload_checks
body_passes (BvlcResult (Ack function)) has =
    let p = function ∷ 0x00 ∷ [] in
    pass_whole 0 p 2 (is_not_expected 0 p refl) refl refl (in_range 0 p (λ e. (omega arith, (λ nak. absurd (omega arith)))) (λ e. absurd (omega arith)) (λ e. absurd (omega arith))
    (λ e. absurd (elim e [ inl six ↦ omega arith | inr seven ↦ omega arith ])))
body_passes (BvlcResult (Nak function marker class code details)) has =
    let p = (function ∷ 0x01 ∷ marker ∷ []) ++ big_bytes 2 class ++ big_bytes 2 code ++ details in
    pass_with_rest 0 p 7 (is_not_expected 0 p refl) refl (omega arith) refl
    (in_range 0 p (λ e. (omega arith, (λ nak. has.2))) (λ e. absurd (omega arith)) (λ e. absurd (omega arith)) (λ e. absurd (elim e [ inl six ↦ omega arith | inr seven ↦ omega arith ])))
body_passes (Npdu npdu) has =
    pass_with_rest 1 npdu 1 (is_there 1 npdu has) refl has refl (in_range 1 npdu (λ e. absurd (omega arith)) (λ e. absurd (omega arith)) (λ e. absurd (omega arith))
    (λ e. absurd (elim e [ inl six ↦ omega arith | inr seven ↦ omega arith ])))
body_passes AddressResolution has = bare_passes 2 (is_not_expected 2 [] refl) refl (λ e. omega arith) (λ e. omega arith) (λ e. omega arith) (λ e. omega arith) (λ e. omega arith)
body_passes (AddressResolutionAck uris) has =
    pass_with_rest 3 uris 0 (is_not_expected 3 uris refl) refl (omega arith) refl
    (in_range 3 uris (λ e. absurd (omega arith)) (λ e. has) (λ e. absurd (omega arith)) (λ e. absurd (elim e [ inl six ↦ omega arith | inr seven ↦ omega arith ])))
body_passes (Advertisement advert) has =
    let p = advert_octets advert in
    pass_whole 4 p 6 (is_there 4 p (omega arith)) refl refl (in_range 4 p (λ e. absurd (omega arith)) (λ e. absurd (omega arith)) (λ e. (has.status, has.accepts))
    (λ e. absurd (elim e [ inl six ↦ omega arith | inr seven ↦ omega arith ])))
body_passes AdvertisementSolicitation has = bare_passes 5 (is_not_expected 5 [] refl) refl (λ e. omega arith) (λ e. omega arith) (λ e. omega arith) (λ e. omega arith) (λ e. omega arith)
body_passes (ConnectRequest who) has = node_passes 6 who (inl refl) has refl
body_passes (ConnectAccept who) has = node_passes 7 who (inr refl) has refl
body_passes DisconnectRequest has = bare_passes 8 (is_not_expected 8 [] refl) refl (λ e. omega arith) (λ e. omega arith) (λ e. omega arith) (λ e. omega arith) (λ e. omega arith)
body_passes DisconnectAck has = bare_passes 9 (is_not_expected 9 [] refl) refl (λ e. omega arith) (λ e. omega arith) (λ e. omega arith) (λ e. omega arith) (λ e. omega arith)
body_passes HeartbeatRequest has = bare_passes 10 (is_not_expected 10 [] refl) refl (λ e. omega arith) (λ e. omega arith) (λ e. omega arith) (λ e. omega arith) (λ e. omega arith)
body_passes HeartbeatAck has = bare_passes 11 (is_not_expected 11 [] refl) refl (λ e. omega arith) (λ e. omega arith) (λ e. omega arith) (λ e. omega arith) (λ e. omega arith)
body_passes (Proprietary vendor function content) has =
    let p = big_bytes 2 vendor ++ function ∷ content in
    pass_with_rest 12 p 3 (is_there 12 p (omega arith)) refl (omega arith) refl
    (in_range 12 p (λ e. absurd (omega arith)) (λ e. absurd (omega arith)) (λ e. absurd (omega arith)) (λ e. absurd (elim e [ inl six ↦ omega arith | inr seven ↦ omega arith ])))

-- ---- one body

-- the body of a function that a payload says, each field read at its place
abbrev answer_in : List ℕ → Answer
answer_in p = if result_code p == 1 then Nak (get_or p 0 0) (get_or p 2 0) (big_number 2 (drop 3 p)) (big_number 2 (drop 5 p)) (drop 7 p) else Ack (get_or p 0 0)

abbrev advert_in : List ℕ → Advert
advert_in p = record { status = get_or p 0 0; accepts = get_or p 1 0; max_bvlc = big_number 2 (drop 2 p); max_npdu = big_number 2 (drop 4 p) }

abbrev body_in : ℕ → List ℕ → Body
body_in f p =
    if f == 0x00 then BvlcResult (answer_in p)
    else if f == 0x01 then Npdu p
    else if f == 0x02 then AddressResolution
    else if f == 0x03 then AddressResolutionAck p
    else if f == 0x04 then Advertisement (advert_in p)
    else if f == 0x05 then AdvertisementSolicitation
    else if f == 0x06 then ConnectRequest (identity_of p)
    else if f == 0x07 then ConnectAccept (identity_of p)
    else if f == 0x08 then DisconnectRequest
    else if f == 0x09 then DisconnectAck
    else if f == 0x0A then HeartbeatRequest
    else if f == 0x0B then HeartbeatAck
    else Proprietary (big_number 2 p) (get_or p 2 0) (drop 3 p)

pub body_again : (body : Body) → HasPayload body → body_in (function_of body) (payload_of body) ≡ body
body_again (BvlcResult (Ack function)) has = refl
body_again (BvlcResult (Nak function marker class code details)) has =
    let first : big_number 2 (big_bytes 2 class ++ big_bytes 2 code ++ details) ≡ class = two_octet_number class (big_bytes 2 code ++ details) has.0 in
    let second : big_number 2 (big_bytes 2 code ++ details) ≡ code = two_octet_number code details has.1 in
    ap (λ (n : ℕ). BvlcResult (Nak function marker n (big_number 2 (big_bytes 2 code ++ details)) details)) first ∙ ap (λ (n : ℕ). BvlcResult (Nak function marker class n details)) second
body_again (Npdu npdu) has = refl
body_again AddressResolution has = refl
body_again (AddressResolutionAck uris) has = refl
body_again (Advertisement advert) has =
    let first : big_number 2 (big_bytes 2 advert.max_bvlc ++ big_bytes 2 advert.max_npdu) ≡ advert.max_bvlc = two_octet_number advert.max_bvlc (big_bytes 2 advert.max_npdu) has.bvlc in
    let second : big_number 2 (big_bytes 2 advert.max_npdu ++ []) ≡ advert.max_npdu = two_octet_number advert.max_npdu [] has.npdu in
    rw (first, second) refl
body_again AdvertisementSolicitation has = refl
body_again (ConnectRequest who) has = ap ConnectRequest (identity_of-octets who has.address has.device has.bvlc has.npdu)
body_again (ConnectAccept who) has = ap ConnectAccept (identity_of-octets who has.address has.device has.bvlc has.npdu)
body_again DisconnectRequest has = refl
body_again DisconnectAck has = refl
body_again HeartbeatRequest has = refl
body_again HeartbeatAck has = refl
body_again (Proprietary vendor function content) has = ap (λ (n : ℕ). Proprietary n function content) (two_octet_number vendor (function ∷ content) has)

pub one_body : (x y : Body) → HasPayload x → HasPayload y → function_of x ≡ function_of y → payload_of x ≡ payload_of y → x ≡ y
one_body x y has other function payload =
    sym (body_again x has) ∙ ap (λ (f : ℕ). body_in f (payload_of x)) function ∙ ap (body_in (function_of y)) payload ∙ body_again y other

pub function_le : (body : Body) → function_of body ≤ 0x0C
function_le (BvlcResult answer) = omega arith
function_le (Npdu npdu) = omega arith
function_le AddressResolution = omega arith
function_le (AddressResolutionAck uris) = omega arith
function_le (Advertisement advert) = omega arith
function_le AdvertisementSolicitation = omega arith
function_le (ConnectRequest who) = omega arith
function_le (ConnectAccept who) = omega arith
function_le DisconnectRequest = omega arith
function_le DisconnectAck = omega arith
function_le HeartbeatRequest = omega arith
function_le HeartbeatAck = omega arith
function_le (Proprietary vendor function content) = omega arith
