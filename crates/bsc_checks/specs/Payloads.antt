-- What a payload says, and what is wrong with it.
use Rattle.std.specs.Prelude.{ℕ, ◌==◌, ◌||◌, ◌&&◌, nat_lt, not, if◌then◌else◌, Bool, true, false, List, [], ◌∷◌, length, drop, slice_index}
use Rattle.std.specs.Str.{is_utf8}
use Rattle.byteorder.specs.Endian.{big_number}
use Rattle.bsc_octets.specs.Addresses.{broadcast, zero_vmac, same_vmac}
use Rattle.bsc_octets.specs.Envelopes.{vmac_at}
use Rattle.bsc_octets.specs.Identities.{identity_of}
use Rattle.bsc_frame.specs.declared.answer.Answer.{Answer}
use Rattle.bsc_frame.specs.declared.answer.Answer.TheVariants.{Ack, Nak}
use Rattle.bsc_frame.specs.declared.advert.Advert.{Advert}
use Rattle.bsc_frame.specs.declared.body.Body.{Body}
use Rattle.bsc_frame.specs.declared.body.Body.TheVariants.{BvlcResult, Npdu, AddressResolution, AddressResolutionAck, Advertisement}
use Rattle.bsc_frame.specs.declared.body.Body.TheVariants.{AdvertisementSolicitation, ConnectRequest, ConnectAccept, DisconnectRequest}
use Rattle.bsc_frame.specs.declared.body.Body.TheVariants.{DisconnectAck, HeartbeatRequest, HeartbeatAck, Proprietary}
use Rattle.bsc_frame.specs.PayloadChecks.{result_code, expects_payload, fixed_part, takes_rest}

-- ---- what it says

-- The answer that the payload of a BVLC-Result says.
abbrev pub answer_in : List ℕ → Answer
answer_in p =
    if result_code p == 1 then Nak (slice_index p 0) (slice_index p 2) (big_number 2 (drop 3 p)) (big_number 2 (drop 5 p)) (drop 7 p)
    else Ack (slice_index p 0)

-- What the payload of an Advertisement says.
abbrev pub advert_in : List ℕ → Advert
advert_in p = record { status = slice_index p 0; accepts = slice_index p 1; max_bvlc = big_number 2 (drop 2 p); max_npdu = big_number 2 (drop 4 p) }

-- The body of this function that the payload says, each field read at its place.
abbrev pub body_in : ℕ → List ℕ → Body
body_in function p =
    if function == 0x00 then BvlcResult (answer_in p)
    else if function == 0x01 then Npdu p
    else if function == 0x02 then AddressResolution
    else if function == 0x03 then AddressResolutionAck p
    else if function == 0x04 then Advertisement (advert_in p)
    else if function == 0x05 then AdvertisementSolicitation
    else if function == 0x06 then ConnectRequest (identity_of p)
    else if function == 0x07 then ConnectAccept (identity_of p)
    else if function == 0x08 then DisconnectRequest
    else if function == 0x09 then DisconnectAck
    else if function == 0x0A then HeartbeatRequest
    else if function == 0x0B then HeartbeatAck
    else Proprietary (big_number 2 p) (slice_index p 2) (drop 3 p)

-- ---- what is wrong with it

-- Whether there is no octet.
abbrev pub is_nothing : List ℕ → Bool
is_nothing [] = true
is_nothing (x ∷ xs) = false

-- Whether there is no octet of a payload that the function has always.
abbrev pub is_missing : ℕ → List ℕ → Bool
is_missing function p = expects_payload function && is_nothing p

-- Whether the payload is shorter than its fixed part.
abbrev pub is_below_fixed_part : ℕ → List ℕ → Bool
is_below_fixed_part function p = nat_lt (length p) (fixed_part function p)

-- Whether octets follow a fixed part without rest.
abbrev pub is_beyond_fixed_part : ℕ → List ℕ → Bool
is_beyond_fixed_part function p = not (takes_rest function p) && nat_lt (fixed_part function p) (length p)

-- Whether the result code of a BVLC-Result is neither 0 nor 1.
abbrev pub has_unknown_result : ℕ → List ℕ → Bool
has_unknown_result function p = (function == 0x00) && nat_lt 1 (result_code p)

-- Whether the details of a NAK are not UTF-8.
abbrev pub has_bad_details : ℕ → List ℕ → Bool
has_bad_details function p = ((function == 0x00) && (result_code p == 1)) && not (is_utf8 (drop 7 p))

-- Whether the URIs of an Address-Resolution-ACK are not UTF-8.
abbrev pub has_bad_uris : ℕ → List ℕ → Bool
has_bad_uris function p = (function == 0x03) && not (is_utf8 p)

-- Whether the hub status of an Advertisement is above 2.
abbrev pub has_unknown_status : ℕ → List ℕ → Bool
has_unknown_status function p = (function == 0x04) && nat_lt 2 (slice_index p 0)

-- Whether what an Advertisement says of direct connections is above 1.
abbrev pub has_unknown_accepts : ℕ → List ℕ → Bool
has_unknown_accepts function p = (function == 0x04) && nat_lt 1 (slice_index p 1)

-- Whether the VMAC of a Connect-Request or of a Connect-Accept is the reserved one or the broadcast.
abbrev pub has_no_nodes_vmac : ℕ → List ℕ → Bool
has_no_nodes_vmac function p = ((function == 0x06) || (function == 0x07)) && (same_vmac (vmac_at p 0) zero_vmac || same_vmac (vmac_at p 0) broadcast)

-- Whether a value is out of its range, or a text is not UTF-8.
abbrev pub is_out_of_range : ℕ → List ℕ → Bool
is_out_of_range function p =
    has_unknown_result function p || (has_bad_details function p || (has_bad_uris function p || (has_unknown_status function p
    || (has_unknown_accepts function p || has_no_nodes_vmac function p))))
