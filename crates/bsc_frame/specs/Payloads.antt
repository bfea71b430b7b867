-- The payload of each function (Annex AB, "BVLC Functions"): its octets, and what it can say. Both directions use these layouts.
use Rattle.std.specs.Prelude.{⊤, ◌≡◌, ◌≢◌, ℕ, ◌<◌, ◌≤◌, ◌^◌, List, [], ◌∷◌, ◌++◌, length}
use Rattle.std.specs.Str.{IsUtf8}
use Rattle.byteorder.specs.Endian.{big_bytes}
use Rattle.bsc_octets.specs.declared.identity.Identity.{Identity}
use Rattle.bsc_octets.specs.Addresses.{broadcast, zero_vmac}
use Rattle.bsc_octets.specs.Identities.{identity_octets}
use Rattle.bsc_frame.specs.declared.answer.Answer.{Answer}
use Rattle.bsc_frame.specs.declared.answer.Answer.TheVariants.{Ack, Nak}
use Rattle.bsc_frame.specs.declared.advert.Advert.{Advert}
use Rattle.bsc_frame.specs.declared.body.Body.{Body}
use Rattle.bsc_frame.specs.declared.body.Body.TheVariants.{BvlcResult, Npdu, AddressResolution, AddressResolutionAck, Advertisement}
use Rattle.bsc_frame.specs.declared.body.Body.TheVariants.{AdvertisementSolicitation, ConnectRequest, ConnectAccept, DisconnectRequest}
use Rattle.bsc_frame.specs.declared.body.Body.TheVariants.{DisconnectAck, HeartbeatRequest, HeartbeatAck, Proprietary}

-- ---- their octets

-- A BVLC-Result: the function answered, and 00 for an ACK; for a NAK 01, the header marker, the error class and the error
-- code in two octets each, and the details.
abbrev pub answer_octets : Answer → List ℕ
answer_octets (Ack function) = function ∷ 0x00 ∷ []
answer_octets (Nak function marker class code details) = (function ∷ 0x01 ∷ marker ∷ []) ++ big_bytes 2 class ++ big_bytes 2 code ++ details

-- An Advertisement: hub status, whether direct connections are accepted, maximum BVLC length and maximum NPDU length.
abbrev pub advert_octets : Advert → List ℕ
advert_octets advert = (advert.status ∷ advert.accepts ∷ []) ++ big_bytes 2 advert.max_bvlc ++ big_bytes 2 advert.max_npdu

-- A Proprietary-Message: vendor, the vendor's own function, and its data.
abbrev pub proprietary_octets : ℕ → ℕ → List ℕ → List ℕ
proprietary_octets vendor function content = big_bytes 2 vendor ++ function ∷ content

-- The BVLC function of a body.
abbrev pub function_of : Body → ℕ
function_of (BvlcResult answer) = 0x00
function_of (Npdu npdu) = 0x01
function_of AddressResolution = 0x02
function_of (AddressResolutionAck uris) = 0x03
function_of (Advertisement advert) = 0x04
function_of AdvertisementSolicitation = 0x05
function_of (ConnectRequest who) = 0x06
function_of (ConnectAccept who) = 0x07
function_of DisconnectRequest = 0x08
function_of DisconnectAck = 0x09
function_of HeartbeatRequest = 0x0A
function_of HeartbeatAck = 0x0B
function_of (Proprietary vendor function content) = 0x0C

-- The payload of a body.
abbrev pub payload_of : Body → List ℕ
payload_of (BvlcResult answer) = answer_octets answer
payload_of (Npdu npdu) = npdu
payload_of (AddressResolutionAck uris) = uris
payload_of (Advertisement advert) = advert_octets advert
payload_of (ConnectRequest who) = identity_octets who
payload_of (ConnectAccept who) = identity_octets who
payload_of (Proprietary vendor function content) = proprietary_octets vendor function content
payload_of body = []

-- ---- what they can say; a number of two octets fits them

-- A NAK has details in UTF-8.
abbrev pub IsAnswer : Answer → Type 0
IsAnswer (Ack function) = ⊤
IsAnswer (Nak function marker class code details) = (class < 2 ^ 16) × (code < 2 ^ 16) × IsUtf8 details

-- The hub status of an Advertisement is at most 2, and whether direct connections are accepted is 0 or 1.
pub record IsAdvert (advert : Advert) : Type 0 where
  pub status : advert.status ≤ 2
  pub accepts : advert.accepts ≤ 1
  pub bvlc : advert.max_bvlc < 2 ^ 16
  pub npdu : advert.max_npdu < 2 ^ 16

-- Who connects has the VMAC of a node, neither the reserved one nor the broadcast.
pub record IsNode (who : Identity) : Type 0 where
  pub address : length who.vmac.0 ≡ 6
  pub device : length who.device.0 ≡ 16
  pub reserved : who.vmac ≢ zero_vmac
  pub broadcast : who.vmac ≢ broadcast
  pub bvlc : who.max_bvlc < 2 ^ 16
  pub npdu : who.max_npdu < 2 ^ 16

-- The body has a payload: an NPDU has an octet at least, URIs are UTF-8, and the others are as above.
abbrev pub HasPayload : Body → Type 0
HasPayload (BvlcResult answer) = IsAnswer answer
HasPayload (Npdu npdu) = 0 < length npdu
HasPayload (AddressResolutionAck uris) = IsUtf8 uris
HasPayload (Advertisement advert) = IsAdvert advert
HasPayload (ConnectRequest who) = IsNode who
HasPayload (ConnectAccept who) = IsNode who
HasPayload (Proprietary vendor function content) = vendor < 2 ^ 16
HasPayload body = ⊤
