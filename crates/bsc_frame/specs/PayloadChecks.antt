-- What can be wrong with the payload p of a function, by the table of functions and payloads (Annex AB, "BVLC Functions").
use Rattle.std.specs.Prelude.{◌≡◌, ℕ, ◌<◌, ◌==◌, ◌||◌, ◌&&◌, ◌⊎◌, Bool, false, not, if◌then◌else◌, IsTrue, List, [], length, drop, slice_index}
use Rattle.std.specs.Str.{IsUtf8}
use Rattle.bsc_octets.specs.Addresses.{broadcast, zero_vmac}
use Rattle.bsc_octets.specs.Envelopes.{vmac_at}

-- ---- the table

-- The result code of a BVLC-Result: 0 for an ACK, 1 for a NAK.
abbrev pub result_code : List ℕ → ℕ
result_code p = slice_index p 1

-- The functions that have a payload always: 01, 04, 06, 07 and 0C; a BVLC-Result has one too, and is short of its fixed part without it.
abbrev pub expects_payload : ℕ → Bool
expects_payload function = (function == 0x01) || (function == 0x04) || (function == 0x06) || (function == 0x07) || (function == 0x0C)

-- The fixed part, the number of octets that a payload has at least: for a BVLC-Result 2, and 7 where it is a NAK.
abbrev pub fixed_part : ℕ → List ℕ → ℕ
fixed_part function p =
    if function == 0x00 then (if result_code p == 1 then 7 else 2)
    else if function == 0x01 then 1
    else if function == 0x04 then 6
    else if (function == 0x06) || (function == 0x07) then 26
    else if function == 0x0C then 3
    else 0

-- Whether octets may follow the fixed part: they may for 01, 03 and 0C, and for a BVLC-Result that is no ACK.
abbrev pub takes_rest : ℕ → List ℕ → Bool
takes_rest function p = (function == 0x01) || (function == 0x03) || (function == 0x0C) || ((function == 0x00) && not (result_code p == 0))

-- ---- what is out of its range

-- The result code of a BVLC-Result is neither 0 nor 1.
abbrev pub HasUnknownResult : ℕ → List ℕ → Type 0
HasUnknownResult function p = (function ≡ 0x00) × (1 < result_code p)

-- The details of a NAK are not UTF-8.
abbrev pub HasBadDetails : ℕ → List ℕ → Type 0
HasBadDetails function p = (function ≡ 0x00) × (result_code p ≡ 1) × (¬ IsUtf8 (drop 7 p))

-- The URIs of an Address-Resolution-ACK are not UTF-8.
abbrev pub HasBadUris : ℕ → List ℕ → Type 0
HasBadUris function p = (function ≡ 0x03) × (¬ IsUtf8 p)

-- The hub status of an Advertisement is above 2.
abbrev pub HasUnknownStatus : ℕ → List ℕ → Type 0
HasUnknownStatus function p = (function ≡ 0x04) × (2 < slice_index p 0)

-- Whether an Advertisement accepts direct connections is above 1.
abbrev pub HasUnknownAccepts : ℕ → List ℕ → Type 0
HasUnknownAccepts function p = (function ≡ 0x04) × (1 < slice_index p 1)

-- The VMAC of a Connect-Request or of a Connect-Accept is the reserved one or the broadcast.
abbrev pub HasNoNodesVmac : ℕ → List ℕ → Type 0
HasNoNodesVmac function p = ((function ≡ 0x06) ⊎ (function ≡ 0x07)) × ((vmac_at p 0 ≡ zero_vmac) ⊎ (vmac_at p 0 ≡ broadcast))

-- ---- the checks of a payload

-- There is no octet of a payload that the function has always.
abbrev pub IsMissing : ℕ → List ℕ → Type 0
IsMissing function p = IsTrue (expects_payload function) × (p ≡ [])

-- The payload is shorter than its fixed part.
abbrev pub IsBelowFixedPart : ℕ → List ℕ → Type 0
IsBelowFixedPart function p = length p < fixed_part function p

-- Octets follow a fixed part without rest.
abbrev pub IsBeyondFixedPart : ℕ → List ℕ → Type 0
IsBeyondFixedPart function p = (takes_rest function p ≡ false) × (fixed_part function p < length p)

-- A value is out of its range, or a text is not UTF-8.
abbrev pub IsOutOfRange : ℕ → List ℕ → Type 0
IsOutOfRange function p =
    HasUnknownResult function p ⊎ HasBadDetails function p ⊎ HasBadUris function p ⊎ HasUnknownStatus function p
    ⊎ HasUnknownAccepts function p ⊎ HasNoNodesVmac function p
