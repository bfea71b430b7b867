-- Which words are numbers, addresses, devices, octets and names.
use Rattle.std.specs.Prelude.{ℕ, ◌+◌, ◌-◌, ◌*◌, ◌==◌, nat_le, Bool, true, false, not, ◌&&◌, ◌||◌, if◌then◌else◌, List, [], ◌∷◌, length}
use Rattle.std.specs.Prelude.{fold, flat_map, codes, Option, Some, None, Result, Ok, Err}
use Rattle.std.specs.List.{list_all}
use Rattle.byteorder.specs.Endian.{big_number}
use Rattle.hex.specs.declared.error.FromHexError.{FromHexError}
use Rattle.hex.specs.Hex.{decode_of, decode_sized}
use Rattle.uuid.specs.Text.{parsed}
use Rattle.bsc_octets.specs.declared.vmac.Vmac.{Vmac}
use Rattle.bsc_octets.specs.declared.device_id.DeviceId.{DeviceId}
use Rattle.bsc_octets.specs.declared.identity.Identity.{Identity}
use Rattle.bsc_text.specs.declared.bounds.TheConstants.{MAX_NAME_LEN}
use Rattle.bsc_text.specs.Lines.{same_octets}

-- whether an octet is a decimal digit
abbrev pub is_digit : ℕ → Bool
is_digit c = nat_le 48 c && nat_le c 57

-- whether an octet is a letter, in either case
abbrev pub is_letter : ℕ → Bool
is_letter c = (nat_le 65 c && nat_le c 90) || (nat_le 97 c && nat_le c 122)

-- whether there are no digits, or they begin with a zero that isn't the only one
abbrev pub has_leading_zero : List ℕ → Bool
has_leading_zero [] = true
has_leading_zero (c ∷ []) = false
has_leading_zero (c ∷ d ∷ o) = c == 48

-- the number that decimal digits write, the first of the greatest weight
abbrev pub decimal_value : List ℕ → ℕ
decimal_value w = fold (λ n c. n * 10 + (c - 48)) 0 w

-- A number: 1 to 19 decimal digits, with no sign and no leading zero.
abbrev pub number_of : List ℕ → Option ℕ
number_of w =
    if nat_le 1 (length w) && nat_le (length w) 19 && list_all is_digit w && not (has_leading_zero w)
    then Some (decimal_value w) else None

-- what was decoded, where it was
abbrev pub decoded : Result (List ℕ) FromHexError → Option (List ℕ)
decoded (Ok octets) = Some octets
decoded (Err fault) = None

-- octets as a VMAC, where they were decoded
abbrev pub vmac_in : Option (List ℕ) → Option Vmac
vmac_in None = None
vmac_in (Some octets) = Some (record { 0 = octets })

-- two octets as a number, the first of the greater weight, where they were decoded
abbrev pub number_in : Option (List ℕ) → Option ℕ
number_in None = None
number_in (Some octets) = Some (big_number 2 octets)

-- octets as a device UUID, where they were decoded
abbrev pub device_in : Option (List ℕ) → Option DeviceId
device_in None = None
device_in (Some octets) = Some (record { 0 = octets })

-- A VMAC: twelve hexadecimal digits in either case.
abbrev pub vmac_of_word : List ℕ → Option Vmac
vmac_of_word w = vmac_in (decoded (decode_sized w 6))

-- A maximum length: four hexadecimal digits in either case.
abbrev pub maximum_of_word : List ℕ → Option ℕ
maximum_of_word w = number_in (decoded (decode_sized w 2))

-- A device UUID, in any form that a UUID is written in.
abbrev pub device_of_word : List ℕ → Option DeviceId
device_of_word w = device_in (parsed w)

-- an identity of these, where each is what it should be
abbrev pub identity_in : Option Vmac → Option DeviceId → Option ℕ → Option ℕ → Option Identity
identity_in (Some v) (Some u) (Some max_bvlc) (Some max_npdu) =
    Some (record { vmac = v; device = u; max_bvlc = max_bvlc; max_npdu = max_npdu })
identity_in v u max_bvlc max_npdu = None

-- An identity: a VMAC, a device UUID, a maximum BVLC length and a maximum NPDU length, in four words.
abbrev pub identity_of_words : List (List ℕ) → Option Identity
identity_of_words (v ∷ u ∷ max_bvlc ∷ max_npdu ∷ []) =
    identity_in (vmac_of_word v) (device_of_word u) (maximum_of_word max_bvlc) (maximum_of_word max_npdu)
identity_of_words ws = None

-- Octets: hexadecimal digits in either case over any number of words, an even number of them together.
abbrev pub octets_of_words : List (List ℕ) → Option (List ℕ)
octets_of_words ws = decoded (decode_of (flat_map (λ w. w) ws))

-- A name: letters, digits or `_`, from 1 to the most, but not `hub`.
abbrev pub is_name : List ℕ → Bool
is_name w =
    nat_le 1 (length w) && nat_le (length w) MAX_NAME_LEN
    && list_all (λ c. is_letter c || is_digit c || (c == 95)) w && not (same_octets w (codes "hub"))
