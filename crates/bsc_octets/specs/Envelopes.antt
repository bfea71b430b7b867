-- What a message begins with (Annex AB, "General BVLC Message Format"): BVLC Function, Control Flags, Message ID, and the
-- Virtual Addresses that the flags announce.
use Rattle.std.specs.Prelude.{◌≡◌, ℕ, ◌+◌, ◌/◌, ◌%◌, ◌==◌, nat_lt, if◌then◌else◌, Bool, List, [], ◌∷◌, ◌++◌, length, take, drop}
use Rattle.std.specs.Prelude.{slice_index, Option, Some, None, is_some, IfSome, Result, Ok, Err}
use Rattle.byteorder.specs.Endian.{big_bytes, big_number}
use Rattle.bsc_octets.specs.declared.vmac.Vmac.{Vmac}
use Rattle.bsc_octets.specs.declared.envelope.Envelope.{Envelope}
use Rattle.bsc_octets.specs.declared.envelope.EnvelopeFault.{EnvelopeFault}
use Rattle.bsc_octets.specs.declared.envelope.EnvelopeFault.TheVariants.{Short, Cut}

-- ---- the control flags

-- The Control Flags of a message, its second octet.
abbrev pub flags_in : List ℕ → ℕ
flags_in m = slice_index m 1

-- Bit 3 of the Control Flags: the Originating Virtual Address is present.
abbrev pub announces_origin : ℕ → Bool
announces_origin flags = (flags / 8 % 2) == 1

-- Bit 2 of the Control Flags: the Destination Virtual Address is present.
abbrev pub announces_dest : ℕ → Bool
announces_dest flags = (flags / 4 % 2) == 1

-- How many octets the Virtual Addresses take that the Control Flags announce: 0, 6 or 12.
abbrev pub announced_length : ℕ → ℕ
announced_length flags = (if announces_origin flags then 6 else 0) + (if announces_dest flags then 6 else 0)

-- ---- the envelope that a message has, as a relation between the two. `SpellsEnvelope` and `HasWholeAddresses` bind
-- together: the first alone also holds of an address with fewer than six octets

-- The octets of a Virtual Address that may be absent.
abbrev pub address_octets : Option Vmac → List ℕ
address_octets None = []
address_octets (Some v) = v.0

-- The octets of an envelope: BVLC Function, Control Flags, Message ID with its high octet first, and the addresses that are
-- present, the Originating before the Destination.
abbrev pub envelope_octets : Envelope → List ℕ
envelope_octets e = (e.function ∷ e.flags ∷ big_bytes 2 e.id) ++ address_octets e.origin ++ address_octets e.dest

-- The message begins with the octets of the envelope, whose Control Flags announce the addresses that it has and no other,
-- and what follows those octets stands at `rest_at`.
pub record SpellsEnvelope (e : Envelope) (m : List ℕ) : Type 0 where
  pub spelling : m ≡ envelope_octets e ++ drop e.rest_at m
  pub place : e.rest_at ≡ length (envelope_octets e)
  pub origin : announces_origin e.flags ≡ is_some e.origin
  pub dest : announces_dest e.flags ≡ is_some e.dest

-- Each Virtual Address that is present has its six octets, as every `Vmac` of the program has.
pub record HasWholeAddresses (e : Envelope) : Type 0 where
  pub origin : IfSome e.origin (λ v. length v.0 ≡ 6)
  pub dest : IfSome e.dest (λ v. length v.0 ≡ 6)

-- ---- the same envelope, as it is read once from the front; the clauses of `read_envelope` hold this reading to the relation above

-- The Virtual Address in the six octets from place `at`.
abbrev pub vmac_at : List ℕ → ℕ → Vmac
vmac_at m at = record { 0 = take 6 (drop at m) }

-- The envelope with the function, flags and ID in the first four octets, and with these addresses and this place of what follows.
abbrev pub header_of : List ℕ → Option Vmac → Option Vmac → ℕ → Envelope
header_of m o d at = record { function = slice_index m 0; flags = slice_index m 1; id = big_number 2 (drop 2 m); origin = o; dest = d; rest_at = at }

-- The reading from the front: the envelope that the message begins with, `Short` below four octets, and `Cut` where octets of an announced address are missing.
unfoldable pub envelope_of : List ℕ → Result Envelope EnvelopeFault
envelope_of m =
    if nat_lt (length m) 4 then Err Short
    else if announces_origin (slice_index m 1) then
    (if nat_lt (length m) 10 then Err Cut
    else if announces_dest (slice_index m 1) then
    (if nat_lt (length m) 16 then Err Cut else Ok (header_of m (Some (vmac_at m 4)) (Some (vmac_at m 10)) 16))
    else Ok (header_of m (Some (vmac_at m 4)) None 10))
    else if announces_dest (slice_index m 1) then
    (if nat_lt (length m) 10 then Err Cut else Ok (header_of m None (Some (vmac_at m 4)) 10))
    else Ok (header_of m None None 4)
