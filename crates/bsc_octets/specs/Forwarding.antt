-- The message as the hub passes it on (Annex AB, "Hub Function Forwarding").
use Rattle.std.specs.Prelude.{ℕ, Bool, ◌&&◌, not, nat_le, ◌++◌, List, [], ◌∷◌, length, take, drop, slice_index, Some, None, bit_and, bit_or, if◌then◌else◌}
use Rattle.byteorder.specs.Endian.{big_number}
use Rattle.bsc_octets.specs.declared.vmac.Vmac.{Vmac}
use Rattle.bsc_octets.specs.declared.envelope.Envelope.{Envelope}
use Rattle.bsc_octets.specs.Addresses.{broadcast, same_vmac}
pub use Rattle.bsc_octets.specs.Envelopes.{flags_in}
use Rattle.bsc_octets.specs.Envelopes.{announces_origin, announces_dest, vmac_at}

-- The BVLC Function of a message, its first octet.
abbrev pub function_in : List ℕ → ℕ
function_in m = slice_index m 0

-- The two octets of its Message ID.
abbrev pub id_in : List ℕ → List ℕ
id_in m = take 2 (drop 2 m)

-- Its Destination Virtual Address, where it has one and no Originating Virtual Address.
abbrev pub destination : List ℕ → Vmac
destination m = vmac_at m 4

-- The octets after that address: header options and payload.
abbrev pub after_destination : List ℕ → List ℕ
after_destination m = drop 10 m

-- Whether the message has a Destination Virtual Address, whole, and no Originating Virtual Address, as a node sends it to the hub for another.
abbrev pub has_route : List ℕ → Bool
has_route m = nat_le 10 (length m) && announces_dest (flags_in m) && not (announces_origin (flags_in m))

-- Whether its Destination Virtual Address is the broadcast address.
abbrev pub is_broadcast : List ℕ → Bool
is_broadcast m = same_vmac (destination m) broadcast

-- The Control Flags with bit 3 set, since the Originating Virtual Address is present, and with bit 2 cleared for a unicast,
-- whose Destination Virtual Address is taken out.
abbrev pub flags_out : List ℕ → ℕ
flags_out m = if is_broadcast m then bit_or (flags_in m) 8 else bit_and (bit_or (flags_in m) 8) 251

-- The octets of the Destination Virtual Address that stay: all of a broadcast's, none of a unicast's.
abbrev pub kept : List ℕ → List ℕ
kept m = if is_broadcast m then broadcast.0 else []

-- The message m as it is passed on from a sender at v: BVLC Function, Control Flags and Message ID, then v as Originating
-- Virtual Address, then for a broadcast the Destination Virtual Address, then all octets after the addresses.
unfoldable pub out : List ℕ → Vmac → List ℕ
out m v = (function_in m ∷ flags_out m ∷ id_in m) ++ v.0 ++ kept m ++ after_destination m

-- The envelope of the message m as it is passed on from a sender at v: BVLC Function and Message ID as they were, v as
-- Originating Virtual Address, and as Destination Virtual Address the broadcast address for a broadcast and none for a
-- unicast.
abbrev pub envelope_out : List ℕ → Vmac → Envelope
envelope_out m v =
    record {
      function = function_in m;
      flags = flags_out m;
      id = big_number 2 (id_in m);
      origin = Some v;
      dest = if is_broadcast m then Some broadcast else None;
      rest_at = if is_broadcast m then 16 else 10;
    }
