-- The octets of a message (Annex AB, "General BVLC Message Format").
use Rattle.std.specs.Prelude.{◌≡◌, ℕ, ◌+◌, ◌*◌, ◌<◌, ◌^◌, ◌⊎◌, List, ◌∷◌, ◌++◌, length, is_some, IfSome}
use Rattle.std.specs.List.{AllByRecursion}
use Rattle.byteorder.specs.Endian.{big_bytes}
use Rattle.bsc_octets.specs.Envelopes.{address_octets}
use Rattle.bsc_options.specs.Spelling.{HasShape, bit, has_items, spelling_of}
use Rattle.bsc_frame.specs.declared.message.Message.{Message}
use Rattle.bsc_frame.specs.Payloads.{function_of, payload_of, HasPayload}

-- The control flags: bit 3 is set where there is an Originating address, bit 2 for a Destination address, bit 1 for
-- destination options and bit 0 for data options, and the others are clear.
abbrev pub flags_of : Message → ℕ
flags_of msg = 8 * bit (is_some msg.origin) + 4 * bit (is_some msg.dest) + 2 * bit (has_items msg.dest_options) + bit (has_items msg.data_options)

-- The octets of a message: function, flags, Message ID with its high octet first, the addresses that it has, destination options, data options, payload.
abbrev pub spelling : Message → List ℕ
spelling msg =
    (function_of msg.body ∷ flags_of msg ∷ big_bytes 2 msg.id) ++ address_octets msg.origin ++ address_octets msg.dest
    ++ spelling_of msg.dest_options ++ spelling_of msg.data_options ++ payload_of msg.body

-- Data options go with an Encapsulated-NPDU and a Proprietary-Message.
abbrev pub TakesDataOptions : ℕ → Type 0
TakesDataOptions function = (function ≡ 0x01) ⊎ (function ≡ 0x0C)

-- The message has a spelling: its ID fits two octets, its addresses are whole, each option has a shape, data options are
-- where they can be, and the body has a payload.
pub record HasSpelling (msg : Message) : Type 0 where
  pub id : msg.id < 2 ^ 16
  pub origin : IfSome msg.origin (λ v. length v.0 ≡ 6)
  pub dest : IfSome msg.dest (λ v. length v.0 ≡ 6)
  pub dest_options : AllByRecursion HasShape msg.dest_options
  pub data_options : AllByRecursion HasShape msg.data_options
  pub place : 0 < length msg.data_options → TakesDataOptions (function_of msg.body)
  pub body : HasPayload msg.body

-- The octets spell the message.
pub record Spells (msg : Message) (m : List ℕ) : Type 0 where
  pub legal : HasSpelling msg
  pub octets : m ≡ spelling msg
