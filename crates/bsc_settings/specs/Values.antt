-- The value of a row: what stands at its key, or its default, where the row takes it.
use Rattle.std.specs.Prelude.{ℕ, ℤ, pos, nat_le, Bool, true, false, ◌&&◌, if◌then◌else◌, List, Option, Some, None, option_map, option_and_then}
use Rattle.toml.specs.Data.{Data, Members, get_member, as_str, as_integer}
use Rattle.bsc_octets.specs.declared.vmac.Vmac.{Vmac}
use Rattle.bsc_octets.specs.declared.device_id.DeviceId.{DeviceId}
use Rattle.bsc_text.specs.Grammar.{vmac_of_word, device_of_word}
use Rattle.bsc_settings.specs.Table.{Kind, address, device, hub_uri, uris, group, group_or_all, allow_or_deny, integer, nothing, Default}
use Rattle.bsc_settings.specs.Table.{required, absent, or_else, Row, is_node_address}
use Rattle.bsc_settings.specs.Uris.{is_hub_uri, are_uris}
use Rattle.bsc_settings.specs.Groups.{is_group, is_group_or_all, allows_of}

-- A value of the settings: an address, a device UUID, a number, a text, whether a rule allows, or that there is none.
pub data Value : Type 0 where
  vmac : Vmac → Value
  uuid : DeviceId → Value
  number : ℕ → Value
  text : List ℕ → Value
  allows : Bool → Value
  missing : Value

-- a number that may be missing
abbrev pub number_if : Option ℕ → Value
number_if None = missing
number_if (Some n) = number n

-- a text that may be missing
abbrev pub text_if : Option (List ℕ) → Value
text_if None = missing
text_if (Some o) = text o

-- an integer as a number, where it isn't negative
abbrev pub natural : Option ℤ → Option ℕ
natural (Some (pos n)) = Some n
natural other = None

-- What a value of a TOML document says to a key of this kind: a text of twelve hexadecimal digits says an address, a
-- text that is a UUID a device, an integer that isn't negative a number, `allow` and `deny` whether a rule allows, and a
-- text itself.
abbrev pub said : Kind → Data → Option Value
said address value = option_map vmac (option_and_then vmac_of_word (as_str value))
said device value = option_map uuid (option_and_then device_of_word (as_str value))
said hub_uri value = option_map text (as_str value)
said uris value = option_map text (as_str value)
said group value = option_map text (as_str value)
said group_or_all value = option_map text (as_str value)
said allow_or_deny value = option_map allows (option_and_then allows_of (as_str value))
said (integer least greatest) value = option_map number (natural (as_integer value))
said nothing value = None

-- whether a key of this kind takes a value
abbrev pub takes : Kind → Value → Bool
takes kind missing = true
takes address (vmac v) = is_node_address v
takes device (uuid u) = true
takes hub_uri (text o) = is_hub_uri o
takes uris (text o) = are_uris o
takes group (text o) = is_group o
takes group_or_all (text o) = is_group_or_all o
takes allow_or_deny (allows b) = true
takes (integer least greatest) (number n) = nat_le least n && nat_le n greatest
takes kind value = false

-- the value, where the key takes it
abbrev pub taken : Kind → Option Value → Option Value
taken kind None = None
taken kind (Some value) = if takes kind value then Some value else None

-- what a default gives
abbrev pub otherwise : Default → Option Value
otherwise required = None
otherwise absent = Some missing
otherwise (or_else n) = Some (number n)

-- what is given to a row: what stands at its key, or its default where nothing stands there
abbrev pub given : Row → Option Data → Option Value
given r None = otherwise r.default
given r (Some value) = said r.kind value

-- The value of a row in a table of a document, where it has one.
abbrev pub value_at : Row → Members → Option Value
value_at r table = taken r.kind (given r (get_member r.word table))
