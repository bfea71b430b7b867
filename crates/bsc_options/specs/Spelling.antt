-- What header options are, and the octets of a list of them (Annex AB, "Header Options").
use Rattle.std.specs.Prelude.{◌≡◌, ◌≢◌, ℕ, ◌+◌, ◌*◌, ◌<◌, ◌^◌, ◌==◌, nat_le, Bool, true, false, if◌then◌else◌, List, [], ◌∷◌, ◌++◌}
use Rattle.std.specs.Prelude.{length, Option, Some, None, is_some, is_none, IfSome}
use Rattle.std.specs.List.{AllByRecursion}
use Rattle.byteorder.specs.Endian.{big_bytes}
use Rattle.bsc_options.specs.declared.item.OptionItem.{OptionItem}

-- ---- which items a list can have

-- The item's type fits its five bits, and the length of its data the two octets that say it.
pub record Fits (item : OptionItem) : Type 0 where
  pub kind : item.kind < 32
  pub content : IfSome item.content (λ octets. length octets < 2 ^ 16)

-- Whether there are data, and at least three octets of them.
abbrev pub has_three_octets : Option (List ℕ) → Bool
has_three_octets None = false
has_three_octets (Some octets) = nat_le 3 (length octets)

-- Whether the item has the data of its type: none for Secure Path, which is type 1; at least three octets for Proprietary,
-- which is type 31; and any data or none for another type.
abbrev pub has_data_of_its_type : OptionItem → Bool
has_data_of_its_type item = if item.kind == 1 then is_none item.content else if item.kind == 31 then has_three_octets item.content else true

-- The item has a shape: its type is 1 to 31, and its data are such as that type has.
pub record HasShape (item : OptionItem) : Type 0 where
  pub fits : Fits item
  pub kind : item.kind ≢ 0
  pub content : has_data_of_its_type item ≡ true

-- The list is not empty, and each item has a shape.
pub record AreOptions (list : List OptionItem) : Type 0 where
  pub some : 0 < length list
  pub shapes : AllByRecursion HasShape list

-- ---- their octets

-- A bit as a number, 1 where it is set.
abbrev pub bit : Bool → ℕ
bit true = 1
bit false = 0

-- The marker: bit 7 is set where another item follows, bit 6 for must understand, bit 5 where there are data, and bits 4 to 0 are the type.
abbrev pub marker_of : Bool → OptionItem → ℕ
marker_of follows item = 128 * bit follows + 64 * bit item.must + 32 * bit (is_some item.content) + item.kind

-- The octets behind the marker: where there are data, their length in two octets with the high octet first, and the data.
abbrev pub data_octets : Option (List ℕ) → List ℕ
data_octets None = []
data_octets (Some octets) = big_bytes 2 (length octets) ++ octets

-- The octets of an item, which another follows or not.
abbrev pub item_octets : Bool → OptionItem → List ℕ
item_octets follows item = marker_of follows item ∷ data_octets item.content

-- Whether there is an item.
abbrev pub has_items : List OptionItem → Bool
has_items [] = false
has_items (item ∷ rest) = true

-- The octets of a list: those of its first item, which another follows unless it is the last, and those of the rest.
abbrev pub spelling_of : List OptionItem → List ℕ
spelling_of [] = []
spelling_of (item ∷ rest) = item_octets (has_items rest) item ++ spelling_of rest

-- The octets spell the list: it is not empty, each item has a shape, and the octets are its.
pub record SpellsOptions (list : List OptionItem) (o : List ℕ) : Type 0 where
  pub options : AreOptions list
  pub spelling : o ≡ spelling_of list
