-- The lists of header options of a message, read from the front.
use Rattle.std.specs.Prelude.{ℕ, zero, suc, ◌<◌, ◌/◌, ◌%◌, ◌==◌, ◌||◌, nat_lt, if◌then◌else◌, Bool, true, false, List, [], ◌∷◌, length}
use Rattle.std.specs.Prelude.{take, drop, slice_index, Option, Some, None}
use Rattle.byteorder.specs.Endian.{big_number}
use Rattle.bsc_octets.specs.Envelopes.{flags_in}
use Rattle.bsc_options.specs.declared.item.OptionItem.{OptionItem}
use Rattle.bsc_frame.specs.Layout.{announces_dest_options, announces_data_options, options_at}

-- Each of the numbers is one that an octet can say.
abbrev pub AreOctets : List ℕ → Type 0
AreOctets m = (i : ℕ) → slice_index m i < 256

-- ---- one option

-- The data of an option, where it has some, and the octets behind it.
pub record Data : Type 0 where
  pub content : Option (List ℕ)
  pub rest : List ℕ

-- The data that octets begin with: where the marker announces some, their length in two octets and then as many octets; nothing, where octets are missing.
abbrev pub data_in : Bool → List ℕ → Option Data
data_in false o = Some (record { content = None; rest = o })
data_in true o =
    if nat_lt (length o) 2 || nat_lt (length (drop 2 o)) (big_number 2 o) then None
    else Some (record { content = Some (take (big_number 2 o) (drop 2 o)); rest = drop (big_number 2 o) (drop 2 o) })

-- An option, whether its marker says that another follows, and the octets behind it.
pub record First : Type 0 where
  pub follows : Bool
  pub item : OptionItem
  pub rest : List ℕ

-- The option with this marker and these data: bit 7 of the marker says whether another follows, bit 6 is must understand, and bits 4 to 0 are the type.
abbrev pub with_marker : ℕ → Option Data → Option First
with_marker marker None = None
with_marker marker (Some behind) =
    Some (record {
      follows = (marker / 128 % 2) == 1;
      item = record { must = (marker / 64 % 2) == 1; kind = marker % 32; content = behind.content };
      rest = behind.rest;
    })

-- The option that octets begin with: its marker, bit 5 of which says whether there are data, and the data; nothing, where octets are missing.
abbrev pub first_in : List ℕ → Option First
first_in [] = None
first_in (marker ∷ o) = with_marker marker (data_in ((marker / 32 % 2) == 1) o)

-- ---- a list

-- A list of options, and the octets behind it.
pub record Found : Type 0 where
  pub items : List OptionItem
  pub rest : List ℕ

-- The list with one more option in front.
abbrev pub with_first : OptionItem → Option Found → Option Found
with_first item None = None
with_first item (Some found) = Some (record { items = item ∷ found.items; rest = found.rest })

-- The list that begins with this option, which another follows or not, where the octets behind it are read like this.
abbrev pub continued : Bool → OptionItem → List ℕ → (List ℕ → Option Found) → Option Found
continued true item rest read = with_first item (read rest)
continued false item rest read = Some (record { items = item ∷ []; rest = rest })

-- The same, of what octets begin with.
abbrev pub after_first : Option First → (List ℕ → Option Found) → Option Found
after_first None read = None
after_first (Some first) read = continued first.follows first.item first.rest read

-- The list that octets begin with, of at most so many options, up to the first that none follows; nothing, where octets are missing.
abbrev pub items_in : ℕ → List ℕ → Option Found
items_in zero o = None
items_in (suc most) o = after_first (first_in o) (λ rest. items_in most rest)

-- The list that octets begin with, where one is announced. It has no more options than there are octets.
abbrev pub list_in : Bool → List ℕ → Option Found
list_in true o = items_in (length o) o
list_in false o = Some (record { items = []; rest = o })

-- ---- the lists of a message

-- The destination options, behind the addresses.
abbrev pub dest_options_in : List ℕ → Option Found
dest_options_in m = list_in (announces_dest_options (flags_in m)) (drop (options_at m) m)

-- The list behind another, where one is announced.
abbrev pub list_behind : Bool → Option Found → Option Found
list_behind announced None = None
list_behind announced (Some found) = list_in announced found.rest

-- The data options, behind the destination options; behind them stands the payload.
abbrev pub data_options_in : List ℕ → Option Found
data_options_in m = list_behind (announces_data_options (flags_in m)) (dest_options_in m)

-- The options of a list that is whole, and none of one that is not.
abbrev pub items_of : Option Found → List OptionItem
items_of None = []
items_of (Some found) = found.items

-- The octets behind a list that is whole, and none behind one that is not.
abbrev pub rest_of : Option Found → List ℕ
rest_of None = []
rest_of (Some found) = found.rest
