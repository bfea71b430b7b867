-- Whether a check fails of a message, as a test of its octets.
use Rattle.std.specs.Prelude.{ℕ, ◌==◌, ◌||◌, ◌&&◌, nat_le, nat_lt, not, Bool, false, List, [], ◌∷◌, length, is_some, is_none, Option, Some, None}
use Rattle.bsc_octets.specs.Envelopes.{flags_in}
use Rattle.bsc_octets.specs.Forwarding.{function_in}
use Rattle.bsc_options.specs.declared.item.OptionItem.{OptionItem}
use Rattle.bsc_options.specs.Spelling.{has_data_of_its_type}
use Rattle.bsc_frame.specs.declared.check.Check.{Check}
use Rattle.bsc_frame.specs.declared.check.Check.TheVariants.{C1, C2, C3, C4, C5, C6, C7, C7b, C8, C9, C10, C10b, C10c, C11, C12, C13}
use Rattle.bsc_frame.specs.Layout.{announces_data_options, options_at}
use Rattle.bsc_checks.specs.declared.place.Place.{Place}
use Rattle.bsc_checks.specs.Places.{origin_in, dest_in, is_to_carry}
use Rattle.bsc_checks.specs.Walk.{marker_refused}
use Rattle.bsc_checks.specs.Options.{Found, items_of, dest_options_in, data_options_in}
use Rattle.bsc_checks.specs.Payloads.{is_missing, is_below_fixed_part, is_beyond_fixed_part, is_out_of_range}
use Rattle.bsc_checks.specs.PlaceTests.{has_wrong_addresses, is_in_place}

-- Whether the item has no shape: its type is 0, or its data are not such as its type has.
abbrev pub is_bad : OptionItem → Bool
is_bad item = (item.kind == 0) || not (has_data_of_its_type item)

-- Whether one of the items has no shape.
abbrev pub has_bad : List OptionItem → Bool
has_bad [] = false
has_bad (item ∷ rest) = is_bad item || has_bad rest

-- Whether data options are announced on a function that takes none.
abbrev pub has_misplaced_data_options : List ℕ → Bool
has_misplaced_data_options m = announces_data_options (flags_in m) && ((function_in m == 0x00) || (nat_le 0x02 (function_in m) && nat_le (function_in m) 0x0B))

-- Whether this holds of the function and of the payload, where the lists of options in front of it are whole.
abbrev pub of_payload : (ℕ → List ℕ → Bool) → ℕ → Option Found → Bool
of_payload test function None = false
of_payload test function (Some found) = test function found.rest

-- The marker of the first destination option that has to be understood and is not.
abbrev pub refused_marker : List ℕ → Option ℕ
refused_marker m = marker_refused (items_of (dest_options_in m))

-- Whether the check fails of a message at this place, where messages have this greatest length.
abbrev pub fails : List ℕ → Place → ℕ → Check → Bool
fails m place max C1 = nat_lt (length m) 4
fails m place max C2 = nat_lt max (length m)
fails m place max C3 = nat_le 4 (length m) && nat_lt (length m) (options_at m)
fails m place max C4 = has_wrong_addresses place (function_in m) (origin_in m) (dest_in m)
fails m place max C5 = nat_lt 0x0F (flags_in m)
fails m place max C6 = nat_lt 0x0C (function_in m)
fails m place max C7 = is_none (data_options_in m)
fails m place max C7b = has_bad (items_of (dest_options_in m)) || has_bad (items_of (data_options_in m))
fails m place max C8 = has_misplaced_data_options m
fails m place max C9 = is_some (refused_marker m)
fails m place max C10 = of_payload is_missing (function_in m) (data_options_in m)
fails m place max C10b = of_payload is_below_fixed_part (function_in m) (data_options_in m)
fails m place max C10c = of_payload is_beyond_fixed_part (function_in m) (data_options_in m)
fails m place max C11 = of_payload is_out_of_range (function_in m) (data_options_in m)
fails m place max C12 = function_in m == 0x0C
fails m place max C13 = not (is_in_place (is_to_carry place m) place (function_in m) (origin_in m))
