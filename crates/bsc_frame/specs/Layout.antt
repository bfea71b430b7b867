-- Where the parts of a message stand behind its envelope, whatever they say.
use Rattle.std.specs.Prelude.{◌≡◌, ℕ, ◌+◌, ◌/◌, ◌%◌, ◌==◌, Bool, true, false, List, [], drop}
use Rattle.bsc_octets.specs.Envelopes.{flags_in, announced_length}
use Rattle.bsc_options.specs.declared.item.OptionItem.{OptionItem}
use Rattle.bsc_options.specs.Reading.{AreItems, BeginsWith}

-- Bit 1 of the control flags: destination options are present.
abbrev pub announces_dest_options : ℕ → Bool
announces_dest_options flags = (flags / 2 % 2) == 1

-- Bit 0 of the control flags: data options are present.
abbrev pub announces_data_options : ℕ → Bool
announces_data_options flags = (flags % 2) == 1

-- The place behind the addresses that the flags announce.
abbrev pub options_at : List ℕ → ℕ
options_at m = 4 + announced_length (flags_in m)

-- From place `at` to place `end` stands a list of these items, whatever their types and data are, where one is announced, and nothing else.
abbrev pub IsList : Bool → List ℕ → ℕ → List OptionItem → ℕ → Type 0
IsList true m at items end = AreItems items × BeginsWith m at items end
IsList false m at items end = (items ≡ []) × (end ≡ at)

-- The data options begin at place `at`: where the destination options end, whatever their items are, or else behind the addresses.
abbrev pub BeginsDataOptions : List ℕ → ℕ → Type 0
BeginsDataOptions m at = (items : List OptionItem) × IsList (announces_dest_options (flags_in m)) m (options_at m) items at

-- The payload is these octets: all that stand behind the data options.
pub record IsPayload (m : List ℕ) (p : List ℕ) : Type 0 where
  pub at : ℕ
  pub items : List OptionItem
  pub end : ℕ
  pub before : BeginsDataOptions m at
  pub list : IsList (announces_data_options (flags_in m)) m at items end
  pub rest : p ≡ drop end m
