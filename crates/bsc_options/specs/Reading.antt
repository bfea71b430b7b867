-- What octets say from a place on: a list of header options, a list that is cut, or one with an item at fault.
use Rattle.std.specs.Prelude.{◌≡◌, ℕ, ◌+◌, ◌<◌, List, ◌∷◌, ◌++◌, length, drop}
use Rattle.std.specs.List.{AllByRecursion}
use Rattle.bsc_options.specs.declared.item.OptionItem.{OptionItem}
use Rattle.bsc_options.specs.Spelling.{Fits, HasShape, spelling_of}

-- The octets from place `at` begin with those of these items, and what follows them stands at `end`.
pub record BeginsWith (m : List ℕ) (at : ℕ) (items : List OptionItem) (end : ℕ) : Type 0 where
  pub spelling : drop at m ≡ spelling_of items ++ drop end m
  pub place : end ≡ at + length (spelling_of items)

-- There is an item, and the fields of each fit, whatever its type and data are.
pub record AreItems (items : List OptionItem) : Type 0 where
  pub some : 0 < length items
  pub fit : AllByRecursion Fits items

-- Octets of the list at place `at` are missing: with some more octets behind them, those from there are the octets of items, whatever their types and data are.
pub record IsCut (m : List ℕ) (at : ℕ) : Type 0 where
  pub items : List OptionItem
  pub missing : List ℕ
  pub are : AreItems items
  pub some : 0 < length missing
  pub spelling : drop at m ++ missing ≡ spelling_of items

-- No octets of the list at place `at` are missing, and this item of it has no shape, while each before it has one.
pub record IsFirstAtFault (m : List ℕ) (at : ℕ) (item : OptionItem) : Type 0 where
  pub before : List OptionItem
  pub after : List OptionItem
  pub end : ℕ
  pub are : AreItems (before ++ item ∷ after)
  pub whole : BeginsWith m at (before ++ item ∷ after) end
  pub earlier : AllByRecursion HasShape before
  pub fault : ¬ HasShape item
