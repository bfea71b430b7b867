-- The words of the functions that walk over octets, item by item. No public clause has them.
use Rattle.std.specs.Prelude.{◌≡◌, ◌≢◌, ℕ, ◌<◌, ◌^◌, ◌==◌, Bool, true, if◌then◌else◌, List, [], ◌∷◌, ◌++◌, length, Option, Some, None, IfSome, Result, Ok, Err}
use Rattle.std.specs.Option.{option_copied, option_or}
use Rattle.byteorder.specs.Endian.{big_bytes}
use Rattle.bsc_options.specs.declared.item.OptionItem.{OptionItem}
use Rattle.bsc_options.specs.declared.first.FirstItem.{FirstItem}
use Rattle.bsc_options.specs.declared.fault.OptionsFault.{OptionsFault}
use Rattle.bsc_options.specs.declared.fault.OptionsFault.TheVariants.{Cut, BadKind, BadShape, NoMemory}
use Rattle.bsc_options.specs.Spelling.{Fits, AreOptions, has_data_of_its_type, item_octets}
use Rattle.bsc_options.specs.Reading.{AreItems, BeginsWith, IsCut, IsFirstAtFault}

-- ---- one item

-- The item, without the place that its data are lent from.
abbrev pub item_of : FirstItem → OptionItem
item_of first = record { must = first.must; kind = first.kind; content = option_copied first.content }

-- The length of the data, where there are some, fits the two octets that say it.
abbrev pub FitsData : Option (List ℕ) → Type 0
FitsData content = IfSome content (λ octets. length octets < 2 ^ 16)

-- Octets are missing of the data behind a marker, which says whether there are some.
pub record IsCutData (announced : Bool) (o : List ℕ) : Type 0 where
  pub octets : List ℕ
  pub missing : List ℕ
  pub present : announced ≡ true
  pub fits : length octets < 2 ^ 16
  pub some : 0 < length missing
  pub spelling : o ++ missing ≡ big_bytes 2 (length octets) ++ octets

-- Octets are missing of the item that octets begin with.
pub record IsCutItem (o : List ℕ) : Type 0 where
  pub follows : Bool
  pub item : OptionItem
  pub missing : List ℕ
  pub fits : Fits item
  pub some : 0 < length missing
  pub spelling : o ++ missing ≡ item_octets follows item

-- What is wrong with an item.
abbrev pub fault_of : OptionItem → Option OptionsFault
fault_of item = if item.kind == 0 then Some BadKind else if has_data_of_its_type item then None else Some BadShape

-- ---- a list

-- The octets begin with those of items, n of them.
pub record EndsAt (o : List ℕ) (n : ℕ) : Type 0 where
  pub items : List OptionItem
  pub are : AreItems items
  pub whole : BeginsWith o 0 items n

-- What is wrong with the first item at fault.
abbrev pub first_fault : List OptionItem → Option OptionsFault
first_fault [] = None
first_fault (item ∷ rest) = option_or (fault_of item) (first_fault rest)

-- What reading octets from a place on may answer.
abbrev pub OptionListAnswers : List ℕ → ℕ → Result (List OptionItem × ℕ) OptionsFault → Type 0
OptionListAnswers m at (Ok found) = AreOptions found.0 × BeginsWith m at found.0 found.1
OptionListAnswers m at (Err Cut) = IsCut m at
OptionListAnswers m at (Err BadKind) = (item : OptionItem) × IsFirstAtFault m at item × (item.kind ≡ 0)
OptionListAnswers m at (Err BadShape) = (item : OptionItem) × IsFirstAtFault m at item × (item.kind ≢ 0)
OptionListAnswers m at (Err NoMemory) = (list : List OptionItem) × (end : ℕ) × AreOptions list × BeginsWith m at list end

-- What looking at octets from a place on may answer, where no list is made of them.
abbrev pub Finds : List ℕ → ℕ → Result ℕ OptionsFault → Type 0
Finds m at (Ok end) = (list : List OptionItem) × AreOptions list × BeginsWith m at list end
Finds m at (Err Cut) = IsCut m at
Finds m at (Err BadKind) = (item : OptionItem) × IsFirstAtFault m at item × (item.kind ≡ 0)
Finds m at (Err BadShape) = (item : OptionItem) × IsFirstAtFault m at item × (item.kind ≢ 0)
Finds m at (Err NoMemory) = ⊥
