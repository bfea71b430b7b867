-- The checks by which octets are no message, each with its condition, and the first that fails.
use Rattle.std.specs.Prelude.{◌≡◌, ℕ, ◌<◌, ◌≤◌, ◌⊎◌, IsTrue, List, [], ◌∷◌, ◌++◌, length}
use Rattle.std.specs.List.{AllByRecursion}
use Rattle.bsc_octets.specs.Envelopes.{flags_in}
use Rattle.bsc_octets.specs.Forwarding.{function_in}
use Rattle.bsc_options.specs.declared.item.OptionItem.{OptionItem}
use Rattle.bsc_options.specs.Reading.{IsCut, IsFirstAtFault}
use Rattle.bsc_frame.specs.declared.check.Check.{Check}
use Rattle.bsc_frame.specs.declared.check.Check.TheVariants.{C1, C3, C5, C6, C7, C7b, C8, C10, C10b, C10c, C11}
use Rattle.bsc_frame.specs.Layout.{announces_dest_options, announces_data_options, options_at, BeginsDataOptions, IsPayload}
use Rattle.bsc_frame.specs.PayloadChecks.{IsMissing, IsBelowFixedPart, IsBeyondFixedPart, IsOutOfRange}

-- ---- the condition of each check

-- C1: the message has fewer than four octets.
abbrev pub IsShort : List ℕ → Type 0
IsShort m = length m < 4

-- C3: the message has four octets, and octets of an announced address are missing.
abbrev pub LacksAddressOctets : List ℕ → Type 0
LacksAddressOctets m = (4 ≤ length m) × (length m < options_at m)

-- C5: a reserved control flag, bits 7 to 4, is set.
abbrev pub HasReservedFlag : List ℕ → Type 0
HasReservedFlag m = 0x0F < flags_in m

-- C6: the function is above 0C.
abbrev pub HasUnknownFunction : List ℕ → Type 0
HasUnknownFunction m = 0x0C < function_in m

-- Destination options are announced, and these octets from their place have the property.
abbrev pub OfDestOptions : List ℕ → (ℕ → Type 0) → Type 0
OfDestOptions m P = IsTrue (announces_dest_options (flags_in m)) × P (options_at m)

-- Data options are announced, no octets of the destination options are missing, and the octets from the place behind those have the property.
abbrev pub OfDataOptions : List ℕ → (ℕ → Type 0) → Type 0
OfDataOptions m P = IsTrue (announces_data_options (flags_in m)) × ((at : ℕ) × BeginsDataOptions m at × P at)

-- C7: octets of an announced list of options are missing, in either list. Where the destination options are cut, the data
-- options have no place and are not looked at.
abbrev pub LacksOptionOctets : List ℕ → Type 0
LacksOptionOctets m = OfDestOptions m (IsCut m) ⊎ OfDataOptions m (IsCut m)

-- No octets of the list at this place are missing, and an item of it has no shape.
abbrev pub HasItemAtFault : List ℕ → ℕ → Type 0
HasItemAtFault m at = (item : OptionItem) × IsFirstAtFault m at item

-- C7b: an option of type 0, or with data that its type does not have, in either list.
abbrev pub HasBadOption : List ℕ → Type 0
HasBadOption m = OfDestOptions m (HasItemAtFault m) ⊎ OfDataOptions m (HasItemAtFault m)

-- C8: data options are announced on function 00 or on one of 02 to 0B.
abbrev pub HasMisplacedDataOptions : List ℕ → Type 0
HasMisplacedDataOptions m = IsTrue (announces_data_options (flags_in m)) × ((function_in m ≡ 0x00) ⊎ ((0x02 ≤ function_in m) × (function_in m ≤ 0x0B)))

-- The payload has the property, at the function of the message.
abbrev pub OfPayload : List ℕ → (ℕ → List ℕ → Type 0) → Type 0
OfPayload m P = (p : List ℕ) × IsPayload m p × P (function_in m) p

-- C10: there is no octet of payload on 01, 04, 06, 07 or 0C.
abbrev pub LacksPayload : List ℕ → Type 0
LacksPayload m = OfPayload m IsMissing

-- C10b: the payload is shorter than its fixed part.
abbrev pub HasShortPayload : List ℕ → Type 0
HasShortPayload m = OfPayload m IsBelowFixedPart

-- C10c: octets of payload follow a fixed part without rest.
abbrev pub HasLongPayload : List ℕ → Type 0
HasLongPayload m = OfPayload m IsBeyondFixedPart

-- C11: a value of the payload is out of its range, or a text of it is not UTF-8.
abbrev pub HasValueOutOfRange : List ℕ → Type 0
HasValueOutOfRange m = OfPayload m IsOutOfRange

-- ---- the first that fails

-- The check fails of these octets. The checks that refuse a message are not made here: C9 and C12, by which its receiver
-- does not understand it, and C2, C4 and C13, which ask for the place at which it came.
abbrev pub MessageFails : List ℕ → Check → Type 0
MessageFails m C1 = IsShort m
MessageFails m C3 = LacksAddressOctets m
MessageFails m C5 = HasReservedFlag m
MessageFails m C6 = HasUnknownFunction m
MessageFails m C7 = LacksOptionOctets m
MessageFails m C7b = HasBadOption m
MessageFails m C8 = HasMisplacedDataOptions m
MessageFails m C10 = LacksPayload m
MessageFails m C10b = HasShortPayload m
MessageFails m C10c = HasLongPayload m
MessageFails m C11 = HasValueOutOfRange m
MessageFails m check = ⊥

-- In this order of checks, the check k fails and none before it does.
pub record IsFirstOf (order : List Check) (fails : Check → Type 0) (k : Check) : Type 0 where
  pub before : List Check
  pub after : List Check
  pub place : order ≡ before ++ k ∷ after
  pub earlier : AllByRecursion (λ check. ¬ fails check) before
  pub fault : fails k

-- The checks by which octets are no message, in their order.
abbrev pub order : List Check
order = C1 ∷ C3 ∷ C5 ∷ C6 ∷ C7 ∷ C7b ∷ C8 ∷ C10 ∷ C10b ∷ C10c ∷ C11 ∷ []

-- The check k is the first of them that fails.
abbrev pub IsFirst : Check → List ℕ → Type 0
IsFirst k m = IsFirstOf order (MessageFails m) k
