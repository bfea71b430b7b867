-- The table of the checks: what each finds wrong with a message, in which order they are made, and which code each gives.
use Rattle.std.specs.Prelude.{◌≡◌, ◌≢◌, ℕ, ◌<◌, true, if◌then◌else◌, List, [], ◌∷◌, ◌++◌, length, Option, Some, None}
use Rattle.std.specs.List.{AllByRecursion}
use Rattle.bsc_octets.specs.Envelopes.{flags_in}
use Rattle.bsc_octets.specs.Forwarding.{function_in}
use Rattle.bsc_options.specs.declared.item.OptionItem.{OptionItem}
use Rattle.bsc_options.specs.Spelling.{has_items, marker_of}
use Rattle.bsc_frame.specs.declared.check.Check.{Check}
use Rattle.bsc_frame.specs.declared.check.Check.TheVariants.{C1, C2, C3, C4, C5, C6, C7, C7b, C8, C9, C10, C10b, C10c, C11, C12, C13}
use Rattle.bsc_frame.specs.Layout.{announces_dest_options, options_at, IsList}
use Rattle.bsc_frame.specs.Checks.{IsFirstOf, IsShort, LacksAddressOctets, HasReservedFlag, HasUnknownFunction, LacksOptionOctets}
use Rattle.bsc_frame.specs.Checks.{HasBadOption, HasMisplacedDataOptions, LacksPayload, HasShortPayload, HasLongPayload}
use Rattle.bsc_frame.specs.Checks.{HasValueOutOfRange}
use Rattle.bsc_checks.specs.declared.place.Place.{Place}
use Rattle.bsc_checks.specs.Places.{origin_in, dest_in, is_to_carry, HasWrongAddresses, IsInPlace}

-- ---- the conditions that octets alone do not decide, and two that ask what is understood here

-- C2: the message is longer than the greatest length that its receiver takes.
abbrev pub IsTooLong : List ℕ → ℕ → Type 0
IsTooLong m max = max < length m

-- An option that has to be understood and is not: of the destination options, Secure Path alone is.
abbrev pub IsNotUnderstood : OptionItem → Type 0
IsNotUnderstood item = (item.must ≡ true) × (item.kind ≢ 1)

-- This is the marker, as it was received, of the first destination option that has to be understood and is not.
pub record IsFirstNotUnderstood (m : List ℕ) (marker : ℕ) : Type 0 where
  pub before : List OptionItem
  pub item : OptionItem
  pub after : List OptionItem
  pub end : ℕ
  pub list : IsList (announces_dest_options (flags_in m)) m (options_at m) (before ++ item ∷ after) end
  pub earlier : AllByRecursion (λ other. ¬ IsNotUnderstood other) before
  pub fault : IsNotUnderstood item
  pub marker_is : marker ≡ marker_of (has_items after) item

-- C9: a destination option has to be understood and is not.
abbrev pub HasOptionNotUnderstood : List ℕ → Type 0
HasOptionNotUnderstood m = (marker : ℕ) × IsFirstNotUnderstood m marker

-- C12: the function is Proprietary-Message, and no proprietary function is known here.
abbrev pub IsProprietary : List ℕ → Type 0
IsProprietary m = function_in m ≡ 0x0C

-- C13: the message is out of place.
abbrev pub IsOutOfPlace : List ℕ → Place → Type 0
IsOutOfPlace m place = ¬ IsInPlace (is_to_carry place m) place (function_in m) (origin_in m)

-- ---- the table

-- The check fails of a message at this place, where messages have this greatest length.
abbrev pub Fails : List ℕ → Place → ℕ → Check → Type 0
Fails m place max C1 = IsShort m
Fails m place max C2 = IsTooLong m max
Fails m place max C3 = LacksAddressOctets m
Fails m place max C4 = HasWrongAddresses place (function_in m) (origin_in m) (dest_in m)
Fails m place max C5 = HasReservedFlag m
Fails m place max C6 = HasUnknownFunction m
Fails m place max C7 = LacksOptionOctets m
Fails m place max C7b = HasBadOption m
Fails m place max C8 = HasMisplacedDataOptions m
Fails m place max C9 = HasOptionNotUnderstood m
Fails m place max C10 = LacksPayload m
Fails m place max C10b = HasShortPayload m
Fails m place max C10c = HasLongPayload m
Fails m place max C11 = HasValueOutOfRange m
Fails m place max C12 = IsProprietary m
Fails m place max C13 = IsOutOfPlace m place

-- The error code with which a check answers, where it is not silent.
abbrev pub code_of : Check → Option ℕ
code_of C5 = Some 145
code_of C6 = Some 143
code_of C7 = Some 147
code_of C7b = Some 145
code_of C8 = Some 145
code_of C9 = Some 146
code_of C10 = Some 149
code_of C10b = Some 147
code_of C10c = Some 150
code_of C11 = Some 80
code_of C12 = Some 144
code_of check = None

-- The checks of the head of a message, in their order.
abbrev pub head_checks : List Check
head_checks = C1 ∷ C2 ∷ C3 ∷ C4 ∷ C5 ∷ []

-- The checks of what stands behind it, in their order.
abbrev pub later_checks : List Check
later_checks = C6 ∷ C7 ∷ C7b ∷ C8 ∷ C9 ∷ C10 ∷ C10b ∷ C10c ∷ C11 ∷ C12 ∷ []

-- The checks that are made of a message, in their order: of one that the hub carries on those of its head, and of another
-- all, and that it is in place comes last.
abbrev pub checks_of : Place → List ℕ → List Check
checks_of place m = head_checks ++ (if is_to_carry place m then [] else later_checks) ++ C13 ∷ []

-- The check k is the first that fails.
abbrev pub IsFirst : Check → List ℕ → Place → ℕ → Type 0
IsFirst k m place max = IsFirstOf (checks_of place m) (Fails m place max) k

-- No check that is made fails.
abbrev pub NoneFails : List ℕ → Place → ℕ → Type 0
NoneFails m place max = AllByRecursion (λ check. ¬ Fails m place max check) (checks_of place m)
