-- Lists written out in octets, with what the definitions make of them.
-- No clause needs it: worked examples.
use Rattle.std.proofs.Common.{◌≡◌, ℕ, true, false, List, [], ◌∷◌, Some, None, refl, arith}
use Rattle.bsc_options.specs.declared.item.OptionItem.{OptionItem}
use Rattle.bsc_options.specs.Spelling.{HasShape, SpellsOptions, spelling_of}
use Rattle.bsc_options.specs.Reading.{BeginsWith, IsCut, IsFirstAtFault}

-- Secure Path, which must be understood
abbrev secure : OptionItem
secure = record { must = true; kind = 1; content = None }

-- Secure Path, which need not be
abbrev plain : OptionItem
plain = record { must = false; kind = 1; content = None }

-- Proprietary of vendor 00FF, its type 07, with one octet more
abbrev private_one : OptionItem
private_one = record { must = false; kind = 31; content = Some (0x00 ∷ 0xFF ∷ 0x07 ∷ 0xAA ∷ []) }

-- a message with destination options in place 4 and data options in place 5
abbrev message : List ℕ
message = 0x01 ∷ 0x03 ∷ 0x00 ∷ 0x01 ∷ 0x41 ∷ 0xC1 ∷ 0x01 ∷ 0x00 ∷ []

-- ---- shapes

secure_shape : HasShape secure
secure_shape = record { fits = record { kind = omega arith; content = tt }; kind = λ e. absurd (omega arith); content = refl }

plain_shape : HasShape plain
plain_shape = record { fits = record { kind = omega arith; content = tt }; kind = λ e. absurd (omega arith); content = refl }

private_shape : HasShape private_one
private_shape = record { fits = record { kind = omega arith; content = omega arith }; kind = λ e. absurd (omega arith); content = refl }

-- ---- lists and their octets

one_option : SpellsOptions (secure ∷ []) (0x41 ∷ [])
one_option = record { options = record { some = omega arith; shapes = (secure_shape, tt) }; spelling = refl }

two_options : SpellsOptions (secure ∷ private_one ∷ []) (0xC1 ∷ 0x3F ∷ 0x00 ∷ 0x04 ∷ 0x00 ∷ 0xFF ∷ 0x07 ∷ 0xAA ∷ [])
two_options = record { options = record { some = omega arith; shapes = (secure_shape, (private_shape, tt)) }; spelling = refl }

no_data : spelling_of (record { must = false; kind = 2; content = Some [] } ∷ []) ≡ 0x22 ∷ 0x00 ∷ 0x00 ∷ []
no_data = refl

dest_options : BeginsWith message 4 (secure ∷ []) 5
dest_options = record { spelling = refl; place = refl }

data_options : BeginsWith message 5 (secure ∷ plain ∷ []) 7
data_options = record { spelling = refl; place = refl }

-- ---- faults

-- the marker says that another item follows, and none does
more_and_none : IsCut (0xC1 ∷ []) 0
more_and_none = record {
  items = secure ∷ plain ∷ [];
  missing = 0x01 ∷ [];
  are = record { some = omega arith; fit = (secure_shape.fits, (plain_shape.fits, tt)) };
  some = omega arith;
  spelling = refl;
}

-- an item of type 0, whose second octet of length is missing
type_zero_and_cut : IsCut (0x20 ∷ 0x00 ∷ []) 0
type_zero_and_cut = record {
  items = record { must = false; kind = 0; content = Some [] } ∷ [];
  missing = 0x00 ∷ [];
  are = record { some = omega arith; fit = (record { kind = omega arith; content = omega arith }, tt) };
  some = omega arith;
  spelling = refl;
}

-- Secure Path with data, though with no octet of them
secure_with_data : IsFirstAtFault (0x61 ∷ 0x00 ∷ 0x00 ∷ 0x00 ∷ []) 0 (record { must = true; kind = 1; content = Some [] })
secure_with_data = record {
  before = [];
  after = [];
  end = 3;
  are = record { some = omega arith; fit = (record { kind = omega arith; content = omega arith }, tt) };
  whole = record { spelling = refl; place = refl };
  earlier = tt;
  fault = λ shape. let no : false ≡ true = shape.content in cc;
}

-- Proprietary without an octet of its own type, behind Secure Path
short_private : IsFirstAtFault (0xC1 ∷ 0x3F ∷ 0x00 ∷ 0x02 ∷ 0x00 ∷ 0xFF ∷ []) 0 (record { must = false; kind = 31; content = Some (0x00 ∷ 0xFF ∷ []) })
short_private = record {
  before = secure ∷ [];
  after = [];
  end = 6;
  are = record { some = omega arith; fit = (secure_shape.fits, (record { kind = omega arith; content = omega arith }, tt)) };
  whole = record { spelling = refl; place = refl };
  earlier = (secure_shape, tt);
  fault = λ shape. let no : false ≡ true = shape.content in cc;
}
