-- The first item at fault: it has no shape, those before it have one, and no other item is so.
-- It serves clauses of functions of `checking`, `laws` and `reading`.
use Rattle.std.proofs.Common.{◌≡◌, ◌≢◌, Bool, true, false, eqb, cond, List, [], ◌∷◌, ◌++◌, Option, Some, None, refl, ap, ◌∙◌}
use Rattle.std.specs.List.{AllByRecursion}
use Rattle.std.specs.Option.{option_or}
use Rattle.std.proofs.lemmas.Bool.{eqb-true, eq-eqb}
use Rattle.bsc_options.specs.declared.item.OptionItem.{OptionItem}
use Rattle.bsc_options.specs.declared.fault.OptionsFault.{OptionsFault}
use Rattle.bsc_options.specs.declared.fault.OptionsFault.TheVariants.{Cut, BadKind, BadShape, NoMemory}
use Rattle.bsc_options.specs.Spelling.{Fits, HasShape, has_data_of_its_type}
use Rattle.bsc_options.specs.Walk.{fault_of, first_fault}

-- ---- one item

-- what two tests say of the fault that they choose
abbrev chosen : Bool → Bool → Option OptionsFault
chosen a b = cond a (Some BadKind) (cond b None (Some BadShape))

chose_none : (a b : Bool) → chosen a b ≡ None → (a ≡ false) × (b ≡ true)
chose_none true b e = absurd cc
chose_none false true e = (refl, refl)
chose_none false false e = absurd cc

chose_kind : (a b : Bool) → chosen a b ≡ Some BadKind → a ≡ true
chose_kind true b e = refl
chose_kind false true e = absurd cc
chose_kind false false e = absurd cc

chose_shape : (a b : Bool) → chosen a b ≡ Some BadShape → (a ≡ false) × (b ≡ false)
chose_shape true b e = absurd cc
chose_shape false true e = absurd cc
chose_shape false false e = (refl, refl)

chose_cut : (a b : Bool) → chosen a b ≡ Some Cut → ⊥
chose_cut true b e = cc
chose_cut false true e = cc
chose_cut false false e = cc

chose_memory : (a b : Bool) → chosen a b ≡ Some NoMemory → ⊥
chose_memory true b e = cc
chose_memory false true e = cc
chose_memory false false e = cc

-- an item has no fault but those two
pub never_cut : (item : OptionItem) → fault_of item ≡ Some Cut → ⊥
never_cut item e = chose_cut (eqb item.kind 0) (has_data_of_its_type item) e

pub never_memory : (item : OptionItem) → fault_of item ≡ Some NoMemory → ⊥
never_memory item e = chose_memory (eqb item.kind 0) (has_data_of_its_type item) e

-- the type of an item is 0 or not, as its test says
not_zero : (item : OptionItem) → eqb item.kind 0 ≡ false → item.kind ≢ 0
not_zero item e zero_kind = let yes : eqb item.kind 0 ≡ true = eq-eqb item.kind 0 zero_kind in absurd cc

pub sound_has_shape : (item : OptionItem) → Fits item → fault_of item ≡ None → HasShape item
sound_has_shape item fits e =
    let both = chose_none (eqb item.kind 0) (has_data_of_its_type item) e in
    record { fits = fits; kind = not_zero item both.0; content = both.1 }

pub bad_kind_is : (item : OptionItem) → fault_of item ≡ Some BadKind → (item.kind ≡ 0) × (HasShape item → ⊥)
bad_kind_is item e =
    let zero_kind : item.kind ≡ 0 = eqb-true item.kind 0 (chose_kind (eqb item.kind 0) (has_data_of_its_type item) e) in
    (zero_kind, λ shape. shape.kind zero_kind)

pub bad_shape_is : (item : OptionItem) → fault_of item ≡ Some BadShape → (item.kind ≢ 0) × (HasShape item → ⊥)
bad_shape_is item e =
    let both = chose_shape (eqb item.kind 0) (has_data_of_its_type item) e in
    (not_zero item both.0, λ shape. let yes : has_data_of_its_type item ≡ true = shape.content in let no = both.1 in absurd cc)

-- ---- a list

pub record FaultAt (items : List OptionItem) (fault : OptionsFault) : Type 0 where
  pub before : List OptionItem
  pub item : OptionItem
  pub after : List OptionItem
  pub parts : items ≡ before ++ item ∷ after
  pub earlier : AllByRecursion HasShape before
  pub fault_is : fault_of item ≡ Some fault

-- with the fault of the first item, it is there or behind it
split : (x : OptionItem) (xs : List OptionItem) (fault : OptionsFault) (own : Option OptionsFault) → Fits x → fault_of x ≡ own → option_or own (first_fault xs) ≡ Some fault
    → (first_fault xs ≡ Some fault → FaultAt xs fault) → FaultAt (x ∷ xs) fault
split x xs fault None fits e first later =
    let found = later first in
    record {
      before = x ∷ found.before;
      item = found.item;
      after = found.after;
      parts = ap (λ (l : List OptionItem). x ∷ l) found.parts;
      earlier = (sound_has_shape x fits e, found.earlier);
      fault_is = found.fault_is;
    }
split x xs fault (Some own) fits e first later =
    record { before = []; item = x; after = xs; parts = refl; earlier = tt; fault_is = e ∙ first }

pub fault_at : (items : List OptionItem) (fault : OptionsFault) → AllByRecursion Fits items → first_fault items ≡ Some fault → FaultAt items fault
fault_at [] fault all e = absurd cc
fault_at (x ∷ xs) fault all e = split x xs fault (fault_of x) all.0 refl e (λ later. fault_at xs fault all.1 later)

sound : (x : OptionItem) (xs : List OptionItem) (own : Option OptionsFault) → fault_of x ≡ own → option_or own (first_fault xs) ≡ None → (fault_of x ≡ None) × (first_fault xs ≡ None)
sound x xs None e none = (e, none)
sound x xs (Some own) e none = absurd cc

pub all_have_shape : (items : List OptionItem) → AllByRecursion Fits items → first_fault items ≡ None → AllByRecursion HasShape items
all_have_shape [] all e = tt
all_have_shape (x ∷ xs) all e =
    let both = sound x xs (fault_of x) refl e in
    (sound_has_shape x all.0 both.0, all_have_shape xs all.1 both.1)

-- ---- no two items are the first at fault

pub shape_within : (before : List OptionItem) (item : OptionItem) (after : List OptionItem) → AllByRecursion HasShape (before ++ item ∷ after) → HasShape item
shape_within [] item after all = all.0
shape_within (x ∷ before) item after all = shape_within before item after all.1

pub one_first : (before other : List OptionItem) (x y : OptionItem) (after rest : List OptionItem) → AllByRecursion HasShape before → AllByRecursion HasShape other → (HasShape x → ⊥)
    → (HasShape y → ⊥)
    → before ++ x ∷ after ≡ other ++ y ∷ rest → x ≡ y
one_first [] [] x y after rest all others bad worse e = cc
one_first [] (z ∷ other) x y after rest all others bad worse e = let same : x ≡ z = cc in absurd (bad (rw same others.0))
one_first (z ∷ before) [] x y after rest all others bad worse e = let same : y ≡ z = cc in absurd (worse (rw same all.0))
one_first (z ∷ before) (w ∷ other) x y after rest all others bad worse e = one_first before other x y after rest all.1 others.1 bad worse cc
