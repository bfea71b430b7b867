-- The classes that groups fall into on a side of the rules. A group that some rule names there has a class of its own, and all
-- others have class 0: of these each rule covers all or none there.
use Rattle.std.specs.Prelude.{ℕ, nat_eq, Bool, if◌then◌else◌, List, [], ◌∷◌, ◌++◌, codes, fold, position, unwrap_or, Option}
use Rattle.std.specs.Cmp.Lexicographic.{pointwise}
use Rattle.std.specs.List.{list_any}

-- whether a name is among these
abbrev pub is_among : List (List ℕ) → List ℕ → Bool
is_among names name = list_any (λ n. pointwise nat_eq n name) names

-- a name more behind the others, unless it is among them
abbrev pub with_name : List (List ℕ) → List ℕ → List (List ℕ)
with_name names name = if is_among names name then names else names ++ name ∷ []

-- The names of the classes, by what the rules have on the side: `*` for class 0, and then each of them once.
abbrev pub names_of : List (List ℕ) → List (List ℕ)
names_of sides = fold with_name (codes "*" ∷ []) sides

-- the place of a name among these
abbrev pub place_of : List (List ℕ) → List ℕ → Option ℕ
place_of names name = position (λ n. pointwise nat_eq n name) names

-- The class of a group: the place of its name, or 0 where it isn't among these.
abbrev pub class_of : List (List ℕ) → List ℕ → ℕ
class_of names group = unwrap_or (place_of names group) 0
