-- The names of classes: `*` is the first of them, what the rules have on the side is among them, and they are few.
-- It serves the clauses of `make`.
use Rattle.std.proofs.Common.{◌≡◌, ◌≤◌, ◌+◌, ℕ, Bool, true, false, ◌||◌, if◌then◌else◌, nat_eq, List, [], ◌∷◌, ◌++◌, codes, fold, length, map, slice_get, Some, refl, ap, ◌∙◌, arith, length-append}
use Rattle.std.specs.Prelude.{⊤}
use Rattle.std.specs.Cmp.Lexicographic.{pointwise, bytes_decides}
use Rattle.std.proofs.lemmas.List.{length-map}
use Rattle.std.proofs.lemmas.List.Folds.{list_any-append}
use Rattle.bsc_policy.specs.declared.rule.Rule.{Rule}
use Rattle.bsc_policy.specs.Classes.{is_among, names_of, with_name}
use Rattle.bsc_lemmas.proofs.Booleans.{or_true}

-- ---- a name more

added : (names : List (List ℕ)) (name : List ℕ) → is_among (names ++ name ∷ []) name ≡ true
added names name =
    let same : pointwise nat_eq name name ≡ true = (bytes_decides name name).1 refl in
    list_any-append (λ n. pointwise nat_eq n name) names (name ∷ [])
    ∙ ap (λ (b : Bool). is_among names name || (b || false)) same
    ∙ or_true (is_among names name)

is_now : (names : List (List ℕ)) (name : List ℕ) (b : Bool) → is_among names name ≡ b → is_among (if b then names else names ++ name ∷ []) name ≡ true
is_now names name true is = is
is_now names name false is = added names name

stays : (names : List (List ℕ)) (more name : List ℕ) (b : Bool) → is_among names name ≡ true → is_among (if b then names else names ++ more ∷ []) name ≡ true
stays names more name true is = is
stays names more name false is = list_any-append (λ n. pointwise nat_eq n name) names (more ∷ []) ∙ ap (λ (b : Bool). b || is_among (more ∷ []) name) is

first_stays : (names : List (List ℕ)) (more first : List ℕ) (b : Bool) → slice_get names 0 ≡ Some first → slice_get (if b then names else names ++ more ∷ []) 0 ≡ Some first
first_stays names more first true is = is
first_stays [] more first false is = cc
first_stays (n ∷ names) more first false is = is

at_most_one : (names : List (List ℕ)) (more : List ℕ) (b : Bool) → length (if b then names else names ++ more ∷ []) ≤ length names + 1
at_most_one names more true = omega arith
at_most_one names more false = omega (arith, length-append names (more ∷ []))

-- ---- all of them

all_stay : (sides names : List (List ℕ)) (name : List ℕ) → is_among names name ≡ true → is_among (fold with_name names sides) name ≡ true
all_stay [] names name is = is
all_stay (s ∷ sides) names name is = all_stay sides (with_name names s) name (stays names s name (is_among names s) is)

first_of : (sides names : List (List ℕ)) (first : List ℕ) → slice_get names 0 ≡ Some first → slice_get (fold with_name names sides) 0 ≡ Some first
first_of [] names first is = is
first_of (s ∷ sides) names first is = first_of sides (with_name names s) first (first_stays names s first (is_among names s) is)

at_most : (sides names : List (List ℕ)) → length (fold with_name names sides) ≤ length names + length sides
at_most [] names = omega arith
at_most (s ∷ sides) names = omega (arith, at_most sides (with_name names s), at_most_one names s (is_among names s))

-- what the rules have on a side is among the names
abbrev pub AllNamed : (Rule → List ℕ) → List (List ℕ) → List Rule → Type 0
AllNamed side names [] = ⊤
AllNamed side names (r ∷ rules) = (is_among names (side r) ≡ true) × AllNamed side names rules

sides_named : (side : Rule → List ℕ) (rules : List Rule) (names : List (List ℕ)) → AllNamed side (fold with_name names (map side rules)) rules
sides_named side [] names = tt
sides_named side (r ∷ rules) names =
    (all_stay (map side rules) (with_name names (side r)) (side r) (is_now names (side r) (is_among names (side r)) refl), sides_named side rules (with_name names (side r)))

-- ---- of the names of classes

pub named : (side : Rule → List ℕ) (rules : List Rule) → AllNamed side (names_of (map side rules)) rules
named side rules = sides_named side rules (codes "*" ∷ [])

pub star_first : (sides : List (List ℕ)) → slice_get (names_of sides) 0 ≡ Some (codes "*")
star_first sides = first_of sides (codes "*" ∷ []) (codes "*") refl

pub few : (side : Rule → List ℕ) (rules : List Rule) → length (names_of (map side rules)) ≤ 1 + length rules
few side rules = omega (arith, at_most (map side rules) (codes "*" ∷ []), length-map rules side)
