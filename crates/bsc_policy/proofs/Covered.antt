-- What rules cover of a group they cover of the name of its class, and so the same rule is the first that applies.
-- It serves the clauses of `make`.
use Rattle.std.proofs.Common.{◌≡◌, ◌+◌, ℕ, Bool, true, false, cond, not, ◌&&◌, ◌||◌, nat_eq, nat_lt, List, [], ◌∷◌, codes, find, length, slice_get, unwrap_or, Option, Some, None}
use Rattle.std.proofs.Common.{refl, ap, ap₂, sym, subst, ◌∙◌, arith, ltb-true, ltb-false}
use Rattle.std.specs.Cmp.Lexicographic.{pointwise, bytes_decides}
use Rattle.std.specs.List.{position_or_len}
use Rattle.std.proofs.lemmas.List.Folds.{find_at}
use Rattle.std.proofs.lemmas.Option.{slice_get-get_or, slice_get_within}
use Rattle.bsc_policy.specs.declared.rule.Rule.{Rule}
use Rattle.bsc_policy.specs.Classes.{class_of, is_among}
use Rattle.bsc_policy.specs.Decisions.{applies, covers, from_one, number_of}
use Rattle.bsc_policy.proofs.Named.{AllNamed}

-- the name of a group's class: that of the group where it is among the names, and else `*`
abbrev pub name_of : List (List ℕ) → List ℕ → List ℕ
name_of names group = unwrap_or (find (λ n. pointwise nat_eq n group) names) (codes "*")

-- ---- where it stands

at_class : (names : List (List ℕ)) (o : Option (List ℕ)) (place : ℕ) (b : Bool) → slice_get names 0 ≡ Some (codes "*") → o ≡ slice_get names place → nat_lt place (length names) ≡ b
    → slice_get names (unwrap_or (cond b (Some place) None) 0) ≡ Some (unwrap_or o (codes "*"))
at_class names (Some n) place true first is within = sym is
at_class names None place false first is within = first
at_class names None place true first is within =
    let there = slice_get-get_or names place [] (ltb-true place (length names) within) in
    let not_there = sym is in
    cc
at_class names (Some n) place false first is within =
    let before = slice_get_within names place n (sym is) in
    let behind = ltb-false place (length names) within in
    absurd (omega arith)

pub named_at : (names : List (List ℕ)) (group : List ℕ) → slice_get names 0 ≡ Some (codes "*") → slice_get names (class_of names group) ≡ Some (name_of names group)
named_at names group first =
    let p = λ (n : List ℕ). pointwise nat_eq n group in
    at_class names (find p names) (position_or_len p names) (nat_lt (position_or_len p names) (length names)) first (find_at p names) refl

-- ---- what is covered

-- a name that is found is the group's
found : (names : List (List ℕ)) (group name : List ℕ) → find (λ n. pointwise nat_eq n group) names ≡ Some name → name ≡ group
found [] group name is = cc
found (x ∷ names) group name is = by (found names group name) (pointwise nat_eq x group) refl is
  where
    by : (find (λ n. pointwise nat_eq n group) names ≡ Some name → name ≡ group) → (b : Bool) → pointwise nat_eq x group ≡ b
        → cond b (Some x) (find (λ n. pointwise nat_eq n group) names) ≡ Some name → name ≡ group
    by rest true same is = let here = (bytes_decides x group).0 same in cc
    by rest false other is = rest is

-- where the group isn't among the names, a name that is among them is another
apart : (names : List (List ℕ)) (group side : List ℕ) → find (λ n. pointwise nat_eq n group) names ≡ None → is_among names side ≡ true → pointwise nat_eq side group ≡ false
apart [] group side none is = cc
apart (x ∷ names) group side none is = by (apart names group side) (pointwise nat_eq x group) (pointwise nat_eq x side) refl refl none is
  where
    by : (find (λ n. pointwise nat_eq n group) names ≡ None → is_among names side ≡ true → pointwise nat_eq side group ≡ false)
        → (b c : Bool) → pointwise nat_eq x group ≡ b → pointwise nat_eq x side ≡ c → cond b (Some x) (find (λ n. pointwise nat_eq n group) names) ≡ None → (c || is_among names side) ≡ true
        → pointwise nat_eq side group ≡ false
    by rest true c same here none is = cc
    by rest false true other here none is = subst (λ (l : List ℕ). pointwise nat_eq l group ≡ false) ((bytes_decides x side).0 here) other
    by rest false false other here none is = rest none is

twice : (b : Bool) → (b || false) ≡ (b || b)
twice true = refl
twice false = refl

same_covered : (side group : List ℕ) (o : Option (List ℕ)) → ((name : List ℕ) → o ≡ Some name → name ≡ group) → (o ≡ None → pointwise nat_eq side group ≡ false)
    → covers side group ≡ covers side (unwrap_or o (codes "*"))
same_covered side group (Some name) is other = ap (covers side) (sym (is name refl))
same_covered side group None is other = ap (λ (b : Bool). pointwise nat_eq side (codes "*") || b) (other refl) ∙ twice (pointwise nat_eq side (codes "*"))

covered : (names : List (List ℕ)) (group side : List ℕ) → is_among names side ≡ true → covers side group ≡ covers side (name_of names group)
covered names group side is =
    same_covered side group (find (λ n. pointwise nat_eq n group) names) (λ name. found names group name) (λ none. apart names group side none is)

-- ---- which rule is the first

same_first : (rules : List Rule) (froms tos : List (List ℕ)) (from to : List ℕ) → AllNamed (λ r. r.from) froms rules → AllNamed (λ r. r.to) tos rules
    → position_or_len (applies from to) rules ≡ position_or_len (applies (name_of froms from) (name_of tos to)) rules
same_first [] froms tos from to has_from has_to = refl
same_first (r ∷ rules) froms tos from to has_from has_to =
    let here : applies from to r ≡ applies (name_of froms from) (name_of tos to) r = ap₂ (λ (a b : Bool). a && b) (covered froms from r.from has_from.0) (covered tos to r.to has_to.0) in
    ap₂ (λ (b : Bool) (n : ℕ). cond (not b) (1 + n) 0) here (same_first rules froms tos from to has_from.1 has_to.1)

pub same_number : (rules : List Rule) (froms tos : List (List ℕ)) (from to : List ℕ) → AllNamed (λ r. r.from) froms rules → AllNamed (λ r. r.to) tos rules
    → number_of rules from to ≡ number_of rules (name_of froms from) (name_of tos to)
same_number rules froms tos from to has_from has_to =
    ap (λ (n : ℕ). from_one (cond (nat_lt n (length rules)) (Some n) None)) (same_first rules froms tos from to has_from has_to)
