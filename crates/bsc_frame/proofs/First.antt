-- The first of some checks that fails.
-- It serves clauses of most source files here.
use Rattle.std.proofs.Common.{◌≡◌, Bool, true, false, List, [], ◌∷◌, ◌++◌, refl, sym, ap, subst, ◌∙◌, append_assoc}
use Rattle.std.specs.List.{AllByRecursion}
use Rattle.bsc_frame.specs.declared.check.Check.{Check}
use Rattle.bsc_frame.specs.Checks.{IsFirstOf}

-- no check of the list fails
abbrev pub Pass : (Check → Type 0) → List Check → Type 0
Pass fails checks = AllByRecursion (λ check. ¬ fails check) checks

pub pass_append : (fails : Check → Type 0) (xs ys : List Check) → Pass fails xs → Pass fails ys → Pass fails (xs ++ ys)
pass_append fails [] ys p q = q
pass_append fails (x ∷ xs) ys p q = (p.0, pass_append fails xs ys p.1 q)

-- the first is the one in front, where that fails
pub first_here : (fails : Check → Type 0) (k : Check) (rest : List Check) → fails k → IsFirstOf (k ∷ rest) fails k
first_here fails k rest fault = record { before = []; after = rest; place = refl; earlier = tt; fault = fault }

-- and else it is behind that
pub first_after : (fails : Check → Type 0) (j : Check) (rest : List Check) (k : Check) → (fails j → ⊥) → IsFirstOf rest fails k → IsFirstOf (j ∷ rest) fails k
first_after fails j rest k pass first =
    record { before = j ∷ first.before; after = first.after; place = ap (λ (l : List Check). j ∷ l) first.place; earlier = (pass, first.earlier); fault = first.fault }

-- a test that holds exactly where something is so, and did not
pub not_so : (P : Type 0) (b : Bool) → (P → b ≡ true) → b ≡ false → P → ⊥
not_so P b back clear p = let both : true ≡ false = sym (back p) ∙ clear in absurd cc

-- where none of the earlier checks fails, the first of the later ones is the first of all
pub first_later : (fails : Check → Type 0) (xs ys : List Check) (k : Check) → Pass fails xs → IsFirstOf ys fails k → IsFirstOf (xs ++ ys) fails k
first_later fails xs ys k pass first =
    record {
      before = xs ++ first.before;
      after = first.after;
      place = ap (λ (l : List Check). xs ++ l) first.place ∙ sym (append_assoc xs first.before (k ∷ first.after));
      earlier = pass_append fails xs first.before pass first.earlier;
      fault = first.fault;
    }

-- the first of the earlier checks is the first of all
pub first_earlier : (fails : Check → Type 0) (xs ys : List Check) (k : Check) → IsFirstOf xs fails k → IsFirstOf (xs ++ ys) fails k
first_earlier fails xs ys k first =
    record {
      before = first.before;
      after = first.after ++ ys;
      place = ap (λ (l : List Check). l ++ ys) first.place ∙ append_assoc first.before (k ∷ first.after) ys;
      earlier = first.earlier;
      fault = first.fault;
    }

-- the first by another property, where of the checks both hold alike
pub first_as : (fails also : Check → Type 0) (xs : List Check) (k : Check) → ((check : Check) → fails check → also check) → AllByRecursion (λ check. also check → fails check) xs
    → IsFirstOf xs fails k → IsFirstOf xs also k
first_as fails also xs k on back first =
    record {
      before = first.before;
      after = first.after;
      place = first.place;
      earlier = all first.before (k ∷ first.after) (subst (AllByRecursion (λ check. also check → fails check)) first.place back) first.earlier;
      fault = on k first.fault;
    }
  where
    all : (l rest : List Check) → AllByRecursion (λ check. also check → fails check) (l ++ rest) → Pass fails l → Pass also l
    all [] rest q p = tt
    all (x ∷ l) rest q p = ((λ f. p.0 (q.0 f)), all l rest q.1 p.1)

-- no check passes and fails
pub passes_at : (fails : Check → Type 0) (before : List Check) (k : Check) (after : List Check) → Pass fails (before ++ k ∷ after) → fails k → ⊥
passes_at fails [] k after pass fault = pass.0 fault
passes_at fails (x ∷ before) k after pass fault = passes_at fails before k after pass.1 fault

pub first_or_none : (fails : Check → Type 0) (xs : List Check) (k : Check) → Pass fails xs → IsFirstOf xs fails k → ⊥
first_or_none fails xs k pass first = passes_at fails first.before k first.after (subst (Pass fails) first.place pass) first.fault

-- one check is the first
one_of : (fails : Check → Type 0) (before other : List Check) (k j : Check) (after rest : List Check) → Pass fails before → Pass fails other → fails k → fails j
    → before ++ k ∷ after ≡ other ++ j ∷ rest → k ≡ j
one_of fails [] [] k j after rest p q f g e = cc
one_of fails [] (y ∷ other) k j after rest p q f g e = let same : k ≡ y = cc in absurd (q.0 (subst fails same f))
one_of fails (x ∷ before) [] k j after rest p q f g e = let same : j ≡ x = cc in absurd (p.0 (subst fails same g))
one_of fails (x ∷ before) (y ∷ other) k j after rest p q f g e = let same : before ++ k ∷ after ≡ other ++ j ∷ rest = cc in one_of fails before other k j after rest p.1 q.1 f g same

pub one_first : (fails : Check → Type 0) (xs : List Check) (k j : Check) → IsFirstOf xs fails k → IsFirstOf xs fails j → k ≡ j
one_first fails xs k j first other = one_of fails first.before other.before k j first.after other.after first.earlier other.earlier first.fault other.fault (sym first.place ∙ other.place)
