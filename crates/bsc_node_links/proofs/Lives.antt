-- The lines until a link begins anew, with more lines behind.
-- It serves clauses of functions of `laws`.
use Rattle.std.proofs.Common.{◌≡◌, Bool, true, false, cond, ◌||◌, List, [], ◌∷◌, ◌++◌, refl, ap}
use Rattle.std.specs.List.{list_any}
use Rattle.bsc_node.specs.declared.link_name.LinkName.{LinkName}
use Rattle.bsc_node.specs.Links.{begins}
use Rattle.bsc_node.specs.Logs.{Line}
use Rattle.bsc_node_links.specs.Lives.{until_anew}

-- where none begins these are all, and it goes on with what comes behind
pub until-none : (name : LinkName) (xs ys : List Line) → list_any (begins name) xs ≡ false → until_anew name (xs ++ ys) ≡ xs ++ until_anew name ys
until-none name [] ys h = refl
until-none name (m ∷ xs) ys h = by (λ g. until-none name xs ys g) (begins name m) h
  where
    by : (list_any (begins name) xs ≡ false → until_anew name (xs ++ ys) ≡ xs ++ until_anew name ys) → (b : Bool) → (b || list_any (begins name) xs) ≡ false
        → cond b [] (m ∷ until_anew name (xs ++ ys)) ≡ m ∷ (xs ++ until_anew name ys)
    by rec true g = cc
    by rec false g = ap (λ (l : List Line). m ∷ l) (rec g)

-- where one begins, what comes behind changes nothing
pub until-some : (name : LinkName) (xs ys : List Line) → list_any (begins name) xs ≡ true → until_anew name (xs ++ ys) ≡ until_anew name xs
until-some name [] ys h = cc
until-some name (m ∷ xs) ys h = by (λ g. until-some name xs ys g) (begins name m) h
  where
    by : (list_any (begins name) xs ≡ true → until_anew name (xs ++ ys) ≡ until_anew name xs) → (b : Bool) → (b || list_any (begins name) xs) ≡ true
        → cond b [] (m ∷ until_anew name (xs ++ ys)) ≡ cond b [] (m ∷ until_anew name xs)
    by rec true g = refl
    by rec false g = ap (λ (l : List Line). m ∷ l) (rec g)

pub until-all : (name : LinkName) (xs : List Line) → list_any (begins name) xs ≡ false → until_anew name xs ≡ xs
until-all name [] h = refl
until-all name (m ∷ xs) h = by (λ g. until-all name xs g) (begins name m) h
  where
    by : (list_any (begins name) xs ≡ false → until_anew name xs ≡ xs) → (b : Bool) → (b || list_any (begins name) xs) ≡ false → cond b [] (m ∷ until_anew name xs) ≡ m ∷ xs
    by rec true g = cc
    by rec false g = ap (λ (l : List Line). m ∷ l) (rec g)
