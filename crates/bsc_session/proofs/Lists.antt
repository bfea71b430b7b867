-- What grows grows on, and puts behind puts.
-- It serves clauses of most source files here.
use Rattle.std.proofs.Common.{◌≡◌, ℕ, ◌+◌, List, [], ◌∷◌, ◌++◌, refl, ap, sym, ◌∙◌, append_assoc, append-nil, add_assoc, arith, Option, Some, None}
use Rattle.bsc_edge.specs.declared.fault.LinkFault.{LinkFault}
use Rattle.bsc_edge.specs.Told.{Grows, Stays}
use Rattle.bsc_session.specs.Course.{standing, shares, total, EachTurn}
use Rattle.bsc_session.specs.Puts.{HasPut, puts}
use Rattle.bsc_session.specs.Standings.{Standing, Terms}
use Rattle.bsc_session.specs.Turns.{Turn, after}

-- what stays grows by nothing
pub grows_stays : {A : Type 0} (o p : Option (List A)) → Stays o p → Grows o p []
grows_stays o None h = tt
grows_stays None (Some b) h = absurd h
grows_stays (Some a) (Some b) h = h ∙ sym (append-nil a)

pub grows_as : {A : Type 0} (o p : Option (List A)) (xs ys : List A) → xs ≡ ys → Grows o p xs → Grows o p ys
grows_as o p xs ys e h = rw e at h

pub standing-more : (v : Terms) (s : Standing) (ts : List Turn) (t : Turn) → standing v s (ts ++ t ∷ []) ≡ after v (standing v s ts) t
standing-more v s [] t = refl
standing-more v s (u ∷ ts) t = standing-more v (after v s u) ts t

pub shares-more : {A : Type 0} (f : Terms → Standing → Turn → List A) (v : Terms) (s : Standing) (ts : List Turn) (t : Turn) → shares f v s (ts ++ t ∷ []) ≡ shares f v s ts ++ f v (standing v s ts) t
shares-more f v s [] t = append-nil (f v s t)
shares-more f v s (u ∷ ts) t = ap (λ w. f v s u ++ w) (shares-more f v (after v s u) ts t) ∙ sym (append_assoc (f v s u) (shares f v (after v s u) ts) (f v (standing v (after v s u) ts) t))

pub total-more : (f : Terms → Standing → Turn → ℕ) (v : Terms) (s : Standing) (ts : List Turn) (t : Turn) → total f v s (ts ++ t ∷ []) ≡ total f v s ts + f v (standing v s ts) t
total-more f v s [] t = omega arith
total-more f v s (u ∷ ts) t = ap (λ w. f v s u + w) (total-more f v (after v s u) ts t) ∙ sym (add_assoc (f v s u) (total f v (after v s u) ts) (f v (standing v (after v s u) ts) t))

pub each-more : (P : Terms → Standing → Turn → Type 0) (v : Terms) (s : Standing) (ts : List Turn) (t : Turn) → EachTurn P v s ts → P v (standing v s ts) t → EachTurn P v s (ts ++ t ∷ [])
each-more P v s [] t each last = (last, tt)
each-more P v s (u ∷ ts) t each last = (each.0, each-more P v (after v s u) ts t each.1 last)

-- the last of puts behind others has the fault
pub puts-append : (xs ys : List (List ℕ)) (fault : Option LinkFault) → HasPut ys fault → puts (xs ++ ys) fault ≡ puts xs None ++ puts ys fault
puts-append xs [] None h = ap (λ w. puts w None) (append-nil xs) ∙ sym (append-nil (puts xs None))
puts-append xs [] (Some fault) h = absurd h
puts-append [] (y ∷ ys) fault h = refl
puts-append (p ∷ []) (y ∷ ys) fault h = refl
puts-append (p ∷ (q ∷ xs)) (y ∷ ys) fault h = ap (λ w. puts (p ∷ []) None ++ w) (puts-append (q ∷ xs) (y ∷ ys) fault h)

pub HasPut-append : (xs ys : List (List ℕ)) (fault : Option LinkFault) → HasPut ys fault → HasPut (xs ++ ys) fault
HasPut-append [] ys fault h = h
HasPut-append (x ∷ xs) ys fault h = tt

-- no fault needs no put
pub well : (os : List (List ℕ)) → HasPut os None
well [] = tt
well (o ∷ os) = tt
