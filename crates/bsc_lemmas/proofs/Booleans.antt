-- Lemmas on Booleans that the kit lacks.
-- It serves many crates above.
use Rattle.std.proofs.Common.{true, ◌≡◌, ◌⊎◌, ⊎_elim, nat_lt, ◌||◌, ◌<◌, ℕ, false, Bool, refl, ◌&&◌, arith, suc, rules, not}
use Rattle.std.proofs.lemmas.Bool.{lt-ltb, or_left as or_left-kit, or_right as or_right-kit}
use Rattle.std.proofs.lemmas.Bool.Decides.{nat_tests}
use Rattle.std.specs.Prelude.{◌==◌, IsTrue, if◌then◌else◌}

pub either : (a b m n : ℕ) → (a < m) ⊎ (b < n) → (nat_lt a m || nat_lt b n) ≡ true
either a b m n h = ⊎_elim (λ (k : a < m). or_left-kit (nat_lt a m) (nat_lt b n) (lt-ltb a m k)) (λ (k : b < n). or_right-kit (nat_lt a m) (nat_lt b n) (lt-ltb b n k)) h

pub not_both : {b : Bool} → b ≡ true → b ≡ false → ⊥
not_both h k = cc

pub and_left : (a b : Bool) → (a && b) ≡ true → a ≡ true
and_left true b h = refl
and_left false b h = h

pub and_right : (a b : Bool) → (a && b) ≡ true → b ≡ true
and_right true b h = h
and_right false b h = cc

pub or_left : (a b : Bool) → (a || b) ≡ false → a ≡ false
or_left true b h = h
or_left false b h = refl

pub or_right : (a b : Bool) → (a || b) ≡ false → b ≡ false
or_right true b h = cc
or_right false b h = h

pub or_true : (b : Bool) → (b || true) ≡ true
or_true true = refl
or_true false = refl

pub or_false : (b : Bool) → (b || false) ≡ b
or_false true = refl
or_false false = refl

pub and_false : (b : Bool) → (b && false) ≡ false
and_false true = refl
and_false false = refl

pub above_zero : (n : ℕ) → nat_lt 0 (suc n) ≡ true
above_zero n = grind (arith, nat_tests)

pub eq_self : (n : ℕ) → (n == n) ≡ true
eq_self n = search rules

pub not_true : (b : Bool) → not b ≡ true → b ≡ false
not_true true h = cc
not_true false h = refl

pub false_true : (P : Type 0) → false ≡ true → P
false_true P e = cc

pub second_of_three_not : (p q r : Bool) → (p && not q && r) ≡ true → q ≡ false
second_of_three_not true false r h = refl
second_of_three_not true true r h = cc
second_of_three_not false q r h = cc

pub first_of_three : (p q r : Bool) → (p && q && r) ≡ true → p ≡ true
first_of_three true q r g = refl
first_of_three false q r g = cc

pub all_four : (p q r s : Bool) → p ≡ true → q ≡ true → r ≡ true → s ≡ true → IsTrue (p && q && r && s)
all_four true true true s p q r h = h
all_four true true false s p q r h = cc
all_four true false r s p q h g = cc
all_four false q r s p h g k = cc

pub if_no : (b w : Bool) → b ≡ false → w ≡ false → (if b then w else not w) ≡ true
if_no false false p q = refl
if_no false true p q = cc
if_no true w p q = cc

pub if_so : (b w : Bool) → b ≡ true → w ≡ true → (if b then w else not w) ≡ true
if_so true true p q = refl
if_so true false p q = cc
if_so false w p q = cc

pub not_or : (a b : Bool) → not (a || b) ≡ true → not a ≡ true
not_or true b h = h
not_or false b h = refl
