-- Lemmas on options that the kit lacks.
-- It serves many crates above.
use Rattle.std.proofs.Common.{None, Option, ◌≡◌, Some, refl, unwrap_or, ℕ, is_some, false, true, ◌+◌, Bool, cond, arith, suc, ap, sym, ◌∙◌}
use Rattle.std.specs.Option.{option_or, option_map}

pub or_none : {A : Type 0} (o : Option A) → option_or o None ≡ o
or_none (Some x) = refl
or_none None = refl

pub or_assoc : {A : Type 0} (a b c : Option A) → option_or a (option_or b c) ≡ option_or (option_or a b) c
or_assoc (Some x) b c = refl
or_assoc None b c = refl

pub or_else : (o p : Option ℕ) (n : ℕ) → unwrap_or (option_or o p) n ≡ unwrap_or o (unwrap_or p n)
or_else (Some x) p n = refl
or_else None p n = refl

pub none_if : {A : Type 0} (o : Option A) → is_some o ≡ false → o ≡ None
none_if None h = refl
none_if (Some x) h = cc

pub position_shifted : (b : Bool) (k : ℕ) → cond b (Some (1 + k)) None ≡ option_map (λ (i : ℕ). 1 + i) (cond b (Some k) None)
position_shifted true k = refl
position_shifted false k = refl

pub some_map : {A B : Type 0} (f : A → B) (o : Option A) → is_some (option_map f o) ≡ is_some o
some_map f None = refl
some_map f (Some x) = refl

pub position_later : (o : Option ℕ) (b : Bool) (n : ℕ) → option_map (λ i. 1 + i) (option_or o (cond b (Some n) None)) ≡ option_or (option_map (λ i. 1 + i) o) (cond b (Some (suc n)) None)
position_later None true n = ap Some (omega arith)
position_later None false n = refl
position_later (Some i) b n = refl

pub some_none_any : {A B : Type 0} (x : A) → Some x ≡ None → B
some_none_any x h = cc

pub some_so : {A : Type 0} (b : Bool) (x : A) → is_some (cond b (Some x) None) ≡ b
some_so true x = refl
some_so false x = refl

pub some_none : {A : Type 0} (x : A) → Some x ≡ None → ⊥
some_none x e = cc

pub same_some_number : (a b : ℕ) → Some a ≡ Some b → a ≡ b
same_some_number a b e = cc

pub not_some : {A : Type 0} (o : Option A) (x : A) → o ≡ None → o ≡ Some x → ⊥
not_some o x none some = (let bad : None ≡ Some x = sym none ∙ some in cc)

pub found_some : {A : Type 0} (o : Option A) → is_some o ≡ true → (x : A) × (o ≡ Some x)
found_some None h = cc
found_some (Some x) h = (x, refl)
