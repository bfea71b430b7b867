-- Places that rise, with one more behind them.
-- It serves clauses of functions of `files`.
use Rattle.std.proofs.Common.{ℕ, ◌≤◌, ◌<◌, nat_lt, List, [], ◌∷◌, ◌++◌}
use Rattle.std.specs.Prelude.{IsTrue}
use Rattle.std.specs.List.{AllByRecursion, list_any}
use Rattle.std.proofs.lemmas.Bool.{lt-ltb, or_left, or_right}
use Rattle.bsc_audit.specs.Together.{AreRising}
use Rattle.bsc_audit.proofs.PlaceFacts.Rising.{Rise}

pub all_snoc : {X : Type 0} (P : X → Type 0) (xs : List X) (x : X) → AllByRecursion P xs → P x → AllByRecursion P (xs ++ x ∷ [])
all_snoc P [] x all one = (one, tt)
all_snoc P (y ∷ xs) x all one = (all.0, all_snoc P xs x all.1 one)

pub all_of : {X : Type 0} (P Q : X → Type 0) (xs : List X) → ((x : X) → P x → Q x) → AllByRecursion P xs → AllByRecursion Q xs
all_of P Q [] so all = tt
all_of P Q (x ∷ xs) so all = (so x all.0, all_of P Q xs so all.1)

pub all_both : {X : Type 0} (P Q R : X → Type 0) (xs : List X) → ((x : X) → P x → Q x → R x) → AllByRecursion P xs → AllByRecursion Q xs → AllByRecursion R xs
all_both P Q R [] so all also = tt
all_both P Q R (x ∷ xs) so all also = (so x all.0 also.0, all_both P Q R xs so all.1 also.1)

pub rising_snoc : (ps : List ℕ) (p : ℕ) → AreRising ps → AllByRecursion (λ q. q ≤ p) ps → AreRising (ps ++ p ∷ [])
rising_snoc [] p up all = (tt, tt)
rising_snoc (q ∷ ps) p up all = (all_snoc (λ r. q ≤ r) ps p up.0 all.0, rising_snoc ps p up.1 all.1)

pub rise_of : (ps : List ℕ) → AreRising ps → Rise ps
rise_of [] up = tt
rise_of (p ∷ ps) up = (up.0, rise_of ps up.1)

-- what is greater than p stands among these, and among more
pub any_snoc : (p : ℕ) (ps : List ℕ) (q : ℕ) → p < q → IsTrue (list_any (λ r. nat_lt p r) (ps ++ q ∷ []))
any_snoc p [] q less = or_left (nat_lt p q) (list_any (λ r. nat_lt p r) []) (lt-ltb p q less)
any_snoc p (r ∷ ps) q less = or_right (nat_lt p r) (list_any (λ s. nat_lt p s) (ps ++ q ∷ [])) (any_snoc p ps q less)
