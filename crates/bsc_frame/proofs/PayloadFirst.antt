-- The first check that fails of a payload.
-- It serves clauses of most source files here.
use Rattle.std.proofs.Common.{◌≡◌, ℕ, get_or, ◌<◌, ◌≤◌, ◌⊎◌, inl, inr, Bool, true, false, List, [], ◌∷◌, length, refl, sym, ap, ◌∙◌, arith, eqb}
use Rattle.std.proofs.lemmas.Bool.{eqb-true, eqb-false, ne_eqb}
use Rattle.std.proofs.lemmas.List.{nil_from_length}
use Rattle.bsc_frame.specs.declared.check.Check.{Check}
use Rattle.bsc_frame.specs.declared.check.Check.TheVariants.{C10, C10b, C10c, C11}
use Rattle.bsc_frame.specs.PayloadChecks.{expects_payload, fixed_part, takes_rest, IsMissing, IsOutOfRange}
use Rattle.bsc_frame.specs.Checks.{IsFirstOf}
use Rattle.bsc_frame.specs.Walk.{PayloadFails, payload_checks}

abbrev pub FirstOfPayload : ℕ → List ℕ → Check → Type 0
FirstOfPayload f p k = IsFirstOf payload_checks (PayloadFails f p) k

-- ---- whether there is an octet

pub empty_test : (p : List ℕ) (b : Bool) → b ≡ eqb (length p) 0 → b ≡ true → length p ≡ 0
empty_test p b is set = eqb-true (length p) 0 (sym is ∙ set)

pub some_test : (p : List ℕ) (b : Bool) → b ≡ eqb (length p) 0 → b ≡ false → 0 < length p
some_test p b is clear = let apart : length p ≡ 0 → ⊥ = eqb-false (length p) 0 (sym is ∙ clear) in omega arith

pub is_there : (f : ℕ) (p : List ℕ) → 0 < length p → IsMissing f p → ⊥
is_there f p some missing = let none : length p ≡ 0 = ap length missing.1 in absurd (omega arith)

pub is_not_expected : (f : ℕ) (p : List ℕ) → expects_payload f ≡ false → IsMissing f p → ⊥
is_not_expected f p not missing = let both : true ≡ false = sym missing.0 ∙ not in absurd cc

-- ---- the checks

pub first_missing : (f : ℕ) (p : List ℕ) → expects_payload f ≡ true → length p ≡ 0 → FirstOfPayload f p C10
first_missing f p expects none = record { before = []; after = C10b ∷ C10c ∷ C11 ∷ []; place = refl; earlier = tt; fault = (expects, nil_from_length p none) }

pub first_below : (f : ℕ) (p : List ℕ) (n : ℕ) → (IsMissing f p → ⊥) → fixed_part f p ≡ n → length p < n → FirstOfPayload f p C10b
first_below f p n there fixed short = record { before = C10 ∷ []; after = C10c ∷ C11 ∷ []; place = refl; earlier = (there, tt); fault = (omega arith) }

pub first_beyond : (f : ℕ) (p : List ℕ) (n : ℕ) → (IsMissing f p → ⊥) → fixed_part f p ≡ n → takes_rest f p ≡ false → n < length p → FirstOfPayload f p C10c
first_beyond f p n there fixed rest long = record { before = C10 ∷ C10b ∷ []; after = C11 ∷ []; place = refl; earlier = (there, ((λ short. absurd (omega arith)), tt)); fault = (rest, omega arith) }

pub first_outside : (f : ℕ) (p : List ℕ) (n : ℕ) → (IsMissing f p → ⊥) → fixed_part f p ≡ n → n ≤ length p → (takes_rest f p ≡ true) ⊎ (length p ≤ n) → IsOutOfRange f p → FirstOfPayload f p C11
first_outside f p n there fixed long ends outside =
    record {
      before = C10 ∷ C10b ∷ C10c ∷ [];
      after = [];
      place = refl;
      earlier = (
        there,
        (
          (λ short. absurd (omega arith)),
          ((λ more. elim ends [ inl rest ↦ (let both : true ≡ false = sym rest ∙ more.0 in absurd cc) | inr le ↦ (let beyond = more.1 in absurd (omega arith)) ]), tt),
        ),
      );
      fault = outside;
    }

-- a BVLC-Result of fewer than two octets has no result code, and 0 stands for it
short_code : (p : List ℕ) → length p < 2 → get_or p 1 0 ≡ 0
short_code [] short = refl
short_code (a ∷ []) short = refl
short_code (a ∷ b ∷ p) short = absurd (omega arith)

pub first_short_result : (p : List ℕ) → length p < 2 → FirstOfPayload 0 p C10b
first_short_result p short =
    let code : get_or p 1 0 ≡ 0 = short_code p short in
    first_below 0 p 2 (is_not_expected 0 p refl) (rw code refl) short

-- a result code above 1
pub first_unknown_result : (p : List ℕ) → 2 ≤ length p → 1 < get_or p 1 0 → FirstOfPayload 0 p C11
first_unknown_result p long unknown =
    let no_nak : eqb (get_or p 1 0) 1 ≡ false = ne_eqb (get_or p 1 0) 1 (λ e. omega arith) in
    let no_ack : eqb (get_or p 1 0) 0 ≡ false = ne_eqb (get_or p 1 0) 0 (λ e. omega arith) in
    first_outside 0 p 2 (is_not_expected 0 p refl) (rw no_nak refl) long (inl (rw no_ack refl)) (inl (refl, unknown))
