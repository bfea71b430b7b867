-- What the envelope that octets begin with says of them, and the checks of the head.
-- It serves clauses of functions of `head`, `judging` and `laws`.
use Rattle.std.proofs.Common.{◌≡◌, ℕ, ◌<◌, ◌≤◌, ◌^◌, Bool, true, false, cond, ltb, List, [], ◌∷◌, length, get_or, Option, Some, None, Result, Ok, Err, refl, sym, subst, arith}
use Rattle.byteorder.specs.Endian.{big_number}
use Rattle.bsc_octets.specs.declared.vmac.Vmac.{Vmac}
use Rattle.bsc_octets.specs.declared.envelope.Envelope.{Envelope}
use Rattle.bsc_octets.specs.declared.envelope.EnvelopeFault.{EnvelopeFault}
use Rattle.bsc_octets.specs.declared.envelope.EnvelopeFault.TheVariants.{Short, Cut}
use Rattle.bsc_octets.specs.Envelopes.{announces_origin, announces_dest, SpellsEnvelope, HasWholeAddresses, vmac_at, header_of, envelope_of}
use Rattle.bsc_octets.specs.Forwarding.{function_in, id_in}
use Rattle.bsc_frame.specs.declared.check.Check.{Check}
use Rattle.bsc_frame.specs.declared.check.Check.TheVariants.{C1, C2, C3, C4}
use Rattle.bsc_frame.specs.Checks.{LacksAddressOctets}
use Rattle.bsc_frame.proofs.Heads.{head_facts, lacks_none}
use Rattle.bsc_frame.proofs.First.{first_here, first_after}
use Rattle.bsc_checks.specs.declared.place.Place.{Place}
use Rattle.bsc_checks.specs.Places.{origin_in, dest_in, HasWrongAddresses}
use Rattle.bsc_checks.specs.Table.{Fails}
use Rattle.bsc_checks.specs.Walk.{IsHead, HeadAnswers, PlacedAnswers}
use Rattle.bsc_octets.proofs.Common.{same_id}

-- ---- the parts of the envelope

record Parts (m : List ℕ) (e : Envelope) : Type 0 where
  id : e.id ≡ big_number 2 (id_in m)
  origin : e.origin ≡ origin_in m
  dest : e.dest ≡ dest_in m

-- by what the flags announce, and what there is room for
by_flags : (m : List ℕ) (e : Envelope) (s o d t u : Bool) → announces_origin (get_or m 1 0) ≡ o → announces_dest (get_or m 1 0) ≡ d
    → cond s (Err Short) (cond o (cond t (Err Cut) (cond d (cond u (Err Cut) (Ok (header_of m (Some (vmac_at m 4)) (Some (vmac_at m 10)) 16))) (Ok (header_of m (Some (vmac_at m 4)) None 10))))
    (cond d (cond t (Err Cut) (Ok (header_of m None (Some (vmac_at m 4)) 10))) (Ok (header_of m None None 4)))) ≡ Ok e
    → Parts m e
by_flags m e true o d t u p q h = cc
by_flags m e false true d true u p q h = cc
by_flags m e false true true false true p q h = cc
by_flags m e false true true false false p q h =
    let k : header_of m (Some (vmac_at m 4)) (Some (vmac_at m 10)) 16 ≡ e = cc in
    subst (λ x. Parts m x) k (record { id = same_id m; origin = rw p refl; dest = rw (q, p) refl })
by_flags m e false true false false u p q h =
    let k : header_of m (Some (vmac_at m 4)) None 10 ≡ e = cc in
    subst (λ x. Parts m x) k (record { id = same_id m; origin = rw p refl; dest = rw q refl })
by_flags m e false false true true u p q h = cc
by_flags m e false false true false u p q h =
    let k : header_of m None (Some (vmac_at m 4)) 10 ≡ e = cc in
    subst (λ x. Parts m x) k (record { id = same_id m; origin = rw p refl; dest = rw (q, p) refl })
by_flags m e false false false t u p q h =
    let k : header_of m None None 4 ≡ e = cc in
    subst (λ x. Parts m x) k (record { id = same_id m; origin = rw p refl; dest = rw q refl })

parts_of : (m : List ℕ) (e : Envelope) → envelope_of m ≡ Ok e → Parts m e
unfolding envelope_of
parts_of m e h =
    by_flags m e (ltb (length m) 4) (announces_origin (get_or m 1 0)) (announces_dest (get_or m 1 0)) (ltb (length m) 10) (ltb (length m) 16) refl refl h

pub is_head : (m : List ℕ) (e : Envelope) → SpellsEnvelope e m → HasWholeAddresses e → e.id < 2 ^ 16 → envelope_of m ≡ Ok e → IsHead m e
is_head m e spells whole fits read =
    let facts = head_facts m e spells whole in
    let parts = parts_of m e read in
    record {
      spells = spells;
      whole = whole;
      id_fits = fits;
      id = parts.id;
      function = facts.function;
      flags = facts.flags;
      origin = parts.origin;
      dest = parts.dest;
      rest = facts.place;
      within = facts.within;
    }

-- ---- the addresses at the place

pub wrong_in : (m : List ℕ) (e : Envelope) (place : Place) → IsHead m e → HasWrongAddresses place e.function e.origin e.dest → HasWrongAddresses place (function_in m) (origin_in m) (dest_in m)
wrong_in m e place head wrong =
    subst (λ (v : Option Vmac). HasWrongAddresses place (function_in m) (origin_in m) v) head.dest
    (subst (λ (v : Option Vmac). HasWrongAddresses place (function_in m) v e.dest) head.origin (subst (λ (f : ℕ). HasWrongAddresses place f e.origin e.dest) (sym head.function) wrong))

pub wrong_of : (m : List ℕ) (e : Envelope) (place : Place) → IsHead m e → HasWrongAddresses place (function_in m) (origin_in m) (dest_in m) → HasWrongAddresses place e.function e.origin e.dest
wrong_of m e place head wrong =
    subst (λ (f : ℕ). HasWrongAddresses place f e.origin e.dest) head.function
    (subst (λ (v : Option Vmac). HasWrongAddresses place (function_in m) v e.dest) (sym head.origin)
    (subst (λ (v : Option Vmac). HasWrongAddresses place (function_in m) (origin_in m) v) (sym head.dest) wrong))

-- ---- the answers

pub short_first : (m : List ℕ) (place : Place) (max : ℕ) → length m < 4 → HeadAnswers m place max (Err C1)
short_first m place max short = (first_here (Fails m place max) C1 (C2 ∷ C3 ∷ C4 ∷ []) short, refl)

pub long_first : (m : List ℕ) (place : Place) (max : ℕ) → 4 ≤ length m → max < length m → HeadAnswers m place max (Err C2)
long_first m place max four long =
    let fails = Fails m place max in
    (first_after fails C1 (C2 ∷ C3 ∷ C4 ∷ []) C2 (λ short. absurd (omega arith)) (first_here fails C2 (C3 ∷ C4 ∷ []) long), refl)

-- the envelope is not read of four octets only where it is cut
pub cut_first : (m : List ℕ) (place : Place) (max : ℕ) (r : Result Envelope EnvelopeFault) (fault : EnvelopeFault) → 4 ≤ length m → length m ≤ max → (r ≡ Err Short → length m < 4)
    → (r ≡ Err Cut → LacksAddressOctets m) → r ≡ Err fault
    → HeadAnswers m place max (Err C3)
cut_first m place max r Short four le short cut is = absurd (let less = short is in omega arith)
cut_first m place max r Cut four le short cut is =
    let fails = Fails m place max in (
      first_after fails C1 (C2 ∷ C3 ∷ C4 ∷ []) C3 (λ small. absurd (omega arith))
          (first_after fails C2 (C3 ∷ C4 ∷ []) C3 (λ long. absurd (omega arith)) (first_here fails C3 (C4 ∷ []) (cut is))),
      refl,
    )

pub placed_first : (m : List ℕ) (place : Place) (max : ℕ) (e : Envelope) (r : Result Envelope Check) → 4 ≤ length m → length m ≤ max → SpellsEnvelope e m → HasWholeAddresses e
    → PlacedAnswers m place r → HeadAnswers m place max r
placed_first m place max e (Ok head) four le spells whole placed =
    let facts = head_facts m e spells whole in
    (placed.0, ((λ short. absurd (omega arith)), ((λ long. absurd (omega arith)), (lacks_none m e facts, (placed.1, tt)))))
placed_first m place max e (Err check) four le spells whole placed =
    let facts = head_facts m e spells whole in
    let fails = Fails m place max in
    let first = first_after fails C1 (C2 ∷ C3 ∷ C4 ∷ []) C4 (λ short. absurd (omega arith))
    (first_after fails C2 (C3 ∷ C4 ∷ []) C4 (λ long. absurd (omega arith)) (first_after fails C3 (C4 ∷ []) C4 (lacks_none m e facts) (first_here fails C4 [] placed.1))) in
    subst (λ (k : Check). HeadAnswers m place max (Err k)) (sym placed.0) (first, refl)
