-- Octets with room for the announced addresses begin with the envelope that is read of them.
-- It serves the clauses of `judge` and `one_outcome`.
use Rattle.std.proofs.Common.{◌≡◌, ℕ, ◌+◌, ◌<◌, ◌≤◌, ◌^◌, Bool, true, false, ltb, List, [], ◌∷◌, length, drop, Ok, refl, sym, subst, arith, length-drop}
use Rattle.std.proofs.lemmas.Bool.{le-ltb}
use Rattle.std.proofs.lemmas.List.{length-take-le}
use Rattle.byteorder.specs.Endian.{big_number}
use Rattle.bsc_octets.specs.declared.envelope.Envelope.{Envelope}
use Rattle.bsc_octets.specs.Envelopes.{flags_in, announces_origin, announces_dest, vmac_at, header_of, envelope_of, SpellsEnvelope, HasWholeAddresses}
use Rattle.bsc_octets.specs.Forwarding.{id_in}
use Rattle.bsc_octets.proofs.Spelling.{spelled, only}
use Rattle.bsc_frame.specs.Layout.{options_at}
use Rattle.bsc_checks.specs.Places.{origin_in, dest_in}
use Rattle.bsc_checks.proofs.HeadParts.{is_head}
use Rattle.bsc_checks.specs.Options.{AreOctets}
use Rattle.bsc_checks.specs.Outcomes.{envelope_in}
use Rattle.bsc_checks.proofs.Walks.{behind_octets}
use Rattle.bsc_octets.proofs.Common.{same_id as same_number}

-- ---- a number of two octets

pub number_small : (o : List ℕ) → AreOctets o → big_number 2 o < 65536
number_small [] octets = omega arith
number_small (x ∷ []) octets = let first : x < 256 = octets 0 in omega arith
number_small (x ∷ y ∷ o) octets = let first : x < 256 = octets 0 in let second : y < 256 = octets 1 in omega arith

pub id_small : (m : List ℕ) → AreOctets m → big_number 2 (id_in m) < 2 ^ 16
id_small m octets = subst (λ (n : ℕ). n < 65536) (same_number m) (number_small (drop 2 m) (behind_octets 2 m octets))

-- ---- the fields

same_envelope : (e f : Envelope) → e.function ≡ f.function → e.flags ≡ f.flags → e.id ≡ f.id → e.origin ≡ f.origin → e.dest ≡ f.dest → e.rest_at ≡ f.rest_at → e ≡ f
same_envelope e f function flags id origin dest rest =
    let whole : record { function = e.function; flags = e.flags; id = e.id; origin = e.origin; dest = e.dest; rest_at = e.rest_at } ≡ f = rw (function, flags, id, origin, dest, rest) refl in
    whole

pub envelope_is : (m : List ℕ) (e : Envelope) → SpellsEnvelope e m → HasWholeAddresses e → e.id < 2 ^ 16 → e ≡ envelope_in m
envelope_is m e spells whole fits =
    let head = is_head m e spells whole fits (only e m whole fits spells) in
    same_envelope e (envelope_in m) (sym head.function) (sym head.flags) head.id head.origin head.dest (sym head.rest)

-- ---- by what the flags announce

found_by : (m : List ℕ) (o d : Bool) → announces_origin (flags_in m) ≡ o → announces_dest (flags_in m) ≡ d → 4 ≤ length m → options_at m ≤ length m
    → envelope_of m ≡ Ok (header_of m (origin_in m) (dest_in m) (options_at m))
unfolding envelope_of
found_by m true true p q four long =
    let place : options_at m ≡ 16 = rw (p, q) refl in
    let t4 : ltb (length m) 4 ≡ false = le-ltb (length m) 4 four in
    let t10 : ltb (length m) 10 ≡ false = le-ltb (length m) 10 (omega arith) in
    let t16 : ltb (length m) 16 ≡ false = le-ltb (length m) 16 (omega arith) in
    rw (t4, p, t10, q, t16) refl
found_by m true false p q four long =
    let place : options_at m ≡ 10 = rw (p, q) refl in
    let t4 : ltb (length m) 4 ≡ false = le-ltb (length m) 4 four in
    let t10 : ltb (length m) 10 ≡ false = le-ltb (length m) 10 (omega arith) in
    rw (t4, p, t10, q) refl
found_by m false true p q four long =
    let place : options_at m ≡ 10 = rw (p, q) refl in
    let t4 : ltb (length m) 4 ≡ false = le-ltb (length m) 4 four in
    let t10 : ltb (length m) 10 ≡ false = le-ltb (length m) 10 (omega arith) in
    rw (t4, p, q, t10) refl
found_by m false false p q four long =
    let t4 : ltb (length m) 4 ≡ false = le-ltb (length m) 4 four in
    rw (t4, p, q) refl

pub envelope_spelled : (m : List ℕ) → AreOctets m → 4 ≤ length m → options_at m ≤ length m → SpellsEnvelope (envelope_in m) m
envelope_spelled m octets four long =
    let found = found_by m (announces_origin (flags_in m)) (announces_dest (flags_in m)) refl refl four long in
    let e = header_of m (origin_in m) (dest_in m) (options_at m) in
    subst (λ (f : Envelope). SpellsEnvelope f m) (same_envelope e (envelope_in m) refl refl (same_number m) refl refl refl) (spelled m e octets found)

six : (m : List ℕ) (at : ℕ) → at + 6 ≤ length m → length (vmac_at m at).0 ≡ 6
six m at long = length-take-le 6 (drop at m) (omega (arith, length-drop at m))

whole_by : (m : List ℕ) (o d : Bool) → announces_origin (flags_in m) ≡ o → announces_dest (flags_in m) ≡ d → options_at m ≤ length m → HasWholeAddresses (envelope_in m)
whole_by m true true p q long =
    let place : options_at m ≡ 16 = rw (p, q) refl in
    record { origin = rw p (six m 4 (omega arith)); dest = rw (q, p) (six m 10 (omega arith)) }
whole_by m true false p q long =
    let place : options_at m ≡ 10 = rw (p, q) refl in
    record { origin = rw p (six m 4 (omega arith)); dest = rw q tt }
whole_by m false true p q long =
    let place : options_at m ≡ 10 = rw (p, q) refl in
    record { origin = rw p tt; dest = rw (q, p) (six m 4 (omega arith)) }
whole_by m false false p q long = record { origin = rw p tt; dest = rw q tt }

pub envelope_whole : (m : List ℕ) → options_at m ≤ length m → HasWholeAddresses (envelope_in m)
envelope_whole m long = whole_by m (announces_origin (flags_in m)) (announces_dest (flags_in m)) refl refl long
