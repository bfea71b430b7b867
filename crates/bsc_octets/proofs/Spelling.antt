-- The envelope that is read from a message is the one that the message spells.
-- It serves the clauses of `read_envelope`.
use Rattle.std.proofs.Common.{◌≡◌, ℕ, suc, ◌+◌, ◌<◌, ◌≤◌, Bool, true, false, cond, ltb, List, [], ◌∷◌, ◌++◌, length, get_or, take, drop, Option, Some, None, is_some, Result, Ok}
use Rattle.std.proofs.Common.{Err, IfOk, IfSome, refl, ap, sym, ◌∙◌, subst, arith, append_assoc, append-nil, length-append, length-take, length-drop}
use Rattle.std.proofs.lemmas.Bool.{le-ltb, ltb-false}
use Rattle.std.proofs.lemmas.List.{take-append-drop, take_at, drop_at, drop-drop}
use Rattle.byteorder.specs.Endian.{big_bytes}
use Rattle.bsc_octets.specs.declared.vmac.Vmac.{Vmac}
use Rattle.bsc_octets.specs.declared.envelope.Envelope.{Envelope}
use Rattle.bsc_octets.specs.declared.envelope.EnvelopeFault.{EnvelopeFault}
use Rattle.bsc_octets.specs.declared.envelope.EnvelopeFault.TheVariants.{Cut}
use Rattle.bsc_octets.proofs.TwoOctets.{two_octets, two_octet_number}
use Rattle.bsc_octets.specs.Envelopes.{announces_origin, announces_dest, address_octets, SpellsEnvelope, HasWholeAddresses, vmac_at, header_of, envelope_of}

-- ---- what is read is spelled

-- an envelope of the first four octets and of the addresses that stand behind them
leaf : (f g a b : ℕ) (rest : List ℕ) (o d : Option Vmac) (at n : ℕ) → a < 256 → b < 256 → rest ≡ (address_octets o ++ address_octets d) ++ drop n rest
    → drop at (f ∷ g ∷ a ∷ b ∷ rest) ≡ drop n rest → at ≡ 4 + length (address_octets o ++ address_octets d) → announces_origin g ≡ is_some o → announces_dest g ≡ is_some d
    → SpellsEnvelope (header_of (f ∷ g ∷ a ∷ b ∷ rest) o d at) (f ∷ g ∷ a ∷ b ∷ rest)
leaf f g a b rest o d at n ha hb cut same place org dst =
    let ids = two_octets a b rest ha hb in
    record {
      spelling = ap (λ (r : List ℕ). f ∷ g ∷ a ∷ b ∷ r) (cut ∙ ap (λ (r : List ℕ). (address_octets o ++ address_octets d) ++ r) (sym same))
          ∙ ap (λ (l : List ℕ). f ∷ g ∷ (l ++ ((address_octets o ++ address_octets d) ++ drop at (f ∷ g ∷ a ∷ b ∷ rest)))) (sym ids);
      place = (let k = length (address_octets o ++ address_octets d) in let e : 4 + k ≡ suc (suc (suc (suc k))) = omega arith in place ∙ e);
      origin = org;
      dest = dst;
    }

six_long : (rest : List ℕ) → 6 ≤ length rest → length (take 6 rest) ≡ 6
six_long rest h = rw length-take (omega arith)

-- twelve octets in front, as two times six
two_cuts : (l : List ℕ) → l ≡ (take 6 l ++ take 6 (drop 6 l)) ++ drop 12 l
two_cuts l = sym (append_assoc (take 6 l) (take 6 (drop 6 l)) (drop 12 l) ∙ ap (λ (r : List ℕ). take 6 l ++ (take 6 (drop 6 l) ++ r)) (sym (drop-drop 6 6 l))
    ∙ ap (λ (r : List ℕ). take 6 l ++ r) (take-append-drop 6 (drop 6 l)) ∙ take-append-drop 6 l)

-- by what the flags announce, and what there is room for
by_flags : (f g a b : ℕ) (rest : List ℕ) (e : Envelope) → a < 256 → b < 256 → (o d t s : Bool) → announces_origin g ≡ o → announces_dest g ≡ d → (t ≡ false → 6 ≤ length rest)
    → (s ≡ false → 12 ≤ length rest)
    → cond o (cond t (Err Cut) (cond d (cond s (Err Cut) (Ok (header_of (f ∷ g ∷ a ∷ b ∷ rest) (Some (vmac_at (f ∷ g ∷ a ∷ b ∷ rest) 4)) (Some (vmac_at (f ∷ g ∷ a ∷ b ∷ rest) 10)) 16)))
    (Ok (header_of (f ∷ g ∷ a ∷ b ∷ rest) (Some (vmac_at (f ∷ g ∷ a ∷ b ∷ rest) 4)) None 10))))
    (cond d (cond t (Err Cut) (Ok (header_of (f ∷ g ∷ a ∷ b ∷ rest) None (Some (vmac_at (f ∷ g ∷ a ∷ b ∷ rest) 4)) 10))) (Ok (header_of (f ∷ g ∷ a ∷ b ∷ rest) None None 4))) ≡ Ok e
    → SpellsEnvelope e (f ∷ g ∷ a ∷ b ∷ rest)
by_flags f g a b rest e ha hb true d true s p q t6 s12 h = cc
by_flags f g a b rest e ha hb true true false true p q t6 s12 h = cc
by_flags f g a b rest e ha hb true true false false p q t6 s12 h =
    let m = f ∷ g ∷ a ∷ b ∷ rest in
    let long = s12 refl in
    let here = six_long rest (omega arith) in
    let k : header_of m (Some (vmac_at m 4)) (Some (vmac_at m 10)) 16 ≡ e = cc in
    let there : length (take 6 (drop 6 rest)) ≡ 6 = six_long (drop 6 rest) (rw length-drop (omega arith)) in
    subst (λ x. SpellsEnvelope x m) k (leaf f g a b rest (Some (vmac_at m 4)) (Some (vmac_at m 10)) 16 12 ha hb (two_cuts rest) refl (rw (length-append, here, there) refl) p q)
by_flags f g a b rest e ha hb true false false s p q t6 s12 h =
    let m = f ∷ g ∷ a ∷ b ∷ rest in
    let k : header_of m (Some (vmac_at m 4)) None 10 ≡ e = cc in
    subst (λ x. SpellsEnvelope x m) k (leaf f g a b rest (Some (vmac_at m 4)) None 10 6 ha hb (rw (append-nil, take-append-drop) refl) refl (rw (append-nil, six_long rest (t6 refl)) refl) p q)
by_flags f g a b rest e ha hb false true true s p q t6 s12 h = cc
by_flags f g a b rest e ha hb false true false s p q t6 s12 h =
    let m = f ∷ g ∷ a ∷ b ∷ rest in
    let k : header_of m None (Some (vmac_at m 4)) 10 ≡ e = cc in
    subst (λ x. SpellsEnvelope x m) k (leaf f g a b rest None (Some (vmac_at m 4)) 10 6 ha hb (sym (take-append-drop 6 rest)) refl (rw (six_long rest (t6 refl)) refl) p q)
by_flags f g a b rest e ha hb false false t s p q t6 s12 h =
    let m = f ∷ g ∷ a ∷ b ∷ rest in
    let k : header_of m None None 4 ≡ e = cc in
    subst (λ x. SpellsEnvelope x m) k (leaf f g a b rest None None 4 0 ha hb refl refl refl p q)

-- a message spells the envelope that is read from it
pub spelled : (m : List ℕ) (e : Envelope) → ((i : ℕ) → get_or m i 0 < 256) → envelope_of m ≡ Ok e → SpellsEnvelope e m
unfolding envelope_of
spelled [] e all h = cc
spelled (f ∷ []) e all h = cc
spelled (f ∷ g ∷ []) e all h = cc
spelled (f ∷ g ∷ a ∷ []) e all h = cc
spelled (f ∷ g ∷ a ∷ b ∷ rest) e all h =
    let n = length (f ∷ g ∷ a ∷ b ∷ rest) in
    let four : 4 ≤ n = omega arith in
    let not_short : ltb n 4 ≡ false = le-ltb n 4 four in
    by_flags f g a b rest e (all 2) (all 3) (announces_origin g) (announces_dest g) (ltb n 10) (ltb n 16) refl refl (λ t. let k = ltb-false n 10 t in omega arith)
    (λ t. let k = ltb-false n 16 t in omega arith) (rw not_short at h)

pub spelled_result : (m : List ℕ) (r : Result Envelope EnvelopeFault) → ((i : ℕ) → get_or m i 0 < 256) → r ≡ envelope_of m → IfOk r (λ e. SpellsEnvelope e m)
spelled_result m (Ok e) all h = spelled m e all (sym h)
spelled_result m (Err e) all h = tt

-- ---- what is spelled is read

-- by the addresses that there are
at_front : (f g n at : ℕ) (o d : Option Vmac) (rest : List ℕ) → n < 65536 → announces_origin g ≡ is_some o → announces_dest g ≡ is_some d → IfSome o (λ v. length v.0 ≡ 6)
    → IfSome d (λ v. length v.0 ≡ 6) → at ≡ length ((f ∷ g ∷ big_bytes 2 n) ++ address_octets o ++ address_octets d)
    → envelope_of (((f ∷ g ∷ big_bytes 2 n) ++ address_octets o ++ address_octets d) ++ rest) ≡ Ok (record { function = f; flags = g; id = n; origin = o; dest = d; rest_at = at })
unfolding envelope_of
at_front f g n at None None rest small p q six_o six_d place =
    let m = (f ∷ g ∷ big_bytes 2 n) ++ rest in
    let four : ltb (length m) 4 ≡ false = le-ltb (length m) 4 (omega arith) in
    rw (four, p, q, two_octet_number n rest small, place) refl
at_front f g n at None (Some d) rest small p q six_o six_d place =
    let m = (f ∷ g ∷ big_bytes 2 n) ++ (d.0 ++ rest) in
    let long : 10 ≤ length m = omega (arith, length-append d.0 rest) in
    let four : ltb (length m) 4 ≡ false = le-ltb (length m) 4 (omega arith) in
    let ten : ltb (length m) 10 ≡ false = le-ltb (length m) 10 long in
    let there : at ≡ 10 = omega arith in
    rw (four, p, q, ten, two_octet_number n (d.0 ++ rest) small, take_at d.0 rest 6 six_d, there) refl
at_front f g n at (Some o) None rest small p q six_o six_d place =
    let m = (f ∷ g ∷ big_bytes 2 n) ++ (o.0 ++ rest) in
    let long : 10 ≤ length m = omega (arith, length-append o.0 rest) in
    let four : ltb (length m) 4 ≡ false = le-ltb (length m) 4 (omega arith) in
    let ten : ltb (length m) 10 ≡ false = le-ltb (length m) 10 long in
    let ends : at ≡ 4 + length (o.0 ++ []) = omega arith in
    let there : at ≡ 10 = omega (arith, length-append o.0 []) in
    rw (append-nil o.0, four, p, q, ten, two_octet_number n (o.0 ++ rest) small, take_at o.0 rest 6 six_o, there) refl
at_front f g n at (Some o) (Some d) rest small p q six_o six_d place =
    let m = (f ∷ g ∷ big_bytes 2 n) ++ (o.0 ++ (d.0 ++ rest)) in
    let long : 16 ≤ length m = omega (arith, length-append o.0 (d.0 ++ rest), length-append d.0 rest) in
    let four : ltb (length m) 4 ≡ false = le-ltb (length m) 4 (omega arith) in
    let ten : ltb (length m) 10 ≡ false = le-ltb (length m) 10 (omega arith) in
    let sixteen : ltb (length m) 16 ≡ false = le-ltb (length m) 16 long in
    let there : at ≡ 16 = omega (arith, length-append o.0 d.0) in
    rw (
      append_assoc o.0 d.0 rest,
      four,
      p,
      q,
      ten,
      sixteen,
      two_octet_number n (o.0 ++ (d.0 ++ rest)) small,
      take_at o.0 (d.0 ++ rest) 6 six_o,
      drop_at o.0 (d.0 ++ rest) 6 six_o,
      take_at d.0 rest 6 six_d,
      there,
    ) refl

-- a message spells no envelope but the one that is read from it
pub only : (e : Envelope) (m : List ℕ) → HasWholeAddresses e → e.id < 65536 → SpellsEnvelope e m → envelope_of m ≡ Ok e
only e m whole small spells =
    ap envelope_of spells.spelling ∙ at_front e.function e.flags e.id e.rest_at e.origin e.dest (drop e.rest_at m) small spells.origin spells.dest whole.origin whole.dest spells.place
