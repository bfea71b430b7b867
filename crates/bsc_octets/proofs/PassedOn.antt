-- The message that is passed on has an envelope again.
-- It serves the clauses of `forwarded`.
use Rattle.std.proofs.Common.{◌≡◌, ℕ, ◌+◌, ◌<◌, ◌≤◌, Bool, true, false, List, [], ◌∷◌, ◌++◌, length, get_or, drop, Some, None, is_some, Result, Ok, Err, IfOk, if◌then◌else◌, not}
use Rattle.std.proofs.Common.{◌&&◌, nat_le, subst, sym, ap, ◌∙◌, arith, length-append, length-take, length-drop}
use Rattle.std.specs.Prelude.{IsTrue}
use Rattle.std.proofs.lemmas.Bool.{and_parts, leb-true}
use Rattle.std.proofs.lemmas.List.{drop_at, take_all, get_or-drop, get_or-take}
use Rattle.byteorder.specs.Endian.{big_bytes, big_number}
use Rattle.bsc_octets.specs.declared.vmac.Vmac.{Vmac}
use Rattle.bsc_octets.specs.declared.envelope.Envelope.{Envelope}
use Rattle.bsc_octets.specs.declared.no_memory.NoMemory.{NoMemory}
use Rattle.bsc_octets.specs.Addresses.{broadcast}
use Rattle.bsc_octets.specs.Envelopes.{flags_in, announces_origin, announces_dest, envelope_octets, SpellsEnvelope}
use Rattle.bsc_octets.specs.Forwarding.{function_in, id_in, is_broadcast, has_route, flags_out, kept, after_destination, out, envelope_out}
use Rattle.bsc_octets.proofs.Flags.{origin_out, dest_out}
use Rattle.bsc_octets.proofs.TwoOctets.{first_two_octets}

-- an envelope's octets with anything behind them
spells_in_front : (e : Envelope) (rest : List ℕ) → e.rest_at ≡ length (envelope_octets e) → announces_origin e.flags ≡ is_some e.origin → announces_dest e.flags ≡ is_some e.dest
    → SpellsEnvelope e (envelope_octets e ++ rest)
spells_in_front e rest place origin dest = record {
  spelling = ap (λ (l : List ℕ). envelope_octets e ++ l) (sym (drop_at (envelope_octets e) rest e.rest_at (sym place)));
  place = place;
  origin = origin;
  dest = dest;
}

-- an origin of six octets, and the broadcast address or none
spells_by : (f g n : ℕ) (v : Vmac) (b : Bool) (rest : List ℕ) → length v.0 ≡ 6 → announces_origin g ≡ true → announces_dest g ≡ b
    → SpellsEnvelope (record { function = f; flags = g; id = n; origin = Some v; dest = if b then Some broadcast else None; rest_at = if b then 16 else 10 })
    (((f ∷ g ∷ big_bytes 2 n) ++ v.0 ++ (if b then broadcast.0 else [])) ++ rest)
spells_by f g n v true rest six origin dest = spells_in_front _ rest (omega (arith, length-append v.0 broadcast.0)) origin dest
spells_by f g n v false rest six origin dest = spells_in_front _ rest (omega (arith, length-append v.0 [])) origin dest

pub out-spells : (m : List ℕ) (v : Vmac) → ((i : ℕ) → get_or m i 0 < 256) → IsTrue (has_route m) → length v.0 ≡ 6 → SpellsEnvelope (envelope_out m v) (out m v)
unfolding out
out-spells m v octets route six =
    let three = and_parts (nat_le 10 (length m) && announces_dest (flags_in m)) (not (announces_origin (flags_in m))) route in
    let two = and_parts (nat_le 10 (length m)) (announces_dest (flags_in m)) three.0 in
    let ten : 10 ≤ length m = leb-true 10 (length m) two.0 in
    let within : (i : ℕ) → i < 2 → get_or (id_in m) i 0 < 256 = λ i below. rw (get_or-take 2 (drop 2 m) i 0 below, get_or-drop) (octets (2 + i)) in
    let ids : big_bytes 2 (big_number 2 (id_in m)) ≡ id_in m =
    first_two_octets (id_in m) (omega (arith, length-take 2 (drop 2 m), length-drop 2 m)) (within 0 (omega arith)) (within 1 (omega arith))
    ∙ take_all 2 (id_in m) (omega (arith, length-take 2 (drop 2 m))) in
    subst (λ (l : List ℕ). SpellsEnvelope (envelope_out m v) (((function_in m ∷ flags_out m ∷ l) ++ v.0 ++ kept m) ++ after_destination m)) ids
    (spells_by (function_in m) (flags_out m) (big_number 2 (id_in m)) v (is_broadcast m) (after_destination m) six (origin_out (flags_in m) (is_broadcast m))
    (dest_out (flags_in m) (is_broadcast m) two.1))

pub spells_result : (m : List ℕ) (v : Vmac) (r : Result (List ℕ) NoMemory) → ((i : ℕ) → get_or m i 0 < 256) → IsTrue (has_route m) → length v.0 ≡ 6 → IfOk r (λ o. o ≡ out m v)
    → IfOk r (λ o. SpellsEnvelope (envelope_out m v) o)
spells_result m v (Ok o) octets route six made = subst (λ (l : List ℕ). SpellsEnvelope (envelope_out m v) l) (sym made) (out-spells m v octets route six)
spells_result m v (Err e) octets route six made = tt
