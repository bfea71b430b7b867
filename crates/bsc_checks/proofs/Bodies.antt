-- A payload of which no check fails is that of the body that it says.
-- It serves the clauses of `judge` and `one_outcome`.
use Rattle.std.proofs.Common.{◌≡◌, ℕ, zero, suc, ◌<◌, ◌≤◌, ◌⊎◌, inl, inr, Bool, true, false, ltb, List, [], ◌∷◌, length, slice_index, drop, refl, sym, ◌∙◌, arith, length-drop}
use Rattle.std.specs.Str.{IsUtf8, is_utf8}
use Rattle.std.proofs.lemmas.Bool.{ltb-false}
use Rattle.std.proofs.lemmas.List.{length-take-le}
use Rattle.byteorder.specs.Endian.{big_number}
use Rattle.bsc_octets.specs.Identities.{identity_of}
use Rattle.bsc_octets.proofs.IdentityOctets.{identity_octets-of}
use Rattle.bsc_frame.specs.Payloads.{IsNode}
use Rattle.bsc_frame.specs.PayloadChecks.{fixed_part, takes_rest, IsMissing, IsBelowFixedPart, IsBeyondFixedPart, IsOutOfRange}
use Rattle.bsc_frame.specs.Walk.{IsBody}
use Rattle.bsc_frame.proofs.Payloads.{advert_spelled, nak_spelled, proprietary_spelled}
use Rattle.bsc_checks.specs.Options.{AreOctets}
use Rattle.bsc_checks.specs.Payloads.{body_in}
use Rattle.bsc_checks.proofs.Reflecting.{clear_of, less, text}
use Rattle.bsc_checks.proofs.Walks.{behind_octets}
use Rattle.bsc_checks.proofs.Envelopes.{number_small}

-- ---- what no check that fails says

pub not_less : (a b : ℕ) → (a < b → ⊥) → b ≤ a
not_less a b out = ltb-false a b (clear_of (a < b) (ltb a b) (less a b) out)

is_text : (o : List ℕ) → ((IsUtf8 o → ⊥) → ⊥) → IsUtf8 o
is_text o out = by (is_utf8 o) refl
  where
    by : (b : Bool) → is_utf8 o ≡ b → IsUtf8 o
    by true e = (text o).holds e
    by false e = absurd (out (λ is. let both : true ≡ false = sym ((text o).back is) ∙ e in absurd cc))

-- no check of the payload fails
pub record Passes (f : ℕ) (p : List ℕ) : Type 0 where
  pub there : IsMissing f p → ⊥
  pub long : IsBelowFixedPart f p → ⊥
  pub short : IsBeyondFixedPart f p → ⊥
  pub range : IsOutOfRange f p → ⊥

at_least : (f : ℕ) (p : List ℕ) → Passes f p → fixed_part f p ≤ length p
at_least f p pass = not_less (length p) (fixed_part f p) pass.long

at_most : (f : ℕ) (p : List ℕ) → Passes f p → takes_rest f p ≡ false → length p ≤ fixed_part f p
at_most f p pass ends = not_less (fixed_part f p) (length p) (λ more. pass.short (ends, more))

-- ---- function by function

-- an ACK, a NAK, or a result code that is refused
result_is : (p : List ℕ) → AreOctets p → Passes 0 p → IsBody 0 p (body_in 0 p)
result_is [] octets pass = absurd (pass.long (omega arith))
result_is (x ∷ []) octets pass = absurd (pass.long (omega arith))
result_is (x ∷ zero ∷ []) octets pass = (tt, refl, refl)
result_is (x ∷ zero ∷ y ∷ rest) octets pass = absurd (pass.short (refl, omega arith))
result_is (x ∷ suc zero ∷ rest) octets pass =
    let p = x ∷ suc zero ∷ rest in
    let long : 7 ≤ length p = at_least 0 p pass in
    let details : IsUtf8 (drop 7 p) = is_text (drop 7 p) (λ out. pass.range (inr (inl (refl, refl, out)))) in (
      (number_small (drop 3 p) (behind_octets 3 p octets), number_small (drop 5 p) (behind_octets 5 p octets), details),
      refl,
      nak_spelled p (drop 7 p) (big_number 2 (drop 3 p)) (big_number 2 (drop 5 p)) long octets refl refl refl refl,
    )
result_is (x ∷ suc (suc code) ∷ rest) octets pass = absurd (pass.range (inl (refl, omega arith)))

advert_is : (p : List ℕ) → AreOctets p → Passes 4 p → IsBody 4 p (body_in 4 p)
advert_is p octets pass =
    let least : 6 ≤ length p = at_least 4 p pass in
    let most : length p ≤ 6 = at_most 4 p pass refl in
    let whole = advert_spelled p (big_number 2 (drop 2 p)) (big_number 2 (drop 4 p)) (omega arith) octets refl refl in (
      record {
        status = not_less 2 (slice_index p 0) (λ more. pass.range (inr (inr (inr (inl (refl, more))))));
        accepts = not_less 1 (slice_index p 1) (λ more. pass.range (inr (inr (inr (inr (inl (refl, more)))))));
        bvlc = number_small (drop 2 p) (behind_octets 2 p octets);
        npdu = number_small (drop 4 p) (behind_octets 4 p octets);
      },
      refl,
      whole,
    )

node_is : (f : ℕ) (p : List ℕ) → (f ≡ 6) ⊎ (f ≡ 7) → length p ≡ 26 → AreOctets p → Passes f p → IsNode (identity_of p)
node_is f p is long octets pass =
    record {
      address = length-take-le 6 p (omega arith);
      device = length-take-le 16 (drop 6 p) (omega (arith, length-drop 6 p));
      reserved = (λ same. pass.range (inr (inr (inr (inr (inr (is, inl same)))))));
      broadcast = (λ same. pass.range (inr (inr (inr (inr (inr (is, inr same)))))));
      bvlc = number_small (drop 22 p) (behind_octets 22 p octets);
      npdu = number_small (drop 24 p) (behind_octets 24 p octets);
    }

bare : (f : ℕ) (p : List ℕ) → fixed_part f p ≡ 0 → takes_rest f p ≡ false → Passes f p → [] ≡ p
bare f [] none ends pass = refl
bare f (x ∷ p) none ends pass = absurd (pass.short (ends, omega arith))

pub body_is : (f : ℕ) (p : List ℕ) → f ≤ 12 → AreOctets p → Passes f p → IsBody f p (body_in f p)
body_is zero p known octets pass = result_is p octets pass
body_is (suc zero) p known octets pass = (at_least 1 p pass, refl, refl)
body_is (suc (suc zero)) p known octets pass = (tt, refl, bare 2 p refl refl pass)
body_is (suc (suc (suc zero))) p known octets pass = (is_text p (λ out. pass.range (inr (inr (inl (refl, out))))), refl, refl)
body_is (suc (suc (suc (suc zero)))) p known octets pass = advert_is p octets pass
body_is (suc (suc (suc (suc (suc zero))))) p known octets pass = (tt, refl, bare 5 p refl refl pass)
body_is (suc (suc (suc (suc (suc (suc zero)))))) p known octets pass =
    let least : 26 ≤ length p = at_least 6 p pass in
    let most : length p ≤ 26 = at_most 6 p pass refl in
    let long : length p ≡ 26 = omega arith in
    (node_is 6 p (inl refl) long octets pass, refl, identity_octets-of p long octets)
body_is (suc (suc (suc (suc (suc (suc (suc zero))))))) p known octets pass =
    let least : 26 ≤ length p = at_least 7 p pass in
    let most : length p ≤ 26 = at_most 7 p pass refl in
    let long : length p ≡ 26 = omega arith in
    (node_is 7 p (inr refl) long octets pass, refl, identity_octets-of p long octets)
body_is (suc (suc (suc (suc (suc (suc (suc (suc zero)))))))) p known octets pass = (tt, refl, bare 8 p refl refl pass)
body_is (suc (suc (suc (suc (suc (suc (suc (suc (suc zero))))))))) p known octets pass = (tt, refl, bare 9 p refl refl pass)
body_is (suc (suc (suc (suc (suc (suc (suc (suc (suc (suc zero)))))))))) p known octets pass = (tt, refl, bare 10 p refl refl pass)
body_is (suc (suc (suc (suc (suc (suc (suc (suc (suc (suc (suc zero))))))))))) p known octets pass = (tt, refl, bare 11 p refl refl pass)
body_is (suc (suc (suc (suc (suc (suc (suc (suc (suc (suc (suc (suc zero)))))))))))) p known octets pass =
    let least : 3 ≤ length p = at_least 12 p pass in
    (number_small p octets, refl, proprietary_spelled p (drop 3 p) (big_number 2 p) least octets refl refl)
body_is (suc (suc (suc (suc (suc (suc (suc (suc (suc (suc (suc (suc (suc f))))))))))))) p known octets pass = absurd (omega arith)
