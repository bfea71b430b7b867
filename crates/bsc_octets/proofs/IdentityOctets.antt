-- An identity's octets say that identity, and no other octets do.
-- It serves the clauses of `read_identity` and `write_identity`.
use Rattle.std.proofs.Common.{◌≡◌, ℕ, ◌+◌, ◌<◌, List, [], ◌++◌, length, get_or, take, drop, refl, sym, ap, ◌∙◌, append_assoc, arith, length-append, length-drop}
use Rattle.std.proofs.Math.Seq.{take-add}
use Rattle.std.proofs.lemmas.List.{take_at, drop_at, take_all, get_or-drop}
use Rattle.byteorder.specs.Endian.{big_bytes, big_number}
use Rattle.bsc_octets.specs.declared.identity.Identity.{Identity}
use Rattle.bsc_octets.specs.Identities.{identity_octets, identity_of}
use Rattle.bsc_octets.proofs.TwoOctets.{two_octet_number, first_two_octets}

-- four parts, the first three of 6, 16 and 2 octets, are found again
pub identity_of-octets : (who : Identity) → length who.vmac.0 ≡ 6 → length who.device.0 ≡ 16 → who.max_bvlc < 65536 → who.max_npdu < 65536 → identity_of (identity_octets who) ≡ who
identity_of-octets who six sixteen bvlc npdu =
    let v = who.vmac.0 in
    let d = who.device.0 in
    let b = big_bytes 2 who.max_bvlc in
    let n = big_bytes 2 who.max_npdu in
    let twenty_two : length (v ++ d) ≡ 22 = omega (arith, length-append v d) in
    let by_one : identity_octets who ≡ v ++ (d ++ (b ++ n)) = append_assoc (v ++ d) b n ∙ append_assoc v d (b ++ n) in
    let by_two : identity_octets who ≡ (v ++ d) ++ (b ++ n) = append_assoc (v ++ d) b n in
    let vmac : take 6 (identity_octets who) ≡ v = ap (take 6) by_one ∙ take_at v (d ++ (b ++ n)) 6 six in
    let device : take 16 (drop 6 (identity_octets who)) ≡ d = ap (λ (l : List ℕ). take 16 (drop 6 l)) by_one ∙ ap (take 16) (drop_at v (d ++ (b ++ n)) 6 six) ∙ take_at d (b ++ n) 16 sixteen in
    let longest : big_number 2 (drop 22 (identity_octets who)) ≡ who.max_bvlc = ap (λ (l : List ℕ). big_number 2 (drop 22 l)) by_two
    ∙ ap (big_number 2) (drop_at (v ++ d) (b ++ n) 22 twenty_two) ∙ two_octet_number who.max_bvlc n bvlc in
    let largest : big_number 2 (drop 24 (identity_octets who)) ≡ who.max_npdu = ap (big_number 2) (drop_at ((v ++ d) ++ b) n 24 (omega (arith, length-append (v ++ d) b)))
    ∙ two_octet_number who.max_npdu [] npdu in
    rw (vmac, device, longest, largest) refl

pub identity_octets-of : (b : List ℕ) → length b ≡ 26 → ((i : ℕ) → get_or b i 0 < 256) → identity_octets (identity_of b) ≡ b
identity_octets-of b long octets =
    let within : (n i : ℕ) → get_or (drop n b) i 0 < 256 = λ n i. rw get_or-drop (octets (n + i)) in
    let bvlc : big_bytes 2 (big_number 2 (drop 22 b)) ≡ take 2 (drop 22 b) = first_two_octets (drop 22 b) (omega (arith, length-drop 22 b)) (within 22 0) (within 22 1) in
    let npdu : big_bytes 2 (big_number 2 (drop 24 b)) ≡ take 2 (drop 24 b) = first_two_octets (drop 24 b) (omega (arith, length-drop 24 b)) (within 24 0) (within 24 1) in
    let one : (take 6 b ++ take 16 (drop 6 b)) ++ take 2 (drop 22 b) ≡ take 24 b = ap (λ (l : List ℕ). l ++ take 2 (drop 22 b)) (sym (take-add 6 16 b)) ∙ sym (take-add 22 2 b) in
    ap (λ (l : List ℕ). ((take 6 b ++ take 16 (drop 6 b)) ++ l) ++ big_bytes 2 (big_number 2 (drop 24 b))) bvlc
    ∙ ap (λ (l : List ℕ). ((take 6 b ++ take 16 (drop 6 b)) ++ take 2 (drop 22 b)) ++ l) npdu
    ∙ ap (λ (l : List ℕ). l ++ take 2 (drop 24 b)) one
    ∙ sym (take-add 24 2 b)
    ∙ take_all 26 b (omega arith)
