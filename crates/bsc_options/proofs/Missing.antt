-- Octets are missing: of data, and of an item.
-- It serves the clauses of `first_data` and `first_item`.
use Rattle.std.proofs.Common.{◌≡◌, ℕ, ◌-◌, ◌/◌, ◌%◌, ◌<◌, ◌≤◌, Bool, true, false, eqb, List, [], ◌∷◌, ◌++◌, length, get_or, take, drop, replicate, Some, None, refl, sym, ap, ◌∙◌, arith, length-append}
use Rattle.std.proofs.lemmas.List.{length-replicate}
use Rattle.byteorder.specs.Endian.{big_bytes, big_number}
use Rattle.bsc_octets.proofs.TwoOctets.{two_octets}
use Rattle.bsc_options.specs.declared.item.OptionItem.{OptionItem}
use Rattle.bsc_options.specs.Walk.{IsCutData, IsCutItem}
use Rattle.bsc_options.proofs.Markers.{marker_of-parts}

-- data that say a length, as many octets as it says, of which the last are missing
cut_after : (announced : Bool) (a b : ℕ) (rest : List ℕ) → announced ≡ true → a < 256 → b < 256 → length rest < big_number 2 (a ∷ b ∷ []) → IsCutData announced (a ∷ b ∷ rest)
cut_after announced a b rest there ha hb short =
    let n = big_number 2 (a ∷ b ∷ []) in
    let missing : List ℕ = replicate (n - length rest) 0 in
    let long : length missing ≡ n - length rest = length-replicate (n - length rest) 0 in
    let whole : length (rest ++ missing) ≡ n = omega (arith, length-append rest missing) in
    let spelled : big_bytes 2 (length (rest ++ missing)) ≡ a ∷ b ∷ [] = ap (big_bytes 2) whole ∙ two_octets a b [] ha hb in
    record {
      octets = rest ++ missing;
      missing = missing;
      present = there;
      fits = omega arith;
      some = omega arith;
      spelling = ap (λ (l : List ℕ). l ++ (rest ++ missing)) (sym spelled);
    }

-- fewer octets than the length says
pub cut_data : (announced : Bool) (o : List ℕ) (n : ℕ) → announced ≡ true → 2 ≤ length o → ((i : ℕ) → get_or o i 0 < 256) → n ≡ big_number 2 (take 2 o) → length (drop 2 o) < n → IsCutData announced o
cut_data announced [] n there two octets e short = let h : 2 ≤ 0 = two in absurd (omega arith)
cut_data announced (x ∷ []) n there two octets e short = let h : 2 ≤ 1 = two in absurd (omega arith)
cut_data announced (x ∷ y ∷ rest) n there two octets e short = cut_after announced x y rest there (octets 0) (octets 1) (omega arith)

-- no whole length
pub cut_length : (announced : Bool) (o : List ℕ) → announced ≡ true → length o < 2 → ((i : ℕ) → get_or o i 0 < 256) → IsCutData announced o
cut_length announced [] there two octets = record { octets = []; missing = 0 ∷ 0 ∷ []; present = there; fits = omega arith; some = omega arith; spelling = refl }
cut_length announced (x ∷ []) there two octets =
    let first : x < 256 = octets 0 in
    let n = big_number 2 (x ∷ 0 ∷ []) in
    let rest : List ℕ = replicate n 0 in
    let long : length rest ≡ n = length-replicate n 0 in
    let spelled : big_bytes 2 (length rest) ≡ x ∷ 0 ∷ [] = ap (big_bytes 2) long ∙ two_octets x 0 [] first (omega arith) in
    record {
      octets = rest;
      missing = 0 ∷ rest;
      present = there;
      fits = omega arith;
      some = omega arith;
      spelling = ap (λ (l : List ℕ). l ++ rest) (sym spelled);
    }
cut_length announced (x ∷ y ∷ rest) there two octets = absurd (omega arith)

-- no marker
pub cut_marker : IsCutItem []
cut_marker = record {
  follows = false;
  item = record { must = false; kind = 1; content = None };
  missing = 1 ∷ [];
  fits = record { kind = omega arith; content = tt };
  some = omega arith;
  spelling = refl;
}

-- a marker, and not all of the data that it announces
pub cut_item : (o : List ℕ) (marker : ℕ) (rest : List ℕ) → ((i : ℕ) → get_or o i 0 < 256) → o ≡ marker ∷ rest → IsCutData (eqb (marker / 32 % 2) 1) rest → IsCutItem o
cut_item o marker rest octets e cut =
    let first : get_or o 0 0 ≡ marker = ap (λ (l : List ℕ). get_or l 0 0) e in
    let small : marker < 256 = omega (arith, octets 0) in
    let item : OptionItem = record { must = eqb (marker / 64 % 2) 1; kind = marker % 32; content = Some cut.octets } in
    let again = marker_of-parts marker item small refl refl (sym cut.present) in
    record {
      follows = eqb (marker / 128 % 2) 1;
      item = item;
      missing = cut.missing;
      fits = record { kind = omega arith; content = cut.fits };
      some = cut.some;
      spelling =
          ap (λ (l : List ℕ). l ++ cut.missing) e
          ∙ ap (λ (l : List ℕ). marker ∷ l) cut.spelling
          ∙ ap (λ (x : ℕ). x ∷ (big_bytes 2 (length cut.octets) ++ cut.octets)) (sym again);
    }
