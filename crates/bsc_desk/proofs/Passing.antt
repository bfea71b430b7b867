-- A prepared frame gives back the message that it was made of.
-- It serves the clauses of `prepare`.
use Rattle.std.proofs.Common.{◌≡◌, ◌≤◌, ◌+◌, ℕ, Bool, true, false, cond, IsTrue, List, [], ◌∷◌, ◌++◌, length, take, drop, refl, ap, sym, ◌∙◌, arith, length-append, length-drop, append_assoc}
use Rattle.std.proofs.lemmas.List.{drop-take, take-append-drop, length-take, take-take}
use Rattle.std.proofs.Math.Seq.{drop-append_seam, take-append_seam}
use Rattle.std.proofs.lemmas.Bool.{and_parts, leb-true}
use Rattle.bsc_octets.specs.declared.vmac.Vmac.{Vmac}
use Rattle.bsc_octets.specs.Addresses.{same_vmac, broadcast}
use Rattle.bsc_octets.specs.Forwarding.{out, has_route, is_broadcast, function_in, flags_out, id_in, kept, after_destination}
use Rattle.bsc_desk.specs.Frames.{message_in, sender_in, IsPassedOn}

drop_front : (n : ℕ) (xs ys : List ℕ) → length xs ≡ n → drop n (xs ++ ys) ≡ ys
drop_front n xs ys e = ap (λ (k : ℕ). drop k (xs ++ ys)) (sym e) ∙ drop-append_seam xs ys

take_front : (n : ℕ) (xs ys : List ℕ) → length xs ≡ n → take n (xs ++ ys) ≡ xs
take_front n xs ys e = ap (λ (k : ℕ). take k (xs ++ ys)) (sym e) ∙ take-append_seam xs ys

same_broadcast : (m : List ℕ) → is_broadcast (take 10 m) ≡ is_broadcast m
same_broadcast m = ap (λ (l : List ℕ). let v : Vmac = record { 0 = l } in same_vmac v broadcast) (ap (take 6) (drop-take 4 6 m) ∙ take-take 6 6 (drop 4 m) (omega arith))

-- the parts of what is passed on
header : List ℕ → List ℕ
header m = function_in m ∷ flags_out m ∷ id_in m

length-header : (m : List ℕ) → 10 ≤ length m → length (header m) ≡ 4
unfolding header
length-header m h = grind (arith, length-take, length-drop)

length-kept : (m : List ℕ) → 10 + length (kept m) ≡ cond (is_broadcast m) 16 10
length-kept m = elim (is_broadcast m) as (λ b. 10 + length (cond b broadcast.0 []) ≡ cond b 16 10) [ true ↦ refl | false ↦ refl ]

pub sender_back : (m : List ℕ) (v : Vmac) → 10 ≤ length m → length v.0 ≡ 6 → sender_in (out m v) ≡ v
unfolding out header
sender_back m v long six =
    let rest = kept m ++ after_destination m in
    let split : out m v ≡ header m ++ (v.0 ++ rest) = simp append_assoc in
    let e : take 6 (drop 4 (out m v)) ≡ v.0 = ap (λ (l : List ℕ). take 6 (drop 4 l)) split ∙ ap (take 6) (drop_front 4 (header m) (v.0 ++ rest) (length-header m long)) ∙ take_front 6 v.0 rest six in
    ap (λ (l : List ℕ). let w : Vmac = record { 0 = l } in w) e

pub message_back : (m : List ℕ) (v : Vmac) → 10 ≤ length m → length v.0 ≡ 6 → message_in (take 10 m) (out m v) ≡ m
unfolding out header
message_back m v long six =
    let front = (header m ++ v.0) ++ kept m in
    let n = cond (is_broadcast m) 16 10 in
    let here : length front ≡ n = length-append (header m ++ v.0) (kept m)
    ∙ ap (λ (k : ℕ). k + length (kept m)) (length-append (header m) v.0 ∙ ap (λ (k : ℕ). k + length v.0) (length-header m long) ∙ ap (λ (k : ℕ). 4 + k) six) ∙ length-kept m in
    ap (λ (b : Bool). take 10 m ++ drop (cond b 16 10) (out m v)) (same_broadcast m)
    ∙ ap (λ (l : List ℕ). take 10 m ++ l) (drop_front n front (after_destination m) here)
    ∙ take-append-drop 10 m

pub passes_on : (m : List ℕ) (v : Vmac) → IsTrue (has_route m) → length v.0 ≡ 6 → IsPassedOn (take 10 m) (out m v)
passes_on m v route six =
    let long : 10 ≤ length m = leb-true 10 (length m) (and_parts _ _ (and_parts _ _ route).0).0 in
    let back = message_back m v long six in
    let from = sender_back m v long six in
    record {
      route = ap has_route back ∙ route;
      passed = sym (ap (λ (l : List ℕ). out l (sender_in (out m v))) back ∙ ap (out m) from);
    }
