-- Entries weighed one after another, and what all of them come to.
-- It serves clauses of functions of `files`.
use Rattle.std.proofs.Common.{◌≡◌, ℕ, ◌+◌, ◌==◌, Bool, true, false, if◌then◌else◌, List, [], ◌∷◌, ◌++◌, length, drop, map, Option, Some, None, refl, ap, sym, ◌∙◌, subst, arith}
use Rattle.std.proofs.Common.{take_all}
use Rattle.std.specs.List.{last_or, range_with_len}
use Rattle.std.proofs.lemmas.List.{length-map, length_push, map-append, take-append-le}
use Rattle.bsc_history.specs.declared.entry.Entry.{Entry}
use Rattle.bsc_history.specs.declared.limits.About.{About}
use Rattle.bsc_history.specs.Legality.{Legal as IsLegalFor}
use Rattle.bsc_legality.specs.declared.legality.Legality.{Legality}
use Rattle.bsc_legality.specs.Standing.{LegalityStands}
use Rattle.bsc_audit.specs.declared.files.weighing.Weighing.{Weighing}
use Rattle.bsc_audit.specs.Judging.{IsIllegalAt}
use Rattle.bsc_audit.specs.Merging.{IsJudged, Weighs, entry_of, missing_then, place_of, twice_then}
use Rattle.bsc_audit.specs.Places.Walking.{repeated, repeated_after, skipped}
use Rattle.bsc_audit.specs.Together.{Placed, placed_from}
use Rattle.bsc_audit.proofs.Snoc.{last_append}

-- ---- places

more_after : (b : Bool) (x y : ℕ) (r r' last : Option ℕ) → r' ≡ twice_then r last y → (if b then Some x else r') ≡ twice_then (if b then Some x else r) last y
more_after true x y r r' last e = refl
more_after false x y r r' last e = e

repeated_after_snoc : (x : ℕ) (xs : List ℕ) (y : ℕ) → repeated_after x (xs ++ y ∷ []) ≡ twice_then (repeated_after x xs) (last_or (Some x) xs) y
repeated_after_snoc x [] y = refl
repeated_after_snoc x (z ∷ zs) y =
    more_after (z == x) x y (repeated_after z zs) (repeated_after z (zs ++ y ∷ [])) (last_or (Some z) zs) (repeated_after_snoc z zs y)

pub repeated_snoc : (xs : List ℕ) (y : ℕ) → repeated (xs ++ y ∷ []) ≡ twice_then (repeated xs) (last_or None xs) y
repeated_snoc [] y = refl
repeated_snoc (x ∷ xs) y = repeated_after_snoc x xs y

skips : (b : Bool) (n m y : ℕ) (r r' : Option ℕ) → r' ≡ missing_then r m y → (if b then r' else Some n) ≡ missing_then (if b then r else Some n) m y
skips true n m y r r' e = e
skips false n m y r r' e = refl

skipped_from : (n : ℕ) (xs : List ℕ) (y m : ℕ) → m ≡ n + length xs → skipped n (xs ++ y ∷ []) ≡ missing_then (skipped n xs) m y
skipped_from n [] y m e = ap (λ (k : ℕ). missing_then None k y) (let same : n ≡ m = omega (arith, e) in same)
skipped_from n (x ∷ xs) y m e =
    skips (x == n) n m y (skipped (n + 1) xs) (skipped (n + 1) (xs ++ y ∷ [])) (skipped_from (n + 1) xs y m (omega (arith, e)))

pub skipped_snoc : (xs : List ℕ) (y : ℕ) → skipped 0 (xs ++ y ∷ []) ≡ missing_then (skipped 0 xs) (length xs) y
skipped_snoc xs y = skipped_from 0 xs y (length xs) (omega arith)

-- ---- legality

pub illegal_more : (p : ℕ) (about : About) (H : List Entry) (e : Entry) → IsIllegalAt p about H → IsIllegalAt p about (H ++ e ∷ [])
illegal_more p about H e i =
    let place = i.place in
    record {
      place = (let long = length_push H e in omega (arith, place, long));
      before = subst (λ (F : List Entry). IsLegalFor about F) (sym (take-append-le p H (e ∷ []) (omega (arith, place)))) i.before;
      illegal = λ legal. i.illegal (subst (λ (F : List Entry). IsLegalFor about F) (take-append-le (p + 1) H (e ∷ []) (omega (arith, place))) legal);
    }

pub illegal_here : (p : ℕ) (about : About) (H : List Entry) (e : Entry) → p ≡ length H → IsLegalFor about H → (IsLegalFor about (H ++ e ∷ []) → ⊥) → IsIllegalAt p about (H ++ e ∷ [])
illegal_here p about H e is legal illegal =
    let long = length_push H e in
    record {
      place = omega (arith, is, long);
      before = subst (λ (F : List Entry). IsLegalFor about F) (sym (take-append-le p H (e ∷ []) (omega (arith, is)) ∙ take_all p H (omega (arith, is)))) legal;
      illegal = λ so. illegal (subst (λ (F : List Entry). IsLegalFor about F) (take_all (p + 1) (H ++ e ∷ []) (omega (arith, is, long))) so);
    }

pub judged_none : (about : About) (l : Legality) → LegalityStands l about [] → IsJudged about [] l None
judged_none about l stands = stands

-- one more entry was judged; where one before it isn't legal, the state stays
pub judged_more : (about : About) (H : List Entry) (e : Entry) (l l' : Legality) (p : ℕ) → IsJudged about H l (Some p) → IsJudged about (H ++ e ∷ []) l' (Some p)
judged_more about H e l l' p j = illegal_more p about H e j

-- ---- entries

pub places_snoc : (done : List Placed) (x : Placed) → map place_of (done ++ x ∷ []) ≡ map place_of done ++ x.place ∷ []
places_snoc done x = map-append place_of done (x ∷ [])

pub entries_snoc : (done : List Placed) (x : Placed) → map entry_of (done ++ x ∷ []) ≡ map entry_of done ++ x.entry ∷ []
entries_snoc done x = map-append entry_of done (x ∷ [])

-- Entries whose places go on from n.
first_number : ℕ → List ℕ → ℕ
first_number n [] = n
first_number n (m ∷ ms) = m

pub are_placed : (n : ℕ) (done : List Placed) → map place_of done ≡ range_with_len n (length done) → done ≡ placed_from n (map entry_of done)
unfolding first_number
are_placed n [] places = refl
are_placed n (x ∷ done) places =
    let at : x.place ≡ n = ap (first_number n) places in
    λ i. record { place = at i; entry = x.entry } ∷ are_placed (n + 1) done (ap (drop 1) places) i

pub none_before : (o : Option ℕ) (m y : ℕ) → missing_then o m y ≡ None → o ≡ None
none_before None m y e = refl
none_before (Some p) m y e = cc

-- ---- one more entry

pub weighs_none : (w : Weighing) (about : About) → w.count ≡ 0 → w.last ≡ None → w.twice ≡ None → w.missing ≡ None → w.illegal ≡ None → LegalityStands w.legality about [] → Weighs w about []
weighs_none w about count last twice missing illegal stands = record {
  count = count;
  last = last;
  twice = twice;
  missing = missing;
  judged = λ none. subst (λ (o : Option ℕ). IsJudged about [] w.legality o) (sym illegal) stands;
}

pub weighs_more : (old new : Weighing) (about : About) (done : List Placed) (x : Placed) → new.count ≡ old.count + 1 → new.last ≡ Some x.place →
    new.twice ≡ twice_then old.twice old.last x.place → new.missing ≡ missing_then old.missing old.count x.place →
    (new.missing ≡ None → (H : List Entry) → IsJudged about H old.legality old.illegal → old.count ≡ length H → IsJudged about (H ++ x.entry ∷ []) new.legality new.illegal) →
    Weighs old about done → Weighs new about (done ++ x ∷ [])
weighs_more old new about done x count last twice missing judged w =
    let places = map place_of done in
    let long : length places ≡ length done = length-map done place_of in
    record {
      count = (let was = w.count in let more = length_push done x in omega (arith, count, was, more));
      last = last ∙ sym (ap (λ (l : List ℕ). last_or None l) (places_snoc done x) ∙ last_append None places (x.place ∷ []));
      twice = twice ∙ (λ i. twice_then (w.twice i) (w.last i) x.place) ∙ sym (ap repeated (places_snoc done x) ∙ repeated_snoc places x.place);
      missing = missing ∙ (λ i. missing_then (w.missing i) ((w.count ∙ sym long) i) x.place) ∙ sym (ap (skipped 0) (places_snoc done x) ∙ skipped_snoc places x.place);
      judged = λ none. subst (λ (H : List Entry). IsJudged about H new.legality new.illegal) (sym (entries_snoc done x))
          (judged none (map entry_of done) (w.judged (none_before old.missing old.count x.place (sym missing ∙ none))) (w.count ∙ sym (length-map done entry_of)));
    }
