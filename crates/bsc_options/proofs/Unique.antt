-- No spelling begins another: the octets of an item, and of a list, say which it is and where it ends.
-- It serves clauses of functions of `checking`, `laws` and `reading`.
use Rattle.std.proofs.Common.{◌≡◌, ℕ, ◌<◌, Bool, true, false, List, [], ◌∷◌, ◌++◌, length, get_or, take, drop, Option, Some, None, is_some, refl, sym, ap, ◌∙◌, append_assoc, arith}
use Rattle.std.specs.List.{AllByRecursion}
use Rattle.std.proofs.lemmas.List.{take_at, drop_at}
use Rattle.byteorder.specs.Endian.{big_bytes, big_number}
use Rattle.bsc_octets.proofs.TwoOctets.{two_octet_number}
use Rattle.bsc_options.specs.declared.item.OptionItem.{OptionItem}
use Rattle.bsc_options.specs.Spelling.{Fits, data_octets, item_octets, marker_of, spelling_of}
use Rattle.bsc_options.specs.Walk.{FitsData}
use Rattle.bsc_options.proofs.Markers.{same_marker}

-- ---- items

same_item : (x y : OptionItem) → x.must ≡ y.must → x.kind ≡ y.kind → x.content ≡ y.content → x ≡ y
same_item x y must kind content =
    let whole : record { must = x.must; kind = x.kind; content = x.content } ≡ y = rw (must, kind, content) refl in
    whole

-- data that are there in both or in neither
one_data : (c d : Option (List ℕ)) (r s : List ℕ) → FitsData c → FitsData d → is_some c ≡ is_some d → data_octets c ++ r ≡ data_octets d ++ s → (c ≡ d) × (r ≡ s)
one_data None None r s fits other there e = (refl, e)
one_data None (Some y) r s fits other there e = absurd cc
one_data (Some x) None r s fits other there e = absurd cc
one_data (Some x) (Some y) r s fits other there e =
    let apart : big_bytes 2 (length x) ++ (x ++ r) ≡ big_bytes 2 (length y) ++ (y ++ s) = sym (append_assoc (big_bytes 2 (length x)) x r) ∙ e ∙ append_assoc (big_bytes 2 (length y)) y s in
    let long : length x ≡ length y = sym (two_octet_number (length x) (x ++ r) fits) ∙ ap (big_number 2) apart ∙ two_octet_number (length y) (y ++ s) other in
    let tails : x ++ r ≡ y ++ s = ap (drop 2) apart in
    let same : x ≡ y = sym (take_at x r (length x) refl) ∙ ap (take (length x)) tails ∙ take_at y s (length x) (sym long) in
    let rest : r ≡ s = sym (drop_at x r (length x) refl) ∙ ap (drop (length x)) tails ∙ drop_at y s (length x) (sym long) in
    (ap (λ (octets : List ℕ). Some octets) same, rest)

pub one_item : (f g : Bool) (x y : OptionItem) (r s : List ℕ) → Fits x → Fits y → item_octets f x ++ r ≡ item_octets g y ++ s → (f ≡ g) × (x ≡ y) × (r ≡ s)
one_item f g x y r s fits other e =
    let head : marker_of f x ≡ marker_of g y = ap (λ (l : List ℕ). get_or l 0 0) e in
    let tail : data_octets x.content ++ r ≡ data_octets y.content ++ s = ap (drop 1) e in
    let parts = same_marker f g x y fits.kind other.kind head in
    let more = one_data x.content y.content r s fits.content other.content parts.2 tail in
    (parts.0, same_item x y parts.1 parts.3 more.0, more.1)

-- ---- lists

pub one_list : (xs ys : List OptionItem) (r s : List ℕ) → AllByRecursion Fits xs → AllByRecursion Fits ys → 0 < length xs → 0 < length ys
    → spelling_of xs ++ r ≡ spelling_of ys ++ s → (xs ≡ ys) × (r ≡ s)
one_list [] ys r s fits others some more e = absurd (omega arith)
one_list (x ∷ xs) [] r s fits others some more e = absurd (omega arith)
one_list (x ∷ []) (y ∷ []) r s fits others some more e =
    let first = one_item false false x y ([] ++ r) ([] ++ s) fits.0 others.0 (sym (append_assoc (item_octets false x) [] r) ∙ e ∙ append_assoc (item_octets false y) [] s) in
    (ap (λ (i : OptionItem). i ∷ []) first.1, first.2)
one_list (x ∷ []) (y ∷ z ∷ ys) r s fits others some more e =
    let first = one_item false true x y ([] ++ r) (spelling_of (z ∷ ys) ++ s) fits.0 others.0
    (sym (append_assoc (item_octets false x) [] r) ∙ e ∙ append_assoc (item_octets true y) (spelling_of (z ∷ ys)) s) in
    let differ : false ≡ true = first.0 in
    absurd cc
one_list (x ∷ w ∷ xs) (y ∷ []) r s fits others some more e =
    let first = one_item true false x y (spelling_of (w ∷ xs) ++ r) ([] ++ s) fits.0 others.0
    (sym (append_assoc (item_octets true x) (spelling_of (w ∷ xs)) r) ∙ e ∙ append_assoc (item_octets false y) [] s) in
    let differ : true ≡ false = first.0 in
    absurd cc
one_list (x ∷ w ∷ xs) (y ∷ z ∷ ys) r s fits others some more e =
    let first = one_item true true x y (spelling_of (w ∷ xs) ++ r) (spelling_of (z ∷ ys) ++ s) fits.0 others.0
    (sym (append_assoc (item_octets true x) (spelling_of (w ∷ xs)) r) ∙ e ∙ append_assoc (item_octets true y) (spelling_of (z ∷ ys)) s) in
    let others_same = one_list (w ∷ xs) (z ∷ ys) r s fits.1 others.1 (omega arith) (omega arith) first.2 in
    let head : x ≡ y = first.1 in
    let tail : w ∷ xs ≡ z ∷ ys = others_same.0 in
    (rw (head, tail) refl, others_same.1)
