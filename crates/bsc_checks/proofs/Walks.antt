-- Reading options from the front finds what octets spell, or that octets are missing.
-- It serves the clauses of `judge` and `one_outcome`.
use Rattle.std.proofs.Common.{◌≡◌, ℕ, zero, suc, ◌+◌, ◌/◌, ◌%◌, ◌<◌, ◌≤◌, Bool, true, false, ◌||◌, eqb, ltb, cond, List, [], ◌∷◌, ◌++◌, length, get_or, take, drop, Option, Some}
use Rattle.std.proofs.Common.{None, is_some, refl, sym, ap, ◌∙◌, append_assoc, arith, length-append}
use Rattle.std.proofs.lemmas.Bool.{ltb-true, ltb-false}
use Rattle.std.proofs.lemmas.List.{drop_at, get_or-drop, length-take-le, take-append-drop, append-nil}
use Rattle.byteorder.specs.Endian.{big_bytes, big_number}
use Rattle.bsc_octets.proofs.TwoOctets.{two_octets}
use Rattle.bsc_options.specs.declared.item.OptionItem.{OptionItem}
use Rattle.bsc_options.specs.Spelling.{Fits, data_octets, has_items, item_octets, marker_of, spelling_of}
use Rattle.bsc_options.specs.Reading.{AreItems, IsCut}
use Rattle.bsc_options.specs.Walk.{FitsData, IsCutData, IsCutItem}
use Rattle.bsc_options.proofs.Markers.{marker_of-parts}
use Rattle.bsc_options.proofs.Missing.{cut_data, cut_item, cut_length, cut_marker}
use Rattle.bsc_options.proofs.Chains.{has_items-some, walked_none, walked_cut}
use Rattle.bsc_checks.specs.Options.{AreOctets, Data, First, Found, data_in, with_marker, first_in, with_first, continued, after_first, items_in}

-- ---- octets of octets

pub behind_octets : (n : ℕ) (o : List ℕ) → AreOctets o → AreOctets (drop n o)
behind_octets n o octets i = rw get_or-drop (octets (n + i))

-- ---- the data

abbrev DataSays : Bool → List ℕ → Option Data → Type 0
DataSays announced o None = IsCutData announced o
DataSays announced o (Some found) = FitsData found.content × (is_some found.content ≡ announced) × (o ≡ data_octets found.content ++ found.rest)

two_says : (a b : ℕ) (rest : List ℕ) → a < 256 → b < 256 → AreOctets (a ∷ b ∷ rest) → (s t : Bool) → ltb (length (a ∷ b ∷ rest)) 2 ≡ s → ltb (length rest) (big_number 2 (a ∷ b ∷ rest)) ≡ t
    → DataSays true (a ∷ b ∷ rest) (cond (s || t) None (Some (record { content = Some (take (big_number 2 (a ∷ b ∷ rest)) rest); rest = drop (big_number 2 (a ∷ b ∷ rest)) rest })))
two_says a b rest ha hb octets true t few short = absurd (let less = ltb-true (length (a ∷ b ∷ rest)) 2 few in omega arith)
two_says a b rest ha hb octets false true few short =
    let o = a ∷ b ∷ rest in
    let less : length rest < big_number 2 o = ltb-true (length rest) (big_number 2 o) short in
    cut_data true o (big_number 2 o) refl (omega arith) octets refl less
two_says a b rest ha hb octets false false few short =
    let n = big_number 2 (a ∷ b ∷ rest) in
    let enough : n ≤ length rest = ltb-false (length rest) n short in
    let long : length (take n rest) ≡ n = length-take-le n rest enough in
    let spelled : big_bytes 2 (length (take n rest)) ≡ a ∷ b ∷ [] = ap (big_bytes 2) long ∙ two_octets a b rest ha hb in
    let whole : rest ≡ take n rest ++ drop n rest = sym (take-append-drop n rest) in (
      omega arith,
      refl,
      ap (λ (l : List ℕ). a ∷ b ∷ l) whole
          ∙ sym (append_assoc (a ∷ b ∷ []) (take n rest) (drop n rest))
          ∙ ap (λ (l : List ℕ). (l ++ take n rest) ++ drop n rest) (sym spelled),
    )

data_says : (announced : Bool) (o : List ℕ) → AreOctets o → DataSays announced o (data_in announced o)
data_says false o octets = (tt, refl, refl)
data_says true [] octets = cut_length true [] refl (omega arith) octets
data_says true (x ∷ []) octets = cut_length true (x ∷ []) refl (omega arith) octets
data_says true (x ∷ y ∷ rest) octets = two_says x y rest (octets 0) (octets 1) octets (ltb (length (x ∷ y ∷ rest)) 2) (ltb (length rest) (big_number 2 (x ∷ y ∷ rest))) refl refl

-- ---- one option

abbrev FirstSays : List ℕ → Option First → Type 0
FirstSays o None = IsCutItem o
FirstSays o (Some first) = Fits first.item × (o ≡ item_octets first.follows first.item ++ first.rest)

marker_says : (marker : ℕ) (o : List ℕ) (behind : Option Data) → AreOctets (marker ∷ o) → DataSays (eqb (marker / 32 % 2) 1) o behind → FirstSays (marker ∷ o) (with_marker marker behind)
marker_says marker o None octets cut = cut_item (marker ∷ o) marker o octets refl cut
marker_says marker o (Some behind) octets found =
    let small : marker < 256 = octets 0 in
    let item : OptionItem = record { must = eqb (marker / 64 % 2) 1; kind = marker % 32; content = behind.content } in
    let again : marker_of (eqb (marker / 128 % 2) 1) item ≡ marker = marker_of-parts marker item small refl refl found.1 in
    (record { kind = omega arith; content = found.0 }, ap (λ (l : List ℕ). marker ∷ l) found.2 ∙ ap (λ (x : ℕ). x ∷ (data_octets behind.content ++ behind.rest)) (sym again))

first_says : (o : List ℕ) → AreOctets o → FirstSays o (first_in o)
first_says [] octets = cut_marker
first_says (marker ∷ o) octets = marker_says marker o (data_in (eqb (marker / 32 % 2) 1) o) octets (data_says (eqb (marker / 32 % 2) 1) o (behind_octets 1 (marker ∷ o) octets))

-- ---- a list

abbrev pub ItemsSay : List ℕ → Option Found → Type 0
ItemsSay o None = IsCut o 0
ItemsSay o (Some found) = AreItems found.items × (o ≡ spelling_of found.items ++ found.rest)

-- octets of a list are missing where they are behind an item that another follows
cut_more : (o rest : List ℕ) (item : OptionItem) → Fits item → o ≡ item_octets true item ++ rest → IsCut rest 0 → IsCut o 0
cut_more o rest item fits e cut =
    let followed : has_items cut.items ≡ true = has_items-some cut.items cut.are.some in
    record {
      items = item ∷ cut.items;
      missing = cut.missing;
      are = record { some = omega arith; fit = (fits, cut.are.fit) };
      some = cut.some;
      spelling =
          ap (λ (l : List ℕ). l ++ cut.missing) e
          ∙ append_assoc (item_octets true item) rest cut.missing
          ∙ ap (λ (l : List ℕ). item_octets true item ++ l) cut.spelling
          ∙ ap (λ (b : Bool). item_octets b item ++ spelling_of cut.items) (sym followed);
    }

with_first_says : (o rest : List ℕ) (item : OptionItem) (found : Option Found) → Fits item → o ≡ item_octets true item ++ rest → ItemsSay rest found → ItemsSay o (with_first item found)
with_first_says o rest item None fits e cut = cut_more o rest item fits e cut
with_first_says o rest item (Some found) fits e says =
    let followed : has_items found.items ≡ true = has_items-some found.items says.0.some in (
      record { some = omega arith; fit = (fits, says.0.fit) },
      e
          ∙ ap (λ (l : List ℕ). item_octets true item ++ l) says.1
          ∙ sym (append_assoc (item_octets true item) (spelling_of found.items) found.rest)
          ∙ ap (λ (b : Bool). (item_octets b item ++ spelling_of found.items) ++ found.rest) (sym followed),
    )

-- the octets behind an item are fewer, and octets
shorter : (o rest : List ℕ) (follows : Bool) (item : OptionItem) → o ≡ item_octets follows item ++ rest → length rest < length o
shorter o rest follows item e = omega (arith, ap length e, length-append (item_octets follows item) rest)

octets_behind : (o front rest : List ℕ) → AreOctets o → o ≡ front ++ rest → AreOctets rest
octets_behind o front rest octets e i =
    let moved : get_or rest i 0 ≡ get_or o (length front + i) 0 = ap (λ (l : List ℕ). get_or l i 0) (sym (drop_at front rest (length front) refl) ∙ ap (drop (length front)) (sym e))
    ∙ get_or-drop (length front) o i 0 in
    omega (arith, moved, octets (length front + i))

continued_says : (o : List ℕ) (follows : Bool) (item : OptionItem) (rest : List ℕ) (read : List ℕ → Option Found) → (AreOctets rest → length rest < length o → ItemsSay rest (read rest)) → AreOctets o
    → Fits item → o ≡ item_octets follows item ++ rest → ItemsSay o (continued follows item rest read)
continued_says o true item rest read says octets fits e =
    with_first_says o rest item (read rest) fits e (says (octets_behind o (item_octets true item) rest octets e) (shorter o rest true item e))
continued_says o false item rest read says octets fits e =
    let alone : item_octets false item ++ [] ≡ item_octets false item = append-nil (item_octets false item) in
    (record { some = omega arith; fit = (fits, tt) }, e ∙ ap (λ (l : List ℕ). l ++ rest) (sym alone))

after_says : (o : List ℕ) (first : Option First) (read : List ℕ → Option Found) → ((rest : List ℕ) → AreOctets rest → length rest < length o → ItemsSay rest (read rest)) → AreOctets o
    → FirstSays o first → ItemsSay o (after_first first read)
after_says o None read says octets cut = walked_cut o o (walked_none o) cut
after_says o (Some first) read says octets found = continued_says o first.follows first.item first.rest read (says first.rest) octets found.0 found.1

pub items_say : (most : ℕ) (o : List ℕ) → AreOctets o → length o ≤ most → ItemsSay o (items_in most o)
items_say zero [] octets few = walked_cut [] [] (walked_none []) cut_marker
items_say zero (x ∷ o) octets few = absurd (omega arith)
items_say (suc most) o octets few = after_says o (first_in o) (λ rest. items_in most rest) (λ rest those less. items_say most rest those (omega arith)) octets (first_says o octets)
