-- What was heard so far, with one more piece, and where more was read.
-- It serves clauses of most source files here.
use Rattle.std.proofs.Common.{◌≡◌, ℕ, ◌+◌, ◌<◌, ◌≤◌, true, List, [], ◌∷◌, ◌++◌, length, take, drop, map, Option, None, OnOk, Result, Ok, Err, refl, ap, sym, ◌∙◌, subst, arith}
use Rattle.std.proofs.Common.{append_assoc, append-nil, length-append, length-drop, take_all}
use Rattle.std.specs.List.{last_or}
use Rattle.std.proofs.lemmas.List.{drop-append-le, drop-drop, drop_all, length_push, map-append, take-append-drop}
use Rattle.bsc_history.specs.declared.limits.About.{About}
use Rattle.bsc_text.specs.Lines.{BeginsLine, has_no_lf, line_in, pieces_of}
use Rattle.bsc_text.proofs.Cutting.{pieces_of-last, pieces_of-lf}
use Rattle.bsc_audit.specs.declared.places.spot.Spot.{Spot}
use Rattle.bsc_journal.specs.declared.journal_record.JournalRecord.{JournalRecord}
use Rattle.bsc_journal.specs.declared.journal_record.JournalRecord.TheVariants.{Hub, Entry as AnEntry, Denial}
use Rattle.bsc_journal.specs.Good.{IsGood}
use Rattle.bsc_audit.specs.declared.heard.Heard.{Heard}
use Rattle.bsc_audit.specs.Verdicts.{places_of}
use Rattle.bsc_audit.specs.Hearing.{HasHeard, HasHeardAll, HearsPiece, Heeds, hubs_of, line_at, part, spots_of}
use Rattle.bsc_audit.proofs.Snoc.{entries_snoc, flat, flat_snoc, hubs_snoc, last_append, places_snoc, say_snoc}
use Rattle.bsc_audit.proofs.Spots.{length_part, part_is, spots_told}

abbrev pub place_of : Spot → ℕ
place_of s = s.place

spot_places : (from to : ℕ) (s : JournalRecord) → map place_of (spots_of from to s) ≡ places_of (s ∷ [])
spot_places from to (Hub about) = refl
spot_places from to (AnEntry place e) = refl
spot_places from to Denial = refl

-- one more piece was heard
pub heeds_more : (o : List ℕ) (h h' : Heard) (pieces : List (List ℕ)) (said : List JournalRecord) (next : ℕ) → Heeds o h pieces said →
    h.at ≤ next → next ≤ length o → (heard : HearsPiece o h h' next) →
    Heeds o h' (pieces ++ part o h.at next ∷ []) (said ++ heard.s ∷ [])
heeds_more o h h' pieces said next so order within heard =
    let p = part o h.at next in
    let s = heard.s in
    let adds = heard.adds in
    let long = flat_snoc pieces p in
    let were = so.long in
    let goes = length_part o h.at next order within in
    record {
      all = say_snoc 0 pieces said p s so.all (subst (λ (n : ℕ). IsGood n p s) (let same : h.at ≡ 0 + length (flat pieces) = omega (arith, were) in same) heard.good);
      long = (let at = adds.at in omega (arith, long, were, goes, at));
      lines = (let one = adds.lines in let was = so.lines in let more = length_push pieces p in omega (arith, one, was, more));
      hubs = (
          let add = adds.hubs in
          let was = so.hubs in
          let all : length (hubs_of (said ++ s ∷ [])) ≡ length (hubs_of said) + length (hubs_of (s ∷ [])) = ap length (hubs_snoc said s) ∙ length-append (hubs_of said) (hubs_of (s ∷ [])) in
          omega (arith, add, was, all));
      about = adds.about ∙ ap (λ (x : Option About). last_or x (hubs_of (s ∷ []))) so.about ∙ sym (last_append None (hubs_of said) (hubs_of (s ∷ [])))
          ∙ ap (λ (l : List About). last_or None l) (sym (hubs_snoc said s));
      places =
          ap (map place_of) adds.spots
          ∙ map-append place_of h.spots.items (spots_of h.at (h.at + length (line_in p)) s)
          ∙ (λ i. so.places i ++ spot_places h.at (h.at + length (line_in p)) s i)
          ∙ sym (places_snoc said s);
      told = λ more.
          ap (map (line_at (o ++ more))) adds.spots
          ∙ map-append (line_at (o ++ more)) h.spots.items (spots_of h.at (h.at + length (line_in p)) s)
          ∙ (λ i. so.told more i ++ spots_told o more h.at next (h.at + length (line_in p)) s order within refl i)
          ∙ sym (entries_snoc 0 pieces said p s so.all);
    }

-- a piece that ends with its LF, and what comes after it
pub cut_off : (o more : List ℕ) (at n : ℕ) → at ≤ length o → BeginsLine n (drop at o) →
    pieces_of (drop at o ++ more) ≡ part o at (at + n + 1) ∷ pieces_of (drop (at + n + 1) o ++ more)
cut_off o more at n within b =
    let rest = drop at o in
    let q = take n rest in
    let piece : part o at (at + n + 1) ≡ take (n + 1) rest = ap (λ (m : ℕ). part o at m) (let same : at + n + 1 ≡ at + (n + 1) = omega arith in same) ∙ part_is o at (n + 1) in
    let later : drop (n + 1) rest ≡ drop (at + n + 1) o = drop-drop (n + 1) at o ∙ ap (λ (m : ℕ). drop m o) (let same : at + (n + 1) ≡ at + n + 1 = omega arith in same) in
    let apart : rest ++ more ≡ (q ++ 10 ∷ []) ++ (drop (n + 1) rest ++ more) =
    ap (λ (x : List ℕ). x ++ more) (sym (take-append-drop (n + 1) rest) ∙ ap (λ (x : List ℕ). x ++ drop (n + 1) rest) b.cut)
    ∙ append_assoc (q ++ 10 ∷ []) (drop (n + 1) rest) more in
    ap pieces_of apart
    ∙ pieces_of-lf q (drop (n + 1) rest ++ more) b.no_lf
    ∙ (λ i. (sym b.cut ∙ sym piece) i ∷ pieces_of (later i ++ more))

begun_within : (o : List ℕ) (at n : ℕ) → at ≤ length o → BeginsLine n (drop at o) → at + n + 1 ≤ length o
begun_within o at n within b = let left = length-drop at o in let less = b.within in omega (arith, left, less, within)

pub heard_piece : (o : List ℕ) (h h' : Heard) (n : ℕ) → HasHeard o h → BeginsLine n (drop h.at o) → HearsPiece o h h' (h.at + n + 1) → HasHeard o h'
heard_piece o h h' n so b heard =
    let next = h.at + n + 1 in
    let within = begun_within o h.at n so.within b in
    let p = part o h.at next in
    record {
      pieces = so.pieces ++ p ∷ [];
      said = so.said ++ heard.s ∷ [];
      heeds = heeds_more o h h' so.pieces so.said next so.heeds (let order : h.at ≤ next = omega arith in order) within heard;
      within = (let at = heard.adds.at in omega (arith, at, within));
      cut = λ more.
          so.cut more
          ∙ ap (λ (l : List (List ℕ)). so.pieces ++ l) (cut_off o more h.at n so.within b ∙ ap (λ (m : ℕ). p ∷ pieces_of (drop m o ++ more)) (sym heard.adds.at))
          ∙ sym (append_assoc so.pieces (p ∷ []) (pieces_of (drop h'.at o ++ more)));
    }

-- more was read
pub heard_more : (o chunk : List ℕ) (h : Heard) → HasHeard o h → HasHeard (o ++ chunk) h
heard_more o chunk h so = record {
  pieces = so.pieces;
  said = so.said;
  heeds = record {
    all = so.heeds.all;
    long = so.heeds.long;
    lines = so.heeds.lines;
    hubs = so.heeds.hubs;
    about = so.heeds.about;
    places = so.heeds.places;
    told = λ more. ap (λ (x : List ℕ). map (line_at x) h.spots.items) (append_assoc o chunk more) ∙ so.heeds.told (chunk ++ more);
  };
  within = (let long = length-append o chunk in let was = so.within in omega (arith, long, was));
  cut = λ more.
      ap pieces_of (append_assoc o chunk more)
      ∙ so.cut (chunk ++ more)
      ∙ ap (λ (x : List ℕ). so.pieces ++ pieces_of x) (sym (append_assoc (drop h.at o) chunk more) ∙ ap (λ (x : List ℕ). x ++ more) (sym (drop-append-le h.at o chunk so.within)));
}

pub heard_nothing : (h : Heard) → h.at ≡ 0 → h.lines ≡ 0 → h.hubs ≡ 0 → h.about ≡ None → h.spots.items ≡ [] → HasHeard [] h
heard_nothing h at lines hubs about spots = record {
  pieces = [];
  said = [];
  heeds = record {
    all = tt;
    long = sym at;
    lines = lines;
    hubs = hubs;
    about = about;
    places = ap (map place_of) spots;
    told = λ more. ap (map (line_at ([] ++ more))) spots;
  };
  within = omega (arith, at);
  cut = λ more. ap (λ (m : ℕ). pieces_of (drop m [] ++ more)) (sym at);
}

pieces_now : (o : List ℕ) (h : Heard) (so : HasHeard o h) → pieces_of o ≡ so.pieces ++ pieces_of (drop h.at o)
pieces_now o h so = ap pieces_of (sym (append-nil o)) ∙ so.cut [] ∙ ap (λ (x : List ℕ). so.pieces ++ pieces_of x) (append-nil (drop h.at o))

heeds_pieces : (o : List ℕ) (h : Heard) (said : List JournalRecord) (ps qs : List (List ℕ)) → ps ≡ qs → Heeds o h ps said → Heeds o h qs said
heeds_pieces o h said ps qs e so = subst (λ (x : List (List ℕ)). Heeds o h x said) e so

-- all of it was heard: nothing is left
pub heard_all : (o : List ℕ) (h : Heard) → HasHeard o h → h.at ≡ length o → HasHeardAll o h
heard_all o h so whole =
    let none : drop h.at o ≡ [] = drop_all h.at o (omega (arith, whole)) in
    record {
      said = so.said;
      heeds = heeds_pieces o h so.said so.pieces (pieces_of o) (sym (append-nil so.pieces) ∙ ap (λ (x : List ℕ). so.pieces ++ pieces_of x) (sym none) ∙ sym (pieces_now o h so)) so.heeds;
      whole = whole;
    }

last_piece : (rest : List ℕ) → has_no_lf rest ≡ true → 0 < length rest → pieces_of rest ≡ rest ∷ []
last_piece [] no_lf some = let no : ⊥ = omega (arith, some) in absurd no
last_piece (c ∷ rest) no_lf some = pieces_of-last c rest no_lf

-- the last piece, which has no LF
pub last_is : (o : List ℕ) (at : ℕ) → at < length o → has_no_lf (drop at o) ≡ true → pieces_of (drop at o) ≡ part o at (length o) ∷ []
last_is o at within no_lf =
    let rest = drop at o in
    let left = length-drop at o in
    let same : part o at (length o) ≡ rest = ap (drop at) (take_all (length o) o (let le : length o ≤ length o = omega arith in le)) in
    last_piece rest no_lf (omega (arith, left, within)) ∙ ap (λ (x : List ℕ). x ∷ []) (sym same)

pub heard_last : (o : List ℕ) (h h' : Heard) → HasHeard o h → has_no_lf (drop h.at o) ≡ true → h.at < length o → HearsPiece o h h' (length o) → HasHeardAll o h'
heard_last o h h' so no_lf before heard =
    let last = length o in
    record {
      said = so.said ++ heard.s ∷ [];
      heeds = heeds_pieces o h' (so.said ++ heard.s ∷ []) (so.pieces ++ part o h.at last ∷ []) (pieces_of o)
          (sym (pieces_now o h so ∙ ap (λ (l : List (List ℕ)). so.pieces ++ l) (last_is o h.at before no_lf)))
          (heeds_more o h h' so.pieces so.said last so.heeds so.within (let le : last ≤ last = omega arith in le) heard);
      whole = heard.adds.at;
    }

-- what follows from what a call says where it succeeds
pub on_ok : {A E : Type 0} (r : Result A E) (P Q : Type 0) → OnOk r P → (P → Q) → OnOk r Q
on_ok (Ok x) P Q h f = f h
on_ok (Err e) P Q h f = tt

-- the same of what a walk saw of the rest
pub heard_piece_at : (o rest : List ℕ) (h h' : Heard) (n : ℕ) → rest ≡ drop h.at o → HasHeard o h → BeginsLine n rest → HearsPiece o h h' (h.at + n + 1) → HasHeard o h'
heard_piece_at o rest h h' n e so b heard = heard_piece o h h' n so (subst (λ (x : List ℕ). BeginsLine n x) e b) heard
