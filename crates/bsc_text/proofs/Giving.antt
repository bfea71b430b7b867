-- What a feed gives, from what it has read.
-- It serves the clauses of `keep_rest`, `make` and `next_whole`.
use Rattle.std.proofs.Common.{◌≡◌, ◌≢◌, ℕ, ◌+◌, ◌≤◌, ◌<◌, ◌⊎◌, true, List, [], ◌∷◌, ◌++◌, length, take, drop, Option, Some, None, refl, sym, ap, ◌∙◌, length-append, append_assoc}
use Rattle.std.proofs.Common.{inl, inr, ⊎_elim, arith}
use Rattle.std.proofs.lemmas.List.{append-nil, take-append-drop}
use Rattle.std.specs.Option.{option_map}
use Rattle.std.specs.Io.KnownBytes.{IsAtEnd}
use Rattle.bsc_text.specs.declared.bounds.TheConstants.{MAX_INPUT_LEN, MAX_LINE_LEN}
use Rattle.bsc_text.specs.declared.feed.Feed.{Feed}
use Rattle.bsc_text.specs.declared.feed.NextLine.{NextLine}
use Rattle.bsc_text.specs.declared.feed.NextLine.TheVariants.{Line, More, End, Refused, NoMemory}
use Rattle.bsc_text.specs.Lines.{pieces_of, line_in, is_too_big, has_no_lf, BeginsLine}
use Rattle.bsc_text.specs.Feeding.{unread, Gives, GivesLine, IsUsedUp, WantsMore, Feeds, HasTooBig}
use Rattle.bsc_text.proofs.Cutting.{has_no_lf-append, pieces_of-begin, pieces_of-lf, pieces_of-last, line_in-length}
use Rattle.bsc_text.proofs.Spending.{none-left}
use Rattle.bsc_lemmas.proofs.Booleans.{either}

-- octets of which none is an LF may be too many for any piece
pub too_big : (o q rest : List ℕ) (old : Feed) → has_no_lf q ≡ true → o ≡ q ++ rest → 0 < length q →
    (MAX_LINE_LEN + 1 < length q) ⊎ (MAX_INPUT_LEN < old.count + length q) → HasTooBig o old
too_big o [] rest old h e n big = absurd (omega arith)
too_big o (c ∷ q) rest old h e n big =
    let f = pieces_of-begin c q rest h in
    let short : length (c ∷ q) ≤ length (line_in ((c ∷ q) ++ f.0)) + 1 = line_in-length (c ∷ q) f.0 h in
    let long : length (c ∷ q) ≤ length ((c ∷ q) ++ f.0) = omega (arith, length-append (c ∷ q) f.0) in
    record {
      piece = (c ∷ q) ++ f.0;
      pieces = f.1;
      first = ap pieces_of e ∙ f.2;
      big = either MAX_LINE_LEN MAX_INPUT_LEN (length (line_in ((c ∷ q) ++ f.0))) (old.count + length ((c ∷ q) ++ f.0)) (⊎_elim (λ k. inl (omega arith)) (λ k. inr (omega arith)) big);
    }

-- what is left where the source tells it
told : (u o : List ℕ) (left : Option (List ℕ)) → option_map (λ x. u ++ x) left ≡ Some o → (r : List ℕ) × (left ≡ Some r) × (o ≡ u ++ r)
told u o None e = absurd cc
told u o (Some r) e = (r, refl, cc)

at_end : (r : List ℕ) (left : Option (List ℕ)) → left ≡ Some r → IsAtEnd left → r ≡ []
at_end r None e h = absurd cc
at_end r (Some x) e h = let k : x ≡ r = cc in sym k ∙ h

-- a piece that was cut off is given as a line
given : (o piece rest l u : List ℕ) (old new : Feed) (left : Option (List ℕ)) →
    pieces_of o ≡ piece ∷ pieces_of rest → option_map (λ x. u ++ x) left ≡ Some rest → Gives old.count u new piece l →
    GivesLine o old new left l
given o piece rest l u old new left first told g = record {
  piece = piece;
  rest = rest;
  first = first;
  line = g.line;
  fits = g.fits;
  later = ap (λ (u : List ℕ). option_map (λ x. u ++ x) left) g.unread_same ∙ told;
  counted = g.counted;
}

-- what begins a line, with what is kept of it, is a piece
cut : (C R left : List ℕ) (n : ℕ) → has_no_lf C ≡ true → BeginsLine n R →
    pieces_of ((C ++ R) ++ left) ≡ (C ++ take (n + 1) R) ∷ pieces_of (drop (n + 1) R ++ left)
cut C R left n h b =
    let q = C ++ take n R in
    let p : C ++ take (n + 1) R ≡ q ++ 10 ∷ [] = ap (λ (x : List ℕ). C ++ x) b.cut ∙ sym (append_assoc C (take n R) (10 ∷ [])) in
    let r : C ++ R ≡ (C ++ take (n + 1) R) ++ drop (n + 1) R = ap (λ (x : List ℕ). C ++ x) (sym (take-append-drop (n + 1) R)) ∙ sym (append_assoc C (take (n + 1) R) (drop (n + 1) R)) in
    let w : (C ++ R) ++ left ≡ (C ++ take (n + 1) R) ++ (drop (n + 1) R ++ left) = ap (λ (x : List ℕ). x ++ left) r ∙ append_assoc (C ++ take (n + 1) R) (drop (n + 1) R) left in
    ap pieces_of (w ∙ ap (λ (x : List ℕ). x ++ (drop (n + 1) R ++ left)) p)
    ∙ (pieces_of-lf q (drop (n + 1) R ++ left) (has_no_lf-append C (take n R) h b.no_lf)
    ∙ ap (λ (x : List ℕ). x ∷ pieces_of (drop (n + 1) R ++ left)) (sym p))

pub fed-whole : (old new : Feed) (r : NextLine) (C R p u : List ℕ) (n : ℕ) →
    unread old ≡ C ++ R → has_no_lf C ≡ true → BeginsLine n R → p ≡ C ++ take (n + 1) R → u ≡ drop (n + 1) R →
    ((l : List ℕ) → r ≡ Line l → Gives old.count u new p l) →
    (r ≡ Refused → is_too_big old.count p ≡ true) → r ≢ More → r ≢ End →
    Feeds old new r
fed-whole old new (Line l) C R p u n w h b e m g big more end = λ o left t ended.
    let k = told (unread old) o left t in
    let first : pieces_of o ≡ p ∷ pieces_of (u ++ k.0) =
    ap pieces_of (k.2 ∙ ap (λ (x : List ℕ). x ++ k.0) w)
    ∙ (cut C R k.0 n h b ∙ (ap (λ (x : List ℕ). x ∷ pieces_of (drop (n + 1) R ++ k.0)) (sym e) ∙ ap (λ (x : List ℕ). p ∷ pieces_of (x ++ k.0)) (sym m))) in
    given o p (u ++ k.0) l u old new left first (ap (option_map (λ x. u ++ x)) k.1) (g l refl)
fed-whole old new More C R p u n w h b e m g big more end = absurd (more refl)
fed-whole old new End C R p u n w h b e m g big more end = absurd (end refl)
fed-whole old new Refused C R p u n w h b e m g big more end = λ left ended.
    record {
      piece = p;
      pieces = pieces_of (drop (n + 1) R ++ left);
      first = ap (λ (x : List ℕ). pieces_of (x ++ left)) w ∙ (cut C R left n h b ∙ ap (λ (x : List ℕ). x ∷ pieces_of (drop (n + 1) R ++ left)) (sym e));
      big = big refl;
    }
fed-whole old new NoMemory C R p u n w h b e m g big more end = tt

-- what is left at the end is a piece
last : (p : List ℕ) → has_no_lf p ≡ true → 0 < length p → pieces_of p ≡ p ∷ pieces_of []
last [] h n = absurd (omega arith)
last (c ∷ p) h n = pieces_of-last c p h

pub fed-last : (old new : Feed) (r : NextLine) (p u : List ℕ) →
    unread old ≡ p → has_no_lf p ≡ true → 0 < length p → u ≡ [] → old.ended ≡ true →
    ((l : List ℕ) → r ≡ Line l → Gives old.count u new p l) →
    (r ≡ Refused → is_too_big old.count p ≡ true) → r ≢ More → r ≢ End →
    Feeds old new r
fed-last old new (Line l) p u w h some m over g big more end = λ o left t ended.
    let k = told (unread old) o left t in
    let none : k.0 ≡ [] = at_end k.0 left k.1 (ended over) in
    let o-is : o ≡ p = k.2 ∙ (ap (λ (x : List ℕ). unread old ++ x) none ∙ (append-nil (unread old) ∙ w)) in
    let later : option_map (λ x. u ++ x) left ≡ Some [] = ap (option_map (λ x. u ++ x)) k.1 ∙ (ap (λ (x : List ℕ). Some (x ++ k.0)) m ∙ ap Some none) in
    given o p [] l u old new left (ap pieces_of o-is ∙ last p h some) later (g l refl)
fed-last old new More p u w h some m over g big more end = absurd (more refl)
fed-last old new End p u w h some m over g big more end = absurd (end refl)
fed-last old new Refused p u w h some m over g big more end = λ left ended.
    let o-is : unread old ++ left ≡ p = ap (λ (x : List ℕ). unread old ++ x) (ended over) ∙ (append-nil (unread old) ∙ w) in
    record {
      piece = p;
      pieces = pieces_of [];
      first = ap pieces_of o-is ∙ last p h some;
      big = big refl;
    }
fed-last old new NoMemory p u w h some m over g big more end = tt

-- what is in reach has no LF, and may be too much for any line
pub fed-long : (old : Feed) (C R q : List ℕ) (n : ℕ) → unread old ≡ C ++ R → has_no_lf C ≡ true → has_no_lf q ≡ true → q ≡ take n R → length q ≡ n →
    (MAX_LINE_LEN + 1 < length C + n) ⊎ (MAX_INPUT_LEN < old.count + (length C + n)) → (left : List ℕ) → HasTooBig (unread old ++ left) old
fed-long old C R q n w h k e m big left =
    let parts : length (C ++ q) ≡ length C + n = length-append C q ∙ ap (λ (x : ℕ). length C + x) m in
    let r : unread old ++ left ≡ (C ++ q) ++ (drop n R ++ left) =
    ap (λ (x : List ℕ). x ++ left) (w ∙ (ap (λ (x : List ℕ). C ++ x) (sym (take-append-drop n R) ∙ ap (λ (x : List ℕ). x ++ drop n R) (sym e)) ∙ sym (append_assoc C q (drop n R))))
    ∙ append_assoc (C ++ q) (drop n R) left in
    too_big (unread old ++ left) (C ++ q) (drop n R ++ left) old (has_no_lf-append C q h k) r
    (⊎_elim (λ j. omega arith) (λ j. omega (arith, old.in_script)) big)
    (⊎_elim (λ j. inl (omega arith)) (λ j. inr (omega arith)) big)

-- what is kept of all that was read has no LF
pub fed-more : (old new : Feed) → unread old ≡ new.carry.items → IsUsedUp new → new.count ≡ old.count → WantsMore old new
fed-more old new kept used same =
    let u : unread new ≡ new.carry.items = ap (λ (x : List ℕ). new.carry.items ++ x) (none-left new.at new.end new.chunk.items used.0) ∙ append-nil new.carry.items in
    record {
      unread_same = u ∙ sym kept;
      no_lf = ap has_no_lf u ∙ new.one_line;
      count = same;
      used_up = used;
    }

-- a feed with nothing to give
pub rest_of-empty : (u : List ℕ) (left : Option (List ℕ)) → u ≡ [] → option_map (λ o. u ++ o) left ≡ left
rest_of-empty u None e = refl
rest_of-empty u (Some o) e = ap (λ (x : List ℕ). Some (x ++ o)) e
