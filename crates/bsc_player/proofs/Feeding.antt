-- What a feed gives, by the octets that were read and those that are left.
-- It serves the clauses of `play_lines`.
use Rattle.std.proofs.Common.{◌≡◌, ℕ, ◌+◌, Bool, true, false, inl, inr, ⊎_elim, List, [], ◌∷◌, ◌++◌, length, refl, ap, sym, ◌∙◌, append_assoc, append-nil, Some, None}
use Rattle.std.proofs.lemmas.List.{append_cancel_right}
use Rattle.bsc_text.specs.declared.feed.Feed.{Feed}
use Rattle.bsc_text.specs.declared.feed.NextLine.TheVariants.{Line, Refused}
use Rattle.bsc_text.specs.Lines.{pieces_of, line_in, is_too_big, has_no_lf}
use Rattle.bsc_text.specs.Feeding.{unread, Feeds}
use Rattle.bsc_text.proofs.Cutting.{pieces_of-lf}
use Rattle.bsc_player.specs.Playing.{Meaning}
use Rattle.bsc_player.proofs.Cutting.{IsWhole, IsLast, pieces_of-none, first_piece, first_and_rest}
use Rattle.bsc_player.proofs.SoFar.{fits_after}
use Rattle.bsc_player.proofs.Reached.{nothing_in_front}
use Rattle.bsc_player.proofs.Stopping.{RefusesFirst, RefusesNext}

-- a piece with no LF is the last
last_of : (o piece : List ℕ) (pieces : List (List ℕ)) → pieces_of o ≡ piece ∷ pieces → has_no_lf piece ≡ true → IsLast o piece pieces
last_of o piece pieces first no_lf = ⊎_elim
    (λ (w : IsWhole piece). absurd (let bad = sym (ap has_no_lf (append-nil piece)) ∙ w.has_lf [] in cc))
    (λ (l : IsLast o piece pieces). l)
    (first_piece o piece pieces first)

-- a piece with no LF is given only at the end of the input
only_at_end : (old new : Feed) (rest l piece : List ℕ) → Feeds old new (Line l) → pieces_of (unread old ++ rest) ≡ piece ∷ pieces_of (unread new ++ rest) → has_no_lf piece ≡ true
    → (b : Bool) → old.ended ≡ b → old.ended ≡ true
only_at_end old new rest l piece fed first no_lf true e = e
only_at_end old new rest l piece fed first no_lf false e = absurd (
    let last = last_of (unread old ++ rest) piece (pieces_of (unread new ++ rest)) first no_lf in
    let none = nothing_in_front (unread new) rest (pieces_of-none (unread new ++ rest) last.none_after) in
    let front : unread old ≡ piece = sym (append-nil (unread old)) ∙ ap (λ (x : List ℕ). unread old ++ x) (sym none.1) ∙ last.all in
    let g = fed (unread old ++ 10 ∷ []) (Some (10 ∷ [])) refl (λ h. absurd cc) in
    let told : unread new ++ 10 ∷ [] ≡ g.rest = (let k = g.later in cc) in
    let later : g.rest ≡ 10 ∷ [] = sym told ∙ ap (λ (x : List ℕ). x ++ 10 ∷ []) none.0 in
    let two : pieces_of (unread old ++ 10 ∷ []) ≡ g.piece ∷ (10 ∷ []) ∷ [] = g.first ∙ ap (λ (x : List ℕ). g.piece ∷ pieces_of x) later in
    let one : pieces_of (unread old ++ 10 ∷ []) ≡ (piece ++ 10 ∷ []) ∷ [] = ap (λ (x : List ℕ). pieces_of (x ++ 10 ∷ [])) front ∙ ap pieces_of (sym (append-nil (piece ++ 10 ∷ [])))
    ∙ pieces_of-lf piece [] no_lf in
    let bad : g.piece ∷ (10 ∷ []) ∷ [] ≡ (piece ++ 10 ∷ []) ∷ [] = sym two ∙ one in
    cc)

-- A line that a feed gave, where the rest is left.
pub record LineGiven (old new : Feed) (rest l : List ℕ) : Type 0 where
  pub piece : List ℕ
  pub first : pieces_of (unread old ++ rest) ≡ piece ∷ pieces_of (unread new ++ rest)
  pub line : l ≡ line_in piece
  pub fits : is_too_big old.count piece ≡ false
  pub counted : new.count ≡ old.count + length piece
  pub lf : has_no_lf piece ≡ true → old.ended ≡ true

pub line_given : (old new : Feed) (rest l : List ℕ) → (old.ended ≡ true → rest ≡ []) → Feeds old new (Line l) → LineGiven old new rest l
line_given old new rest l at_end fed =
    let g = fed (unread old ++ rest) (Some rest) refl at_end in
    let told : unread new ++ rest ≡ g.rest = (let k = g.later in cc) in
    let first : pieces_of (unread old ++ rest) ≡ g.piece ∷ pieces_of (unread new ++ rest) = g.first ∙ ap (λ (x : List ℕ). g.piece ∷ pieces_of x) (sym told) in
    record {
      piece = g.piece;
      first = first;
      line = g.line;
      fits = g.fits;
      counted = g.counted;
      lf = λ h. only_at_end old new rest l g.piece fed first h old.ended refl;
    }

-- the line that was given is refused, and no other would have been
pub line_refused : {S : Type 0} (means : Meaning S) (old new : Feed) (rest l : List ℕ) (state : S) → LineGiven old new rest l → means.step state l ≡ None
    → RefusesFirst means state old.count (unread old ++ rest) × RefusesNext means state old.count (unread old) rest
line_refused means old new rest l state g none =
    let after = fits_after means state old.count g.piece g.fits ∙ ap (means.step state) (sym g.line) ∙ none in
    let parted : unread old ++ rest ≡ (g.piece ++ unread new) ++ rest = first_and_rest (unread old ++ rest) g.piece (unread new ++ rest) g.first ∙ sym (append_assoc g.piece (unread new) rest) in
    let front : unread old ≡ g.piece ++ unread new = append_cancel_right (unread old) (g.piece ++ unread new) rest parted in (
      record { piece = g.piece; pieces = pieces_of (unread new ++ rest); first = g.first; refused = after },
      ⊎_elim
          (λ (w : IsWhole g.piece). inr (λ more. record {
            piece = g.piece;
            pieces = pieces_of (unread new ++ more);
            first = ap (λ (x : List ℕ). pieces_of (x ++ more)) front ∙ ap pieces_of (append_assoc g.piece (unread new) more) ∙ w.cuts (unread new ++ more);
            refused = after;
          }))
          (λ (l : IsLast (unread old ++ rest) g.piece (pieces_of (unread new ++ rest))). inl (nothing_in_front (unread new) rest (pieces_of-none (unread new ++ rest) l.none_after)).1)
          (first_piece (unread old ++ rest) g.piece (pieces_of (unread new ++ rest)) g.first),
    )

-- a line that is too big is refused, whatever may follow
big_first : {S : Type 0} (means : Meaning S) (old new : Feed) (state : S) (left : List ℕ) → (old.ended ≡ true → left ≡ []) → Feeds old new Refused
    → RefusesFirst means state old.count (unread old ++ left)
big_first means old new state left at_end fed =
    let big = fed left at_end in
    record { piece = big.piece; pieces = big.pieces; first = big.first; refused = rw big.big refl }

big_next : {S : Type 0} (means : Meaning S) (old new : Feed) (state : S) (rest : List ℕ) → (old.ended ≡ true → rest ≡ []) → Feeds old new Refused → (b : Bool) → old.ended ≡ b
    → RefusesNext means state old.count (unread old) rest
big_next means old new state rest at_end fed true e = inl (at_end e)
big_next means old new state rest at_end fed false e = inr (λ more. big_first means old new state more (λ h. absurd cc) fed)

pub big_refused : {S : Type 0} (means : Meaning S) (old new : Feed) (rest : List ℕ) (state : S) → (old.ended ≡ true → rest ≡ []) → Feeds old new Refused
    → RefusesFirst means state old.count (unread old ++ rest) × RefusesNext means state old.count (unread old) rest
big_refused means old new rest state at_end fed = (big_first means old new state rest at_end fed, big_next means old new state rest at_end fed old.ended refl)
