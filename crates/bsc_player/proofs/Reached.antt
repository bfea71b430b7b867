-- What a play has reached: what was read, what was given, and what was written.
-- It serves the clauses of `play_lines`.
use Rattle.std.proofs.Common.{◌≡◌, ℕ, ◌+◌, Bool, true, false, ◌⊎◌, inl, inr, ⊎_elim, List, [], ◌∷◌, ◌++◌, length, refl, ap, sym, ◌∙◌, append_assoc, append-nil, Option, Some, None}
use Rattle.std.specs.Option.{option_map}
use Rattle.std.specs.Io.KnownBytes.{Keeps, IsAtEnd}
use Rattle.bsc_text.specs.Lines.{pieces_of, has_no_lf}
use Rattle.bsc_player.specs.Playing.{LineOutcome, Meaning, piece_after}
use Rattle.bsc_player.specs.Ends.{whole_lines}
use Rattle.bsc_player.specs.Collecting.{HandsOver}
use Rattle.bsc_player.proofs.Cutting.{IsWhole, IsLast, pieces_of-none, first_piece, first_and_rest}
use Rattle.bsc_player.proofs.SoFar.{Plays, plays_none, plays_more}
use Rattle.bsc_lemmas.proofs.Lists.{appends_to as appended}

-- Each line that was given has its LF, so that what follows begins a line.
pub record IsGiven (given : List ℕ) (pieces : List (List ℕ)) : Type 0 where
  pub cuts : (more : List ℕ) → pieces_of (given ++ more) ≡ pieces ++ pieces_of more
  pub whole : (more : List ℕ) → whole_lines (given ++ more) ≡ given ++ whole_lines more

-- A last line was given too, which has no LF: nothing is left.
pub record IsAll (given : List ℕ) (pieces : List (List ℕ)) (unread rest : List ℕ) (ended : Bool) : Type 0 where
  pub cut : pieces_of given ≡ pieces
  pub none_unread : unread ≡ []
  pub none_left : rest ≡ []
  pub at_end : ended ≡ true

-- What a play of the input o has reached, where t was held before it: the octets that were given, those that were
-- read and not given, the text of the lines, of which some first part was written and the rest is collected.
pub record Reached {S : Type 0} (means : Meaning S) (s0 : S) (o t : List ℕ) (left held : Option (List ℕ)) (unread : List ℕ) (ended : Bool) (count number : ℕ) (stands : S → Type 0)
    (collected : List ℕ) : Type 0 where
  pub given : List ℕ
  pub rest : List ℕ
  pub pieces : List (List ℕ)
  pub state : S
  pub text : List ℕ
  pub written : List ℕ
  pub octets : o ≡ given ++ (unread ++ rest)
  pub remains : left ≡ Some rest
  pub at_end : ended ≡ true → rest ≡ []
  pub cut : IsGiven given pieces ⊎ IsAll given pieces unread rest ended
  pub plays : Plays means s0 pieces state number count text
  pub holds : stands state
  pub wrote : held ≡ Some (t ++ written)
  pub parts : text ≡ written ++ collected

-- at first nothing was read
pub begins : {S : Type 0} (means : Meaning S) (s0 : S) (o t : List ℕ) (left held : Option (List ℕ)) (unread : List ℕ) (ended : Bool) (count : ℕ) (stands : S → Type 0) → stands s0
    → left ≡ Some o → held ≡ Some t → unread ≡ [] → ended ≡ false → count ≡ 0 → Reached means s0 o t left held unread ended count 1 stands []
begins means s0 o t left held unread ended count stands holds left_is held_is none going zero = record {
  given = [];
  rest = o;
  pieces = [];
  state = s0;
  text = [];
  written = [];
  octets = rw none refl;
  remains = left_is;
  at_end = λ h. absurd cc;
  cut = inl (record { cuts = λ more. refl; whole = λ more. refl });
  plays = rw zero (plays_none means s0);
  holds = holds;
  wrote = held_is ∙ ap Some (sym (append-nil t));
  parts = refl;
}

-- what was read is given after what was given
given_more : (given piece : List ℕ) (pieces : List (List ℕ)) → IsGiven given pieces → IsWhole piece → IsGiven (given ++ piece) (pieces ++ piece ∷ [])
given_more given piece pieces g w = record {
  cuts = λ more. (ap pieces_of (append_assoc given piece more) ∙ g.cuts (piece ++ more) ∙ ap (λ (x : List (List ℕ)). pieces ++ x) (w.cuts more)
      ∙ sym (append_assoc pieces (piece ∷ []) (pieces_of more)));
  whole = λ more. (ap whole_lines (append_assoc given piece more) ∙ g.whole (piece ++ more) ∙ ap (λ (x : List ℕ). given ++ x) (w.whole more) ∙ sym (append_assoc given piece (whole_lines more)));
}

given_last : (given piece unread rest : List ℕ) (pieces : List (List ℕ)) (ended : Bool) → IsGiven given pieces → pieces_of piece ≡ piece ∷ [] → unread ≡ [] → rest ≡ [] → ended ≡ true
    → IsAll (given ++ piece) (pieces ++ piece ∷ []) unread rest ended
given_last given piece unread rest pieces ended g one none_unread none_left at_end = record {
  cut = g.cuts piece ∙ ap (λ (x : List (List ℕ)). pieces ++ x) one;
  none_unread = none_unread;
  none_left = none_left;
  at_end = at_end;
}

pub nothing_in_front : (a b : List ℕ) → a ++ b ≡ [] → (a ≡ []) × (b ≡ [])
nothing_in_front [] b h = (refl, h)
nothing_in_front (c ∷ a) b h = absurd cc

-- where a line is still to be given, each line before it has its LF
pub given_before : (given : List ℕ) (pieces : List (List ℕ)) (unread rest piece : List ℕ) (ended : Bool) (after : List (List ℕ)) → pieces_of (unread ++ rest) ≡ piece ∷ after
    → IsGiven given pieces ⊎ IsAll given pieces unread rest ended → IsGiven given pieces
given_before given pieces unread rest piece ended after first cut = ⊎_elim
    (λ (g : IsGiven given pieces). g)
    (λ (a : IsAll given pieces unread rest ended).
    let none : unread ++ rest ≡ [] = rw (a.none_unread, a.none_left) refl in
    let bad = rw none at first in
    absurd cc)
    cut

-- where the input goes on, each line has its LF
pub given_going : (given : List ℕ) (pieces : List (List ℕ)) (unread rest : List ℕ) (ended : Bool) → ended ≡ false → IsGiven given pieces ⊎ IsAll given pieces unread rest ended → IsGiven given pieces
given_going given pieces unread rest ended going cut = ⊎_elim
    (λ (g : IsGiven given pieces). g)
    (λ (a : IsAll given pieces unread rest ended). absurd (let bad = a.at_end in cc))
    cut

-- the lines that were given, with the next one
cut_more : (given : List ℕ) (pieces : List (List ℕ)) (unread unread' rest piece : List ℕ) (ended : Bool) → IsGiven given pieces
    → pieces_of (unread ++ rest) ≡ piece ∷ pieces_of (unread' ++ rest) → (has_no_lf piece ≡ true → ended ≡ true) → IsGiven (given ++ piece) (pieces ++ piece ∷ [])
    ⊎ IsAll (given ++ piece) (pieces ++ piece ∷ []) unread' rest ended
cut_more given pieces unread unread' rest piece ended g first lf = ⊎_elim
    (λ (w : IsWhole piece). inl (given_more given piece pieces g w))
    (λ (l : IsLast (unread ++ rest) piece (pieces_of (unread' ++ rest))).
    let none = nothing_in_front unread' rest (pieces_of-none (unread' ++ rest) l.none_after) in
    let one : pieces_of piece ≡ piece ∷ [] = ap pieces_of (sym l.all) ∙ first ∙ ap (λ (x : List (List ℕ)). piece ∷ x) l.none_after in
    inr (given_last given piece unread' rest pieces ended g one none.0 none.1 (lf l.no_lf)))
    (first_piece (unread ++ rest) piece (pieces_of (unread' ++ rest)) first)

-- a line was given, and carried out
next_line : {S : Type 0} (means : Meaning S) (s0 : S) (o t : List ℕ) (left held : Option (List ℕ)) (unread unread' : List ℕ) (ended : Bool) (count number : ℕ) (stands stands' : S → Type 0)
    (collected collected' piece : List ℕ) (st : LineOutcome S) (r : Reached means s0 o t left held unread ended count number stands collected)
    → pieces_of (unread ++ r.rest) ≡ piece ∷ pieces_of (unread' ++ r.rest)
    → (has_no_lf piece ≡ true → ended ≡ true)
    → piece_after means r.state count piece ≡ Some st
    → stands' st.state
    → collected' ≡ collected ++ st.text
    → Reached means s0 o t left held unread' ended (count + length piece) (number + 1) stands' collected'
next_line means s0 o t left held unread unread' ended count number stands stands' collected collected' piece st r first lf after holds grown =
    let parted = first_and_rest (unread ++ r.rest) piece (unread' ++ r.rest) first in
    record {
      given = r.given ++ piece;
      rest = r.rest;
      pieces = r.pieces ++ piece ∷ [];
      state = st.state;
      text = r.text ++ st.text;
      written = r.written;
      octets = r.octets ∙ ap (λ (x : List ℕ). r.given ++ x) parted ∙ sym (append_assoc r.given piece (unread' ++ r.rest));
      remains = r.remains;
      at_end = r.at_end;
      cut = cut_more r.given r.pieces unread unread' r.rest piece ended (given_before r.given r.pieces unread r.rest piece ended (pieces_of (unread' ++ r.rest)) first r.cut) first lf;
      plays = plays_more means s0 r.pieces r.state number count r.text piece st r.plays after;
      holds = holds;
      wrote = r.wrote;
      parts = ap (λ (x : List ℕ). x ++ st.text) r.parts ∙ append_assoc r.written collected st.text ∙ ap (λ (x : List ℕ). r.written ++ x) (sym grown);
    }

pub plays_line : {S : Type 0} (means : Meaning S) (s0 : S) (o t : List ℕ) (left held : Option (List ℕ)) (unread unread' : List ℕ) (ended ended' : Bool) (count count' number : ℕ)
    (stands stands' : S → Type 0) (collected collected' piece : List ℕ) (st : LineOutcome S) (r : Reached means s0 o t left held unread ended count number stands collected)
    → pieces_of (unread ++ r.rest) ≡ piece ∷ pieces_of (unread' ++ r.rest)
    → (has_no_lf piece ≡ true → ended ≡ true)
    → piece_after means r.state count piece ≡ Some st
    → stands' st.state
    → collected' ≡ collected ++ st.text
    → ended' ≡ ended
    → count' ≡ count + length piece
    → Reached means s0 o t left held unread' ended' count' (number + 1) stands' collected'
plays_line means s0 o t left held unread unread' ended ended' count count' number stands stands' collected collected' piece st r first lf after holds grown same counted =
    rw (same, counted) (next_line means s0 o t left held unread unread' ended count number stands stands' collected collected' piece st r first lf after holds grown)

-- some of the collected text was written
pub hands_over : {S : Type 0} (means : Meaning S) (s0 : S) (o t : List ℕ) (left held held' : Option (List ℕ)) (unread : List ℕ) (ended : Bool) (count number : ℕ) (stands : S → Type 0)
    (collected collected' : List ℕ)
    → Reached means s0 o t left held unread ended count number stands collected
    → HandsOver held held' collected collected'
    → Reached means s0 o t left held' unread ended count number stands collected'
hands_over means s0 o t left held held' unread ended count number stands collected collected' r over = record {
  given = r.given;
  rest = r.rest;
  pieces = r.pieces;
  state = r.state;
  text = r.text;
  written = r.written ++ over.part;
  octets = r.octets;
  remains = r.remains;
  at_end = r.at_end;
  cut = r.cut;
  plays = r.plays;
  holds = r.holds;
  wrote = appended held held' (t ++ r.written) over.part r.wrote over.put ∙ ap Some (append_assoc t r.written over.part);
  parts = r.parts ∙ ap (λ (x : List ℕ). r.written ++ x) over.kept ∙ sym (append_assoc r.written over.part collected');
}

-- what is left where what is not given is kept
keeps_told : (unread unread' rest : List ℕ) (left left' : Option (List ℕ)) → left ≡ Some rest → Keeps (option_map (λ o. unread ++ o) left) (option_map (λ o. unread' ++ o) left')
    → (rest' : List ℕ) × (left' ≡ Some rest') × (unread' ++ rest' ≡ unread ++ rest)
keeps_told unread unread' rest None left' same h = absurd cc
keeps_told unread unread' rest (Some x) None same h = absurd h
keeps_told unread unread' rest (Some x) (Some y) same h = let is : x ≡ rest = cc in (y, refl, h ∙ ap (λ (w : List ℕ). unread ++ w) is)

at_end_none : (left : Option (List ℕ)) (rest : List ℕ) → left ≡ Some rest → IsAtEnd left → rest ≡ []
at_end_none None rest same h = absurd cc
at_end_none (Some x) rest same h = let is : x ≡ rest = cc in sym is ∙ h

-- a read was tried, which keeps what is not given
pub reads_on : {S : Type 0} (means : Meaning S) (s0 : S) (o t : List ℕ) (left left' held : Option (List ℕ)) (unread unread' : List ℕ) (ended ended' : Bool) (count count' number : ℕ)
    (stands : S → Type 0) (collected : List ℕ)
    → Reached means s0 o t left held unread ended count number stands collected
    → ended ≡ false
    → Keeps (option_map (λ o. unread ++ o) left) (option_map (λ o. unread' ++ o) left')
    → (ended' ≡ true → IsAtEnd left')
    → count' ≡ count
    → Reached means s0 o t left' held unread' ended' count' number stands collected
reads_on means s0 o t left left' held unread unread' ended ended' count count' number stands collected r going kept at_end same =
    let k = keeps_told unread unread' r.rest left left' r.remains kept in
    record {
      given = r.given;
      rest = k.0;
      pieces = r.pieces;
      state = r.state;
      text = r.text;
      written = r.written;
      octets = r.octets ∙ ap (λ (x : List ℕ). r.given ++ x) (sym k.2);
      remains = k.1;
      at_end = λ h. at_end_none left' k.0 k.1 (at_end h);
      cut = inl (given_going r.given r.pieces unread r.rest ended going r.cut);
      plays = rw same r.plays;
      holds = r.holds;
      wrote = r.wrote;
      parts = r.parts;
    }
