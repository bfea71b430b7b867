-- What an input comes to, by the lines that were played.
-- It serves the clauses of `play_lines`.
use Rattle.std.proofs.Common.{◌≡◌, ℕ, ◌+◌, Bool, true, false, List, [], ◌∷◌, ◌++◌, length, refl, ap, sym, ◌∙◌, append_assoc, append-nil, length-append, arith, Some, None}
use Rattle.bsc_text.specs.Lines.{line_in, is_too_big}
use Rattle.bsc_player.specs.Playing.{Meaning, Played, LineOutcome, piece_after, ended_at, play}

-- a line that is carried out
pub play_line : {S : Type 0} (means : Meaning S) (s : S) (number before : ℕ) (piece : List ℕ) (pieces : List (List ℕ)) (st : LineOutcome S) → piece_after means s before piece ≡ Some st
    → play means s number before (piece ∷ pieces) ≡ record {
      text = st.text ++ (play means st.state (number + 1) (before + length piece) pieces).text;
      refused = (play means st.state (number + 1) (before + length piece) pieces).refused;
    }
unfolding play
play_line means s number before piece pieces st h = rw (h, play) refl

-- a line that is refused
pub play_refused : {S : Type 0} (means : Meaning S) (s : S) (number before : ℕ) (piece : List ℕ) (pieces : List (List ℕ)) → piece_after means s before piece ≡ None
    → play means s number before (piece ∷ pieces) ≡ record { text = []; refused = Some number }
unfolding play
play_refused means s number before piece pieces h = rw (h, play) refl

-- no line more
pub play_end : {S : Type 0} (means : Meaning S) (s : S) (number before : ℕ) → play means s number before [] ≡ ended_at (means.may_end s) number
unfolding play
play_end means s number before = refl

pub ended_says : (b : Bool) (number : ℕ) → (ended_at b number).text ≡ []
ended_says true number = refl
ended_says false number = refl

pub fits_after : {S : Type 0} (means : Meaning S) (s : S) (before : ℕ) (piece : List ℕ) → is_too_big before piece ≡ false → piece_after means s before piece ≡ means.step s (line_in piece)
fits_after means s before piece h = rw h refl

-- These pieces were played: what an input comes to that begins with them is this text, and then what its other lines
-- come to.
pub record Plays {S : Type 0} (means : Meaning S) (s0 : S) (pieces : List (List ℕ)) (state : S) (number count : ℕ) (text : List ℕ) : Type 0 where
  pub numbered : number ≡ length pieces + 1
  pub says : (more : List (List ℕ)) → (play means s0 1 0 (pieces ++ more)).text ≡ text ++ (play means state number count more).text
  pub refuses : (more : List (List ℕ)) → (play means s0 1 0 (pieces ++ more)).refused ≡ (play means state number count more).refused

pub plays_none : {S : Type 0} (means : Meaning S) (s0 : S) → Plays means s0 [] s0 1 0 []
plays_none means s0 = record { numbered = refl; says = λ more. refl; refuses = λ more. refl }

-- one piece more
pub plays_more : {S : Type 0} (means : Meaning S) (s0 : S) (pieces : List (List ℕ)) (state : S) (number count : ℕ) (text : List ℕ) (piece : List ℕ) (st : LineOutcome S)
    → Plays means s0 pieces state number count text → piece_after means state count piece ≡ Some st
    → Plays means s0 (pieces ++ piece ∷ []) st.state (number + 1) (count + length piece) (text ++ st.text)
plays_more means s0 pieces state number count text piece st p h = record {
  numbered = (let n = p.numbered in let l = length-append pieces (piece ∷ []) in omega arith);
  says = λ more. (
      let turned = play_line means state number count piece more st h in
      ap (λ (x : List (List ℕ)). (play means s0 1 0 x).text) (append_assoc pieces (piece ∷ []) more) ∙ p.says (piece ∷ more) ∙ ap (λ (x : Played). text ++ x.text) turned
      ∙ sym (append_assoc text st.text (play means st.state (number + 1) (count + length piece) more).text));
  refuses = λ more. (
      let turned = play_line means state number count piece more st h in
      ap (λ (x : List (List ℕ)). (play means s0 1 0 x).refused) (append_assoc pieces (piece ∷ []) more) ∙ p.refuses (piece ∷ more) ∙ ap (λ (x : Played). x.refused) turned);
}

-- no line more than these
pub plays_all : {S : Type 0} (means : Meaning S) (s0 : S) (pieces : List (List ℕ)) (state : S) (number count : ℕ) (text : List ℕ) → Plays means s0 pieces state number count text
    → play means s0 1 0 pieces ≡ record { text = text; refused = (ended_at (means.may_end state) number).refused }
plays_all means s0 pieces state number count text p =
    let ends = play_end means state number count in
    let none : pieces ++ [] ≡ pieces = append-nil pieces in
    let says : (play means s0 1 0 pieces).text ≡ text = ap (λ (x : List (List ℕ)). (play means s0 1 0 x).text) (sym none) ∙ p.says [] ∙ ap (λ (x : Played). text ++ x.text) ends
    ∙ ap (λ (x : List ℕ). text ++ x) (ended_says (means.may_end state) number) ∙ append-nil text in
    let refuses : (play means s0 1 0 pieces).refused ≡ (ended_at (means.may_end state) number).refused = ap (λ (x : List (List ℕ)). (play means s0 1 0 x).refused) (sym none) ∙ p.refuses []
    ∙ ap (λ (x : Played). x.refused) ends in
    rw (← says, ← refuses) refl
