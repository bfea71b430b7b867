-- The text that an input of lines comes to, in any language of lines.
use Rattle.std.specs.Prelude.{ℕ, ◌+◌, Bool, true, false, if◌then◌else◌, List, [], ◌∷◌, ◌++◌, length, Option, Some, None}
use Rattle.bsc_text.specs.Lines.{pieces_of, line_in, is_too_big}

-- What an input comes to: the text that is written, and the number of the first refused line, None where no line is
-- refused.
pub record Played : Type 0 where
  pub text : List ℕ
  pub refused : Option ℕ

-- What a line comes to that is accepted: what stands after it, and the text that is written for it.
pub record LineOutcome (S : Type 0) : Type 0 where
  pub state : S
  pub text : List ℕ

-- What a language of lines means, over what may stand after some lines: what the next line does, None where it is
-- refused, and whether an input may end there.
pub record Meaning (S : Type 0) : Type 0 where
  pub step : S → List ℕ → Option (LineOutcome S)
  pub may_end : S → Bool

-- What a piece does that stands after so many octets. It is refused where its line is, and where it is too big: its
-- line is too long, or it goes past the longest input.
abbrev pub piece_after : {S : Type 0} → Meaning S → S → ℕ → List ℕ → Option (LineOutcome S)
piece_after means s before piece = if is_too_big before piece then None else means.step s (line_in piece)

-- an input that ends: where it may not end, it is refused at the number after its last line
abbrev pub ended_at : Bool → ℕ → Played
ended_at true number = record { text = []; refused = None }
ended_at false number = record { text = []; refused = Some number }

-- What the pieces from the line of this number on come to, which stand after so many octets: the text of each line in
-- order, up to the first refused line.
unfoldable pub play : {S : Type 0} → Meaning S → S → ℕ → ℕ → List (List ℕ) → Played
play means s number before [] = ended_at (means.may_end s) number
play means s number before (piece ∷ pieces) = elim (piece_after means s before piece) [
  | None ↦ record { text = []; refused = Some number }
  | Some t ↦ (
      let rest = play means t.state (number + 1) (before + length piece) pieces in
      record { text = t.text ++ rest.text; refused = rest.refused }
      )
]

-- What a whole input comes to, where this stands at first.
abbrev pub played_of : {S : Type 0} → Meaning S → S → List ℕ → Played
played_of means s o = play means s 1 0 (pieces_of o)
