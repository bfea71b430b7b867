-- An input that is cut into lines as it comes.
use Rattle.std.specs.Prelude.{◌≡◌, ℕ, true, List, ◌++◌, take}
use Rattle.bsc_text.specs.Lines.{has_no_lf}
use Rattle.bsc_input.specs.declared.bounds.TheConstants.{MOST_KEPT}
use Rattle.bsc_input.specs.Lines.{lines_of}

-- what is kept of the front of a line
unfoldable pub kept_of : List ℕ → List ℕ
kept_of begun = take MOST_KEPT begun

-- These lines were cut, the line that hasn't ended begins with these octets, and this is kept of them: whatever comes behind what was
-- read, the lines of all that are these, and then those of the begun one with what comes.
pub record IsCut (read : List ℕ) (lines : List (List ℕ)) (begun front : List ℕ) : Type 0 where
  pub no_lf : has_no_lf begun ≡ true
  pub kept : front ≡ kept_of begun
  pub cut : (more : List ℕ) → lines_of (read ++ more) ≡ lines ++ lines_of (begun ++ more)
