-- Which journals may be believed.
use Rattle.std.specs.Prelude.{◌≡◌, ℕ, ◌+◌, nat_le, Bool, not, ◌&&◌, List, [], ◌∷◌, length, map, filter, IsTrue, IsPermutation, ⊤}
use Rattle.std.specs.List.{list_all}
use Rattle.bsc_history.specs.declared.entry.Entry.{Entry}
use Rattle.bsc_history.specs.declared.limits.About.{About}
use Rattle.bsc_history.specs.Legality.{Legal}
use Rattle.bsc_text.specs.Lines.{line_in, pieces_of}
use Rattle.bsc_lines.specs.Lines.{entry_line}
use Rattle.bsc_journal.specs.declared.bounds.TheConstants.{MOST_IN_ALL, MOST_IN_LINE}
use Rattle.bsc_journal.specs.Saying.{HasLine, IsHubLine, is_denial}

-- the most octets that all journals may have together, with the ends of lines
abbrev pub most_octets : ℕ
most_octets = MOST_IN_ALL

-- the most octets that a line may have, without its end
abbrev pub most_in_line : ℕ
most_in_line = MOST_IN_LINE

-- The lines of octets, each without its end. They are cut as those of scripts are.
abbrev pub lines_of : List ℕ → List (List ℕ)
lines_of o = map line_in (pieces_of o)

-- whether octets are no more than may be, nor those of a line
abbrev pub is_within : List ℕ → Bool
is_within o = nat_le (length o) most_octets && list_all (λ l. nat_le (length l) most_in_line) (lines_of o)

-- the lines of entries whose places go on from n
abbrev pub lines_from : ℕ → List Entry → List (List ℕ)
lines_from n [] = []
lines_from n (e ∷ H) = entry_line n e ∷ lines_from (n + 1) H

-- each of these entries has a line at its place, where the places go on from n
abbrev pub HaveLines : ℕ → List Entry → Type 0
HaveLines n [] = ⊤
HaveLines n (e ∷ H) = HasLine n e × HaveLines (n + 1) H

-- Octets tell the history H of a hub: their lines, but for what was denied, are one hub line and the line of each entry
-- of H, once and with its place in H, in any order.
pub record Tells (o : List ℕ) (about : About) (H : List Entry) : Type 0 where
  pub hub_line : List ℕ
  pub hub : IsHubLine hub_line about
  pub entries : HaveLines 0 H
  pub lines : IsPermutation (filter (λ l. not (is_denial l)) (lines_of o)) (hub_line ∷ lines_from 0 H)

-- Octets may be believed: they are within the limits, and tell a legal history, of so many entries.
pub record Audited (o : List ℕ) (entries : ℕ) : Type 0 where
  pub within : IsTrue (is_within o)
  pub about : About
  pub history : List Entry
  pub tells : Tells o about history
  pub count : entries ≡ length history
  pub legal : Legal about history
