-- The lines of journals that are told, by their numbers.
use Rattle.std.specs.Prelude.{◌≡◌, ℕ, ◌+◌, ◌==◌, Bool, false, if◌then◌else◌, List, [], ◌∷◌, codes, Option, Some, None}
use Rattle.bsc_text.specs.Grammar.{number_of}
use Rattle.bsc_text.specs.Lines.{same_octets}
use Rattle.bsc_text.specs.Words.{words_of}
use Rattle.bsc_journal.specs.Journals.{lines_of}
use Rattle.bsc_audit_diagnostics.specs.declared.sought.Sought.{Sought}
use Rattle.bsc_audit_diagnostics.specs.declared.sought.Sought.TheVariants.{Hub, Place}

-- whether a number, if there is one, is p
abbrev pub is_number : ℕ → Option ℕ → Bool
is_number p None = false
is_number p (Some n) = n == p

-- whether words begin as those of a line that is sought: with `hub`, or with the place of the entry
abbrev pub begins : Sought → List (List ℕ) → Bool
begins s [] = false
begins Hub (w ∷ ws) = same_octets w (codes "hub")
begins (Place p) (w ∷ ws) = is_number p (number_of w)

abbrev pub is_sought : Sought → List ℕ → Bool
is_sought s l = begins s (words_of l)

-- the numbers of those of some lines that are sought, where the first has number n
abbrev pub numbers_from : Sought → ℕ → List (List ℕ) → List ℕ
numbers_from s n [] = []
numbers_from s n (l ∷ ls) = if is_sought s l then n ∷ numbers_from s (n + 1) ls else numbers_from s (n + 1) ls

-- The numbers of the lines of octets that are sought, in order. The first line has number 1.
abbrev pub numbers_in : Sought → List ℕ → List ℕ
numbers_in s o = numbers_from s 1 (lines_of o)

-- Line n is the first that is sought.
abbrev pub IsFirst : Sought → List ℕ → ℕ → Type 0
IsFirst s o n = (more : List ℕ) × (numbers_in s o ≡ n ∷ more)

-- Lines m and n are the first two that are sought.
abbrev pub AreFirst : Sought → List ℕ → ℕ → ℕ → Type 0
AreFirst s o m n = (more : List ℕ) × (numbers_in s o ≡ m ∷ n ∷ more)
