-- Lemmas that crates above cite too.
-- It serves bsc_audit.
use Rattle.bsc_history.specs.declared.entry.Entry.{Entry}
use Rattle.bsc_journal.specs.Journals.{lines_from}
use Rattle.std.proofs.Common.{◌∷◌, ◌≡◌, ◌+◌, refl, length, [], List, suc, ap, ℕ}

pub length_lines : (n : ℕ) (H : List Entry) → length (lines_from n H) ≡ length H
length_lines n [] = refl
length_lines n (e ∷ H) = ap suc (length_lines (n + 1) H)
