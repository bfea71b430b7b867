-- What was read of a line is what it is of, if it is of anything.
use Rattle.std.proofs.Common.{◌≡◌, ℕ, nat_eq, true, false, List, [], ◌∷◌, map, Option, Some, None, refl, ap, sym, subst, ◌∙◌}
use Rattle.std.specs.Cmp.Lexicographic.{pointwise}
use Rattle.std.proofs.lemmas.Bool.{and_from, both_ways, eq-eqb}
use Rattle.bsc_history.specs.declared.entry.Entry.{Entry}
use Rattle.bsc_text.specs.Words.{words_of}
use Rattle.bsc_lines.specs.Lines.{entry_line}
use Rattle.bsc_journal.specs.Reading.{entry_in, loosened, read_of}
use Rattle.bsc_journal.specs.Saying.{HasLine, IsLineOf}
use Rattle.bsc_journal.proofs.ReadBack.{read_is}

-- a line is of what was read, where something was
abbrev IsLineOfRead : List ℕ → Option (ℕ × Entry) → Type 0
IsLineOfRead line None = ⊥
IsLineOfRead line (Some x) = IsLineOf line x.0 x.1

-- a line of which nothing was read is of no entry
pub nothing_read : (line : List ℕ) → read_of line ≡ None → (place : ℕ) (e : Entry) → IsLineOf line place e → ⊥
nothing_read line none place e is = subst (IsLineOfRead line) (sym (read_is line place e is) ∙ none) is

-- a line of an entry is of the one that was read
pub is_of_read : (line : List ℕ) (place : ℕ) (entry : Entry) → read_of line ≡ Some (place, entry) →
    (p : ℕ) (e : Entry) → IsLineOf line p e → IsLineOf line place entry
is_of_read line place entry found p e is = subst (IsLineOfRead line) (sym (read_is line p e is) ∙ found) is

-- ---- the same, by the words that were read

pub nothing_loose : (line loose : List ℕ) → loose ≡ map loosened line → entry_in (words_of loose) ≡ None → (place : ℕ) (e : Entry) → IsLineOf line place e → ⊥
unfolding read_of
nothing_loose line loose is none = nothing_read line (ap (λ (o : List ℕ). entry_in (words_of o)) (sym is) ∙ none)

is_of_loose : (line loose : List ℕ) (place : ℕ) (entry : Entry) → loose ≡ map loosened line → entry_in (words_of loose) ≡ Some (place, entry) →
    (p : ℕ) (e : Entry) → IsLineOf line p e → IsLineOf line place entry
unfolding read_of
is_of_loose line loose place entry is found = is_of_read line place entry (ap (λ (o : List ℕ). entry_in (words_of o)) (sym is) ∙ found)

-- what was read has no line
pub no_line : (line loose : List ℕ) (place : ℕ) (entry : Entry) → loose ≡ map loosened line → entry_in (words_of loose) ≡ Some (place, entry) →
    (HasLine place entry → ⊥) → (p : ℕ) (e : Entry) → IsLineOf line p e → ⊥
no_line line loose place entry is found lineless p e of = lineless (is_of_loose line loose place entry is found p e of).has

same_itself : (o : List ℕ) → pointwise nat_eq o o ≡ true
same_itself [] = refl
same_itself (c ∷ o) = and_from _ _ (eq-eqb c c refl) (same_itself o)

-- what was read is written in another way
pub other_line : (line loose : List ℕ) (place : ℕ) (entry : Entry) (written : List ℕ) → loose ≡ map loosened line → entry_in (words_of loose) ≡ Some (place, entry) →
    written ≡ entry_line place entry → pointwise nat_eq written line ≡ false → (p : ℕ) (e : Entry) → IsLineOf line p e → ⊥
other_line line loose place entry written is found as_written differ p e of =
    let same : line ≡ written = (is_of_loose line loose place entry is found p e of).line ∙ sym as_written in
    both_ways (pointwise nat_eq written line) differ (ap (λ (o : List ℕ). pointwise nat_eq written o) same ∙ same_itself written)
