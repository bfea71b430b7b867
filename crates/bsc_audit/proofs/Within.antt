-- Good pieces are within the limits.
-- It serves the clauses of `audit_explained` and `judge`.
use Rattle.std.proofs.Common.{◌≡◌, ℕ, ◌+◌, ◌≤◌, Bool, true, nat_le, nat_lt, List, [], ◌∷◌, length, map, refl, arith, length-append}
use Rattle.std.specs.Prelude.{IsTrue}
use Rattle.std.specs.List.{list_all}
use Rattle.std.proofs.lemmas.Bool.{and_from, le-leb, ltb-false, or_parts}
use Rattle.bsc_text.specs.Lines.{line_in, pieces_of}
use Rattle.bsc_journal.specs.declared.journal_record.JournalRecord.{JournalRecord}
use Rattle.bsc_journal.specs.Journals.{is_within, most_in_line, most_octets}
use Rattle.bsc_journal.specs.Good.{SayAll}
use Rattle.bsc_audit.proofs.Snoc.{flat}

-- whether a line is within its limit
abbrev pub is_short_line : List ℕ → Bool
is_short_line l = nat_le (length l) most_in_line

pub lines_within : (before : ℕ) (pieces : List (List ℕ)) (said : List JournalRecord) → SayAll before pieces said → list_all is_short_line (map line_in pieces) ≡ true
lines_within before [] [] all = refl
lines_within before [] (s ∷ said) all = absurd all
lines_within before (p ∷ pieces) [] all = absurd all
lines_within before (p ∷ pieces) (s ∷ said) all =
    let fits = or_parts (nat_lt most_in_line (length (line_in p))) (nat_lt most_octets (before + length p)) all.0.fits in
    and_from (is_short_line (line_in p)) (list_all is_short_line (map line_in pieces)) (le-leb (length (line_in p)) most_in_line (ltb-false most_in_line (length (line_in p)) fits.0))
    (lines_within (before + length p) pieces said all.1)

pub octets_within : (before : ℕ) (pieces : List (List ℕ)) (said : List JournalRecord) → before ≤ most_octets → SayAll before pieces said → before + length (flat pieces) ≤ most_octets
octets_within before [] [] few all = omega (arith, few)
octets_within before [] (s ∷ said) few all = absurd all
octets_within before (p ∷ pieces) [] few all = absurd all
octets_within before (p ∷ pieces) (s ∷ said) few all =
    let fits = or_parts (nat_lt most_in_line (length (line_in p))) (nat_lt most_octets (before + length p)) all.0.fits in
    let next = ltb-false most_octets (before + length p) fits.1 in
    let more = octets_within (before + length p) pieces said next all.1 in
    let long = length-append p (flat pieces) in
    omega (arith, more, long)

pub say_within : (o : List ℕ) (said : List JournalRecord) → SayAll 0 (pieces_of o) said → length (flat (pieces_of o)) ≡ length o → IsTrue (is_within o)
say_within o said all long =
    let few = octets_within 0 (pieces_of o) said (let none : 0 ≤ most_octets = omega arith in none) all in
    and_from (nat_le (length o) most_octets) (list_all is_short_line (map line_in (pieces_of o)))
    (le-leb (length o) most_octets (omega (arith, few, long)))
    (lines_within 0 (pieces_of o) said all)
