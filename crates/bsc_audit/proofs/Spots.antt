-- Where a line stands within the octets that were read.
-- It serves clauses of most source files here.
use Rattle.std.proofs.Common.{◌≡◌, ℕ, ◌+◌, ◌≤◌, List, [], ◌∷◌, ◌++◌, length, take, drop, map, refl, ap, sym, ◌∙◌, arith, length-drop, length-take}
use Rattle.std.proofs.lemmas.List.{drop-append-le, drop-take, take-append-le, take-take, length-take-le}
use Rattle.bsc_text.specs.Lines.{line_in}
use Rattle.bsc_text.proofs.Reading.{take_line_in}
use Rattle.bsc_journal.specs.declared.journal_record.JournalRecord.{JournalRecord}
use Rattle.bsc_journal.specs.declared.journal_record.JournalRecord.TheVariants.{Hub, Entry as AnEntry, Denial}
use Rattle.bsc_audit.specs.Hearing.{entry_lines, line_at, part, spots_of}

-- a part is as long as its ends are apart
pub length_part : (o : List ℕ) (from to : ℕ) → from ≤ to → to ≤ length o → length (part o from to) + from ≡ to
length_part o from to order within =
    let cut = length-take-le to o within in
    let left = length-drop from (take to o) in
    omega (arith, cut, left, order)

-- a part, as the first octets from its start on
pub part_is : (o : List ℕ) (from n : ℕ) → part o from (from + n) ≡ take n (drop from o)
part_is o from n = drop-take from n o

line_length : (p : List ℕ) → length (line_in p) ≤ length p
line_length p =
    let cut = length-take (length (line_in p)) p in
    let same = ap length (take_line_in p) in
    omega (arith, cut, same)

-- The line of a part stands where the part does, whatever follows.
pub line_stays : (o more : List ℕ) (from to : ℕ) → from ≤ to → to ≤ length o →
    part (o ++ more) from (from + length (line_in (part o from to))) ≡ line_in (part o from to)
line_stays o more from to order within =
    let p = part o from to in
    let n = length (line_in p) in
    let size = length p in
    let long = length_part o from to order within in
    let short = line_length p in
    let here : from ≤ length o = omega (arith, order, within) in
    let left = length-drop from o in
    let reach : n ≤ length (drop from o) = omega (arith, left, short, long, within) in
    let whole : p ≡ take size (drop from o) =
    ap (λ (m : ℕ). part o from m) (let same : to ≡ from + size = omega (arith, long) in same) ∙ part_is o from size in
    part_is (o ++ more) from n
    ∙ ap (λ (x : List ℕ). take n x) (drop-append-le from o more here)
    ∙ take-append-le n (drop from o) more reach
    ∙ sym (take-take n size (drop from o) short)
    ∙ ap (λ (x : List ℕ). take n x) (sym whole)
    ∙ take_line_in p

-- the lines at the spots of what a piece says
pub spots_told : (o more : List ℕ) (from to end : ℕ) (s : JournalRecord) → from ≤ to → to ≤ length o → end ≡ from + length (line_in (part o from to)) →
    map (line_at (o ++ more)) (spots_of from end s) ≡ entry_lines (part o from to ∷ []) (s ∷ [])
spots_told o more from to end (Hub about) order within is = refl
spots_told o more from to end (AnEntry place e) order within is =
    ap (λ (l : List ℕ). l ∷ []) (ap (λ (m : ℕ). part (o ++ more) from m) is ∙ line_stays o more from to order within)
spots_told o more from to end Denial order within is = refl
