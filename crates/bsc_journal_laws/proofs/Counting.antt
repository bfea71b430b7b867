-- There are no more entries than octets in the journals that tell them.
-- It serves the clauses of `command_audits`, `journals_are_there` and `run_audits`.
use Rattle.std.proofs.Common.{◌≡◌, ℕ, suc, ◌+◌, ◌≤◌, List, [], ◌∷◌, ◌++◌, flat_map, length, map, refl, ap, arith, length-append}
use Rattle.std.specs.List.{AllByRecursion}
use Rattle.std.specs.List.Sorted.{IsPermutation}
use Rattle.std.proofs.lemmas.List.Sorted.{length_permutation}
use Rattle.bsc_history.specs.declared.entry.Entry.{Entry}
use Rattle.bsc_lines.specs.Lines.{entry_line}
use Rattle.bsc_session.specs.Notes.Notes.{Note, denied, line_of, lines_of as octets_of, made}
use Rattle.bsc_journal_laws.specs.Laws.{CallersNotes, begun_by, callers_in, files_of, octets_noted, put_together}
use Rattle.bsc_journal_laws.specs.Placing.{own_placed, placed_from, told_by}

-- Each journal tells the own entries of its caller, with their places.
abbrev pub AllTold : List Entry → List CallersNotes → Type 0
AllTold H js = AllByRecursion (λ (j : CallersNotes). told_by j.notes ≡ own_placed H j.caller) js

line_some : (at : ℕ) (e : Entry) → 1 ≤ length (line_of (made at e))
line_some at e = (let long = length-append (entry_line at e) (10 ∷ []) in omega (arith, long))

told_few : (ns : List Note) → length (told_by ns) ≤ length (octets_of ns)
told_few [] = omega arith
told_few (made at e ∷ ns) =
    let one = line_some at e in
    let rest = told_few ns in
    let long = length-append (line_of (made at e)) (octets_of ns) in
    omega (arith, one, rest, long)
told_few (denied d ∷ ns) =
    let rest = told_few ns in
    let long = length-append (line_of (denied d)) (octets_of ns) in
    omega (arith, rest, long)

callers_few : (H : List Entry) (js : List CallersNotes) → AllTold H js → length (flat_map (own_placed H) (callers_in js)) ≤ length (put_together (map octets_noted js))
callers_few H [] told = omega arith
callers_few H (j ∷ js) told =
    let one = told_few j.notes in
    let same : length (told_by j.notes) ≡ length (own_placed H j.caller) = ap length told.0 in
    let rest = callers_few H js told.1 in
    let left = length-append (own_placed H j.caller) (flat_map (own_placed H) (callers_in js)) in
    let right = length-append (octets_noted j) (put_together (map octets_noted js)) in
    omega (arith, one, same, rest, left, right)

placed_long : (k : ℕ) (H : List Entry) → length (placed_from k H) ≡ length H
placed_long k [] = refl
placed_long k (e ∷ H) = ap suc (placed_long (k + 1) H)

-- Of all callers of a hub: its own, whose journal has one line more, and the others.
pub entries_few : (H : List Entry) (l : List ℕ) (n : ℕ) (own : List Note) (js : List CallersNotes) → AllTold H (record { caller = n; notes = own } ∷ js)
    → IsPermutation (flat_map (own_placed H) (n ∷ callers_in js)) (placed_from 0 H) → length H ≤ length (put_together (files_of l own js))
entries_few H l n own js told shared =
    let all = callers_few H (record { caller = n; notes = own } ∷ js) told in
    let same = length_permutation (flat_map (own_placed H) (n ∷ callers_in js)) (placed_from 0 H) shared in
    let long = placed_long 0 H in
    let first = length-append (l ++ 10 ∷ []) (octets_of own) in
    let left = length-append (octets_of own) (put_together (map octets_noted js)) in
    let right = length-append (begun_by l (octets_of own)) (put_together (map octets_noted js)) in
    omega (arith, all, same, long, first, left, right)
