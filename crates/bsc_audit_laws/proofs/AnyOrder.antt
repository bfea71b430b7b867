-- Journals in another order.
-- It serves the clauses of `any_order`.
use Rattle.std.proofs.Common.{◌≡◌, ℕ, ◌<◌, ◌==◌, Bool, true, false, cond, nat_le, List, [], ◌∷◌, ◌++◌, length, filter, map, refl, ap, sym, ◌∙◌, subst, arith, length-append}
use Rattle.std.specs.List.{list_all}
use Rattle.std.specs.List.Sorted.{IsPermutation}
use Rattle.std.proofs.lemmas.Bool.{and_from, and_parts}
use Rattle.std.proofs.lemmas.List.{map-append}
use Rattle.std.proofs.lemmas.List.Elements.{filter-append}
use Rattle.std.proofs.lemmas.List.Sorted.{IsPermutation-append_comm, IsPermutation-trans}
use Rattle.bsc_text.specs.Lines.{in_front, line_in, pieces_of}
use Rattle.bsc_journal.specs.Journals.{Audited, is_within, lines_from, lines_of, most_octets}
use Rattle.bsc_audit.proofs.SortedOut.{is_kept}
use Rattle.bsc_audit.proofs.Within.{is_short_line}
use Rattle.bsc_audit_laws.specs.Laws.{EndsWithLine}

-- ---- pieces

some_pieces : (b : Bool) (c : ℕ) (ps : List (List ℕ)) → 0 < length (cond b ((c ∷ []) ∷ ps) (in_front c ps))
some_pieces true c ps = omega arith
some_pieces false c [] = omega arith
some_pieces false c (p ∷ ps) = omega arith

in_front_append : (c : ℕ) (ps qs : List (List ℕ)) → 0 < length ps → in_front c (ps ++ qs) ≡ in_front c ps ++ qs
in_front_append c [] qs some = let no : ⊥ = omega (arith, some) in absurd no
in_front_append c (p ∷ ps) qs some = refl

one_more : (b : Bool) (c : ℕ) (all ps qs : List (List ℕ)) → all ≡ ps ++ qs → 0 < length ps →
    cond b ((c ∷ []) ∷ all) (in_front c all) ≡ cond b ((c ∷ []) ∷ ps) (in_front c ps) ++ qs
one_more true c all ps qs e some = ap (λ (l : List (List ℕ)). (c ∷ []) ∷ l) e
one_more false c all ps qs e some = ap (in_front c) e ∙ in_front_append c ps qs some

last_more : (b : Bool) (c : ℕ) (qs : List (List ℕ)) → b ≡ true → cond b ((c ∷ []) ∷ qs) (in_front c qs) ≡ cond b ((c ∷ []) ∷ []) (in_front c []) ++ qs
last_more true c qs e = refl
last_more false c qs e = absurd cc

pub pieces_append : (a b : List ℕ) → EndsWithLine a → pieces_of (a ++ b) ≡ pieces_of a ++ pieces_of b
pieces_append [] b h = refl
pieces_append (c ∷ []) b h = last_more (c == 10) c (pieces_of b) h
pieces_append (c ∷ d ∷ a) b h =
    one_more (c == 10) c (pieces_of ((d ∷ a) ++ b)) (pieces_of (d ∷ a)) (pieces_of b) (pieces_append (d ∷ a) b h) (some_pieces (d == 10) d (pieces_of a))

lines_append : (a b : List ℕ) → EndsWithLine a → lines_of (a ++ b) ≡ lines_of a ++ lines_of b
lines_append a b h = ap (map line_in) (pieces_append a b h) ∙ map-append line_in (pieces_of a) (pieces_of b)

-- ---- limits

all_append : (xs ys : List (List ℕ)) → list_all is_short_line xs ≡ true → list_all is_short_line ys ≡ true → list_all is_short_line (xs ++ ys) ≡ true
all_append [] ys h k = k
all_append (x ∷ xs) ys h k =
    let parts = and_parts (is_short_line x) (list_all is_short_line xs) h in
    and_from (is_short_line x) (list_all is_short_line (xs ++ ys)) parts.0 (all_append xs ys parts.1 k)

all_parts : (xs ys : List (List ℕ)) → list_all is_short_line (xs ++ ys) ≡ true → (list_all is_short_line xs ≡ true) × (list_all is_short_line ys ≡ true)
all_parts [] ys h = (refl, h)
all_parts (x ∷ xs) ys h =
    let parts = and_parts (is_short_line x) (list_all is_short_line (xs ++ ys)) h in
    let more = all_parts xs ys parts.1 in
    (and_from (is_short_line x) (list_all is_short_line xs) parts.0 more.0, more.1)

within_turned : (a b : List ℕ) → EndsWithLine a → EndsWithLine b → is_within (a ++ b) ≡ true → is_within (b ++ a) ≡ true
within_turned a b ea eb h =
    let parts = and_parts (nat_le (length (a ++ b)) most_octets) (list_all is_short_line (lines_of (a ++ b))) h in
    let size : length (a ++ b) ≡ length (b ++ a) = (let one = length-append a b in let other = length-append b a in omega (arith, one, other)) in
    let short = all_parts (lines_of a) (lines_of b) (ap (list_all is_short_line) (sym (lines_append a b ea)) ∙ parts.1) in
    and_from (nat_le (length (b ++ a)) most_octets) (list_all is_short_line (lines_of (b ++ a)))
    (ap (λ (n : ℕ). nat_le n most_octets) (sym size) ∙ parts.0)
    (ap (list_all is_short_line) (lines_append b a eb) ∙ all_append (lines_of b) (lines_of a) short.1 short.0)

-- ---- lines in another order

kept_append : (a b : List ℕ) → EndsWithLine a → filter is_kept (lines_of (a ++ b)) ≡ filter is_kept (lines_of a) ++ filter is_kept (lines_of b)
kept_append a b ea = ap (filter is_kept) (lines_append a b ea) ∙ filter-append is_kept (lines_of a) (lines_of b)

kept_turned : (a b : List ℕ) → EndsWithLine a → EndsWithLine b → IsPermutation (filter is_kept (lines_of (b ++ a))) (filter is_kept (lines_of (a ++ b)))
kept_turned a b ea eb =
    let x = filter is_kept (lines_of a) in
    let y = filter is_kept (lines_of b) in
    subst (λ (l : List (List ℕ)). IsPermutation l (filter is_kept (lines_of (a ++ b)))) (sym (kept_append b a eb))
    (subst (λ (l : List (List ℕ)). IsPermutation (y ++ x) l) (sym (kept_append a b ea)) (IsPermutation-append_comm y x))

pub any_order : (a b : List ℕ) (n : ℕ) → EndsWithLine a → EndsWithLine b → Audited (a ++ b) n → Audited (b ++ a) n
any_order a b n ea eb audited =
    let t = audited.tells in
    record {
      within = within_turned a b ea eb audited.within;
      about = audited.about;
      history = audited.history;
      tells = record {
        hub_line = t.hub_line;
        hub = t.hub;
        entries = t.entries;
        lines = IsPermutation-trans (filter is_kept (lines_of (b ++ a))) (filter is_kept (lines_of (a ++ b))) (t.hub_line ∷ lines_from 0 audited.history) (kept_turned a b ea eb) t.lines;
      };
      count = audited.count;
      legal = audited.legal;
    }
