-- Rows that change: all of them, or the one of a number.
-- It serves clauses of functions of `changing` and `following`.
use Rattle.std.proofs.Common.{◌≡◌, ℕ, zero, suc, ◌+◌, ◌^◌, ◌<◌, ◌==◌, nat_lt, Bool, true, false, not, ◌&&◌, ◌||◌, cond, List, [], ◌∷◌, length, map, filter, get_or, take, Option}
use Rattle.std.proofs.Common.{Some, None, refl, ap, sym, ◌∙◌, subst, arith}
use Rattle.std.proofs.Math.ListN.{set}
use Rattle.std.specs.List.{list_all, position, AllByRecursion}
use Rattle.std.specs.Option.{option_map, option_or}
use Rattle.std.proofs.lemmas.Bool.{and_from, and_parts, eq-eqb, eqb-true, ne_eqb, ltb-true, lt-ltb}
use Rattle.std.proofs.lemmas.List.{get_or_default, take_more}
use Rattle.std.proofs.lemmas.List.Folds.{list_any-append}
use Rattle.std.proofs.lemmas.List.Quantifiers.{position-Some}
use Rattle.std.proofs.lemmas.List.Sums.{fold_more}
use Rattle.bsc_history.specs.declared.call.Call.{Call}
use Rattle.bsc_history.specs.declared.call.Call.TheVariants.{Connect, Forward, Leave, Stop, Count}
use Rattle.bsc_history.specs.declared.connection.Connection.{Connection}
use Rattle.bsc_history.specs.declared.ending.End.{End}
use Rattle.bsc_history.specs.declared.entry.Entry.{Entry}
use Rattle.bsc_history.specs.declared.looks.Look.{Look}
use Rattle.bsc_history.specs.declared.reply.Reply.{Reply}
use Rattle.bsc_history.specs.declared.reply.Reply.TheVariants.{Joined, Refused, Appended, Closed, Skipped, NoHolder, SentAll, NotCurrent, Stopped, Gone, Counted}
use Rattle.bsc_history.specs.Counting.{one_if}
use Rattle.bsc_history.specs.Ends.{end_by_call, end_by_reply, is_leave}
use Rattle.bsc_history.specs.Laws.{is_among}
use Rattle.bsc_history.specs.Outboxes.{newer}
use Rattle.bsc_legality.specs.declared.row.Row.{Row}
use Rattle.bsc_legality.specs.Following.{added_to, closed_as, given, once, row_after, seen}
use Rattle.bsc_legality.specs.Rows.{has_number, rising}
use Rattle.bsc_legality.proofs.Numbers.{others, rising_parts}
use Rattle.bsc_history.proofs.Common.{one_at_most as one_most}
use Rattle.bsc_lemmas.proofs.Lists.{position-cons}

-- a row of these parts
abbrev pub row_with : Connection → Option End → ℕ → ℕ → Row
row_with x ending entered looked = record { connection = x; ending = ending; entered = entered; looked = looked }

-- ---- all rows

pub map_same : (f : Row → Row) (rows : List Row) → AllByRecursion (λ r. f r ≡ r) rows → rows ≡ map f rows
map_same f [] all = refl
map_same f (r ∷ rows) all = ap (λ (x : Row). x ∷ rows) (sym all.0) ∙ ap (λ (l : List Row). f r ∷ l) (map_same f rows all.1)

pub map_each : (f : Row → Row) (rows : List Row) → ((r : Row) → f r ≡ r) → rows ≡ map f rows
map_each f [] each = refl
map_each f (r ∷ rows) each = ap (λ (x : Row). x ∷ rows) (sym (each r)) ∙ ap (λ (l : List Row). f r ∷ l) (map_each f rows each)

-- two changes, one after the other, that are a third one
pub map_then : (f g h : Row → Row) (rows : List Row) → ((r : Row) → g (f r) ≡ h r) → map g (map f rows) ≡ map h rows
map_then f g h [] same = refl
map_then f g h (r ∷ rows) same = ap (λ (x : Row). x ∷ map g (map f rows)) (same r) ∙ ap (λ (l : List Row). h r ∷ l) (map_then f g h rows same)

-- a change that leaves numbers alone leaves their order alone

all-map : (n : ℕ) (f : Row → Row) (rows : List Row) → ((r : Row) → (f r).connection.number ≡ r.connection.number)
    → list_all (λ s. nat_lt n s.connection.number) (map f rows) ≡ list_all (λ s. nat_lt n s.connection.number) rows
all-map n f [] same = refl
all-map n f (r ∷ rows) same =
    ap (λ (k : ℕ). nat_lt n k && list_all (λ s. nat_lt n s.connection.number) (map f rows)) (same r)
    ∙ ap (λ (b : Bool). nat_lt n r.connection.number && b) (all-map n f rows same)

pub rising-map : (f : Row → Row) (rows : List Row) → ((r : Row) → (f r).connection.number ≡ r.connection.number) → rising (map f rows) ≡ rising rows
rising-map f [] same = refl
rising-map f (r ∷ rows) same =
    ap (λ (k : ℕ). list_all (λ s. nat_lt k s.connection.number) (map f rows) && rising (map f rows)) (same r)
    ∙ ap (λ (b : Bool). b && rising (map f rows)) (all-map r.connection.number f rows same)
    ∙ ap (λ (b : Bool). list_all (λ s. nat_lt r.connection.number s.connection.number) rows && b) (rising-map f rows same)

-- a change that leaves a test of each row alone leaves it alone of all
pub all_same : (p : Row → Bool) (f : Row → Row) (rows : List Row) → ((r : Row) → p (f r) ≡ p r) → list_all p (map f rows) ≡ list_all p rows
all_same p f [] same = refl
all_same p f (r ∷ rows) same =
    ap (λ (b : Bool). b && list_all p (map f rows)) (same r)
    ∙ ap (λ (b : Bool). p r && b) (all_same p f rows same)

-- by one frame more no row has many
pub few_added : (to : List ℕ) (rows : List Row) → list_all (λ r. nat_lt r.entered (2 ^ 52)) rows ≡ true → list_all (λ r. nat_lt r.entered (2 ^ 53)) (map (added_to to) rows) ≡ true
few_added to [] h = refl
few_added to (r ∷ rows) h =
    let two = and_parts (nat_lt r.entered (2 ^ 52)) (list_all (λ r. nat_lt r.entered (2 ^ 52)) rows) h in
    let low = ltb-true r.entered (2 ^ 52) two.0 in
    let one = one_most (is_among r.connection.number to) in
    and_from _ _ (lt-ltb (added_to to r).entered (2 ^ 53) (omega (arith, low, one))) (few_added to rows two.1)

pub few_more : (rows : List Row) → list_all (λ r. nat_lt r.entered (2 ^ 52)) rows ≡ true → list_all (λ r. nat_lt r.entered (2 ^ 53)) rows ≡ true
few_more [] h = refl
few_more (r ∷ rows) h =
    let two = and_parts (nat_lt r.entered (2 ^ 52)) (list_all (λ r. nat_lt r.entered (2 ^ 52)) rows) h in
    let low = ltb-true r.entered (2 ^ 52) two.0 in
    and_from _ _ (lt-ltb r.entered (2 ^ 53) (omega (arith, low))) (few_more rows two.1)

-- ---- the row of a number

stays : (f : Row → Row) (c : ℕ) (rows : List Row) → ((x : Row) → has_number c x ≡ false → f x ≡ x) → AllByRecursion (λ s. has_number c s ≡ false) rows → AllByRecursion (λ r. f r ≡ r) rows
stays f c [] still all = tt
stays f c (r ∷ rows) still all = (still r all.0, stays f c rows still all.1)

put : (f : Row → Row) (c : ℕ) (rows : List Row) (i : ℕ) (d s : Row) → ((x : Row) → has_number c x ≡ false → f x ≡ x) → rising rows ≡ true → i < length rows
    → has_number c (get_or rows i d) ≡ true → ((k : ℕ) → k < i → has_number c (get_or rows k d) ≡ false) → s ≡ f (get_or rows i d) → set rows i s ≡ map f rows
put f c [] i d s still rise within here before is = absurd (omega arith)
put f c (r ∷ rows) zero d s still rise within here before is =
    ap (λ (x : Row). x ∷ rows) is
    ∙ ap (λ (l : List Row). f r ∷ l) (map_same f rows (stays f c rows still (others c r rows (eqb-true r.connection.number c here) (rising_parts r rows rise).0)))
put f c (r ∷ rows) (suc i) d s still rise within here before is =
    ap (λ (x : Row). x ∷ set rows i s) (sym (still r (before 0 (omega arith))))
    ∙ ap (λ (l : List Row). f r ∷ l) (put f c rows i d s still (rising_parts r rows rise).1 (omega arith) here (λ k h. before (suc k) (omega arith)) is)

-- a change of the row of c alone, where it is put at its place
pub placed : (f : Row → Row) (c : ℕ) (rows : List Row) (i : ℕ) (r s : Row) → ((x : Row) → has_number c x ≡ false → f x ≡ x) → rising rows ≡ true → position (has_number c) rows ≡ Some i
    → r ≡ get_or rows i r → (has_number c r ≡ true → s ≡ f r) → set rows i s ≡ map f rows
placed f c rows i r s still rise place at is =
    let q = position-Some (has_number c) rows i r place in
    put f c rows i r s still rise q.0 q.1 q.2 (is (ap (has_number c) at ∙ q.1) ∙ ap f at)

none_has : (c : ℕ) (rows : List Row) → position (has_number c) rows ≡ None → AllByRecursion (λ s. has_number c s ≡ false) rows
none_has c [] none = tt
none_has c (r ∷ rows) none =
    let G = λ (b : Bool). cond b (Some 0) (option_map (λ i. 1 + i) (position (has_number c) rows)) ≡ None → (b ≡ false) × (position (has_number c) rows ≡ None) in
    let later : (o : Option ℕ) → option_map (λ i. 1 + i) o ≡ None → o ≡ None = λ o. elim o as (λ o. option_map (λ i. 1 + i) o ≡ None → o ≡ None) [ None ↦ λ e. refl | Some i ↦ λ e. cc ] in
    let by : (b : Bool) → G b = λ b. elim b as G [ true ↦ λ e. cc | false ↦ λ e. (refl, later (position (has_number c) rows) e) ] in
    let two = by (has_number c r) (sym (position-cons (has_number c) r rows) ∙ none) in
    (two.0, none_has c rows two.1)

-- the same, where there is no such row
pub unplaced : (f : Row → Row) (c : ℕ) (rows : List Row) → ((x : Row) → has_number c x ≡ false → f x ≡ x) → position (has_number c) rows ≡ None → rows ≡ map f rows
unplaced f c rows still none = map_same f rows (stays f c rows still (none_has c rows none))

-- ---- what an entry changes

-- whether two numbers are the same, asked the other way round
turned : (a b : ℕ) (v : Bool) → (a == b) ≡ v → (b == a) ≡ v
turned a b v h = grind (arith, h)

pub seen_still : (k : Look) (x : Row) → has_number k.conn x ≡ false → seen (k ∷ []) x ≡ x
seen_still k x off = ap (λ (b : Bool). row_with x.connection x.ending x.entered (cond b k.taken x.looked)) (turned x.connection.number k.conn false off)

pub seen_here : (k : Look) (x : Row) → has_number k.conn x ≡ true → row_with x.connection x.ending x.entered k.taken ≡ seen (k ∷ []) x
seen_here k x on = sym (ap (λ (b : Bool). row_with x.connection x.ending x.entered (cond b k.taken x.looked)) (turned x.connection.number k.conn true on))

pub seen_more : (looks : List Look) (i : ℕ) (d : Look) (rows : List Row) → i < length looks → map (seen (get_or looks i d ∷ [])) (map (seen (take i looks)) rows) ≡ map (seen (take (i + 1) looks)) rows
seen_more looks i d rows within = map_then (seen (take i looks)) (seen (get_or looks i d ∷ [])) (seen (take (i + 1) looks)) rows (λ r.
    let c = r.connection.number in
    ap (λ (n : ℕ). row_with r.connection r.ending r.entered n) (sym (fold_more (newer c) r.looked looks i d within)))

pub seen_none : (rows : List Row) → rows ≡ map (seen []) rows
seen_none rows = map_each (seen []) rows (λ r. refl)

pub added_still : (c : ℕ) (x : Row) → has_number c x ≡ false → added_to (c ∷ []) x ≡ x
added_still c x off =
    ap (λ (b : Bool). row_with x.connection x.ending (x.entered + one_if (b || false)) x.looked) (turned x.connection.number c false off)
    ∙ ap (λ (n : ℕ). row_with x.connection x.ending n x.looked) (omega arith)

pub added_here : (c : ℕ) (x : Row) → has_number c x ≡ true → row_with x.connection x.ending (x.entered + 1) x.looked ≡ added_to (c ∷ []) x
added_here c x on = sym (ap (λ (b : Bool). row_with x.connection x.ending (x.entered + one_if (b || false)) x.looked) (turned x.connection.number c true on))

-- a number that stands at a place doesn't stand before it, where none stands twice
not_before : (to : List ℕ) (i c : ℕ) → once to ≡ true → i < length to → c ≡ get_or to i c → is_among c (take i to) ≡ false
not_before [] i c one within at = absurd (omega arith)
not_before (k ∷ ks) zero c one within at = refl
not_before (k ∷ ks) (suc i) c one within at =
    let two = and_parts (not (is_among k ks)) (once ks) one in
    let rest = not_before ks i c two.1 (omega arith) at in
    let apart : (k == c) ≡ false = ne_eqb k c (λ e. absent k ks i c (off (is_among k ks) two.0) (omega arith) at e) in
    ap (λ (b : Bool). b || is_among c (take i ks)) apart ∙ rest
  where
    off : (b : Bool) → not b ≡ true → b ≡ false
    off true h = cc
    off false h = refl

    right : (a b : Bool) → (a || b) ≡ false → b ≡ false
    right true b h = cc
    right false b h = h

    absent : (k : ℕ) (ks : List ℕ) (i c : ℕ) → is_among k ks ≡ false → i < length ks → c ≡ get_or ks i c → k ≡ c → ⊥
    absent k [] i c none within at e = omega arith
    absent k (n ∷ ns) zero c none within at e =
        let t : (n == k) ≡ true = eq-eqb n k (sym at ∙ sym e) in
        let f : (true || is_among k ns) ≡ false = ap (λ (b : Bool). b || is_among k ns) (sym t) ∙ none in
        cc
    absent k (n ∷ ns) (suc i) c none within at e = absent k ns i c (right (n == k) (is_among k ns) none) (omega arith) at e

one_more : (a b : Bool) → (b ≡ true → a ≡ false) → (n : ℕ) → (n + one_if a) + one_if (b || false) ≡ n + one_if (a || (b || false))
one_more true true apart n = let bad : true ≡ false = apart refl in cc
one_more true false apart n = omega arith
one_more false true apart n = omega arith
one_more false false apart n = omega arith

pub added_more : (to : List ℕ) (i d : ℕ) (rows : List Row) → once to ≡ true → i < length to
    → map (added_to (get_or to i d ∷ [])) (map (added_to (take i to)) rows) ≡ map (added_to (take (i + 1) to)) rows
added_more to i d rows one within = map_then (added_to (take i to)) (added_to (get_or to i d ∷ [])) (added_to (take (i + 1) to)) rows (λ r.
    let n = r.connection.number in
    let c = get_or to i d in
    let apart : (c == n) ≡ true → is_among n (take i to) ≡ false = λ h. subst (λ (k : ℕ). is_among k (take i to) ≡ false) (eqb-true c n h)
    (not_before to i c one within (get_or_default to i d c within)) in
    let same : is_among n (take (i + 1) to) ≡ (is_among n (take i to) || ((c == n) || false)) = ap (is_among n) (take_more to i d within) ∙ list_any-append (λ k. k == n) (take i to) (c ∷ []) in
    ap (λ (k : ℕ). row_with r.connection r.ending k r.looked) (one_more (is_among n (take i to)) (c == n) apart r.entered ∙ ap (λ (b : Bool). r.entered + one_if b) (sym same)))

nothing : (n : ℕ) → n + 0 ≡ n
nothing n = omega arith

-- a row to which nothing is added
pub added_none : (r : Row) → row_with r.connection r.ending (r.entered + 0) r.looked ≡ r
added_none r = ap (λ (n : ℕ). row_with r.connection r.ending n r.looked) (nothing r.entered)

or_none : (o : Option End) → option_or o None ≡ o
or_none None = refl
or_none (Some x) = refl

pub closed_none : (x : Row) → closed_as None x ≡ x
closed_none x = ap (λ (o : Option End). row_with x.connection o x.entered x.looked) (or_none x.ending)

-- a row that ends if it is that of c
abbrev pub closed_if : ℕ → End → Row → Row
closed_if c ending r = closed_as (cond (c == r.connection.number) (Some ending) None) r

pub closed_still : (c : ℕ) (ending : End) (x : Row) → has_number c x ≡ false → closed_if c ending x ≡ x
closed_still c ending x off = ap (λ (b : Bool). closed_as (cond b (Some ending) None) x) (turned x.connection.number c false off) ∙ closed_none x

pub closed_here : (c : ℕ) (ending : End) (x : Row) → has_number c x ≡ true → closed_as (Some ending) x ≡ closed_if c ending x
closed_here c ending x on = sym (ap (λ (b : Bool). closed_as (cond b (Some ending) None) x) (turned x.connection.number c true on))

or_assoc : (o p q : Option End) → option_or (option_or o p) q ≡ option_or o (option_or p q)
or_assoc None p q = refl
or_assoc (Some x) p q = refl

-- all that an entry changes, one after another
pub after_all : (e : Entry) (rows : List Row) → map (λ r. closed_as (end_by_reply r.connection.number e.reply) r)
    (map (λ r. closed_as (end_by_call r.connection.number e.call) r) (map (given e.reply) (map (seen e.looks) rows))) ≡ map (row_after e) rows
after_all e rows =
    let C = λ (r : Row). closed_as (end_by_call r.connection.number e.call) r in
    let R = λ (r : Row). closed_as (end_by_reply r.connection.number e.reply) r in
    let G = given e.reply in
    let S = seen e.looks in
    ap (λ (l : List Row). map R (map C l)) (map_then S G (λ r. G (S r)) rows (λ r. refl))
    ∙ ap (map R) (map_then (λ r. G (S r)) C (λ r. C (G (S r))) rows (λ r. refl))
    ∙ map_then (λ r. C (G (S r))) R (row_after e) rows (λ r. ap (λ (o : Option End). row_with r.connection o ((G (S r)).entered) ((G (S r)).looked))
    (or_assoc r.ending (end_by_call r.connection.number e.call) (end_by_reply r.connection.number e.reply)))

-- ---- rows that change one after another

-- the first i rows have changed, and the others are as they were
abbrev pub changed : (Row → Row) → ℕ → List Row → List Row
changed f zero rows = rows
changed f (suc i) [] = []
changed f (suc i) (r ∷ rows) = f r ∷ changed f i rows

at_unchanged : (f : Row → Row) (i : ℕ) (rows : List Row) (d : Row) → get_or (changed f i rows) i d ≡ get_or rows i d
at_unchanged f zero rows d = refl
at_unchanged f (suc i) [] d = refl
at_unchanged f (suc i) (r ∷ rows) d = at_unchanged f i rows d

next : (f : Row → Row) (i : ℕ) (rows : List Row) (d : Row) → i < length rows → set (changed f i rows) i (f (get_or rows i d)) ≡ changed f (suc i) rows
next f zero [] d within = absurd (omega arith)
next f zero (r ∷ rows) d within = refl
next f (suc i) [] d within = refl
next f (suc i) (r ∷ rows) d within = ap (λ (l : List Row). f r ∷ l) (next f i rows d (omega arith))

pub changed_next : (f : Row → Row) (i : ℕ) (rows now : List Row) (r s : Row) → i < length rows → now ≡ changed f i rows → r ≡ get_or now i r → s ≡ f r → set now i s ≡ changed f (i + 1) rows
changed_next f i rows now r s within so at is =
    let same : f (get_or rows i r) ≡ s = sym (is ∙ ap f (at ∙ ap (λ (l : List Row). get_or l i r) so ∙ at_unchanged f i rows r)) in
    ap (λ (l : List Row). set l i s) so ∙ ap (λ (x : Row). set (changed f i rows) i x) (sym same) ∙ next f i rows r within ∙ ap (λ (k : ℕ). changed f k rows) (let k : suc i ≡ i + 1 = omega arith in k)

pub changed_all : (f : Row → Row) (i : ℕ) (rows now : List Row) → i ≡ length rows → now ≡ changed f i rows → now ≡ map f rows
changed_all f i rows now all so = so ∙ ap (λ (k : ℕ). changed f k rows) all ∙ end f rows
  where
    end : (f : Row → Row) (rows : List Row) → changed f (length rows) rows ≡ map f rows
    end f [] = refl
    end f (r ∷ rows) = ap (λ (l : List Row). f r ∷ l) (end f rows)

-- ---- entries that change nothing

pub given_none : (reply : Reply) (rows : List Row) → ((conn : ℕ) → reply ≡ Appended conn → ⊥) → ((to missed skipped : List ℕ) → reply ≡ SentAll to missed skipped → ⊥) → rows ≡ map (given reply) rows
given_none (Joined conn replaced) rows one all = map_each (given (Joined conn replaced)) rows added_none
given_none (Refused refusal) rows one all = map_each (given (Refused refusal)) rows added_none
given_none (Appended conn) rows one all = absurd (one conn refl)
given_none (Closed conn) rows one all = map_each (given (Closed conn)) rows added_none
given_none (Skipped conn) rows one all = map_each (given (Skipped conn)) rows added_none
given_none NoHolder rows one all = map_each (given NoHolder) rows added_none
given_none (SentAll to missed skipped) rows one all = absurd (all to missed skipped refl)
given_none (NotCurrent ending) rows one all = map_each (given (NotCurrent ending)) rows added_none
given_none Stopped rows one all = map_each (given Stopped) rows added_none
given_none (Gone ending taken) rows one all = map_each (given (Gone ending taken)) rows added_none
given_none (Counted counts) rows one all = map_each (given (Counted counts)) rows added_none

pub call_ends_none : (call : Call) (rows : List Row) → ((conn taken empties : ℕ) → call ≡ Leave conn taken empties → ⊥) → (call ≡ Stop → ⊥)
    → rows ≡ map (λ r. closed_as (end_by_call r.connection.number call) r) rows
call_ends_none (Connect who) rows leave stop = map_each (closed_as None) rows closed_none
call_ends_none (Forward conn frame) rows leave stop = map_each (closed_as None) rows closed_none
call_ends_none (Leave conn taken empties) rows leave stop = absurd (leave conn taken empties refl)
call_ends_none Stop rows leave stop = absurd (stop refl)
call_ends_none Count rows leave stop = map_each (closed_as None) rows closed_none

pub reply_ends_none : (reply : Reply) (rows : List Row) → ((conn : ℕ) (replaced : Option ℕ) → reply ≡ Joined conn replaced → ⊥) → ((conn : ℕ) → reply ≡ Closed conn → ⊥)
    → rows ≡ map (λ r. closed_as (end_by_reply r.connection.number reply) r) rows
reply_ends_none (Joined conn replaced) rows joined closed = absurd (joined conn replaced refl)
reply_ends_none (Refused refusal) rows joined closed = map_each (closed_as None) rows closed_none
reply_ends_none (Appended conn) rows joined closed = map_each (closed_as None) rows closed_none
reply_ends_none (Closed conn) rows joined closed = absurd (closed conn refl)
reply_ends_none (Skipped conn) rows joined closed = map_each (closed_as None) rows closed_none
reply_ends_none NoHolder rows joined closed = map_each (closed_as None) rows closed_none
reply_ends_none (SentAll to missed skipped) rows joined closed = map_each (closed_as None) rows closed_none
reply_ends_none (NotCurrent ending) rows joined closed = map_each (closed_as None) rows closed_none
reply_ends_none Stopped rows joined closed = map_each (closed_as None) rows closed_none
reply_ends_none (Gone ending taken) rows joined closed = map_each (closed_as None) rows closed_none
reply_ends_none (Counted counts) rows joined closed = map_each (closed_as None) rows closed_none

kept_all : (rows : List Row) → rows ≡ filter (λ r. true) rows
kept_all [] = refl
kept_all (r ∷ rows) = ap (λ (l : List Row). r ∷ l) (kept_all rows)

pub none_leaves : (call : Call) (rows : List Row) → ((conn taken empties : ℕ) → call ≡ Leave conn taken empties → ⊥) → rows ≡ filter (λ r. not (is_leave r.connection.number call)) rows
none_leaves (Connect who) rows leave = kept_all rows
none_leaves (Forward conn frame) rows leave = kept_all rows
none_leaves (Leave conn taken empties) rows leave = absurd (leave conn taken empties refl)
none_leaves Stop rows leave = kept_all rows
none_leaves Count rows leave = kept_all rows
