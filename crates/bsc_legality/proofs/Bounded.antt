-- The bounds of a state hold after an entry that is accepted, which has a row to join at.
-- It serves the clauses of `follow`.
use Rattle.std.proofs.Common.{◌≡◌, ℕ, suc, ◌+◌, ◌*◌, ◌^◌, ◌<◌, ◌≤◌, ◌==◌, nat_le, nat_lt, Bool, true, false, not, ◌||◌, cond, List, [], ◌∷◌, ◌++◌, length, map, filter, Option}
use Rattle.std.proofs.Common.{Some, None, is_none, option_to_list, refl, ap, sym, ◌∙◌, subst, arith}
use Rattle.std.specs.List.{list_all}
use Rattle.std.proofs.lemmas.Bool.{and_from, and_parts, le-leb, leb-true, lt-ltb, ltb-true, ne_eqb}
use Rattle.bsc_octets.specs.Forwarding.{destination, is_broadcast}
use Rattle.bsc_history.specs.declared.call.Call.{Call}
use Rattle.bsc_history.specs.declared.call.Call.TheVariants.{Connect, Forward, Leave, Stop, Count}
use Rattle.bsc_history.specs.declared.connection.Connection.{Connection}
use Rattle.bsc_history.specs.declared.counts.Counts.{Counts}
use Rattle.bsc_history.specs.declared.ending.End.{End}
use Rattle.bsc_history.specs.declared.entry.Entry.{Entry}
use Rattle.bsc_history.specs.declared.looks.Look.{Look}
use Rattle.bsc_history.specs.declared.reply.Reply.{Reply}
use Rattle.bsc_history.specs.declared.reply.Reply.TheVariants.{Joined, Appended, Closed, Skipped, Stopped}
use Rattle.bsc_history.specs.Counting.{appended_in, counts_of, missed_in, one_if, plus}
use Rattle.bsc_history.specs.Entries.{connection_of}
use Rattle.bsc_history.specs.Ends.{leaves}
use Rattle.bsc_history.specs.Laws.{is_among, names}
use Rattle.bsc_history.specs.Replies.{unless_ended}
use Rattle.bsc_legality.specs.declared.row.Row.{Row}
use Rattle.bsc_legality.specs.declared.legality.Legality.{Legality}
use Rattle.bsc_legality.specs.Bounds.{AreAtMost}
use Rattle.bsc_legality.specs.Deciding.{accepts, all_due, all_looked, can_all, conns, due, fares_so, first_reply, is_full_at, is_long_at, is_meant_with, looks_due, may_call_in}
use Rattle.bsc_legality.specs.Deciding.{one_due, one_looked, says_due, sent_due, sent_looked, size_in}
use Rattle.bsc_legality.specs.Following.{NamesOnce, new_row, once, row_after, rows_after}
use Rattle.bsc_legality.specs.Rows.{end_in, holder_in, number, rising, row_of}
use Rattle.bsc_legality.specs.Sameness.{same_numbers, same_reply}
use Rattle.bsc_legality.proofs.Numbers.{below, rising_parts}
use Rattle.bsc_legality.proofs.Sameness.{numbers_same, reply_same}
use Rattle.bsc_history.proofs.Common.{one_at_most as one_most}
use Rattle.bsc_lemmas.proofs.Booleans.{not_true as off}
use Rattle.bsc_lemmas.proofs.Lists.{filter_le as filter_short}

-- ---- what is accepted

-- the parts of it
pub record Accepted (l : Legality) (e : Entry) : Type 0 where
  pub may : may_call_in l e.caller e.call ≡ true
  pub named : conns e.looks ≡ looks_due l e.call
  pub replied : e.reply ≡ due l e.call e.looks

pub accepted : (l : Legality) (e : Entry) → accepts l e ≡ true → Accepted l e
accepted l e h =
    let a = and_parts (may_call_in l e.caller e.call) (says_due l e.call e.looks e.reply) h in
    let b = and_parts (same_numbers (conns e.looks) (looks_due l e.call)) _ a.1 in
    let c = and_parts (can_all l.rows.items e.looks) (same_reply e.reply (due l e.call e.looks)) b.1 in
    record {
      may = a.0;
      named = numbers_same (conns e.looks) (looks_due l e.call) b.0;
      replied = reply_same e.reply (due l e.call e.looks) c.1;
    }

-- ---- lists that are no longer than the rows

map_long : {A : Type 0} (f : A → ℕ) (xs : List A) → length (map f xs) ≡ length xs
map_long f [] = refl
map_long f (x ∷ xs) = ap suc (map_long f xs)

-- a broadcast's looks are no more than the rows
all_short : (sender size : ℕ) (rows : List Row) → length (all_looked sender size rows) ≤ length rows
all_short sender size rows =
    let p = is_meant_with sender (λ r. not (is_long_at size r)) in
    let long = map_long number (filter p rows) in
    let short = filter_short p rows in
    omega (arith, long, short)

picked_short : (p : Look → Bool) (looks : List Look) (n : ℕ) → length (conns looks) ≤ n → length (conns (filter p looks)) ≤ n
picked_short p looks n h =
    let long = map_long (λ (k : Look). k.conn) looks in
    let kept = map_long (λ (k : Look). k.conn) (filter p looks) in
    let short = filter_short p looks in
    omega (arith, h, long, kept, short)

-- ---- lists in which no number stands twice

all_absent : (c : ℕ) (rows : List Row) → list_all (λ s. nat_lt c s.connection.number) rows ≡ true → is_among c (map number rows) ≡ false
all_absent c [] h = refl
all_absent c (r ∷ rows) h =
    let two = and_parts (nat_lt c r.connection.number) (list_all (λ s. nat_lt c s.connection.number) rows) h in
    let less = ltb-true c r.connection.number two.0 in
    ap (λ (b : Bool). b || is_among c (map number rows)) (ne_eqb r.connection.number c (λ e. omega arith)) ∙ all_absent c rows two.1

all_kept : (p q : Row → Bool) (rows : List Row) → list_all q rows ≡ true → list_all q (filter p rows) ≡ true
all_kept p q [] h = refl
all_kept p q (r ∷ rows) h =
    let two = and_parts (q r) (list_all q rows) h in
    let rest = all_kept p q rows two.1 in
    elim (p r) as (λ b. list_all q (cond b (r ∷ filter p rows) (filter p rows)) ≡ true) [ true ↦ and_from (q r) (list_all q (filter p rows)) two.0 rest | false ↦ rest ]

rising_once : (p : Row → Bool) (rows : List Row) → rising rows ≡ true → once (map number (filter p rows)) ≡ true
rising_once p [] rise = refl
rising_once p (r ∷ rows) rise =
    let two = rising_parts r rows rise in
    let rest = rising_once p rows two.1 in
    let F = filter p rows in
    let none : is_among r.connection.number (map number F) ≡ false = all_absent r.connection.number F (all_kept p (below r) rows two.0) in
    elim (p r) as (λ b. once (map number (cond b (r ∷ F) F)) ≡ true) [
      | true ↦ and_from (not (is_among r.connection.number (map number F))) (once (map number F)) (ap not none) rest
      | false ↦ rest
    ]

not_picked : (p : Look → Bool) (c : ℕ) (looks : List Look) → is_among c (conns looks) ≡ false → is_among c (conns (filter p looks)) ≡ false
not_picked p c [] h = refl
not_picked p c (k ∷ looks) h =
    let left : (a b : Bool) → (a || b) ≡ false → a ≡ false = λ a b. elim a as (λ a. (a || b) ≡ false → a ≡ false) [ true ↦ λ h. h | false ↦ λ h. refl ] in
    let right : (a b : Bool) → (a || b) ≡ false → b ≡ false = λ a b. elim a as (λ a. (a || b) ≡ false → b ≡ false) [ true ↦ λ h. cc | false ↦ λ h. h ] in
    let rest = not_picked p c looks (right (k.conn == c) (is_among c (conns looks)) h) in
    elim (p k) as (λ b. is_among c (conns (cond b (k ∷ filter p looks) (filter p looks))) ≡ false) [
      | true ↦ ap (λ (b : Bool). b || is_among c (conns (filter p looks))) (left (k.conn == c) (is_among c (conns looks)) h) ∙ rest
      | false ↦ rest
    ]

picked_once : (p : Look → Bool) (looks : List Look) → once (conns looks) ≡ true → once (conns (filter p looks)) ≡ true
picked_once p [] h = refl
picked_once p (k ∷ looks) h =
    let two = and_parts (not (is_among k.conn (conns looks))) (once (conns looks)) h in
    let rest = picked_once p looks two.1 in
    let F = filter p looks in
    elim (p k) as (λ b. once (conns (cond b (k ∷ F) F)) ≡ true) [
      | true ↦ and_from (not (is_among k.conn (conns F))) (once (conns F)) (ap not (not_picked p k.conn looks (off (is_among k.conn (conns looks)) two.0))) rest
      | false ↦ rest
    ]

-- ---- the lists of a reply that is accepted

-- What is so of the lists of a broadcast's reply: they are no longer than n, and the first has each number once.
pub record AreShort (n : ℕ) (reply : Reply) : Type 0 where
  pub to_short : appended_in reply ≤ n + 1
  pub missed_short : missed_in reply ≤ n + 1
  pub names_once : NamesOnce reply

plain : (n : ℕ) (reply : Reply) → appended_in reply ≤ 1 → missed_in reply ≡ 0 → NamesOnce reply → AreShort n reply
plain n reply a m o = record { to_short = omega (arith, a); missed_short = omega (arith, m); names_once = o }

one_plain : (n outbox size : ℕ) (looks : List Look) (w : Option Row) → AreShort n (one_due outbox size looks w)
one_plain n outbox size looks None = plain n _ (omega arith) refl tt
one_plain n outbox size looks (Some r) =
    elim (is_long_at size r) as (λ b. AreShort n (cond b (Skipped r.connection.number) (cond (is_full_at outbox looks r) (Closed r.connection.number) (Appended r.connection.number)))) [
      | true ↦ plain n _ (omega arith) refl tt
      | false ↦ elim (is_full_at outbox looks r) as (λ b. AreShort n (cond b (Closed r.connection.number) (Appended r.connection.number))) [
        | true ↦ plain n _
            (omega arith) refl tt
        | false ↦ plain n _ (omega arith) refl tt
      ]
    ]

all_plain : (outbox sender size : ℕ) (looks : List Look) (rows : List Row) → rising rows ≡ true → conns looks ≡ all_looked sender size rows
    → AreShort (length rows) (all_due outbox sender size looks rows)
all_plain outbox sender size looks rows rise named =
    let few : length (conns looks) ≤ length rows + 1 = (let short = all_short sender size rows in let same = ap length named in omega (arith, short, same)) in
    let each : once (conns looks) ≡ true = ap once named ∙ rising_once (is_meant_with sender (λ r. not (is_long_at size r))) rows rise in
    record {
      to_short = picked_short (fares_so false outbox rows) looks (length rows + 1) few;
      missed_short = picked_short (fares_so true outbox rows) looks (length rows + 1) few;
      names_once = picked_once (fares_so false outbox rows) looks each;
    }

sent_plain : (l : Legality) (sender size : ℕ) (m : List ℕ) (looks : List Look) → rising l.rows.items ≡ true → conns looks ≡ sent_looked l.rows.items sender m size
    → AreShort (length l.rows.items) (sent_due l.about.limits.outbox l.rows.items sender m size looks)
sent_plain l sender size m looks rise named =
    let rows = l.rows.items in
    let outbox = l.about.limits.outbox in
    let w = holder_in rows (destination m) in
    let by : (b : Bool) → conns looks ≡ cond b (all_looked sender size rows) (one_looked size w)
    → AreShort (length rows) (cond b (all_due outbox sender size looks rows) (one_due outbox size looks w)) =
    λ b. elim b as (λ b. conns looks ≡ cond b (all_looked sender size rows) (one_looked size w)
    → AreShort (length rows) (cond b (all_due outbox sender size looks rows) (one_due outbox size looks w))) [
      | true ↦ λ k. all_plain outbox sender size looks rows rise k
      | false ↦ λ k. one_plain (length rows) outbox size looks w
    ] in
    by (is_broadcast m) named

forward_plain : (l : Legality) (sender : ℕ) (m : List ℕ) (looks : List Look) → rising l.rows.items ≡ true → conns looks ≡ looks_due l (Forward sender m)
    → AreShort (length l.rows.items) (due l (Forward sender m) looks)
forward_plain l sender m looks rise named =
    let rows = l.rows.items in
    let n = size_in rows sender m in
    let sent = sent_looked rows sender m n in
    let body = sent_due l.about.limits.outbox rows sender m n looks in
    let current : (w : Option End) → conns looks ≡ cond (not (is_none w)) [] sent
    → AreShort (length rows) (unless_ended w body) = λ w. elim w as (λ w. conns looks ≡ cond (not (is_none w)) [] sent
    → AreShort (length rows) (unless_ended w body)) [ None ↦ λ k. sent_plain l sender n m looks rise k | Some x ↦ λ k. plain (length rows) _ (omega arith) refl tt ] in
    let w = end_in (row_of rows sender) in
    let served : (b : Bool) → conns looks ≡ cond (b || not (is_none w)) [] sent
    → AreShort (length rows) (cond b Stopped (unless_ended w body)) = λ b. elim b as (λ b. conns looks ≡ cond (b || not (is_none w)) [] sent
    → AreShort (length rows) (cond b Stopped (unless_ended w body))) [ true ↦ λ k. plain (length rows) _ (omega arith) refl tt | false ↦ λ k. current w k ] in
    served l.stopped named

joined_plain : (n : ℕ) (stopped is_hub : Bool) (held : Option ℕ) (full : Bool) (rows c : ℕ) (p : Option ℕ) → AreShort n (first_reply stopped is_hub held full rows (Joined c p))
joined_plain n true is_hub held full rows c p = plain n _ (omega arith) refl tt
joined_plain n false true held full rows c p = plain n _ (omega arith) refl tt
joined_plain n false false (Some k) full rows c p = plain n _ (omega arith) refl tt
joined_plain n false false None true rows c p = plain n _ (omega arith) refl tt
joined_plain n false false None false rows c p = plain n _ (omega arith) refl tt

due_plain : (l : Legality) (call : Call) (looks : List Look) → rising l.rows.items ≡ true → conns looks ≡ looks_due l call → AreShort (length l.rows.items) (due l call looks)
due_plain l (Connect who) looks rise named = joined_plain _ _ _ _ _ _ _ _
due_plain l (Forward sender m) looks rise named = forward_plain l sender m looks rise named
due_plain l (Leave conn taken empties) looks rise named = plain _ _ (omega arith) refl tt
due_plain l Stop looks rise named = plain _ _ (omega arith) refl tt
due_plain l Count looks rise named = plain _ _ (omega arith) refl tt

pub accepted_short : (l : Legality) (e : Entry) → rising l.rows.items ≡ true → accepts l e ≡ true → AreShort (length l.rows.items) e.reply
accepted_short l e rise h =
    let yes = accepted l e h in
    subst (AreShort (length l.rows.items)) (sym yes.replied) (due_plain l e.call e.looks rise yes.named)

-- ---- counts

one_small : (b : Bool) → one_if b ≤ 2 ^ 31
one_small b = let most = one_most b in omega (arith, most)

pub small_more : (e : Entry) (n : ℕ) → AreShort n e.reply → n < 2 ^ 31 → AreAtMost (counts_of e) (2 ^ 31)
small_more e n short few = record {
  joined = one_small _;
  replaced = one_small _;
  refused = one_small _;
  unicasts = one_small _;
  broadcasts = one_small _;
  appended = (let h = short.to_short in omega (arith, h, few));
  dropped = one_small _;
  full = one_small _;
  missed = (let h = short.missed_short in omega (arith, h, few));
}

pub counts_more : (k m : Counts) (n : ℕ) → AreAtMost k (n * 2 ^ 31) → AreAtMost m (2 ^ 31) → AreAtMost (plus k m) ((n + 1) * 2 ^ 31)
counts_more k m n h g = record {
  joined = omega (arith, h.joined, g.joined);
  replaced = omega (arith, h.replaced, g.replaced);
  refused = omega (arith, h.refused, g.refused);
  unicasts = omega (arith, h.unicasts, g.unicasts);
  broadcasts = omega (arith, h.broadcasts, g.broadcasts);
  appended = omega (arith, h.appended, g.appended);
  dropped = omega (arith, h.dropped, g.dropped);
  full = omega (arith, h.full, g.full);
  missed = omega (arith, h.missed, g.missed);
}

-- ---- rows

pub few_entered : (n : ℕ) (rows : List Row) → n < 2 ^ 31 → list_all (λ r. nat_le r.entered n) rows ≡ true → list_all (λ r. nat_lt r.entered (2 ^ 52)) rows ≡ true
few_entered n [] few h = refl
few_entered n (r ∷ rows) few h =
    let p = and_parts (nat_le r.entered n) (list_all (λ r. nat_le r.entered n) rows) h in
    let low = leb-true r.entered n p.0 in
    and_from _ _ (lt-ltb r.entered (2 ^ 52) (omega (arith, low))) (few_entered n rows few p.1)

old_within : (n : ℕ) (e : Entry) (rows : List Row) → list_all (λ r. nat_le r.entered n) rows ≡ true
    → list_all (λ r. nat_le r.entered (n + 1)) (filter (λ r. not (leaves r.connection.number e)) (map (row_after e) rows)) ≡ true
old_within n e [] h = refl
old_within n e (r ∷ rows) h =
    let p = and_parts (nat_le r.entered n) (list_all (λ r. nat_le r.entered n) rows) h in
    let low = leb-true r.entered n p.0 in
    let one = one_most (names r.connection.number e.reply) in
    let here : nat_le (row_after e r).entered (n + 1) ≡ true = le-leb _ _ (omega (arith, low, one)) in
    let rest = old_within n e rows p.1 in
    let F = filter (λ (r : Row). not (leaves r.connection.number e)) (map (row_after e) rows) in
    elim (not (leaves r.connection.number e)) as (λ b. list_all (λ r. nat_le r.entered (n + 1)) (cond b (row_after e r ∷ F) F) ≡ true) [ true ↦ and_from _ _ here rest | false ↦ rest ]

all_both : (p : Row → Bool) (xs ys : List Row) → list_all p xs ≡ true → list_all p ys ≡ true → list_all p (xs ++ ys) ≡ true
all_both p [] ys h k = k
all_both p (x ∷ xs) ys h k = let q = and_parts (p x) (list_all p xs) h in and_from _ _ q.0 (all_both p xs ys q.1 k)

new_within : (n : ℕ) (o : Option Connection) → list_all (λ r. nat_le r.entered (n + 1)) (map new_row (option_to_list o)) ≡ true
new_within n None = refl
new_within n (Some x) = and_from _ _ (le-leb 0 (n + 1) (omega arith)) refl

pub entered_within : (n : ℕ) (e : Entry) (rows : List Row) → list_all (λ r. nat_le r.entered n) rows ≡ true → list_all (λ r. nat_le r.entered (n + 1)) (rows_after e rows) ≡ true
entered_within n e rows h = all_both (λ r. nat_le r.entered (n + 1)) _ _ (old_within n e rows h) (new_within n (connection_of e))
