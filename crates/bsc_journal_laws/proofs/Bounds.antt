-- How large the numbers of a legal history are, by how many entries it has.
-- It serves the clauses of `legal_has_lines` and `run_audits`.
use Rattle.std.proofs.Common.{◌≡◌, inl, inr, ℕ, ◌+◌, ◌*◌, ◌≤◌, ◌^◌, ◌==◌, Bool, true, false, not, ◌&&◌, ◌||◌, cond, nat_le, List, [], ◌∷◌, ◌++◌, length, filter, map, Option, Some}
use Rattle.std.proofs.Common.{None, is_none, MatchOption, option_to_list, refl, ap, sym, subst, arith, length-append}
use Rattle.std.specs.Prelude.{⊤}
use Rattle.std.specs.List.{AllByRecursion, list_all, list_any}
use Rattle.std.proofs.lemmas.Bool.{and_from, and_parts, both_ways, cases_lt, leb-true}
use Rattle.std.proofs.lemmas.List.{length_push}
use Rattle.bsc_octets.specs.declared.identity.Identity.{Identity}
use Rattle.bsc_octets.specs.Addresses.{same_device}
use Rattle.bsc_history.specs.declared.call.Call.{Call}
use Rattle.bsc_history.specs.declared.call.Call.TheVariants.{Connect, Count, Forward, Leave, Stop}
use Rattle.bsc_history.specs.declared.connection.Connection.{Connection}
use Rattle.bsc_history.specs.declared.counts.Counts.{Counts}
use Rattle.bsc_history.specs.declared.entry.Entry.{Entry}
use Rattle.bsc_history.specs.declared.limits.About.{About}
use Rattle.bsc_history.specs.declared.looks.Look.{Look}
use Rattle.bsc_history.specs.declared.reply.Reply.{Reply}
use Rattle.bsc_history.specs.declared.reply.Reply.TheVariants.{Appended, Closed, Counted, Gone, Joined, NoHolder, NotCurrent, Refused, SentAll, Skipped, Stopped}
use Rattle.bsc_history.specs.Counting.{appended_in, counts, counts_of, missed_in, plus, is_joined, is_replacing, is_refused, is_unicast_call, is_broadcast_call, is_forward_call, is_closing}
use Rattle.bsc_history.specs.Ends.{ended, joined, joined_where, live, unleft}
use Rattle.bsc_history.specs.Entries.{connection_of, joins, moment}
use Rattle.bsc_history.specs.Legality.{Lawful, Legal, can_find, looks_at}
use Rattle.bsc_history.specs.Outboxes.{is_too_long, looked, meant, means, out_of, sent}
use Rattle.bsc_history.specs.Replies.{is_stopped, number_of, numbers, reply, rival}
use Rattle.bsc_history.proofs.Connections.{live_unended, unleft_joined}
use Rattle.bsc_history.proofs.Fresh.{fresh_joins}
use Rattle.bsc_history.proofs.Gains.{sent_short}
use Rattle.bsc_history.proofs.Lists.{In, In-filter}
use Rattle.bsc_history.proofs.More.{along, counts-more, joined-more}
use Rattle.bsc_journal.specs.Saying.{are_short, is_short, look_is_short, reply_is_short}
use Rattle.bsc_journal_laws.specs.Lines.{names_in}
use Rattle.bsc_journal_laws.proofs.Shorts.{are_short_63, short_63}
use Rattle.bsc_journal_laws.proofs.Small.{few_names}

-- ---- connections

at_most_one : {A : Type 0} (o : Option A) → length (option_to_list o) ≤ 1
at_most_one None = omega arith
at_most_one (Some x) = omega arith

-- no more connections join than there are entries
pub few_joined : (a : About) (H : List Entry) → Legal a H → length (joined H) ≤ length H
unfolding joined_where
few_joined a H legal = along a (λ G. length (joined G) ≤ length G) (omega arith) (λ G e legalG few lawful.
    let more : length (joined (G ++ e ∷ [])) ≡ length (joined G ++ option_to_list (connection_of e)) = ap length (joined-more G e) in
    let parts = length-append (joined G) (option_to_list (connection_of e)) in
    let one : length (option_to_list (connection_of e)) ≤ 1 = at_most_one (connection_of e) in
    let long = length_push G e in
    omega (arith, more, parts, one, long, few)) H legal

-- so none has a greater number
pub number_below : (a : About) (G : List Entry) (c : ℕ) → Legal a G → list_any (joins c) G ≡ true → c ≤ length G
number_below a G c legal there =
    let few = few_joined a G legal in
    elim (cases_lt (length (joined G)) c) [
      | inl above ↦ absurd (both_ways (list_any (joins c) G) (fresh_joins a G c legal above) there)
      | inr within ↦ (let k : c ≤ length (joined G) = within in omega (arith, few, k))
    ]

live_below : (a : About) (G : List Entry) (x : Connection) → Legal a G → In x (live G) → x.number ≤ length G
live_below a G x legal there =
    let kept : In x (filter (λ (y : Connection). is_none (ended G y.number)) (unleft G)) = subst (λ (l : List Connection). In x l) (live_unended a G legal) there in
    let one = In-filter (λ (y : Connection). is_none (ended G y.number)) x (unleft G) kept in
    number_below a G x.number legal (unleft_joined G x one.0).1

pub meant_below : (a : About) (G : List Entry) (sender : ℕ) (m : List ℕ) (x : Connection) → Legal a G → In x (meant G sender m) → x.number ≤ length G
meant_below a G sender m x legal there = live_below a G x legal (In-filter (means m sender) x (live G) there).0

numbers_below : (most : ℕ) (xs : List Connection) → ((x : Connection) → In x xs → x.number ≤ most) → AllByRecursion (λ (n : ℕ). n ≤ most) (numbers xs)
numbers_below most [] f = tt
numbers_below most (x ∷ xs) f = (f x (inl refl), numbers_below most xs (λ y there. f y (inr there)))

-- the numbers of those of them that are picked are short
pub picked_short : (most : ℕ) (q : Connection → Bool) (xs : List Connection) → most ≤ 2 ^ 63 → ((x : Connection) → In x xs → x.number ≤ most) → are_short (numbers (filter q xs)) ≡ true
picked_short most q xs few below = are_short_63 most (numbers (filter q xs)) few (numbers_below most (filter q xs) (λ x there. below x (In-filter q x xs there).0))

-- a connection that may be missing has no greater number
abbrev pub IsBelow : ℕ → Option Connection → Type 0
IsBelow most None = ⊤
IsBelow most (Some x) = x.number ≤ most

pub found_below : (a : About) (G : List Entry) (p : Connection → Bool) → Legal a G → (o : Option Connection)
    → MatchOption o ((x : Connection) → In x (live G) → p x ≡ false) (λ x. In x (live G) × (p x ≡ true)) → IsBelow (length G) o
found_below a G p legal None says = tt
found_below a G p legal (Some x) says = live_below a G x legal says.0

pub number_short : (most : ℕ) (o : Option Connection) → most ≤ 2 ^ 63 → IsBelow most o → are_short (option_to_list (number_of o)) ≡ true
number_short most None few below = refl
number_short most (Some x) few below =
    let k : x.number ≤ most = below in
    and_from (is_short x.number) true (short_63 x.number (omega (arith, few, k))) refl

pub rival_short : (most : ℕ) (who : Identity) (o : Option Connection) → most ≤ 2 ^ 63 → IsBelow most o → are_short (option_to_list (rival who o)) ≡ true
rival_short most who None few below = refl
rival_short most who (Some x) few below =
    let k : x.number ≤ most = below in
    elim (same_device x.who.device who.device) as (λ b. are_short (option_to_list (cond b None (Some x.number))) ≡ true) [
      | true ↦ refl
      | false ↦ and_from (is_short x.number) true (short_63 x.number (omega (arith, few, k))) refl
    ]

-- ---- looks

below_if : (b : Bool) (ns : List ℕ) (most : ℕ) → AllByRecursion (λ (n : ℕ). n ≤ most) ns → AllByRecursion (λ (n : ℕ). n ≤ most) (cond b [] ns)
below_if true ns most h = tt
below_if false ns most h = h

pub looks_below : (a : About) (G : List Entry) (call : Call) → Legal a G → AllByRecursion (λ (n : ℕ). n ≤ length G) (looks_at G call)
looks_below a G (Forward sender m) legal =
    let q = λ (c : Connection). not (is_too_long (out_of G sender m) c) in
    below_if (is_stopped G || not (is_none (ended G sender))) (numbers (filter q (meant G sender m))) (length G)
    (numbers_below (length G) (filter q (meant G sender m)) (λ x there. meant_below a G sender m x legal (In-filter q x (meant G sender m) there).0))
looks_below a G (Connect who) legal = tt
looks_below a G (Leave c t n) legal = tt
looks_below a G Stop legal = tt
looks_below a G Count legal = tt

-- a look finds no more frames taken than there are entries
pub found_few : (a : About) (G : List Entry) (c taken : ℕ) → can_find a G c taken ≡ true → taken ≤ length G
found_few a G c taken h =
    let p = and_parts (nat_le (looked G c) taken) (nat_le taken (length (sent a G c))) h in
    let most = leb-true taken (length (sent a G c)) p.1 in
    let short = sent_short a G c in
    omega (arith, most, short)

pub looks_short : (a : About) (G : List Entry) (looks : List Look) → length G ≤ 2 ^ 63 → AllByRecursion (λ (n : ℕ). n ≤ length G) (map (λ (k : Look). k.conn) looks)
    → list_all (λ (k : Look). can_find a G k.conn k.taken) looks ≡ true → list_all look_is_short looks ≡ true
looks_short a G [] few conns found = refl
looks_short a G (k ∷ looks) few conns found =
    let p = and_parts (can_find a G k.conn k.taken) (list_all (λ (x : Look). can_find a G x.conn x.taken) looks) found in
    let taken = found_few a G k.conn k.taken p.0 in
    let conn : k.conn ≤ length G = conns.0 in
    and_from (look_is_short k) (list_all look_is_short looks)
    (and_from (is_short k.conn) (is_short k.taken) (short_63 k.conn (omega (arith, conn, few))) (short_63 k.taken (omega (arith, taken, few))))
    (looks_short a G looks few conns.1 p.1)

-- ---- counts

-- None of these counts is above a number.
pub record AreUpTo (most : ℕ) (k : Counts) : Type 0 where
  pub joined : k.joined ≤ most
  pub replaced : k.replaced ≤ most
  pub refused : k.refused ≤ most
  pub unicasts : k.unicasts ≤ most
  pub broadcasts : k.broadcasts ≤ most
  pub appended : k.appended ≤ most
  pub dropped : k.dropped ≤ most
  pub full : k.full ≤ most
  pub missed : k.missed ≤ most

sum_up : (a b m n : ℕ) → a ≤ m → b ≤ n → a + b ≤ m + n
sum_up a b m n h k = omega (arith, h, k)

up_to_more : (m n : ℕ) (j k : Counts) → AreUpTo m j → AreUpTo n k → AreUpTo (m + n) (plus j k)
up_to_more m n j k h l = record {
  joined = sum_up j.joined k.joined m n h.joined l.joined;
  replaced = sum_up j.replaced k.replaced m n h.replaced l.replaced;
  refused = sum_up j.refused k.refused m n h.refused l.refused;
  unicasts = sum_up j.unicasts k.unicasts m n h.unicasts l.unicasts;
  broadcasts = sum_up j.broadcasts k.broadcasts m n h.broadcasts l.broadcasts;
  appended = sum_up j.appended k.appended m n h.appended l.appended;
  dropped = sum_up j.dropped k.dropped m n h.dropped l.dropped;
  full = sum_up j.full k.full m n h.full l.full;
  missed = sum_up j.missed k.missed m n h.missed l.missed;
}

none_counted : AreUpTo 0 (counts [])
unfolding counts
none_counted = record {
  joined = omega arith;
  replaced = omega arith;
  refused = omega arith;
  unicasts = omega arith;
  broadcasts = omega arith;
  appended = omega arith;
  dropped = omega arith;
  full = omega arith;
  missed = omega arith;
}

-- a reply names no more than it has names, or one
appended_few : (r : Reply) → appended_in r ≤ names_in r + 1
appended_few (Joined c p) = omega arith
appended_few (Refused w) = omega arith
appended_few (Appended c) = omega arith
appended_few (Closed c) = omega arith
appended_few (Skipped c) = omega arith
appended_few NoHolder = omega arith
appended_few (SentAll to missed skipped) = omega arith
appended_few (NotCurrent w) = omega arith
appended_few Stopped = omega arith
appended_few (Gone w t) = omega arith
appended_few (Counted k) = omega arith

missed_few : (r : Reply) → missed_in r ≤ names_in r
missed_few (Joined c p) = omega arith
missed_few (Refused w) = omega arith
missed_few (Appended c) = omega arith
missed_few (Closed c) = omega arith
missed_few (Skipped c) = omega arith
missed_few NoHolder = omega arith
missed_few (SentAll to missed skipped) = omega arith
missed_few (NotCurrent w) = omega arith
missed_few Stopped = omega arith
missed_few (Gone w t) = omega arith
missed_few (Counted k) = omega arith

up_by : (b : Bool) → cond b 1 0 ≤ 3073
up_by true = omega arith
up_by false = omega arith

entry_counts : (e : Entry) → names_in e.reply ≤ 3072 → AreUpTo 3073 (counts_of e)
entry_counts e few =
    let more = appended_few e.reply in
    let less = missed_few e.reply in
    record {
      joined = up_by (is_joined e.reply);
      replaced = up_by (is_replacing e.reply);
      refused = up_by (is_refused e.reply);
      unicasts = up_by (is_unicast_call e.call);
      broadcasts = up_by (is_broadcast_call e.call);
      appended = omega (arith, more, few);
      dropped = up_by (is_forward_call e.call && (appended_in e.reply == 0));
      full = up_by (is_closing e.reply);
      missed = omega (arith, less, few);
    }

names_few : (a : About) (G : List Entry) (e : Entry) → Legal a G → Lawful a (moment G e) → a.limits.rows ≤ 1024 → names_in e.reply ≤ 3072
names_few a G e legal lawful rows =
    let same : names_in e.reply ≡ names_in (reply a G e.call e.looks) = ap names_in lawful.replied in
    let few = few_names a G e.call e.looks legal in
    omega (arith, same, few, rows)

pub counts_few : (a : About) (H : List Entry) → Legal a H → a.limits.rows ≤ 1024 → AreUpTo (3073 * length H) (counts H)
counts_few a H legal rows = along a (λ G. AreUpTo (3073 * length G) (counts G)) none_counted (λ G e legalG few lawful.
    let push = length_push G e in
    let long : 3073 * length G + 3073 ≡ 3073 * length (G ++ e ∷ []) = omega (arith, push) in
    subst (λ (n : ℕ). AreUpTo n (counts (G ++ e ∷ []))) long
    (subst (AreUpTo (3073 * length G + 3073)) (sym (counts-more G e))
    (up_to_more (3073 * length G) 3073 (counts G) (counts_of e) few (entry_counts e (names_few a G e legalG lawful rows))))) H legal

pub counts_short : (most : ℕ) (k : Counts) → most ≤ 2 ^ 63 → AreUpTo most k → reply_is_short (Counted k) ≡ true
counts_short most k few h = are_short_63 most (k.joined ∷ k.replaced ∷ k.refused ∷ k.unicasts ∷ k.broadcasts ∷ k.appended ∷ k.dropped ∷ k.full ∷ k.missed ∷ []) few
    (h.joined, (h.replaced, (h.refused, (h.unicasts, (h.broadcasts, (h.appended, (h.dropped, (h.full, (h.missed, tt)))))))))
