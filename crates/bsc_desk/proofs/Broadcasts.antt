-- A broadcast: it goes to each live connection but its sender.
-- It serves the clauses of `drop_all`, `push_all` and `send_one`.
use Rattle.std.proofs.Common.{◌≡◌, ◌≢◌, ℕ, suc, ◌+◌, ◌≤◌, ◌<◌, ◌==◌, ◌^◌, Bool, true, false, not, ◌&&◌, ◌||◌, cond, List, [], ◌∷◌, ◌++◌, length, map, filter, Option, Some, None}
use Rattle.std.proofs.Common.{refl, ap, sym, ◌∙◌, subst, arith, append-nil, length-append}
use Rattle.std.specs.List.{flat_map, list_any, list_all, AllByRecursion}
use Rattle.std.proofs.lemmas.Bool.{and_parts, eq-eqb, ne_eqb}
use Rattle.bsc_octets.specs.Forwarding.{has_route, is_broadcast, out}
use Rattle.bsc_history.specs.declared.limits.About.{About}
use Rattle.bsc_history.specs.declared.connection.Connection.{Connection}
use Rattle.bsc_history.specs.declared.ending.End.{End}
use Rattle.bsc_history.specs.declared.looks.Look.{Look}
use Rattle.bsc_history.specs.declared.mark.Stamped.{Stamped}
use Rattle.bsc_history.specs.declared.reply.Reply.TheVariants.{SentAll}
use Rattle.bsc_history.specs.Counting.{counts_of, plus}
use Rattle.bsc_history.specs.Entries.{moment}
use Rattle.bsc_history.specs.Laws.{Apart, is_among}
use Rattle.bsc_history.specs.Legality.{Lawful}
use Rattle.bsc_history.specs.Marks.{entries}
use Rattle.bsc_history.specs.Outboxes.{is_found_full, is_too_long, meant, means, sent}
use Rattle.bsc_history.specs.Holders.{holder}
use Rattle.bsc_history.specs.Replies.{broadcast_reply, unicast_reply}
use Rattle.bsc_octets.specs.Forwarding.{destination}
use Rattle.bsc_octets.specs.Addresses.{same_vmac}
use Rattle.bsc_desk.specs.declared.desk.Desk.{Desk}
use Rattle.bsc_desk.specs.declared.fate.Fate.{Fate}
use Rattle.bsc_desk.specs.declared.fate.Fate.TheVariants.{Unmeant, TooLong, Entered, FoundFull}
use Rattle.bsc_desk.specs.declared.row.Row.{Row}
use Rattle.bsc_desk.specs.Counted.{broadcast_counts}
use Rattle.bsc_desk.specs.Entries.{forward_entry, plain, unserved}
use Rattle.bsc_desk.specs.Fates.{AllBefall, Befalls, is_meant, looks_in, looks_of, missed_in, missed_of, skipped_in, skipped_of, to_in, to_of}
use Rattle.bsc_desk.specs.Frames.{Frame}
use Rattle.bsc_desk.specs.Live.{connection, is_open, number}
use Rattle.bsc_desk.specs.Rows.{IsRowOf, end_of}
use Rattle.bsc_desk.specs.Standing.{DeskStands, IsInletOf}
use Rattle.bsc_desk.proofs.Fared.{AllFates, Told, all_test, can_all, ends_by, enters, full_seen, is_full, more_said}
use Rattle.bsc_desk.proofs.Forwards.{lawful_served, looks_named, picks, served, stands_sent}
use Rattle.bsc_desk.proofs.LiveRows.{live_rows}
use Rattle.bsc_desk.proofs.Standings.{IsKept, kept, rows_apart}

-- what the lists of a broadcast say of one number, where numbers are apart: just what became of the frame there

pub record Says (c : ℕ) (fates : List Fate) (x : Fate) : Type 0 where
  pub among : is_among c (to_of fates) ≡ enters x
  pub seen : filter (λ k. k.conn == c) (looks_of fates) ≡ looks_in x

module _ (t : Row → Bool) (full : Option End) (o : List ℕ) where
  passes_by : (r : Row) (x : Fate) (s : Row) (c : ℕ) (fates : List Fate) (y : Fate) → Befalls t full o r x s → number r ≢ c → Says c fates y → Says c (x ∷ fates) y
  passes_by r Unmeant s c fates y h other say = record { among = say.among; seen = say.seen }
  passes_by r (TooLong d) s c fates y h other say = record { among = say.among; seen = say.seen }
  passes_by r (Entered k) s c fates y h other say =
      let no : (k.conn == c) ≡ false = ne_eqb k.conn c (λ e. other (sym h.1.0.conn ∙ e)) in
      record {
        among = ap (λ (b : Bool). b || is_among c (to_of fates)) no ∙ say.among;
        seen = ap (λ (b : Bool). cond b (k ∷ filter (λ l. l.conn == c) (looks_of fates)) (filter (λ l. l.conn == c) (looks_of fates))) no ∙ say.seen;
      }
  passes_by r (FoundFull k) s c fates y h other say =
      let no : (k.conn == c) ≡ false = ne_eqb k.conn c (λ e. other (sym h.1.0.conn ∙ e)) in
      record { among = say.among; seen = ap (λ (b : Bool). cond b (k ∷ filter (λ l. l.conn == c) (looks_of fates)) (filter (λ l. l.conn == c) (looks_of fates))) no ∙ say.seen }

  pub absent : (c : ℕ) (rows : List Row) (fates : List Fate) (after : List Row) → AllBefall t full o rows fates after → AllByRecursion (λ y. c ≢ number y) rows → Says c fates Unmeant
  absent c [] [] [] h apart = record { among = refl; seen = refl }
  absent c (r ∷ rows) (x ∷ fates) (s ∷ after) h apart = passes_by r x s c fates Unmeant h.0 (λ e. apart.0 (sym e)) (absent c rows fates after h.1 apart.1)
  absent c rows fates after h apart = absurd h

  pub own_says : (r : Row) (x : Fate) (s : Row) (fates : List Fate) → Befalls t full o r x s → Says (number r) fates Unmeant → Says (number r) (x ∷ fates) x
  own_says r Unmeant s fates h say = record { among = say.among; seen = say.seen }
  own_says r (TooLong c) s fates h say = record { among = say.among; seen = say.seen }
  own_says r (Entered k) s fates h say =
      let yes : (k.conn == number r) ≡ true = eq-eqb k.conn (number r) h.1.0.conn in
      record {
        among = ap (λ (b : Bool). b || is_among (number r) (to_of fates)) yes;
        seen = ap (λ (b : Bool). cond b (k ∷ filter (λ l. l.conn == number r) (looks_of fates)) (filter (λ l. l.conn == number r) (looks_of fates))) yes ∙ ap (λ (l : List Look). k ∷ l) say.seen;
      }
  own_says r (FoundFull k) s fates h say =
      let yes : (k.conn == number r) ≡ true = eq-eqb k.conn (number r) h.1.0.conn in
      record {
        among = say.among;
        seen = ap (λ (b : Bool). cond b (k ∷ filter (λ l. l.conn == number r) (looks_of fates)) (filter (λ l. l.conn == number r) (looks_of fates))) yes
            ∙ ap (λ (l : List Look). k ∷ l) say.seen;
      }

  pass_all : (r : Row) (x : Fate) (s : Row) (fates : List Fate) → Befalls t full o r x s → (rows : List Row) (later : List Fate) → AllByRecursion (λ y. number r ≢ number y) rows
      → AllFates (λ y z. Says (number y) fates z) rows later → AllFates (λ y z. Says (number y) (x ∷ fates) z) rows later
  pass_all r x s fates h [] [] apart all = tt
  pass_all r x s fates h (y ∷ rows) (z ∷ later) apart all = (passes_by r x s (number y) fates z h apart.0 all.0, pass_all r x s fates h rows later apart.1 all.1)
  pass_all r x s fates h rows later apart all = absurd all

  pub all_say : (rows : List Row) (fates : List Fate) (after : List Row) → AllBefall t full o rows fates after → Apart number rows → AllFates (λ y z. Says (number y) fates z) rows fates
  all_say [] [] [] h apart = tt
  all_say (r ∷ rows) (x ∷ fates) (s ∷ after) h apart = (
    own_says r x s fates h.0 (absent (number r) rows fates after h.1 apart.0),
    pass_all r x s fates h.0 rows fates apart.0 (all_say rows fates after h.1 apart.1),
  )
  all_say rows fates after h apart = absurd h

-- the reply tells each row its own

no_end : (x : Fate) → None ≡ ends_by None x
no_end Unmeant = refl
no_end (TooLong c) = refl
no_end (Entered k) = refl
no_end (FoundFull k) = refl

all_told : (to missed skipped : List ℕ) (looks : List Look) (rows : List Row) (fates more : List Fate) → to ≡ to_of fates → looks ≡ looks_of fates
    → AllFates (λ y z. Says (number y) fates z) rows more → AllFates (λ y z. Told None (SentAll to missed skipped) looks (number y) z) rows more
all_told to missed skipped looks [] fates [] a b all = tt
all_told to missed skipped looks (y ∷ rows) fates (z ∷ more) a b all = (
  record {
    named = ap (is_among (number y)) a ∙ all.0.among;
    seen = ap (filter (λ (k : Look). k.conn == number y)) b ∙ all.0.seen;
    ended = no_end z;
  },
  all_told to missed skipped looks rows fates more a b all.1,
)
all_told to missed skipped looks rows fates more a b all = absurd all

-- the three lists are those of the history

module _ (a : About) (S : List Stamped) (q : Connection → Bool) (o : List ℕ) (looks : List Look) where
  abbrev pub t : Row → Bool
  t r = is_open r && q (connection r)

  abbrev pub long : Connection → Bool
  long c = is_too_long o c

  abbrev pub full : Connection → Bool
  full c = is_found_full a (sent a (entries S) c.number) looks c.number

  abbrev pub Picks : (Connection → Bool) → (Fate → List ℕ) → Row → Fate → Type 0
  Picks p f r x = f x ≡ cond (t r && p (connection r)) (number r ∷ []) []

  by_test : (p : Connection → Bool) (f : Fate → List ℕ) (r : Row) (x : Fate) (b : Bool) (l : List ℕ) → t r ≡ b → f x ≡ l → cond (b && p (connection r)) (number r ∷ []) [] ≡ l → Picks p f r x
  by_test p f r x b l e g h = g ∙ sym h ∙ sym (ap (λ (b : Bool). cond (b && p (connection r)) (number r ∷ []) []) e)

  skip_one : (r : Row) (x : Fate) (s : Row) → Befalls t None o r x s → Picks long skipped_in r x
  skip_one r Unmeant s h = by_test long skipped_in r Unmeant false [] h.0 refl refl
  skip_one r (TooLong c) s h = by_test long skipped_in r (TooLong c) true (c ∷ []) h.0 refl (ap (λ (b : Bool). cond b (number r ∷ []) []) h.1.0 ∙ ap (λ (n : ℕ). n ∷ []) (sym h.1.1))
  skip_one r (Entered k) s h = by_test long skipped_in r (Entered k) true [] h.0 refl (ap (λ (b : Bool). cond b (number r ∷ []) []) h.1.0.fits)
  skip_one r (FoundFull k) s h = by_test long skipped_in r (FoundFull k) true [] h.0 refl (ap (λ (b : Bool). cond b (number r ∷ []) []) h.1.0.fits)

  miss_one : (r : Row) (x : Fate) (s : Row) → full (connection r) ≡ is_full x → Befalls t None o r x s → Picks (λ c. not (long c) && full c) missed_in r x
  miss_one r Unmeant s e h = by_test (λ c. not (long c) && full c) missed_in r Unmeant false [] h.0 refl refl
  miss_one r (TooLong c) s e h = by_test (λ c. not (long c) && full c) missed_in r (TooLong c) true [] h.0 refl (ap (λ (b : Bool). cond (not b && full (connection r)) (number r ∷ []) []) h.1.0)
  miss_one r (Entered k) s e h = by_test (λ c. not (long c) && full c) missed_in r (Entered k) true [] h.0 refl
      (ap (λ (b : Bool). cond (not b && full (connection r)) (number r ∷ []) []) h.1.0.fits ∙ ap (λ (b : Bool). cond b (number r ∷ []) []) e)
  miss_one r (FoundFull k) s e h = by_test (λ c. not (long c) && full c) missed_in r (FoundFull k) true (k.conn ∷ []) h.0 refl
      (ap (λ (b : Bool). cond (not b && full (connection r)) (number r ∷ []) []) h.1.0.fits ∙ ap (λ (b : Bool). cond b (number r ∷ []) []) e ∙ ap (λ (n : ℕ). n ∷ []) (sym h.1.0.conn))

  join_one : (r : Row) (x : Fate) (s : Row) → full (connection r) ≡ is_full x → Befalls t None o r x s → Picks (λ c. not (long c) && not (full c)) to_in r x
  join_one r Unmeant s e h = by_test (λ c. not (long c) && not (full c)) to_in r Unmeant false [] h.0 refl refl
  join_one r (TooLong c) s e h = by_test (λ c. not (long c) && not (full c)) to_in r (TooLong c) true [] h.0 refl
      (ap (λ (b : Bool). cond (not b && not (full (connection r))) (number r ∷ []) []) h.1.0)
  join_one r (Entered k) s e h = by_test (λ c. not (long c) && not (full c)) to_in r (Entered k) true (k.conn ∷ []) h.0 refl
      (ap (λ (b : Bool). cond (not b && not (full (connection r))) (number r ∷ []) []) h.1.0.fits ∙ ap (λ (b : Bool). cond (not b) (number r ∷ []) []) e ∙ ap (λ (n : ℕ). n ∷ []) (sym h.1.0.conn))
  join_one r (FoundFull k) s e h = by_test (λ c. not (long c) && not (full c)) to_in r (FoundFull k) true [] h.0 refl
      (ap (λ (b : Bool). cond (not b && not (full (connection r))) (number r ∷ []) []) h.1.0.fits ∙ ap (λ (b : Bool). cond (not b) (number r ∷ []) []) e)

-- how many each list names

short_one : (f : Fate → List ℕ) → ((x : Fate) → length (f x) ≤ 1) → (t : Row → Bool) (full : Option End) (o : List ℕ) (rows : List Row) (fates : List Fate) (after : List Row)
    → AllBefall t full o rows fates after → length (flat_map f fates) ≤ length rows
short_one f one t full o [] [] [] h = omega arith
short_one f one t full o (r ∷ rows) (x ∷ fates) (s ∷ after) h =
    let here = one x in
    let rest = short_one f one t full o rows fates after h.1 in
    let both = length-append (f x) (flat_map f fates) in
    omega arith
short_one f one t full o rows fates after h = absurd h

pub few_to : (t : Row → Bool) (full : Option End) (o : List ℕ) (rows : List Row) (fates : List Fate) (after : List Row) → AllBefall t full o rows fates after → length (to_of fates) ≤ length rows
few_to t full o rows fates after h = short_one to_in one t full o rows fates after h
  where
    one : (x : Fate) → length (to_in x) ≤ 1
    one Unmeant = omega arith
    one (TooLong c) = omega arith
    one (Entered k) = omega arith
    one (FoundFull k) = omega arith

pub few_missed : (t : Row → Bool) (full : Option End) (o : List ℕ) (rows : List Row) (fates : List Fate) (after : List Row) → AllBefall t full o rows fates after
    → length (missed_of fates) ≤ length rows
few_missed t full o rows fates after h = short_one missed_in one t full o rows fates after h
  where
    one : (x : Fate) → length (missed_in x) ≤ 1
    one Unmeant = omega arith
    one (TooLong c) = omega arith
    one (Entered k) = omega arith
    one (FoundFull k) = omega arith

-- the entry

pub counted_all : (caller conn : ℕ) (m : List ℕ) (looks : List Look) (to missed skipped : List ℕ) → is_broadcast m ≡ true
    → broadcast_counts (length to) (length missed) ≡ counts_of (forward_entry caller conn m looks (SentAll to missed skipped))
counted_all caller conn m looks to missed skipped all = rw all refl

pub unserved_all : (caller conn : ℕ) (m : List ℕ) (w : Option End) → is_broadcast m ≡ true → broadcast_counts 0 0 ≡ counts_of (forward_entry caller conn m [] (unserved w))
unserved_all caller conn m None all = rw all refl
unserved_all caller conn m (Some e) all = rw all refl

pub is_meant_open : (conn : ℕ) (r : Row) → is_meant conn r ≡ true → is_open r ≡ true
is_meant_open conn r h = (and_parts (is_open r) (not (r.connection.number == conn)) h).0

-- What is shown of a broadcast that was sent: its entry is lawful, and the reply tells each row its own.
record IsSentAll (d : Desk) (S : List Stamped) (caller conn : ℕ) (f : Frame) (fates : List Fate) : Type 0 where
  lawful : Lawful d.about (moment (entries S) (forward_entry caller conn f.message (looks_of fates) (SentAll (to_of fates) (missed_of fates) (skipped_of fates))))
  told : AllFates (λ y z. Told None (SentAll (to_of fates) (missed_of fates) (skipped_of fates)) (looks_of fates) (number y) z) d.rows.items fates

core : (d : Desk) (S : List Stamped) (caller conn : ℕ) (f : Frame) (fates : List Fate) (after : List Row) → DeskStands d S → IsRowOf d caller conn f.sender → has_route f.message ≡ true
    → is_broadcast f.message ≡ true → d.tally.made < d.about.limits.calls → d.stopped_at ≡ None → end_of d conn ≡ None
    → AllBefall (is_meant conn) None (out f.message f.sender) d.rows.items fates after → IsSentAll d S caller conn f fates
core d S caller conn f fates after p is route every calls on current all =
    let a = d.about in
    let H = entries S in
    let m = f.message in
    let o = out m f.sender in
    let rows = d.rows.items in
    let q = means m conn in
    let T = λ (r : Row). is_open r && q (connection r) in
    let looks = looks_of fates in
    let reply = SentAll (to_of fates) (missed_of fates) (skipped_of fates) in
    let test : (r : Row) → is_meant conn r ≡ T r = λ r. sym (ap (λ (b : Bool). is_open r && cond b (not (r.connection.number == conn)) (same_vmac r.connection.who.vmac (destination m))) every) in
    let meant_all = all_test (is_meant conn) None o T rows fates after test all in
    let say = all_say (is_meant conn) None o rows fates after all (rows_apart d S p) in
    let told = all_told (to_of fates) (missed_of fates) (skipped_of fates) looks rows fates fates refl refl say in
    let full = λ (c : Connection). is_found_full a (sent a H c.number) looks c.number in
    let finds = more_said T None o (IsKept a S) (λ r x. Says (number r) fates x) (λ r x. full (connection r) ≡ is_full x) rows fates after
    (λ r x s k y h. full_seen a S T None o looks r x s k.1 y.seen h) (kept d S p) say meant_all in
    let joined = picks q (λ c. not (is_too_long o c) && not (full c)) to_in rows fates
    (more_said T None o (IsKept a S) (λ r x. full (connection r) ≡ is_full x)
    (λ r x. to_in x ≡ cond (T r && (not (is_too_long o (connection r)) && not (full (connection r)))) (number r ∷ []) []) rows fates after
    (λ r x s k y h. join_one a S q o looks r x s y h) (kept d S p) finds meant_all) in
    let missing = picks q (λ c. not (is_too_long o c) && full c) missed_in rows fates
    (more_said T None o (IsKept a S) (λ r x. full (connection r) ≡ is_full x)
    (λ r x. missed_in x ≡ cond (T r && (not (is_too_long o (connection r)) && full (connection r))) (number r ∷ []) []) rows fates after (λ r x s k y h. miss_one a S q o looks r x s y h)
    (kept d S p) finds meant_all) in
    let skipping = picks q (λ c. is_too_long o c) skipped_in rows fates (more_said T None o (IsKept a S) (λ r x. full (connection r) ≡ is_full x)
    (λ r x. skipped_in x ≡ cond (T r && is_too_long o (connection r)) (number r ∷ []) []) rows fates after (λ r x s k y h. skip_one a S q o looks r x s h) (kept d S p) finds meant_all) in
    let lists : reply ≡ broadcast_reply a H o looks (filter q (map connection (filter is_open rows))) = rw (joined, missing, skipping) refl in
    let live = live_rows d S p in
    let says : reply ≡ served a H conn m o looks = lists ∙ ap (λ (l : List Connection). broadcast_reply a H o looks (filter q l)) (sym live)
    ∙ sym (ap (λ (b : Bool). cond b (broadcast_reply a H o looks (meant H conn m)) (unicast_reply a H m o looks (holder H (destination m)))) every) in
    let lawful = lawful_served d S caller conn f looks reply p is route calls on current says (looks_named d S conn m o None fates after p meant_all)
    (can_all a S T None o rows fates after p.inlets meant_all) in
    record { lawful = lawful; told = told }

pub lawful_all : (d : Desk) (S : List Stamped) (caller conn : ℕ) (f : Frame) (fates : List Fate) (after : List Row) (to missed skipped : List ℕ) (looks : List Look) → DeskStands d S
    → IsRowOf d caller conn f.sender → has_route f.message ≡ true → is_broadcast f.message ≡ true → d.tally.made < d.about.limits.calls → d.stopped_at ≡ None → end_of d conn ≡ None
    → AllBefall (is_meant conn) None (out f.message f.sender) d.rows.items fates after → to ≡ to_of fates → missed ≡ missed_of fates → skipped ≡ skipped_of fates → looks ≡ looks_of fates
    → Lawful d.about (moment (entries S) (forward_entry caller conn f.message looks (SentAll to missed skipped)))
lawful_all d S caller conn f fates after to missed skipped looks p is route every calls on current all a b c e =
    rw (a, b, c, e) (core d S caller conn f fates after p is route every calls on current all).lawful

pub stands_all : (d n : Desk) (S : List Stamped) (caller conn : ℕ) (f : Frame) (fates : List Fate) (to missed skipped : List ℕ) (looks : List Look) (count_to count_missed : ℕ)
    → DeskStands d S → IsRowOf d caller conn f.sender → has_route f.message ≡ true → is_broadcast f.message ≡ true → d.tally.made < d.about.limits.calls → d.stopped_at ≡ None
    → end_of d conn ≡ None → AllBefall (is_meant conn) None (out f.message f.sender) d.rows.items fates n.rows.items → to ≡ to_of fates → missed ≡ missed_of fates
    → skipped ≡ skipped_of fates → looks ≡ looks_of fates → count_to ≡ length (to_of fates) → count_missed ≡ length (missed_of fates) → n.about ≡ d.about → n.stopped_at ≡ d.stopped_at
    → n.tally.made ≡ d.tally.made + 1 → n.tally.counts ≡ plus d.tally.counts (broadcast_counts count_to count_missed)
    → DeskStands n (S ++ plain (forward_entry caller conn f.message looks (SentAll to missed skipped)) ∷ [])
stands_all d n S caller conn f fates to missed skipped looks k j p is route every calls on current all a b c e g h about stop made count =
    let it = core d S caller conn f fates n.rows.items p is route every calls on current all in
    let reply = SentAll (to_of fates) (missed_of fates) (skipped_of fates) in
    let counted = count ∙ ap (λ (x : ℕ). plus d.tally.counts (broadcast_counts x j)) g ∙ ap (λ (x : ℕ). plus d.tally.counts (broadcast_counts (length (to_of fates)) x)) h
    ∙ ap (plus d.tally.counts) (counted_all caller conn f.message (looks_of fates) (to_of fates) (missed_of fates) (skipped_of fates) every) in
    rw (a, b, c, e) (stands_sent d n S caller conn f (looks_of fates) reply (is_meant conn) None fates p is it.lawful (is_meant_open conn) all it.told about stop made counted)
