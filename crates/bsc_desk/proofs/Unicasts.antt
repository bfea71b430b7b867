-- A unicast: it goes to the row of its holder, if there is one.
-- It serves the clauses of `drop_one`, `holds_at` and `send_one`.
use Rattle.std.proofs.Common.{◌≡◌, ◌≢◌, ℕ, zero, suc, ◌+◌, ◌<◌, ◌==◌, Bool, true, false, not, ◌&&◌, cond, List, [], ◌∷◌, ◌++◌, length, map, find, get_or, Option, Some, None}
use Rattle.std.proofs.Common.{is_some, refl, ap, sym, ◌∙◌, subst, arith, append-nil}
use Rattle.std.specs.List.{list_any, list_all, position, AllByRecursion}
use Rattle.std.specs.Option.{option_map}
use Rattle.std.specs.Cmp.Lexicographic.{same_text, bytes_decides}
use Rattle.std.proofs.lemmas.Bool.{both_ways, eq-eqb, false_from_ne_true, ne_eqb, not-true, and_parts, or_parts}
use Rattle.std.proofs.lemmas.List.{get_or_default}
use Rattle.std.proofs.lemmas.List.Quantifiers.{position-Some}
use Rattle.bsc_octets.specs.declared.vmac.Vmac.{Vmac}
use Rattle.bsc_octets.specs.Addresses.{same_vmac}
use Rattle.bsc_octets.specs.Forwarding.{destination, has_route, is_broadcast, out}
use Rattle.bsc_history.specs.declared.limits.About.{About}
use Rattle.bsc_history.specs.declared.connection.Connection.{Connection}
use Rattle.bsc_history.specs.declared.ending.End.{End}
use Rattle.bsc_history.specs.declared.ending.End.TheVariants.{Full}
use Rattle.bsc_history.specs.declared.looks.Look.{Look}
use Rattle.bsc_history.specs.declared.mark.Stamped.{Stamped}
use Rattle.bsc_history.specs.declared.reply.Reply.{Reply}
use Rattle.bsc_history.specs.declared.reply.Reply.TheVariants.{Appended, Closed, Skipped}
use Rattle.bsc_history.specs.Counting.{counts_of, plus}
use Rattle.bsc_history.specs.Entries.{moment}
use Rattle.bsc_history.specs.Holders.{holder}
use Rattle.bsc_history.specs.Laws.{Apart}
use Rattle.bsc_history.specs.Legality.{Lawful, can_find}
use Rattle.bsc_history.specs.Marks.{entries}
use Rattle.bsc_history.specs.Outboxes.{is_found_full, meant, means, sent}
use Rattle.bsc_history.specs.Replies.{broadcast_reply, unicast_reply}
use Rattle.bsc_history.proofs.Uniqueness.{is_None}
use Rattle.bsc_desk.specs.declared.desk.Desk.{Desk}
use Rattle.bsc_desk.specs.declared.fate.Fate.{Fate}
use Rattle.bsc_desk.specs.declared.fate.Fate.TheVariants.{Unmeant, TooLong, Entered, FoundFull}
use Rattle.bsc_desk.specs.declared.forwarding.OneReply.{OneReply}
use Rattle.bsc_desk.specs.declared.forwarding.OneReply.TheVariants.{Appended as OneAppended, Closed as OneClosed, Skipped as OneSkipped, NoHolder as OneNoHolder}
use Rattle.bsc_desk.specs.declared.forwarding.OneReply.TheVariants.{NotCurrent as OneNotCurrent, Stopped as OneStopped}
use Rattle.bsc_desk.specs.declared.row.Row.{Row}
use Rattle.bsc_desk.specs.Changes.{ChangesAt}
use Rattle.bsc_desk.specs.Counted.{unicast_counts}
use Rattle.bsc_desk.specs.Entries.{forward_entry, one_looks, one_reply, one_unserved, plain, unserved}
use Rattle.bsc_desk.specs.Fates.{AllBefall, Befalls, Fares, FaresAt, IsOpenAt, looks_in, looks_of, one_said}
use Rattle.bsc_desk.specs.Frames.{Frame}
use Rattle.bsc_desk.specs.Directories.{gives_way}
use Rattle.bsc_desk.specs.Live.{connection, is_open, number}
use Rattle.bsc_desk.specs.Orders.{address_of, in_order, same_key}
use Rattle.bsc_desk.specs.Rows.{IsRowOf, end_of}
use Rattle.bsc_desk.specs.Standing.{DeskStands, IsInletOf}
use Rattle.bsc_desk.proofs.Fared.{AllFates, Told, all_test, can_all, full_seen}
use Rattle.bsc_desk.proofs.Forwards.{lawful_served, looks_named, served, stands_sent}
use Rattle.bsc_desk.proofs.LiveRows.{live_found}
use Rattle.bsc_desk.proofs.Newest.{no_find}
use Rattle.bsc_desk.proofs.Orders.{InOrder, order_true}
use Rattle.bsc_desk.proofs.Standings.{rows_apart}
use Rattle.bsc_desk.proofs.Walks.{OnlyAt, all_at}
use Rattle.bsc_lemmas.proofs.Lists.{position-cons, position_any}

-- whether the row is that of the live connection with the address
abbrev pub holds : Vmac → Row → Bool
holds v r = is_open r && same_vmac r.connection.who.vmac v

-- no row behind the holder's is live and has its address

behind_holder : (v : Vmac) (r : Row) (rows : List Row) → holds v r ≡ true → AllByRecursion (λ s. gives_way address_of r s ≡ true) rows → AllByRecursion (λ y. holds v y ≡ false) rows
behind_holder v r [] is all = tt
behind_holder v r (y ∷ rows) is all =
    let mine = and_parts (is_open r) (same_vmac r.connection.who.vmac v) is in
    let other : same_key (address_of r.connection) (address_of y.connection) ≡ false =
    not-true (same_key (address_of r.connection) (address_of y.connection)) (ap (λ (b : Bool). not (b && same_key (address_of r.connection) (address_of y.connection))) (sym mine.0) ∙ all.0) in (
      false_from_ne_true (holds v y) (λ h. (
          let its = and_parts (is_open y) (same_vmac y.connection.who.vmac v) h in
          both_ways (same_key (address_of r.connection) (address_of y.connection)) other
          ((bytes_decides (address_of r.connection) (address_of y.connection)).1
          (same_text (address_of r.connection) v.0 (sym mine.1) ∙ sym (same_text (address_of y.connection) v.0 (sym its.1)))))),
      behind_holder v r rows is all.1,
    )

only_from : (v : Vmac) (i : ℕ) (rows : List Row) (d : Row) → i < length rows → holds v (get_or rows i d) ≡ true → ((k : ℕ) → k < i → holds v (get_or rows k d) ≡ false)
    → InOrder (λ r s. gives_way address_of r s ≡ true) rows → OnlyAt (holds v) i rows
only_from v i [] d within here before order = absurd (omega arith)
only_from v zero (r ∷ rows) d within here before order = (here, behind_holder v r rows here order.0)
only_from v (suc i) (r ∷ rows) d within here before order = (before 0 (omega arith), only_from v i rows d (omega arith) here (λ k h. before (suc k) (omega arith)) order.1)

pub only_holder : (v : Vmac) (i : ℕ) (rows : List Row) → position (holds v) rows ≡ Some i → in_order (gives_way address_of) rows ≡ true → OnlyAt (holds v) i rows
only_holder v i [] place order = absurd (nowhere place)
  where
    nowhere : position (holds v) [] ≡ Some i → ⊥
    nowhere e = cc
only_holder v i (r ∷ rows) place order = let p = position-Some (holds v) (r ∷ rows) i r place in only_from v i (r ∷ rows) r p.0 p.1 p.2 (order_true (gives_way address_of) (r ∷ rows) order)

-- the holder's row is open
inside : (t : Row → Bool) (i : ℕ) (rows : List Row) → position t rows ≡ Some i → i < length rows
inside t i [] p = cc
inside t i (y ∷ ys) p = (position-Some t (y ∷ ys) i y p).0

pub open_at : (v : Vmac) (place : Option ℕ) (rows : List Row) → place ≡ position (holds v) rows → IsOpenAt place rows
open_at v None rows is = tt
open_at v (Some i) rows is = (
  inside (holds v) i rows (sym is),
  λ r same. is_None r.ending
      (and_parts (is_open r) (same_vmac r.connection.who.vmac v) (subst (λ z. holds v z ≡ true) (sym same) (position-Some (holds v) rows i r (sym is)).1)).0,
)

-- the fates of a unicast: its own at the holder's row, and none elsewhere

abbrev pub nobody : List Row → List Fate
nobody [] = []
nobody (r ∷ rows) = Unmeant ∷ nobody rows

abbrev pub somebody : ℕ → Fate → List Row → List Fate
somebody i x [] = []
somebody zero x (r ∷ rows) = x ∷ nobody rows
somebody (suc i) x (r ∷ rows) = Unmeant ∷ somebody i x rows

pub nobody_looks : (rows : List Row) → looks_of (nobody rows) ≡ []
nobody_looks [] = refl
nobody_looks (r ∷ rows) = nobody_looks rows

pub somebody_looks : (t : Row → Bool) (i : ℕ) (x : Fate) (rows : List Row) → OnlyAt t i rows → looks_of (somebody i x rows) ≡ looks_in x
somebody_looks t i x [] only = absurd only
somebody_looks t zero x (r ∷ rows) only = ap (λ (l : List Look). looks_in x ++ l) (nobody_looks rows) ∙ append-nil (looks_in x)
somebody_looks t (suc i) x (r ∷ rows) only = somebody_looks t i x rows only.1

nobody_all : (t : Row → Bool) (full : Option End) (o : List ℕ) (rows : List Row) → AllByRecursion (λ y. t y ≡ false) rows → AllBefall t full o rows (nobody rows) rows
nobody_all t full o [] none = tt
nobody_all t full o (r ∷ rows) none = ((none.0, refl), nobody_all t full o rows none.1)

at_meant : (t : Row → Bool) (full : Option End) (o : List ℕ) (r : Row) (x : Fate) (s : Row) → t r ≡ true → Fares full o r x s → Befalls t full o r x s
at_meant t full o r Unmeant s e h = absurd h
at_meant t full o r (TooLong c) s e h = (e, h)
at_meant t full o r (Entered k) s e h = (e, h)
at_meant t full o r (FoundFull k) s e h = (e, h)

somebody_all : (t : Row → Bool) (full : Option End) (o : List ℕ) (i : ℕ) (x : Fate) (rows after : List Row) → OnlyAt t i rows → ChangesAt (λ r s. Fares full o r x s) i rows after
    → AllBefall t full o rows (somebody i x rows) after
somebody_all t full o zero x (r ∷ rows) (s ∷ after) only h = (at_meant t full o r x s only.0 h.0, subst (AllBefall t full o rows (nobody rows)) (sym h.1) (nobody_all t full o rows only.1))
somebody_all t full o (suc i) x (r ∷ rows) (s ∷ after) only h = ((only.0, h.0), somebody_all t full o i x rows after only.1 h.1)
somebody_all t full o i x rows after only h = absurd h

-- what the reply of a unicast tells of its holder, and of others

abbrev pub OneTold : Fate → ℕ → Fate → Type 0
OneTold x c z = Told (Some Full) (one_reply (one_said x)) (looks_in x) c z

told_own : (o : List ℕ) (r : Row) (x : Fate) (s : Row) → Fares (Some Full) o r x s → OneTold x (number r) x
told_own o r Unmeant s h = absurd h
told_own o r (TooLong c) s h = record { named = refl; seen = refl; ended = refl }
told_own o r (Entered k) s h = (let yes : (k.conn == number r) ≡ true = eq-eqb k.conn (number r) h.0.conn in record { named = yes; seen = rw yes refl; ended = refl })
told_own o r (FoundFull k) s h = (let yes : (k.conn == number r) ≡ true = eq-eqb k.conn (number r) h.0.conn in record { named = refl; seen = rw yes refl; ended = rw yes refl })

told_other : (o : List ℕ) (r : Row) (x : Fate) (s : Row) (c : ℕ) → Fares (Some Full) o r x s → number r ≢ c → OneTold x c Unmeant
told_other o r Unmeant s c h other = absurd h
told_other o r (TooLong d) s c h other = record { named = refl; seen = refl; ended = refl }
told_other o r (Entered k) s c h other = (let no : (k.conn == c) ≡ false = ne_eqb k.conn c (λ e. other (sym h.0.conn ∙ e)) in record { named = no; seen = rw no refl; ended = refl })
told_other o r (FoundFull k) s c h other = (let no : (k.conn == c) ≡ false = ne_eqb k.conn c (λ e. other (sym h.0.conn ∙ e)) in record { named = refl; seen = rw no refl; ended = rw no refl })

told_nobody : (o : List ℕ) (r : Row) (x : Fate) (s : Row) (rows : List Row) → Fares (Some Full) o r x s → AllByRecursion (λ y. number r ≢ number y) rows
    → AllFates (λ y z. OneTold x (number y) z) rows (nobody rows)
told_nobody o r x s [] h apart = tt
told_nobody o r x s (y ∷ rows) h apart = (told_other o r x s (number y) h apart.0, told_nobody o r x s rows h apart.1)

its_row : (R : Row → Row → Type 0) (P : Row → Type 0) (i : ℕ) (rows after : List Row) → ChangesAt R i rows after → AllByRecursion P rows → (y : Row) × (z : Row) × R y z × P y
its_row R P zero (r ∷ rows) (s ∷ after) h all = (r, s, h.0, all.0)
its_row R P (suc i) (r ∷ rows) (s ∷ after) h all = its_row R P i rows after h.1 all.1
its_row R P i rows after h all = absurd h

told_somebody : (o : List ℕ) (x : Fate) (i : ℕ) (rows after : List Row) → ChangesAt (λ r s. Fares (Some Full) o r x s) i rows after → Apart number rows
    → AllFates (λ y z. OneTold x (number y) z) rows (somebody i x rows)
told_somebody o x zero (r ∷ rows) (s ∷ after) h apart = (told_own o r x s h.0, told_nobody o r x s rows h.0 apart.0)
told_somebody o x (suc i) (r ∷ rows) (s ∷ after) h apart =
    let at = its_row (λ r s. Fares (Some Full) o r x s) (λ y. number r ≢ number y) i rows after h.1 apart.0 in
    (told_other o at.0 x at.1 (number r) at.2 (λ e. at.3 (sym e)), told_somebody o x i rows after h.1 apart.1)
told_somebody o x i rows after h apart = absurd h

told_none : (rows : List Row) → AllFates (λ y z. OneTold Unmeant (number y) z) rows (nobody rows)
told_none [] = tt
told_none (y ∷ rows) = (record { named = refl; seen = refl; ended = refl }, told_none rows)

-- the reply is the one that the history asks for

said_one : (a : About) (S : List Stamped) (m o : List ℕ) (r : Row) (x : Fate) (s : Row) → IsInletOf a S (number r) r.inlet → Fares (Some Full) o r x s
    → one_reply (one_said x) ≡ unicast_reply a (entries S) m o (looks_in x) (Some (connection r))
said_one a S m o r Unmeant s p h = absurd h
said_one a S m o r (TooLong c) s p h = ap Skipped h.1 ∙ sym (ap (λ (b : Bool). cond b (Skipped (number r))
    (cond (is_found_full a (sent a (entries S) (number r)) [] (number r)) (Closed (number r)) (Appended (number r)))) h.0)
said_one a S m o r (Entered k) s p h =
    let n = number r in
    let full : is_found_full a (sent a (entries S) n) (k ∷ []) n ≡ false = full_seen a S (λ y. true) (Some Full) o (k ∷ []) r (Entered k) s p (told_own o r (Entered k) s h).seen (refl, h) in
    ap Appended h.0.conn ∙ sym (ap (λ (b : Bool). cond b (Skipped n) (cond (is_found_full a (sent a (entries S) n) (k ∷ []) n) (Closed n) (Appended n))) h.0.fits
    ∙ ap (λ (b : Bool). cond b (Closed n) (Appended n)) full)
said_one a S m o r (FoundFull k) s p h =
    let n = number r in
    let full : is_found_full a (sent a (entries S) n) (k ∷ []) n ≡ true = full_seen a S (λ y. true) (Some Full) o (k ∷ []) r (FoundFull k) s p (told_own o r (FoundFull k) s h).seen (refl, h) in
    ap Closed h.0.conn ∙ sym (ap (λ (b : Bool). cond b (Skipped n) (cond (is_found_full a (sent a (entries S) n) (k ∷ []) n) (Closed n) (Appended n))) h.0.fits
    ∙ ap (λ (b : Bool). cond b (Closed n) (Appended n)) full)

said_at : (a : About) (S : List Stamped) (m o : List ℕ) (t : Row → Bool) (x : Fate) (i : ℕ) (rows after : List Row) → OnlyAt t i rows
    → ChangesAt (λ r s. Fares (Some Full) o r x s) i rows after → AllByRecursion (λ r. IsInletOf a S r.connection.number r.inlet) rows
    → one_reply (one_said x) ≡ unicast_reply a (entries S) m o (looks_in x) (option_map connection (find t rows))
said_at a S m o t x zero (r ∷ rows) (s ∷ after) only h all = said_one a S m o r x s all.0 h.0
    ∙ sym (ap (λ (b : Bool). unicast_reply a (entries S) m o (looks_in x) (option_map connection (cond b (Some r) (find t rows)))) only.0)
said_at a S m o t x (suc i) (r ∷ rows) (s ∷ after) only h all = said_at a S m o t x i rows after only.1 h.1 all.1
    ∙ sym (ap (λ (b : Bool). unicast_reply a (entries S) m o (looks_in x) (option_map connection (cond b (Some r) (find t rows)))) only.0)
said_at a S m o t x i rows after only h all = absurd h

-- all of it, by the place of the holder's row

none_hold : (t : Row → Bool) (rows : List Row) → list_any t rows ≡ false → AllByRecursion (λ y. t y ≡ false) rows
none_hold t [] none = tt
none_hold t (r ∷ rows) none = let two = or_parts (t r) (list_any t rows) none in (two.0, none_hold t rows two.1)

-- What a unicast does to the rows, and what is told of it.
pub record GoesToHolder (a : About) (S : List Stamped) (m o : List ℕ) (t : Row → Bool) (x : Fate) (rows after : List Row) : Type 0 where
  pub fates : List Fate
  pub all : AllBefall t (Some Full) o rows fates after
  pub looks : looks_of fates ≡ looks_in x
  pub told : AllFates (λ y z. OneTold x (number y) z) rows fates
  pub said : one_reply (one_said x) ≡ unicast_reply a (entries S) m o (looks_in x) (option_map connection (find t rows))

pub goes_to_holder : (a : About) (S : List Stamped) (m o : List ℕ) (v : Vmac) (place : Option ℕ) (x : Fate) (rows after : List Row)
    → AllByRecursion (λ r. IsInletOf a S r.connection.number r.inlet) rows → Apart number rows → in_order (gives_way address_of) rows ≡ true → place ≡ position (holds v) rows
    → FaresAt place o rows x after → GoesToHolder a S m o (holds v) x rows after
goes_to_holder a S m o v None x rows after all apart order is h =
    let none = none_hold (holds v) rows (sym (position_any (holds v) rows) ∙ ap is_some (sym is)) in
    subst (λ z. GoesToHolder a S m o (holds v) z rows after) (sym h.0) (record {
      fates = nobody rows;
      all = subst (AllBefall (holds v) (Some Full) o rows (nobody rows)) (sym h.1) (nobody_all (holds v) (Some Full) o rows none);
      looks = nobody_looks rows;
      told = told_none rows;
      said = ap (λ (w : Option Row). unicast_reply a (entries S) m o [] (option_map connection w)) (sym (no_find (holds v) rows (sym is)));
    })
goes_to_holder a S m o v (Some i) x rows after all apart order is h =
    let only = only_holder v i rows (sym is) order in
    record {
      fates = somebody i x rows;
      all = somebody_all (holds v) (Some Full) o i x rows after only h;
      looks = somebody_looks (holds v) i x rows only;
      told = told_somebody o x i rows after h apart;
      said = said_at a S m o (holds v) x i rows after only h all;
    }

-- the entry

looks_said : (x : Fate) → one_looks (one_said x) ≡ looks_in x
looks_said Unmeant = refl
looks_said (TooLong c) = refl
looks_said (Entered k) = refl
looks_said (FoundFull k) = refl

pub counted_one : (caller conn : ℕ) (m : List ℕ) (looks : List Look) (r : OneReply) → is_broadcast m ≡ false
    → unicast_counts (one_reply r) ≡ counts_of (forward_entry caller conn m looks (one_reply r))
counted_one caller conn m looks (OneAppended k) one = rw one refl
counted_one caller conn m looks (OneClosed k) one = rw one refl
counted_one caller conn m looks (OneSkipped c) one = rw one refl
counted_one caller conn m looks OneNoHolder one = rw one refl
counted_one caller conn m looks (OneNotCurrent e) one = rw one refl
counted_one caller conn m looks OneStopped one = rw one refl

pub unserved_one : (caller conn : ℕ) (m : List ℕ) (w : Option End) (r : OneReply) → r ≡ one_unserved w → is_broadcast m ≡ false
    → unicast_counts (one_reply r) ≡ counts_of (forward_entry caller conn m [] (unserved w))
unserved_one caller conn m w r is one =
    let said : one_reply (one_unserved w) ≡ unserved w = elim w as (λ w. one_reply (one_unserved w) ≡ unserved w) [ None ↦ refl | Some e ↦ refl ] in
    ap (λ (y : OneReply). unicast_counts (one_reply y)) is ∙ counted_one caller conn m [] (one_unserved w) one ∙ ap (λ (y : Reply). counts_of (forward_entry caller conn m [] y)) said

pub holds_open : (v : Vmac) (r : Row) → holds v r ≡ true → is_open r ≡ true
holds_open v r h = (and_parts (is_open r) (same_vmac r.connection.who.vmac v) h).0

-- What is shown of a unicast that was sent: its entry is lawful, and the rows went so.
record Sends (d : Desk) (S : List Stamped) (caller conn : ℕ) (f : Frame) (x : Fate) (after : List Row) : Type 0 where
  lawful : Lawful d.about (moment (entries S) (forward_entry caller conn f.message (looks_in x) (one_reply (one_said x))))
  goes : GoesToHolder d.about S f.message (out f.message f.sender) (holds (destination f.message)) x d.rows.items after

core : (d : Desk) (S : List Stamped) (caller conn : ℕ) (f : Frame) (place : Option ℕ) (x : Fate) (after : List Row) → DeskStands d S → IsRowOf d caller conn f.sender
    → has_route f.message ≡ true → is_broadcast f.message ≡ false → d.tally.made < d.about.limits.calls → d.stopped_at ≡ None → end_of d conn ≡ None
    → place ≡ position (holds (destination f.message)) d.rows.items → FaresAt place (out f.message f.sender) d.rows.items x after → Sends d S caller conn f x after
core d S caller conn f place x after p is route one calls on current at fares =
    let a = d.about in
    let H = entries S in
    let m = f.message in
    let o = out m f.sender in
    let v = destination m in
    let rows = d.rows.items in
    let go = goes_to_holder a S m o v place x rows after p.inlets (rows_apart d S p) d.filed.one_at at fares in
    let test : (r : Row) → holds v r ≡ (is_open r && means m conn (connection r)) =
    λ r. sym (ap (λ (b : Bool). is_open r && cond b (not (r.connection.number == conn)) (same_vmac r.connection.who.vmac v)) one) in
    let meant_all = all_test (holds v) (Some Full) o (λ r. is_open r && means m conn (connection r)) rows go.fates after test go.all in
    let held : option_map connection (find (holds v) rows) ≡ holder H v = sym (live_found d S (λ (c : Connection). same_vmac c.who.vmac v) p) in
    let says : one_reply (one_said x) ≡ served a H conn m o (looks_in x) = go.said ∙ ap (unicast_reply a H m o (looks_in x)) held
    ∙ sym (ap (λ (b : Bool). cond b (broadcast_reply a H o (looks_in x) (meant H conn m)) (unicast_reply a H m o (looks_in x) (holder H v))) one) in
    let named = ap (map (λ (k : Look). k.conn)) (sym go.looks) ∙ looks_named d S conn m o (Some Full) go.fates after p meant_all in
    let can = ap (list_all (λ (k : Look). can_find a H k.conn k.taken)) (sym go.looks) ∙ can_all a S (holds v) (Some Full) o rows go.fates after p.inlets go.all in
    record { lawful = lawful_served d S caller conn f (looks_in x) (one_reply (one_said x)) p is route calls on current says named can; goes = go }

by_parts : (d : Desk) (S : List Stamped) (caller conn : ℕ) (f : Frame) (v : Vmac) (o : List ℕ) (place : Option ℕ) (x : Fate) (after : List Row) → DeskStands d S
    → IsRowOf d caller conn f.sender → has_route f.message ≡ true → is_broadcast f.message ≡ false → d.tally.made < d.about.limits.calls → d.stopped_at ≡ None → end_of d conn ≡ None
    → v ≡ destination f.message → o ≡ out f.message f.sender → place ≡ position (holds v) d.rows.items → FaresAt place o d.rows.items x after → Sends d S caller conn f x after
by_parts d S caller conn f v o place x after p is route one calls on current to octets at fares =
    core d S caller conn f place x after p is route one calls on current (at ∙ ap (λ (w : Vmac). position (holds w) d.rows.items) to)
    (subst (λ (z : List ℕ). FaresAt place z d.rows.items x after) octets fares)

pub lawful_one : (d : Desk) (S : List Stamped) (caller conn : ℕ) (f : Frame) (v : Vmac) (o : List ℕ) (place : Option ℕ) (x : Fate) (after : List Row) (r : OneReply) → DeskStands d S
    → IsRowOf d caller conn f.sender → has_route f.message ≡ true → is_broadcast f.message ≡ false → d.tally.made < d.about.limits.calls → d.stopped_at ≡ None → end_of d conn ≡ None
    → v ≡ destination f.message → o ≡ out f.message f.sender → place ≡ position (holds v) d.rows.items → FaresAt place o d.rows.items x after → r ≡ one_said x
    → Lawful d.about (moment (entries S) (forward_entry caller conn f.message (one_looks r) (one_reply r)))
lawful_one d S caller conn f v o place x after r p is route one calls on current to octets at fares reply =
    let s = by_parts d S caller conn f v o place x after p is route one calls on current to octets at fares in
    subst (λ (y : OneReply). Lawful d.about (moment (entries S) (forward_entry caller conn f.message (one_looks y) (one_reply y)))) (sym reply)
    (subst (λ (l : List Look). Lawful d.about (moment (entries S) (forward_entry caller conn f.message l (one_reply (one_said x))))) (sym (looks_said x)) s.lawful)

pub stands_one : (d n : Desk) (S : List Stamped) (caller conn : ℕ) (f : Frame) (v : Vmac) (o : List ℕ) (place : Option ℕ) (x : Fate) (r : OneReply) → DeskStands d S
    → IsRowOf d caller conn f.sender → has_route f.message ≡ true → is_broadcast f.message ≡ false → d.tally.made < d.about.limits.calls → d.stopped_at ≡ None → end_of d conn ≡ None
    → v ≡ destination f.message → o ≡ out f.message f.sender → place ≡ position (holds v) d.rows.items → FaresAt place o d.rows.items x n.rows.items → r ≡ one_said x → n.about ≡ d.about
    → n.stopped_at ≡ d.stopped_at → n.tally.made ≡ d.tally.made + 1 → n.tally.counts ≡ plus d.tally.counts (unicast_counts (one_reply r))
    → DeskStands n (S ++ plain (forward_entry caller conn f.message (one_looks r) (one_reply r)) ∷ [])
stands_one d n S caller conn f v o place x r p is route one calls on current to octets at fares reply about stop made count =
    let s = by_parts d S caller conn f v o place x n.rows.items p is route one calls on current to octets at fares in
    let counted = count ∙ ap (λ (y : OneReply). plus d.tally.counts (unicast_counts (one_reply y))) reply
    ∙ ap (plus d.tally.counts) (counted_one caller conn f.message (looks_in x) (one_said x) one) in
    let stands = stands_sent d n S caller conn f (looks_in x) (one_reply (one_said x)) (holds (destination f.message)) (Some Full) s.goes.fates p is s.lawful
    (holds_open (destination f.message)) s.goes.all s.goes.told about stop made counted in
    subst (λ (y : OneReply). DeskStands n (S ++ plain (forward_entry caller conn f.message (one_looks y) (one_reply y)) ∷ [])) (sym reply)
    (subst (λ (l : List Look). DeskStands n (S ++ plain (forward_entry caller conn f.message l (one_reply (one_said x))) ∷ [])) (sym (looks_said x)) stands)

-- the same without a history: the fates by which the rows changed, and the looks
pub reaches : (v : Vmac) (o : List ℕ) (place : Option ℕ) (x : Fate) (r : OneReply) (rows after : List Row) → in_order (gives_way address_of) rows ≡ true → place ≡ position (holds v) rows
    → FaresAt place o rows x after → r ≡ one_said x → (fates : List Fate) × AllBefall (holds v) (Some Full) o rows fates after × (one_looks r ≡ looks_of fates)
reaches v o None x r rows after order is h reply =
    let none = none_hold (holds v) rows (sym (position_any (holds v) rows) ∙ ap is_some (sym is)) in (
      nobody rows,
      subst (AllBefall (holds v) (Some Full) o rows (nobody rows)) (sym h.1) (nobody_all (holds v) (Some Full) o rows none),
      ap one_looks (reply ∙ ap one_said h.0)
          ∙ sym (nobody_looks rows),
    )
reaches v o (Some i) x r rows after order is h reply =
    let only = only_holder v i rows (sym is) order in
    (somebody i x rows, somebody_all (holds v) (Some Full) o i x rows after only h, ap one_looks reply ∙ looks_said x ∙ sym (somebody_looks (holds v) i x rows only))

-- where the row at a place is the holder's, no other row is before it

pub at_holder : (v : Vmac) (rows : List Row) (i : ℕ) → InOrder (λ r s. gives_way address_of r s ≡ true) rows → i < length rows → ((d : Row) → holds v (get_or rows i d) ≡ true)
    → position (holds v) rows ≡ Some i
at_holder v [] i order within here = absurd (omega arith)
at_holder v (r ∷ rows) zero order within here = position-cons (holds v) r rows ∙ ap (λ (b : Bool). cond b (Some 0) (option_map (λ i. 1 + i) (position (holds v) rows))) (here r)
at_holder v (r ∷ rows) (suc i) order within here =
    let no : holds v r ≡ false = false_from_ne_true (holds v r) (λ h. both_ways (holds v (get_or rows i r))
    (all_at (λ y. holds v y ≡ false) rows i (get_or rows i r) (omega arith) (get_or_default rows i r (get_or rows i r) (omega arith)) (behind_holder v r rows h order.0)) (here r)) in
    position-cons (holds v) r rows
    ∙ ap (λ (b : Bool). cond b (Some 0) (option_map (λ i. 1 + i) (position (holds v) rows))) no
    ∙ ap (option_map (λ i. 1 + i)) (at_holder v rows i order.1 (omega arith) here)
    ∙ (let e : 1 + i ≡ suc i = omega arith in ap Some e)
