-- A leave, a stop and a count.
-- It serves clauses of functions of `desk`.
use Rattle.std.proofs.Common.{◌≡◌, ℕ, ◌+◌, ◌≤◌, ◌<◌, ◌==◌, nat_lt, Bool, true, false, not, cond, List, [], ◌∷◌, ◌++◌, length, map, filter, get_or, take, Option, Some, None}
use Rattle.std.proofs.Common.{unwrap_or, is_some, refl, ap, sym, ◌∙◌, subst, arith, append-nil, length-append}
use Rattle.std.specs.List.{position, remove, AllByRecursion}
use Rattle.std.specs.Option.{option_or}
use Rattle.std.proofs.Math.Seq.{take-append_seam}
use Rattle.std.proofs.lemmas.Bool.{and_from, eqb-true, le-leb, lt-ltb}
use Rattle.std.proofs.lemmas.List.Quantifiers.{position-Some}
use Rattle.bsc_history.specs.declared.counts.Counts.{Counts}
use Rattle.bsc_history.specs.declared.connection.Connection.{Connection}
use Rattle.bsc_history.specs.declared.ending.End.{End}
use Rattle.bsc_history.specs.declared.ending.End.TheVariants.{Left, Stopped}
use Rattle.bsc_history.specs.declared.entry.Entry.{Entry}
use Rattle.bsc_history.specs.declared.mark.Stamped.{Stamped}
use Rattle.bsc_history.specs.declared.reply.Reply.TheVariants.{Gone as GoneReply, Counted as CountedReply}
use Rattle.bsc_history.specs.Counting.{plus}
use Rattle.bsc_history.specs.Entries.{moment}
use Rattle.bsc_history.specs.Legality.{can_find, is_of, Lawful}
use Rattle.bsc_history.specs.Marks.{entries}
use Rattle.bsc_history.specs.Outboxes.{added_by, looked, sent}
use Rattle.bsc_history.specs.Replies.{is_stopped}
use Rattle.bsc_ring.specs.declared.ends.Outlet.{Outlet}
use Rattle.bsc_ring.specs.Ends.{Fit, given, inlet_mark, loads, outlet_mark, pushed}
use Rattle.bsc_ring.specs.Lists.{Item}
use Rattle.bsc_desk.specs.declared.desk.Desk.{Desk}
use Rattle.bsc_desk.specs.declared.leaving.Gone.{Gone}
use Rattle.bsc_desk.specs.declared.row.Row.{Row}
use Rattle.bsc_desk.specs.Changes.{EachBecomes, FinishesIf}
use Rattle.bsc_desk.specs.Entries.{count_entry, leave_entry, plain, stop_entry}
use Rattle.bsc_desk.specs.Live.{connection, number}
use Rattle.bsc_desk.specs.Meetings.{IsOutletOf}
use Rattle.bsc_desk.specs.Rows.{IsMarkOf, IsRowBy}
use Rattle.bsc_desk.specs.Standing.{DeskStands, IsInletOf}
use Rattle.bsc_desk.specs.Tallies.{no_counts}
use Rattle.bsc_desk.proofs.LiveRows.{owns, stopped_so}
use Rattle.bsc_desk.proofs.Looks.{newest_look}
use Rattle.bsc_desk.proofs.Removals.{connections-kept, removed}
use Rattle.bsc_desk.proofs.Standings.{IsKept, Keeps, RowGoes, follows_same, goes_all, goes_one, kept, rows_apart, stands_more, stands_same}
use Rattle.bsc_desk.proofs.Walks.{all_at, each_connections, each_weaker, has_number}
use Rattle.bsc_history.proofs.Common.{length_entries}
use Rattle.bsc_lemmas.proofs.Numbers.{eq_turned as eqb_comm}
use Rattle.bsc_lemmas.proofs.Options.{or_none}

-- the row at the place of a connection

module _ (d : Desk) (conn i : ℕ) (r : Row) (there : position (has_number conn) d.rows.items ≡ Some i) (at : r ≡ get_or d.rows.items i r) where
  pub of_conn : r.connection.number ≡ conn
  of_conn = eqb-true r.connection.number conn (subst (λ z. (z.connection.number == conn) ≡ true) (sym at) (position-Some (has_number conn) d.rows.items i r there).1)

  pub inlet_at : (S : List Stamped) → DeskStands d S → IsInletOf d.about S conn r.inlet
  inlet_at S p = subst (λ k. IsInletOf d.about S k r.inlet) of_conn (all_at (λ x. IsInletOf d.about S x.connection.number x.inlet) d.rows.items i r
      (position-Some (has_number conn) d.rows.items i r there).0 at p.inlets)

  pub mark_at : (o : Outlet) → IsMarkOf d conn (outlet_mark o) → inlet_mark r.inlet ≡ outlet_mark o
  mark_at o marks = all_at (λ x. x.connection.number ≡ conn → inlet_mark x.inlet ≡ outlet_mark o) d.rows.items i r (position-Some (has_number conn) d.rows.items i r there).0 at marks of_conn

  -- what the outlet gave, by what was pushed
  pub outlet_fits : (S : List Stamped) (o : Outlet) → DeskStands d S → Fit r.inlet o → IsOutletOf d.about (entries S) conn o
  outlet_fits S o p fit =
      let its = inlet_at S p in
      record {
        begins = (fit.0.0, sym its.items ∙ fit.0.1);
        behind = subst (λ n. n ≤ length (given o)) (newest_look d.about S conn r.inlet its) fit.1;
        ends = λ e found. sym its.finished ∙ fit.2 e found;
      }

pub given_first : (d : Desk) (S : List Stamped) (conn t : ℕ) (o : Outlet) → IsOutletOf d.about (entries S) conn o → t ≡ length (given o) → given o ≡ take t (sent d.about (entries S) conn)
given_first d S conn t o is count =
    let rest = is.begins.0 in
    sym (ap (λ (l : List Item). take t l) is.begins.1 ∙ ap (λ k. take k (given o ++ rest)) count ∙ take-append_seam (given o) rest)

pub lawful_leave : (d : Desk) (S : List Stamped) (caller conn empties : ℕ) (r : Row) (o : Outlet) (g : Gone) → DeskStands d S → IsRowBy d caller conn → IsInletOf d.about S conn r.inlet
    → IsOutletOf d.about (entries S) conn o → g.ending ≡ unwrap_or r.ending Left → g.taken ≡ length (given o) → Lawful d.about (moment (entries S) (leave_entry caller conn empties g))
lawful_leave d S caller conn empties r o g p is its out ending taken =
    let a = d.about in
    let H = entries S in
    let own = owns d S caller conn p is in
    let low : looked H conn ≤ g.taken = (let k = out.behind in omega arith) in
    let whole = ap length out.begins.1 ∙ length-append (given o) out.begins.0 in
    let high : g.taken ≤ length (sent a H conn) = omega arith in
    record {
      replied = ap (λ (w : End). GoneReply w g.taken) (ending ∙ ap (λ (w : Option End). unwrap_or w Left) (sym r.tied ∙ its.finished));
      named = refl;
      found = refl;
      called = and_from (is_of H caller conn) (can_find a H conn g.taken) own.mine (and_from _ _ (le-leb (looked H conn) g.taken low) (le-leb g.taken (length (sent a H conn)) high));
    }

-- the rows that stay
left_all : (d : Desk) (S : List Stamped) (caller conn empties : ℕ) (g : Gone) (rows : List Row) → AllByRecursion (IsKept d.about S) rows
    → AllByRecursion (λ r. IsInletOf d.about (S ++ plain (leave_entry caller conn empties g) ∷ []) r.connection.number r.inlet) (filter (λ r. not (r.connection.number == conn)) rows)
unfolding added_by
left_all d S caller conn empties g [] all = tt
left_all d S caller conn empties g (r ∷ rows) all =
    let a = d.about in
    let s = plain (leave_entry caller conn empties g) in
    let Q = λ (x : Row). IsInletOf a (S ++ s ∷ []) x.connection.number x.inlet in
    let F = filter (λ (x : Row). not (x.connection.number == conn)) rows in
    let rest = left_all d S caller conn empties g rows all.1 in
    let by : (b : Bool) → (r.connection.number == conn) ≡ b → AllByRecursion Q (cond (not b) (r ∷ F) F) =
    λ b. elim b as (λ b. (r.connection.number == conn) ≡ b → AllByRecursion Q (cond (not b) (r ∷ F) F)) [
      | true ↦ λ e. rest
      | false ↦ λ e. (
        goes_one a S s r r all.0 (
          refl,
          follows_same a (entries S) s.entry r.connection.number r.inlet refl refl
              (ap (λ (b : Bool). option_or (cond b (Some Left) None) None) (eqb_comm conn r.connection.number ∙ e)),
        ),
        rest,
      )
    ] in
    by (r.connection.number == conn) refl

commuted : (conn : ℕ) (xs : List Connection) → filter (λ c. not (c.number == conn)) xs ≡ filter (λ c. not (conn == c.number)) xs ++ []
commuted conn [] = refl
commuted conn (x ∷ xs) =
    let A = filter (λ (c : Connection). not (c.number == conn)) xs in
    let B = filter (λ (c : Connection). not (conn == c.number)) xs in
    ap (λ (b : Bool). cond (not b) (x ∷ A) A) (eqb_comm x.number conn)
    ∙ elim (conn == x.number) as (λ b. cond (not b) (x ∷ A) A ≡ cond (not b) (x ∷ B) B ++ []) [ true ↦ commuted conn xs | false ↦ ap (λ (l : List Connection). x ∷ l) (commuted conn xs) ]

pub stands_left : (d n : Desk) (S : List Stamped) (caller conn empties i : ℕ) (r : Row) (g : Gone) → DeskStands d S → Lawful d.about (moment (entries S) (leave_entry caller conn empties g))
    → position (has_number conn) d.rows.items ≡ Some i → n.about ≡ d.about → n.stopped_at ≡ d.stopped_at → n.tally.made ≡ d.tally.made + 1 → n.tally.counts ≡ plus d.tally.counts no_counts
    → n.rows.items ≡ remove d.rows.items i → DeskStands n (S ++ plain (leave_entry caller conn empties g) ∷ [])
stands_left d n S caller conn empties i r g p lawful there about stop made count rows =
    let s = plain (leave_entry caller conn empties g) in
    let out = rows ∙ removed conn i r d.rows.items there (rows_apart d S p) in
    let keeps : Keeps d n s.entry = record {
      about = about;
      stop = stop ∙ sym (or_none d.stopped_at);
      made = made;
      count = count;
      rows = ap (map connection) out ∙ connections-kept conn d.rows.items ∙ commuted conn (map connection d.rows.items);
    } in
    stands_more d n S s p lawful keeps (subst (AllByRecursion (λ r. IsInletOf d.about (S ++ s ∷ []) r.connection.number r.inlet)) (sym out)
    (left_all d S caller conn empties g d.rows.items (kept d S p)))

-- a stop

pub lawful_stop : (d : Desk) (S : List Stamped) (caller : ℕ) → DeskStands d S → d.stopped_at ≡ None → Lawful d.about (moment (entries S) (stop_entry caller d.tally.counts))
lawful_stop d S caller p none = record {
  replied = ap CountedReply p.counted;
  named = refl;
  found = refl;
  called = ap not (sym (stopped_so d S p) ∙ ap is_some none);
}

stop_one : (d : Desk) (H : List Entry) (caller : ℕ) (k : Counts) (r t : Row) → FinishesIf true Stopped r t → RowGoes d.about H (stop_entry caller k) r t
unfolding added_by
stop_one d H caller k r t f = (
  f.same,
  record {
    mark = f.pushes.mark;
    holds = f.pushes.holds;
    items = f.pushes.items ∙ sym (append-nil (pushed r.inlet));
    looks = f.pushes.loads ∙ sym (append-nil (loads r.inlet));
    ends = t.tied ∙ f.ends ∙ ap (λ (o : Option End). option_or o (Some Stopped)) (sym r.tied);
  },
)

pub stands_stopped : (d n : Desk) (S : List Stamped) (caller : ℕ) → DeskStands d S → d.stopped_at ≡ None → n.about ≡ d.about → n.stopped_at ≡ Some d.tally.made
    → n.tally.made ≡ d.tally.made + 1 → n.tally.counts ≡ plus d.tally.counts no_counts → EachBecomes (λ r t. FinishesIf true Stopped r t) d.rows.items n.rows.items
    → DeskStands n (S ++ plain (stop_entry caller d.tally.counts) ∷ [])
stands_stopped d n S caller p none about stop made count each =
    let s = plain (stop_entry caller d.tally.counts) in
    let goes = each_weaker (λ r t. FinishesIf true Stopped r t) (RowGoes d.about (entries S) s.entry) d.rows.items n.rows.items (stop_one d (entries S) caller d.tally.counts) each in
    let keeps : Keeps d n s.entry = record {
      about = about;
      stop = stop ∙ sym (ap (λ (o : Option ℕ). option_or o (Some d.tally.made)) none);
      made = made;
      count = count;
      rows = each_connections (RowGoes d.about (entries S) s.entry) d.rows.items n.rows.items (λ r t g. g.0) goes ∙ sym (append-nil _ ∙ none_leave (map connection d.rows.items));
    } in
    stands_more d n S s p (lawful_stop d S caller p none) keeps (goes_all d.about S s d.rows.items n.rows.items (kept d S p) goes)
  where
    none_leave : (xs : List Connection) → filter (λ x. not false) xs ≡ xs
    none_leave [] = refl
    none_leave (x ∷ xs) = ap (λ (l : List Connection). x ∷ l) (none_leave xs)

-- a count

pub lawful_count : (d : Desk) (S : List Stamped) (caller : ℕ) → DeskStands d S → d.tally.made < d.about.limits.calls → Lawful d.about (moment (entries S) (count_entry caller d.tally.counts))
lawful_count d S caller p calls = record {
  replied = ap CountedReply p.counted;
  named = refl;
  found = refl;
  called = ap (λ (n : ℕ). nat_lt n d.about.limits.calls) (length_entries S ∙ sym p.entered) ∙ lt-ltb d.tally.made d.about.limits.calls calls;
}

pub stands_counted : (d n : Desk) (S : List Stamped) (caller : ℕ) → DeskStands d S → d.tally.made < d.about.limits.calls → n.about ≡ d.about → n.stopped_at ≡ d.stopped_at
    → n.tally.made ≡ d.tally.made + 1 → n.tally.counts ≡ plus d.tally.counts no_counts → n.rows.items ≡ d.rows.items → DeskStands n (S ++ plain (count_entry caller d.tally.counts) ∷ [])
unfolding added_by
stands_counted d n S caller p calls about stop made count rows =
    stands_same d n S (plain (count_entry caller d.tally.counts)) p (lawful_count d S caller p calls) (record { goes_on = refl; stays = λ c. refl; joins_none = refl })
    (record { ends_none = λ c. refl; looks_none = refl; adds_nothing = λ c. refl }) about stop made count rows

pub stopped_before : (d : Desk) (S : List Stamped) (place : ℕ) → DeskStands d S → d.stopped_at ≡ Some place → is_stopped (entries S) ≡ true
stopped_before d S place p at = sym (stopped_so d S p) ∙ ap is_some at

pub never_stopped : (d : Desk) (S : List Stamped) → DeskStands d S → d.stopped_at ≡ None → is_stopped (entries S) ≡ false
never_stopped d S p none = sym (stopped_so d S p) ∙ ap is_some none
