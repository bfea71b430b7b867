-- An outlet that meets the desk.
-- It serves clauses of functions of `desk` and `looking`.
use Rattle.std.proofs.Common.{◌≡◌, ◌≢◌, ℕ, zero, suc, ◌<◌, ◌==◌, ◌&&◌, Bool, true, false, cond, List, [], ◌∷◌, length, find, get_or, is_none, Option, Some, is_some, refl, ap, sym, ◌∙◌, subst, arith}
use Rattle.std.proofs.Math.ListN.{set}
use Rattle.std.specs.List.{list_any, position, AllByRecursion}
use Rattle.std.proofs.lemmas.Bool.{and_from, eq-eqb, eqb-true, ne_eqb, or_left, or_right}
use Rattle.std.proofs.lemmas.List.Quantifiers.{position-Some}
use Rattle.bsc_history.specs.declared.connection.Connection.{Connection}
use Rattle.bsc_history.specs.declared.ending.End.{End}
use Rattle.bsc_history.specs.declared.limits.About.{About}
use Rattle.bsc_history.specs.declared.mark.Stamped.{Stamped}
use Rattle.bsc_history.specs.Legality.{Legal}
use Rattle.bsc_history.specs.Marks.{entries}
use Rattle.bsc_ring.specs.declared.ends.Outlet.{Outlet}
use Rattle.bsc_ring.specs.Ends.{Met}
use Rattle.bsc_desk.specs.declared.desk.Desk.{Desk}
use Rattle.bsc_desk.specs.declared.row.Row.{Row}
use Rattle.bsc_desk.specs.declared.tally.Tally.{Tally}
use Rattle.bsc_desk.specs.Changes.{EachBecomes, IsSameRow}
use Rattle.bsc_desk.specs.Meetings.{KnowsOutbox}
use Rattle.bsc_desk.specs.Standing.{DeskStands, IsInletOf}
use Rattle.bsc_desk.proofs.Filing.{StaysFiled}
use Rattle.bsc_desk.proofs.Walks.{changes_each, changes_set, each_all, each_connections, has_number}

-- the rows after it

pub same_row : (r : Row) → IsSameRow r r
same_row r = record { same = refl; ends = refl; pushes = record { mark = refl; holds = refl; items = refl; loads = refl } }

pub met_each : (rows : List Row) (i : ℕ) (r s : Row) → i < length rows → r ≡ get_or rows i r → IsSameRow r s → EachBecomes IsSameRow rows (set rows i s)
met_each rows i r s within at same = changes_each IsSameRow IsSameRow i rows (set rows i s) (λ x y h. h) same_row (changes_set IsSameRow rows i r s within at same)

pub same_files : (r s : Row) → IsSameRow r s → StaysFiled r s
same_files r s h = (h.same, λ e. ap (λ (o : Option End). is_none o) (sym h.ends) ∙ e)

inlet_same : (a : About) (S : List Stamped) (r s : Row) → IsInletOf a S r.connection.number r.inlet → IsSameRow r s → IsInletOf a S s.connection.number s.inlet
inlet_same a S r s p h = subst (λ n. IsInletOf a S n s.inlet) (sym (ap (λ (k : Connection). k.number) h.same)) (record {
  holds = h.pushes.holds ∙ p.holds;
  marked = p.marked ∙ ap Some (sym h.pushes.mark);
  items = h.pushes.items ∙ p.items;
  looks = h.pushes.loads ∙ p.looks;
  finished = s.tied ∙ h.ends ∙ sym r.tied ∙ p.finished;
})

pub stands_met : (d n : Desk) (S : List Stamped) → DeskStands d S → n.about ≡ d.about → n.stopped_at ≡ d.stopped_at → n.tally ≡ d.tally → EachBecomes IsSameRow d.rows.items n.rows.items
    → DeskStands n S
stands_met d n S p about stop tally each = record {
  legal = subst (λ b. Legal b (entries S)) (sym about) p.legal;
  stop_place = stop ∙ p.stop_place;
  entered = ap (λ (t : Tally). t.made) tally ∙ p.entered;
  counted = ap (λ (t : Tally). t.counts) tally ∙ p.counted;
  unleft_rows = each_connections IsSameRow d.rows.items n.rows.items (λ r s h. h.same) each ∙ p.unleft_rows;
  inlets = subst (λ b. AllByRecursion (λ r. IsInletOf b S r.connection.number r.inlet) n.rows.items) (sym about)
      (each_all IsSameRow (λ r. IsInletOf d.about S r.connection.number r.inlet) (λ r. IsInletOf d.about S r.connection.number r.inlet) d.rows.items n.rows.items
      (λ r s q h. inlet_same d.about S r s q h) p.inlets each);
}

-- look-ups after it

set_here : (c i : ℕ) (rows : List Row) (r s : Row) → i < length rows → r ≡ get_or rows i r → has_number c r ≡ true → ((k : ℕ) → k < i → has_number c (get_or rows k r) ≡ false)
    → s.connection ≡ r.connection → find (has_number c) (set rows i s) ≡ Some s
set_here c i [] r s within at here before same = absurd (omega arith)
set_here c zero (x ∷ rows) r s within at here before same = (let yes : has_number c s ≡ true = ap (λ (k : Connection). k.number == c) same ∙ here in rw yes refl)
set_here c (suc i) (x ∷ rows) r s within at here before same = rw (before 0 (omega arith)) (set_here c i rows r s (omega arith) at here (λ k h. before (suc k) (omega arith)) same)

set_other : (k i : ℕ) (rows : List Row) (r s : Row) → i < length rows → r ≡ get_or rows i r → r.connection.number ≢ k → s.connection ≡ r.connection
    → find (has_number k) (set rows i s) ≡ find (has_number k) rows
set_other k i [] r s within at other same = absurd (omega arith)
set_other k zero (x ∷ rows) r s within at other same =
    let no : has_number k s ≡ false = ap (λ (c : Connection). c.number == k) same ∙ ne_eqb r.connection.number k other in
    let old : has_number k x ≡ false = ap (λ (y : Row). y.connection.number == k) (sym at) ∙ ne_eqb r.connection.number k other in
    rw (no, old) refl
set_other k (suc i) (x ∷ rows) r s within at other same = ap (λ (o : Option Row). cond (has_number k x) (Some x) o) (set_other k i rows r s (omega arith) at other same)

pub found_set : (c i : ℕ) (rows : List Row) (r s : Row) → position (has_number c) rows ≡ Some i → r ≡ get_or rows i r → s.connection ≡ r.connection → find (has_number c) (set rows i s) ≡ Some s
found_set c i rows r s place at same = let p = position-Some (has_number c) rows i r place in set_here c i rows r s p.0 at (subst (λ z. has_number c z ≡ true) (sym at) p.1) p.2 same

pub found_other : (c k i : ℕ) (rows : List Row) (r s : Row) → position (has_number c) rows ≡ Some i → r ≡ get_or rows i r → s.connection ≡ r.connection → k ≢ c
    → find (has_number k) (set rows i s) ≡ find (has_number k) rows
found_other c k i rows r s place at same other =
    let p = position-Some (has_number c) rows i r place in
    let here : has_number c r ≡ true = subst (λ z. has_number c z ≡ true) (sym at) p.1 in
    set_other k i rows r s p.0 at (λ e. other (sym e ∙ eqb-true r.connection.number c here)) same

-- what the outlet then knows
pub knows_outbox : (a : About) (S : List Stamped) (c : ℕ) (r s : Row) (o : Outlet) → IsInletOf a S c r.inlet → IsSameRow r s → Met s.inlet o → KnowsOutbox a (entries S) c o
knows_outbox a S c r s o p h met =
    let ends = s.tied ∙ h.ends ∙ sym r.tied ∙ p.finished in
    record {
      items = met.1 ∙ h.pushes.items ∙ p.items;
      ending = met.2 ∙ ends;
      all = met.3 ∙ ap is_some ends;
    }

-- ---- whose a row is

any_at : (t : Row → Bool) (rows : List Row) (i : ℕ) (r : Row) → i < length rows → r ≡ get_or rows i r → t r ≡ true → list_any t rows ≡ true
any_at t [] i r within at h = absurd (omega arith)
any_at t (x ∷ rows) zero r within at h = or_left (t x) (list_any t rows) (subst (λ z. t z ≡ true) at h)
any_at t (x ∷ rows) (suc i) r within at h = or_right (t x) (list_any t rows) (any_at t rows i r (omega arith) at h)

-- what stands at the place of a connection is the row of its caller
pub row_by : (c i : ℕ) (rows : List Row) (r : Row) → position (has_number c) rows ≡ Some i → r ≡ get_or rows i r
    → list_any (λ s. (s.connection.number == c) && (s.connection.caller == r.connection.caller)) rows ≡ true
row_by c i rows r place at =
    let p = position-Some (has_number c) rows i r place in
    let here : has_number c r ≡ true = subst (λ z. has_number c z ≡ true) (sym at) p.1 in
    any_at (λ s. (s.connection.number == c) && (s.connection.caller == r.connection.caller)) rows i r p.0 at
    (and_from (r.connection.number == c) (r.connection.caller == r.connection.caller) here (eq-eqb r.connection.caller r.connection.caller refl))
