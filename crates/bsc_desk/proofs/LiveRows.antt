-- The live connections are those of the open rows.
-- It serves clauses of functions of `connecting`, `desk`, `looking` and `rows`.
use Rattle.std.proofs.Common.{◌≡◌, ◌≢◌, inl, inr, ◌==◌, ℕ, Bool, true, false, ◌&&◌, ◌||◌, cond, List, [], ◌∷◌, map, filter, find, is_some, Option, Some, None, is_none, MatchOption}
use Rattle.std.proofs.Common.{refl, ap, sym, ◌∙◌, subst}
use Rattle.std.specs.List.{list_any, position, AllByRecursion}
use Rattle.std.specs.Option.{option_map}
use Rattle.std.proofs.lemmas.Bool.{and_parts, both_ways, eqb-true, eq-eqb, ne_eqb, or_cases, or_left, or_right}
use Rattle.bsc_octets.specs.declared.vmac.Vmac.{Vmac}
use Rattle.bsc_octets.specs.Addresses.{same_vmac}
use Rattle.bsc_history.specs.declared.limits.About.{About}
use Rattle.bsc_history.specs.declared.connection.Connection.{Connection}
use Rattle.bsc_history.specs.declared.mark.Stamped.{Stamped}
use Rattle.bsc_history.specs.Entries.{stops}
use Rattle.bsc_history.specs.Ends.{ended, live}
use Rattle.bsc_history.specs.Laws.{Apart}
use Rattle.bsc_history.specs.Legality.{is_of}
use Rattle.bsc_history.specs.Marks.{entries}
use Rattle.bsc_history.specs.Outboxes.{vmac_of}
use Rattle.bsc_history.specs.Replies.{is_stopped}
use Rattle.bsc_history.proofs.Lists.{In, In_from_all, find_says, none_passes}
use Rattle.bsc_desk.specs.declared.row.Row.{Row}
use Rattle.bsc_desk.specs.declared.desk.Desk.{Desk}
use Rattle.bsc_desk.specs.Live.{connection, end_in, is_open, number}
use Rattle.bsc_desk.specs.Rows.{IsRowBy, IsRowOf, end_of}
use Rattle.bsc_desk.specs.Standing.{DeskStands, IsInletOf}
use Rattle.bsc_history.proofs.Connections.{live_unended, vmac_unleft}
use Rattle.bsc_desk.proofs.Standings.{In-map, rows_apart}
use Rattle.bsc_desk.proofs.Walks.{has_number}
use Rattle.bsc_lemmas.proofs.Lists.{position_any}
use Rattle.bsc_octets.proofs.Common.{vmac_same}

-- the row's End is its connection's
pub row_end : (a : About) (S : List Stamped) (r : Row) → IsInletOf a S r.connection.number r.inlet → r.ending ≡ ended (entries S) r.connection.number
row_end a S r p = sym r.tied ∙ p.finished

open_rows : (a : About) (S : List Stamped) (rows : List Row) → AllByRecursion (λ r. IsInletOf a S r.connection.number r.inlet) rows
    → filter (λ x. is_none (ended (entries S) x.number)) (map connection rows) ≡ map connection (filter is_open rows)
open_rows a S [] all = refl
open_rows a S (r ∷ rows) all =
    let rest = open_rows a S rows all.1 in
    let E = λ (x : Connection). is_none (ended (entries S) x.number) in
    let same : E (connection r) ≡ is_open r = ap is_none (sym (row_end a S r all.0)) in
    ap (λ (b : Bool). cond b (connection r ∷ filter E (map connection rows)) (filter E (map connection rows))) same
    ∙ elim (is_open r) as (λ b. cond b (connection r ∷ filter E (map connection rows)) (filter E (map connection rows))
    ≡ map connection (cond b (r ∷ filter is_open rows) (filter is_open rows))) [ true ↦ ap (λ (l : List Connection). connection r ∷ l) rest | false ↦ rest ]

pub live_rows : (d : Desk) (S : List Stamped) → DeskStands d S → live (entries S) ≡ map connection (filter is_open d.rows.items)
live_rows d S p = live_unended d.about (entries S) p.legal ∙ ap (filter (λ x. is_none (ended (entries S) x.number))) (sym p.unleft_rows) ∙ open_rows d.about S d.rows.items p.inlets

find_open : (p : Connection → Bool) (rows : List Row) → find p (map connection (filter is_open rows)) ≡ option_map connection (find (λ r. is_open r && p (connection r)) rows)
find_open p [] = refl
find_open p (r ∷ rows) =
    elim (is_open r) as (λ b. find p (map connection (cond b (r ∷ filter is_open rows) (filter is_open rows)))
    ≡ option_map connection (cond (b && p (connection r)) (Some r) (find (λ x. is_open x && p (connection x)) rows))) [
      | true ↦ elim (p (connection r)) as (λ b. cond b (Some (connection r)) (find p (map connection (filter is_open rows)))
          ≡ option_map connection (cond b (Some r) (find (λ x. is_open x && p (connection x)) rows))) [ true ↦ refl | false ↦ find_open p rows ]
      | false ↦ find_open p rows
    ]

-- what is found among the live connections is found among the open rows
pub live_found : (d : Desk) (S : List Stamped) (p : Connection → Bool) → DeskStands d S → find p (live (entries S)) ≡ option_map connection (find (λ r. is_open r && p (connection r)) d.rows.items)
live_found d S p s = ap (find p) (live_rows d S s) ∙ find_open p d.rows.items

-- of rows whose numbers are apart, each is the one that is found by its number
pub found_each : (r : Row) (rows : List Row) → Apart number rows → In r rows → find (has_number r.connection.number) rows ≡ Some r
found_each r [] apart m = absurd m
found_each r (y ∷ rows) apart (inl e) = rw (eq-eqb y.connection.number r.connection.number (ap (λ (x : Row). x.connection.number) e)) (ap Some e)
found_each r (y ∷ rows) apart (inr m) =
    rw (ne_eqb y.connection.number r.connection.number (In_from_all (λ (x : Row). y.connection.number ≢ x.connection.number) r rows apart.0 m)) (found_each r rows apart.1 m)

-- the hub has stopped exactly where the desk keeps a place
pub stopped_so : (d : Desk) (S : List Stamped) → DeskStands d S → is_some d.stopped_at ≡ is_stopped (entries S)
stopped_so d S p = ap is_some p.stop_place ∙ position_any stops (entries S)

-- r is a row that a test finds among some
pub record Finds (p : Row → Bool) (rows : List Row) (r : Row) : Type 0 where
  pub found : find p rows ≡ Some r
  pub among : In r rows
  pub passes : p r ≡ true

pub finds : (p : Row → Bool) (rows : List Row) → list_any p rows ≡ true → (r : Row) × Finds p rows r
finds p rows any =
    let on : (o : Option Row) → find p rows ≡ o → MatchOption o ((x : Row) → In x rows → p x ≡ false) (λ x. In x rows × (p x ≡ true)) → (r : Row)
    × Finds p rows r = λ o. elim o as (λ o. find p rows ≡ o → MatchOption o ((x : Row) → In x rows → p x ≡ false) (λ x. In x rows × (p x ≡ true)) → (r : Row) × Finds p rows r) [
      | None ↦ λ e no. absurd (both_ways (list_any p rows) (none_passes p rows no) any)
      | Some r ↦ λ e it. (r, record { found = e; among = it.0; passes = it.1 })
    ] in
    on (find p rows) refl (find_says p rows)

-- The row of a caller's own connection, and what the history says of it.
pub record Owns (d : Desk) (S : List Stamped) (caller conn : ℕ) : Type 0 where
  pub row : Row
  pub among : In row d.rows.items
  pub finds : find (has_number conn) d.rows.items ≡ Some row
  pub number : row.connection.number ≡ conn
  pub inlet : IsInletOf d.about S conn row.inlet
  pub mine : is_of (entries S) caller conn ≡ true
  pub ends : end_of d conn ≡ ended (entries S) conn

pub any_row : (p : Connection → Bool) (rows : List Row) → list_any (λ r. p (connection r)) rows ≡ list_any p (map connection rows)
any_row p [] = refl
any_row p (r ∷ rows) = ap (λ (b : Bool). p (connection r) || b) (any_row p rows)

pub owns : (d : Desk) (S : List Stamped) (caller conn : ℕ) → DeskStands d S → IsRowBy d caller conn → Owns d S caller conn
owns d S caller conn p is =
    let t = λ (x : Connection). (x.number == conn) && (x.caller == caller) in
    let r = finds (λ r. t (connection r)) d.rows.items is in
    let one = and_parts (r.0.connection.number == conn) (r.0.connection.caller == caller) r.1.passes in
    let same : r.0.connection.number ≡ conn = eqb-true r.0.connection.number conn one.0 in
    let at = In_from_all (λ (y : Row). IsInletOf d.about S y.connection.number y.inlet) r.0 d.rows.items p.inlets r.1.among in
    let inlet = subst (λ k. IsInletOf d.about S k r.0.inlet) same at in
    let found : find (has_number conn) d.rows.items ≡ Some r.0 = subst (λ k. find (has_number k) d.rows.items ≡ Some r.0) same (found_each r.0 d.rows.items (rows_apart d S p) r.1.among) in
    record {
      row = r.0;
      among = r.1.among;
      finds = found;
      number = same;
      inlet = inlet;
      mine = ap (list_any t) (sym p.unleft_rows) ∙ sym (any_row t d.rows.items) ∙ is;
      ends = ap end_in found ∙ sym r.0.tied ∙ inlet.finished;
    }

weaker : (t u : Row → Bool) (rows : List Row) → ((r : Row) → t r ≡ true → u r ≡ true) → list_any t rows ≡ true → list_any u rows ≡ true
weaker t u [] f h = cc
weaker t u (r ∷ rows) f h = elim (or_cases (t r) (list_any t rows) h) [ inl here ↦ or_left (u r) (list_any u rows) (f r here) | inr later ↦ or_right (u r) (list_any u rows) (weaker t u rows f later) ]

-- a row of the caller with the address is one of the caller
pub by_of : (d : Desk) (caller conn : ℕ) (v : Vmac) → IsRowOf d caller conn v → IsRowBy d caller conn
by_of d caller conn v is = weaker (λ r. (r.connection.number == conn) && (r.connection.caller == caller) && same_vmac r.connection.who.vmac v)
    (λ r. (r.connection.number == conn) && (r.connection.caller == caller)) d.rows.items
    (λ r h. (and_parts ((r.connection.number == conn) && (r.connection.caller == caller)) (same_vmac r.connection.who.vmac v) h).0) is

-- and a row, which has a place
pub has_by : (d : Desk) (caller conn : ℕ) → IsRowBy d caller conn → list_any (has_number conn) d.rows.items ≡ true
has_by d caller conn is = weaker (λ r. (r.connection.number == conn) && (r.connection.caller == caller)) (has_number conn) d.rows.items
    (λ r h. (and_parts (r.connection.number == conn) (r.connection.caller == caller) h).0) is

-- the sender of a frame joined with its address
pub address_of_row : (d : Desk) (S : List Stamped) (caller conn : ℕ) (v : Vmac) → DeskStands d S → IsRowOf d caller conn v → vmac_of (entries S) conn ≡ v
address_of_row d S caller conn v p is =
    let r = finds (λ (r : Row). (r.connection.number == conn) && (r.connection.caller == caller) && same_vmac r.connection.who.vmac v) d.rows.items is in
    let two = and_parts ((r.0.connection.number == conn) && (r.0.connection.caller == caller)) (same_vmac r.0.connection.who.vmac v) r.1.passes in
    let same : r.0.connection.number ≡ conn = eqb-true r.0.connection.number conn (and_parts (r.0.connection.number == conn) (r.0.connection.caller == caller) two.0).0 in
    let member = subst (In (connection r.0)) p.unleft_rows (In-map r.0 d.rows.items r.1.among) in
    sym (ap (vmac_of (entries S)) same) ∙ vmac_unleft d.about (entries S) (connection r.0) p.legal member ∙ vmac_same r.0.connection.who.vmac v two.1

-- a connection that has a row has a place
pub placed : (conn : ℕ) (rows : List Row) → list_any (has_number conn) rows ≡ true → position (has_number conn) rows ≡ None → ⊥
placed conn rows any none = both_ways (list_any (has_number conn) rows) (sym (position_any (has_number conn) rows) ∙ ap is_some none) any
