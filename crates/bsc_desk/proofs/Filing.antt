-- Rows that are filed stay so after each change.
-- It serves clauses of functions of `desk`, `looking` and `rows`.
use Rattle.std.proofs.Common.{◌≡◌, ℕ, ◌+◌, ◌==◌, nat_le, Bool, true, false, not, ◌&&◌, ◌||◌, List, [], ◌∷◌, ◌++◌, length, map, filter, Option, Some, None, is_none, refl, ap, sym, ◌∙◌, subst, arith}
use Rattle.std.specs.List.{list_all, position, remove, AllByRecursion}
use Rattle.std.specs.Option.{option_or}
use Rattle.std.proofs.lemmas.Bool.{le-leb, leb-true, lt-ltb}
use Rattle.std.proofs.lemmas.List.{map-append, length-map}
use Rattle.bsc_octets.specs.declared.identity.Identity.{Identity}
use Rattle.bsc_octets.specs.Addresses.{same_vmac, same_device}
use Rattle.bsc_history.specs.declared.connection.Connection.{Connection}
use Rattle.bsc_history.specs.declared.ending.End.{End}
use Rattle.bsc_history.specs.declared.ending.End.TheVariants.{Replaced}
use Rattle.bsc_history.specs.Laws.{Apart}
use Rattle.bsc_desk.specs.declared.row.Row.{Row}
use Rattle.bsc_desk.specs.declared.directory.Directory.{Directory}
use Rattle.bsc_desk.specs.Orders.{in_order, same_key, address_of, device_of, filed, sorted_by}
use Rattle.bsc_desk.specs.Rising.{rises}
use Rattle.bsc_desk.specs.Changes.{EachBecomes, FinishesIf}
use Rattle.bsc_desk.specs.Live.{connection, is_open, is_row, number}
use Rattle.bsc_desk.specs.Directories.{gives_way, gives_place, AreFiled}
use Rattle.bsc_desk.proofs.Removals.{connections-kept, removed}
use Rattle.bsc_desk.proofs.Walks.{each_all, each_connections, each_weaker, has_number}
use Rattle.bsc_desk.proofs.Orders.{InOrder, order_true, true_order, order-push, tests-filter, all_true, true_all, all-weaker}
use Rattle.bsc_desk.proofs.Sorted.{length-sorted, filter-sorted, sorted-push}
use Rattle.bsc_lemmas.proofs.Lists.{all-filter, all-push}

-- a directory with the same connections
pub filed_same : (rows : List Row) (joined : ℕ) (x y : Directory) → y.by_address.items ≡ x.by_address.items → y.by_device.items ≡ x.by_device.items → AreFiled rows joined x → AreFiled rows joined y
filed_same rows joined x y a b s = record { rising = s.rising; counted = s.counted; one_at = s.one_at; one_of = s.one_of; by_address = a ∙ s.by_address; by_device = b ∙ s.by_device }

-- the directory is as long as the rows

pub as_many : (rows : List Row) (joined : ℕ) (x : Directory) → AreFiled rows joined x → (length x.by_address.items ≡ length rows) × (length x.by_device.items ≡ length rows)
as_many rows joined x s = (
  ap length s.by_address ∙ length-sorted address_of (map connection rows) ∙ length-map rows connection,
  ap length s.by_device
      ∙ length-sorted device_of (map connection rows) ∙ length-map rows connection,
)

-- rows that keep their connections, and of which none becomes live

abbrev pub StaysFiled : Row → Row → Type 0
StaysFiled r s = (s.connection ≡ r.connection) × (is_open s ≡ true → is_open r ≡ true)

gives_on : (key : Connection → List ℕ) (r s t u : Row) → StaysFiled r t → StaysFiled s u → gives_way key r s ≡ true → gives_way key t u ≡ true
gives_on key r s t u h g way =
    let by : (b : Bool) → is_open t ≡ b → not (b && same_key (key t.connection) (key u.connection)) ≡ true =
    λ b. elim b as (λ b. is_open t ≡ b → not (b && same_key (key t.connection) (key u.connection)) ≡ true) [
      | true ↦ λ e. ap (λ (c : Connection). not (same_key (key c) (key u.connection))) h.0 ∙ ap (λ (c : Connection). not (same_key (key r.connection) (key c))) g.0
          ∙ ap (λ (b : Bool). not (b && same_key (key r.connection) (key s.connection))) (sym (h.1 e)) ∙ way
      | false ↦ λ e. refl
    ] in
    by (is_open t) refl

behind : (t : Row → Row → Bool) (r s : Row) (rows after : List Row) → StaysFiled r s → ((r s u v : Row) → StaysFiled r u → StaysFiled s v → t r s ≡ true → t u v ≡ true)
    → EachBecomes StaysFiled rows after → AllByRecursion (λ y. t r y ≡ true) rows → AllByRecursion (λ y. t s y ≡ true) after
behind t r s [] [] here on each all = tt
behind t r s (y ∷ rows) (z ∷ after) here on each all = (on r y s z here each.0 all.0, behind t r s rows after here on each.1 all.1)
behind t r s rows after here on each all = absurd each

ordered : (t : Row → Row → Bool) (rows after : List Row) → ((r s u v : Row) → StaysFiled r u → StaysFiled s v → t r s ≡ true → t u v ≡ true) → EachBecomes StaysFiled rows after
    → InOrder (λ r s. t r s ≡ true) rows → InOrder (λ r s. t r s ≡ true) after
ordered t [] [] on each order = tt
ordered t (r ∷ rows) (s ∷ after) on each order = (behind t r s rows after each.0 on each.1 order.0, ordered t rows after on each.1 order.1)
ordered t rows after on each order = absurd each

in_order_still : (t : Row → Row → Bool) (rows after : List Row) → ((r s u v : Row) → StaysFiled r u → StaysFiled s v → t r s ≡ true → t u v ≡ true) → EachBecomes StaysFiled rows after
    → in_order t rows ≡ true → in_order t after ≡ true
in_order_still t rows after on each h = true_order t after (ordered t rows after on each (order_true t rows h))

number_stays : (r s : Row) → StaysFiled r s → s.connection.number ≡ r.connection.number
number_stays r s h = ap (λ (c : Connection). c.number) h.0

pub filed_each : (rows after : List Row) (joined : ℕ) (x : Directory) → EachBecomes StaysFiled rows after → AreFiled rows joined x → AreFiled after joined x
filed_each rows after joined x each s =
    let same = each_connections StaysFiled rows after (λ r t h. h.0) each in
    let P = λ (r : Row). nat_le r.connection.number joined ≡ true in
    record {
      rising = in_order_still rises rows after (λ r y u v h g e. rw (number_stays r u h, number_stays y v g) e) each s.rising;
      counted = true_all (λ r. nat_le r.connection.number joined) after (each_all StaysFiled P P rows after (λ r t p h. rw (number_stays r t h) p)
          (all_true (λ r. nat_le r.connection.number joined) rows s.counted) each);
      one_at = in_order_still (gives_way address_of) rows after (gives_on address_of) each s.one_at;
      one_of = in_order_still (gives_way device_of) rows after (gives_on device_of) each s.one_of;
      by_address = s.by_address ∙ ap (sorted_by address_of) (sym same);
      by_device = s.by_device ∙ ap (sorted_by device_of) (sym same);
    }

no_end : (ending : End) (o : Option End) → is_none (option_or o (Some ending)) ≡ true → is_none o ≡ true
no_end ending None h = cc
no_end ending (Some e) h = h

pub finish_files : (b : Bool) (ending : End) (r s : Row) → FinishesIf b ending r s → StaysFiled r s
finish_files true ending r s h = (h.same, λ e. no_end ending r.ending (sym (ap is_none h.ends) ∙ e))
finish_files false ending r s h = (ap connection h, λ e. ap is_open (sym h) ∙ e)

-- a connection leaves

-- rows without one that is taken out
pub filed_left : (conn i : ℕ) (r : Row) (rows : List Row) (joined : ℕ) (x y : Directory) → position (has_number conn) rows ≡ Some i → Apart number rows
    → y.by_address.items ≡ filter (λ c. not (c.number == conn)) x.by_address.items → y.by_device.items ≡ filter (λ c. not (c.number == conn)) x.by_device.items → AreFiled rows joined x
    → AreFiled (remove rows i) joined y
filed_left conn i r rows joined x y place apart a b s =
    let q = λ (r : Row). not (r.connection.number == conn) in
    let k = λ (c : Connection). not (c.number == conn) in
    let out : remove rows i ≡ filter q rows = removed conn i r rows place apart in
    subst (λ (l : List Row). AreFiled l joined y) (sym out) (record {
      rising = tests-filter rises q rows s.rising;
      counted = true_all (λ r. nat_le r.connection.number joined) (filter q rows)
          (all-filter (λ r. nat_le r.connection.number joined ≡ true) q rows (all_true (λ r. nat_le r.connection.number joined) rows s.counted));
      one_at = tests-filter (gives_way address_of) q rows s.one_at;
      one_of = tests-filter (gives_way device_of) q rows s.one_of;
      by_address = a ∙ ap (filter k) s.by_address ∙ filter-sorted address_of k (map connection rows) ∙ ap (sorted_by address_of) (sym (connections-kept conn rows));
      by_device = b ∙ ap (filter k) s.by_device ∙ filter-sorted device_of k (map connection rows) ∙ ap (sorted_by device_of) (sym (connections-kept conn rows));
    })

-- a connection joins, in place of the one that it replaces

tests-push : (t : Row → Row → Bool) (rows : List Row) (new : Row) → in_order t rows ≡ true → AllByRecursion (λ r. t r new ≡ true) rows → in_order t (rows ++ new ∷ []) ≡ true
tests-push t rows new h all = true_order t (rows ++ new ∷ []) (order-push (λ r s. t r s ≡ true) rows new (order_true t rows h) all)

pub filed_joined : (rows : List Row) (joined : ℕ) (x y : Directory) (new : Row) → new.connection.number ≡ 1 + joined → AllByRecursion (λ r. gives_way address_of r new ≡ true) rows
    → AllByRecursion (λ r. gives_way device_of r new ≡ true) rows → y.by_address.items ≡ filed address_of x.by_address.items (connection new)
    → y.by_device.items ≡ filed device_of x.by_device.items (connection new) → AreFiled rows joined x → AreFiled (rows ++ new ∷ []) (joined + 1) y
filed_joined rows joined x y new is at of a b s =
    let all = all_true (λ r. nat_le r.connection.number joined) rows s.counted in
    let up : map connection (rows ++ new ∷ []) ≡ map connection rows ++ connection new ∷ [] = map-append connection rows (new ∷ []) in
    record {
      rising = tests-push rises rows new s.rising (all-weaker (λ r. nat_le r.connection.number joined ≡ true) (λ r. rises r new ≡ true) rows
          (λ r h. (let most = leb-true r.connection.number joined h in lt-ltb r.connection.number new.connection.number (omega arith))) all);
      counted = true_all (λ r. nat_le r.connection.number (joined + 1)) (rows ++ new ∷ [])
          (all-push (λ r. nat_le r.connection.number (joined + 1) ≡ true) rows new
          (all-weaker (λ r. nat_le r.connection.number joined ≡ true) (λ r. nat_le r.connection.number (joined + 1) ≡ true) rows
          (λ r h. (let most = leb-true r.connection.number joined h in le-leb r.connection.number (joined + 1) (omega arith))) all) (le-leb new.connection.number (joined + 1) (omega arith)));
      one_at = tests-push (gives_way address_of) rows new s.one_at at;
      one_of = tests-push (gives_way device_of) rows new s.one_of of;
      by_address = a ∙ ap (λ (l : List Connection). filed address_of l (connection new)) s.by_address ∙ sym (sorted-push address_of (map connection rows) (connection new))
          ∙ ap (sorted_by address_of) (sym up);
      by_device = b ∙ ap (λ (l : List Connection). filed device_of l (connection new)) s.by_device ∙ sym (sorted-push device_of (map connection rows) (connection new))
          ∙ ap (sorted_by device_of) (sym up);
    }

-- once the replaced connection has ended, every row gives way to the new one

no_part : (o p q : Bool) → not (o && (p || q)) ≡ true → (not (o && p) ≡ true) × (not (o && q) ≡ true)
no_part true true q h = cc
no_part true false true h = cc
no_part true false false h = (refl, refl)
no_part false p q h = (refl, refl)

gives_after : (who : Identity) (replaced : Option ℕ) (new r t : Row) → new.connection.who ≡ who → FinishesIf (is_row replaced r) Replaced r t → gives_place who replaced r ≡ true
    → (gives_way address_of t new ≡ true) × (gives_way device_of t new ≡ true)
gives_after who replaced new r t is fin h =
    let at = same_vmac r.connection.who.vmac in
    let of = same_device r.connection.who.device in
    let by : (b : Bool) → FinishesIf b Replaced r t → (b || not (is_open r && (at who.vmac || of who.device))) ≡ true → (gives_way address_of t new ≡ true)
    × (gives_way device_of t new ≡ true) = λ b. elim b as (λ b. FinishesIf b Replaced r t → (b || not (is_open r && (at who.vmac || of who.device))) ≡ true
    → (gives_way address_of t new ≡ true) × (gives_way device_of t new ≡ true)) [
      | true ↦ λ f e. (let ended : is_open t ≡ false = ap is_none f.ends ∙ elim r.ending as (λ o. is_none (option_or o (Some Replaced)) ≡ false) [ None ↦ refl | Some e ↦ refl ] in
          rw ended (refl, refl))
      | false ↦ λ f e. (let two = no_part (is_open r) (at who.vmac) (of who.device) e in
          subst (λ (z : Row). (gives_way address_of z new ≡ true) × (gives_way device_of z new ≡ true)) (sym f)
          (ap (λ (w : Identity). not (is_open r && at w.vmac)) is ∙ two.0, ap (λ (w : Identity). not (is_open r && of w.device)) is ∙ two.1))
    ] in
    by (is_row replaced r) fin h

pub filed_replaced : (rows after : List Row) (joined now : ℕ) (x y : Directory) (replaced : Option ℕ) (new : Row) → new.connection.number ≡ 1 + joined
    → list_all (gives_place new.connection.who replaced) rows ≡ true → EachBecomes (λ r s. FinishesIf (is_row replaced r) Replaced r s) rows after
    → y.by_address.items ≡ filed address_of x.by_address.items (connection new) → y.by_device.items ≡ filed device_of x.by_device.items (connection new) → AreFiled rows joined x
    → now ≡ joined + 1 → AreFiled (after ++ new ∷ []) now y
filed_replaced rows after joined now x y replaced new is free each a b s more =
    let who = new.connection.who in
    let R = λ (r s : Row). FinishesIf (is_row replaced r) Replaced r s in
    let P = λ (r : Row). gives_place who replaced r ≡ true in
    let every = all_true (gives_place who replaced) rows free in
    let at = each_all R P (λ r. gives_way address_of r new ≡ true) rows after (λ r t p h. (gives_after who replaced new r t refl h p).0) every each in
    let of = each_all R P (λ r. gives_way device_of r new ≡ true) rows after (λ r t p h. (gives_after who replaced new r t refl h p).1) every each in
    subst (λ (n : ℕ). AreFiled (after ++ new ∷ []) n y) (sym more) (filed_joined after joined x y new is at of a b
    (filed_each rows after joined x (each_weaker R StaysFiled rows after (λ r t h. finish_files (is_row replaced r) Replaced r t h) each) s))
