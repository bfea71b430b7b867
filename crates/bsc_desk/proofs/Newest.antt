-- The newest row of some octets is the one that may be live.
-- It serves clauses of functions of `connecting`, `desk` and `rows`.
use Rattle.std.proofs.Common.{◌≡◌, ◌≢◌, ◌+◌, inl, inr, ℕ, Bool, true, false, not, ◌&&◌, ◌||◌, cond, List, [], ◌∷◌, map, find, Option, Some, None, refl, ap, sym, ◌∙◌, subst}
use Rattle.std.specs.List.{list_all, position, AllByRecursion}
use Rattle.std.specs.Option.{option_map, option_or}
use Rattle.std.specs.Cmp.Lexicographic.{same_text, bytes_decides}
use Rattle.std.proofs.lemmas.Bool.{both_ways, not-true, eq-eqb, ne_eqb}
use Rattle.std.proofs.lemmas.Option.{same_Some}
use Rattle.bsc_octets.specs.declared.identity.Identity.{Identity}
use Rattle.bsc_octets.specs.Addresses.{same_vmac, same_device}
use Rattle.bsc_history.specs.declared.connection.Connection.{Connection}
use Rattle.bsc_history.specs.Laws.{Apart}
use Rattle.bsc_history.specs.Replies.{rival, number_of}
use Rattle.bsc_history.proofs.Lists.{In, In_from_all, all_from_In}
use Rattle.bsc_desk.specs.declared.row.Row.{Row}
use Rattle.bsc_desk.specs.declared.directory.Directory.{Directory}
use Rattle.bsc_desk.specs.Orders.{in_order, same_key, address_of, device_of, last_of}
use Rattle.bsc_desk.specs.Rising.{rises}
use Rattle.bsc_desk.specs.Live.{connection, is_open, is_row, number}
use Rattle.bsc_desk.specs.Directories.{gives_way, gives_place, AreFiled, live_place}
use Rattle.bsc_desk.proofs.LiveRows.{found_each}
use Rattle.bsc_desk.proofs.Orders.{InOrder, order_true, true_all}
use Rattle.bsc_desk.proofs.Sorted.{last-sorted}
use Rattle.bsc_desk.proofs.Numbers.{rows_rise}
use Rattle.bsc_desk.proofs.Walks.{has_number}
use Rattle.bsc_history.proofs.Common.{no_rival as same_rival}
use Rattle.bsc_lemmas.proofs.Lists.{position-cons}

-- the live row of some octets is the newest row that has them

abbrev has : (Connection → List ℕ) → List ℕ → Row → Bool
has key k r = same_key (key r.connection) k

if_open : Option Row → Option Row
if_open None = None
if_open (Some r) = cond (is_open r) (Some r) None

-- rows behind a live one have other octets
none_behind : (key : Connection → List ℕ) (k : List ℕ) (r : Row) (rows : List Row) → is_open r ≡ true → has key k r ≡ true → AllByRecursion (λ s. gives_way key r s ≡ true) rows
    → (last_of (has key k) rows ≡ None) × (find (λ s. is_open s && has key k s) rows ≡ None)
none_behind key k r [] live is all = (refl, refl)
none_behind key k r (s ∷ rows) live is all =
    let rest = none_behind key k r rows live is all.1 in
    let other : same_key (key r.connection) (key s.connection) ≡ false = not-true (same_key (key r.connection) (key s.connection))
    (ap (λ (b : Bool). not (b && same_key (key r.connection) (key s.connection))) (sym live) ∙ all.0) in
    let no : has key k s ≡ false = (
    let by : (b : Bool) → has key k s ≡ b → b ≡ false = λ b. elim b as (λ b. has key k s ≡ b
    → b ≡ false) [
      | true ↦ λ e. absurd (both_ways (same_key (key r.connection) (key s.connection)) other
          ((bytes_decides (key r.connection) (key s.connection)).1 (same_text (key r.connection) k (sym is) ∙ sym (same_text (key s.connection) k (sym e)))))
      | false ↦ λ e. refl
    ] in
    by (has key k s) refl) in
    let skip : (is_open s && has key k s) ≡ false = ap (λ (b : Bool). is_open s && b) no ∙ elim (is_open s) as (λ b. (b && false) ≡ false) [ true ↦ refl | false ↦ refl ] in
    (rw (rest.0, no) refl, rw skip rest.1)

newest_live : (key : Connection → List ℕ) (k : List ℕ) (rows : List Row) → InOrder (λ r s. gives_way key r s ≡ true) rows
    → find (λ r. is_open r && has key k r) rows ≡ if_open (last_of (has key k) rows)
unfolding if_open
newest_live key k [] order = refl
newest_live key k (r ∷ rows) order =
    let rest = newest_live key k rows order.1 in
    let F = find (λ (s : Row). is_open s && has key k s) rows in
    let L = last_of (has key k) rows in
    let or_none : (o : Option Row) → option_or o None ≡ o = λ o. elim o as (λ o. option_or o None ≡ o) [ None ↦ refl | Some s ↦ refl ] in
    let closed : is_open r ≡ false → (o : Option Row) → if_open o ≡ if_open (option_or o (Some r)) =
    λ e o. elim o as (λ o. if_open o ≡ if_open (option_or o (Some r))) [ None ↦ rw e refl | Some s ↦ refl ] in
    let on : (b p : Bool) → is_open r ≡ b → has key k r ≡ p → cond (b && p) (Some r) F ≡ if_open (option_or L (cond p (Some r) None)) =
    λ b p. elim b as (λ b. is_open r ≡ b → has key k r ≡ p → cond (b && p) (Some r) F ≡ if_open (option_or L (cond p (Some r) None))) [
      | true ↦ λ e. elim p as (λ p. has key k r ≡ p → cond p (Some r) F ≡ if_open (option_or L (cond p (Some r) None))) [
        | true ↦ λ h. sym (ap (λ (o : Option Row). if_open (option_or o (Some r))) (none_behind key k r rows e h order.0).0 ∙ ap (λ (b : Bool). cond b (Some r) None) e)
        | false ↦ λ h. rest ∙ ap if_open (sym (or_none L))
      ]
      | false ↦ λ e. elim p as (λ p. has key k r ≡ p → F ≡ if_open (option_or L (cond p (Some r) None))) [
        | true ↦ λ h. rest ∙ closed e L
        | false ↦ λ h. rest ∙ ap if_open (sym (or_none L))
      ]
    ] in
    on (is_open r) (has key k r) refl refl

last-map : (p : Connection → Bool) (rows : List Row) → last_of p (map connection rows) ≡ option_map connection (last_of (λ r. p (connection r)) rows)
last-map p [] = refl
last-map p (r ∷ rows) =
    let step : (o : Option Row) (b : Bool) → option_or (option_map connection o) (cond b (Some (connection r)) None) ≡ option_map connection (option_or o (cond b (Some r) None)) =
    λ o b. elim o as (λ o. option_or (option_map connection o) (cond b (Some (connection r)) None)
    ≡ option_map connection (option_or o (cond b (Some r) None))) [
      | None ↦ elim b as (λ b. cond b (Some (connection r)) None
          ≡ option_map connection (cond b (Some r) None)) [ true ↦ refl | false ↦ refl ]
      | Some s ↦ refl
    ] in
    ap (λ (o : Option Connection). option_or o (cond (p (connection r)) (Some (connection r)) None)) (last-map p rows) ∙ step (last_of (λ s. p (connection s)) rows) (p (connection r))

last_among : (p : Row → Bool) (rows : List Row) (r : Row) → last_of p rows ≡ Some r → In r rows
last_among p [] r is = cc
last_among p (s ∷ rows) r is =
    let by : (o : Option Row) (b : Bool) → (o ≡ Some r → In r rows) → option_or o (cond b (Some s) None) ≡ Some r
    → In r (s ∷ rows) = λ o b. elim o as (λ o. (o ≡ Some r → In r rows) → option_or o (cond b (Some s) None) ≡ Some r → In r (s ∷ rows)) [
      | None ↦ elim b as (λ b. (None ≡ Some r → In r rows) → cond b (Some s) None ≡ Some r → In r (s ∷ rows)) [ true ↦ λ later e. inl (same_Some s r e) | false ↦ λ later e. cc ]
      | Some t ↦ λ later e. inr (later e)
    ] in
    by (last_of p rows) (p s) (last_among p rows r) is

-- where a test finds the row r, its place is that of r's number
same_place : (p : Row → Bool) (r : Row) (rows : List Row) → Apart number rows → In r rows → find p rows ≡ Some r → position (has_number r.connection.number) rows ≡ position p rows
same_place p r [] apart m is = absurd m
same_place p r (x ∷ rows) apart m is =
    let c = r.connection.number in
    let by : (b : Bool) → p x ≡ b → cond b (Some x) (find p rows) ≡ Some r
    → cond (has_number c x) (Some 0) (option_map (λ i. 1 + i) (position (has_number c) rows)) ≡ cond b (Some 0) (option_map (λ i. 1 + i) (position p rows)) =
    λ b. elim b as (λ b. p x ≡ b → cond b (Some x) (find p rows) ≡ Some r → cond (has_number c x) (Some 0) (option_map (λ i. 1 + i) (position (has_number c) rows))
    ≡ cond b (Some 0) (option_map (λ i. 1 + i) (position p rows))) [
      | true ↦ λ e f. (let same : x ≡ r = same_Some x r f in let yes : has_number c x ≡ true = eq-eqb x.connection.number c (ap (λ (y : Row). y.connection.number) same) in rw yes refl)
      | false ↦ λ e f. (let later = In_found p r rows f in let no : has_number c x ≡ false =
          ne_eqb x.connection.number c (In_from_all (λ (y : Row). number x ≢ number y) r rows apart.0 later) in rw no (ap (option_map (λ i. 1 + i)) (same_place p r rows apart.1 later f)))
    ] in
    position-cons (has_number c) x rows ∙ by (p x) refl is ∙ sym (position-cons p x rows)
  where
    In_found : (p : Row → Bool) (r : Row) (rows : List Row) → find p rows ≡ Some r → In r rows
    In_found p r [] is = cc
    In_found p r (y ∷ rows) is =
        let on : (b : Bool) → cond b (Some y) (find p rows) ≡ Some r → In r (y ∷ rows) =
        λ b. elim b as (λ b. cond b (Some y) (find p rows) ≡ Some r → In r (y ∷ rows)) [ true ↦ λ e. inl (same_Some y r e) | false ↦ λ e. inr (In_found p r rows e) ] in
        on (p y) is

no_place : (p : Row → Bool) (rows : List Row) → find p rows ≡ None → position p rows ≡ None
no_place p [] none = refl
no_place p (x ∷ rows) none =
    let by : (b : Bool) → cond b (Some x) (find p rows) ≡ None → cond b (Some 0) (option_map (λ i. 1 + i) (position p rows)) ≡ None =
    λ b. elim b as (λ b. cond b (Some x) (find p rows) ≡ None → cond b (Some 0) (option_map (λ i. 1 + i) (position p rows))
    ≡ None) [ true ↦ λ e. cc | false ↦ λ e. ap (option_map (λ i. 1 + i)) (no_place p rows e) ] in
    position-cons p x rows ∙ by (p x) none

pub live_is : (key : Connection → List ℕ) (k : List ℕ) (rows : List Row) → in_order rises rows ≡ true → in_order (gives_way key) rows ≡ true
    → live_place rows (last_of (λ c. same_key (key c) k) (map connection rows)) ≡ position (λ r. is_open r && same_key (key r.connection) k) rows
unfolding if_open
live_is key k rows rising one =
    let t = λ (r : Row). is_open r && has key k r in
    let L = last_of (has key k) rows in
    let live = newest_live key k rows (order_true (gives_way key) rows one) in
    let apart = rows_rise rows rising in
    let on : (o : Option Row) → L ≡ o → live_place rows (option_map connection o) ≡ position t rows = λ o. elim o as (λ o. L ≡ o → live_place rows (option_map connection o) ≡ position t rows) [
      | None ↦ λ e. sym (no_place t rows (live ∙ ap if_open e))
      | Some r ↦ λ e. (
          let m = last_among (has key k) rows r e in
          let found = found_each r rows apart m in
          let by : (b : Bool) → is_open r ≡ b → cond b (position (has_number r.connection.number) rows) None ≡ position t rows =
          λ b. elim b as (λ b. is_open r ≡ b → cond b (position (has_number r.connection.number) rows) None ≡ position t rows) [
            | true ↦ λ f. same_place t r rows apart m (live ∙ ap if_open e ∙ ap (λ (b : Bool). cond b (Some r) None) f)
            | false ↦ λ f. sym (no_place t rows (live ∙ ap if_open e ∙ ap (λ (b : Bool). cond b (Some r) None) f))
          ] in
          rw found (by (is_open r) refl))
    ] in
    ap (live_place rows) (last-map (λ c. same_key (key c) k) rows) ∙ on L refl

-- what a search by the directory gives, by its steps
pub live_at : (rows list : List Row) (joined : ℕ) (x : Directory) (k : List ℕ) (newest : Option Connection) (result : Option ℕ) → AreFiled rows joined x → list ≡ rows
    → newest ≡ last_of (λ c. same_key (address_of c) k) x.by_address.items → result ≡ live_place list newest → result ≡ position (λ r. is_open r && same_key (address_of r.connection) k) rows
live_at rows list joined x k newest result s same last is =
    is ∙ ap (λ (l : List Row). live_place l newest) same
    ∙ ap (live_place rows) (last ∙ ap (last_of (λ c. same_key (address_of c) k)) s.by_address ∙ last-sorted address_of k (map connection rows))
    ∙ live_is address_of k rows s.rising s.one_at

pub live_of : (rows list : List Row) (joined : ℕ) (x : Directory) (k : List ℕ) (newest : Option Connection) (result : Option ℕ) → AreFiled rows joined x → list ≡ rows
    → newest ≡ last_of (λ c. same_key (device_of c) k) x.by_device.items → result ≡ live_place list newest → result ≡ position (λ r. is_open r && same_key (device_of r.connection) k) rows
live_of rows list joined x k newest result s same last is =
    is ∙ ap (λ (l : List Row). live_place l newest) same
    ∙ ap (live_place rows) (last ∙ ap (last_of (λ c. same_key (device_of c) k)) s.by_device ∙ last-sorted device_of k (map connection rows))
    ∙ live_is device_of k rows s.rising s.one_of

-- where there is no rival, only the replaced connection has the address or the device

found_live : (key : Connection → List ℕ) (k : List ℕ) (rows : List Row) (r : Row) → InOrder (λ r s. gives_way key r s ≡ true) rows → In r rows → is_open r ≡ true → has key k r ≡ true
    → find (λ s. is_open s && has key k s) rows ≡ Some r
found_live key k [] r order m live is = absurd m
found_live key k (s ∷ rows) r order (inl e) live is = subst (λ (x : Row). cond (is_open s && has key k s) (Some s) (find (λ y. is_open y && has key k y) rows) ≡ Some x) e
    (rw (ap is_open e ∙ live, ap (has key k) e ∙ is) refl)
found_live key k (s ∷ rows) r order (inr m) live is =
    let rest = found_live key k rows r order.1 m live is in
    let F = find (λ (y : Row). is_open y && has key k y) rows in
    let way = In_from_all (λ y. gives_way key s y ≡ true) r rows order.0 m in
    let by : (b p : Bool) → is_open s ≡ b → has key k s ≡ p → cond (b && p) (Some s) F ≡ Some r = λ b p. elim b as (λ b. is_open s ≡ b → has key k s ≡ p → cond (b && p) (Some s) F ≡ Some r) [
      | true ↦ λ o. elim p as (λ p. has key k s ≡ p → cond p (Some s) F ≡ Some r) [
        | true ↦ λ h. absurd (both_ways (same_key (key s.connection) (key r.connection))
            (not-true (same_key (key s.connection) (key r.connection)) (ap (λ (b : Bool). not (b && same_key (key s.connection) (key r.connection))) (sym o) ∙ way))
            ((bytes_decides (key s.connection) (key r.connection)).1 (same_text (key s.connection) k (sym h) ∙ sym (same_text (key r.connection) k (sym is)))))
        | false ↦ λ h. rest
      ]
      | false ↦ λ o h. rest
    ] in
    by (is_open s) (has key k s) refl refl

pub free : (rows : List Row) (who : Identity) → in_order (gives_way address_of) rows ≡ true → in_order (gives_way device_of) rows ≡ true
    → rival who (option_map connection (find (λ r. is_open r && same_vmac r.connection.who.vmac who.vmac) rows)) ≡ None
    → list_all (gives_place who (number_of (option_map connection (find (λ r. is_open r && same_device r.connection.who.device who.device) rows)))) rows ≡ true
free rows who at of none =
    let replaced = number_of (option_map connection (find (λ r. is_open r && same_device r.connection.who.device who.device) rows)) in
    let by_device : (r : Row) → In r rows → is_open r ≡ true → same_device r.connection.who.device who.device ≡ true → is_row replaced r ≡ true = λ r m live same. (
    let found = found_live device_of who.device.0 rows r (order_true (gives_way device_of) rows of) m live same in
    ap (λ (o : Option Row). is_row (number_of (option_map connection o)) r) found ∙ eq-eqb r.connection.number r.connection.number refl) in
    let by_address : (r : Row) → In r rows → is_open r ≡ true → same_vmac r.connection.who.vmac who.vmac ≡ true → is_row replaced r ≡ true = λ r m live same. (
    let found = found_live address_of who.vmac.0 rows r (order_true (gives_way address_of) rows at) m live same in
    by_device r m live (same_rival who r.connection (ap (λ (o : Option Row). rival who (option_map connection o)) (sym found) ∙ none))) in
    let each : (r : Row) → In r rows → gives_place who replaced r ≡ true = λ r m. (
    let last : (b p q : Bool) → (b ≡ true → p ≡ true → is_row replaced r ≡ true) → (b ≡ true → q ≡ true → is_row replaced r ≡ true)
    → (is_row replaced r || not (b && (p || q))) ≡ true = λ b p q. elim b as (λ b. (b ≡ true → p ≡ true → is_row replaced r ≡ true) → (b ≡ true → q ≡ true → is_row replaced r ≡ true)
    → (is_row replaced r || not (b && (p || q))) ≡ true) [
      | true ↦ elim p as (λ p. (true ≡ true → p ≡ true → is_row replaced r ≡ true) → (true ≡ true → q ≡ true → is_row replaced r ≡ true) → (is_row replaced r || not (p || q)) ≡ true) [
        | true ↦ λ f g. rw (f refl refl) refl
        | false ↦ elim q as (λ q. (true ≡ true → false ≡ true → is_row replaced r ≡ true) → (true ≡ true → q ≡ true → is_row replaced r ≡ true)
            → (is_row replaced r || not q) ≡ true) [ true ↦ λ f g. rw (g refl refl) refl | false ↦ λ f g. or_true (is_row replaced r) ]
      ]
      | false ↦ λ f g. or_true (is_row replaced r)
    ] in
    last (is_open r) (same_vmac r.connection.who.vmac who.vmac) (same_device r.connection.who.device who.device) (by_address r m) (by_device r m)) in
    true_all (gives_place who replaced) rows (all_from_In (λ r. gives_place who replaced r ≡ true) rows each)
  where
    or_true : (b : Bool) → (b || true) ≡ true
    or_true true = refl
    or_true false = refl

-- the same, by the steps of a choice
pub free_by : (rows : List Row) (joined : ℕ) (x : Directory) (who : Identity) (held of_device : Option Connection) (rivals replaced : Option ℕ) → AreFiled rows joined x
    → held ≡ option_map connection (find (λ r. is_open r && same_vmac r.connection.who.vmac who.vmac) rows)
    → of_device ≡ option_map connection (find (λ r. is_open r && same_device r.connection.who.device who.device) rows) → rivals ≡ rival who held → rivals ≡ None
    → replaced ≡ number_of of_device → list_all (gives_place who replaced) rows ≡ true
free_by rows joined x who held of_device rivals replaced s holds has is none takes =
    ap (λ (o : Option ℕ). list_all (gives_place who o) rows) (takes ∙ ap number_of has)
    ∙ free rows who s.one_at s.one_of (ap (rival who) (sym holds) ∙ sym is ∙ none)

-- where there is no place, nothing is found
pub no_find : (p : Row → Bool) (rows : List Row) → position p rows ≡ None → find p rows ≡ None
no_find p [] none = refl
no_find p (x ∷ rows) none =
    let later : (o : Option ℕ) → option_map (λ i. 1 + i) o ≡ None → o ≡ None = λ o. elim o as (λ o. option_map (λ i. 1 + i) o ≡ None → o ≡ None) [ None ↦ λ e. refl | Some i ↦ λ e. cc ] in
    let by : (b : Bool) → cond b (Some 0) (option_map (λ i. 1 + i) (position p rows)) ≡ None
    → cond b (Some x) (find p rows) ≡ None = λ b. elim b as (λ b. cond b (Some 0) (option_map (λ i. 1 + i) (position p rows)) ≡ None
    → cond b (Some x) (find p rows) ≡ None) [ true ↦ λ e. cc | false ↦ λ e. no_find p rows (later (position p rows) e) ] in
    by (p x) (sym (position-cons p x rows) ∙ none)
