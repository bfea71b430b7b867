-- What a desk knows to be taken from its outboxes after a forward.
-- It serves the clauses of `push_all` and `send_one`.
use Rattle.std.proofs.Common.{◌≡◌, ◌≢◌, ℕ, ◌≤◌, ◌==◌, Bool, true, false, cond, List, [], ◌∷◌, ◌++◌, filter, fold, find, Option, Some, None, refl, ap, sym, ◌∙◌, subst}
use Rattle.std.specs.List.{AllByRecursion}
use Rattle.std.proofs.lemmas.Bool.{both_ways, eq-eqb, eqb-true, ne_eqb}
use Rattle.bsc_history.specs.declared.connection.Connection.{Connection}
use Rattle.bsc_history.specs.declared.ending.End.{End}
use Rattle.bsc_history.specs.declared.looks.Look.{Look}
use Rattle.bsc_history.specs.Laws.{Apart}
use Rattle.bsc_history.specs.Outboxes.{newer}
use Rattle.bsc_history.proofs.Lists.{In, all_from_In}
use Rattle.bsc_ring.specs.Ends.{known_taken}
use Rattle.bsc_desk.specs.declared.desk.Desk.{Desk}
use Rattle.bsc_desk.specs.declared.fate.Fate.{Fate}
use Rattle.bsc_desk.specs.declared.fate.Fate.TheVariants.{Unmeant, TooLong, Entered, FoundFull}
use Rattle.bsc_desk.specs.declared.row.Row.{Row}
use Rattle.bsc_desk.specs.Fates.{AllBefall, Befalls, looks_in, looks_of}
use Rattle.bsc_desk.specs.Knowing.{Learns}
use Rattle.bsc_desk.specs.Live.{connection, known_in, number}
use Rattle.bsc_desk.proofs.Broadcasts.{absent, own_says}
use Rattle.bsc_desk.proofs.Fared.{fares_same, found_by, newest_seen}
use Rattle.bsc_desk.proofs.LiveRows.{found_each}
use Rattle.bsc_desk.proofs.Numbers.{rows_rise}
use Rattle.bsc_desk.proofs.Walks.{has_number}

module _ (t : Row → Bool) (full : Option End) (o : List ℕ) where
  known_one : (r : Row) (x : Fate) (s : Row) → Befalls t full o r x s → known_taken s.inlet ≡ found_by x (known_taken r.inlet)
  known_one r Unmeant s h = ap (λ (z : Row). known_taken z.inlet) h.1
  known_one r (TooLong c) s h = ap (λ (z : Row). known_taken z.inlet) h.1.2
  known_one r (Entered k) s h = h.1.0.look.known
  known_one r (FoundFull k) s h = h.1.0.look.known

  skips_one : (r : Row) (x : Fate) (s : Row) (c n : ℕ) (looks : List Look) → Befalls t full o r x s → number r ≢ c → fold (newer c) n (looks_in x ++ looks) ≡ fold (newer c) n looks
  skips_one r Unmeant s c n looks h other = refl
  skips_one r (TooLong d) s c n looks h other = refl
  skips_one r (Entered k) s c n looks h other = ap (λ (b : Bool). fold (newer c) (cond b k.taken n) looks) (ne_eqb k.conn c (λ e. other (sym h.1.0.conn ∙ e)))
  skips_one r (FoundFull k) s c n looks h other = ap (λ (b : Bool). fold (newer c) (cond b k.taken n) looks) (ne_eqb k.conn c (λ e. other (sym h.1.0.conn ∙ e)))

  -- what is known of an outbox is the newest look at it, or what was known
  pub known_all : (c : ℕ) (rows : List Row) (fates : List Fate) (after : List Row) → AllBefall t full o rows fates after → Apart number rows
      → known_in (find (has_number c) after) ≡ fold (newer c) (known_in (find (has_number c) rows)) (looks_of fates)
  known_all c [] [] [] h apart = refl
  known_all c (r ∷ rows) (x ∷ fates) (s ∷ after) h apart =
      let same : has_number c s ≡ has_number c r = ap (λ (k : Connection). k.number == c) (fares_same t full o r x s h.0) in
      let Goal = λ (b : Bool). known_in (cond b (Some s) (find (has_number c) after)) ≡ fold (newer c) (known_in (cond b (Some r) (find (has_number c) rows))) (looks_of (x ∷ fates)) in
      let by : (b : Bool) → has_number c r ≡ b → Goal b = λ b. elim b as (λ b. has_number c r ≡ b → Goal b) [
        | true ↦ λ e. (
            let here : number r ≡ c = eqb-true (number r) c e in
            let say = own_says t full o r x s fates h.0 (absent t full o (number r) rows fates after h.1 apart.0) in
            subst (λ n. known_taken s.inlet ≡ fold (newer n) (known_taken r.inlet) (looks_of (x ∷ fates))) here
            (known_one r x s h.0 ∙ sym (newest_seen t full o r x s (looks_of (x ∷ fates)) (known_taken r.inlet) h.0 say.seen)))
        | false ↦ λ e. (
            let other : number r ≢ c = λ same. both_ways (has_number c r) e (eq-eqb (number r) c same) in
            known_all c rows fates after h.1 apart.1 ∙ sym (skips_one r x s c (known_in (find (has_number c) rows)) (looks_of fates) h.0 other))
      ] in
      ap (λ (b : Bool). known_in (cond b (Some s) (find (has_number c) after))) same ∙ by (has_number c r) refl
  known_all c rows fates after h apart = absurd h

  -- each look finds at least what was known

  abbrev pub AtLeast : List Row → List Look → Type 0
  AtLeast every looks = AllByRecursion (λ k. known_in (find (has_number k.conn) every) ≤ k.taken) looks

  both : (every : List Row) (l m : List Look) → AtLeast every l → AtLeast every m → AtLeast every (l ++ m)
  both every [] m a b = b
  both every (k ∷ l) m a b = (a.0, both every l m a.1 b)

  look_one : (every : List Row) (r : Row) (k : Look) → find (has_number (number r)) every ≡ Some r → k.conn ≡ number r → known_taken r.inlet ≤ k.taken
      → known_in (find (has_number k.conn) every) ≤ k.taken
  look_one every r k found same least = subst (λ n. n ≤ k.taken) (sym (ap (λ (n : ℕ). known_in (find (has_number n) every)) same ∙ ap known_in found)) least

  least_one : (every : List Row) (r : Row) (x : Fate) (s : Row) → find (has_number (number r)) every ≡ Some r → Befalls t full o r x s → AtLeast every (looks_in x)
  least_one every r Unmeant s found h = tt
  least_one every r (TooLong c) s found h = tt
  least_one every r (Entered k) s found h = (look_one every r k found h.1.0.conn h.1.0.look.at_least, tt)
  least_one every r (FoundFull k) s found h = (look_one every r k found h.1.0.conn h.1.0.look.at_least, tt)

  least_all : (every rows : List Row) (fates : List Fate) (after : List Row) → AllByRecursion (λ r. find (has_number (number r)) every ≡ Some r) rows → AllBefall t full o rows fates after
      → AtLeast every (looks_of fates)
  least_all every [] [] [] all h = tt
  least_all every (r ∷ rows) (x ∷ fates) (s ∷ after) all h = both every (looks_in x) (looks_of fates) (least_one every r x s all.0 h.0) (least_all every rows fates after all.1 h.1)
  least_all every rows fates after all h = absurd h

  pub learns : (d n : Desk) (looks : List Look) (fates : List Fate) → looks ≡ looks_of fates → AllBefall t full o d.rows.items fates n.rows.items → Learns d looks n
  learns d n looks fates same h =
      let apart = rows_rise d.rows.items d.filed.rising in
      rw same (record {
        at_least = least_all d.rows.items d.rows.items fates n.rows.items (all_from_In (λ r. find (has_number (number r)) d.rows.items ≡ Some r) d.rows.items
            (λ r m. found_each r d.rows.items apart m)) h;
        known = λ c. known_all c d.rows.items fates n.rows.items h apart;
      })
