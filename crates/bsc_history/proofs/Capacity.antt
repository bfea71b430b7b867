-- An outbox holds no more than its capacity.
-- It serves the clauses of `within`.
use Rattle.std.proofs.Common.{◌≡◌, ◌≢◌, ◌⊎◌, inl, inr, ℕ, ◌+◌, ◌-◌, ◌≤◌, ◌==◌, nat_le, Bool, true, false, not, ◌&&◌, ◌||◌, cond, List, [], ◌∷◌, ◌++◌, length, map, filter, fold}
use Rattle.std.proofs.Common.{is_some, is_none, refl, ap, sym, ◌∙◌, subst, arith, length-append}
use Rattle.std.specs.List.{list_any, list_all}
use Rattle.std.proofs.lemmas.Bool.{eq-eqb, false_from_ne_true, eqb-true, eqb-false, leb-true, both_ways, and_parts, or_cases, or_parts, not-true, or_right}
use Rattle.bsc_history.specs.declared.limits.About.{About}
use Rattle.bsc_history.specs.declared.call.Call.{Call}
use Rattle.bsc_history.specs.declared.call.Call.TheVariants.{Forward}
use Rattle.bsc_history.specs.declared.entry.Entry.{Entry}
use Rattle.bsc_history.specs.declared.looks.Look.{Look}
use Rattle.bsc_history.specs.declared.connection.Connection.{Connection}
use Rattle.bsc_history.specs.Entries.{joins, moment}
use Rattle.bsc_history.specs.Ends.{ended, is_live, numbered}
use Rattle.bsc_history.specs.Outboxes.{newer, looked, added, added_by, meant, out_of, takes, finds_full, is_too_long, is_found_full, sent}
use Rattle.bsc_history.specs.Replies.{numbers, is_stopped}
use Rattle.bsc_history.specs.Legality.{looks_at, can_find, Lawful, Legal}
use Rattle.bsc_history.specs.Laws.{is_among, WithinCapacity}
use Rattle.bsc_history.proofs.Lists.{In}
use Rattle.bsc_history.proofs.Named.{none_live, live_until_ended}
use Rattle.bsc_history.proofs.More.{along, sent-more, looked-more}

-- the newest of some looks at c is one of them, or there is none
pub newest_of : (c : ℕ) (looks : List Look) (n : ℕ) → ((k : Look) × In k looks × (k.conn ≡ c) × (fold (newer c) n looks ≡ k.taken))
    ⊎ ((is_among c (map (λ k. k.conn) looks) ≡ false) × (fold (newer c) n looks ≡ n))
newest_of c [] n = inr (refl, refl)
newest_of c (k ∷ ks) n =
    let Goal = λ (b : Bool). ((l : Look) × In l (k ∷ ks) × (l.conn ≡ c) × (fold (newer c) (cond b k.taken n) ks ≡ l.taken))
    ⊎ (((b || is_among c (map (λ l. l.conn) ks)) ≡ false) × (fold (newer c) (cond b k.taken n) ks ≡ n)) in
    let by : (b : Bool) → (k.conn == c) ≡ b → Goal b = λ b. elim b as (λ b. (k.conn == c) ≡ b → Goal b) [
      | true ↦ λ e. elim (newest_of c ks k.taken) [ inl r ↦ inl (r.0, inr r.1, r.2, r.3) | inr r ↦ inl (k, inl refl, eqb-true k.conn c e, r.1) ]
      | false ↦ λ e. elim (newest_of c ks n) [ inl r ↦ inl (r.0, inr r.1, r.2, r.3) | inr r ↦ inr r ]
    ] in
    by (k.conn == c) refl

all_In : (t : Look → Bool) (k : Look) (looks : List Look) → list_all t looks ≡ true → In k looks → t k ≡ true
all_In t k [] h m = absurd m
all_In t k (l ∷ ls) h (inl e) = subst (λ x. t x ≡ true) e (and_parts (t l) (list_all t ls) h).0
all_In t k (l ∷ ls) h (inr m) = all_In t k ls (and_parts (t l) (list_all t ls) h).1 m

none_In : (t : Look → Bool) (k : Look) (looks : List Look) → list_any t looks ≡ false → In k looks → t k ≡ false
none_In t k [] h m = absurd m
none_In t k (l ∷ ls) h (inl e) = subst (λ x. t x ≡ false) e (or_parts (t l) (list_any t ls) h).0
none_In t k (l ∷ ls) h (inr m) = none_In t k ls (or_parts (t l) (list_any t ls) h).1 m

-- where one takes the frame, no look finds it full, and it is among those that the frame isn't too long for
taker : (a : About) (o : List ℕ) (entered : List (List ℕ)) (looks : List Look) (c : ℕ) (xs : List Connection) → list_any (takes a o entered looks c) xs ≡ true
    → (is_found_full a entered looks c ≡ false) × (is_among c (numbers (filter (λ x. not (is_too_long o x)) xs)) ≡ true)
taker a o entered looks c [] h = cc
taker a o entered looks c (x ∷ xs) h =
    elim (or_cases (takes a o entered looks c x) (list_any (takes a o entered looks c) xs) h) [
      | inl here ↦ (
          let two = and_parts (x.number == c) (not (is_too_long o x || is_found_full a entered looks c)) here in
          let no = or_parts (is_too_long o x) (is_found_full a entered looks c) (not-true (is_too_long o x || is_found_full a entered looks c) two.1) in
          (no.1, rw (no.0, two.0) refl))
      | inr later ↦ (
          let r = taker a o entered looks c xs later in (
            r.0,
            elim (is_too_long o x) as (λ b. is_among c (numbers (cond (not b) (x ∷ filter (λ y. not (is_too_long o y)) xs) (filter (λ y. not (is_too_long o y)) xs)))
                ≡ true) [ true ↦ r.1 | false ↦ or_right (x.number == c) (is_among c (numbers (filter (λ y. not (is_too_long o y)) xs))) r.1 ],
          ))
    ]

-- what a lawful entry adds to c is nothing, or one frame where a look at c finds room
grows : (a : About) (H : List Entry) (entered : List (List ℕ)) (c : ℕ) (call : Call) (looks : List Look) → Legal a H → map (λ k. k.conn) looks ≡ looks_at H call
    → (length (added_by a H entered c call looks) ≡ 0) ⊎ ((length (added_by a H entered c call looks) ≡ 1) × (is_found_full a entered looks c ≡ false) × (is_among c (map (λ k. k.conn) looks) ≡ true))
unfolding added_by
grows a H entered c (Forward sender m) looks legal named =
    let o = out_of H sender m in
    let Goal = λ (n : ℕ). (n ≡ 0) ⊎ ((n ≡ 1) × (is_found_full a entered looks c ≡ false) × (is_among c (map (λ k. k.conn) looks) ≡ true)) in
    let by : (b : Bool) → (is_live H sender && list_any (takes a o entered looks c) (meant H sender m)) ≡ b
    → Goal (length (cond b (o ∷ []) [])) = λ b. elim b as (λ b. (is_live H sender && list_any (takes a o entered looks c) (meant H sender m)) ≡ b → Goal (length (cond b (o ∷ []) []))) [
      | true ↦ λ e. (
          let two = and_parts (is_live H sender) (list_any (takes a o entered looks c) (meant H sender m)) e in
          let r = taker a o entered looks c (meant H sender m) two.1 in
          let open_hub : is_stopped H ≡ false = false_from_ne_true (is_stopped H)
          (λ s. both_ways (is_live H sender) (ap (λ (l : List Connection). is_some (numbered sender l)) (none_live a H legal s)) two.0) in
          let unended : is_none (ended H sender) ≡ true = (and_parts (list_any (joins sender) H) (is_none (ended H sender)) (sym (live_until_ended a H legal sender) ∙ two.0)).1 in
          let at : looks_at H (Forward sender m) ≡ numbers (filter (λ x. not (is_too_long o x)) (meant H sender m)) = rw (open_hub, unended) refl in
          inr (refl, r.0, ap (is_among c) (named ∙ at) ∙ r.1))
      | false ↦ λ e. inl refl
    ] in
    by (is_live H sender && list_any (takes a o entered looks c) (meant H sender m)) refl
grows a H entered c call looks legal named = inl refl

step_within : (a : About) (G : List Entry) (e : Entry) → Legal a G → WithinCapacity a G → Lawful a (moment G e) → WithinCapacity a (G ++ e ∷ [])
step_within a G e legal w lawful = record {
  not_ahead = λ c. (
      let s = sent a G c in
      let more = sent-more a G e c in
      let fresh = looked-more G e c in
      let long : length (sent a (G ++ e ∷ []) c) ≡ length s + length (added a (moment G e) s c) = ap length more ∙ length-append s (added a (moment G e) s c) in
      let old = w.not_ahead c in
      elim (newest_of c e.looks (looked G c)) [
        | inl r ↦ (
            let can = and_parts (nat_le (looked G r.0.conn) r.0.taken) (nat_le r.0.taken (length (sent a G r.0.conn))) (all_In (λ k. can_find a G k.conn k.taken) r.0 e.looks lawful.found r.1) in
            let most : r.0.taken ≤ length (sent a G r.0.conn) = leb-true r.0.taken (length (sent a G r.0.conn)) can.1 in
            let here : r.0.taken ≤ length s = subst (λ k. r.0.taken ≤ length (sent a G k)) r.2 most in
            rw (fresh, r.3) (omega arith))
        | inr r ↦ rw (fresh, r.1) (omega arith)
      ]);
  not_over = λ c. (
      let s = sent a G c in
      let more = sent-more a G e c in
      let fresh = looked-more G e c in
      let long : length (sent a (G ++ e ∷ []) c) ≡ length s + length (added a (moment G e) s c) = ap length more ∙ length-append s (added a (moment G e) s c) in
      let old = w.not_over c in
      let adds = grows a G s c e.call e.looks legal lawful.named in
      elim (newest_of c e.looks (looked G c)) [
        | inl r ↦ (
            let can = and_parts (nat_le (looked G r.0.conn) r.0.taken) (nat_le r.0.taken (length (sent a G r.0.conn))) (all_In (λ k. can_find a G k.conn k.taken) r.0 e.looks lawful.found r.1) in
            let least : looked G r.0.conn ≤ r.0.taken = leb-true (looked G r.0.conn) r.0.taken can.0 in
            let here : looked G c ≤ r.0.taken = subst (λ k. looked G k ≤ r.0.taken) r.2 least in
            elim adds [
              | inl none ↦ rw (fresh, r.3) (omega arith)
              | inr one ↦ (
                  let room = none_In (λ k. (k.conn == c) && finds_full a s k.taken) r.0 e.looks one.1 r.1 in
                  let at : (r.0.conn == c) ≡ true = eq-eqb r.0.conn c r.2 in
                  let free : ((length s - r.0.taken) == a.limits.outbox) ≡ false = rw at at room in
                  let apart : (length s - r.0.taken) ≢ a.limits.outbox = eqb-false (length s - r.0.taken) a.limits.outbox free in
                  let l1 = one.0 in
                  rw (fresh, r.3) (omega arith))
            ])
        | inr r ↦ elim adds [
          | inl none ↦ rw (fresh, r.1) (omega arith)
          | inr one ↦ absurd (both_ways (is_among c (map (λ k. k.conn) e.looks)) r.0 one.2)
        ]
      ]);
}

pub within_capacity : (a : About) (H : List Entry) → Legal a H → WithinCapacity a H
unfolding looked sent
within_capacity a H legal = along a (WithinCapacity a) (record { not_ahead = λ c. omega arith; not_over = λ c. omega arith }) (step_within a) H legal
