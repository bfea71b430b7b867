-- The hub stops, and counts.
-- It serves the clauses of `connections`, `count` and `stop`.
use Rattle.std.proofs.Common.{◌≡◌, inl, inr, ℕ, ◌==◌, nat_lt, Bool, true, false, cond, List, [], ◌∷◌, ◌++◌, is_some, refl, ap, sym, ◌∙◌, subst}
use Rattle.std.specs.Prelude.{codes, Result, Ok, Err, IfOk, OnOk}
use Rattle.std.specs.List.{AllByRecursion, list_all, list_any}
use Rattle.std.specs.List.Sorted.{IsStrictlySortedBy}
use Rattle.std.specs.Ordering.{nat_cmp, eq_by_cmp, is_eq}
use Rattle.std.specs.declared.cmp.Ordering.TheVariants.{Less, Equal, Greater}
use Rattle.std.proofs.lemmas.Bool.{and_from, or_cases, or_left, or_right, eq-eqb, eqb-true}
use Rattle.std.proofs.lemmas.Map.Keys.{sorted_head, sorted_tail}
use Rattle.bsc_history.specs.declared.call.Call.TheVariants.{Stop, Count}
use Rattle.bsc_history.specs.declared.counts.Counts.{Counts}
use Rattle.bsc_history.specs.Counting.{counts}
use Rattle.bsc_history.specs.Laws.{is_among}
use Rattle.bsc_history.specs.Legality.{is_of}
use Rattle.bsc_history.specs.Replies.{is_stopped}
use Rattle.bsc_desk.specs.Entries.{count_entry, stop_entry}
use Rattle.bsc_hub_core.specs.Calls.{CountsAs, StopsAs}
use Rattle.bsc_hub_core.proofs.Forwards.{own_unleft}
use Rattle.bsc_script.specs.declared.script_hub.ScriptHub.{ScriptHub}
use Rattle.bsc_script.specs.Written.{line_text}
use Rattle.bsc_lines.specs.Replies.{counts_words}
use Rattle.bsc_script.specs.States.{State, peer_on}
use Rattle.bsc_script.specs.Calls.{called, is_worn}
use Rattle.bsc_script.specs.Carrying.{ScriptOutcome, quietly, writes}
use Rattle.bsc_script.specs.Running.{hub_says, says_counts, stops}
use Rattle.bsc_script.specs.Settled.{ascends}
use Rattle.bsc_script.specs.Holding.{ScriptHolds, CarriesOut}
use Rattle.bsc_script.specs.Between.{AreConnections}
use Rattle.bsc_script.proofs.Carried.{line_carried, quiet_carried}
use Rattle.bsc_script.proofs.Entered.{KeepsElse, MakesEntry, changes_all, changes_by, entered, exact_entry, lawful_at, legal_at, makes_same, stands_same, worn_is}
use Rattle.bsc_script.proofs.Peers.{some_name}

-- ---- numbers that ascend

below : (k y : ℕ) → nat_cmp k y ≡ Less → nat_lt k y ≡ true
below k y h =
    let by : (b : Bool) → cond b Less (cond (k == y) Equal Greater) ≡ Less → b ≡ true = λ b. elim b as (λ b. cond b Less (cond (k == y) Equal Greater) ≡ Less → b ≡ true) [
      | true ↦ λ g. refl
      | false ↦ elim (k == y) as (λ e. cond e Equal Greater ≡ Less → false ≡ true) [ true ↦ λ g. cc | false ↦ λ g. cc ]
    ] in
    by (nat_lt k y) h

all_below : (k : ℕ) (ks : List ℕ) → AllByRecursion (λ y. nat_cmp k y ≡ Less) ks → list_all (nat_lt k) ks ≡ true
all_below k [] h = refl
all_below k (y ∷ ks) h = and_from (nat_lt k y) (list_all (nat_lt k) ks) (below k y h.0) (all_below k ks h.1)

pub sorted_ascends : (ks : List ℕ) → IsStrictlySortedBy nat_cmp ks → ascends ks ≡ true
sorted_ascends [] h = refl
sorted_ascends (k ∷ ks) h = and_from (list_all (nat_lt k) ks) (ascends ks) (all_below k ks (sorted_head nat_cmp k ks h)) (sorted_ascends ks (sorted_tail nat_cmp k ks h))

same_by : (q k : ℕ) → eq_by_cmp nat_cmp q k ≡ true → (k == q) ≡ true
same_by q k h =
    let by : (b : Bool) → is_eq (cond b Less (cond (q == k) Equal Greater)) ≡ true
    → (q == k) ≡ true = λ b. elim b as (λ b. is_eq (cond b Less (cond (q == k) Equal Greater)) ≡ true → (q == k) ≡ true) [
      | true ↦ λ g. cc
      | false ↦ elim (q == k) as (λ e. is_eq (cond e Equal Greater) ≡ true → e ≡ true) [ true ↦ λ g. refl | false ↦ λ g. cc ]
    ] in
    eq-eqb k q (sym (eqb-true q k (by (nat_lt q k) h)))

pub member_among : (q : ℕ) (ks : List ℕ) → list_any (eq_by_cmp nat_cmp q) ks ≡ true → is_among q ks ≡ true
member_among q [] h = h
member_among q (k ∷ ks) h = elim (or_cases (eq_by_cmp nat_cmp q k) (list_any (eq_by_cmp nat_cmp q) ks) h) [
  | inl here ↦ or_left (k == q) (is_among q ks) (same_by q k here)
  | inr later ↦ or_right (k == q) (is_among q ks) (member_among q ks later)
]

-- ---- counts

-- The hub told its counts.
pub counted : (t u : ScriptHub) (s : State) (k : Counts) (before after : List ℕ) → ScriptHolds t s → KeepsElse t u → CountsAs s.history 0 (Ok k) t.core u.core
    → after ≡ before ++ line_text (hub_says (counts_words k)) → CarriesOut u before after [] (says_counts s)
counted t u s k before after w rest x wrote =
    let h = w.0 in
    let H = s.history in
    let e = count_entry 0 k in
    let made : MakesEntry t u H e = makes_same t u H e rest x.2.about x.2.stands x.2.same in
    let line = hub_says (counts_words (counts H)) in
    let o : ScriptOutcome = writes line (quietly (called s Count)) in
    let done : CarriesOut u before after [] o = entered t u s e Count [] before after line h made (λ b. refl) refl (exact_entry t u s e h made refl refl)
    (changes_by s.about H e (legal_at t s h) (lawful_at t u s e h made) refl (λ b. refl)) w.1 refl
    (wrote ∙ ap (λ (n : Counts). before ++ line_text (hub_says (counts_words n))) x.1) in
    subst (λ (b : Bool). CarriesOut u before after [] (cond b (writes (hub_says (codes "worn")) (quietly s)) o)) (sym (worn_is t s false h x.0)) done

-- A worn hub tells none.
pub counted_worn : (t u : ScriptHub) (s : State) (before after : List ℕ) → ScriptHolds t s → KeepsElse t u → u.core ≡ t.core → is_worn s ≡ true
    → after ≡ before ++ line_text (hub_says (codes "worn")) → CarriesOut u before after [] (says_counts s)
counted_worn t u s before after w rest core worn wrote =
    subst (λ (b : Bool). CarriesOut u before after [] (cond b (writes (hub_says (codes "worn")) (quietly s))
    (writes (hub_says (counts_words (counts s.history))) (quietly (called s Count))))) (sym worn)
    (line_carried u before after after [] (hub_says (codes "worn")) (quietly s) wrote (quiet_carried u after [] s (stands_same t u s rest core w.0) w.1))

-- ---- a stop

-- It has stopped.
pub stopped : (t u : ScriptHub) (s : State) (k : Counts) (cs before after : List ℕ) → ScriptHolds t s → KeepsElse t u → AreConnections t cs
    → StopsAs s.history 0 (Ok k) t.core u.core → after ≡ before ++ line_text (hub_says (counts_words k)) → CarriesOut u before after cs (stops s)
stopped t u s k cs before after w rest all x wrote =
    let h = w.0 in
    let H = s.history in
    let e = stop_entry 0 k in
    let made : MakesEntry t u H e = makes_same t u H e rest x.2.about x.2.stands x.2.same in
    let among : (c : ℕ) → is_of H 0 c ≡ true → is_among c cs ≡ true = λ c own. all.all c (ap is_some (h.names c) ∙ some_name (peer_on s c) ∙ h.joined c (own_unleft H 0 c own)) in
    let line = hub_says (counts_words (counts H)) in
    let o : ScriptOutcome = writes line (quietly (called s Stop)) in
    let done : CarriesOut u before after cs o = entered t u s e Stop cs before after line h made (λ b. refl) refl (exact_entry t u s e h made refl refl)
    (changes_all cs s.about H e among) w.1 all.order
    (wrote ∙ ap (λ (n : Counts). before ++ line_text (hub_says (counts_words n))) x.1) in
    subst (λ (b : Bool). CarriesOut u before after cs (cond b (writes (hub_says (codes "stopped already")) (quietly s)) o)) (sym x.0) done

-- It had stopped before.
pub stopped_already : (t u : ScriptHub) (s : State) (before after : List ℕ) → ScriptHolds t s → KeepsElse t u → u.core ≡ t.core → is_stopped s.history ≡ true
    → after ≡ before ++ line_text (hub_says (codes "stopped already")) → CarriesOut u before after [] (stops s)
stopped_already t u s before after w rest core is wrote =
    subst (λ (b : Bool). CarriesOut u before after [] (cond b (writes (hub_says (codes "stopped already")) (quietly s))
    (writes (hub_says (counts_words (counts s.history))) (quietly (called s Stop))))) (sym is)
    (line_carried u before after after [] (hub_says (codes "stopped already")) (quietly s) wrote (quiet_carried u after [] s (stands_same t u s rest core w.0) w.1))

-- What is put where it can be is carried on.
pub on_put : {X E P Q : Type 0} (r : Result X E) → IfOk r (λ x. P) → (P → Q) → OnOk r Q
on_put (Ok x) p f = f p
on_put (Err e) p f = tt
