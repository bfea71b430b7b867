-- What all leaves of a legal history say was taken is no more than was appended.
-- It serves the clauses of `run`.
use Rattle.std.proofs.Common.{◌≡◌, ◌≢◌, ◌≤◌, ◌+◌, ℕ, ◌==◌, Bool, true, false, not, ◌&&◌, ◌||◌, cond, List, [], ◌∷◌, ◌++◌, length, filter, Option, Some, None, option_to_list, refl}
use Rattle.std.proofs.Common.{ap, sym, ◌∙◌, subst, arith, length-append}
use Rattle.std.specs.Prelude.{nat_le}
use Rattle.std.specs.List.{list_any, sum_by}
use Rattle.std.proofs.lemmas.Bool.{and_parts, eq-eqb, eqb-true, leb-true, not_from_true}
use Rattle.std.proofs.lemmas.List.Sums.{sum_by-cons, sum_by_push, sum_by-append}
use Rattle.bsc_history.specs.declared.call.Call.{Call}
use Rattle.bsc_history.specs.declared.call.Call.TheVariants.{Connect, Forward, Leave, Stop, Count}
use Rattle.bsc_history.specs.declared.connection.Connection.{Connection}
use Rattle.bsc_history.specs.declared.entry.Entry.{Entry}
use Rattle.bsc_history.specs.declared.limits.About.{About}
use Rattle.bsc_history.specs.Counting.{counts}
use Rattle.bsc_history.specs.Ends.{is_leave, joined, joined_where, leaves, unleft}
use Rattle.bsc_history.specs.Entries.{connection_of, moment, own}
use Rattle.bsc_history.specs.Legality.{Lawful, Legal, can_find, is_of, may_call}
use Rattle.bsc_history.specs.Outboxes.{added, looked, sent}
use Rattle.bsc_history.proofs.More.{along, joined-more, sent-more, unleft-more}
use Rattle.bsc_load.proofs.Appended.{appended_is_sent}

-- how many frames a leave says were taken, and all leaves together
abbrev pub taken_by : Call → ℕ
taken_by (Leave conn taken empties) = taken
taken_by call = 0

abbrev pub all_taken : List Entry → ℕ
all_taken E = sum_by (λ e. taken_by e.call) E

module _ {X : Type 0} where
  sum_more : (f g d : X → ℕ) (xs : List X) → ((x : X) → g x ≡ f x + d x) → sum_by g xs ≡ sum_by f xs + sum_by d xs
  sum_more f g d [] same = refl
  sum_more f g d (x ∷ xs) same = omega (arith, sum_by-cons f x xs, sum_by-cons g x xs, sum_by-cons d x xs, same x, sum_more f g d xs same)

  -- what is kept of a list adds up to no more
  sum_kept : (f : X → ℕ) (keep : X → Bool) (xs : List X) → sum_by f (filter keep xs) ≤ sum_by f xs
  sum_kept f keep [] = omega arith
  sum_kept f keep (x ∷ xs) =
      let rest = sum_kept f keep xs in
      let whole = sum_by-cons f x xs in
      let by : (b : Bool) → sum_by f (cond b (x ∷ filter keep xs) (filter keep xs)) ≤ sum_by f (x ∷ xs) =
      λ b. elim b as (λ b. sum_by f (cond b (x ∷ filter keep xs) (filter keep xs)) ≤ sum_by f (x ∷ xs)) [
        | true ↦ omega (arith, sum_by-cons f x (filter keep xs), rest, whole)
        | false ↦ omega (arith, rest, whole)
      ] in
      by (keep x)

  -- and less by what is left out
  sum_left_out : (f : X → ℕ) (keep there : X → Bool) (n : ℕ) (xs : List X) → ((x : X) → there x ≡ true → keep x ≡ false) → ((x : X) → there x ≡ true → n ≤ f x) → list_any there xs ≡ true
      → n + sum_by f (filter keep xs) ≤ sum_by f xs
  sum_left_out f keep there n [] out few any = cc
  sum_left_out f keep there n (x ∷ xs) out few any =
      let whole = sum_by-cons f x xs in
      let at : (b : Bool) → there x ≡ b → n + sum_by f (filter keep (x ∷ xs)) ≤ sum_by f (x ∷ xs) = λ b. elim b as (λ b. there x ≡ b → n + sum_by f (filter keep (x ∷ xs)) ≤ sum_by f (x ∷ xs)) [
        | true ↦ λ is. (
            let gone : filter keep (x ∷ xs) ≡ filter keep xs = ap (λ (k : Bool). cond k (x ∷ filter keep xs) (filter keep xs)) (out x is) in
            let same = ap (sum_by f) gone in
            omega (arith, same, whole, few x is, sum_kept f keep xs))
        | false ↦ λ is. (
            let later : list_any there xs ≡ true = sym (ap (λ (k : Bool). k || list_any there xs) is) ∙ any in
            let rest = sum_left_out f keep there n xs out few later in
            let by : (k : Bool) → n + sum_by f (cond k (x ∷ filter keep xs) (filter keep xs)) ≤ sum_by f (x ∷ xs) =
            λ k. elim k as (λ k. n + sum_by f (cond k (x ∷ filter keep xs) (filter keep xs)) ≤ sum_by f (x ∷ xs)) [
              | true ↦ omega (arith, sum_by-cons f x (filter keep xs), rest, whole)
              | false ↦ omega (arith, rest, whole)
            ] in
            by (keep x))
      ] in
      at (there x) refl

-- a part of those who joined adds up to no more than all
sum_where : (f : Connection → ℕ) (test : ℕ → List Entry → Bool) (H : List Entry) → sum_by f (joined_where test H) ≤ sum_by f (joined H)
unfolding joined_where
sum_where f test [] = omega arith
sum_where f test (e ∷ after) =
    let rest = sum_where f test after in
    let by : (o : Option Connection) → sum_by f (filter (λ c. test c.number after) (option_to_list o) ++ joined_where test after)
    ≤ sum_by f (filter (λ c. true) (option_to_list o) ++ joined after) = λ o. elim o as (λ o. sum_by f (filter (λ c. test c.number after) (option_to_list o) ++ joined_where test after)
    ≤ sum_by f (filter (λ c. true) (option_to_list o) ++ joined after)) [
      | None ↦ rest
      | Some c ↦ (
          let one = sum_by-cons f c (joined after) in
          let at : (b : Bool) → sum_by f (cond b (c ∷ []) [] ++ joined_where test after) ≤ sum_by f (c ∷ joined after) =
          λ b. elim b as (λ b. sum_by f (cond b (c ∷ []) [] ++ joined_where test after) ≤ sum_by f (c ∷ joined after)) [
            | true ↦ omega (arith, sum_by-cons f c (joined_where test after), rest, one)
            | false ↦ omega (arith, rest, one)
          ] in
          at (test c.number after))
    ] in
    by (connection_of e)

-- how many frames entered the outbox of one who joined
abbrev lengths : About → List Entry → Connection → ℕ
lengths a G x = length (sent a G x.number)

-- those who left took no more than entered, beside what entered for those who haven't left
abbrev Within : About → List Entry → Type 0
Within a G = all_taken G + sum_by (lengths a G) (unleft G) ≤ sum_by (lengths a G) (joined G)

module _ (a : About) (G : List Entry) (e : Entry) (lawful : Lawful a (moment G e)) where
  left_by : (conn taken empties : ℕ) → e.call ≡ Leave conn taken empties → taken + sum_by (lengths a G) (filter (λ x. not (leaves x.number e)) (unleft G)) ≤ sum_by (lengths a G) (unleft G)
  left_by conn taken empties is =
      let may : may_call a G e.caller (Leave conn taken empties) ≡ true = subst (λ (call : Call). may_call a G e.caller call ≡ true) is lawful.called in
      let parts = and_parts (is_of G e.caller conn) (can_find a G conn taken) may in
      let few = leb-true taken (length (sent a G conn)) (and_parts (nat_le (looked G conn) taken) (nat_le taken (length (sent a G conn))) parts.1).1 in
      let there = λ (x : Connection). (x.number == conn) && (x.caller == e.caller) in
      let number : (x : Connection) → there x ≡ true → x.number ≡ conn = λ x h. eqb-true x.number conn (and_parts (x.number == conn) (x.caller == e.caller) h).0 in
      sum_left_out (lengths a G) (λ (x : Connection). not (leaves x.number e)) there taken (unleft G)
      (λ x h. not_from_true (leaves x.number e) (ap (is_leave x.number) is ∙ eq-eqb conn x.number (sym (number x h))))
      (λ x h. subst (λ (c : ℕ). taken ≤ length (sent a G c)) (sym (number x h)) few) parts.0

  -- a leave takes one out of those who haven't left, who had as many
  left_out : (call : Call) → e.call ≡ call → taken_by e.call + sum_by (lengths a G) (filter (λ x. not (leaves x.number e)) (unleft G)) ≤ sum_by (lengths a G) (unleft G)
  left_out (Connect who) is = (let none : taken_by e.call ≡ 0 = ap taken_by is in omega (arith, none, sum_kept (lengths a G) (λ x. not (leaves x.number e)) (unleft G)))
  left_out (Forward s m) is = (let none : taken_by e.call ≡ 0 = ap taken_by is in omega (arith, none, sum_kept (lengths a G) (λ x. not (leaves x.number e)) (unleft G)))
  left_out Stop is = (let none : taken_by e.call ≡ 0 = ap taken_by is in omega (arith, none, sum_kept (lengths a G) (λ x. not (leaves x.number e)) (unleft G)))
  left_out Count is = (let none : taken_by e.call ≡ 0 = ap taken_by is in omega (arith, none, sum_kept (lengths a G) (λ x. not (leaves x.number e)) (unleft G)))
  left_out (Leave conn taken empties) is = (let all : taken_by e.call ≡ taken = ap taken_by is in omega (arith, all, left_by conn taken empties is))

  within_more : Within a G → Within a (G ++ e ∷ [])
  within_more before =
      let H = G ++ e ∷ [] in
      let o = option_to_list (connection_of e) in
      let keep = λ (x : Connection). not (leaves x.number e) in
      let d = λ (x : Connection). length (added a (moment G e) (sent a G x.number) x.number) in
      let grows : (x : Connection) → lengths a H x ≡ lengths a G x + d x = λ x. ap (λ (l : List (List ℕ)). length l) (sent-more a G e x.number)
      ∙ length-append (sent a G x.number) (added a (moment G e) (sent a G x.number) x.number) in
      let test = λ (c : ℕ) (after : List Entry). not (list_any (leaves c) after) in
      let all : sum_by (lengths a H) (joined H) ≡ sum_by (lengths a H) (joined G) + sum_by (lengths a H) o = ap (sum_by (lengths a H)) (joined-more G e) ∙ sum_by-append (lengths a H) (joined G) o in
      let left : sum_by (lengths a H) (unleft H) ≡ sum_by (lengths a H) (filter keep (unleft G)) + sum_by (lengths a H) o = ap (sum_by (lengths a H)) (unleft-more G e)
      ∙ sum_by-append (lengths a H) (filter keep (unleft G)) o in
      let one = sum_more (lengths a G) (lengths a H) d (joined G) grows in
      let two = sum_more (lengths a G) (lengths a H) d (filter keep (unleft G)) grows in
      let kept = sum_kept d keep (unleft G) in
      let part : sum_by d (unleft G) ≤ sum_by d (joined G) = sum_where d test G in
      let more : all_taken H ≡ all_taken G + taken_by e.call = sum_by_push (λ (x : Entry). taken_by x.call) G e in
      omega (arith, before, all, left, one, two, kept, part, more, left_out e.call refl)

within_all : (a : About) (H : List Entry) → Legal a H → Within a H
unfolding joined_where
within_all a H legal = along a (Within a) (omega arith) (λ G e legalG before lawful. within_more a G e lawful before) H legal

-- all leaves together say no more than was appended
pub taken_few : (a : About) (H : List Entry) → Legal a H → all_taken H ≤ (counts H).appended
taken_few a H legal = (let k = within_all a H legal in let l = appended_is_sent a H legal in omega (arith, k, l))

-- what two callers' leaves say is no more than what all say
pub own_two : (H : List Entry) (n m : ℕ) → n ≢ m → all_taken (own H n) + all_taken (own H m) ≤ all_taken H
own_two [] n m apart = omega arith
own_two (e ∷ H) n m apart =
    let rest = own_two H n m apart in
    let t = λ (x : Entry). taken_by x.call in
    let whole = sum_by-cons t e H in
    let P = λ (b c : Bool). all_taken (cond b (e ∷ own H n) (own H n)) + all_taken (cond c (e ∷ own H m) (own H m)) ≤ all_taken (e ∷ H) in
    let by : (b c : Bool) → (e.caller == n) ≡ b → (e.caller == m) ≡ c → P b c = λ b c. elim b as (λ b. (e.caller == n) ≡ b → (e.caller == m) ≡ c → P b c) [
      | true ↦ elim c as (λ c. (e.caller == n) ≡ true → (e.caller == m) ≡ c → P true c) [
        | true ↦ λ h k. absurd (apart (sym (eqb-true e.caller n h) ∙ eqb-true e.caller m k))
        | false ↦ λ h k. omega (arith, sum_by-cons t e (own H n), rest, whole)
      ]
      | false ↦ elim c as (λ c. (e.caller == n) ≡ false → (e.caller == m) ≡ c → P false c) [
        | true ↦ λ h k. omega (arith, sum_by-cons t e (own H m), rest, whole)
        | false ↦ λ h k. omega (arith, rest, whole)
      ]
    ] in
    by (e.caller == n) (e.caller == m) refl refl
