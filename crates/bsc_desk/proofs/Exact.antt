-- Looks are exact where the two ends of an outbox met before the call, after the last take, and meet again after it.
use Rattle.std.proofs.Common.{◌≡◌, ℕ, ◌≤◌, ◌==◌, ◌||◌, Bool, true, false, cond, List, [], ◌∷◌, ◌++◌, length, fold, refl, ap, sym, ◌∙◌, subst, arith}
use Rattle.std.specs.List.{list_any, AllByRecursion}
use Rattle.std.proofs.lemmas.Bool.{eqb-true}
use Rattle.bsc_history.specs.declared.entry.Entry.{Entry}
use Rattle.bsc_history.specs.declared.looks.Look.{Look}
use Rattle.bsc_history.specs.Outboxes.{looked, newer}
use Rattle.bsc_history.proofs.More.{looked-more}
use Rattle.bsc_desk.specs.declared.desk.Desk.{Desk}
use Rattle.bsc_desk.specs.Knowing.{Learns}
use Rattle.bsc_desk.specs.Rows.{known_of}

-- looks at c, from whatever number on, end at the same one
same_end : (c m n : ℕ) (looks : List Look) → list_any (λ k. k.conn == c) looks ≡ true → fold (newer c) m looks ≡ fold (newer c) n looks
same_end c m n [] some = cc
same_end c m n (k ∷ ks) some =
    let by : (b : Bool) → (b || list_any (λ l. l.conn == c) ks) ≡ true → fold (newer c) (cond b k.taken m) ks ≡ fold (newer c) (cond b k.taken n) ks =
    λ b. elim b as (λ b. (b || list_any (λ l. l.conn == c) ks) ≡ true → fold (newer c) (cond b k.taken m) ks
    ≡ fold (newer c) (cond b k.taken n) ks) [ true ↦ λ e. refl | false ↦ λ e. same_end c m n ks e ] in
    by (k.conn == c) some

-- Of a connection that was looked at, what the desk knows after the call is the newest look after its entry.
pub known_looked : (d n : Desk) (H : List Entry) (e : Entry) (c : ℕ) → Learns d e.looks n → list_any (λ k. k.conn == c) e.looks ≡ true → known_of n c ≡ looked (H ++ e ∷ []) c
known_looked d n H e c l some = l.known c ∙ same_end c (known_of d c) (looked H c) e.looks some ∙ sym (looked-more H e c)

-- what is known never falls
grows : (d : Desk) (c x : ℕ) (looks : List Look) → known_of d c ≤ x → AllByRecursion (λ k. known_of d k.conn ≤ k.taken) looks → known_of d c ≤ fold (newer c) x looks
grows d c x [] low all = low
grows d c x (k ∷ ks) low all =
    let by : (b : Bool) → (k.conn == c) ≡ b → known_of d c ≤ cond b k.taken x =
    λ b. elim b as (λ b. (k.conn == c) ≡ b → known_of d c ≤ cond b k.taken x) [ true ↦ λ e. subst (λ n. known_of d n ≤ k.taken) (eqb-true k.conn c e) all.0 | false ↦ λ e. low ] in
    grows d c (cond (k.conn == c) k.taken x) ks (by (k.conn == c) refl) all.1

pub known_grows : (d n : Desk) (looks : List Look) (c : ℕ) → Learns d looks n → known_of d c ≤ known_of n c
known_grows d n looks c l = subst (λ m. known_of d c ≤ m) (sym (l.known c)) (grows d c (known_of d c) looks (omega arith) l.at_least)

-- Where so many were known to be taken, and by the next meeting no look found more, the look found just so many.
pub exact_look : (d n : Desk) (H : List Entry) (e : Entry) (c taken : ℕ) → Learns d e.looks n → known_of d c ≡ taken → looked (H ++ e ∷ []) c ≤ taken
    → list_any (λ k. k.conn == c) e.looks ≡ true → known_of n c ≡ taken
exact_look d n H e c taken l known behind some =
    let least = known_grows d n e.looks c l in
    let same = known_looked d n H e c l some in
    omega arith
