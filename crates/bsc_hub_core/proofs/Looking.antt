-- The looks of a forward: they are apart, each finds the newest number, and whom none names gains nothing.
-- It serves the clauses of `forward`, `leave` and `meet_at`.
use Rattle.std.proofs.Common.{◌≡◌, ◌≢◌, inl, inr, ℕ, ◌==◌, Bool, true, false, not, ◌&&◌, ◌||◌, cond, List, [], ◌∷◌, ◌++◌, map, filter, fold, Option, Some, None, is_none, is_some}
use Rattle.std.proofs.Common.{refl, ap, sym, ◌∙◌, subst}
use Rattle.std.specs.List.{list_any, AllByRecursion}
use Rattle.std.proofs.lemmas.Bool.{and_from, and_parts, and_right, both_ways, eq-eqb, false_from_ne_true, or_left, or_right}
use Rattle.bsc_history.specs.declared.limits.About.{About}
use Rattle.bsc_history.specs.declared.call.Call.{Call}
use Rattle.bsc_history.specs.declared.call.Call.TheVariants.{Connect, Forward, Leave, Stop, Count}
use Rattle.bsc_history.specs.declared.connection.Connection.{Connection}
use Rattle.bsc_history.specs.declared.ending.End.{End}
use Rattle.bsc_history.specs.declared.entry.Entry.{Entry}
use Rattle.bsc_history.specs.declared.looks.Look.{Look}
use Rattle.bsc_history.specs.Entries.{joins, moment}
use Rattle.bsc_history.specs.Ends.{ended, is_live, live, numbered, unleft}
use Rattle.bsc_history.specs.Laws.{Apart, is_among}
use Rattle.bsc_history.specs.Legality.{Lawful, Legal, looks_at}
use Rattle.bsc_history.specs.Outboxes.{added, added_by, is_found_full, is_too_long, looked, meant, means, newer, out_of, sent, takes}
use Rattle.bsc_history.specs.Replies.{is_stopped, numbers}
use Rattle.bsc_history.proofs.Capacity.{newest_of}
use Rattle.bsc_history.proofs.Common.{any_filtered, looks_live}
use Rattle.bsc_history.proofs.Connections.{live_unended}
use Rattle.bsc_history.proofs.Finding.{fits}
use Rattle.bsc_history.proofs.Lists.{Apart-filter, In, any_In, any_gives, same_one}
use Rattle.bsc_history.proofs.More.{looked-more}
use Rattle.bsc_history.proofs.Named.{among_filter, live_until_ended, none_live}
use Rattle.bsc_lemmas.proofs.Booleans.{not_or}
use Rattle.bsc_history.proofs.Numbers.{live_numbers}
use Rattle.bsc_hub_core.specs.Standing.{IsUnleft}

-- ---- who is looked at

-- it hasn't left
pub looks_unleft : (a : About) (H : List Entry) (call : Call) (c : ℕ) → Legal a H → is_among c (looks_at H call) ≡ true → IsUnleft H c
looks_unleft a H call c legal among =
    let p = λ (x : Connection). x.number == c in
    any_filtered p (λ (x : Connection). is_none (ended H x.number)) (unleft H) (sym (ap (list_any p) (live_unended a H legal)) ∙ looks_live H call c among)

pub among_In : (looks : List Look) (k : Look) → In k looks → is_among k.conn (map (λ l. l.conn) looks) ≡ true
among_In [] k m = absurd m
among_In (l ∷ ls) k (inl e) = or_left (l.conn == k.conn) (is_among k.conn (map (λ x. x.conn) ls)) (eq-eqb l.conn k.conn (ap (λ (x : Look). x.conn) e))
among_In (l ∷ ls) k (inr m) = or_right (l.conn == k.conn) (is_among k.conn (map (λ x. x.conn) ls)) (among_In ls k m)

all_mapped : {A B : Type 0} (f : A → B) (P : B → Type 0) (xs : List A) → AllByRecursion (λ x. P (f x)) xs → AllByRecursion P (map f xs)
all_mapped f P [] h = tt
all_mapped f P (x ∷ xs) h = (h.0, all_mapped f P xs h.1)

all_of_mapped : {A B : Type 0} (f : A → B) (P : B → Type 0) (xs : List A) → AllByRecursion P (map f xs) → AllByRecursion (λ x. P (f x)) xs
all_of_mapped f P [] h = tt
all_of_mapped f P (x ∷ xs) h = (h.0, all_of_mapped f P xs h.1)

apart_mapped : {A B : Type 0} (f : A → B) (xs : List A) → Apart f xs → Apart (λ (b : B). b) (map f xs)
apart_mapped f [] h = tt
apart_mapped {A} {B} f (x ∷ xs) h = (all_mapped f (λ (y : B). f x ≢ y) xs h.0, apart_mapped f xs h.1)

apart_of_mapped : {A B : Type 0} (f : A → B) (xs : List A) → Apart (λ (b : B). b) (map f xs) → Apart f xs
apart_of_mapped f [] h = tt
apart_of_mapped {A} {B} f (x ∷ xs) h = (all_of_mapped f (λ (y : B). f x ≢ y) xs h.0, apart_of_mapped f xs h.1)

-- the connections to look at are apart
pub looks_at_apart : (a : About) (H : List Entry) (call : Call) → Legal a H → Apart (λ (c : ℕ). c) (looks_at H call)
looks_at_apart a H (Forward sender m) legal =
    let xs = filter (λ (c : Connection). not (is_too_long (out_of H sender m) c)) (meant H sender m) in
    let some : Apart (λ (c : ℕ). c) (numbers xs) = apart_mapped (λ (c : Connection). c.number) xs
    (Apart-filter (λ (c : Connection). c.number) (λ c. not (is_too_long (out_of H sender m) c)) (meant H sender m)
    (Apart-filter (λ (c : Connection). c.number) (means m sender) (live H) (live_numbers a H legal))) in
    elim (is_stopped H || not (is_none (ended H sender))) as (λ b. Apart (λ (c : ℕ). c) (cond b [] (numbers xs))) [ true ↦ tt | false ↦ some ]
looks_at_apart a H (Connect who) legal = tt
looks_at_apart a H (Leave conn taken empties) legal = tt
looks_at_apart a H Stop legal = tt
looks_at_apart a H Count legal = tt

-- the looks of a lawful entry are apart
pub looks_apart : (a : About) (H : List Entry) (e : Entry) → Legal a H → Lawful a (moment H e) → Apart (λ (k : Look). k.conn) e.looks
looks_apart a H e legal lawful =
    apart_of_mapped (λ (k : Look). k.conn) e.looks (subst (Apart (λ (c : ℕ). c)) (sym lawful.named) (looks_at_apart a H e.call legal))

-- Each look of a lawful entry is the newest one after it.
pub look_newest : (a : About) (H : List Entry) (e : Entry) (k : Look) → Legal a H → Lawful a (moment H e) → In k e.looks → looked (H ++ e ∷ []) k.conn ≡ k.taken
look_newest a H e k legal lawful m =
    looked-more H e k.conn ∙ elim (newest_of k.conn e.looks (looked H k.conn)) [
      | inl r ↦ r.3 ∙ ap (λ (x : Look). x.taken) (same_one (λ (x : Look). x.conn) r.0 k e.looks (looks_apart a H e legal lawful) r.1 m r.2)
      | inr r ↦ absurd (both_ways (is_among k.conn (map (λ x. x.conn) e.looks)) r.0 (among_In e.looks k m))
    ]

-- ---- who isn't looked at

-- whom no look names keeps what was found of it
pub newest_kept : (c : ℕ) (looks : List Look) (n : ℕ) → is_among c (map (λ k. k.conn) looks) ≡ false → fold (newer c) n looks ≡ n
newest_kept c looks n off = elim (newest_of c looks n) [
  | inl r ↦ absurd (both_ways (is_among c (map (λ k. k.conn) looks)) off (ap (λ b. is_among b (map (λ k. k.conn) looks)) (sym r.2) ∙ among_In looks r.0 r.1))
  | inr r ↦ r.1
]

pub looked_kept : (H : List Entry) (e : Entry) (c : ℕ) → is_among c (map (λ k. k.conn) e.looks) ≡ false → looked (H ++ e ∷ []) c ≡ looked H c
looked_kept H e c off = looked-more H e c ∙ newest_kept c e.looks (looked H c) off

-- nothing enters its outbox
pub unlooked_added : (a : About) (H : List Entry) (e : Entry) (sender : ℕ) (m : List ℕ) (c : ℕ) → Legal a H → Lawful a (moment H e) → e.call ≡ Forward sender m
    → is_among c (map (λ k. k.conn) e.looks) ≡ false → added a (moment H e) (sent a H c) c ≡ []
unfolding added_by
unlooked_added a H e sender m c legal lawful is off =
    let o = out_of H sender m in
    let xs = meant H sender m in
    let q = λ (x : Connection). not (is_too_long o x) in
    let ks = numbers (filter q xs) in
    let T = takes a o (sent a H c) e.looks c in
    let there : is_among c (looks_at H (Forward sender m)) ≡ false = ap (λ (call : Call). is_among c (looks_at H call)) (sym is) ∙ ap (is_among c) (sym lawful.named) ∙ off in
    let dead : is_live H sender ≡ false → (is_live H sender && list_any T xs) ≡ false = λ no. ap (λ (b : Bool). b && list_any T xs) no in
    let untaken : is_among c ks ≡ false → (is_live H sender && list_any T xs) ≡ false = λ no. and_right (is_live H sender) (list_any T xs) (false_from_ne_true (list_any T xs) (λ yes. (
    let r = any_gives T xs yes in
    let two = and_parts (r.0.number == c) (not (is_too_long o r.0 || is_found_full a (sent a H c) e.looks c)) r.2 in
    let fit : fits o c r.0 ≡ true = and_from (r.0.number == c) (q r.0) two.0 (not_or (is_too_long o r.0) (is_found_full a (sent a H c) e.looks c) two.1) in
    both_ways (is_among c ks) no (among_filter c q (fits o c) (λ x. refl) xs ∙ any_In (fits o c) r.0 xs r.1 fit)))) in
    let by : (s : Bool) (w : Option End) → is_stopped H ≡ s → ended H sender ≡ w → is_among c (cond (s || not (is_none w)) [] ks) ≡ false
    → (is_live H sender && list_any T xs) ≡ false = λ s w. elim s as (λ s. is_stopped H ≡ s → ended H sender ≡ w → is_among c (cond (s || not (is_none w)) [] ks) ≡ false
    → (is_live H sender && list_any T xs) ≡ false) [
      | true ↦ λ stopped ends no. dead (ap (λ (l : List Connection). is_some (numbered sender l)) (none_live a H legal stopped))
      | false ↦ elim w as (λ w. is_stopped H ≡ false → ended H sender ≡ w → is_among c (cond (not (is_none w)) [] ks) ≡ false → (is_live H sender && list_any T xs) ≡ false) [
        | None ↦ λ open_hub ends no. untaken no
        | Some k ↦ λ open_hub ends no. dead (live_until_ended a H legal sender ∙ ap (λ (w : Option End). list_any (joins sender) H && is_none w) ends
            ∙ and_right (list_any (joins sender) H) false refl)
      ]
    ] in
    ap (λ (call : Call). added_by a H (sent a H c) c call e.looks) is ∙ ap (λ (b : Bool). cond b (o ∷ []) []) (by (is_stopped H) (ended H sender) refl refl there)
