-- Which outboxes gain a frame by an entry, and which frame.
-- It serves clauses of functions of `laws`.
use Rattle.std.proofs.Common.{◌≡◌, ◌≢◌, ◌⊎◌, ◌≤◌, ◌+◌, inl, inr, ℕ, ◌==◌, Bool, true, false, not, ◌&&◌, ◌||◌, cond, List, [], ◌∷◌, ◌++◌, length, filter, Option, Some, None}
use Rattle.std.proofs.Common.{is_some, option_to_list, refl, ap, sym, ◌∙◌, append-nil, length-append, arith}
use Rattle.std.specs.Prelude.{if◌then◌else◌}
use Rattle.std.specs.List.{list_any}
use Rattle.std.proofs.lemmas.Bool.{eqb-true, eq-eqb, ne_eqb, and_parts, or_cases, or_left, or_right, both_ways}
use Rattle.bsc_octets.specs.Addresses.{same_vmac}
use Rattle.bsc_octets.specs.Forwarding.{destination}
use Rattle.bsc_history.specs.declared.limits.About.{About}
use Rattle.bsc_history.specs.declared.call.Call.{Call}
use Rattle.bsc_history.specs.declared.call.Call.TheVariants.{Forward}
use Rattle.bsc_history.specs.declared.entry.Entry.{Entry}
use Rattle.bsc_history.specs.declared.looks.Look.{Look}
use Rattle.bsc_history.specs.declared.connection.Connection.{Connection}
use Rattle.bsc_history.specs.Ends.{live, numbered, is_live}
use Rattle.bsc_history.specs.Holders.{holder}
use Rattle.bsc_history.specs.Outboxes.{added_by, meant, out_of, takes, is_too_long, is_found_full, sent}
use Rattle.bsc_history.specs.Replies.{number_of}
use Rattle.bsc_history.specs.Legality.{Legal}
use Rattle.bsc_history.specs.Laws.{UnicastJoins, BroadcastJoins, UnicastToHolderAlone, BroadcastToOthersAlone, AddsOnce}
use Rattle.bsc_history.proofs.More.{each_entry, sent-more}
use Rattle.bsc_history.proofs.Named.{meant-unicast}

-- a call adds nothing, or one frame
pub one_or_none : (a : About) (H : List Entry) (entered : List (List ℕ)) (c : ℕ) (call : Call) (looks : List Look) → (added_by a H entered c call looks ≡ [])
    ⊎ ((frame : List ℕ) × (added_by a H entered c call looks ≡ frame ∷ []))
unfolding added_by
one_or_none a H entered c (Forward sender m) looks =
    let o = out_of H sender m in
    elim (is_live H sender && list_any (takes a o entered looks c) (meant H sender m)) as (λ b. (cond b (o ∷ []) [] ≡ [])
    ⊎ ((frame : List ℕ) × (cond b (o ∷ []) [] ≡ frame ∷ []))) [ true ↦ inr (o, refl) | false ↦ inl refl ]
one_or_none a H entered c call looks = inl refl

pub adds_once : (a : About) (H : List Entry) → AddsOnce a H
adds_once a H e c =
    let s = sent a H c in
    elim (one_or_none a H s c e.call e.looks) [
      | inl none ↦ inl (sent-more a H e c ∙ ap (λ (l : List (List ℕ)). s ++ l) none ∙ append-nil s)
      | inr one ↦ inr (one.0, sent-more a H e c ∙ ap (λ (l : List (List ℕ)). s ++ l) one.1)
    ]

-- An outbox was entered by no more frames than the history has entries.
pub sent_short : (a : About) (H : List Entry) (c : ℕ) → length (sent a H c) ≤ length H
unfolding sent
sent_short a H c = each_entry (λ G. length (sent a G c) ≤ length G) (omega arith) (λ G e short.
    let long : length (G ++ e ∷ []) ≡ length G + 1 = length-append G (e ∷ []) in
    elim (adds_once a G e c) [
      | inl same ↦ (let l : length (sent a (G ++ e ∷ []) c) ≡ length (sent a G c) = ap length same in omega arith)
      | inr one ↦ (let l : length (sent a (G ++ e ∷ []) c) ≡ length (sent a G c) + 1 = ap length one.1 ∙ length-append (sent a G c) (one.0 ∷ []) in omega arith)
    ]) H

-- where a Forward makes the outbox of c grow, a connection that it means takes it, and the outbox gains the frame as it is passed on
gains : (a : About) (H : List Entry) (e : Entry) (sender : ℕ) (m : List ℕ) (c : ℕ) → e.call ≡ Forward sender m → sent a (H ++ e ∷ []) c ≢ sent a H c
    → (list_any (takes a (out_of H sender m) (sent a H c) e.looks c) (meant H sender m) ≡ true) × (sent a (H ++ e ∷ []) c ≡ sent a H c ++ out_of H sender m ∷ [])
unfolding added_by
gains a H e sender m c is grows =
    let s = sent a H c in
    let o = out_of H sender m in
    let any = list_any (takes a o s e.looks c) (meant H sender m) in
    let more : sent a (H ++ e ∷ []) c ≡ s ++ cond (is_live H sender && any) (o ∷ []) [] = sent-more a H e c ∙ ap (λ (call : Call). s ++ added_by a H s c call e.looks) is in
    let Goal = (any ≡ true) × (sent a (H ++ e ∷ []) c ≡ s ++ o ∷ []) in
    let by : (b : Bool) → (is_live H sender && any) ≡ b → Goal = λ b. elim b as (λ b. (is_live H sender && any) ≡ b → Goal) [
      | true ↦ λ t. ((and_parts (is_live H sender) any t).1, more ∙ ap (λ (k : Bool). s ++ cond k (o ∷ []) []) t)
      | false ↦ λ t. absurd (grows (more ∙ ap (λ (k : Bool). s ++ cond k (o ∷ []) []) t ∙ append-nil s))
    ] in
    by (is_live H sender && any) refl

-- the one that takes it is the one found
taker_is : (a : About) (o : List ℕ) (entered : List (List ℕ)) (looks : List Look) (c : ℕ) (r : Option Connection) → list_any (takes a o entered looks c) (option_to_list r) ≡ true
    → number_of r ≡ Some c
taker_is a o entered looks c None h = cc
taker_is a o entered looks c (Some x) h =
    elim (or_cases (takes a o entered looks c x) false h) [
      | inl here ↦ ap Some (eqb-true x.number c (and_parts (x.number == c) (not (is_too_long o x || is_found_full a entered looks c)) here).0)
      | inr bad ↦ cc
    ]

pub unicast_to_holder_alone : (a : About) (H : List Entry) → Legal a H → UnicastToHolderAlone a H
unicast_to_holder_alone a H legal e sender m c is one grows =
    let o = out_of H sender m in
    let r = gains a H e sender m c is grows in
    (taker_is a o (sent a H c) e.looks c (holder H (destination m)) (ap (list_any (takes a o (sent a H c) e.looks c)) (sym (meant-unicast a H sender m legal one)) ∙ r.0), r.1)

-- one that takes a broadcast is among those who may, and isn't the sender
taker_among : (a : About) (o : List ℕ) (entered : List (List ℕ)) (looks : List Look) (c sender : ℕ) (xs : List Connection)
    → list_any (takes a o entered looks c) (filter (λ x. not (x.number == sender)) xs) ≡ true → (is_some (numbered c xs) ≡ true) × (c ≢ sender)
taker_among a o entered looks c sender [] h = cc
taker_among a o entered looks c sender (x ∷ xs) h =
    let ys = filter (λ (y : Connection). not (y.number == sender)) xs in
    let Goal = λ (b : Bool). (is_some (cond b (Some x) (numbered c xs)) ≡ true) × (c ≢ sender) in
    let later : list_any (takes a o entered looks c) ys ≡ true → Goal (x.number == c) = λ g. (
    let r = taker_among a o entered looks c sender xs g in
    elim (x.number == c) as Goal [ true ↦ (refl, r.1) | false ↦ r ]) in
    let by : (k : Bool) → (x.number == sender) ≡ k → list_any (takes a o entered looks c) (cond (not k) (x ∷ ys) ys) ≡ true
    → Goal (x.number == c) = λ k. elim k as (λ k. (x.number == sender) ≡ k → list_any (takes a o entered looks c) (cond (not k) (x ∷ ys) ys) ≡ true → Goal (x.number == c)) [
      | true ↦ λ e g. later g
      | false ↦ λ e g. elim (or_cases (takes a o entered looks c x) (list_any (takes a o entered looks c) ys) g) [
        | inl here ↦ (
            let same = (and_parts (x.number == c) (not (is_too_long o x || is_found_full a entered looks c)) here).0 in
            (rw same refl, λ it. both_ways (x.number == sender) e (eq-eqb x.number sender (eqb-true x.number c same ∙ it))))
        | inr rest ↦ later rest
      ]
    ] in
    by (x.number == sender) refl h

pub broadcast_to_others_alone : (a : About) (H : List Entry) → BroadcastToOthersAlone a H
broadcast_to_others_alone a H e sender m c is all grows =
    let o = out_of H sender m in
    let r = gains a H e sender m c is grows in
    let others : list_any (takes a o (sent a H c) e.looks c) (filter (λ x. not (x.number == sender)) (live H)) ≡ true =
    ap (λ (b : Bool). list_any (takes a o (sent a H c) e.looks c) (filter (λ x. if b then not (x.number == sender) else same_vmac x.who.vmac (destination m)) (live H))) (sym all) ∙ r.0 in
    let t = taker_among a o (sent a H c) e.looks c sender (live H) others in
    (t.0, t.1, r.1)

-- where a live sender forwards and a connection that it means takes the frame, its outbox gains it
joins_by : (a : About) (H : List Entry) (e : Entry) (sender : ℕ) (m : List ℕ) (c : ℕ) → e.call ≡ Forward sender m → is_live H sender ≡ true
    → list_any (takes a (out_of H sender m) (sent a H c) e.looks c) (meant H sender m) ≡ true → sent a (H ++ e ∷ []) c ≡ sent a H c ++ out_of H sender m ∷ []
unfolding added_by
joins_by a H e sender m c is now any =
    let s = sent a H c in
    let o = out_of H sender m in
    sent-more a H e c ∙ ap (λ (call : Call). s ++ added_by a H s c call e.looks) is
    ∙ ap (λ (b : Bool). s ++ cond (b && list_any (takes a o s e.looks c) (meant H sender m)) (o ∷ []) []) now
    ∙ ap (λ (b : Bool). s ++ cond b (o ∷ []) []) any

takes_it : (a : About) (o : List ℕ) (entered : List (List ℕ)) (looks : List Look) (x : Connection) → is_too_long o x ≡ false → is_found_full a entered looks x.number ≡ false
    → takes a o entered looks x.number x ≡ true
takes_it a o entered looks x fits room = rw (eq-eqb x.number x.number refl, fits, room) refl

pub unicast_joins : (a : About) (H : List Entry) → Legal a H → UnicastJoins a H
unicast_joins a H legal e sender m x is one now held fits room =
    let o = out_of H sender m in
    let t = takes a o (sent a H x.number) e.looks x.number in
    joins_by a H e sender m x.number is now (
    ap (list_any t) (meant-unicast a H sender m legal one) ∙ ap (λ (r : Option Connection). list_any t (option_to_list r)) held
    ∙ or_left (t x) false (takes_it a o (sent a H x.number) e.looks x fits room))

-- one that is found and takes the frame is among those who may, where it isn't the sender
found_takes : (t : Connection → Bool) (c sender : ℕ) (x : Connection) (xs : List Connection) → numbered c xs ≡ Some x → (x.number == sender) ≡ false → t x ≡ true
    → list_any t (filter (λ y. not (y.number == sender)) xs) ≡ true
found_takes t c sender x [] found other h = cc
found_takes t c sender x (y ∷ ys) found other h =
    let zs = filter (λ (z : Connection). not (z.number == sender)) ys in
    let by : (b : Bool) → (y.number == c) ≡ b → cond b (Some y) (numbered c ys) ≡ Some x
    → list_any t (cond (not (y.number == sender)) (y ∷ zs) zs) ≡ true = λ b. elim b as (λ b. (y.number == c) ≡ b → cond b (Some y) (numbered c ys) ≡ Some x
    → list_any t (cond (not (y.number == sender)) (y ∷ zs) zs) ≡ true) [
      | true ↦ λ e f. (
          let same : y ≡ x = cc in
          let apart : (y.number == sender) ≡ false = ap (λ (z : Connection). z.number == sender) same ∙ other in
          rw apart (or_left (t y) (list_any t zs) (ap t same ∙ h)))
      | false ↦ λ e f. (
          let rest = found_takes t c sender x ys f other h in
          elim (y.number == sender) as (λ b. list_any t (cond (not b) (y ∷ zs) zs) ≡ true) [ true ↦ rest | false ↦ or_right (t y) (list_any t zs) rest ])
    ] in
    by (y.number == c) refl found

pub broadcast_joins : (a : About) (H : List Entry) → BroadcastJoins a H
broadcast_joins a H e sender m x is all now there other fits room =
    let o = out_of H sender m in
    let t = takes a o (sent a H x.number) e.looks x.number in
    joins_by a H e sender m x.number is now (
    ap (λ (b : Bool). list_any t (filter (λ y. if b then not (y.number == sender) else same_vmac y.who.vmac (destination m)) (live H))) all
    ∙ found_takes t x.number sender x (live H) there (ne_eqb x.number sender other) (takes_it a o (sent a H x.number) e.looks x fits room))
