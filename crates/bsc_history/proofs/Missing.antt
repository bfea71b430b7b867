-- A full outbox misses a broadcast, and each live connection but the sender stands in one list of the reply.
-- It serves the clauses of `full_misses` and `one_of_three`.
use Rattle.std.proofs.Common.{◌≡◌, ◌≢◌, inl, inr, ℕ, ◌+◌, ◌==◌, Bool, true, false, not, ◌&&◌, cond, List, [], ◌∷◌, ◌++◌, filter, Option, Some, None, is_some, refl, ap, sym, ◌∙◌, append_assoc, arith}
use Rattle.std.specs.List.{count_by}
use Rattle.std.specs.Option.{option_or}
use Rattle.std.proofs.Math.Nat.{zero-add}
use Rattle.std.proofs.lemmas.Bool.{both_ways, eqb-true, eq-eqb, ne_eqb}
use Rattle.std.proofs.lemmas.List.Sums.{sum_by-cons, sum_by-append}
use Rattle.bsc_octets.specs.Addresses.{same_vmac}
use Rattle.bsc_octets.specs.Forwarding.{destination, is_broadcast}
use Rattle.bsc_history.specs.declared.limits.About.{About}
use Rattle.bsc_history.specs.declared.call.Call.{Call}
use Rattle.bsc_history.specs.declared.ending.End.{End}
use Rattle.bsc_history.specs.declared.entry.Entry.{Entry}
use Rattle.bsc_history.specs.declared.looks.Look.{Look}
use Rattle.bsc_history.specs.declared.reply.Reply.{Reply}
use Rattle.bsc_history.specs.declared.reply.Reply.TheVariants.{Appended, Closed, SentAll, Skipped, Stopped}
use Rattle.bsc_history.specs.declared.connection.Connection.{Connection}
use Rattle.bsc_history.specs.Entries.{connection_of, made_by}
use Rattle.bsc_history.specs.Ends.{end_by, end_by_call, end_by_reply, ended, is_live, live, numbered}
use Rattle.bsc_history.specs.Holders.{holder}
use Rattle.bsc_history.specs.Outboxes.{is_found_full, is_too_long, meant, out_of, sent}
use Rattle.bsc_history.specs.Counting.{one_if}
use Rattle.bsc_history.specs.Replies.{broadcast_reply, forward_reply, is_stopped, numbers, reply, unicast_reply, unless_ended}
use Rattle.bsc_history.specs.Legality.{Legal}
use Rattle.bsc_history.specs.Laws.{Apart, FullMisses, OneOfThree, names_missed}
use Rattle.bsc_history.proofs.Finding.{fits, found_by, none_takes, nothing_added, replied_by, same_full}
use Rattle.bsc_history.proofs.Lists.{In_from_all, In}
use Rattle.bsc_history.proofs.More.{ended-same, live-same}
use Rattle.bsc_history.proofs.Named.{among_filter}
use Rattle.bsc_history.proofs.Numbers.{live_numbers}

pub full_misses : (a : About) (H : List Entry) → FullMisses a H
full_misses a H e sender m c lawful is all full =
    let o = out_of H sender m in
    let xs = meant H sender m in
    let found = found_by a H e sender m c lawful is full in
    let replied : e.reply ≡ broadcast_reply a H o e.looks xs = replied_by a H e sender m lawful is found.0 found.1
    ∙ ap (λ (b : Bool). cond b (broadcast_reply a H o e.looks xs) (unicast_reply a H m o e.looks (holder H (destination m)))) all in
    let none : connection_of e ≡ None = ap (λ (call : Call). made_by e.caller call e.reply) is in
    let ends : (k : ℕ) → end_by k e ≡ None = λ k. ap (λ (call : Call). option_or (end_by_call k call) (end_by_reply k e.reply)) is ∙ ap (end_by_reply k) replied in (
      ap (names_missed c) replied ∙ among_filter c (λ x. not (is_too_long o x) && is_found_full a (sent a H x.number) e.looks x.number) (fits o c) (same_full a H o e.looks c full) xs ∙ found.2,
      nothing_added a H e sender m c is (none_takes a o (sent a H c) e.looks c full xs),
      live-same H e none ends,
      λ k. ended-same H e k (ends k),
    )

-- how often c stands in a list

abbrev one : ℕ → ℕ → ℕ
one c k = cond (k == c) 1 0

abbrev often : ℕ → List ℕ → ℕ
often c ks = count_by (λ k. k == c) ks

often-cons : (c k : ℕ) (ks : List ℕ) → often c (k ∷ ks) ≡ one c k + often c ks
often-cons c k ks = sum_by-cons (one c) k ks

often-append : (c : ℕ) (ks ls : List ℕ) → often c (ks ++ ls) ≡ often c ks + often c ls
often-append c ks ls = sum_by-append (one c) ks ls

-- each connection passes one of three tests, so the three lists together have the numbers of all
sorted : (c : ℕ) (long full : Connection → Bool) (xs : List Connection)
    → often c (numbers (filter (λ x. not (long x) && not (full x)) xs)) + (often c (numbers (filter (λ x. not (long x) && full x) xs)) + often c (numbers (filter (λ x. long x) xs)))
    ≡ often c (numbers xs)
sorted c long full [] = refl
sorted c long full (x ∷ xs) =
    let A = filter (λ (y : Connection). not (long y) && not (full y)) xs in
    let B = filter (λ (y : Connection). not (long y) && full y) xs in
    let C = filter (λ (y : Connection). long y) xs in
    let n = x.number in
    let rest = sorted c long full xs in
    let whole = often-cons c n (numbers xs) in
    elim (long x) as (λ l. often c (numbers (cond (not l && not (full x)) (x ∷ A) A)) + (often c (numbers (cond (not l && full x) (x ∷ B) B)) + often c (numbers (cond l (x ∷ C) C)))
    ≡ often c (n ∷ numbers xs)) [
      | true ↦ (let here = often-cons c n (numbers C) in omega arith)
      | false ↦ elim (full x) as (λ f. often c (numbers (cond (not f) (x ∷ A) A)) + (often c (numbers (cond f (x ∷ B) B)) + often c (numbers C)) ≡ often c (n ∷ numbers xs)) [
        | true ↦ (let here = often-cons c n (numbers B) in omega arith)
        | false ↦ (let here = often-cons c n (numbers A) in omega arith)
      ]
    ]

never_found : (c : ℕ) (xs : List Connection) → ((x : Connection) → In x xs → x.number ≢ c) → often c (numbers xs) ≡ 0
never_found c [] other = refl
never_found c (x ∷ xs) other = often-cons c x.number (numbers xs) ∙ ap (λ (b : Bool). cond b 1 0 + often c (numbers xs)) (ne_eqb x.number c (other x (inl refl)))
    ∙ zero-add (often c (numbers xs)) ∙ never_found c xs (λ y m. other y (inr m))

-- of connections with numbers of their own, one has the number c once or not at all
once_found : (c : ℕ) (xs : List Connection) → Apart (λ (x : Connection). x.number) xs → often c (numbers xs) ≡ one_if (is_some (numbered c xs))
once_found c [] apart = refl
once_found c (x ∷ xs) apart =
    let rest = once_found c xs apart.1 in
    let by : (b : Bool) → (x.number == c) ≡ b → cond b 1 0 + often c (numbers xs) ≡ one_if (is_some (cond b (Some x) (numbered c xs))) =
    λ b. elim b as (λ b. (x.number == c) ≡ b → cond b 1 0 + often c (numbers xs) ≡ one_if (is_some (cond b (Some x) (numbered c xs)))) [
      | true ↦ λ e. (let none = never_found c xs (λ y m same. In_from_all (λ (z : Connection). x.number ≢ z.number) y xs apart.0 m (eqb-true x.number c e ∙ sym same)) in rw none refl)
      | false ↦ λ e. zero-add (often c (numbers xs)) ∙ rest
    ] in
    often-cons c x.number (numbers xs) ∙ by (x.number == c) refl

-- c stands among all but the sender as often as among all, and not at all if it is the sender
but_sender : (c sender : ℕ) (xs : List Connection) → often c (numbers (filter (λ x. not (x.number == sender)) xs)) ≡ cond (not (c == sender)) (often c (numbers xs)) 0
but_sender c sender [] = elim (c == sender) as (λ b. often c [] ≡ cond (not b) (often c []) 0) [ true ↦ refl | false ↦ refl ]
but_sender c sender (x ∷ xs) =
    let ys = filter (λ (y : Connection). not (y.number == sender)) xs in
    let rest = but_sender c sender xs in
    let whole = often-cons c x.number (numbers xs) in
    let Goal = λ (k b : Bool). often c (numbers (cond (not k) (x ∷ ys) ys)) ≡ cond (not b) (often c (x.number ∷ numbers xs)) 0 in
    let by : (k b : Bool) → (x.number == sender) ≡ k → (c == sender) ≡ b → Goal k b = λ k b. elim k as (λ k. (x.number == sender) ≡ k → (c == sender) ≡ b → Goal k b) [
      | true ↦ elim b as (λ b. (x.number == sender) ≡ true → (c == sender) ≡ b → Goal true b) [
        | true ↦ λ e d. rest ∙ ap (λ (k : Bool). cond (not k) (often c (numbers xs)) 0) d
        | false ↦ λ e d. (
            let other : (x.number == c) ≡ false = ne_eqb x.number c (λ same. both_ways (c == sender) d (eq-eqb c sender (sym same ∙ eqb-true x.number sender e))) in
            rest ∙ ap (λ (k : Bool). cond (not k) (often c (numbers xs)) 0) d ∙ sym (whole ∙ ap (λ (k : Bool). cond k 1 0 + often c (numbers xs)) other ∙ zero-add (often c (numbers xs))))
      ]
      | false ↦ elim b as (λ b. (x.number == sender) ≡ false → (c == sender) ≡ b → Goal false b) [
        | true ↦ λ e d. (
            let other : (x.number == c) ≡ false = ne_eqb x.number c (λ same. both_ways (x.number == sender) e (eq-eqb x.number sender (same ∙ eqb-true c sender d))) in
            often-cons c x.number (numbers ys) ∙ ap (λ (k : Bool). cond k 1 0 + often c (numbers ys)) other ∙ zero-add (often c (numbers ys)) ∙ rest
            ∙ ap (λ (k : Bool). cond (not k) (often c (numbers xs)) 0) d)
        | false ↦ λ e d. often-cons c x.number (numbers ys) ∙ ap (λ (n : ℕ). one c x.number + n) (rest ∙ ap (λ (k : Bool). cond (not k) (often c (numbers xs)) 0) d) ∙ sym whole
      ]
    ] in
    by (x.number == sender) (c == sender) refl refl

-- where a Forward is answered SentAll, that is the reply of a broadcast

single : (a : About) (H : List Entry) (m o : List ℕ) (looks : List Look) (r : Option Connection) (to missed skipped : List ℕ) → SentAll to missed skipped ≡ unicast_reply a H m o looks r → ⊥
single a H m o looks None to missed skipped h = cc
single a H m o looks (Some x) to missed skipped h =
    let by : (l f : Bool) → SentAll to missed skipped ≡ cond l (Skipped x.number) (cond f (Closed x.number) (Appended x.number))
    → ⊥ = λ l f. elim l as (λ l. SentAll to missed skipped ≡ cond l (Skipped x.number) (cond f (Closed x.number) (Appended x.number)) → ⊥) [
      | true ↦ λ g. cc
      | false ↦ elim f as (λ f. SentAll to missed skipped ≡ cond f (Closed x.number) (Appended x.number) → ⊥) [ true ↦ λ g. cc | false ↦ λ g. cc ]
    ] in
    by (is_too_long o x) (is_found_full a (sent a H x.number) looks x.number) h

to_all : (s : Bool) (w : Option End) (b : Bool) (every single : Reply) (to missed skipped : List ℕ) → (SentAll to missed skipped ≡ single → ⊥)
    → SentAll to missed skipped ≡ cond s Stopped (unless_ended w (cond b every single)) → (b ≡ true) × (SentAll to missed skipped ≡ every)
to_all true w b every single to missed skipped not_single h = cc
to_all false (Some k) b every single to missed skipped not_single h = cc
to_all false None true every single to missed skipped not_single h = (refl, h)
to_all false None false every single to missed skipped not_single h = absurd (not_single h)

-- the three lists of a reply together
abbrev all_lists : Reply → List ℕ
all_lists (SentAll to missed skipped) = to ++ missed ++ skipped
all_lists reply = []

both : (b k : Bool) → cond k (one_if b) 0 ≡ one_if (b && k)
both true true = refl
both true false = refl
both false true = refl
both false false = refl

pub one_of_three : (a : About) (H : List Entry) → Legal a H → OneOfThree a H
unfolding forward_reply
one_of_three a H legal e sender m to missed skipped c lawful is said =
    let o = out_of H sender m in
    let xs = meant H sender m in
    let long = λ (x : Connection). is_too_long o x in
    let full = λ (x : Connection). is_found_full a (sent a H x.number) e.looks x.number in
    let r = to_all (is_stopped H) (ended H sender) (is_broadcast m) (broadcast_reply a H o e.looks xs) (unicast_reply a H m o e.looks (holder H (destination m))) to missed skipped
    (single a H m o e.looks (holder H (destination m)) to missed skipped) (sym said ∙ lawful.replied ∙ ap (λ (call : Call). reply a H call e.looks) is) in
    let A = numbers (filter (λ (x : Connection). not (long x) && not (full x)) xs) in
    let B = numbers (filter (λ (x : Connection). not (long x) && full x) xs) in
    let C = numbers (filter (λ (x : Connection). long x) xs) in
    let lists : to ++ missed ++ skipped ≡ A ++ B ++ C = ap (λ (k : Reply). all_lists k) r.1 in
    let others : xs ≡ filter (λ x. not (x.number == sender)) (live H) = ap (λ (b : Bool). filter (λ x. cond b (not (x.number == sender)) (same_vmac x.who.vmac (destination m))) (live H)) r.0 in
    let twice = ap (λ (n : ℕ). often c A + n) (often-append c B C) in
    ap (often c) (lists ∙ append_assoc A B C) ∙ often-append c A (B ++ C) ∙ twice ∙ sorted c long full xs ∙ ap (λ (l : List Connection). often c (numbers l)) others
    ∙ but_sender c sender (live H) ∙ ap (λ (n : ℕ). cond (not (c == sender)) n 0) (once_found c (live H) (live_numbers a H legal)) ∙ both (is_live H c) (not (c == sender))
