-- What entered all outboxes of a legal history together is what its counts name as appended.
-- It serves the clauses of `appended_is_sent` and `run`.
use Rattle.std.proofs.Common.{◌≡◌, ◌≢◌, ◌≤◌, ◌<◌, ◌+◌, inl, inr, ℕ, zero, suc, ◌==◌, Bool, true, false, not, ◌&&◌, ◌||◌, cond, List, [], ◌∷◌, ◌++◌, length, drop, get_or, filter}
use Rattle.std.proofs.Common.{find, Option, Some, None, MatchOption, is_none, option_to_list, refl, ap, sym, ◌∙◌, subst, arith, append-nil, length-append, add-zero}
use Rattle.std.specs.Prelude.{nat_le}
use Rattle.std.specs.List.{AllByRecursion, count_by, range_with_len, sum_by}
use Rattle.std.proofs.lemmas.Bool.{eq-eqb, eqb-true, ne_eqb}
use Rattle.std.proofs.lemmas.List.Sums.{sum_by-cons, sum_by_push}
use Rattle.bsc_octets.specs.declared.identity.Identity.{Identity}
use Rattle.bsc_octets.specs.Addresses.{same_vmac}
use Rattle.bsc_octets.specs.Forwarding.{destination, is_broadcast}
use Rattle.bsc_history.specs.declared.call.Call.{Call}
use Rattle.bsc_history.specs.declared.call.Call.TheVariants.{Connect, Forward, Leave, Stop, Count}
use Rattle.bsc_history.specs.declared.connection.Connection.{Connection}
use Rattle.bsc_history.specs.declared.counts.Counts.{Counts}
use Rattle.bsc_history.specs.declared.ending.End.{End}
use Rattle.bsc_history.specs.declared.entry.Entry.{Entry}
use Rattle.bsc_history.specs.declared.limits.About.{About}
use Rattle.bsc_history.specs.declared.looks.Look.{Look}
use Rattle.bsc_history.specs.declared.reply.Refusal.TheVariants.{Stopped as RefusedStopped, Duplicate, TableFull}
use Rattle.bsc_history.specs.declared.reply.Reply.{Reply}
use Rattle.bsc_history.specs.declared.reply.Reply.TheVariants.{Joined, Refused, Appended, Closed, Skipped, Stopped}
use Rattle.bsc_history.specs.Counting.{appended_in, counts}
use Rattle.bsc_history.specs.Ends.{ended, first_end, joined, joined_where, live, unleft}
use Rattle.bsc_history.specs.Entries.{connection_of, made_by, moment}
use Rattle.bsc_history.specs.Holders.{holder, of_device}
use Rattle.bsc_history.specs.Laws.{Apart, is_among, names}
use Rattle.bsc_history.specs.Legality.{Lawful, Legal}
use Rattle.bsc_history.specs.Outboxes.{added, added_by, is_found_full, is_too_long, meant, means, out_of, sent}
use Rattle.bsc_history.specs.Replies.{broadcast_reply, connect_reply, forward_reply, is_stopped, numbers, number_of, refused_as_held, reply, rival, unicast_reply, unless_ended}
use Rattle.bsc_history.proofs.Fresh.{fresh_sent}
use Rattle.bsc_history.proofs.Lists.{Apart-filter, In, In-filter, find_says}
use Rattle.bsc_history.proofs.More.{along, counts-more, joined-more, sent-more}
use Rattle.bsc_history.proofs.Named.{adds_as_named}
use Rattle.bsc_history.proofs.Numbers.{live_numbers}
use Rattle.bsc_history.proofs.Uniqueness.{comes, settled}
use Rattle.bsc_history.proofs.Connections.{joined_in}
use Rattle.bsc_load.specs.Laws.{AppendedIsSent}

-- counts over lists

zero_add : (n : ℕ) → 0 + n ≡ n
zero_add n = omega arith

one_add : (n : ℕ) → 1 + n ≡ suc n
one_add n = omega arith

one_of_both : (p r : Bool) → (p ≡ true → r ≡ false) → cond (p || r) 1 0 ≡ cond p 1 0 + cond r 1 0
one_of_both true true apart = (let k : true ≡ false = apart refl in cc)
one_of_both true false apart = refl
one_of_both false true apart = refl
one_of_both false false apart = refl

module _ {X : Type 0} where
  none_counted : (xs : List X) → count_by (λ (x : X). false) xs ≡ 0
  none_counted [] = refl
  none_counted (x ∷ xs) = sum_by-cons (λ (y : X). cond false 1 0) x xs ∙ zero_add (count_by (λ (y : X). false) xs) ∙ none_counted xs

  count_or : (p r : X → Bool) (xs : List X) → ((x : X) → p x ≡ true → r x ≡ false) → count_by (λ x. p x || r x) xs ≡ count_by p xs + count_by r xs
  count_or p r [] apart = refl
  count_or p r (x ∷ xs) apart =
      let both = sum_by-cons (λ (y : X). cond (p y || r y) 1 0) x xs in
      let one = sum_by-cons (λ (y : X). cond (p y) 1 0) x xs in
      let two = sum_by-cons (λ (y : X). cond (r y) 1 0) x xs in
      omega (arith, both, one, two, one_of_both (p x) (r x) (apart x), count_or p r xs apart)

  sum_of_both : (f g h : X → ℕ) (xs : List X) → ((x : X) → f x ≡ g x + h x) → sum_by f xs ≡ sum_by g xs + sum_by h xs
  sum_of_both f g h [] same = refl
  sum_of_both f g h (x ∷ xs) same = omega (arith, sum_by-cons f x xs, sum_by-cons g x xs, sum_by-cons h x xs, same x, sum_of_both f g h xs same)

  sum_same : (f g : X → ℕ) (xs : List X) → ((x : X) → f x ≡ g x) → sum_by f xs ≡ sum_by g xs
  sum_same f g [] same = refl
  sum_same f g (x ∷ xs) same = sum_by-cons f x xs ∙ ap (λ (n : ℕ). n + sum_by f xs) (same x) ∙ ap (λ (n : ℕ). g x + n) (sum_same f g xs same) ∙ sym (sum_by-cons g x xs)

-- numbers in order

above : (xs : List Connection) (a n : ℕ) (x : Connection) → numbers xs ≡ range_with_len a n → In x xs → a ≤ x.number
above [] a n x are m = absurd m
above (y ∷ ys) a zero x are m = cc
above (y ∷ ys) a (suc n) x are (inl e) =
    let first : y.number ≡ a = ap (λ (l : List ℕ). get_or l 0 0) are in
    let same : y.number ≡ x.number = ap (λ (z : Connection). z.number) e in
    omega (arith, first, same)
above (y ∷ ys) a (suc n) x are (inr m) = (let k = above ys (a + 1) n x (ap (λ (l : List ℕ). drop 1 l) are) m in omega (arith, k))

none_below : (xs : List Connection) (a n k : ℕ) → numbers xs ≡ range_with_len a n → k < a → count_by (λ x. k == x.number) xs ≡ 0
none_below [] a n k are less = refl
none_below (y ∷ ys) a zero k are less = cc
none_below (y ∷ ys) a (suc n) k are less =
    let first : y.number ≡ a = ap (λ (l : List ℕ). get_or l 0 0) are in
    let other : (k == y.number) ≡ false = ne_eqb k y.number (λ e. absurd (omega (arith, e, first, less))) in
    sum_by-cons (λ (x : Connection). cond (k == x.number) 1 0) y ys ∙ ap (λ (b : Bool). cond b 1 0 + count_by (λ x. k == x.number) ys) other
    ∙ zero_add (count_by (λ x. k == x.number) ys) ∙ none_below ys (a + 1) n k (ap (λ (l : List ℕ). drop 1 l) are) (omega (arith, less))

-- the number of one of them stands once
once_there : (xs : List Connection) (a n : ℕ) (x : Connection) → numbers xs ≡ range_with_len a n → In x xs → count_by (λ y. x.number == y.number) xs ≡ 1
once_there [] a n x are m = absurd m
once_there (y ∷ ys) a zero x are m = cc
once_there (y ∷ ys) a (suc n) x are (inl e) =
    let first : y.number ≡ a = ap (λ (l : List ℕ). get_or l 0 0) are in
    let same : y.number ≡ x.number = ap (λ (z : Connection). z.number) e in
    sum_by-cons (λ (z : Connection). cond (x.number == z.number) 1 0) y ys ∙ ap (λ (b : Bool). cond b 1 0 + count_by (λ z. x.number == z.number) ys) (eq-eqb x.number y.number (sym same))
    ∙ ap (λ (k : ℕ). 1 + k) (none_below ys (a + 1) n x.number (ap (λ (l : List ℕ). drop 1 l) are) (omega (arith, first, same)))
once_there (y ∷ ys) a (suc n) x are (inr m) =
    let first : y.number ≡ a = ap (λ (l : List ℕ). get_or l 0 0) are in
    let later : a + 1 ≤ x.number = above ys (a + 1) n x (ap (λ (l : List ℕ). drop 1 l) are) m in
    sum_by-cons (λ (z : Connection). cond (x.number == z.number) 1 0) y ys
    ∙ ap (λ (b : Bool). cond b 1 0 + count_by (λ z. x.number == z.number) ys) (ne_eqb x.number y.number (λ e. absurd (omega (arith, e, first, later))))
    ∙ zero_add (count_by (λ z. x.number == z.number) ys) ∙ once_there ys (a + 1) n x (ap (λ (l : List ℕ). drop 1 l) are) m

-- numbers that are named, each once

not_among : (ys : List Connection) (n c : ℕ) → AllByRecursion (λ z. n ≢ z.number) ys → n ≡ c → is_among c (numbers ys) ≡ false
not_among [] n c apart same = refl
not_among (y ∷ ys) n c apart same =
    ap (λ (b : Bool). b || is_among c (numbers ys)) (ne_eqb y.number c (λ e. absurd (apart.0 (same ∙ sym e)))) ∙ not_among ys n c apart.1 same

among_once : (xs ys : List Connection) → ((y : Connection) → In y ys → count_by (λ x. y.number == x.number) xs ≡ 1) → Apart (λ (c : Connection). c.number) ys
    → count_by (λ x. is_among x.number (numbers ys)) xs ≡ length ys
among_once xs [] each apart = none_counted xs
among_once xs (y ∷ ys) each apart =
    count_or (λ (x : Connection). y.number == x.number) (λ (x : Connection). is_among x.number (numbers ys)) xs (λ x h. not_among ys y.number x.number apart.0 (eqb-true y.number x.number h))
    ∙ ap (λ (n : ℕ). n + count_by (λ x. is_among x.number (numbers ys)) xs) (each y (inl refl))
    ∙ ap (λ (n : ℕ). 1 + n) (among_once xs ys (λ z m. each z (inr m)) apart.1) ∙ one_add (length ys)

length_numbers : (ys : List Connection) → length (numbers ys) ≡ length ys
length_numbers [] = refl
length_numbers (y ∷ ys) = ap suc (length_numbers ys)

-- who holds an address is live
holder_live : (G : List Entry) (p : Connection → Bool) (c : Connection) → find p (live G) ≡ Some c → In c (live G)
holder_live G p c found =
    let says = find_says p (live G) in
    (subst (λ (o : Option Connection). MatchOption o ((x : Connection) → In x (live G) → p x ≡ false) (λ x. In x (live G) × (p x ≡ true))) found says).0

-- how many of those who joined a forward's reply names
module _ (a : About) (G : List Entry) (legal : Legal a G) where
  live_once : (y : Connection) → In y (live G) → count_by (λ x. y.number == x.number) (joined G) ≡ 1
  live_once y m = once_there (joined G) 1 (length (joined G)) y (settled a G legal).numbered (joined_in (λ c after. is_none (first_end c after)) G y m)

  named_all : (sender : ℕ) (m o : List ℕ) (looks : List Look) → count_by (λ x. names x.number (broadcast_reply a G o looks (meant G sender m))) (joined G)
      ≡ appended_in (broadcast_reply a G o looks (meant G sender m))
  named_all sender m o looks =
      let q = λ (c : Connection). not (is_too_long o c) && not (is_found_full a (sent a G c.number) looks c.number) in
      let ys = filter q (meant G sender m) in
      among_once (joined G) ys (λ y k. live_once y (In-filter (means m sender) y (live G) (In-filter q y (meant G sender m) k).0).0)
      (Apart-filter (λ (c : Connection). c.number) q (meant G sender m) (Apart-filter (λ (c : Connection). c.number) (means m sender) (live G) (live_numbers a G legal)))
      ∙ sym (length_numbers ys)

  named_one : (m o : List ℕ) (looks : List Look) (r : Option Connection) → ((c : Connection) → r ≡ Some c → In c (live G))
      → count_by (λ x. names x.number (unicast_reply a G m o looks r)) (joined G) ≡ appended_in (unicast_reply a G m o looks r)
  named_one m o looks None there = none_counted (joined G)
  named_one m o looks (Some c) there =
      let by : (l f : Bool) → count_by (λ x. names x.number (cond l (Skipped c.number) (cond f (Closed c.number) (Appended c.number)))) (joined G)
      ≡ appended_in (cond l (Skipped c.number) (cond f (Closed c.number) (Appended c.number))) =
      λ l f. elim l as (λ l. count_by (λ x. names x.number (cond l (Skipped c.number) (cond f (Closed c.number) (Appended c.number)))) (joined G)
      ≡ appended_in (cond l (Skipped c.number) (cond f (Closed c.number) (Appended c.number)))) [
        | true ↦ none_counted (joined G)
        | false ↦ elim f as (λ f. count_by (λ x. names x.number (cond f (Closed c.number) (Appended c.number))) (joined G)
            ≡ appended_in (cond f (Closed c.number) (Appended c.number))) [ true ↦ none_counted (joined G) | false ↦ live_once c (there c refl) ]
      ] in
      by (is_too_long o c) (is_found_full a (sent a G c.number) looks c.number)

  named_count : (sender : ℕ) (m : List ℕ) (looks : List Look) → count_by (λ x. names x.number (forward_reply a G sender m looks)) (joined G) ≡ appended_in (forward_reply a G sender m looks)
  unfolding forward_reply
  named_count sender m looks =
      let o = out_of G sender m in
      let P = λ (r : Reply). count_by (λ x. names x.number r) (joined G) ≡ appended_in r in
      let held : (c : Connection) → holder G (destination m) ≡ Some c → In c (live G) = λ c e. holder_live G (λ c. same_vmac c.who.vmac (destination m)) c e in
      let body : (b : Bool) → P (cond b (broadcast_reply a G o looks (meant G sender m)) (unicast_reply a G m o looks (holder G (destination m)))) =
      λ b. elim b as (λ b. P (cond b (broadcast_reply a G o looks (meant G sender m)) (unicast_reply a G m o looks (holder G (destination m))))) [
        | true ↦ named_all sender m o looks
        | false ↦ named_one m o looks (holder G (destination m)) held
      ] in
      let unended : (w : Option End) (r : Reply) → P r → P (unless_ended w r) = λ w r p. elim w as (λ w. P (unless_ended w r)) [ None ↦ p | Some k ↦ none_counted (joined G) ] in
      let by : (s : Bool) (r : Reply) → P r → P (cond s Stopped r) = λ s r p. elim s as (λ s. P (cond s Stopped r)) [ true ↦ none_counted (joined G) | false ↦ p ] in
      by (is_stopped G) (unless_ended (ended G sender) (cond (is_broadcast m) (broadcast_reply a G o looks (meant G sender m)) (unicast_reply a G m o looks (holder G (destination m)))))
      (unended (ended G sender) (cond (is_broadcast m) (broadcast_reply a G o looks (meant G sender m)) (unicast_reply a G m o looks (holder G (destination m)))) (body (is_broadcast m)))

-- one entry more

connect_appends_none : (a : About) (G : List Entry) (who : Identity) → appended_in (connect_reply a G who) ≡ 0
unfolding connect_reply
connect_appends_none a G who =
    let P = λ (r : Reply). appended_in r ≡ 0 in
    let rows : (b : Bool) (n : ℕ) (o : Option ℕ) → P (cond b (Refused (TableFull a.limits.rows)) (Joined n o)) =
    λ b n o. elim b as (λ b. P (cond b (Refused (TableFull a.limits.rows)) (Joined n o))) [ true ↦ refl | false ↦ refl ] in
    let held : (o : Option ℕ) (r : Reply) → P r → P (refused_as_held o r) = λ o r p. elim o as (λ o. P (refused_as_held o r)) [ None ↦ p | Some k ↦ refl ] in
    let own : (b : Bool) (r : Reply) → P r → P (cond b (Refused (Duplicate None)) r) = λ b r p. elim b as (λ b. P (cond b (Refused (Duplicate None)) r)) [ true ↦ refl | false ↦ p ] in
    let stopped : (b : Bool) (r : Reply) → P r → P (cond b (Refused RefusedStopped) r) = λ b r p. elim b as (λ b. P (cond b (Refused RefusedStopped) r)) [ true ↦ refl | false ↦ p ] in
    stopped (is_stopped G) _ (own (same_vmac who.vmac a.hub.vmac) _ (held (rival who (holder G who.vmac)) _
    (rows (nat_le a.limits.rows (length (unleft G))) (1 + length (joined G)) (number_of (of_device G who.device)))))

abbrev lengths : About → List Entry → Connection → ℕ
lengths a G x = length (sent a G x.number)

-- an entry that adds nothing
module _ (a : About) (G : List Entry) (e : Entry) (legal : Legal a G) (lawful : Lawful a (moment G e)) (before : AppendedIsSent a G) where
  appended_more : (n : ℕ) → appended_in e.reply ≡ n → (counts (G ++ e ∷ [])).appended ≡ (counts G).appended + n
  appended_more n is = ap (λ (k : Counts). k.appended) (counts-more G e) ∙ ap (λ (m : ℕ). (counts G).appended + m) is

  sent_same : ((c : ℕ) → added a (moment G e) (sent a G c) c ≡ []) → (c : ℕ) → sent a (G ++ e ∷ []) c ≡ sent a G c
  sent_same none c = sent-more a G e c ∙ ap (λ (l : List (List ℕ)). sent a G c ++ l) (none c) ∙ append-nil (sent a G c)

  -- who joins has an empty outbox
  joins_empty : (o : Option Connection) → connection_of e ≡ o → ((c : ℕ) → sent a (G ++ e ∷ []) c ≡ sent a G c)
      → sum_by (lengths a (G ++ e ∷ [])) (joined G ++ option_to_list o) ≡ sum_by (lengths a G) (joined G)
  joins_empty None is same = ap (sum_by (lengths a (G ++ e ∷ []))) (append-nil (joined G))
      ∙ sum_same (lengths a (G ++ e ∷ [])) (lengths a G) (joined G) (λ x. ap (λ (l : List (List ℕ)). length l) (same x.number))
  joins_empty (Some x) is same =
      let next = (comes a G e x lawful is).0 in
      let fresh : sent a G x.number ≡ [] = fresh_sent a G x.number legal (omega (arith, next)) in
      sum_by_push (lengths a (G ++ e ∷ [])) (joined G) x
      ∙ ap (λ (n : ℕ). n + lengths a (G ++ e ∷ []) x) (sum_same (lengths a (G ++ e ∷ [])) (lengths a G) (joined G) (λ y. ap (λ (l : List (List ℕ)). length l) (same y.number)))
      ∙ ap (λ (l : List (List ℕ)). sum_by (lengths a G) (joined G) + length l) (same x.number ∙ fresh)
      ∙ add-zero (sum_by (lengths a G) (joined G))

  law_quiet : appended_in e.reply ≡ 0 → ((c : ℕ) → added a (moment G e) (sent a G c) c ≡ []) → AppendedIsSent a (G ++ e ∷ [])
  law_quiet silent none =
      appended_more 0 silent ∙ add-zero ((counts G).appended) ∙ before
      ∙ sym (ap (sum_by (lengths a (G ++ e ∷ []))) (joined-more G e) ∙ joins_empty (connection_of e) refl (sent_same none))

  -- a forward adds one frame to each outbox that its reply names
  law_forward : (sender : ℕ) (m : List ℕ) → e.call ≡ Forward sender m → AppendedIsSent a (G ++ e ∷ [])
  law_forward sender m is =
      let o = out_of G sender m in
      let H = G ++ e ∷ [] in
      let r : e.reply ≡ forward_reply a G sender m e.looks = lawful.replied ∙ ap (λ (call : Call). reply a G call e.looks) is in
      let none : connection_of e ≡ None = ap (λ (c : Call). made_by e.caller c e.reply) is in
      let one : (b : Bool) → length (cond b (o ∷ []) []) ≡ cond b 1 0 = λ b. elim b as (λ b. length (cond b (o ∷ []) []) ≡ cond b 1 0) [ true ↦ refl | false ↦ refl ] in
      let grows : (x : Connection) → lengths a H x ≡ lengths a G x + cond (names x.number e.reply) 1 0 = λ x.
      ap (λ (l : List (List ℕ)). length l) (sent-more a G e x.number ∙ ap (λ (l : List (List ℕ)). sent a G x.number ++ l) (adds_as_named a G legal e sender m x.number lawful is))
      ∙ length-append (sent a G x.number) (cond (names x.number e.reply) (o ∷ []) []) ∙ ap (λ (n : ℕ). lengths a G x + n) (one (names x.number e.reply)) in
      let count : count_by (λ x. names x.number e.reply) (joined G) ≡ appended_in e.reply =
      subst (λ (q : Reply). count_by (λ x. names x.number q) (joined G) ≡ appended_in q) (sym r) (named_count a G legal sender m e.looks) in
      appended_more (appended_in e.reply) refl ∙ ap (λ (n : ℕ). n + appended_in e.reply) before ∙ ap (λ (n : ℕ). sum_by (lengths a G) (joined G) + n) (sym count)
      ∙ sym (sum_of_both (lengths a H) (lengths a G) (λ (x : Connection). cond (names x.number e.reply) 1 0) (joined G) grows)
      ∙ sym (ap (sum_by (lengths a H)) (joined-more G e ∙ ap (λ (o : Option Connection). joined G ++ option_to_list o) none ∙ append-nil (joined G)))

  law_more : (call : Call) → e.call ≡ call → AppendedIsSent a (G ++ e ∷ [])
  unfolding added_by
  law_more (Connect who) is = law_quiet
      (ap appended_in (lawful.replied ∙ ap (λ (call : Call). reply a G call e.looks) is) ∙ connect_appends_none a G who)
      (λ c. ap (λ (call : Call). added_by a G (sent a G c) c call e.looks) is)
  law_more (Forward sender m) is = law_forward sender m is
  law_more (Leave k t n) is = law_quiet (ap appended_in (lawful.replied ∙ ap (λ (call : Call). reply a G call e.looks) is)) (λ c. ap (λ (call : Call). added_by a G (sent a G c) c call e.looks) is)
  law_more Stop is = law_quiet (ap appended_in (lawful.replied ∙ ap (λ (call : Call). reply a G call e.looks) is)) (λ c. ap (λ (call : Call). added_by a G (sent a G c) c call e.looks) is)
  law_more Count is = law_quiet (ap appended_in (lawful.replied ∙ ap (λ (call : Call). reply a G call e.looks) is)) (λ c. ap (λ (call : Call). added_by a G (sent a G c) c call e.looks) is)

pub appended_is_sent : (a : About) (H : List Entry) → Legal a H → AppendedIsSent a H
unfolding joined_where counts
appended_is_sent a H legal = along a (AppendedIsSent a) refl (λ G e legalG before lawful. law_more a G e legalG lawful before e.call refl) H legal
